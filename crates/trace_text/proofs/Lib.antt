mod Written
pub mod IdLists
