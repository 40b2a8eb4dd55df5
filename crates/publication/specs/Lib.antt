pub mod Publications
