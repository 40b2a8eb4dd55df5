pub mod Limits
pub mod Echoes
pub mod Results
pub mod Reading
pub mod Printed
