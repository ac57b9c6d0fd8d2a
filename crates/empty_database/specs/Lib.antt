pub mod File
pub mod Clean
