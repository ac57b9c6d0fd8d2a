pub mod Faults
pub mod Files
pub mod Reading
pub mod Rows
