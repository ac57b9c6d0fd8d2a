pub mod Kept
pub mod Torn
pub mod Newer
pub mod Faults
pub mod KeptActs
pub mod Opened
