pub mod Days
pub mod Expiry
pub mod Labels
pub mod Reading
