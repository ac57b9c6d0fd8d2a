pub mod Comparing
pub mod Halves
pub mod Beginning
pub mod Raising
pub mod Auditing
