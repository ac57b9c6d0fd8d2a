pub mod Padded
pub mod Values
pub mod Faults
pub mod Packed
