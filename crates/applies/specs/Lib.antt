mod Words
pub mod Begun
pub mod Fields
pub mod Going
pub mod Lines
pub mod Known
pub mod Applying
pub mod Taken
pub mod Laws
