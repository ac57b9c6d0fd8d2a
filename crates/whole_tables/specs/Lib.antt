mod Words
pub mod Whole
pub mod Halves
pub mod Laws
pub mod Family
pub mod Same
pub mod Differing
pub mod Keys
