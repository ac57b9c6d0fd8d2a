pub mod Padding
pub mod DigitTexts
pub mod Turned
pub mod Packing
