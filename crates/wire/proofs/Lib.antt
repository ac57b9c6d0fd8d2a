mod Words
pub mod Adding
pub mod Texts
pub mod ShortTexts
pub mod Codes
pub mod Examples
pub mod Bounded
pub mod ReadOn
pub mod WriteOut
pub mod LogLines
