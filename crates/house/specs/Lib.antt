mod Words
pub mod Answers
pub mod Asking
pub mod House
pub mod Keeping
pub mod Laws
pub mod LotTexts
pub mod Serving
