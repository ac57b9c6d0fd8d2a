mod Words
pub mod FileFacts
pub mod RowFacts
pub mod Steps
pub mod Worked
