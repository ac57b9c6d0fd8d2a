mod Below
pub mod Appending
pub mod Naming
pub mod Digits
pub mod Joining
pub mod Printing
pub mod OneText
pub mod Fields
pub mod OneSpelling
pub mod Worked
pub mod AsciiTexts
pub mod Handing
