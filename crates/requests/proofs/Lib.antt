mod Words
pub mod HeadEnds
pub mod Json
pub mod Asked
pub mod Lines
pub mod Slashes
pub mod Readings
pub mod OneReading
pub mod LongerTexts
pub mod Examples
