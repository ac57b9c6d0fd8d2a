mod Words
pub mod Telling
pub mod InHalves
pub mod Tables
pub mod Unreplayed
pub mod Beginning
pub mod Findings
pub mod Raised
