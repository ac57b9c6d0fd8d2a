pub mod FirstPage
pub mod Lines
pub mod Opened
pub mod Program
