mod Words
pub mod Ending
pub mod Creation
pub mod Opening
pub mod Causes
pub mod Layouts
pub mod Growing
pub mod Keeping
pub mod Settling
pub mod Older
pub mod Bringing
pub mod Orderly
