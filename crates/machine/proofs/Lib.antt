mod Words
pub mod Tests
pub mod Numbers
pub mod Apart
pub mod Mapping
pub mod histories
pub mod examples
