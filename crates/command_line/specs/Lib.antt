pub mod Audits
pub mod Applying
pub mod Lines
pub mod Statuses
pub mod Ends
pub mod Program
pub mod Words
