mod Words
pub mod GoingIn
pub mod ManyAdded
pub mod Parts
pub mod TableWritten
pub mod ChangeWritten
