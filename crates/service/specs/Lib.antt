mod Words
pub mod Failing
pub mod Serving
pub mod Kept
pub mod Importing
pub mod Printing
pub mod Lending
pub mod ActsTold
