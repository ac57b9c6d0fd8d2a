mod Words
pub mod Failing
pub mod Serving
pub mod Importing
pub mod Lending
pub mod Printing
pub mod ActsPrinted
