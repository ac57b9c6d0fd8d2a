mod Words
pub mod Acts
pub mod FirstReceipt
pub mod InTurn
pub mod Walking
pub mod Printed
pub mod Begun
pub mod Kept
pub mod Twice
pub mod Above
pub mod Rows
pub mod Walk
pub mod Ends
pub mod Bearing
