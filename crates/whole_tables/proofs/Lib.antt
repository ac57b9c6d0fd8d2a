mod Words
pub mod Wholes
pub mod Handing
pub mod Halving
pub mod Calls
pub mod Above
pub mod Owned
pub mod Deciding
pub mod Parting
