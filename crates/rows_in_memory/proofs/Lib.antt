mod Words
pub mod Truths
pub mod Names
pub mod Lookups
pub mod Stepping
pub mod KeysOnce
pub mod KeysSeen
pub mod NamesOnce
pub mod Learned
pub mod Maps
pub mod Weights
