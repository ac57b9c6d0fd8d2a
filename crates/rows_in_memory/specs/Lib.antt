pub mod OpenLines
pub mod Parts
pub mod Keys
pub mod LotOrder
pub mod LineOrder
pub mod NameOrder
pub mod Keyed
pub mod KnownRows
