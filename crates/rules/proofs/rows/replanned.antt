-- What an act that plans makes of the rows that are reserved, item by item.
pub mod Known
pub mod Unreserved
pub mod Pairs
pub mod Fronts
pub mod Behind
pub mod Alike
pub mod Changed
pub mod OneItem
pub mod EachItem
pub mod PutUnits
