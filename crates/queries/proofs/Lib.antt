mod Words
pub mod OrdersTold
pub mod OrderRight
pub mod StockRight
pub mod ShortRight
pub mod OpenRight
pub mod NamesEnough
pub mod KnownTold
pub mod Asked
mod NamesRight
mod ExpiringRight
mod BinRight
pub mod CardOrder
pub mod ShipmentOrder
pub mod ShipmentCards
pub mod CardRead
pub mod ShippedTold
pub mod NoticeRight
pub mod Telling
mod Slashes
mod OrdersSorted
mod OfItem
mod StagesTold
mod TraceRight
mod PicksRight
mod FiguresRight
