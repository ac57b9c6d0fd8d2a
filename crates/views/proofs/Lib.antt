mod Words
pub mod Walks
pub mod Sorting
pub mod Lists
pub mod Ranks
pub mod Members
pub mod LotsShown
pub mod LotsKept
pub mod QuantitiesShown
pub mod BinsShown
pub mod ShortShown
pub mod LinesShown
pub mod OrderShown
pub mod AllBinsShown
pub mod LotTotals
pub mod StockTold
pub mod Service
pub mod ShortsShown
pub mod ShortByUnits
pub mod ShortsServed
pub mod FirstInOrder
mod OrderSums
pub mod OpenPage
mod OpenUnits
pub mod OpenShown
pub mod OpenOnce
pub mod ExpiringPage
mod ExpiringShown
pub mod NamesPage
pub mod NamesShown
mod ByItem
pub mod BinPage
mod BinShown
mod LineItems
mod PicksShown
mod Counting
mod FiguresShown
