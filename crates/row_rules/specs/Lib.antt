mod Words
pub mod Seen
pub mod Status
pub mod SeenOrders
pub mod OpenLines
pub mod Plans
pub mod Replanning
pub mod Apart
pub mod LookUps
pub mod Indexed
pub mod Between
pub mod SeenLots
pub mod SeenStages
