-- The acts that say from which expiry on lots ship: the opening of a day, and the days that an item asks for.
pub mod LotsOut
pub mod RowsOut
pub mod ReplyOut
pub mod DayJudged
pub mod DayDecided
pub mod LeastJudged
pub mod LeastDecided
