-- Counts and adjustments.
pub mod Written
pub mod CountJudged
pub mod CountDecided
pub mod AdjustJudged
pub mod AdjustDecided
