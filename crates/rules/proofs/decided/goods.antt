-- Goods received and moved.
pub mod ReceiveLots
pub mod ReceiveJudged
pub mod ReceiveDecided
pub mod MoveJudged
pub mod MovesDecided
