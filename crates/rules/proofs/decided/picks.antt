-- Units picked and put back.
pub mod PickJudged
pub mod PickDecided
pub mod UnpickJudged
pub mod UnpickDecided
