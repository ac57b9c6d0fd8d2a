mod Words
pub mod OneRow
pub mod ByCommand
pub mod PlanKept
pub mod rows
pub mod decided
mod OlderLimits
mod ExampleOrderDecisions
mod ExampleReplanning
