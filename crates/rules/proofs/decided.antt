-- That each command is decided as the machine decides it.
pub mod Decisions
pub mod SetupDecided
pub mod goods
pub mod counts
pub mod orders
pub mod picks
pub mod lots
pub mod days
pub mod EveryCommand
pub mod Posted
