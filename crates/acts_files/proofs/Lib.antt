mod Words
mod Appended
mod Lines
mod Numbers
mod Read
pub mod TextParts
mod LineBytes
mod Tails
pub mod Own
pub mod Same
pub mod Opens
pub mod Left
mod Chunks
mod Few
pub mod Survive
