mod Words
pub mod Writes
pub mod Described
pub mod Asks
pub mod KeyLaws
pub mod AskedLaws
pub mod Mapped
pub mod Reads
pub mod Handed
pub mod Ordered
