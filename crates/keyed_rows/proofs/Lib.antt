mod Words
pub mod Laws
pub mod Writing
pub mod Above
pub mod HandedSoFar
pub mod Rising
pub mod Keys
pub mod OrderedScans
pub mod Over
