mod Words
pub mod Plans
pub mod ListLemmas
pub mod ScanLemmas
pub mod WriteLemmas
pub mod KeyLemmas
pub mod CellLemmas
pub mod StepLemmas
pub mod CallLemmas
mod Eight
