mod Words
pub mod MetaLemmas
pub mod RaiseLemmas
mod DroppedRows
mod FilledRows
mod FilledLines
pub mod CardsByAct
