mod Words
pub mod Acts
pub mod Postings
pub mod Standing
pub mod Ledger
pub mod Planning
pub mod Verdict
pub mod Replies
pub mod Once
pub mod Cards
pub mod Tables
pub mod Schemas
pub mod KeyedRows
pub mod Machine
pub mod Views
pub mod Touched
pub mod Laws
pub mod Queries
