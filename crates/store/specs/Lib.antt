mod Words
pub mod Faults
pub mod Inside
pub mod Acting
pub mod Filing
pub mod Answers
pub mod Connected
pub mod Books
pub mod Opening
pub mod Showing
pub mod Queries
pub mod Heads
pub mod EachFaults
pub mod Handing
pub mod ActRows
pub mod Knowing
pub mod Fitting
