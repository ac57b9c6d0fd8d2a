mod Words
pub mod LineFields
pub mod Texts
pub mod Wants
pub mod Loop
pub mod Passed
pub mod Walked
pub mod BegunDays
pub mod Fronts
pub mod FittingDays
pub mod LineLengths
pub mod Meeting
pub mod NextLine
pub mod WalkEnds
pub mod Standby
pub mod Taken
