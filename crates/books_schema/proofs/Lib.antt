mod Words
pub mod Texts
pub mod EndLemmas
pub mod GrowLemmas
pub mod CreateLemmas
pub mod OpenLemmas
pub mod NeverRun
pub mod TextsRead
pub mod SettleLemmas
pub mod DropLemmas
pub mod DropTexts
pub mod BringLemmas
