mod Words
pub mod DayNumbers
pub mod DayTexts
pub mod ExpiryRule
pub mod OnLiterals
pub mod FaultOrder
pub mod LotEnds
pub mod Elements
pub mod FirstElement
pub mod SoundBody
pub mod ArrangedBody
pub mod Prefixes
pub mod Grammar
pub mod ReadLaws
pub mod ElementLemmas
pub mod Agreement
pub mod DateExamples
pub mod Worked
