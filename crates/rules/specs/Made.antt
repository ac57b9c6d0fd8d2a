-- What comes of a decision: a refusal, or a change.
use Rattle.std.specs.Prelude.{◌≡◌}
use Rattle.rules.specs.Words.{Option, Some, None, Result, Ok, Err, Refusal, Change, RuleFault, Refused, NoMemory}

-- a refusal is told; otherwise the change is made, but for want of memory
abbrev pub IsMade : Option Refusal → Change → Result Change RuleFault → Type 0
IsMade (Some why) change result = result ≡ Err (Refused why)
IsMade None change (Ok made) = made ≡ change
IsMade None change (Err fault) = fault ≡ NoMemory
