-- What a repeated key is told.
use Rattle.std.specs.Prelude.{◌≡◌, ◌⊎◌, ℕ, true, false, List, Result, Ok, Err}
use Rattle.store.specs.Words.{same_text, RepeatRow}
use Rattle.commands.specs.declared.refusal.Refusal.TheVariants.{KeyUsed}
use Rattle.store.specs.declared.reply.Reply.{Reply}
use Rattle.store.specs.declared.fault.Fault.{Fault}
use Rattle.store.specs.declared.fault.Fault.TheVariants.{Refused, Store}

-- the kept answer to the same spelling, K01 to another
abbrev pub IsToldAgain : List ℕ → RepeatRow → Result Reply Fault → Type 0
IsToldAgain spelled row (Ok reply) = (same_text spelled row.spell ≡ true) × (reply ≡ record { text = row.reply; repeated = true })
IsToldAgain spelled row (Err fault) = (fault ≡ Store) ⊎ ((fault ≡ Refused KeyUsed) × (same_text spelled row.spell ≡ false))
