-- Tables that find the same are one.
use Rattle.std.specs.Prelude.{◌≡◌, Bool, true, false, List, ℤ}
use Rattle.std.specs.List.{list_any}
use Rattle.commands.specs.declared.command.Command.{Command}
use Rattle.commands.specs.declared.command.Command.TheVariants.{OpenDay}
use Rattle.machine.specs.Acts.{Act}
use Rattle.machine.specs.Standing.{today}
use Rattle.machine.specs.Tables.{Tables}
use Rattle.whole_tables.specs.declared.key.TableName.{TableName}
use Rattle.whole_tables.specs.Family.{Key, look}

-- each look-up of the one finds what that of the other finds
abbrev pub FindTheSame : Tables → Tables → Type 0
FindTheSame a b = (n : TableName) (k : Key n) → look n a k ≡ look n b k

abbrev pub OneTables : Type 0
OneTables = (a b : Tables) → FindTheSame a b → a ≡ b

-- The starting day

abbrev pub is_opening : Command → Bool
is_opening (OpenDay day) = true
is_opening _ = false

abbrev pub has_opening : List Act → Bool
has_opening acts = list_any (λ a. is_opening a.command) acts

-- where no day was opened, the business day is the one that the books began on
abbrev pub StillTheFirstDay : Type 0
StillTheFirstDay = (first : ℤ) (acts : List Act) → has_opening acts ≡ false → today first acts ≡ first
