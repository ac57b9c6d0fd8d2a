-- What printing a text of a lot comes to.
use Rattle.std.specs.Prelude.{◌≡◌, ℕ, List, Option, Result, Ok, Err, ℤ}
use Rattle.values.specs.declared.lot.LotId.{LotId}
use Rattle.service.specs.Words.{Ghosts, Held, Act, Connected, Fault, Refused, Io, Store, Foreign}
use Rattle.commands.specs.declared.refusal.Refusal.{Refusal}
use Rattle.machine.specs.Queries.{card_shown, notice_shown}
use Rattle.texts.specs.Card.{card_text}
use Rattle.texts.specs.Notice.{notice_text}
use Rattle.store.specs.declared.fault.Fault.TheVariants as books
use Rattle.store.specs.declared.each_fault.EachFault.{EachFault}
use Rattle.store.specs.declared.each_fault.EachFault.TheVariants as each
use Rattle.house.specs.LotTexts.{Tells}
use Rattle.service.specs.declared.books_lines.Sheet.{Sheet}
use Rattle.service.specs.declared.books_lines.Sheet.TheVariants.{Card, Notice}

-- how the writing of a text went, as the line tells it
abbrev pub told_as : Result Unit EachFault → Result Unit Fault
told_as (Ok done) = Ok done
told_as (Err (each.Fault (books.Refused why))) = Err (Refused why)
told_as (Err (each.Fault books.Store)) = Err Store
told_as (Err (each.Fault books.Foreign)) = Err Foreign
told_as (Err each.Stopped) = Err Io

-- the whole text of what is shown was printed, or it is refused and nothing was printed; or a beginning was printed, where memory,
-- the disk or the output failed
abbrev pub IsPrinted : {S V : Type 0} → Ghosts S → ℤ → List Act → (V → List ℕ) → Result V Refusal → (was books : Connected S) → (old new : Option (List ℕ)) → Result Unit Fault → Type 0
IsPrinted g first acts text shown was books old new result = (end : Result Unit EachFault) × Tells g first acts text shown was books old new end × (result ≡ told_as end)

-- of the sheet that is asked for
abbrev pub IsSheetPrinted : {S : Type 0} → Ghosts S → ℤ → List Act → Sheet → LotId → (was books : Connected S) → (old new : Option (List ℕ)) → Result Unit Fault → Type 0
IsSheetPrinted g first acts Card lot was books old new result = IsPrinted g first acts card_text (card_shown first acts lot) was books old new result
IsSheetPrinted g first acts Notice lot was books old new result = IsPrinted g first acts notice_text (notice_shown first acts lot) was books old new result

-- the same of books that were opened and closed again, whose connection is left
abbrev pub LeavesSheet : {S : Type 0} → Ghosts S → ℤ → List Act → Sheet → LotId → (old new : Option (List ℕ)) → Result Unit Fault → Held S → Type 0
LeavesSheet {S} g first acts sheet lot old new result conn = (was : Connected S) × (books : Connected S) × (conn ≡ books.conn) × IsSheetPrinted g first acts sheet lot was books old new result
