-- What comes of writing the stock card or the recall notice of a lot.
use Rattle.std.specs.Prelude.{◌≡◌, ℕ, ℤ, List, [], Option, Result, Ok, Err}
use Rattle.std.specs.Io.KnownBytes.{Appends}
use Rattle.house.specs.Words.{LotId, Refusal, Ghosts, Trees, Act, AppendsBeginning, Answer, Text, Connected, HoldsBooks, MayLeave, Fault as StoreFault, Store, Foreign}
use Rattle.commands.specs.declared.rows.ItemRow.{ItemRow}
use Rattle.commands.specs.declared.views.CardView.{CardView}
use Rattle.machine.specs.Cards.{lot_units_in_house}
use Rattle.machine.specs.Views.{card_of_lot}
use Rattle.texts.specs.declared.fault.TextFault.{TextFault}
use Rattle.store.specs.declared.fault.Fault.TheVariants.{Refused}
use Rattle.store.specs.declared.each_fault.EachFault.{EachFault}
use Rattle.store.specs.declared.each_fault.EachFault.TheVariants.{Fault, Stopped}

-- the card of a lot with this head
abbrev pub card_from : ℤ → List Act → LotId → ItemRow → ℤ → CardView
card_from first acts l item expiry = record { item = item; lot = l.lot; expiry = expiry; lines = card_of_lot first acts l; in_house = lot_units_in_house first acts l }

-- the books are still those of the acts, and a stop leaves what it left before
pub record Stays {S : Type 0} (g : Ghosts S) (first : ℤ) (acts : List Act) (old new : Connected S) : Type 0 where
  pub holds : HoldsBooks g first acts new
  pub kept : (trees : Trees) → MayLeave g new trees → MayLeave g old trees

-- the text was written, or, where memory, the disk or the writer did not suffice, a beginning of it
abbrev pub Puts : {S X : Type 0} → Ghosts S → ℤ → List Act → List ℕ → (was books : Connected S) → (old new : Option (List ℕ)) → Result X EachFault → Type 0
Puts g first acts text was books old new (Ok x) = Appends old new text × Stays g first acts was books
Puts g first acts text was books old new (Err (Fault (Refused why))) = ⊥
Puts g first acts text was books old new (Err (Fault Store)) = AppendsBeginning old new text × Stays g first acts was books
Puts g first acts text was books old new (Err (Fault Foreign)) = ⊥
Puts g first acts text was books old new (Err Stopped) = AppendsBeginning old new text × Stays g first acts was books

-- the text of what is shown; nothing where that is refused
abbrev pub shown_text : {V : Type 0} → (V → List ℕ) → Result V Refusal → List ℕ
shown_text text (Ok view) = text view
shown_text text (Err why) = []

-- the whole text of what is shown was written, or it is refused and nothing was written, or a beginning was written where memory,
-- the disk or the writer did not suffice
abbrev pub Tells : {S V : Type 0} → Ghosts S → ℤ → List Act → (V → List ℕ) → Result V Refusal → (was books : Connected S) → (old new : Option (List ℕ)) → Result Unit EachFault → Type 0
Tells {S} {V} g first acts text shown was books old new (Ok done) = (view : V) × (shown ≡ Ok view) × Appends old new (text view) × Stays g first acts was books
Tells g first acts text shown was books old new (Err (Fault (Refused why))) = (shown ≡ Err why) × Appends old new [] × Stays g first acts was books
Tells g first acts text shown was books old new (Err (Fault Store)) = AppendsBeginning old new (shown_text text shown) × Stays g first acts was books
Tells g first acts text shown was books old new (Err (Fault Foreign)) = ⊥
Tells {S} {V} g first acts text shown was books old new (Err Stopped) = (view : V) × (shown ≡ Ok view) × AppendsBeginning old new (text view) × Stays g first acts was books

-- a writer that failed is a stop
abbrev pub stopped_at : Result Unit TextFault → Result Unit EachFault
stopped_at (Ok done) = Ok done
stopped_at (Err fault) = Err Stopped

-- the answer that the bytes of a text are; a writer in memory fails for want of that
abbrev pub text_answer : List ℕ → Result Unit EachFault → Result Answer StoreFault
text_answer bytes (Ok done) = Ok (Text bytes)
text_answer bytes (Err (Fault fault)) = Err fault
text_answer bytes (Err Stopped) = Err Store
