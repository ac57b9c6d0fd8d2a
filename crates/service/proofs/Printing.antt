-- What is left of books of which a text was printed, and what a writer that was lent for it holds.
use Rattle.service.proofs.Words.{◌≡◌, List, [], Ok, Err, Result, Option, ℕ, ℤ, Ghosts, LotId, Refusal, Act, card_shown, notice_shown, card_text, notice_text, Connected, HoldsBooks, EachFault, Stopped, Fault as LineFault, shown_text, behind, IsPrinted, IsSheetPrinted, told_as, Sheet, Card, Notice}
use Rattle.store.specs.declared.fault.Fault.TheVariants.{Refused, Store, Foreign}
use Rattle.store.specs.declared.each_fault.EachFault.TheVariants.{Fault}
use Rattle.house.specs.LotTexts.{Tells}
use Rattle.service.proofs.Lending.{appended, begun}

module _ {S V : Type 0} (g : Ghosts S) (first : ℤ) (acts : List Act) (text : V → List ℕ) (shown : Result V Refusal) (was books : Connected S) where
  held : (old new : Option (List ℕ)) (r : Result Unit EachFault) → Tells g first acts text shown was books old new r → HoldsBooks g first acts books
  held old new (Ok done) h = (h.3).holds
  held old new (Err (Fault (Refused why))) h = (h.2).holds
  held old new (Err (Fault Store)) h = (h.1).holds
  held old new (Err (Fault Foreign)) h = absurd h
  held old new (Err Stopped) h = (h.3).holds

  pub still_held : (old new : Option (List ℕ)) (r : Result Unit LineFault) → IsPrinted g first acts text shown was books old new r → HoldsBooks g first acts books
  still_held old new r h = held old new h.0 h.1

  -- the text was told to a writer that was lent
  module _ (name other : ℕ) (out back last : Option (List ℕ)) (same : name ≡ other → last ≡ back) where
    told_back : (end : Result Unit EachFault) → Tells g first acts text shown was books (behind name out) (behind other back) end → Tells g first acts text shown was books out last end
    told_back (Ok done) h = (h.0, h.1, appended name other back last same out (text h.0) h.2, h.3)
    told_back (Err (Fault (Refused why))) h = (h.0, appended name other back last same out [] h.1, h.2)
    told_back (Err (Fault Store)) h = (begun name other back last same out (shown_text text shown) h.0, h.1)
    told_back (Err (Fault Foreign)) h = absurd h
    told_back (Err Stopped) h = (h.0, h.1, begun name other back last same out (text h.0) h.2, h.3)

    pub printed_back : (end : Result Unit EachFault) (r : Result Unit LineFault) → Tells g first acts text shown was books (behind name out) (behind other back) end → r ≡ told_as end
        → IsPrinted g first acts text shown was books out last r
    printed_back end r h is = (end, told_back end h, is)

pub sheet_held : {S : Type 0} (g : Ghosts S) (first : ℤ) (acts : List Act) (sheet : Sheet) (lot : LotId) (was books : Connected S) (old new : Option (List ℕ)) (r : Result Unit LineFault)
    → IsSheetPrinted g first acts sheet lot was books old new r → HoldsBooks g first acts books
sheet_held g first acts Card lot was books old new r h = still_held g first acts card_text (card_shown first acts lot) was books old new r h
sheet_held g first acts Notice lot was books old new r h = still_held g first acts notice_text (notice_shown first acts lot) was books old new r h
