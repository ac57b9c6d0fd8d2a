-- Units written on to a bin, or off it: what is changed is the change of the act.
use Rattle.rules.proofs.Words.{◌≡◌, ℕ, suc, Bool, true, false, ◌&&◌, List, [], ◌∷◌, ◌++◌, refl, ap, sym, subst, ◌∙◌, arith, zero, ◌==◌, if◌then◌else◌, nat_le, length, codes, decimal, flat_map, ℤ, pos, negsuc, int_lt, nat_tests, lt-ltb, LotId, ACTS_MAX, Command, CardKind, WriteOn, WrittenOff, CardRow, StockRow, StagedRow, Act, next_number, InBin, WriteOff, is_lot, of_item, today, posting, postings_of, written, taken_off, put_on, card_lines, lot_units_in_house, further_field, change_field, IsHistory, tables_of, is_touched, no_two, IsSlice, plans, names_bin, names_lot, lot_units, Slice, stages, rows_posted, listed, stock_after, staged_after, written_told, correction_card, correction_cards, correction_facts, corrections, append_none, same_text_refl, is_lot_item, room_for_acts}
use Rattle.rules.specs.declared.posting.Place.TheVariants as told
use Rattle.rules.proofs.rows.LotUnits.{lot_units_told}
use Rattle.rules.proofs.rows.PostedRows.{Each, each_once, MakesNothingKnown, PutsLots}
use Rattle.rules.proofs.decided.Decisions.{IsChange, day_seen, number_same}
use Rattle.rules.proofs.decided.Posted.{IsOwn, IsPosted, IsPlanned, AreFacts, stays_staged, posted_once, planned_changed, stock_then, staged_then, lots_stay}

pub written_as : (n : ℕ) (l : LotId) (b : List ℕ) (z : ℤ) → written n l b z ≡ posting n l WriteOff (InBin b) (put_on z) ++ posting n l (InBin b) WriteOff (taken_off z)
written_as n l b (pos k) = sym (append_none (posting n l WriteOff (InBin b) k))
written_as n l b (negsuc k) = refl

-- One posting, on or off

written_posted : (first : ℤ) (acts : List Act) (act : Act) (next : IsHistory first (act ∷ acts)) (l : LotId) (b : List ℕ) → MakesNothingKnown first act acts → (z : ℤ)
    → postings_of first act acts ≡ written (next_number acts) l b z → IsPosted first acts act (written_told l b z)
written_posted first acts act next l b known (pos k) e = posted_once first acts act next l told.WriteOff (told.InBin b) k e refl refl known
written_posted first acts act next l b known (negsuc k) e = posted_once first acts act next l (told.InBin b) told.WriteOff (suc k) e refl refl known

written_stays : (l : LotId) (b : List ℕ) (z : ℤ) (rows : List StagedRow) → rows_posted stages (listed 0 (written_told l b z)) rows ≡ rows
written_stays l b (pos k) rows = stays_staged l told.WriteOff (told.InBin b) k rows refl refl
written_stays l b (negsuc k) rows = stays_staged l (told.InBin b) told.WriteOff (suc k) rows refl refl

written_own : (command : Command) (n : ℕ) (l : LotId) (b : List ℕ) → names_lot command l ≡ true → names_bin command b ≡ true → (z : ℤ) → Each (IsOwn command l.gtin) (written n l b z)
written_own command n l b lot bin (pos k) = each_once (IsOwn command l.gtin) n l WriteOff (InBin b) k (record { of_own = same_text_refl l.gtin; lot = lot; from_named = refl; to_named = bin })
written_own command n l b lot bin (negsuc k) = each_once (IsOwn command l.gtin) n l (InBin b) WriteOff (suc k) (record { of_own = same_text_refl l.gtin; lot = lot; from_named = bin; to_named = refl })

-- the act writes z units of a lot on to a bin, or off it
pub record Writes (first : ℤ) (act : Act) (acts : List Act) (l : LotId) (b : List ℕ) (z : ℤ) : Type 0 where
  pub posts : postings_of first act acts ≡ written (next_number acts) l b z
  pub known : MakesNothingKnown first act acts
  pub lots : PutsLots acts act []
  pub text : further_field first act acts act.command ≡ change_field z
  pub touched : (g : List ℕ) → is_touched first act acts g ≡ of_item g l
  pub planned : plans act.command ≡ true
  pub named : names_bin act.command b ≡ true
  pub named_lot : names_lot act.command l ≡ true

module _ (first : ℤ) (acts : List Act) (act : Act) (s : Slice) (slice : IsSlice first act acts (tables_of first acts) s) (next : IsHistory first (act ∷ acts))
    (l : LotId) (b : List ℕ) (z : ℤ) (writes : Writes first act acts l b z) where
  abbrev after : List Act
  after = act ∷ acts

  abbrev g : List ℕ
  g = l.gtin

  abbrev n : ℕ
  n = next_number acts

  room : nat_le ACTS_MAX (length acts) ≡ false
  room = room_for_acts first acts act.command next.1.passes

  posted : IsPosted first acts act (written_told l b z)
  posted = written_posted first acts act next l b writes.known z writes.posts

  planned : IsPlanned first acts act g
  planned = record {
    own = subst (Each (IsOwn act.command g)) (sym writes.posts) (written_own act.command n l b writes.named_lot writes.named z);
    planned = writes.planned;
    touches = writes.touched;
  }

  -- The card line

  abbrev written_card : CardKind → ℤ → CardRow
  written_card kind q = record { lot = l; act = n; day = today first after; kind = kind; note = b; qty = q; rest = lot_units_in_house first after l }

  abbrev written_cards : ℤ → List CardRow
  written_cards q = if int_lt (pos 0) q then written_card WriteOn q ∷ [] else (if int_lt q (pos 0) then written_card WrittenOff q ∷ [] else [])

  cards_written : (q : ℤ) → flat_map (λ p. card_lines first act acts p p.from p.to) (written n l b q) ≡ written_cards q
  cards_written (pos zero) = refl
  cards_written (pos (suc k)) =
      let none : (suc k == 0) ≡ false = grind (arith, nat_tests) in
      let more : int_lt (pos 0) (pos (suc k)) ≡ true = lt-ltb 0 (suc k) (omega arith) in
      ap (λ t. flat_map (λ p. card_lines first act acts p p.from p.to) (if t then [] else record { act = n; lot = l; from = WriteOff; to = InBin b; qty = suc k } ∷ [])) none
      ∙ sym (ap (λ t. if t then written_card WriteOn (pos (suc k)) ∷ [] else (if int_lt (pos (suc k)) (pos 0) then written_card WrittenOff (pos (suc k)) ∷ [] else [])) more)
  cards_written (negsuc k) =
      let none : (suc k == 0) ≡ false = grind (arith, nat_tests) in
      ap (λ t. flat_map (λ p. card_lines first act acts p p.from p.to) (if t then [] else record { act = n; lot = l; from = InBin b; to = WriteOff; qty = suc k } ∷ [])) none

  abbrev stock : List StockRow
  stock = stock_after s (written_told l b z)

  stays : staged_after s (written_told l b z) ≡ s.rows.staged
  stays = written_stays l b z s.rows.staged

  rest_same : lot_units l stock s.rows.staged ≡ lot_units_in_house first after l
  rest_same =
      lot_units_told first after next g l (same_text_refl g) stock s.rows.staged (λ k. of_item g k.0) (λ k. true) (λ k. of_item g k.1) (λ k. true)
      (stock_then first acts act s slice next (written_told l b z) posted g planned s.rows.staged stays) (staged_then first acts act s slice next (written_told l b z) posted g planned s.rows.staged stays) (λ m c e. is_lot_item l m e) (λ m o e. is_lot_item l m e)

  card_same : (kind : CardKind) → correction_card s l b z kind stock ≡ written_card kind z
  card_same kind = λ i. record { lot = l; act = number_same first acts act s slice room i; day = (day_seen first acts act s slice ∙ sym writes.known.day) i; kind = kind; note = b; qty = z; rest = rest_same i }

  abbrev lines : List CardRow
  lines = correction_cards s l b z stock

  cards_same : lines ≡ written_cards z
  cards_same = λ i. if int_lt (pos 0) z then card_same WriteOn i ∷ [] else (if int_lt z (pos 0) then card_same WrittenOff i ∷ [] else [])

  cards_once : (t u : Bool) (c d : CardRow) → no_two (λ (q r : CardRow). is_lot q.lot r.lot && (q.act == r.act)) (if t then c ∷ [] else (if u then d ∷ [] else [])) ≡ true
  cards_once true u c d = refl
  cards_once false true c d = refl
  cards_once false false c d = refl

  facts : AreFacts first acts act (correction_facts s l b z stock)
  facts = record {
    lots = writes.lots;
    cards = ap (flat_map (λ p. card_lines first act acts p p.from p.to)) writes.posts ∙ cards_written z ∙ sym cards_same;
    cards_once = cards_once (int_lt (pos 0) z) (int_lt z (pos 0)) (correction_card s l b z WriteOn stock) (correction_card s l b z WrittenOff stock);
    text = λ i. codes "{\"act\":" ++ decimal (number_same first acts act s slice room i) ++ sym writes.text i ++ codes "}";
  }

  pub written_changed : IsChange first act acts (corrections s l b z)
  written_changed =
      planned_changed first acts act s slice next (written_told l b z) posted g planned s.rows.staged stays s.rows.lots (lots_stay first acts act s slice next (written_told l b z) posted g planned s.rows.staged stays writes.lots)
      (correction_facts s l b z stock) facts
