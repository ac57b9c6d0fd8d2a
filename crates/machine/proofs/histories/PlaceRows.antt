-- Rows of bins, or of stages, add up to what their cells hold.
use Rattle.machine.proofs.Words.{◌≡◌, ℕ, Bool, true, false, ◌&&◌, not, List, [], ◌∷◌, refl, ap, sym, subst, ◌∙◌, ◌==◌, if◌then◌else◌, find, Some, None, ℤ, list_any, same_text, LotId, total, StockRow, StagedRow, Act, Place, InBin, Stage, Posting, is_lot, postings, in_bin, staged_of_lot, if_any, stock_row, staged_row, AreRows, AreOwn, LotBin, OrderLot, no_two, same_cell, same_share}
use Rattle.machine.proofs.Tests.{and_both, or_none, not_true, is_zero, same_text_is, same_text_refl, is_lot_is, is_lot_refl}
use Rattle.machine.proofs.histories.Cells.{Cells, Inner, Legal, holds}
use Rattle.machine.proofs.histories.RowSums.{IsHoused, AllIn, AllApart, AreApart, AreHeld, AreEmpty, NotThere, IsLeft, cell_at, cut_out, rows_are_all, left_of}

pub and_turned : (a b : Bool) → a && b ≡ b && a
and_turned true true = refl
and_turned true false = refl
and_turned false true = refl
and_turned false false = refl

-- a row that is there has the quantity, and where no row is the quantity is 0
pub any_some : {X : Type 0} (q : ℕ) (x r : X) → if_any q x ≡ Some r → x ≡ r
any_some q x r e = elim (q == 0) as (λ b. (if b then None else Some x) ≡ Some r → x ≡ r) [ true ↦ λ f. cc | false ↦ λ f. cc ] e

pub any_none : {X : Type 0} (q : ℕ) (x : X) → if_any q x ≡ None → q ≡ 0
any_none q x e = elim (q == 0) as (λ b. (q == 0) ≡ b → (if b then None else Some x) ≡ None → q ≡ 0) [ true ↦ λ t f. is_zero q t | false ↦ λ t f. cc ] refl e

module _ {R : Type 0} (place : List ℕ → Place) (name : R → List ℕ) (lot : R → LotId) (qty : R → ℕ) (at : LotId → List ℕ → ℕ)
    (same : LotId → List ℕ → R → Bool) (same_is : (l : LotId) (b : List ℕ) (r : R) → same l b r ≡ same_text b (name r) && is_lot l (lot r))
    (cell_is : (l m : LotId) (b c : List ℕ) → cell_at (place b) l (place c) m ≡ same_text b c && is_lot l m)
    (ps : List Posting) (legal : Legal ps) (held_is : (l : LotId) (b : List ℕ) → holds (cell_at (place b) l) ps ≡ at l b)
    (pick : LotId → List ℕ → Bool) (w : Cells) (inner : Inner w) (housed : IsHoused w)
    (in_w : (l : LotId) (b : List ℕ) → w (place b) l ≡ pick l b) (placed : (p : Place) (l : LotId) → w p l ≡ true → (b : List ℕ) × (p ≡ place b)) where
  abbrev pub AllHeld : List R → Type 0
  AllHeld [] = Unit {0}
  AllHeld (r ∷ rs) = (qty r ≡ at (lot r) (name r)) × AllHeld rs

  abbrev place_of : R → Place
  place_of r = place (name r)

  abbrev wanted : R → Bool
  wanted r = pick (lot r) (name r)

  are_held : (rows : List R) → AllHeld rows → AreHeld ps legal place_of lot qty wanted rows
  are_held [] h = tt
  are_held (r ∷ rs) h = (h.0 ∙ sym (held_is (lot r) (name r)), are_held rs h.1)

  are_in : (rows : List R) → AllIn ps legal place_of lot qty wanted w rows
  are_in [] = tt
  are_in (r ∷ rs) = (λ e. in_w (lot r) (name r) ∙ e, are_in rs)

  apart_from : (r : R) (rows : List R) → list_any (same (lot r) (name r)) rows ≡ false → AllApart ps legal place_of lot qty wanted r rows
  apart_from r [] e = tt
  apart_from r (q ∷ qs) e =
      let two = or_none (same (lot r) (name r) q) (list_any (same (lot r) (name r)) qs) e in
      (cell_is (lot r) (lot q) (name r) (name q) ∙ sym (same_is (lot r) (name r) q) ∙ two.0, apart_from r qs two.1)

  are_apart : (rows : List R) → no_two (λ r q. same (lot r) (name r) q) rows ≡ true → AreApart ps legal place_of lot qty wanted rows
  are_apart [] e = tt
  are_apart (r ∷ rs) e =
      let two = and_both (not (list_any (same (lot r) (name r)) rs)) (no_two (λ r q. same (lot r) (name r) q) rs) e in
      (apart_from r rs (not_true _ two.0), are_apart rs two.1)

  not_found : (l : LotId) (b : List ℕ) → pick l b ≡ true → (rows : List R) → NotThere ps legal place_of lot qty wanted (place b) l rows → find (same l b) rows ≡ None
  not_found l b e [] h = refl
  not_found l b e (r ∷ rs) h =
      elim (same l b r) as (λ t. same l b r ≡ t → (if t then Some r else find (same l b) rs) ≡ None) [
        | true ↦ λ f.
            let two = and_both (same_text b (name r)) (is_lot l (lot r)) (sym (same_is l b r) ∙ f) in
            let l' : l ≡ lot r = is_lot_is l (lot r) two.1 in
            let b' : b ≡ name r = same_text_is b (name r) two.0 in
            let own : pick (lot r) (name r) ≡ true = (λ i. pick (sym l' i) (sym b' i)) ∙ e in
            let no : cell_at (place (name r)) (lot r) (place b) l ≡ false = h.0 own in
            let yes : cell_at (place (name r)) (lot r) (place b) l ≡ true =
            cell_is (lot r) l (name r) b ∙ (λ i. same_text (sym b' i) b && is_lot (sym l' i) l) ∙ (λ i. same_text_refl b i && is_lot_refl l i) in
            cc
        | false ↦ λ f. not_found l b e rs h.1
      ] refl

  -- the picked rows add up to what the set holds
  pub rows_hold : (rows : List R) → no_two (λ r q. same (lot r) (name r) q) rows ≡ true → AllHeld rows
      → ((l : LotId) (b : List ℕ) → pick l b ≡ true → find (same l b) rows ≡ None → at l b ≡ 0) → holds w ps ≡ total (λ r. if pick (lot r) (name r) then qty r else 0) rows
  rows_hold rows once held none = rows_are_all ps legal place_of lot qty wanted w inner housed rows (are_in rows) (are_apart rows once) (are_held rows held) empty
    where
      at_name : (p : Place) (l : LotId) (b : List ℕ) → p ≡ place b → IsLeft ps legal place_of lot qty wanted w p l rows → holds (cell_at p l) ps ≡ 0
      at_name p l b e h =
          let own : pick l b ≡ true = sym (in_w l b) ∙ ap (λ x. w x l) (sym e) ∙ h.inside in
          let there : NotThere ps legal place_of lot qty wanted (place b) l rows = subst (λ x. NotThere ps legal place_of lot qty wanted x l rows) e h.not_there in
          ap (λ x. holds (cell_at x l) ps) e ∙ held_is l b ∙ none l b own (not_found l b own rows there)

      empty : AreEmpty ps legal (cut_out ps legal place_of lot qty wanted w rows)
      empty p l e =
          let h = left_of ps legal place_of lot qty wanted w p l rows e in
          let b = placed p l h.inside in
          at_name p l b.0 b.1 h

-- Stock rows and staged rows

abbrev pub bin_cells : (LotId → List ℕ → Bool) → Cells
bin_cells pick (InBin b) l = pick l b
bin_cells pick _ l = false

abbrev pub stage_cells : (LotId → List ℕ → Bool) → Cells
stage_cells pick (Stage o) l = pick l o
stage_cells pick _ l = false

module _ (first : ℤ) (acts : List Act) (legal : Legal (postings first acts)) (pick : LotId → List ℕ → Bool) where
  bins_placed : (p : Place) (l : LotId) → bin_cells pick p l ≡ true → (b : List ℕ) × (p ≡ InBin b)
  bins_placed (InBin b) l e = (b, refl)
  bins_placed _ l e = let f : false ≡ true = e in cc

  stages_placed : (p : Place) (l : LotId) → stage_cells pick p l ≡ true → (o : List ℕ) × (p ≡ Stage o)
  stages_placed (Stage o) l e = (o, refl)
  stages_placed _ l e = let f : false ≡ true = e in cc

  module _ (needed allowed : LotBin → Bool) (rows : List StockRow) (are : AreRows same_cell (λ r. (r.lot, r.bin)) needed allowed (λ k. stock_row first acts k.0 k.1) rows)
      (in_need : (l : LotId) (b : List ℕ) → pick l b ≡ true → needed (l, b) ≡ true) where
    stock_held : (rows : List StockRow) → AreOwn {K = LotBin} (λ r. (r.lot, r.bin)) allowed (λ k. stock_row first acts k.0 k.1) rows
        → AllHeld InBin (λ (r : StockRow). r.bin) (λ r. r.lot) (λ r. r.qty) (λ l b. in_bin first acts b l) (λ l b r. is_lot l r.lot && same_text b r.bin) (λ l b r. and_turned (is_lot l r.lot) (same_text b r.bin)) (λ l m b c. refl)
        (postings first acts) legal (λ l b. refl) pick (bin_cells pick) (record { supplier = λ m. refl; write_off = λ m. refl }) (λ n o l. refl) (λ l b. refl) bins_placed rows
    stock_held [] h = tt
    stock_held (r ∷ rs) h = (sym (ap (λ (x : StockRow). x.qty) (any_some (in_bin first acts r.bin r.lot) (record { lot = r.lot; bin = r.bin; qty = in_bin first acts r.bin r.lot }) r h.1)), stock_held rs h.2)

    pub stock_holds : holds (bin_cells pick) (postings first acts) ≡ total (λ (r : StockRow). if pick r.lot r.bin then r.qty else 0) rows
    stock_holds =
        rows_hold InBin (λ (r : StockRow). r.bin) (λ r. r.lot) (λ r. r.qty) (λ l b. in_bin first acts b l) (λ l b r. is_lot l r.lot && same_text b r.bin) (λ l b r. and_turned (is_lot l r.lot) (same_text b r.bin)) (λ l m b c. refl)
        (postings first acts) legal (λ l b. refl) pick (bin_cells pick) (record { supplier = λ m. refl; write_off = λ m. refl }) (λ n o l. refl) (λ l b. refl) bins_placed
        rows are.once (stock_held rows are.own)
        (λ l b e f. any_none (in_bin first acts b l) (record { lot = l; bin = b; qty = in_bin first acts b l }) (sym (are.found (l, b) (in_need l b e)) ∙ f))

  module _ (needed allowed : OrderLot → Bool) (rows : List StagedRow) (are : AreRows same_share (λ r. (r.order, r.lot)) needed allowed (λ k. staged_row first acts k.0 k.1) rows)
      (in_need : (l : LotId) (o : List ℕ) → pick l o ≡ true → needed (o, l) ≡ true) where
    staged_held : (rows : List StagedRow) → AreOwn {K = OrderLot} (λ r. (r.order, r.lot)) allowed (λ k. staged_row first acts k.0 k.1) rows
        → AllHeld Stage (λ (r : StagedRow). r.order) (λ r. r.lot) (λ r. r.qty) (λ l o. staged_of_lot first acts o l) (λ l o r. same_text o r.order && is_lot l r.lot) (λ l o r. refl) (λ l m b c. refl)
        (postings first acts) legal (λ l o. refl) pick (stage_cells pick) (record { supplier = λ m. refl; write_off = λ m. refl }) (λ n o l. refl) (λ l o. refl) stages_placed rows
    staged_held [] h = tt
    staged_held (r ∷ rs) h = (sym (ap (λ (x : StagedRow). x.qty) (any_some (staged_of_lot first acts r.order r.lot) (record { order = r.order; lot = r.lot; qty = staged_of_lot first acts r.order r.lot }) r h.1)), staged_held rs h.2)

    pub staged_holds : holds (stage_cells pick) (postings first acts) ≡ total (λ (r : StagedRow). if pick r.lot r.order then r.qty else 0) rows
    staged_holds =
        rows_hold Stage (λ (r : StagedRow). r.order) (λ r. r.lot) (λ r. r.qty) (λ l o. staged_of_lot first acts o l) (λ l o r. same_text o r.order && is_lot l r.lot) (λ l o r. refl) (λ l m b c. refl)
        (postings first acts) legal (λ l o. refl) pick (stage_cells pick) (record { supplier = λ m. refl; write_off = λ m. refl }) (λ n o l. refl) (λ l o. refl) stages_placed
        rows are.once (staged_held rows are.own)
        (λ l o e f. any_none (staged_of_lot first acts o l) (record { order = o; lot = l; qty = staged_of_lot first acts o l }) (sym (are.found (o, l) (in_need l o e)) ∙ f))
