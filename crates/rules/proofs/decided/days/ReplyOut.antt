-- The units of the lots that are out by the rows of the slice are those that the act returns: they are within the limits of all items together.
use Rattle.rules.proofs.Words.{◌≡◌, ℕ, ◌+◌, ◌*◌, ◌≤◌, Bool, true, false, ◌&&◌, List, [], ◌∷◌, refl, ap, sym, ◌∙◌, arith, ◌||◌, if◌then◌else◌, ℤ, length, list_any, same_text, LotId, total, UNITS_MAX, NewItem, LeastRow, StagedRow, Act, Place, Supplier, InBin, Stage, Shipped, WriteOff, in_house, of_item, items, postings, IsHistory, units_returned, tables_of, IsSlice, is_out, units_out, Slice, and_both, same_text_turned, any_found, Cells, holds, holds_split, legal_history, items_within_limit, units_within_limit, stage_cells, staged_holds, add_totals}
use Rattle.rules.proofs.rows.LeavingLots.{stages_gone, all_returned}
use Rattle.rules.proofs.decided.days.LotsOut.{SaysWhenLotsShip, TellsWhenLotsShip, out_touched, makes}
use Rattle.rules.proofs.decided.days.RowsOut.{all_staged_are}

-- Sums item by item

total_within : {X : Type 0} (f : X → ℕ) → ((x : X) → f x ≤ UNITS_MAX) → (xs : List X) → total f xs ≤ UNITS_MAX * length xs
total_within f small [] = omega arith
total_within f small (x ∷ xs) = omega (arith, small x, total_within f small xs)

module _ (gone : LotId → Bool) where
  abbrev own : List ℕ → StagedRow → ℕ
  own g r = if gone r.lot && of_item g r.lot then r.qty else 0

  -- a row is counted under its item
  counted : (r : StagedRow) (is : List NewItem) → (gone r.lot ≡ true → list_any (λ (i : NewItem). same_text r.lot.gtin i.gtin) is ≡ true) → (if gone r.lot then r.qty else 0) ≤ total (λ (i : NewItem). own i.gtin r) is
  counted r is known = elim (gone r.lot) as (λ b. gone r.lot ≡ b → (if b then r.qty else 0) ≤ total (λ (i : NewItem). if b && of_item i.gtin r.lot then r.qty else 0) is) [
    | true ↦ λ t. among is (known t)
    | false ↦ λ t. omega arith
  ] refl
    where
      among : (js : List NewItem) → list_any (λ (i : NewItem). same_text r.lot.gtin i.gtin) js ≡ true → r.qty ≤ total (λ (i : NewItem). if of_item i.gtin r.lot then r.qty else 0) js
      among [] e = let f : false ≡ true = e in cc
      among (j ∷ js) e = elim (of_item j.gtin r.lot) as (λ b. of_item j.gtin r.lot ≡ b → r.qty ≤ (if b then r.qty else 0) + total (λ (i : NewItem). if of_item i.gtin r.lot then r.qty else 0) js) [
        | true ↦ λ t. omega arith
        | false ↦ λ t. let h = among js (ap (λ b. b || list_any (λ (i : NewItem). same_text r.lot.gtin i.gtin) js) (sym t ∙ same_text_turned j.gtin r.lot.gtin) ∙ e) in omega (arith, h)
      ] refl

  by_items : (is : List NewItem) → ((l : LotId) → gone l ≡ true → list_any (λ (i : NewItem). same_text l.gtin i.gtin) is ≡ true) → (rows : List StagedRow)
      → total (λ (r : StagedRow). if gone r.lot then r.qty else 0) rows ≤ total (λ (i : NewItem). total (own i.gtin) rows) is
  by_items is known [] = omega arith
  by_items is known (r ∷ rs) =
      omega (arith, counted r is (known r.lot), by_items is known rs, add_totals (λ (i : NewItem). own i.gtin r) (λ (i : NewItem). total (own i.gtin) rs) is)

module _ (first : ℤ) (acts : List Act) (act : Act) (s : Slice) (slice : IsSlice first act acts (tables_of first acts) s) (says : SaysWhenLotsShip first act acts)
    (day : ℤ) (least : List LeastRow) (tells : TellsWhenLotsShip first act acts day least) (next : IsHistory first (act ∷ acts)) where
  abbrev gone : LotId → Bool
  gone l = is_out s day least l

  -- no item has more on stages than its limit

  abbrev stages_of_item : List ℕ → Cells
  stages_of_item g = stage_cells (λ m o. gone m && of_item g m)

  in_item : (g : List ℕ) (p : Place) (m : LotId) → stages_of_item g p m ≡ true → in_house p && of_item g m ≡ true
  in_item g (Stage o) m e = (and_both (gone m) (of_item g m) e).1
  in_item g (InBin b) m e = let f : false ≡ true = e in cc
  in_item g Supplier m e = e
  in_item g WriteOff m e = e
  in_item g (Shipped n o) m e = e

  item_within : (g : List ℕ) → total (own gone g) s.rows.staged ≤ UNITS_MAX
  item_within g =
      let legal = legal_history first acts next.0 in
      let split = holds_split (postings first acts) legal (stages_of_item g) (λ p m. in_house p && of_item g m) (record { supplier = λ m. refl; write_off = λ m. refl }) (record { supplier = λ m. refl; write_off = λ m. refl }) (in_item g) in
      let told : holds (stages_of_item g) (postings first acts) ≡ total (own gone g) s.rows.staged =
      staged_holds first acts legal (λ m o. gone m && of_item g m) _ _ s.rows.staged (all_staged_are first acts act s slice says day least tells next) (λ m o e. out_touched first acts act s slice says day least tells m (and_both (gone m) (of_item g m) e).0) in
      omega (arith, split, told, units_within_limit first acts next.0 g)

  known : (l : LotId) → gone l ≡ true → list_any (λ (i : NewItem). same_text l.gtin i.gtin) (items acts) ≡ true
  known l e = sym (any_found (λ (i : NewItem). same_text l.gtin i.gtin) (items acts)) ∙ says.item_known l.gtin (out_touched first acts act s slice says day least tells l e)

  abbrev all_out : ℕ
  all_out = total (λ (r : StagedRow). if gone r.lot then r.qty else 0) s.rows.staged

  all_within : all_out ≤ UNITS_MAX * length (items acts)
  all_within =
      let f = by_items gone (items acts) known s.rows.staged in
      let g = total_within (λ (i : NewItem). total (own gone i.gtin) s.rows.staged) (λ i. item_within i.gtin) (items acts) in
      omega (arith, f, g)

  pub out_is : units_out s day least ≡ units_returned first act acts
  out_is =
      let told : holds (stages_gone first acts act gone) (postings first acts) ≡ all_out =
      staged_holds first acts (legal_history first acts next.0) (λ m o. gone m) _ _ s.rows.staged (all_staged_are first acts act s slice says day least tells next) (λ m o e. out_touched first acts act s slice says day least tells m e) in
      omega (arith, told, all_within, items_within_limit first acts next.0, all_returned first acts act gone (makes first acts act s slice says day least tells) next)
