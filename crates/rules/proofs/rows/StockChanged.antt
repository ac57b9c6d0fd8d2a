-- Stock rows where the units of one lot in one bin have changed.
use Rattle.rules.proofs.Words.{◌≡◌, ℕ, Bool, true, false, ◌&&◌, not, List, [], ◌∷◌, ◌++◌, refl, ap, sym, ◌∙◌, ◌==◌, ◌||◌, if◌then◌else◌, ℤ, Option, Some, None, filter, list_any, cons_option, same_text, LotId, StockRow, Act, is_lot, in_bin, if_any, stock_row, AreRows, LotBin, same_cell, changed, stock_found, stock_put, stock_gone, stock_rows_with, or_false, or_later, none_in_filter}
use Rattle.rules.proofs.rows.SameKeys.{same_cell_is, same_cell_refl, same_cell_turned}
use Rattle.rules.proofs.rows.AfterRows.{rows_after, put_one}
use Rattle.rules.proofs.rows.WithoutRows.{rows_without}

-- Rows

-- what passes among the rows kept passes among all
pub any_kept : {X : Type 0} (test keep : X → Bool) (xs : List X) → list_any test (filter keep xs) ≡ true → list_any test xs ≡ true
any_kept test keep xs e = elim (list_any test xs) as (λ b. list_any test xs ≡ b → b ≡ true) [ true ↦ λ t. refl | false ↦ λ t. let f = none_in_filter test keep xs t in cc ] refl

pub or_still : (x y z : Bool) → (y ≡ true → z ≡ true) → x || y ≡ true → x || z ≡ true
or_still true y z h e = refl
or_still false y z h e = h e

module _ (l : LotId) (b : List ℕ) (q : ℕ) where
  abbrev pub units_row : ℕ → StockRow
  units_row n = record { lot = l; bin = b; qty = n }

  -- a look-up of stock rows where the lot has q units in the bin
  abbrev pub with_units : (LotBin → Option StockRow) → LotBin → Option StockRow
  with_units row k = if same_cell k (l, b) then if_any q (units_row q) else row k

  -- the rows so changed are those of that look-up
  pub stock_rows_are : (needed : LotBin → Bool) (row : LotBin → Option StockRow) (rows : List StockRow)
      → AreRows same_cell (λ (r : StockRow). (r.lot, r.bin)) needed (λ k. true) row rows → AreRows same_cell (λ (r : StockRow). (r.lot, r.bin)) needed (λ k. true) (with_units row) (stock_rows_with l b q rows)
  stock_rows_are needed row rows are =
      elim (q == 0) as (λ t. AreRows same_cell (λ (r : StockRow). (r.lot, r.bin)) needed (λ k. true) (λ k. if same_cell k (l, b) then if t then None else Some (units_row q) else row k) ((if t then [] else units_row q ∷ []) ++ filter (λ r. not (is_lot l r.lot && same_text b r.bin)) rows)) [
        | true ↦ rows_without same_cell same_cell_is same_cell_refl same_cell_turned (λ (r : StockRow). (r.lot, r.bin)) needed row (units_row q) rows are
        | false ↦ rows_after same_cell same_cell_is same_cell_refl same_cell_turned (λ (r : StockRow). (r.lot, r.bin)) needed row (units_row q) rows are
      ]

  -- what passes among them passes as the row put, or did before
  any_with : (test : StockRow → Bool) (rows : List StockRow) → list_any test (stock_rows_with l b q rows) ≡ true → test (units_row q) || list_any test rows ≡ true
  any_with test rows = elim (q == 0) as (λ t. list_any test ((if t then [] else units_row q ∷ []) ++ filter (λ r. not (is_lot l r.lot && same_text b r.bin)) rows) ≡ true → test (units_row q) || list_any test rows ≡ true) [
    | true ↦ λ e. or_later (test (units_row q)) _ (any_kept test (λ r. not (is_lot l r.lot && same_text b r.bin)) rows e)
    | false ↦ λ e. or_still (test (units_row q)) _ _ (any_kept test (λ r. not (is_lot l r.lot && same_text b r.bin)) rows) e
  ]

  -- no other bin comes into them, and no other lot
  pub bins_with : (c : List ℕ) (rows : List StockRow) → list_any (λ (r : StockRow). same_text c r.bin) (stock_rows_with l b q rows) ≡ true → same_text c b || list_any (λ (r : StockRow). same_text c r.bin) rows ≡ true
  bins_with c rows = any_with (λ (r : StockRow). same_text c r.bin) rows

  pub lots_with : (m : LotId) (rows : List StockRow) → list_any (λ (r : StockRow). is_lot m r.lot) (stock_rows_with l b q rows) ≡ true → is_lot m l || list_any (λ (r : StockRow). is_lot m r.lot) rows ≡ true
  lots_with m rows = any_with (λ (r : StockRow). is_lot m r.lot) rows

  -- the row put or dropped makes that look-up of the one before
  pub cell_changed : (row : LotBin → Option StockRow) (p : ℕ) (rows : List StockRow) → stock_found rows l b ≡ row (l, b) → row (l, b) ≡ if_any p (units_row p)
      → (k : LotBin) → changed (λ (r : StockRow). is_lot k.0 r.lot && same_text k.1 r.bin) (stock_put l b q) (stock_gone rows l b q) (row k) ≡ with_units row k
  cell_changed row p rows found there k =
      elim (q == 0) as (λ t. changed (λ (r : StockRow). is_lot k.0 r.lot && same_text k.1 r.bin) (if t then [] else units_row q ∷ []) (if t then cons_option (stock_found rows l b) [] else []) (row k) ≡ (if same_cell k (l, b) then if t then None else Some (units_row q) else row k)) [
        | true ↦ ap (λ x. if list_any (λ (r : StockRow). is_lot k.0 r.lot && same_text k.1 r.bin) (cons_option x []) then None else row k) (found ∙ there) ∙ gone
        | false ↦ sym (put_one (same_cell k (l, b)) (units_row q) (row k))
      ]
    where
      at_cell : (x : Option StockRow) → row (l, b) ≡ x → same_cell k (l, b) ≡ true → row k ≡ x
      at_cell x e t = ap row (same_cell_is k (l, b) t) ∙ e

      gone : (if list_any (λ (r : StockRow). is_lot k.0 r.lot && same_text k.1 r.bin) (cons_option (if_any p (units_row p)) []) then None else row k) ≡ (if same_cell k (l, b) then None else row k)
      gone = elim (p == 0) as (λ z. row (l, b) ≡ (if z then None else Some (units_row p)) → (if list_any (λ (r : StockRow). is_lot k.0 r.lot && same_text k.1 r.bin) (cons_option (if z then None else Some (units_row p)) []) then None else row k) ≡ (if same_cell k (l, b) then None else row k)) [
        | true ↦ λ e. elim (same_cell k (l, b)) as (λ t. same_cell k (l, b) ≡ t → row k ≡ (if t then None else row k)) [ true ↦ at_cell None e | false ↦ λ t. refl ] refl
        | false ↦ λ e. ap (λ t. if t then None else row k) (or_false (same_cell k (l, b)))
      ] there

-- Acts

module _ (first : ℤ) (acts after : List Act) (l : LotId) (b : List ℕ) (q : ℕ) where
  -- where an act leaves the lot q units in the bin, and changes no other lot or bin, the look-up is that of its stock rows
  pub stock_row_with : in_bin first after b l ≡ q → ((m : LotId) (c : List ℕ) → same_cell (m, c) (l, b) ≡ false → in_bin first after c m ≡ in_bin first acts c m)
      → (k : LotBin) → with_units l b q (λ k. stock_row first acts k.0 k.1) k ≡ stock_row first after k.0 k.1
  stock_row_with here elsewhere k = elim (same_cell k (l, b)) as (λ t. same_cell k (l, b) ≡ t → (if t then if_any q (units_row l b q q) else stock_row first acts k.0 k.1) ≡ stock_row first after k.0 k.1) [
    | true ↦ λ t. ap (λ n. if_any n (units_row l b q n)) (sym here) ∙ ap (λ (x : LotBin). stock_row first after x.0 x.1) (sym (same_cell_is k (l, b) t))
    | false ↦ λ t. ap (λ n. if_any n (record { lot = k.0; bin = k.1; qty = n })) (sym (elsewhere k.0 k.1 t))
  ] refl
