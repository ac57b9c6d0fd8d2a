-- What the slice of a command tells of a lot: whether one that it names is known, and its units in a bin that it names too; and the units
-- in any bin of one that it touches, if it plans.
use Rattle.rules.proofs.Words.{◌≡◌, ℕ, true, false, ◌&&◌, not, List, refl, ap, sym, ◌∙◌, ◌||◌, ◌==◌, if◌then◌else◌, ℤ, Some, None, is_some, LotId, Act, lot_known, has_lot, in_bin, tables_of, if_any, stock_row, is_touched, IsSlice, ships, plans, names_bin, names_lot, on_named_stage, stock_qty, sees_lot, stock_found, in_bin_seen, Slice, is_zero, or_first, or_later}
use Rattle.rules.proofs.rows.SliceTells.{found_lot, some_mapped}

-- what a row of a quantity, if any, has
pub any_qty : (q : ℕ) (l : LotId) (b : List ℕ) → stock_qty (if_any q (record { lot = l; bin = b; qty = q })) ≡ q
any_qty q l b = elim (q == 0) as (λ t. (q == 0) ≡ t → stock_qty (if t then None else Some (record { lot = l; bin = b; qty = q })) ≡ q) [ true ↦ λ e. sym (is_zero q e) | false ↦ λ e. refl ] refl

module _ (first : ℤ) (acts : List Act) (act : Act) (s : Slice) (slice : IsSlice first act acts (tables_of first acts) s) (goods : not (ships act.command) ≡ true) where
  pub lot_known_told : (l : LotId) → names_lot act.command l ≡ true → sees_lot s l ≡ has_lot acts l
  lot_known_told l named = ap is_some (found_lot first acts act s slice goods l named) ∙ some_mapped _ (lot_known acts l)

module _ (first : ℤ) (acts : List Act) (act : Act) (s : Slice) (slice : IsSlice first act acts (tables_of first acts) s) where
  found_asked : (l : LotId) (b : List ℕ) → is_touched first act acts l.gtin ≡ true → plans act.command || (names_lot act.command l && names_bin act.command b) ≡ true → stock_found s.rows.stock l b ≡ stock_row first acts l b
  unfolding tables_of
  found_asked l b t asked = slice.stock.found (l, b) (λ i. t i && or_first (plans act.command || (names_lot act.command l && names_bin act.command b)) (ships act.command && on_named_stage act.command s.rows l) asked i)

  -- the units of a lot in a bin, where the command names both
  pub found_own_stock : (l : LotId) (b : List ℕ) → is_touched first act acts l.gtin ≡ true → names_lot act.command l && names_bin act.command b ≡ true → stock_found s.rows.stock l b ≡ stock_row first acts l b
  found_own_stock l b t named = found_asked l b t (or_later (plans act.command) (names_lot act.command l && names_bin act.command b) named)

  pub own_in_bin_told : (b : List ℕ) (l : LotId) → is_touched first act acts l.gtin ≡ true → names_lot act.command l && names_bin act.command b ≡ true → in_bin_seen s b l ≡ in_bin first acts b l
  own_in_bin_told b l t named = ap stock_qty (found_own_stock l b t named) ∙ any_qty (in_bin first acts b l) l b

  -- and in each bin, where it plans
  module _ (planned : plans act.command ≡ true) where
    pub found_stock : (l : LotId) (b : List ℕ) → is_touched first act acts l.gtin ≡ true → stock_found s.rows.stock l b ≡ stock_row first acts l b
    found_stock l b t = found_asked l b t (or_first (plans act.command) (names_lot act.command l && names_bin act.command b) planned)

    pub in_bin_told : (b : List ℕ) (l : LotId) → is_touched first act acts l.gtin ≡ true → in_bin_seen s b l ≡ in_bin first acts b l
    in_bin_told b l t = ap stock_qty (found_stock l b t) ∙ any_qty (in_bin first acts b l) l b
