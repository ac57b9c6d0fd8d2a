-- What the slice of any command tells of the units of a lot that are staged for an order, if it touches the lot, and names both if it
-- is a pick; and of those that are reserved, if it is judged by them.
use Rattle.rules.proofs.Words.{◌≡◌, ℕ, true, false, ◌&&◌, not, List, refl, ap, sym, ◌∙◌, ◌||◌, ◌==◌, if◌then◌else◌, ℤ, Some, None, LotId, Act, staged_of_lot, reserved, tables_of, if_any, staged_row, reserved_row, is_touched, IsSlice, picks, names_order, names_lot, names_reserved, reserved_qty, reserved_found, reserved_seen, staged_qty, staged_found, on_stage_seen, Slice, is_zero}

-- what a row of a quantity, if any, has
any_staged : (q : ℕ) (o : List ℕ) (l : LotId) → staged_qty (if_any q (record { order = o; lot = l; qty = q })) ≡ q
any_staged q o l = elim (q == 0) as (λ t. (q == 0) ≡ t → staged_qty (if t then None else Some (record { order = o; lot = l; qty = q })) ≡ q) [ true ↦ λ e. sym (is_zero q e) | false ↦ λ e. refl ] refl

any_reserved : (q : ℕ) (o : List ℕ) (l : LotId) → reserved_qty (if_any q (record { order = o; lot = l; qty = q })) ≡ q
any_reserved q o l = elim (q == 0) as (λ t. (q == 0) ≡ t → reserved_qty (if t then None else Some (record { order = o; lot = l; qty = q })) ≡ q) [ true ↦ λ e. sym (is_zero q e) | false ↦ λ e. refl ] refl

module _ (first : ℤ) (acts : List Act) (act : Act) (s : Slice) (slice : IsSlice first act acts (tables_of first acts) s) where
  pub found_staged : (o : List ℕ) (l : LotId) → is_touched first act acts l.gtin ≡ true → not (picks act.command) || (names_order act.command o && names_lot act.command l) ≡ true → staged_found s.rows.staged o l ≡ staged_row first acts o l
  unfolding tables_of
  found_staged o l t asked = slice.staged.found (o, l) (λ i. asked i && t i)

  pub on_stage_told : (o : List ℕ) (l : LotId) → is_touched first act acts l.gtin ≡ true → not (picks act.command) || (names_order act.command o && names_lot act.command l) ≡ true → on_stage_seen s o l ≡ staged_of_lot first acts o l
  on_stage_told o l t asked = ap staged_qty (found_staged o l t asked) ∙ any_staged (staged_of_lot first acts o l) o l

  -- what is reserved, where the command is judged by it
  pub found_reserved : (o : List ℕ) (l : LotId) → names_reserved act.command o l ≡ true → reserved_found s.rows.reserved o l ≡ reserved_row first acts o l
  unfolding tables_of
  found_reserved o l t = slice.reserved.found (o, l) t

  pub reserved_told : (o : List ℕ) (l : LotId) → names_reserved act.command o l ≡ true → reserved_seen s o l ≡ reserved first acts o l
  reserved_told o l t = ap reserved_qty (found_reserved o l t) ∙ any_reserved (reserved first acts o l) o l
