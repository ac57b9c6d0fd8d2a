-- The rows of a slice tell what is staged of each item that the command touches, unless it is a pick, and its demands if it plans.
use Rattle.rules.proofs.Words.{◌≡◌, ℕ, true, false, ◌&&◌, not, List, [], ◌∷◌, refl, ap, sym, ◌∙◌, ◌||◌, ℤ, find, list_any, same_text, OrderLine, OrderRow, UrgentRow, LineRow, StagedRow, Act, of_item, has_line, lines_of, is_open, tables_of, order_row, urgent_row, line_row, staged_row, is_touched, AreRows, OrderItem, OrderLot, same_line, same_share, IsSlice, picks, plans, has_touched_line, names_order, names_lot, Slice, and_both, or_first, or_later, same_text_is}
use Rattle.rules.proofs.rows.AfterRows.{loosened}
use Rattle.rules.proofs.rows.DemandsTold.{TellsDemands}
use Rattle.rules.proofs.rows.Planned.{no_pick}

-- The staged rows of a slice tell what is staged of the items that the command touches
module _ (first : ℤ) (acts : List Act) (act : Act) (s : Slice) (slice : IsSlice first act acts (tables_of first acts) s) (whole : not (picks act.command) ≡ true) where
  pub staged_touched : AreRows same_share (λ (r : StagedRow). (r.order, r.lot)) (λ (k : OrderLot). is_touched first act acts k.1.gtin) (λ (k : OrderLot). true) (λ k. staged_row first acts k.0 k.1) s.rows.staged
  unfolding tables_of
  staged_touched = loosened same_share (λ (r : StagedRow). (r.order, r.lot)) _ (λ k. is_touched first act acts k.1.gtin) _ (λ k. true) (λ k. staged_row first acts k.0 k.1) (λ k. staged_row first acts k.0 k.1) s.rows.staged
      (λ k e i. or_first (not (picks act.command)) (names_order act.command k.0 && names_lot act.command k.1) whole i && e i) (λ k e. refl) (λ k. refl) slice.staged

-- and of each of these items
module _ (first : ℤ) (acts : List Act) (act : Act) (s : Slice) (slice : IsSlice first act acts (tables_of first acts) s) (g : List ℕ) (touched : is_touched first act acts g ≡ true) where
  touched_item : (h : List ℕ) → same_text g h ≡ true → is_touched first act acts h ≡ true
  touched_item h e = ap (λ (x : List ℕ). is_touched first act acts x) (sym (same_text_is g h e)) ∙ touched

  pub line_touched : (ls : List OrderLine) → list_any (λ l. same_text g l.gtin) ls ≡ true → list_any (λ l. is_touched first act acts l.gtin) ls ≡ true
  line_touched [] e = e
  line_touched (l ∷ ls) e = elim (same_text g l.gtin) as (λ b. same_text g l.gtin ≡ b → b || list_any (λ l. same_text g l.gtin) ls ≡ true → is_touched first act acts l.gtin || list_any (λ l. is_touched first act acts l.gtin) ls ≡ true) [
    | true ↦ λ t f. ap (λ b. b || list_any (λ l. is_touched first act acts l.gtin) ls) (touched_item l.gtin t)
    | false ↦ λ t f. or_later (is_touched first act acts l.gtin) _ (line_touched ls f)
  ] refl e

  pub slice_tells_stages : not (picks act.command) ≡ true → AreRows same_share (λ (r : StagedRow). (r.order, r.lot)) (λ (k : OrderLot). of_item g k.1) (λ (k : OrderLot). true) (λ k. staged_row first acts k.0 k.1) s.rows.staged
  slice_tells_stages whole = loosened same_share (λ (r : StagedRow). (r.order, r.lot)) _ (λ k. of_item g k.1) _ (λ k. true) (λ k. staged_row first acts k.0 k.1) (λ k. staged_row first acts k.0 k.1) s.rows.staged
      (λ k e. touched_item k.1.gtin e) (λ k e. refl) (λ k. refl) (staged_touched first acts act s slice whole)

-- With the order rows and lines they tell its demands, where the command plans
module _ (first : ℤ) (acts : List Act) (act : Act) (s : Slice) (slice : IsSlice first act acts (tables_of first acts) s) (planned : plans act.command ≡ true) (g : List ℕ) (touched : is_touched first act acts g ≡ true) where
  order_are : AreRows same_text (λ (r : OrderRow). r.order) (λ o. names_order act.command o || (plans act.command && is_open first acts o && has_touched_line first act acts o)) (λ o. names_order act.command o || has_touched_line first act acts o) (order_row first acts) s.rows.orders
  unfolding tables_of
  order_are = slice.orders

  line_are : AreRows same_line (λ (r : LineRow). (r.order, r.gtin)) (λ (k : OrderItem). ((not (picks act.command) || is_touched first act acts k.1) && names_order act.command k.0) || (plans act.command && is_open first acts k.0 && is_touched first act acts k.1)) (λ (k : OrderItem). names_order act.command k.0 || is_touched first act acts k.1) (λ k. line_row first acts k.0 k.1) s.rows.lines
  unfolding tables_of
  line_are = slice.lines

  -- and of each of these orders whether it is urgent
  urgents_told : (o : List ℕ) → is_open first acts o && has_line acts o g ≡ true → find (λ (r : UrgentRow). same_text o r.order) s.rows.urgents ≡ urgent_row acts o
  unfolding tables_of
  urgents_told o e =
      let two = and_both (is_open first acts o) (has_line acts o g) e in
      slice.urgents.found o (λ i. planned i && two.0 i && line_touched first acts act s slice g touched (lines_of acts o) two.1 i)

  pub slice_tells_demands : TellsDemands first acts g s.rows
  slice_tells_demands = record {
    orders = loosened same_text (λ (r : OrderRow). r.order) _ (λ o. is_open first acts o && has_line acts o g) _ (λ o. true) (order_row first acts) (order_row first acts) s.rows.orders
        (λ o e. let two = and_both (is_open first acts o) (has_line acts o g) e in or_later (names_order act.command o) _ (λ i. planned i && two.0 i && line_touched first acts act s slice g touched (lines_of acts o) two.1 i)) (λ o e. refl) (λ o. refl) order_are;
    lines = loosened same_line (λ (r : LineRow). (r.order, r.gtin)) _ (λ k. is_open first acts k.0 && same_text g k.1) _ (λ k. true) (λ k. line_row first acts k.0 k.1) (λ k. line_row first acts k.0 k.1) s.rows.lines
        (λ k e. let two = and_both (is_open first acts k.0) (same_text g k.1) e in or_later ((not (picks act.command) || is_touched first act acts k.1) && names_order act.command k.0) _ (λ i. planned i && two.0 i && touched_item first acts act s slice g touched k.1 two.1 i)) (λ k e. refl) (λ k. refl) line_are;
    staged = slice_tells_stages first acts act s slice g touched (no_pick act.command planned);
    urgents = urgents_told;
  }
