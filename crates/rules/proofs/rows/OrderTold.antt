-- What the slice of a command tells of the order that it names: its row, its state, its lines, and, unless it is a pick, what is staged for it.
use Rattle.rules.proofs.Words.{◌≡◌, ℕ, ◌+◌, Bool, true, false, ◌&&◌, not, List, [], ◌∷◌, refl, ap, sym, ◌∙◌, arith, eq-eqb, ◌||◌, ◌==◌, if◌then◌else◌, find, Option, Some, None, option_map, is_some, ℤ, list_all, eqb-true, same_text, LotId, OrderLine, Open, Done, Cancelled, OrderRow, StagedRow, total, Act, Place, Supplier, InBin, Stage, Shipped, WriteOff, is_stage, any_lot, Placed, orders, order_named, has_lot, has_order, has_line, lines_of, lines_placed, is_cancelled, postings, is_open, is_open_state, is_shipped_in_full, order_state, shipped_of, staged_for_order, IsHistory, tables_of, if_any, order_row, line_row, staged_row, is_touched, AreRows, AreOwn, OrderLot, same_share, IsSlice, picks, names_order, capped, order_row_seen, sees_order, is_open_row, sees_open, line_row_seen, sees_line, staged_for, staged_for_seen, Slice, and_both, or_first, same_text_is, any_found, Cells, without, holds_split, legal_history, found_order, KnownPlace, unknown_holds_nothing, unknown_line_is_unstaged, stage_cells, staged_holds}
use Rattle.rules.proofs.rows.SliceTells.{some_mapped}
use Rattle.rules.proofs.rows.SliceDemands.{staged_touched}

module _ (first : ℤ) (acts : List Act) (act : Act) (s : Slice) (slice : IsSlice first act acts (tables_of first acts) s) (o : List ℕ) (named : names_order act.command o ≡ true) where
  pub found_order_row : order_row_seen s o ≡ order_row first acts o
  unfolding tables_of
  found_order_row = slice.orders.found o (or_first (names_order act.command o) _ named)

  pub order_told : sees_order s o ≡ has_order acts o
  order_told = ap is_some found_order_row ∙ some_mapped _ (order_named acts o)

  abbrev row_of : Placed → OrderRow
  row_of p = record { order = p.order; act = p.act; customer = p.customer; state = order_state first acts p.order }

  closed_anyway : (b : Bool) → false ≡ is_open_state (if b then Cancelled else Done)
  closed_anyway true = refl
  closed_anyway false = refl

  -- an unknown order is not open
  open_by : (p : Option Placed) → order_named acts o ≡ p → is_open_row (option_map row_of p) ≡ is_open first acts o
  open_by None e = closed_anyway (is_cancelled acts o) ∙ sym (ap (λ b. is_open_state (if is_cancelled acts o then Cancelled else (if b then Done else Open))) full)
    where
      full : is_shipped_in_full first acts o ≡ true
      full = ap (λ p. list_all (λ (l : OrderLine). shipped_of first acts o l.gtin == l.qty) (lines_placed p)) e
  open_by (Some p) e = ap (λ (x : List ℕ). is_open first acts x) (sym (found_order o (orders acts) p e))

  pub open_told : sees_open s o ≡ is_open first acts o
  open_told = ap is_open_row found_order_row ∙ open_by (order_named acts o) refl

  -- a pick tells of the line of the item that it touches
  pub found_line_row : (g : List ℕ) → not (picks act.command) || is_touched first act acts g ≡ true → line_row_seen s o g ≡ line_row first acts o g
  unfolding tables_of
  found_line_row g asked = slice.lines.found (o, g) (or_first ((not (picks act.command) || is_touched first act acts g) && names_order act.command o) _ (λ i. asked i && named i))

  pub line_told : (g : List ℕ) → not (picks act.command) || is_touched first act acts g ≡ true → sees_line s o g ≡ has_line acts o g
  line_told g asked = ap is_some (found_line_row g asked) ∙ some_mapped _ (find (λ l. same_text g l.gtin) (lines_of acts o)) ∙ any_found (λ (l : OrderLine). same_text g l.gtin) (lines_of acts o)

-- Units staged for an order, each item of whose lines the act touches

module _ (first : ℤ) (acts : List Act) (act : Act) (s : Slice) (slice : IsSlice first act acts (tables_of first acts) s) (whole : not (picks act.command) ≡ true) (history : IsHistory first acts)
    (o : List ℕ) (touched : (g : List ℕ) → has_line acts o g ≡ true → is_touched first act acts g ≡ true) where
  abbrev pick : LotId → List ℕ → Bool
  pick l q = same_text o q && is_touched first act acts l.gtin

  abbrev stage : Cells
  stage p l = is_stage o p && any_lot l

  staged_are : AreRows same_share (λ r. (r.order, r.lot)) (λ (k : OrderLot). is_touched first act acts k.1.gtin) (λ (k : OrderLot). true) (λ k. staged_row first acts k.0 k.1) s.rows.staged
  staged_are = staged_touched first acts act s slice whole

  inside : (p : Place) (l : LotId) → stage_cells pick p l ≡ true → stage p l ≡ true
  inside (Stage q) l e = ap (λ b. b && true) (and_both (same_text o q) (is_touched first act acts l.gtin) e).0
  inside Supplier l e = e
  inside WriteOff l e = e
  inside (InBin b) l e = e
  inside (Shipped n q) l e = e

  -- what is left of the stage is of items of which the order has no line
  left_out : (a b c : Bool) → (b ≡ true → c ≡ true) → (a ≡ true → b ≡ true) → (a && true) && not (a && c) ≡ false
  left_out true true true f g = refl
  left_out true true false f g = let h : false ≡ true = f refl in cc
  left_out true false c f g = let h : false ≡ true = g refl in cc
  left_out false b c f g = refl

  missed : (p : Place) (l : LotId) → KnownPlace first acts p l → has_lot acts l ≡ true → without stage (stage_cells pick) p l ≡ false
  missed (Stage q) l k h =
      left_out (same_text o q) (has_line acts o l.gtin) (is_touched first act acts l.gtin) (touched l.gtin)
      (λ e. ap (λ (x : List ℕ). has_line acts x l.gtin) (same_text_is o q e) ∙ k)
  missed Supplier l k h = refl
  missed WriteOff l k h = refl
  missed (InBin b) l k h = refl
  missed (Shipped n q) l k h = refl

  -- a row of the order is of an item of which it has a line
  row_touched : (r : StagedRow) → staged_row first acts r.order r.lot ≡ Some r → same_text o r.order ≡ true → is_touched first act acts r.lot.gtin ≡ true
  row_touched r is e = elim (has_line acts o r.lot.gtin) as (λ b. has_line acts o r.lot.gtin ≡ b → is_touched first act acts r.lot.gtin ≡ true) [
    | true ↦ touched r.lot.gtin
    | false ↦ λ none.
        let unstaged : staged_row first acts r.order r.lot ≡ None =
        ap (λ (x : List ℕ). staged_row first acts x r.lot) (sym (same_text_is o r.order e))
        ∙ ap (λ q. if_any q (record { order = o; lot = r.lot; qty = q })) (unknown_line_is_unstaged first acts history o r.lot none) in
        absurd (let clash : None ≡ Some r = sym unstaged ∙ is in cc)
  ] refl

  row_picked : (r : StagedRow) → staged_row first acts r.order r.lot ≡ Some r → pick r.lot r.order ≡ same_text o r.order
  row_picked r is = elim (same_text o r.order) as (λ b. same_text o r.order ≡ b → b && is_touched first act acts r.lot.gtin ≡ b) [
    | true ↦ λ e. row_touched r is e
    | false ↦ λ e. refl
  ] refl

  all_touched : (rows : List StagedRow) → AreOwn {K = OrderLot} (λ (r : StagedRow). (r.order, r.lot)) (λ k. true) (λ k. staged_row first acts k.0 k.1) rows
      → total (λ (r : StagedRow). if pick r.lot r.order then r.qty else 0) rows ≡ staged_for o rows
  all_touched [] h = refl
  all_touched (r ∷ rs) h = λ i. (if row_picked r h.1 i then r.qty else 0) + all_touched rs h.2 i

  -- the staged rows of the order add up to what is staged for it
  pub staged_rows_told : staged_for o s.rows.staged ≡ staged_for_order first acts o
  staged_rows_told =
      let legal = legal_history first acts history in
      let split = holds_split (postings first acts) legal (stage_cells pick) stage (record { supplier = λ m. refl; write_off = λ m. refl }) (record { supplier = λ m. refl; write_off = λ m. refl }) inside in
      let rest = unknown_holds_nothing first acts history (without stage (stage_cells pick)) missed in
      let rows = staged_holds first acts legal pick _ _ s.rows.staged staged_are (λ l q e. (and_both (same_text o q) (is_touched first act acts l.gtin) e).1) in
      omega (arith, split, rest, rows, all_touched s.rows.staged staged_are.own)

  none_capped : (n : ℕ) → (capped n == 0) ≡ (n == 0)
  none_capped n = elim (n == 0) as (λ b. (n == 0) ≡ b → (capped n == 0) ≡ b) [
    | true ↦ λ e. let z : n ≡ 0 = eqb-true n 0 e in eq-eqb (capped n) 0 (omega arith)
    | false ↦ λ e. elim (capped n == 0) as (λ b. (capped n == 0) ≡ b → b ≡ false) [
      | true ↦ λ f. let z : capped n ≡ 0 = eqb-true (capped n) 0 f in let y : n ≡ 0 = omega arith in let x : true ≡ false = sym (eq-eqb n 0 y) ∙ e in cc
      | false ↦ λ f. refl
    ] refl
  ] refl

  pub staged_for_order_told : (staged_for_seen s o == 0) ≡ (staged_for_order first acts o == 0)
  staged_for_order_told = none_capped (staged_for o s.rows.staged) ∙ ap (λ n. n == 0) staged_rows_told
