-- The rows of a slice without the order that is cancelled tell the plan of each of its items after the act.
use Rattle.rules.proofs.Words.{◌≡◌, ℕ, true, false, ◌&&◌, not, List, ◌∷◌, refl, ap, sym, ◌∙◌, ℤ, same_text, Key, Cancel, OrderRow, LineRow, Act, has_line, is_open, tables_of, order_row, line_row, is_touched, AreRows, same_line, IsSlice, other_orders, Slice, and_both, not_true, same_text_is, same_text_turned, rows_after_cancel}
use Rattle.rules.proofs.rows.AfterRows.{loosened}
use Rattle.rules.proofs.rows.KeptRows.{kept_rows}
use Rattle.rules.proofs.rows.DemandsTold.{TellsDemands}
use Rattle.rules.proofs.rows.SuppliesTold.{TellsSupplies}
use Rattle.rules.proofs.rows.SliceDemands.{slice_tells_demands}
use Rattle.rules.proofs.rows.SliceSupplies.{slice_tells_supplies}
use Rattle.rules.proofs.decided.orders.CancelStep.{not_open, open_same, other_row}

module _ (first : ℤ) (acts : List Act) (key : Key) (o : List ℕ) (s : Slice) (slice : IsSlice first (record { key = key; command = Cancel o }) acts (tables_of first acts) s)
    (g : List ℕ) (touched : is_touched first (record { key = key; command = Cancel o }) acts g ≡ true) where
  abbrev act : Act
  act = record { key = key; command = Cancel o }

  abbrev after : List Act
  after = act ∷ acts

  before : TellsDemands first acts g s.rows
  before = slice_tells_demands first acts act s slice refl g touched

  -- an order that is open after the act is another, and was open
  other : (q : List ℕ) → is_open first after q ≡ true → same_text q o ≡ false
  other q e = elim (same_text q o) as (λ b. same_text q o ≡ b → b ≡ false) [
    | true ↦ λ t. let f : true ≡ false = sym e ∙ ap (is_open first after) (same_text_is q o t) ∙ not_open first acts key o in cc
    | false ↦ λ t. refl
  ] refl

  was_open : (q : List ℕ) → is_open first after q ≡ true → is_open first acts q ≡ true
  was_open q e = sym (open_same first acts key o q (other q e)) ∙ e

  few : (q : List ℕ) → is_open first after q && has_line after q g ≡ true → (is_open first acts q && has_line acts q g ≡ true) × (not (same_text o q) ≡ true)
  few q e =
      let two = and_both (is_open first after q) (has_line after q g) e in
      ((λ i. was_open q two.0 i && two.1 i), ap not (same_text_turned o q ∙ other q two.0))

  orders_after : AreRows same_text (λ (r : OrderRow). r.order) (λ q. is_open first after q && has_line after q g) (λ q. true) (order_row first after) (other_orders s o)
  orders_after =
      kept_rows same_text same_text_is (λ (r : OrderRow). r.order) (λ q. not (same_text o q)) (λ q. is_open first acts q && has_line acts q g) (λ q. is_open first after q && has_line after q g) (λ q. true) (λ q. true)
      (order_row first acts) (order_row first after) few (λ q e. e) (λ q e. other_row first acts key o q (same_text_turned q o ∙ not_true (same_text o q) e)) s.rows.orders before.orders

  lines_after : AreRows same_line (λ (r : LineRow). (r.order, r.gtin)) (λ k. is_open first after k.0 && same_text g k.1) (λ k. true) (λ k. line_row first after k.0 k.1) s.rows.lines
  lines_after =
      loosened same_line (λ (r : LineRow). (r.order, r.gtin)) (λ k. is_open first acts k.0 && same_text g k.1) (λ k. is_open first after k.0 && same_text g k.1) (λ k. true) (λ k. true)
      (λ k. line_row first acts k.0 k.1) (λ k. line_row first after k.0 k.1) s.rows.lines
      (λ k e. let two = and_both (is_open first after k.0) (same_text g k.1) e in (λ i. was_open k.0 two.0 i && two.1 i)) (λ k e. e) (λ k. refl) before.lines

  pub demands_after : TellsDemands first after g (rows_after_cancel s o)
  demands_after = record { orders = orders_after; lines = lines_after; staged = before.staged; urgents = λ q e. before.urgents q (few q e).0 }

  pub supplies_after : TellsSupplies first after g (rows_after_cancel s o)
  supplies_after =
      let same = slice_tells_supplies first acts act s slice refl g touched in
      record { lots = same.lots; recalls = same.recalls; stock = same.stock; bins = same.bins }
