-- An order, urgent or not, judged by its slice is judged as by the acts.
use Rattle.rules.proofs.Words.{◌≡◌, ℕ, ◌+◌, ◌≤◌, ◌<◌, Bool, true, false, not, List, [], ◌∷◌, refl, ap, sym, ◌∙◌, arith, ◌||◌, nat_lt, ℤ, list_any, ltb-false, ltb-true, lt-ltb, le-ltb, same_text, OPEN_MAX, Key, OrderLine, NewOrder, UnknownItem, OrderExists, ItemTwice, OverOrdered, total, Act, has_item, open_units, IsHistory, tables_of, is_touched, IsSlice, plans, capped, first_refusal, judgement, names_item_twice, open_of_line, order_seen, misses_item, orders_too_much, Slice, or_later, same_text_refl}
use Rattle.rules.proofs.rows.Planned.{no_shipment}
use Rattle.rules.proofs.rows.SliceTells.{item_told}
use Rattle.rules.proofs.rows.OrderTold.{order_told}
use Rattle.rules.proofs.rows.SliceDemands.{slice_tells_demands}
use Rattle.rules.proofs.rows.OpenUnits.{rows_tell_open_units}
use Rattle.rules.proofs.decided.orders.Placing.{placing, placing_act, placing_plans, placing_names, placing_judged, touches_are}

-- Lines of the order are of items that it touches

-- each of these lines is of an item of the order
abbrev pub AllAmong : List OrderLine → List OrderLine → Type 0
AllAmong all [] = Unit {0}
AllAmong all (l ∷ ls) = (list_any (λ m. same_text l.gtin m.gtin) all ≡ true) × AllAmong all ls

among_more : (m : OrderLine) (all ls : List OrderLine) → AllAmong all ls → AllAmong (m ∷ all) ls
among_more m all [] h = tt
among_more m all (l ∷ ls) h = (or_later (same_text l.gtin m.gtin) _ h.0, among_more m all ls h.1)

pub all_among : (ls : List OrderLine) → AllAmong ls ls
all_among [] = tt
all_among (l ∷ ls) = (ap (λ b. b || list_any (λ m. same_text l.gtin m.gtin) ls) (same_text_refl l.gtin), among_more l ls ls (all_among ls))

-- a comparison with the limit is the same with and without the caps
more_than : (a m n : ℕ) → a ≡ n → nat_lt OPEN_MAX (capped (capped a + m)) ≡ nat_lt OPEN_MAX (n + m)
more_than a m n e =
    elim (nat_lt OPEN_MAX (n + m)) as (λ t. nat_lt OPEN_MAX (n + m) ≡ t → nat_lt OPEN_MAX (capped (capped a + m)) ≡ t) [
      | true ↦ λ f. let h : OPEN_MAX < n + m = ltb-true OPEN_MAX (n + m) f in lt-ltb _ _ (omega arith)
      | false ↦ λ f. let h : n + m ≤ OPEN_MAX = ltb-false OPEN_MAX (n + m) f in le-ltb _ _ (omega arith)
    ] refl

module _ (first : ℤ) (acts : List Act) (key : Key) (o : NewOrder) (u : Bool) (s : Slice)
    (slice : IsSlice first (placing_act key o u) acts (tables_of first acts) s) (history : IsHistory first acts) where
  abbrev act : Act
  act = placing_act key o u

  planned : plans act.command ≡ true
  planned = placing_plans u o

  touched : (g : List ℕ) → list_any (λ (m : OrderLine). same_text g m.gtin) o.lines ≡ true → is_touched first act acts g ≡ true
  touched g e = touches_are first acts key o u g ∙ e

  items_told : (ls : List OrderLine) → AllAmong o.lines ls → misses_item s ls ≡ list_any (λ l. not (has_item acts l.gtin)) ls
  items_told [] h = refl
  items_told (l ∷ ls) h = λ i. not (item_told first acts act s slice (no_shipment act.command planned) l.gtin (touched l.gtin h.0) i) || items_told ls h.1 i

  units_told : (g : List ℕ) → is_touched first act acts g ≡ true → total (open_of_line g s.rows.orders) s.rows.lines ≡ open_units first acts g
  units_told g t = rows_tell_open_units first acts history g s.rows (slice_tells_demands first acts act s slice planned g t)

  too_much_told : (ls : List OrderLine) → AllAmong o.lines ls → orders_too_much s ls ≡ list_any (λ l. nat_lt OPEN_MAX (open_units first acts l.gtin + l.qty)) ls
  too_much_told [] h = refl
  too_much_told (l ∷ ls) h = λ i. more_than (total (open_of_line l.gtin s.rows.orders) s.rows.lines) l.qty (open_units first acts l.gtin) (units_told l.gtin (touched l.gtin h.0)) i || too_much_told ls h.1 i

  pub order_judged : first_refusal (order_seen s o) ≡ first_refusal (judgement first acts (placing u o))
  order_judged =
      (λ i. first_refusal (
      (items_told o.lines (all_among o.lines) i, UnknownItem)
      ∷ (order_told first acts act s slice o.order (placing_names u o) i, OrderExists)
      ∷ (names_item_twice o.lines, ItemTwice)
      ∷ (too_much_told o.lines (all_among o.lines) i, OverOrdered) ∷ []))
      ∙ ap first_refusal (sym (placing_judged first acts u o))
