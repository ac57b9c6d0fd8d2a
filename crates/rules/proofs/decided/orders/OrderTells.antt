-- What the rows of an order's slice tell of it, urgent or not: its number and row, and that it is new.
use Rattle.rules.proofs.Words.{◌≡◌, ℕ, Bool, true, false, ◌&&◌, not, List, [], ◌∷◌, refl, ap, ◌∙◌, ◌||◌, ℤ, map, list_all, list_any, same_text, is_qty, is_gtin, has_order_lines, is_order_line, are_lines, Key, OrderLine, NewOrder, Open, LineRow, Act, next_number, has_order, IsHistory, tables_of, names_item_twice, no_two, IsSlice, number_seen, new_order_row, new_line_rows, Slice, and_both, and_false, or_none, same_text_refl, same_text_turned, AreApart, AllFound, all_found, at_least_one, OrderAccepted, room_for_acts}
use Rattle.rules.proofs.decided.orders.Placing.{placing, placing_act, placing_lines, placing_accepted}
use Rattle.rules.proofs.decided.orders.OrderStep.{WantsUnits, new_row}
use Rattle.rules.proofs.decided.Decisions.{number_same}

-- What sound lines want

wants_units : (ls : List OrderLine) → are_lines ls ≡ true → WantsUnits ls
wants_units [] e = let f : false ≡ true = e in cc
wants_units (l ∷ ls) e =
    let each = (and_both (has_order_lines (l ∷ ls)) (list_all is_order_line (l ∷ ls)) e).1 in
    at_least_one l.qty (and_both (is_gtin l.gtin) (is_qty l.qty) (and_both (is_order_line l) (list_all is_order_line ls) each).0).1

-- Lines of one item are one

abbrev pub same_item : OrderLine → OrderLine → Bool
same_item l m = same_text l.gtin m.gtin

pub single_apart : (ls : List OrderLine) → names_item_twice ls ≡ false → AreApart same_item ls
single_apart [] e = tt
single_apart (l ∷ ls) e = let two = or_none (list_any (λ m. same_text l.gtin m.gtin) ls) (names_item_twice ls) e in (two.0, single_apart ls two.1)

-- No line row is put twice

none_of_item : (o : NewOrder) (q g : List ℕ) (ls : List OrderLine) → list_any (λ m. same_text g m.gtin) ls ≡ false
    → list_any (λ (r : LineRow). same_text q r.order && same_text g r.gtin) (map (λ l. record { order = o.order; gtin = l.gtin; ordered = l.qty; shipped = 0 }) ls) ≡ false
none_of_item o q g [] e = refl
none_of_item o q g (l ∷ ls) e =
    let two = or_none (same_text g l.gtin) (list_any (λ m. same_text g m.gtin) ls) e in
    (λ i. (ap (λ b. same_text q o.order && b) two.0 ∙ and_false (same_text q o.order)) i || none_of_item o q g ls two.1 i)

lines_once : (o : NewOrder) (ls : List OrderLine) → names_item_twice ls ≡ false
    → no_two (λ (r t : LineRow). same_text r.order t.order && same_text r.gtin t.gtin) (map (λ l. record { order = o.order; gtin = l.gtin; ordered = l.qty; shipped = 0 }) ls) ≡ true
lines_once o [] e = refl
lines_once o (l ∷ ls) e =
    let two = or_none (list_any (λ m. same_text l.gtin m.gtin) ls) (names_item_twice ls) e in
    (λ i. not (none_of_item o o.order l.gtin ls two.0 i) && lines_once o ls two.1 i)

module _ (first : ℤ) (acts : List Act) (key : Key) (o : NewOrder) (u : Bool) (s : Slice) (slice : IsSlice first (placing_act key o u) acts (tables_of first acts) s)
    (next : IsHistory first (placing_act key o u ∷ acts)) where
  abbrev act : Act
  act = placing_act key o u

  accepted : OrderAccepted first acts o
  accepted = placing_accepted first acts u o next.1.passes

  pub is_new : has_order acts o.order ≡ false
  is_new = accepted.new

  pub is_single : names_item_twice o.lines ≡ false
  is_single = accepted.single

  pub are_sound : are_lines o.lines ≡ true
  are_sound = placing_lines u o next.1.sound.command

  pub some_wanted : WantsUnits o.lines
  some_wanted = wants_units o.lines are_sound

  pub number_is : number_seen s ≡ next_number acts
  number_is = number_same first acts act s slice (room_for_acts first acts (placing u o) next.1.passes)

  -- the order row put is that of the act
  pub row_is : new_order_row s o ≡ new_row first acts key o u
  row_is = ap (λ n. record { order = o.order; act = n; customer = o.customer; state = Open }) number_is

  pub new_lines_once : no_two (λ (r t : LineRow). same_text r.order t.order && same_text r.gtin t.gtin) (new_line_rows o) ≡ true
  new_lines_once = lines_once o o.lines is_single

  -- each line is found by its item, and is the only one of it
  pub lines_found : AllFound same_item o.lines o.lines
  lines_found = all_found same_item (λ l. same_text_refl l.gtin) (λ l m. same_text_turned l.gtin m.gtin) o.lines (single_apart o.lines is_single)
