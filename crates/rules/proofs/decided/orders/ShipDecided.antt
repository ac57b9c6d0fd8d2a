-- The shipping of an order is decided as the machine decides it.
use Rattle.rules.proofs.Words.{◌≡◌, ℕ, ◌+◌, Bool, true, false, ◌&&◌, List, ◌∷◌, ◌++◌, refl, ap, sym, ◌∙◌, arith, ◌==◌, map, Option, Some, None, Result, codes, decimal, ℤ, list_any, same_text, Key, Ship, OrderRow, LineRow, StagedRow, ShiplineRow, CardRow, Act, is_lot, shipments_so_far, reply, shipment_field, IsHistory, tables_of, no_two, IsSlice, number_seen, order_row_seen, ship_seen, shipment_seen, lines_shipped, line_shipped, rows_shipped, lacks_units, order_put, shipline, ship_card, ship_reply, ship_changes, Slice, Change, RuleFault, and_both, same_text_is, same_text_refl}
use Rattle.rules.proofs.rows.FoundRows.{kept_once}
use Rattle.rules.proofs.rows.TableSteps.{names_changed}
use Rattle.rules.proofs.decided.Decisions.{AreRight, IsChange}
use Rattle.rules.proofs.decided.orders.ShipJudged.{ship_judged}
use Rattle.rules.proofs.decided.orders.ShipTells.{number_is, shipment_is}
use Rattle.rules.proofs.decided.orders.ShipStep.{none_named, ship_step}

one_order : (x : Option OrderRow) (lacking : Bool) → no_two (λ (a b : OrderRow). same_text a.order b.order) (order_put x lacking) ≡ true
one_order None lacking = refl
one_order (Some r) true = refl
one_order (Some r) false = refl

-- rows of one order are apart by their lots
of_one_order : (o a b : List ℕ) (c : Bool) → same_text o a ≡ true → same_text o b ≡ true → c ≡ true → same_text a b && c ≡ true
of_one_order o a b c e f t =
    let same : a ≡ b = sym (same_text_is o a e) ∙ same_text_is o b f in
    λ i. (ap (λ (x : List ℕ). same_text x b) same ∙ same_text_refl b) i && t i

module _ (first : ℤ) (acts : List Act) (key : Key) (o : List ℕ) (s : Slice) (slice : IsSlice first (record { key = key; command = Ship o }) acts (tables_of first acts) s)
    (next : IsHistory first (record { key = key; command = Ship o } ∷ acts)) where
  abbrev act : Act
  act = record { key = key; command = Ship o }

  ship_text : ship_reply s ≡ reply first act acts
  ship_text = λ i. codes "{\"act\":" ++ decimal (number_is first acts key o s slice next i) ++ shipment_field ((shipment_is first acts key o s slice next ∙ last) i) ++ codes "}"
    where
      last : shipments_so_far first acts + 1 ≡ shipments_so_far first (act ∷ acts)
      last = omega arith

  lines_once : no_two (λ (a b : LineRow). same_text a.order b.order && same_text a.gtin b.gtin) (lines_shipped s o) ≡ true
  lines_once =
      kept_once (λ (r : LineRow). same_text o r.order) (λ a b. same_text a.order b.order && same_text a.gtin b.gtin) (line_shipped s.rows.staged) (λ a b. same_text a.order b.order && same_text a.gtin b.gtin)
      (λ a b e f t. t) s.rows.lines slice.lines.once

  shiplines_once : no_two (λ (a b : ShiplineRow). (a.number == b.number) && is_lot a.lot b.lot) (map (shipline (shipment_seen s)) (rows_shipped o s.rows.staged)) ≡ true
  shiplines_once =
      kept_once (λ (r : StagedRow). same_text o r.order) (λ a b. same_text a.order b.order && is_lot a.lot b.lot) (shipline (shipment_seen s)) (λ a b. (a.number == b.number) && is_lot a.lot b.lot)
      (λ a b e f t. of_one_order o a.order b.order (is_lot a.lot b.lot) e f (and_both (shipment_seen s == shipment_seen s) (is_lot a.lot b.lot) t).1) s.rows.staged slice.staged.once

  cards_once : no_two (λ (a b : CardRow). is_lot a.lot b.lot && (a.act == b.act)) (map (ship_card s) (rows_shipped o s.rows.staged)) ≡ true
  cards_once =
      kept_once (λ (r : StagedRow). same_text o r.order) (λ a b. same_text a.order b.order && is_lot a.lot b.lot) (ship_card s) (λ a b. is_lot a.lot b.lot && (a.act == b.act))
      (λ a b e f t. of_one_order o a.order b.order (is_lot a.lot b.lot) e f (and_both (is_lot a.lot b.lot) (number_seen s == number_seen s) t).0) s.rows.staged slice.staged.once

  ship_changed : IsChange first act acts (ship_changes s o)
  ship_changed = record {
    applies = ship_step first acts key o s slice next;
    text = ship_text;
    once = λ i. one_order (order_row_seen s o) (list_any lacks_units (lines_shipped s o)) i && (lines_once i && (shiplines_once i && (cards_once i && true)));
    named = names_changed first act acts (ship_changes s o) (none_named first acts key o s slice next);
  }

pub ships_right : (key : Key) (s : Slice) (result : Result Change RuleFault) (o : List ℕ) → AreRight key s result (Ship o) (ship_seen s o) (ship_changes s o)
ships_right key s result o first acts history slice = record { judged = ship_judged first acts key o s slice history; changed = λ ok next. ship_changed first acts key o s slice next }
