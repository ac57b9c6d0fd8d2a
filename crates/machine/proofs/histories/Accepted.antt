-- What holds where a command is accepted: the conditions of its refusals, turned.
use Rattle.machine.proofs.Words.{◌≡◌, ℕ, ◌+◌, ◌≤◌, true, false, not, List, [], ◌∷◌, refl, ◌==◌, nat_le, nat_lt, if◌then◌else◌, Some, None, length, ℤ, int_le, list_any, same_text, LotId, ITEMS_MAX, BINS_MAX, UNITS_MAX, OPEN_MAX, ACTS_MAX, NewItem, NewBin, Receipt, Movement, Recount, Adjustment, NewOrder, Picking, NewLeast, Command, Item, Bin, Receive, Move, Count, Adjust, Order, Cancel, Pick, Unpick, Ship, Hold, OpenDay, Least, Urgent, Act, items, has_item, bins, has_bin, is_store_bin, lot_known, has_lot, is_held, is_recalled, is_expired, today, least_days, has_order, has_line, in_bin, staged_of_lot, staged_for_order, units_in_house, is_open, reserved, open_units, Judgement, first_refusal, verdict, all_judged, expires_otherwise, is_past, is_below, names_item_twice, taken_off, put_on}
use Rattle.machine.proofs.Tests.{not_false, or_none, at_most, is_zero}

-- no condition of the list holds
abbrev NoneHolds : Judgement → Type 0
NoneHolds [] = Unit {0}
NoneHolds (c ∷ cs) = (c.0 ≡ false) × NoneHolds cs

none_holds : (cs : Judgement) → first_refusal cs ≡ None → NoneHolds cs
none_holds [] e = tt
none_holds (c ∷ cs) e =
    elim (c.0) as (λ b. c.0 ≡ b → (if b then Some c.1 else first_refusal cs) ≡ None → (c.0 ≡ false) × NoneHolds cs) [
      | true ↦ λ p q. cc
      | false ↦ λ p q. (p, none_holds cs q)
    ] refl e

passed : (first : ℤ) (acts : List Act) (c : Command) → verdict first acts c ≡ None → NoneHolds (all_judged first acts c)
passed first acts c ok = none_holds (all_judged first acts c) ok

-- each command needs room for one more act
pub room_for_acts : (first : ℤ) (acts : List Act) (c : Command) → verdict first acts c ≡ None → nat_le ACTS_MAX (length acts) ≡ false
room_for_acts first acts c ok = (passed first acts c ok).0

module _ (first : ℤ) (acts : List Act) where
  pub record ItemAccepted (i : NewItem) : Type 0 where
    pub new : has_item acts i.gtin ≡ false
    pub room : nat_le ITEMS_MAX (length (items acts)) ≡ false

  pub item_accepted : (i : NewItem) → verdict first acts (Item i) ≡ None → ItemAccepted i
  item_accepted i ok =
      let h = passed first acts (Item i) ok in
      let two = or_none (has_item acts i.gtin) (nat_le ITEMS_MAX (length (items acts))) h.1.0 in
      record { new = two.0; room = two.1 }

  pub record BinAccepted (b : NewBin) : Type 0 where
    pub new : has_bin acts b.bin ≡ false
    pub room : nat_le BINS_MAX (length (bins acts)) ≡ false

  pub bin_accepted : (b : NewBin) → verdict first acts (Bin b) ≡ None → BinAccepted b
  bin_accepted b ok =
      let h = passed first acts (Bin b) ok in
      let two = or_none (has_bin acts b.bin) (nat_le BINS_MAX (length (bins acts))) h.1.0 in
      record { new = two.0; room = two.1 }

  pub record ReceiveAccepted (r : Receipt) : Type 0 where
    pub item : has_item acts r.lot.gtin ≡ true
    pub bin : has_bin acts r.bin ≡ true
    pub expiry : expires_otherwise (lot_known acts r.lot) r.expiry ≡ false
    pub not_recalled : is_recalled acts r.lot ≡ false
    pub not_expired : is_expired (today first acts) r.expiry ≡ false
    pub fits : units_in_house first acts r.lot.gtin + r.qty ≤ UNITS_MAX + 0

  pub receive_accepted : (r : Receipt) → verdict first acts (Receive r) ≡ None → ReceiveAccepted r
  receive_accepted r ok =
      let h = passed first acts (Receive r) ok in
      record {
        item = not_false _ h.1.0;
        bin = not_false _ h.1.1.0;
        expiry = h.1.1.1.0;
        not_recalled = h.1.1.1.1.0;
        not_expired = h.1.1.1.1.1.0;
        fits = at_most _ _ h.1.1.1.1.1.1.0;
      }

  pub record MoveAccepted (m : Movement) : Type 0 where
    pub item : has_item acts m.lot.gtin ≡ true
    pub from : has_bin acts m.from ≡ true
    pub to : has_bin acts m.to ≡ true
    pub lot : has_lot acts m.lot ≡ true
    pub there : m.qty ≤ in_bin first acts m.from m.lot
    pub apart : same_text m.from m.to ≡ false

  pub move_accepted : (m : Movement) → verdict first acts (Move m) ≡ None → MoveAccepted m
  move_accepted m ok =
      let h = passed first acts (Move m) ok in
      record {
        item = not_false _ h.1.0;
        from = not_false _ h.1.1.0;
        to = not_false _ h.1.1.1.0;
        lot = not_false _ h.1.1.1.1.0;
        there = at_most _ _ h.1.1.1.1.1.0;
        apart = h.1.1.1.1.1.1.0;
      }

  pub record CountAccepted (c : Recount) : Type 0 where
    pub item : has_item acts c.lot.gtin ≡ true
    pub bin : has_bin acts c.bin ≡ true
    pub lot : has_lot acts c.lot ≡ true
    pub fits : units_in_house first acts c.lot.gtin + c.qty ≤ UNITS_MAX + in_bin first acts c.bin c.lot

  pub count_accepted : (c : Recount) → verdict first acts (Count c) ≡ None → CountAccepted c
  count_accepted c ok =
      let h = passed first acts (Count c) ok in
      record { item = not_false _ h.1.0; bin = not_false _ h.1.1.0; lot = not_false _ h.1.1.1.0; fits = at_most _ _ h.1.1.1.1.0 }

  pub record AdjustAccepted (a : Adjustment) : Type 0 where
    pub item : has_item acts a.lot.gtin ≡ true
    pub bin : has_bin acts a.bin ≡ true
    pub lot : has_lot acts a.lot ≡ true
    pub there : taken_off a.change ≤ in_bin first acts a.bin a.lot
    pub fits : units_in_house first acts a.lot.gtin + put_on a.change ≤ UNITS_MAX + taken_off a.change

  pub adjust_accepted : (a : Adjustment) → verdict first acts (Adjust a) ≡ None → AdjustAccepted a
  adjust_accepted a ok =
      let h = passed first acts (Adjust a) ok in
      record {
        item = not_false _ h.1.0;
        bin = not_false _ h.1.1.0;
        lot = not_false _ h.1.1.1.0;
        there = at_most _ _ h.1.1.1.1.0;
        fits = at_most _ _ h.1.1.1.1.1.0;
      }

  pub record OrderAccepted (o : NewOrder) : Type 0 where
    pub known : list_any (λ l. not (has_item acts l.gtin)) o.lines ≡ false
    pub new : has_order acts o.order ≡ false
    pub single : names_item_twice o.lines ≡ false
    pub fits : list_any (λ l. nat_lt OPEN_MAX (open_units first acts l.gtin + l.qty)) o.lines ≡ false

  pub order_accepted : (o : NewOrder) → verdict first acts (Order o) ≡ None → OrderAccepted o
  order_accepted o ok =
      let h = passed first acts (Order o) ok in
      record { known = h.1.0; new = h.1.1.0; single = h.1.1.1.0; fits = h.1.1.1.1.0 }

  pub urgent_accepted : (o : NewOrder) → verdict first acts (Urgent o) ≡ None → OrderAccepted o
  urgent_accepted o ok =
      let h = passed first acts (Urgent o) ok in
      record { known = h.1.0; new = h.1.1.0; single = h.1.1.1.0; fits = h.1.1.1.1.0 }

  pub record CancelAccepted (o : List ℕ) : Type 0 where
    pub order : has_order acts o ≡ true
    pub still_open : is_open first acts o ≡ true
    pub unstaged : staged_for_order first acts o ≡ 0

  pub cancel_accepted : (o : List ℕ) → verdict first acts (Cancel o) ≡ None → CancelAccepted o
  cancel_accepted o ok =
      let h = passed first acts (Cancel o) ok in
      record { order = not_false _ h.1.0; still_open = not_false _ h.1.1.0; unstaged = is_zero _ (not_false _ h.1.1.1.0) }

  pub record PickAccepted (p : Picking) : Type 0 where
    pub item : has_item acts p.lot.gtin ≡ true
    pub bin : has_bin acts p.bin ≡ true
    pub lot : has_lot acts p.lot ≡ true
    pub order : has_order acts p.order ≡ true
    pub line : has_line acts p.order p.lot.gtin ≡ true
    pub not_recalled : is_recalled acts p.lot ≡ false
    pub not_past : is_past (lot_known acts p.lot) (today first acts) ≡ false
    pub not_below : is_below (lot_known acts p.lot) (today first acts) (least_days acts p.lot.gtin) ≡ false
    pub not_held : is_held acts p.lot ≡ false
    pub store : is_store_bin acts p.bin ≡ true
    pub still_open : is_open first acts p.order ≡ true
    pub there : p.qty ≤ in_bin first acts p.bin p.lot
    pub is_reserved : p.qty ≤ reserved first acts p.order p.lot

  pub pick_accepted : (p : Picking) → verdict first acts (Pick p) ≡ None → PickAccepted p
  pick_accepted p ok =
      let h = passed first acts (Pick p) ok in
      record {
        item = not_false _ h.1.0;
        bin = not_false _ h.1.1.0;
        lot = not_false _ h.1.1.1.0;
        order = not_false _ h.1.1.1.1.0;
        line = not_false _ h.1.1.1.1.1.0;
        not_recalled = h.1.1.1.1.1.1.0;
        not_past = h.1.1.1.1.1.1.1.0;
        not_below = h.1.1.1.1.1.1.1.1.0;
        not_held = h.1.1.1.1.1.1.1.1.1.0;
        store = not_false _ h.1.1.1.1.1.1.1.1.1.1.0;
        still_open = not_false _ h.1.1.1.1.1.1.1.1.1.1.1.0;
        there = at_most _ _ h.1.1.1.1.1.1.1.1.1.1.1.1.0;
        is_reserved = at_most _ _ h.1.1.1.1.1.1.1.1.1.1.1.1.1.0;
      }

  pub record UnpickAccepted (p : Picking) : Type 0 where
    pub item : has_item acts p.lot.gtin ≡ true
    pub bin : has_bin acts p.bin ≡ true
    pub lot : has_lot acts p.lot ≡ true
    pub order : has_order acts p.order ≡ true
    pub line : has_line acts p.order p.lot.gtin ≡ true
    pub still_open : is_open first acts p.order ≡ true
    pub there : p.qty ≤ staged_of_lot first acts p.order p.lot

  pub unpick_accepted : (p : Picking) → verdict first acts (Unpick p) ≡ None → UnpickAccepted p
  unpick_accepted p ok =
      let h = passed first acts (Unpick p) ok in
      record {
        item = not_false _ h.1.0;
        bin = not_false _ h.1.1.0;
        lot = not_false _ h.1.1.1.0;
        order = not_false _ h.1.1.1.1.0;
        line = not_false _ h.1.1.1.1.1.0;
        still_open = not_false _ h.1.1.1.1.1.1.0;
        there = at_most _ _ h.1.1.1.1.1.1.1.0;
      }

  pub record ShipAccepted (o : List ℕ) : Type 0 where
    pub order : has_order acts o ≡ true
    pub still_open : is_open first acts o ≡ true
    pub staged : (staged_for_order first acts o == 0) ≡ false

  pub ship_accepted : (o : List ℕ) → verdict first acts (Ship o) ≡ None → ShipAccepted o
  ship_accepted o ok =
      let h = passed first acts (Ship o) ok in
      record { order = not_false _ h.1.0; still_open = not_false _ h.1.1.0; staged = h.1.1.1.0 }

  pub record HoldAccepted (l : LotId) : Type 0 where
    pub item : has_item acts l.gtin ≡ true
    pub lot : has_lot acts l ≡ true
    pub not_recalled : is_recalled acts l ≡ false
    pub not_held : is_held acts l ≡ false

  pub hold_accepted : (l : LotId) → verdict first acts (Hold l) ≡ None → HoldAccepted l
  hold_accepted l ok =
      let h = passed first acts (Hold l) ok in
      record { item = not_false _ h.1.0; lot = not_false _ h.1.1.0; not_recalled = h.1.1.1.0; not_held = h.1.1.1.1.0 }

  pub day_accepted : (day : ℤ) → verdict first acts (OpenDay day) ≡ None → int_le day (today first acts) ≡ false
  day_accepted day ok = let h = passed first acts (OpenDay day) ok in h.1.0

  pub least_accepted : (l : NewLeast) → verdict first acts (Least l) ≡ None → has_item acts l.gtin ≡ true
  least_accepted l ok = let h = passed first acts (Least l) ok in not_false _ h.1.0
