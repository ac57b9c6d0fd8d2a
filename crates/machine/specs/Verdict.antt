-- Whether a command is refused.
use Rattle.std.specs.Prelude.{ℕ, suc, ◌+◌, Bool, false, not, ◌&&◌, ◌||◌, ◌==◌, nat_lt, nat_le, if◌then◌else◌, List, [], ◌∷◌, length, Option, Some, None, ℤ, pos, negsuc, int_le}
use Rattle.std.specs.List.{list_any}
use Rattle.machine.specs.Words.{same_text, LotId, OrderLine, Refusal, ActsFull, UnknownItem, UnknownBin, UnknownLot, UnknownOrder, NoSuchLine, ItemExists, BinExists, OrderExists, ItemTwice, OtherExpiry, LotRecalled, LotExpired, TooFewDays, LotHeld, LotNotHeld, AlreadyRecalled, NotStoreBin, OrderClosed, StillStaged, NothingStaged, DayNotLater, NotInBin, OverReserved, OverStaged, SameBin, OverUnits, OverOrdered, Command, Item, Bin, Receive, Move, Count, Adjust, Order, Cancel, Pick, Unpick, Ship, Hold, Release, Recall, OpenDay, Least, Urgent}
use Rattle.commands.specs.declared.limits.TheConstants.{ITEMS_MAX, BINS_MAX, UNITS_MAX, OPEN_MAX, ACTS_MAX}
use Rattle.commands.specs.declared.command.NewOrder.{NewOrder}
use Rattle.machine.specs.Acts.{Act}
use Rattle.machine.specs.Standing.{KnownLot, items, has_item, bins, has_bin, is_store_bin, lot_known, has_lot, is_held, is_recalled, is_expired, is_short_dated, least_days, today, has_order, has_line}
use Rattle.machine.specs.Planning.{in_bin, staged_of_lot, staged_for_order, units_in_house, is_open, reserved, open_units}

-- conditions in the order of judging, each with its refusal
abbrev pub Judgement : Type 0
Judgement = List (Bool × Refusal)

-- the refusal of the first condition that holds
abbrev pub first_refusal : Judgement → Option Refusal
first_refusal [] = None
first_refusal (c ∷ cs) = if c.0 then Some c.1 else first_refusal cs

-- the lot is known with another expiry
abbrev pub expires_otherwise : Option KnownLot → ℤ → Bool
expires_otherwise None expiry = false
expires_otherwise (Some k) expiry = not (int_le k.expiry expiry && int_le expiry k.expiry)

-- the lot is known and expired
abbrev pub is_past : Option KnownLot → ℤ → Bool
is_past None day = false
is_past (Some k) day = is_expired day k.expiry

-- the lot is known, and has fewer days left, though it is not expired
abbrev pub is_below : Option KnownLot → ℤ → ℕ → Bool
is_below None day days = false
is_below (Some k) day days = is_short_dated day days k.expiry

-- two of the lines are of one item
abbrev pub names_item_twice : List OrderLine → Bool
names_item_twice [] = false
names_item_twice (l ∷ ls) = list_any (λ m. same_text l.gtin m.gtin) ls || names_item_twice ls

-- how many units a change takes off and puts on
abbrev pub taken_off : ℤ → ℕ
taken_off (pos k) = 0
taken_off (negsuc k) = suc k

abbrev pub put_on : ℤ → ℕ
put_on (pos k) = k
put_on (negsuc k) = 0

-- Each condition with its refusal
module _ (first : ℤ) (acts : List Act) where
  abbrev pub unknown_item : List ℕ → Bool × Refusal
  unknown_item g = (not (has_item acts g), UnknownItem)

  abbrev pub unknown_bin : List ℕ → Bool × Refusal
  unknown_bin b = (not (has_bin acts b), UnknownBin)

  abbrev pub unknown_lot : LotId → Bool × Refusal
  unknown_lot l = (not (has_lot acts l), UnknownLot)

  abbrev pub unknown_order : List ℕ → Bool × Refusal
  unknown_order o = (not (has_order acts o), UnknownOrder)

  abbrev pub no_such_line : List ℕ → List ℕ → Bool × Refusal
  no_such_line o g = (not (has_line acts o g), NoSuchLine)

  abbrev pub order_closed : List ℕ → Bool × Refusal
  order_closed o = (not (is_open first acts o), OrderClosed)

  abbrev pub lot_recalled : LotId → Bool × Refusal
  lot_recalled l = (is_recalled acts l, LotRecalled)

  abbrev pub lot_held : LotId → Bool × Refusal
  lot_held l = (is_held acts l, LotHeld)

  abbrev pub not_in_bin : List ℕ → LotId → ℕ → Bool × Refusal
  not_in_bin b l q = (nat_lt (in_bin first acts b l) q, NotInBin)

  -- with `more` units of the item put into the house and `fewer` taken out of it, they would exceed the limit
  abbrev pub over_units : List ℕ → ℕ → ℕ → Bool × Refusal
  over_units g more fewer = (nat_lt (UNITS_MAX + fewer) (units_in_house first acts g + more), OverUnits)

  -- those of an order, urgent or not
  abbrev pub ordering : NewOrder → Judgement
  ordering o =
      (list_any (λ l. not (has_item acts l.gtin)) o.lines, UnknownItem)
      ∷ (has_order acts o.order, OrderExists) ∷ (names_item_twice o.lines, ItemTwice)
      ∷ (list_any (λ l. nat_lt OPEN_MAX (open_units first acts l.gtin + l.qty)) o.lines, OverOrdered) ∷ []

  -- the conditions of each command, in the order in which they are judged
  abbrev pub judgement : Command → Judgement
  judgement (Item i) = (has_item acts i.gtin || nat_le ITEMS_MAX (length (items acts)), ItemExists) ∷ []
  judgement (Bin b) = (has_bin acts b.bin || nat_le BINS_MAX (length (bins acts)), BinExists) ∷ []
  judgement (Receive r) =
      unknown_item r.lot.gtin ∷ unknown_bin r.bin
      ∷ (expires_otherwise (lot_known acts r.lot) r.expiry, OtherExpiry)
      ∷ lot_recalled r.lot
      ∷ (is_expired (today first acts) r.expiry, LotExpired)
      ∷ over_units r.lot.gtin r.qty 0 ∷ []
  judgement (Move m) =
      unknown_item m.lot.gtin ∷ unknown_bin m.from ∷ unknown_bin m.to ∷ unknown_lot m.lot
      ∷ not_in_bin m.from m.lot m.qty ∷ (same_text m.from m.to, SameBin) ∷ []
  judgement (Count c) =
      unknown_item c.lot.gtin ∷ unknown_bin c.bin ∷ unknown_lot c.lot
      ∷ over_units c.lot.gtin c.qty (in_bin first acts c.bin c.lot) ∷ []
  judgement (Adjust a) =
      unknown_item a.lot.gtin ∷ unknown_bin a.bin ∷ unknown_lot a.lot
      ∷ not_in_bin a.bin a.lot (taken_off a.change) ∷ over_units a.lot.gtin (put_on a.change) (taken_off a.change) ∷ []
  judgement (Order o) = ordering o
  judgement (Urgent o) = ordering o
  judgement (Cancel o) =
      unknown_order o ∷ order_closed o ∷ (not (staged_for_order first acts o == 0), StillStaged) ∷ []
  judgement (Pick p) =
      unknown_item p.lot.gtin ∷ unknown_bin p.bin ∷ unknown_lot p.lot ∷ unknown_order p.order
      ∷ no_such_line p.order p.lot.gtin ∷ lot_recalled p.lot
      ∷ (is_past (lot_known acts p.lot) (today first acts), LotExpired)
      ∷ (is_below (lot_known acts p.lot) (today first acts) (least_days acts p.lot.gtin), TooFewDays)
      ∷ lot_held p.lot ∷ (not (is_store_bin acts p.bin), NotStoreBin) ∷ order_closed p.order
      ∷ not_in_bin p.bin p.lot p.qty ∷ (nat_lt (reserved first acts p.order p.lot) p.qty, OverReserved) ∷ []
  judgement (Unpick p) =
      unknown_item p.lot.gtin ∷ unknown_bin p.bin ∷ unknown_lot p.lot ∷ unknown_order p.order
      ∷ no_such_line p.order p.lot.gtin ∷ order_closed p.order
      ∷ (nat_lt (staged_of_lot first acts p.order p.lot) p.qty, OverStaged) ∷ []
  judgement (Ship o) =
      unknown_order o ∷ order_closed o ∷ (staged_for_order first acts o == 0, NothingStaged) ∷ []
  judgement (Hold l) = unknown_item l.gtin ∷ unknown_lot l ∷ lot_recalled l ∷ lot_held l ∷ []
  judgement (Release l) =
      unknown_item l.gtin ∷ unknown_lot l ∷ lot_recalled l ∷ (not (is_held acts l), LotNotHeld) ∷ []
  judgement (Recall l) = unknown_item l.gtin ∷ (is_recalled acts l, AlreadyRecalled) ∷ []
  judgement (OpenDay day) = (int_le day (today first acts), DayNotLater) ∷ []
  judgement (Least l) = unknown_item l.gtin ∷ []

  -- the number of acts is judged first
  abbrev pub all_judged : Command → Judgement
  all_judged command = (nat_le ACTS_MAX (length acts), ActsFull) ∷ judgement command

  -- the first refusal whose condition holds; the command is accepted if there is none
  abbrev pub verdict : Command → Option Refusal
  verdict command = first_refusal (all_judged command)
