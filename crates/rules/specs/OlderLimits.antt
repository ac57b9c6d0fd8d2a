-- What programs of older schemas accepted: the rules of today under smaller limits.
use Rattle.std.specs.Prelude.{◌≡◌, ◌+◌, ◌≤◌, if◌then◌else◌, ◌∷◌}
use Rattle.rules.specs.Words.{ℕ, Bool, true, false, nat_lt, nat_le, List, [], length, map, Option, None, ℤ, IsTrue, list_any, is_business_day, ORDER_LINES_MAX, UNITS_MAX, OPEN_MAX, ACTS_MAX, Refusal, ActsFull, OverUnits, OverOrdered, NewOrder, Command, Receive, Count, Adjust, Order, Urgent, Act, in_bin, units_in_house, open_units, Judgement, first_refusal, judgement, verdict, taken_off, put_on, IsSoundRequest, IsHistory, bearer}

-- the limits that have grown: the lines of an order, an item's units in the house, and those that open orders want of it
pub record Limits : Type 0 where
  pub lines : ℕ
  pub units : ℕ
  pub wanted : ℕ

-- those of the programs that made books of schemas 1 to 3, and those of today
abbrev pub older_limits : Limits
older_limits = record { lines = 20; units = 1_000_000_000; wanted = 1_000_000_000 }

abbrev pub newest_limits : Limits
newest_limits = record { lines = ORDER_LINES_MAX; units = UNITS_MAX; wanted = OPEN_MAX }

-- none is smaller there
pub record AreWithin (few more : Limits) : Type 0 where
  pub lines : few.lines ≤ more.lines
  pub units : few.units ≤ more.units
  pub wanted : few.wanted ≤ more.wanted

-- the two refusals that a limit of units gives
abbrev pub is_over_units : Refusal → Bool
is_over_units OverUnits = true
is_over_units _ = false

abbrev pub is_over_ordered : Refusal → Bool
is_over_ordered OverOrdered = true
is_over_ordered _ = false

-- a condition of the rules, where these two are judged otherwise
abbrev pub limited : Bool → Bool → Bool × Refusal → Bool × Refusal
limited units wanted c = (if is_over_units c.1 then units else if is_over_ordered c.1 then wanted else c.0, c.1)

-- how many lines the command orders
abbrev pub lines_ordered : Command → ℕ
lines_ordered (Order o) = length o.lines
lines_ordered (Urgent o) = length o.lines
lines_ordered _ = 0

module _ (m : Limits) (first : ℤ) (acts : List Act) where
  -- the item's units in the house would exceed the limit
  abbrev pub exceeds_units : Command → Bool
  exceeds_units (Receive r) = nat_lt (m.units + 0) (units_in_house first acts r.lot.gtin + r.qty)
  exceeds_units (Count c) = nat_lt (m.units + in_bin first acts c.bin c.lot) (units_in_house first acts c.lot.gtin + c.qty)
  exceeds_units (Adjust a) = nat_lt (m.units + taken_off a.change) (units_in_house first acts a.lot.gtin + put_on a.change)
  exceeds_units _ = false

  -- what open orders want of an item of the order would exceed the limit
  abbrev pub order_exceeds : NewOrder → Bool
  order_exceeds o = list_any (λ l. nat_lt m.wanted (open_units first acts l.gtin + l.qty)) o.lines

  abbrev pub exceeds_wanted : Command → Bool
  exceeds_wanted (Order o) = order_exceeds o
  exceeds_wanted (Urgent o) = order_exceeds o
  exceeds_wanted _ = false

  -- the conditions of today under these limits
  abbrev pub judgement_under : Command → Judgement
  judgement_under command = map (limited (exceeds_units command) (exceeds_wanted command)) (judgement first acts command)

  abbrev pub verdict_under : Command → Option Refusal
  verdict_under command = first_refusal ((nat_le ACTS_MAX (length acts), ActsFull) ∷ judgement_under command)

-- the act was accepted after those before it, under a new key
pub record IsAcceptedUnder (m : Limits) (first : ℤ) (act : Act) (before : List Act) : Type 0 where
  pub passes : verdict_under m first before act.command ≡ None
  pub few : nat_le (lines_ordered act.command) m.lines ≡ true
  pub fresh : bearer act.key before ≡ None
  pub sound : IsSoundRequest act

-- the acts are those of some run under these limits from a business day
abbrev pub IsHistoryUnder : Limits → ℤ → List Act → Type 0
IsHistoryUnder m first [] = IsTrue (is_business_day first)
IsHistoryUnder m first (act ∷ before) = IsHistoryUnder m first before × IsAcceptedUnder m first act before

-- under the limits of today a command is judged as the machine judges it
abbrev pub TodayIsNewest : Type 0
TodayIsNewest = (first : ℤ) (acts : List Act) (command : Command) → verdict_under newest_limits first acts command ≡ verdict first acts command

-- a history under limits is one under any that are not smaller
abbrev pub LimitsMayGrow : Type 0
LimitsMayGrow = (few more : Limits) → AreWithin few more → (first : ℤ) (acts : List Act) → IsHistoryUnder few first acts → IsHistoryUnder more first acts

-- the history of an older program is one of the machine
abbrev pub OlderHistoriesGoOn : Type 0
OlderHistoriesGoOn = (first : ℤ) (acts : List Act) → IsHistoryUnder older_limits first acts → IsHistory first acts
