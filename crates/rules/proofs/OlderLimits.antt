-- Larger limits refuse no more, and those of today are the machine's.
use Rattle.rules.proofs.Words.{◌≡◌, ℕ, ◌+◌, ◌≤◌, Bool, true, false, List, [], ◌∷◌, refl, ap, sym, ◌∙◌, arith, ◌||◌, nat_lt, nat_le, if◌then◌else◌, length, map, Some, None, ℤ, list_any, nat_tests, ACTS_MAX, OrderLine, Refusal, ActsFull, Command, Item, Receive, Count, Adjust, Order, Urgent, Act, in_bin, units_in_house, open_units, Judgement, first_refusal, judgement, taken_off, put_on, IsHistory, or_none, Limits, older_limits, newest_limits, AreWithin, is_over_units, is_over_ordered, limited, lines_ordered, exceeds_units, exceeds_wanted, judgement_under, verdict_under, IsHistoryUnder, TodayIsNewest, LimitsMayGrow, OlderHistoriesGoOn}

-- One condition in front

no_refusal : (why : Refusal) (cs : Judgement) (b : Bool) → first_refusal ((b, why) ∷ cs) ≡ None → (b ≡ false) × (first_refusal cs ≡ None)
no_refusal why cs true e = absurd (let clash : Some why ≡ None = e in cc)
no_refusal why cs false e = (refl, e)

passed : (why : Refusal) (cs : Judgement) (b : Bool) → b ≡ false → first_refusal cs ≡ None → first_refusal ((b, why) ∷ cs) ≡ None
passed why cs b holds_not e = ap (λ t. if t then Some why else first_refusal cs) holds_not ∙ e

-- Where two conditions hold no more often, no more is refused

module _ (units more_units wanted more_wanted : Bool) (fewer : units ≡ false → more_units ≡ false) (fewer_wanted : wanted ≡ false → more_wanted ≡ false) where
  holds_less : (b over ordered : Bool) → (if over then units else if ordered then wanted else b) ≡ false → (if over then more_units else if ordered then more_wanted else b) ≡ false
  holds_less b true ordered e = fewer e
  holds_less b false true e = fewer_wanted e
  holds_less b false false e = e

  refuses_less : (cs : Judgement) → first_refusal (map (limited units wanted) cs) ≡ None → first_refusal (map (limited more_units more_wanted) cs) ≡ None
  refuses_less [] e = refl
  refuses_less (c ∷ cs) e =
      let two = no_refusal c.1 (map (limited units wanted) cs) (limited units wanted c).0 e in
      passed c.1 (map (limited more_units more_wanted) cs) (limited more_units more_wanted c).0
      (holds_less c.0 (is_over_units c.1) (is_over_ordered c.1) two.0) (refuses_less cs two.1)

-- Larger limits are exceeded no more often

not_over : (few more a n : ℕ) → few ≤ more → nat_lt (few + a) n ≡ false → nat_lt (more + a) n ≡ false
not_over few more a n up e = grind (arith, nat_tests)

not_wanted : (few more n : ℕ) → few ≤ more → nat_lt few n ≡ false → nat_lt more n ≡ false
not_wanted few more n up e = grind (arith, nat_tests)

still_few : (few more n : ℕ) → few ≤ more → nat_le n few ≡ true → nat_le n more ≡ true
still_few few more n up e = grind (arith, nat_tests)

module _ (few more : Limits) (within : AreWithin few more) (first : ℤ) (acts : List Act) where
  units_less : (command : Command) → exceeds_units few first acts command ≡ false → exceeds_units more first acts command ≡ false
  units_less (Receive r) e = not_over few.units more.units 0 (units_in_house first acts r.lot.gtin + r.qty) within.units e
  units_less (Count c) e = not_over few.units more.units (in_bin first acts c.bin c.lot) (units_in_house first acts c.lot.gtin + c.qty) within.units e
  units_less (Adjust a) e = not_over few.units more.units (taken_off a.change) (units_in_house first acts a.lot.gtin + put_on a.change) within.units e
  units_less command e = refl

  lines_less : (ls : List OrderLine) → list_any (λ l. nat_lt few.wanted (open_units first acts l.gtin + l.qty)) ls ≡ false → list_any (λ l. nat_lt more.wanted (open_units first acts l.gtin + l.qty)) ls ≡ false
  lines_less [] e = refl
  lines_less (l ∷ ls) e =
      let two = or_none (nat_lt few.wanted (open_units first acts l.gtin + l.qty)) (list_any (λ l. nat_lt few.wanted (open_units first acts l.gtin + l.qty)) ls) e in
      λ i. not_wanted few.wanted more.wanted (open_units first acts l.gtin + l.qty) within.wanted two.0 i || lines_less ls two.1 i

  wanted_less : (command : Command) → exceeds_wanted few first acts command ≡ false → exceeds_wanted more first acts command ≡ false
  wanted_less (Order o) e = lines_less o.lines e
  wanted_less (Urgent o) e = lines_less o.lines e
  wanted_less command e = refl

  accepted_still : (command : Command) → verdict_under few first acts command ≡ None → verdict_under more first acts command ≡ None
  accepted_still command e =
      let two = no_refusal ActsFull (judgement_under few first acts command) (nat_le ACTS_MAX (length acts)) e in
      passed ActsFull (judgement_under more first acts command) (nat_le ACTS_MAX (length acts)) two.0
      (refuses_less (exceeds_units few first acts command) (exceeds_units more first acts command) (exceeds_wanted few first acts command) (exceeds_wanted more first acts command)
      (units_less command) (wanted_less command) (judgement first acts command) two.1)

pub limits_may_grow : LimitsMayGrow
limits_may_grow few more within first [] h = h
limits_may_grow few more within first (act ∷ before) h = (
  limits_may_grow few more within first before h.0,
  record {
    passes = accepted_still few more within first before act.command h.1.passes;
    few = still_few few.lines more.lines (lines_ordered act.command) within.lines h.1.few;
    fresh = h.1.fresh;
    sound = h.1.sound;
  },
)

-- The limits of today

judged_today : (first : ℤ) (acts : List Act) (command : Command) → judgement_under newest_limits first acts command ≡ judgement first acts command
judged_today first acts (Item i) = refl
judged_today first acts _ = refl

pub today_is_newest : TodayIsNewest
today_is_newest first acts command = ap (λ cs. first_refusal ((nat_le ACTS_MAX (length acts), ActsFull) ∷ cs)) (judged_today first acts command)

history_today : (first : ℤ) (acts : List Act) → IsHistoryUnder newest_limits first acts → IsHistory first acts
history_today first [] h = h
history_today first (act ∷ before) h = (
  history_today first before h.0,
  record { passes = sym (today_is_newest first before act.command) ∙ h.1.passes; fresh = h.1.fresh; sound = h.1.sound },
)

none_smaller : AreWithin older_limits newest_limits
none_smaller = record { lines = grind arith; units = grind arith; wanted = grind arith }

pub older_histories_go_on : OlderHistoriesGoOn
older_histories_go_on first acts h = history_today first acts (limits_may_grow older_limits newest_limits none_smaller first acts h)
