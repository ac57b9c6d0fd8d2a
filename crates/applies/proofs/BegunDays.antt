-- The days on which acts began.
use Rattle.applies.proofs.Words.{◌≡◌, ℕ, ◌<◌, true, false, List, [], ◌∷◌, ◌++◌, find, Option, Some, None, option_map, inl, inr, refl, sym, ap, subst, ◌∙◌, arith, eq-eqb, eqb-true, ◌⊎◌, ℤ, pos, ◌-ℤ◌, Bool, ◌&&◌, if◌then◌else◌, IsTrue, int_le, int_lt, nat_eq, AllByRecursion, cases_Bool, ints, IsAscending, is_business_day, LotId, StopsWithin, CardRow, and_both, day_before, Received, Opened, Act, IsHistory, tables_of, card_row, card_of_lot, card_in_order, start_of, first_day, IsStartBy, IsStart, IsPassed, TellsDay, CardDay, still, earlier_alike, told_day_stands, before_opened, BegunOn, earlier_day}

-- ---- the day is one on which they began

pub begun_told : (first : ℤ) (acts : List Act) (day : ℤ) → IsHistory first acts → IsStart first acts day → BegunOn first acts day
begun_told first acts day h told = let both = told_day_stands first day acts h told in record { history = both.0; tables = sym both.1 }

-- it is this day, or an earlier business day
abbrev IsEarlier : (last day : ℤ) → Type 0
IsEarlier last day = (day ≡ last) ⊎ (IsTrue (is_business_day day) × (int_le day last ≡ true))

earlier_by : (b : Bool) (day last : ℤ) → is_business_day day && int_le day last ≡ b → IsEarlier last (if b then day else last)
earlier_by true day last e = let two = and_both (is_business_day day) (int_le day last) e in inr (two.0, two.1)
earlier_by false day last e = inl refl

earlier_is : (told : Option ℤ) (last : ℤ) → IsEarlier last (earlier_day told last)
earlier_is None last = inl refl
earlier_is (Some day) last = earlier_by (is_business_day day && int_le day last) day last refl

begun_before : (first : ℤ) (acts : List Act) (day begun : ℤ) → IsHistory first acts → start_of acts ≡ Some (Opened day) → IsEarlier (day_before day) begun → BegunOn first acts begun
begun_before first acts day begun h told early = elim early [
  | inl same ↦ begun_told first acts begun h (ap (first_day (tables_of first acts)) told ∙ ap (λ d. Some d) (sym same))
  | inr before ↦
      let low : int_le begun (day -ℤ pos 1) ≡ true = subst (λ d. int_le begun d ≡ true) (before_opened first day acts h told) before.1 in
      let less : int_lt begun day ≡ true = grind (arith, ints) in
      let both = earlier_alike first begun day acts h told before.0 less in
      record { history = both.0; tables = sym both.1 }
]

pub begun_opened : (first : ℤ) (acts : List Act) (day begun : ℤ) (line : Option ℤ) → IsHistory first acts → start_of acts ≡ Some (Opened day) → begun ≡ earlier_day line (day_before day) → BegunOn first acts begun
begun_opened first acts day begun line h told is = begun_before first acts day begun h told (subst (IsEarlier (day_before day)) (sym is) (earlier_is line (day_before day)))

-- ---- the line of an act on the card of a lot

-- where the numbers rise, a line is found under its own
found_here : (taken others : List CardRow) (row : CardRow) → IsAscending (λ (a b : CardRow). a.act < b.act) (taken ++ row ∷ others) → find (λ (c : CardRow). nat_eq row.act c.act) (taken ++ row ∷ others) ≡ Some row
found_here [] others row up = let same : nat_eq row.act row.act ≡ true = eq-eqb row.act row.act refl in rw same refl
found_here (x ∷ taken) others row up =
    let below = at_there taken others row up.0 in
    let other : nat_eq row.act x.act ≡ false = apart row.act x.act below in
    rw other (found_here taken others row up.1)
  where
    at_there : (xs ys : List CardRow) (y : CardRow) → AllByRecursion (λ (b : CardRow). x.act < b.act) (xs ++ y ∷ ys) → x.act < y.act
    at_there [] ys y all = all.0
    at_there (z ∷ xs) ys y all = at_there xs ys y all.1

    apart : (n m : ℕ) → m < n → nat_eq n m ≡ false
    apart n m low = elim (cases_Bool (nat_eq n m)) [ inl hit ↦ let same = eqb-true n m hit in absurd (omega (arith, low, same)) | inr miss ↦ miss ]

pub card_told : (first : ℤ) (acts : List Act) (lot : LotId) (start after : CardDay) → start.lot ≡ lot → StopsWithin IsPassed TellsDay start (card_of_lot first acts lot) after → (day : ℤ) → after.day ≡ Some day
    → IsStartBy first acts (Some (Received lot start.act)) day
unfolding tables_of
card_told first acts lot start after own h day is =
    let order = card_in_order first lot acts in
    let same = still h.taken start h.last h.reached in
    let here = found_here h.taken h.others h.next (subst (IsAscending (λ (a b : CardRow). a.act < b.act)) h.parts order.rises) in
    let there : card_row first acts lot h.next.act ≡ Some h.next = sym (order.found h.next.act) ∙ ap (find (λ (c : CardRow). nat_eq h.next.act c.act)) h.parts ∙ here in
    ap (option_map (λ (c : CardRow). c.day)) (ap (card_row first acts lot) (sym (h.stopped.1 ∙ same.1)) ∙ there) ∙ sym h.stopped.2 ∙ is
