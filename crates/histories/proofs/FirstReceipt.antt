-- The line of the first receipt on the card of its lot: it has the day that the acts began on.
use Rattle.histories.proofs.Words.{◌≡◌, ◌<◌, ◌≤◌, ℕ, true, false, ◌&&◌, List, [], ◌∷◌, ◌++◌, length, find, flat_map, Option, Some, None, inl, inr, refl, sym, ap, subst, ◌∙◌, arith, eq-eqb, append_assoc, IsTrue, ℤ, ◌==◌, option_map, cases_Bool, nat_tests, same_Some, none-some, LotId, is_name, is_qty, is_day, is_sound, is_lot_id, Key, Receipt, Command, Receive, OpenDay, CardRow, CardKind, Act, next_number, Place, Supplier, InBin, Stage, Shipped, WriteOff, Posting, is_lot, KnownLot, lots, lots_after, today, day_after_command, posted, postings, cards, card_line, card_lines, IsHistory, card_row, is_lot_refl, and_both, at_least_one, told_by, Start, Received, told_first, start_of}
use Rattle.machine.proofs.histories.ActFacts.{Entry, Nothing, One, Corrected, ShippedOff, Returned, entry_of, entry_posted, Each, Shown, each_of_entry, all_returned}

-- ---- acts that tell nothing

pub none_older : (older newer : Option Start) → told_first older newer ≡ None → (older ≡ None) × (newer ≡ None)
none_older None newer e = (refl, e)
none_older (Some s) newer e = absurd (none-some s (sym e))

day_stays : (n : ℕ) (c : Command) (day : ℤ) → told_by n c ≡ None → day_after_command c day ≡ day
day_stays n (OpenDay d) day e = absurd (none-some _ (sym e))
day_stays n _ day e = refl

pub untold_day : (first : ℤ) (acts : List Act) → start_of acts ≡ None → today first acts ≡ first
untold_day first [] e = refl
untold_day first (act ∷ before) e =
    let two = none_older (start_of before) (told_by (next_number before) act.command) e in
    day_stays (next_number before) act.command (today first before) two.1 ∙ untold_day first before two.0

lots_stay : (n : ℕ) (c : Command) (ks : List KnownLot) → told_by n c ≡ None → lots_after n c ks ≡ ks
lots_stay n (Receive r) ks e = absurd (none-some _ (sym e))
lots_stay n _ ks e = refl

pub untold_lots : (acts : List Act) → start_of acts ≡ None → lots acts ≡ []
untold_lots [] e = refl
untold_lots (act ∷ before) e =
    let two = none_older (start_of before) (told_by (next_number before) act.command) e in
    lots_stay (next_number before) act.command (lots before) two.1 ∙ untold_lots before two.0

-- ---- the lines of an act bear its number

abbrev AllOf : ℕ → List Posting → Type 0
AllOf n ps = Each (λ (p : Posting). p.act ≡ n) ps

module _ (first : ℤ) (act : Act) (before : List Act) (ps : List Posting) where
  abbrev IsOf : Posting → Type 0
  IsOf p = p.act ≡ next_number before

  shown : (e : Entry) → Shown IsOf first act before ps e
  shown Nothing = tt
  shown (One l from to q) = λ some. refl
  shown (Corrected l b found) = (λ some. refl, λ some. refl)
  shown (ShippedOff o) = λ l some. refl
  shown Returned = all_returned IsOf first act before ps (λ l o some. refl)

  of_act : (c : Command) → AllOf (next_number before) (posted first act before ps c)
  of_act c = subst (Each IsOf) (entry_posted first act before ps c) (each_of_entry IsOf first act before ps (entry_of c) (shown (entry_of c)))

-- ---- a later act has no line of an earlier number

abbrev Lacks : LotId → ℕ → List CardRow → Type 0
Lacks l n rows = (more : List CardRow) → find (λ (c : CardRow). is_lot l c.lot && (n == c.act)) (rows ++ more) ≡ find (λ (c : CardRow). is_lot l c.lot && (n == c.act)) more

module _ (first : ℤ) (act : Act) (before : List Act) (l : LotId) (n : ℕ) where
  lacks_one : (p : Posting) (kind : CardKind) (note : List ℕ) (q : ℤ) → (n == p.act) ≡ false → Lacks l n (card_line first act before p kind note q)
  lacks_one p kind note q e more = elim (cases_Bool (is_lot l p.lot)) [ inl own ↦ rw (own, e) refl | inr other ↦ rw (other) refl ]

  lacks_line : (p : Posting) (from to : Place) → (n == p.act) ≡ false → Lacks l n (card_lines first act before p from to)
  lacks_line p Supplier (InBin b) e = lacks_one p _ _ _ e
  lacks_line p WriteOff (InBin b) e = lacks_one p _ _ _ e
  lacks_line p (InBin b) WriteOff e = lacks_one p _ _ _ e
  lacks_line p (Stage o) (Shipped m u) e = lacks_one p _ _ _ e
  lacks_line p _ _ e = λ more. refl

  lacks_lines : (m : ℕ) (ps : List Posting) → n < m → AllOf m ps → Lacks l n (flat_map (λ p. card_lines first act before p p.from p.to) ps)
  lacks_lines m [] low all more = refl
  lacks_lines m (p ∷ ps) low all more =
      let other : (n == p.act) ≡ false = (let is = all.0 in grind (arith, nat_tests)) in
      let rest = flat_map (λ p. card_lines first act before p p.from p.to) ps in
      ap (find (λ (c : CardRow). is_lot l c.lot && (n == c.act))) (append_assoc (card_lines first act before p p.from p.to) rest more) ∙ lacks_line p p.from p.to other (rest ++ more) ∙ lacks_lines m ps low all.1 more

  still_found : n < next_number before → card_row first (act ∷ before) l n ≡ card_row first before l n
  still_found low = lacks_lines (next_number before) (posted first act before (postings first before) act.command) low (of_act first act before (postings first before) act.command) (cards first before)

-- ---- the line of the first receipt

told_number : (n m : ℕ) (l : LotId) (c : Command) → told_by n c ≡ Some (Received l m) → m ≡ n
told_number n m l (Receive r) e = let is : Received r.lot n ≡ Received l m = same_Some _ _ e in cc
told_number n m l _ e = cc

low_number : (acts : List Act) (l : LotId) (n : ℕ) → start_of acts ≡ Some (Received l n) → n ≤ length acts
low_number [] l n = λ e. absurd (none-some _ e)
low_number (act ∷ before) l n = by_older (start_of before) refl (low_number before l n)
  where
    by_older : (s : Option Start) → start_of before ≡ s → (start_of before ≡ Some (Received l n) → n ≤ length before) → told_first s (told_by (next_number before) act.command) ≡ Some (Received l n) → n ≤ length (act ∷ before)
    by_older None is older e = let m = told_number (next_number before) n l act.command e in omega (arith, m)
    by_older (Some s) is older e = let low = older (is ∙ e) in omega (arith, low)

-- the day of the row, where there is one
abbrev pub day_of : Option CardRow → Option ℤ
day_of row = option_map (λ (c : CardRow). c.day) row

received_line : (first : ℤ) (key : Key) (before : List Act) (r : Receipt) → 1 ≤ r.qty → today first before ≡ first
    → day_of (card_row first (record { key = key; command = Receive r } ∷ before) r.lot (next_number before)) ≡ Some first
received_line first key before r some_units day =
    let some_qty : (r.qty == 0) ≡ false = grind (arith, nat_tests) in
    let itself : (next_number before == next_number before) ≡ true = eq-eqb _ _ refl in
    rw (some_qty, is_lot_refl r.lot, itself, day) refl

pub first_receipt : (first : ℤ) (acts : List Act) (l : LotId) (n : ℕ) → IsHistory first acts → start_of acts ≡ Some (Received l n) → day_of (card_row first acts l n) ≡ Some first
first_receipt first [] l n h = λ e. absurd (none-some _ e)
first_receipt first (act ∷ before) l n h = by_older (start_of before) refl (first_receipt first before l n h.0)
  where
    told : (c : Command) → start_of before ≡ None → IsTrue (is_sound c) → told_by (next_number before) c ≡ Some (Received l n) → day_of (card_row first (record { key = act.key; command = c } ∷ before) l n) ≡ Some first
    told (Receive r) none sound e =
        let is : Received r.lot (next_number before) ≡ Received l n = same_Some _ _ e in
        let lot : r.lot ≡ l = cc in
        let number : next_number before ≡ n = cc in
        let some_units = at_least_one r.qty (and_both (is_lot_id r.lot && is_day r.expiry && is_name r.bin) (is_qty r.qty) sound).1 in
        subst (λ m. day_of (card_row first (record { key = act.key; command = Receive r } ∷ before) l m) ≡ Some first) number
        (subst (λ m. day_of (card_row first (record { key = act.key; command = Receive r } ∷ before) m (next_number before)) ≡ Some first) lot (received_line first act.key before r some_units (untold_day first before none)))
    told _ none sound e = cc

    by_older : (s : Option Start) → start_of before ≡ s → (start_of before ≡ Some (Received l n) → day_of (card_row first before l n) ≡ Some first)
        → told_first s (told_by (next_number before) act.command) ≡ Some (Received l n) → day_of (card_row first (act ∷ before) l n) ≡ Some first
    by_older None is older e = told act.command is h.1.sound.command e
    by_older (Some s) is older e =
        let low = low_number before l n (is ∙ e) in
        ap day_of (still_found first act before l n (omega (arith, low))) ∙ older (is ∙ e)
