-- The lines of a lot's card that are of shipments are of the lines of its shipments, one of each.
use Rattle.queries.proofs.Words.{◌≡◌, ◌≤◌, ℕ, ◌+◌, Bool, true, false, ◌&&◌, List, [], ◌∷◌, ◌++◌, map, filter, find, reverse, Option, Some, None, inl, inr, refl, sym, ap, ◌∙◌, subst, arith, append-nil, eq-eqb, ℤ, pos, negsuc, neg_ℤ, not, ◌==◌, if◌then◌else◌, flat_map, AllByRecursion, cases_Bool, nat_tests, reverse-append, all-append, all_weaker, all-filter, LotId, total, Key, Command, Adjust, Ship, CardRow, ShipmentRow, ShiplineRow, Act, next_number, Place, Supplier, InBin, Stage, Shipped, WriteOff, Posting, balance, is_lot, is_shipment, units_in, units_out, posted, postings, cards, card_lines, lots, shipments, shipments_so_far, today, staged_of_lot, if_any, IsHistory, card_of_lot, any_found, filter_appended, shipment_after, unknown_unstaged, unknown_shipment_is_empty, lots_apart, shipments_apart, card_of, found_line, found_wanted, is_of_shipment, IsLineOf, shipment_cards}
use Rattle.machine.proofs.histories.ActFacts.{Entry, Nothing, One, Corrected, ShippedOff, Returned, written_entry, entry_of, entry_posted, is_pick, IsStep, HasStep, step_of, Each, Shown, each_of_entry, all_returned}
use Rattle.queries.proofs.CardOrder.{IsOne, one_line}
use Rattle.queries.proofs.ShipmentOrder.{all_reversed, falling}

-- ---- lists

total_appended : {X : Type 0} (f : X → ℕ) (xs ys : List X) → total f (xs ++ ys) ≡ total f xs + total f ys
total_appended f [] ys = omega arith
total_appended f (x ∷ xs) ys = omega (arith, total_appended f xs ys)

-- each line of the card is of the line of a shipment beside it
abbrev pub AreLines : List CardRow → List ShiplineRow → Type 0
AreLines [] [] = Unit {0}
AreLines (c ∷ cs) (s ∷ ss) = IsLineOf c s × AreLines cs ss
AreLines [] (s ∷ ss) = ⊥
AreLines (c ∷ cs) [] = ⊥

lines_appended : (cs ds : List CardRow) (ss ts : List ShiplineRow) → AreLines cs ss → AreLines ds ts → AreLines (cs ++ ds) (ss ++ ts)
lines_appended [] ds [] ts one two = two
lines_appended (c ∷ cs) ds (s ∷ ss) ts one two = (one.0, lines_appended cs ds ss ts one.1 two)
lines_appended [] ds (s ∷ ss) ts one two = absurd one
lines_appended (c ∷ cs) ds [] ts one two = absurd one

-- ---- postings that go to no shipment

abbrev pub is_shipped : Place → Bool
is_shipped (Shipped n o) = true
is_shipped _ = false

abbrev pub Stays : Posting → Type 0
Stays p = (is_shipped p.from ≡ false) × (is_shipped p.to ≡ false)

stays_step : (picks : Bool) (from to : Place) → IsStep picks from to → (is_shipped from ≡ false) × (is_shipped to ≡ false)
stays_step picks Supplier (InBin b) h = (refl, refl)
stays_step picks WriteOff (InBin b) h = (refl, refl)
stays_step picks (InBin b) WriteOff h = (refl, refl)
stays_step picks (InBin b) (InBin c) h = (refl, refl)
stays_step picks (Stage o) (InBin b) h = (refl, refl)
stays_step picks (InBin b) (Stage o) h = (refl, refl)
stays_step picks _ _ h = absurd h

abbrev is_shipment_entry : Entry → Bool
is_shipment_entry (ShippedOff o) = true
is_shipment_entry _ = false

abbrev pub ships_off : Command → Bool
ships_off (Ship o) = true
ships_off _ = false

ships_nothing : (c : Command) → ships_off c ≡ false → is_shipment_entry (entry_of c) ≡ false
ships_nothing (Ship o) e = let f : true ≡ false = e in cc
ships_nothing (Adjust a) e = by_change a.change
  where
    by_change : (z : ℤ) → is_shipment_entry (written_entry a.lot a.bin z) ≡ false
    by_change (pos k) = refl
    by_change (negsuc k) = refl
ships_nothing _ e = refl

-- those of every act but a shipment
pub stays_posted : (first : ℤ) (act : Act) (before : List Act) (ps : List Posting) (c : Command) → ships_off c ≡ false → Each Stays (posted first act before ps c)
stays_posted first act before ps c e =
    subst (Each Stays) (entry_posted first act before ps c) (each_of_entry Stays first act before ps (entry_of c) (shown (entry_of c) (step_of c) (ships_nothing c e)))
  where
    shown : (n : Entry) → HasStep (is_pick c) n → is_shipment_entry n ≡ false → Shown Stays first act before ps n
    shown Nothing h e = tt
    shown (One l from to q) h e = λ some. stays_step (is_pick c) from to h
    shown (Corrected l b found) h e = (λ some. (refl, refl), λ some. (refl, refl))
    shown (ShippedOff o) h e = absurd (let f : true ≡ false = e in cc)
    shown Returned h e = all_returned Stays first act before ps (λ l o some. (refl, refl))

module _ (n : ℕ) (lots : LotId → Bool) where
  elsewhere : (p : Place) → is_shipped p ≡ false → is_shipment n p ≡ false
  elsewhere Supplier e = refl
  elsewhere (InBin b) e = refl
  elsewhere (Stage o) e = refl
  elsewhere WriteOff e = refl
  elsewhere (Shipped m o) e = absurd (let f : true ≡ false = e in cc)

  none_in : (qs : List Posting) → Each Stays qs → units_in (is_shipment n) lots qs ≡ 0
  none_in [] all = refl
  none_in (q ∷ qs) all = let off = elsewhere q.to all.0.1 in let more = none_in qs all.1 in rw off (omega (arith, more))

  none_out : (qs : List Posting) → Each Stays qs → units_out (is_shipment n) lots qs ≡ 0
  none_out [] all = refl
  none_out (q ∷ qs) all = let off = elsewhere q.from all.0.0 in let more = none_out qs all.1 in rw off (omega (arith, more))

  -- they leave the units of a shipment
  pub units_stay : (qs ps : List Posting) → Each Stays qs → balance (is_shipment n) lots (qs ++ ps) ≡ balance (is_shipment n) lots ps
  units_stay qs ps all =
      omega (
        arith,
        total_appended (λ (p : Posting). if is_shipment n p.to && lots p.lot then p.qty else 0) qs ps,
        total_appended (λ (p : Posting). if is_shipment n p.from && lots p.lot then p.qty else 0) qs ps,
        none_in qs all,
        none_out qs all,
      )

module _ (first : ℤ) (act : Act) (before : List Act) where
  abbrev IsOther : CardRow → Type 0
  IsOther c = is_of_shipment c ≡ false

  other_lines : (p : Posting) (from to : Place) → is_shipped to ≡ false → AllByRecursion IsOther (card_lines first act before p from to)
  other_lines p Supplier (InBin b) t = (refl, tt)
  other_lines p WriteOff (InBin b) t = (refl, tt)
  other_lines p (InBin b) WriteOff t = (refl, tt)
  other_lines p (Stage o) (Shipped n u) t = absurd (let f : true ≡ false = t in cc)
  other_lines p _ _ t = tt

  all_other : (qs : List Posting) → Each Stays qs → AllByRecursion IsOther (flat_map (λ p. card_lines first act before p p.from p.to) qs)
  all_other [] all = tt
  all_other (q ∷ qs) all = all-append IsOther (card_lines first act before q q.from q.to) (flat_map (λ p. card_lines first act before p p.from p.to) qs) (other_lines q q.from q.to all.0.1) (all_other qs all.1)

-- ---- the lines of shipments

abbrev line_with : LotId → ShipmentRow → ℕ → ShiplineRow
line_with l r q = record { number = r.number; lot = l; qty = q }

-- those with units
abbrev pub lines : LotId → (ℕ → ℕ) → List ShipmentRow → List ShiplineRow
lines l units rows = filter (λ (s : ShiplineRow). not (s.qty == 0)) (map (λ (r : ShipmentRow). line_with l r (units r.number)) rows)

lines_alike : (l : LotId) (f g : ℕ → ℕ) (rows : List ShipmentRow) → AllByRecursion (λ (r : ShipmentRow). f r.number ≡ g r.number) rows → lines l f rows ≡ lines l g rows
lines_alike l f g [] all = refl
lines_alike l f g (r ∷ rows) all =
    let more = lines_alike l f g rows all.1 in
    (λ i. if not (all.0 i == 0) then line_with l r (all.0 i) ∷ more i else more i)

lines_after : (l : LotId) (f : ℕ → ℕ) (rows : List ShipmentRow) (r : ShipmentRow) → lines l f (rows ++ r ∷ []) ≡ lines l f rows ++ lines l f (r ∷ [])
lines_after l f [] r = refl
lines_after l f (x ∷ rows) r = elim (cases_Bool (f x.number == 0)) [
  | inl e ↦ rw e (lines_after l f rows r)
  | inr e ↦ rw e (ap (λ (ss : List ShiplineRow). line_with l x (f x.number) ∷ ss) (lines_after l f rows r))
]

module _ (first : ℤ) (l : LotId) where
  abbrev pub units_of : List Act → ℕ → ℕ
  units_of acts n = balance (is_shipment n) (is_lot l) (postings first acts)

  -- the lines of the shipments with units of the lot, by number
  abbrev pub shiplines_of : List Act → List ShiplineRow
  shiplines_of acts = lines l (units_of acts) (reverse (shipments first acts))

  abbrev AreTold : List Act → Type 0
  AreTold acts = AreLines (shipment_cards first acts l) (shiplines_of acts)

  -- the lines that an act adds stand last
  module _ (act : Act) (before : List Act) where
    abbrev own : List CardRow
    own = filter (λ c. is_lot l c.lot) (flat_map (λ p. card_lines first act before p p.from p.to) (posted first act before (postings first before) act.command))

    cards_after : shipment_cards first (act ∷ before) l ≡ shipment_cards first before l ++ filter is_of_shipment (reverse own)
    cards_after =
        ap (λ (cs : List CardRow). filter is_of_shipment (reverse cs)) (filter_appended (λ (c : CardRow). is_lot l c.lot) (flat_map (λ p. card_lines first act before p p.from p.to) (posted first act before (postings first before) act.command)) (cards first before))
        ∙ ap (filter is_of_shipment) (reverse-append own (filter (λ c. is_lot l c.lot) (cards first before)))
        ∙ filter_appended is_of_shipment (card_of_lot first before l) (reverse own)

    -- an act that ships nothing
    others : Each Stays (posted first act before (postings first before) act.command) → shipments first (act ∷ before) ≡ shipments first before → AreTold before → AreTold (act ∷ before)
    others stay same told =
        let none : filter is_of_shipment (reverse own) ≡ [] = by_few own (one_line first act before l (postings first before) act.command)
        (all-filter (IsOther first act before) (λ (c : CardRow). is_lot l c.lot) (flat_map (λ p. card_lines first act before p p.from p.to) (posted first act before (postings first before) act.command)) (all_other first act before (posted first act before (postings first before) act.command) stay)) in
        let units : (n : ℕ) → units_of (act ∷ before) n ≡ units_of before n = λ n. units_stay n (is_lot l) (posted first act before (postings first before) act.command) (postings first before) stay in
        subst (λ (cs : List CardRow). AreLines cs (shiplines_of (act ∷ before))) (sym (cards_after ∙ ap (λ (cs : List CardRow). shipment_cards first before l ++ cs) none ∙ append-nil (shipment_cards first before l)))
        (subst (AreLines (shipment_cards first before l)) (λ i. lines l (λ n. sym (units n) i) (reverse (sym same i))) told)
      where
        by_few : (cs : List CardRow) → IsOne (next_number before) cs → AllByRecursion (IsOther first act before) cs → filter is_of_shipment (reverse cs) ≡ []
        by_few cs (inl none) all = rw none refl
        by_few cs (inr one) all = let other = (subst (AllByRecursion (IsOther first act before)) one.1 all).0 in rw (one.1, other) refl

  -- a shipment
  module _ (before : List Act) (key : Key) (o : List ℕ) (next : IsHistory first (record { key = key; command = Ship o } ∷ before)) where
    abbrev ship : Act
    ship = record { key = key; command = Ship o }

    abbrev number : ℕ
    number = shipments_so_far first before + 1

    abbrev staged : ℕ
    staged = staged_of_lot first before o l

    abbrev card : CardRow
    card = card_of (next_number before) number o (postings first before) first ship before l (next_number before) l

    abbrev row : ShipmentRow
    row = record { number = number; act = next_number before; day = today first before; order = o }

    -- the shipment is new
    unknown : units_of before number ≡ 0
    unknown = unknown_shipment_is_empty first before next.0 number (is_lot l) (any_found (λ (x : ShipmentRow). number == x.number) (shipments first before) ∙ (shipments_apart first (ship ∷ before)).0)

    itself : (n : ℕ) → (n == n) ≡ true
    itself n = eq-eqb n n refl

    taken : units_of (ship ∷ before) number ≡ staged
    taken = omega (arith, shipment_after first before key o next number l, unknown, ap (λ b. if b then staged else 0) (itself number))

    kept : AllByRecursion (λ (r : ShipmentRow). r.number ≤ shipments_so_far first before) (shipments first before) → AllByRecursion (λ (r : ShipmentRow). units_of (ship ∷ before) r.number ≡ units_of before r.number) (shipments first before)
    kept low = all_weaker _ (λ (r : ShipmentRow). units_of (ship ∷ before) r.number ≡ units_of before r.number) same (shipments first before) low
      where
        other : (r : ShipmentRow) → r.number ≤ shipments_so_far first before → (r.number == number) ≡ false
        other r low = grind (arith, nat_tests)

        same : (r : ShipmentRow) → r.number ≤ shipments_so_far first before → units_of (ship ∷ before) r.number ≡ units_of before r.number
        same r low = omega (arith, shipment_after first before key o next r.number l, ap (λ b. if b then staged else 0) (other r low))

    -- the act's line of the lot, where units are staged
    found : find (λ (c : CardRow). next_number before == c.act) (own ship before) ≡ if_any staged card
    found =
        found_wanted (λ (c : CardRow). is_lot l c.lot) (λ (c : CardRow). next_number before == c.act) (flat_map (λ p. card_lines first ship before p p.from p.to) (posted first ship before (postings first before) (Ship o)))
        ∙ found_line (next_number before) number o (postings first before) first ship before l (next_number before) (lots before) (lots_apart before) (unknown_unstaged first before key o next l)
        ∙ ap (λ b. if b then if_any staged card else None) (itself (next_number before))

    shipped_card : (staged == 0) ≡ false → own ship before ≡ card ∷ []
    shipped_card some = by_one (own ship before) (one_line first ship before l (postings first before) (Ship o)) found
      where
        is_some : if_any staged card ≡ Some card
        is_some = rw some refl

        by_one : (cs : List CardRow) → IsOne (next_number before) cs → find (λ (c : CardRow). next_number before == c.act) cs ≡ if_any staged card → cs ≡ card ∷ []
        by_one cs (inl none) is = absurd (let e : ◌≡◌ {A = Option CardRow} None (Some card) = rw none at (is ∙ is_some) in cc)
        by_one cs (inr one) is =
            let mine : (next_number before == one.0.act) ≡ true = ap (λ n. next_number before == n) one.2 ∙ itself (next_number before) in
            let e : ◌≡◌ {A = Option CardRow} (Some one.0) (Some card) = rw (one.1, mine) at (is ∙ is_some) in
            let same : one.0 ≡ card = cc in
            one.1 ∙ ap (λ (c : CardRow). c ∷ []) same

    no_card : (staged == 0) ≡ true → own ship before ≡ []
    no_card none = by_one (own ship before) (one_line first ship before l (postings first before) (Ship o)) found
      where
        is_none : if_any staged card ≡ None
        is_none = rw none refl

        by_one : (cs : List CardRow) → IsOne (next_number before) cs → find (λ (c : CardRow). next_number before == c.act) cs ≡ if_any staged card → cs ≡ []
        by_one cs (inl empty) is = empty
        by_one cs (inr one) is =
            let mine : (next_number before == one.0.act) ≡ true = ap (λ n. next_number before == n) one.2 ∙ itself (next_number before) in
            absurd (let e : ◌≡◌ {A = Option CardRow} (Some one.0) None = rw (one.1, mine) at (is ∙ is_none) in cc)

    -- it stands last, if it has units
    newest : AreLines (filter is_of_shipment (reverse (own ship before))) (lines l (units_of (ship ∷ before)) (row ∷ []))
    newest = elim (cases_Bool (staged == 0)) [
      | inl none ↦ subst (λ (cs : List CardRow). AreLines (filter is_of_shipment (reverse cs)) (lines l (units_of (ship ∷ before)) (row ∷ []))) (sym (no_card none)) (empty (ap (λ q. q == 0) taken ∙ none))
      | inr some ↦ subst (λ (cs : List CardRow). AreLines (filter is_of_shipment (reverse cs)) (lines l (units_of (ship ∷ before)) (row ∷ []))) (sym (shipped_card some)) (one (ap (λ q. q == 0) taken ∙ some))
    ]
      where
        empty : (units_of (ship ∷ before) number == 0) ≡ true → AreLines [] (lines l (units_of (ship ∷ before)) (row ∷ []))
        empty none = rw none tt

        one : (units_of (ship ∷ before) number == 0) ≡ false → AreLines (card ∷ []) (lines l (units_of (ship ∷ before)) (row ∷ []))
        one some = rw some ((refl, refl, ap (λ q. neg_ℤ (pos q)) (sym taken)), tt)

    shipped : AllByRecursion (λ (r : ShipmentRow). r.number ≤ shipments_so_far first before) (shipments first before) → AreTold before → AreTold (ship ∷ before)
    shipped low told =
        let older : lines l (units_of before) (reverse (shipments first before)) ≡ lines l (units_of (ship ∷ before)) (reverse (shipments first before)) =
        sym (lines_alike l (units_of (ship ∷ before)) (units_of before) (reverse (shipments first before)) (all_reversed (λ (r : ShipmentRow). units_of (ship ∷ before) r.number ≡ units_of before r.number) (shipments first before) (kept low))) in
        subst (λ (cs : List CardRow). AreLines cs (shiplines_of (ship ∷ before))) (sym (cards_after ship before))
        (subst (AreLines (shipment_cards first before l ++ filter is_of_shipment (reverse (own ship before)))) (sym (ap (lines l (units_of (ship ∷ before))) (reverse-append (row ∷ []) (shipments first before)) ∙ lines_after l (units_of (ship ∷ before)) (reverse (shipments first before)) row))
        (lines_appended (shipment_cards first before l) (filter is_of_shipment (reverse (own ship before))) (lines l (units_of (ship ∷ before)) (reverse (shipments first before))) (lines l (units_of (ship ∷ before)) (row ∷ []))
        (subst (AreLines (shipment_cards first before l)) older told) newest))

  -- each act
  by_command : (before : List Act) (key : Key) (c : Command) → IsHistory first (record { key = key; command = c } ∷ before) → AllByRecursion (λ (r : ShipmentRow). r.number ≤ shipments_so_far first before) (shipments first before)
      → AreTold before → AreTold (record { key = key; command = c } ∷ before)
  by_command before key (Ship o) next low = shipped before key o next low
  by_command before key c next low = others (record { key = key; command = c }) before (stays_posted first (record { key = key; command = c }) before (postings first before) c refl) refl

  pub cards_told : (acts : List Act) → IsHistory first acts → AreTold acts
  cards_told [] history = tt
  cards_told (act ∷ before) history = by_command before act.key act.command history (falling first before).1 (cards_told before history.0)
