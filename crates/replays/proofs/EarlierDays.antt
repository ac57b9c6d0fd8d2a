-- Acts that open a day before any receives: whatever earlier day they began on, their tables are the same.
use Rattle.replays.proofs.Words.{◌≡◌, ◌≢◌, ℕ, ◌-◌, true, false, List, [], ◌∷◌, ◌++◌, flat_map, filter, map, Option, Some, None, refl, sym, ap, subst, ◌∙◌, arith, IsTrue, ℤ, pos, if◌then◌else◌, is_some, int_le, int_lt, ◌-ℤ◌, and_from, ints, same_Some, none-some, is_business_day, same_text, LotId, total, in_order, plan_rows, reserved_for, key_text, spelling, reply_text, Returned, UnitsShort, Key, Command, Item, Bin, Receive, Count, Order, Pick, Ship, Hold, Release, Recall, OpenDay, Least, Urgent, ShipmentRow, Act, next_number, Place, Supplier, InBin, Stage, Shipped, WriteOff, Posting, of_item, KnownLot, lots, lots_of, lot_known, lot_among, is_shippable, order_named, lines_of, shipments, shipments_after, today, day_after_command, posted, postings, postings_of, Booking, bookings, need, demand_of, goes_before, supply_of, supplies, plan, reserved_of, reserved, short_of_order, cards, card_lines, further, verdict, IsHistory, IsAccepted, tables_of, repeat_row, and_both, room_for_acts, ship_accepted, day_accepted, AllKnown, known_postings, told_by, day_before, Start, Received, Opened, told_first, start_of, first_day, TheDayThatIsToldStands, none_older, untold_day, untold_lots, FindTheSame}
use Rattle.replays.proofs.FirstDay.{first_day_told}
use Rattle.whole_tables.specs.declared.key.TableName.TheVariants as table
use Rattle.replays.proofs.Alike.{one_tables}

-- ---- acts before any that receives or opens a day: there is no lot, and so no unit

none_known : (first : ℤ) (acts : List Act) (ps : List Posting) → lots acts ≡ [] → AllKnown first acts ps → ps ≡ []
none_known first acts [] none known = refl
none_known first acts (p ∷ ps) none known = let has : false ≡ true = ap (λ ks. is_some (lot_among p.lot ks)) (sym none) ∙ known.0.lot in cc

untold_postings : (first : ℤ) (acts : List Act) → IsHistory first acts → start_of acts ≡ None → postings first acts ≡ []
untold_postings first acts h e = none_known first acts (postings first acts) (untold_lots acts e) (known_postings first acts h)

module _ (first : ℤ) (before : List Act) (none : postings first before ≡ []) where
  no_shipment : (c : Command) → verdict first before c ≡ None → (past : List ShipmentRow) → shipments_after first before c past ≡ past
  no_shipment (Ship o) ok past = let some = (ship_accepted first before o ok).staged in let no : true ≡ false = rw none at some in cc
  no_shipment _ ok past = refl

untold_shipments : (first : ℤ) (acts : List Act) → IsHistory first acts → start_of acts ≡ None → shipments first acts ≡ []
untold_shipments first [] h e = refl
untold_shipments first (act ∷ before) h e =
    let two = none_older (start_of before) (told_by (next_number before) act.command) e in
    no_shipment first before (untold_postings first before h.0 two.0) act.command h.1.passes (shipments first before) ∙ untold_shipments first before h.0 two.0

no_front : {X : Type 0} (xs ys : List X) → xs ++ ys ≡ [] → xs ≡ []
no_front [] ys e = refl
no_front (x ∷ xs) ys e = cc

untold_cards : (first : ℤ) (acts : List Act) → IsHistory first acts → start_of acts ≡ None → cards first acts ≡ []
untold_cards first [] h e = refl
untold_cards first (act ∷ before) h e =
    let two = none_older (start_of before) (told_by (next_number before) act.command) e in
    let none : postings_of first act before ≡ [] = no_front (postings_of first act before) (postings first before) (untold_postings first (act ∷ before) h e) in
    ap (λ ps. flat_map (λ p. card_lines first act before p p.from p.to) ps ++ cards first before) none ∙ untold_cards first before h.0 two.0

-- ---- what is the same from two days

module _ (first second : ℤ) where
  -- judged and answered alike where there is no lot and no unit
  module _ (before : List Act) (lots_none : lots before ≡ []) (mine : postings first before ≡ []) (theirs : postings second before ≡ []) where
    judged_untold : (c : Command) → told_by (next_number before) c ≡ None → verdict first before c ≡ verdict second before c
    judged_untold (Receive r) e = absurd (none-some _ (sym e))
    judged_untold (OpenDay day) e = absurd (none-some _ (sym e))
    judged_untold (Item i) e = refl
    judged_untold (Bin b) e = refl
    judged_untold (Hold l) e = refl
    judged_untold (Release l) e = refl
    judged_untold (Recall l) e = refl
    judged_untold (Least l) e = refl
    judged_untold (Pick p) e = rw (mine, theirs, lots_none) refl
    judged_untold _ e = rw (mine, theirs) refl

    told_untold : (key : Key) (c : Command) → shipments first before ≡ [] → shipments second before ≡ [] → told_by (next_number before) c ≡ None
        → further first (record { key = key; command = c }) before c ≡ further second (record { key = key; command = c }) before c
    told_untold key (Count c) s t e = rw (mine, theirs) refl
    told_untold key (Order o) s t e = rw (mine, theirs, lots_none) refl
    told_untold key (Urgent o) s t e = rw (mine, theirs, lots_none) refl
    told_untold key (Ship o) s t e = rw (s, t) refl
    told_untold key (Hold l) s t e = rw lots_none refl
    told_untold key (Recall l) s t e = rw lots_none refl
    told_untold key (Least l) s t e = rw lots_none refl
    told_untold key (OpenDay day) s t e = rw lots_none refl
    told_untold key _ s t e = refl

  -- the acts are a history from the second day too
  module _ (business : IsTrue (is_business_day second)) where
    untold_history : (acts : List Act) → IsHistory first acts → start_of acts ≡ None → IsHistory second acts
    untold_history [] h e = business
    untold_history (act ∷ before) h e =
        let two = none_older (start_of before) (told_by (next_number before) act.command) e in
        let older = untold_history before h.0 two.0 in
        let same = judged_untold before (untold_lots before two.0) (untold_postings first before h.0 two.0) (untold_postings second before older two.0) act.command two.1 in
        (older, record { passes = sym same ∙ h.1.passes; fresh = h.1.fresh; sound = h.1.sound })

  -- the row of an act, where its answer is the same
  repeats_more : (act : Act) (before : List Act) → further first act before act.command ≡ further second act before act.command
      → ((k : List ℕ) → repeat_row first before k ≡ repeat_row second before k) → (k : List ℕ) → repeat_row first (act ∷ before) k ≡ repeat_row second (act ∷ before) k
  repeats_more act before same older k = λ i.
      if same_text k (key_text act.key) then Some (record { k = key_text act.key; act = next_number before; spell = spelling act.command; reply = reply_text (next_number before) (same i) })
      else older k i

  untold_repeats : (acts : List Act) → IsHistory first acts → IsHistory second acts → start_of acts ≡ None → (k : List ℕ) → repeat_row first acts k ≡ repeat_row second acts k
  untold_repeats [] h j e k = refl
  untold_repeats (act ∷ before) h j e k =
      let two = none_older (start_of before) (told_by (next_number before) act.command) e in
      let same = told_untold before (untold_lots before two.0) (untold_postings first before h.0 two.0) (untold_postings second before j.0 two.0) act.key act.command
      (untold_shipments first before h.0 two.0) (untold_shipments second before j.0 two.0) two.1 in
      repeats_more act before same (untold_repeats before h.0 j.0 two.0) k

  -- the plan is made of postings and of the day
  module _ (acts : List Act) (same : postings first acts ≡ postings second acts) (day : today first acts ≡ today second acts) where
    same_shippable : (k : KnownLot) → is_shippable first acts k ≡ is_shippable second acts k
    same_shippable k = rw day refl

    same_supplies : (g : List ℕ) → supplies first acts g ≡ supplies second acts g
    same_supplies g = λ i. map (supply_of acts (filter (λ p. of_item g p.lot) (same i))) (in_order goes_before (filter (λ k. same_shippable k i) (lots_of acts g)))

    same_plan : (g : List ℕ) → plan first acts g ≡ plan second acts g
    same_plan g = λ i. plan_rows (map (demand_of acts (filter (λ p. of_item g p.lot) (same i))) (bookings acts g)) (same_supplies g i)

    same_reserved : (o : List ℕ) (l : LotId) → reserved first acts o l ≡ reserved second acts o l
    same_reserved o l = ap (reserved_of (order_named acts o) (lot_known acts l)) (same_plan l.gtin)

    same_short : (o : List ℕ) → short_of_order first acts o ≡ short_of_order second acts o
    same_short o = λ i. total (λ (b : Booking). need acts (filter (λ p. of_item b.item p.lot) (same i)) b - reserved_for b.act (same_plan b.item i)) (filter (λ (b : Booking). same_text o b.order) (flat_map (λ l. bookings acts l.gtin) (lines_of acts o)))

  -- what the rows of the tables are made of is the same
  record AreSame (acts : List Act) : Type 0 where
    history : IsHistory second acts
    day : today first acts ≡ today second acts
    postings : postings first acts ≡ postings second acts
    shipments : shipments first acts ≡ shipments second acts
    cards : cards first acts ≡ cards second acts
    repeats : (k : List ℕ) → repeat_row first acts k ≡ repeat_row second acts k

  -- and so it is after another act
  module _ (key : Key) (before : List Act) (s : AreSame before) where
    abbrev done : Command → Act
    done c = record { key = key; command = c }

    judged : (c : Command) → verdict first before c ≡ verdict second before c
    judged (Item i) = refl
    judged (Bin b) = refl
    judged (Hold l) = refl
    judged (Release l) = refl
    judged (Recall l) = refl
    judged (Least l) = refl
    judged (Receive r) = rw (s.postings, s.day) refl
    judged (Pick p) = let kept = same_reserved before s.postings s.day p.order p.lot in rw (kept, s.postings, s.day) refl
    judged (OpenDay day) = rw (s.day) refl
    judged _ = rw (s.postings) refl

    same_day : (c : Command) → today first (done c ∷ before) ≡ today second (done c ∷ before)
    same_day c = ap (day_after_command c) s.day

    same_posted : (c : Command) → posted first (done c) before (postings first before) c ≡ posted second (done c) before (postings second before) c
    same_posted (Count c) = rw (s.postings) refl
    same_posted (Ship o) = rw (s.postings, s.shipments) refl
    same_posted (Hold l) = rw (s.postings, s.day) refl
    same_posted (Recall l) = rw (s.postings, s.day) refl
    same_posted (OpenDay day) = rw (s.postings, s.day) refl
    same_posted (Least l) = rw (s.postings, s.day) refl
    same_posted _ = refl

    same_postings : (c : Command) → postings first (done c ∷ before) ≡ postings second (done c ∷ before)
    same_postings c = λ i. same_posted c i ++ s.postings i

    same_shipments : (c : Command) → shipments first (done c ∷ before) ≡ shipments second (done c ∷ before)
    same_shipments (Ship o) = rw (s.shipments, s.day) refl
    same_shipments _ = s.shipments

    same_lines : (c : Command) (p : Posting) (from to : Place) → card_lines first (done c) before p from to ≡ card_lines second (done c) before p from to
    same_lines c p Supplier (InBin b) = rw (same_postings c, same_day c) refl
    same_lines c p WriteOff (InBin b) = rw (same_postings c, same_day c) refl
    same_lines c p (InBin b) WriteOff = rw (same_postings c, same_day c) refl
    same_lines c p (Stage o) (Shipped n u) = rw (same_postings c, same_day c) refl
    same_lines c p _ _ = refl

    same_cards : (c : Command) → cards first (done c ∷ before) ≡ cards second (done c ∷ before)
    same_cards c = λ i. flat_map (λ p. same_lines c p p.from p.to i) (same_posted c i) ++ s.cards i

    same_further : (c : Command) → further first (done c) before c ≡ further second (done c) before c
    same_further (Count c) = rw (s.postings) refl
    same_further (Order o) = ap (λ n. Some (UnitsShort n)) (same_short (done (Order o) ∷ before) (same_postings (Order o)) (same_day (Order o)) o.order)
    same_further (Urgent o) = ap (λ n. Some (UnitsShort n)) (same_short (done (Urgent o) ∷ before) (same_postings (Urgent o)) (same_day (Urgent o)) o.order)
    same_further (Ship o) = rw (s.shipments) refl
    same_further (Hold l) = ap (λ ps. Some (Returned (total (λ p. p.qty) ps))) (same_posted (Hold l))
    same_further (Recall l) = ap (λ ps. Some (Returned (total (λ p. p.qty) ps))) (same_posted (Recall l))
    same_further (OpenDay day) = ap (λ ps. Some (Returned (total (λ p. p.qty) ps))) (same_posted (OpenDay day))
    same_further (Least l) = ap (λ ps. Some (Returned (total (λ p. p.qty) ps))) (same_posted (Least l))
    same_further _ = refl

    goes_on : (c : Command) → IsAccepted first (done c) before → AreSame (done c ∷ before)
    goes_on c h = record {
      history = (s.history, record { passes = sym (judged c) ∙ h.passes; fresh = h.fresh; sound = h.sound });
      day = same_day c;
      postings = same_postings c;
      shipments = same_shipments c;
      cards = same_cards c;
      repeats = repeats_more (done c) before (same_further c) s.repeats;
    }

  -- the first day that is opened
  module _ (key : Key) (before : List Act) (day : ℤ) (business : IsTrue (is_business_day second)) (later : int_lt second day ≡ true) (h : IsHistory first (record { key = key; command = OpenDay day } ∷ before)) (e : start_of before ≡ None) where
    abbrev opening : Act
    opening = record { key = key; command = OpenDay day }

    begun : AreSame (opening ∷ before)
    begun =
        let older = untold_history business before h.0 e in
        let lots_none = untold_lots before e in
        let mine = untold_postings first before h.0 e in
        let theirs = untold_postings second before older e in
        let shipped = untold_shipments first before h.0 e in
        let shipped_too = untold_shipments second before older e in
        let lines = untold_cards first before h.0 e in
        let lines_too = untold_cards second before older e in
        let room = room_for_acts first before (OpenDay day) h.1.passes in
        let no : int_le day (today second before) ≡ false = (let is = untold_day second before e in grind (arith, ints)) in
        let further_same = told_untold_opening lots_none in
        record {
          history = (older, record { passes = rw (room, no) refl; fresh = h.1.fresh; sound = h.1.sound });
          day = refl;
          postings = rw (lots_none, mine, theirs) refl;
          shipments = rw (shipped, shipped_too) refl;
          cards = rw (lots_none, lines, lines_too) refl;
          repeats = repeats_more opening before further_same (untold_repeats before h.0 older e);
        }
      where
        told_untold_opening : lots before ≡ [] → further first opening before (OpenDay day) ≡ further second opening before (OpenDay day)
        told_untold_opening none = rw none refl

  are_same : (acts : List Act) (day : ℤ) → IsTrue (is_business_day second) → int_lt second day ≡ true → IsHistory first acts → start_of acts ≡ Some (Opened day) → AreSame acts
  are_same [] day business later h e = absurd (none-some _ e)
  are_same (act ∷ before) day business later h e = by_older (start_of before) refl (are_same before day business later h.0) e
    where
      told : (c : Command) → start_of before ≡ None → IsHistory first (record { key = act.key; command = c } ∷ before) → told_by (next_number before) c ≡ Some (Opened day) → AreSame (record { key = act.key; command = c } ∷ before)
      told (OpenDay d) none h e =
          let is : Opened d ≡ Opened day = same_Some _ _ e in
          let days : d ≡ day = cc in
          begun act.key before d business (subst (λ x. int_lt second x ≡ true) (sym days) later) h none
      told _ none h e = cc

      by_older : (s : Option Start) → start_of before ≡ s → (start_of before ≡ Some (Opened day) → AreSame before) → told_first s (told_by (next_number before) act.command) ≡ Some (Opened day) → AreSame (act ∷ before)
      by_older None is older e = told act.command is h e
      by_older (Some s) is older e = goes_on act.key before (older (is ∙ e)) act.command h.1

  module _ (acts : List Act) (s : AreSame acts) where
    find_the_same : FindTheSame (tables_of first acts) (tables_of second acts)
    unfolding tables_of
    find_the_same table.Meta k = rw (s.day, s.shipments) refl
    find_the_same table.Stock k = rw (s.postings) refl
    find_the_same table.Orders k = rw (s.postings) refl
    find_the_same table.Lines k = rw (s.postings) refl
    find_the_same table.Staged k = rw (s.postings) refl
    find_the_same table.Reserved k = let kept = same_reserved acts s.postings s.day k.0 k.1 in rw kept refl
    find_the_same table.Shipments k = rw (s.shipments) refl
    find_the_same table.Shiplines k = rw (s.postings) refl
    find_the_same table.Cards k = rw (s.cards) refl
    find_the_same table.Repeats k = s.repeats k
    find_the_same n k = refl

pub earlier_alike : (first second day : ℤ) (acts : List Act) → IsHistory first acts → start_of acts ≡ Some (Opened day) → IsTrue (is_business_day second) → int_lt second day ≡ true
    → IsHistory second acts × (tables_of first acts ≡ tables_of second acts)
earlier_alike first second day acts h e business later =
    let s = are_same first second acts day business later h e in
    (s.history, one_tables (tables_of first acts) (tables_of second acts) (find_the_same first second acts s))

-- ---- the day that is told

-- the first day that is opened is later than the one that the acts began on
pub record IsLater (first day : ℤ) : Type 0 where
  pub business : IsTrue (is_business_day day)
  pub later : int_le day first ≡ false

pub opened_later : (first day : ℤ) (acts : List Act) → IsHistory first acts → start_of acts ≡ Some (Opened day) → IsLater first day
opened_later first day [] h e = absurd (none-some _ e)
opened_later first day (act ∷ before) h e = by_older (start_of before) refl (opened_later first day before h.0) e
  where
    told : (c : Command) → start_of before ≡ None → IsHistory first (record { key = act.key; command = c } ∷ before) → told_by (next_number before) c ≡ Some (Opened day) → IsLater first day
    told (OpenDay d) none h e =
        let is : Opened d ≡ Opened day = same_Some _ _ e in
        let days : d ≡ day = cc in
        subst (IsLater first) days (record { business = h.1.sound.command; later = subst (λ t. int_le d t ≡ false) (untold_day first before none) (day_accepted first before d h.1.passes) })
    told _ none h e = cc

    by_older : (s : Option Start) → start_of before ≡ s → (start_of before ≡ Some (Opened day) → IsLater first day) → told_first s (told_by (next_number before) act.command) ≡ Some (Opened day) → IsLater first day
    by_older None is older e = told act.command is h e
    by_older (Some s) is older e = older (is ∙ e)

pub began_on_business : (first : ℤ) (acts : List Act) → IsHistory first acts → IsTrue (is_business_day first)
began_on_business first [] h = h
began_on_business first (act ∷ before) h = began_on_business first before h.0

pub before_is_business : (first day : ℤ) → IsTrue (is_business_day first) → IsLater first day → is_business_day (day -ℤ pos 1) ≡ true
before_is_business first day b l =
    let low = (and_both (int_le (pos 10_957) first) (int_le first (pos 84_005)) b).0 in
    let high = (and_both (int_le (pos 10_957) day) (int_le day (pos 84_005)) l.business).1 in
    let later = l.later in
    let at_least : int_le (pos 10_957) (day -ℤ pos 1) ≡ true = grind (arith, ints) in
    let at_most : int_le (day -ℤ pos 1) (pos 84_005) ≡ true = grind (arith, ints) in
    and_from _ _ at_least at_most

pub before_opened : (first day : ℤ) (acts : List Act) → IsHistory first acts → start_of acts ≡ Some (Opened day) → day_before day ≡ day -ℤ pos 1
before_opened first day acts h is = let business = before_is_business first day (began_on_business first acts h) (opened_later first day acts h is) in rw business refl

pub told_day_stands : TheDayThatIsToldStands
told_day_stands first day acts h e = by_start (start_of acts) refl
  where
    -- the day that the acts began on
    itself : ((d : ℤ) → start_of acts ≢ Some (Opened d)) → IsHistory day acts × (tables_of first acts ≡ tables_of day acts)
    itself kept =
        let is : first ≡ day = same_Some first day (sym (first_day_told first acts h kept) ∙ e) in
        (subst (λ d. IsHistory d acts) is h, ap (λ d. tables_of d acts) is)

    by_start : (s : Option Start) → start_of acts ≡ s → IsHistory day acts × (tables_of first acts ≡ tables_of day acts)
    by_start None is = itself (λ d opened. none-some _ (sym is ∙ opened))
    by_start (Some (Received l n)) is = itself (λ d opened. let no : Received l n ≡ Opened d = same_Some _ _ (sym is ∙ opened) in cc)
    by_start (Some (Opened d)) is =
        let later = opened_later first d acts h is in
        let business = before_is_business first d (began_on_business first acts h) later in
        let told : day_before d ≡ day = same_Some _ _ (sym (ap (first_day (tables_of first acts)) is) ∙ e) in
        let before : d -ℤ pos 1 ≡ day = rw business at told in
        let less : int_lt (d -ℤ pos 1) d ≡ true = grind (arith, ints) in
        subst (λ x. IsHistory x acts × (tables_of first acts ≡ tables_of x acts)) before (earlier_alike first (d -ℤ pos 1) d acts h is business less)
