-- The numbers of acts and shipments, and the expiries, of the rows of a history fit into their columns.
use Rattle.store.proofs.Words.{◌≡◌, ℕ, ◌+◌, ◌≤◌, Bool, true, false, ◌&&◌, List, [], ◌∷◌, find, length, Option, Some, None, refl, subst, arith, ℤ, pos, int_le, int_lt, nat_le, is_some, if◌then◌else◌, option_map, AllByRecursion, list_all, cons_option, nat_tests, ints, is_between, is_name, is_title, is_qty, same_text, LotId, is_day, is_business_day, has_order_lines, is_sound, is_new_order, is_order_line, are_lines, is_lot_id, key_text, spelling, NewOrder, Receipt, Command, Receive, Order, Urgent, Ship, Recall, OpenDay, ACTS_MAX, LotRow, RecallRow, OrderRow, UrgentRow, ShipmentRow, RepeatRow, is_expiry, fits_meta, fits_row, lot_mapping, recall_mapping, order_mapping, urgent_mapping, shipment_mapping, fits_repeat, Act, gathered, next_number, KnownLot, lot_among, lots, lots_after, lot_known, Recalling, recall_in, recalling, Placed, order_in, orders, order_named, lines_placed, lines_of, shipments, shipments_after, day_after_command, today, IsHistory, reply, verdict, lot_row, recall_row, order_row, if_urgent, urgent_row, shipment_row, repeat_row, meta_row, and_both, some_one, receive_accepted, shipments_within_acts, acts_within, is_gtin, is_least_days, LEAST_DAYS_MAX, NewLeast, LeastRow, least_mapping, least_in, days_asked, item_named, least_row}
use Rattle.commands.specs.declared.command.Command.TheVariants.{Least}

-- ---- numbers

pub between : (n most : ℕ) → 1 ≤ n → n ≤ most → is_between 1 most n ≡ true
between n most low high =
    let a : nat_le 1 n ≡ true = grind (arith, nat_tests, low) in
    let b : nat_le n most ≡ true = grind (arith, nat_tests, high) in
    (λ i. a i && b i)

pub within : (n most : ℕ) → n ≤ most → nat_le n most ≡ true
within n most high = grind (arith, nat_tests, high)

-- the number of an act of a history
pub number_fits : (first : ℤ) (act : Act) (before : List Act) → IsHistory first (act ∷ before) → is_between 1 ACTS_MAX (next_number before) ≡ true
number_fits first act before h = let few = acts_within first (act ∷ before) h in between (next_number before) ACTS_MAX (omega arith) (omega (arith, few))

-- ---- rows that are found

pub found_has : {X : Type 0} (P : X → Type 0) (test : X → Bool) (xs : List X) (x : X) → AllByRecursion P xs → find test xs ≡ Some x → P x
found_has P test [] x all e = absurd (let no : None ≡ Some x = e in cc)
found_has P test (y ∷ ys) x all e =
    elim (test y) as (λ b. (if b then Some y else find test ys) ≡ Some x → P x) [
      | true ↦ λ f. subst P (some_one y x f) all.0
      | false ↦ λ f. found_has P test ys x all.1 f
    ] e

pub mapped_has : {X Y : Type 0} (P : Y → Type 0) (f : X → Y) (o : Option X) (y : Y) → option_map f o ≡ Some y → ((x : X) → o ≡ Some x → P (f x)) → P y
mapped_has P f None y e own = absurd (let no : None ≡ Some y = e in cc)
mapped_has P f (Some x) y e own = subst P (some_one (f x) y e) (own x refl)

-- what each act tells has it, where that of one has
module _ {X : Type 0} (f : ℕ → Command → Option X) (P : X → Type 0) (own : (n : ℕ) (c : Command) (x : X) → is_between 1 ACTS_MAX n ≡ true → is_sound c ≡ true → f n c ≡ Some x → P x) where
  gathered_have : (first : ℤ) (acts : List Act) → IsHistory first acts → AllByRecursion P (gathered f acts)
  gathered_have first [] h = tt
  gathered_have first (act ∷ before) h = added (gathered_have first before h.0) (f (next_number before) act.command) refl
    where
      added : AllByRecursion P (gathered f before) → (o : Option X) → f (next_number before) act.command ≡ o → AllByRecursion P (cons_option o (gathered f before))
      added rest None e = rest
      added rest (Some x) e = (own (next_number before) act.command x (number_fits first act before h) h.1.sound.command e, rest)

-- ---- orders

abbrev IsPlacedRight : Placed → Type 0
IsPlacedRight p = (is_between 1 ACTS_MAX p.act ≡ true) × (list_all is_order_line p.lines ≡ true)

lines_right : (o : NewOrder) → is_new_order o ≡ true → list_all is_order_line o.lines ≡ true
lines_right o e =
    let lines : are_lines o.lines ≡ true = (and_both (is_name o.order && is_title o.customer) (are_lines o.lines) e).1 in
    (and_both (has_order_lines o.lines) (list_all is_order_line o.lines) lines).1

placed_right : (n : ℕ) (c : Command) (p : Placed) → is_between 1 ACTS_MAX n ≡ true → is_sound c ≡ true → order_in n c ≡ Some p → IsPlacedRight p
placed_right n (Order o) p fits sound e = subst IsPlacedRight (some_one _ p e) (fits, lines_right o sound)
placed_right n (Urgent o) p fits sound e = subst IsPlacedRight (some_one _ p e) (fits, lines_right o sound)
placed_right n _ p fits sound e = absurd (let no : None ≡ Some p = e in cc)

module _ (first : ℤ) (acts : List Act) (history : IsHistory first acts) where
  order_right : (o : List ℕ) (p : Placed) → order_named acts o ≡ Some p → IsPlacedRight p
  order_right o p named = found_has IsPlacedRight (λ p. same_text o p.order) (orders acts) p (gathered_have order_in IsPlacedRight placed_right first acts history) named

  pub lines_of_right : (o : List ℕ) → list_all is_order_line (lines_of acts o) ≡ true
  lines_of_right o = by_order (order_named acts o) refl
    where
      by_order : (p : Option Placed) → order_named acts o ≡ p → list_all is_order_line (lines_placed p) ≡ true
      by_order None named = refl
      by_order (Some p) named = (order_right o p named).1

  pub order_fits : (o : List ℕ) (row : OrderRow) → order_row first acts o ≡ Some row → fits_row order_mapping row ≡ true
  order_fits o row e = mapped_has (λ (r : OrderRow). fits_row order_mapping r ≡ true) _ (order_named acts o) row e (λ p named. let right = (order_right o p named).0 in (λ i. right i && true))

  pub urgent_fits : (o : List ℕ) (row : UrgentRow) → urgent_row acts o ≡ Some row → fits_row urgent_mapping row ≡ true
  urgent_fits o row e = by_order (order_named acts o) refl e
    where
      by_order : (p : Option Placed) → order_named acts o ≡ p → if_urgent p ≡ Some row → fits_row urgent_mapping row ≡ true
      by_order None named f = absurd (let no : None ≡ Some row = f in cc)
      by_order (Some p) named f =
          elim p.urgent as (λ b. (if b then Some (record { order = p.order; act = p.act }) else None) ≡ Some row → fits_row urgent_mapping row ≡ true) [
            | true ↦ λ g. subst (λ (r : UrgentRow). fits_row urgent_mapping r ≡ true) (some_one _ row g) (order_right o p named).0
            | false ↦ λ g. absurd (let no : None ≡ Some row = g in cc)
          ] f

-- ---- days that are asked for

abbrev IsLeastRight : NewLeast → Type 0
IsLeastRight l = nat_le l.days LEAST_DAYS_MAX ≡ true

least_right : (n : ℕ) (c : Command) (l : NewLeast) → is_between 1 ACTS_MAX n ≡ true → is_sound c ≡ true → least_in n c ≡ Some l → IsLeastRight l
least_right n (Least own) l fits sound e = subst IsLeastRight (some_one _ l e) (and_both (nat_le 0 own.days) (nat_le own.days LEAST_DAYS_MAX) (and_both (is_gtin own.gtin) (is_least_days own.days) sound).1).1
least_right n _ l fits sound e = absurd (let no : None ≡ Some l = e in cc)

pub least_fits : (first : ℤ) (acts : List Act) → IsHistory first acts → (g : List ℕ) (row : LeastRow) → least_row acts g ≡ Some row → fits_row least_mapping row ≡ true
least_fits first acts history g row e = mapped_has (λ (r : LeastRow). fits_row least_mapping r ≡ true) _ (item_named acts g) row e (λ item named. asked item.gtin _ refl)
  where
    asked : (gtin : List ℕ) (o : Option NewLeast) → find (λ l. same_text gtin l.gtin) (gathered least_in acts) ≡ o → nat_le (days_asked o) LEAST_DAYS_MAX ≡ true
    asked gtin None found = refl
    asked gtin (Some l) found = found_has IsLeastRight _ (gathered least_in acts) l (gathered_have least_in IsLeastRight least_right first acts history) found

-- ---- recalls

abbrev IsRecallRight : Recalling → Type 0
IsRecallRight r = is_between 1 ACTS_MAX r.act ≡ true

recall_right : (n : ℕ) (c : Command) (r : Recalling) → is_between 1 ACTS_MAX n ≡ true → is_sound c ≡ true → recall_in n c ≡ Some r → IsRecallRight r
recall_right n (Recall l) r fits sound e = subst IsRecallRight (some_one _ r e) fits
recall_right n _ r fits sound e = absurd (let no : None ≡ Some r = e in cc)

pub recall_fits : (first : ℤ) (acts : List Act) → IsHistory first acts → (l : LotId) (row : RecallRow) → recall_row acts l ≡ Some row → fits_row recall_mapping row ≡ true
recall_fits first acts history l row e =
    mapped_has (λ (r : RecallRow). fits_row recall_mapping r ≡ true) _ (recalling acts l) row e
    (λ r named. found_has IsRecallRight _ (gathered recall_in acts) r (gathered_have recall_in IsRecallRight recall_right first acts history) named)

-- ---- days and lots

pub today_is_business : (first : ℤ) (acts : List Act) → IsHistory first acts → is_business_day (today first acts) ≡ true
today_is_business first [] h = h
today_is_business first (act ∷ before) h = after (today_is_business first before h.0) act.command h.1.sound.command
  where
    after : is_business_day (today first before) ≡ true → (c : Command) → is_sound c ≡ true → is_business_day (day_after_command c (today first before)) ≡ true
    after last (OpenDay day) sound = sound
    after last _ sound = last

abbrev IsLotRight : KnownLot → Type 0
IsLotRight k = (is_expiry k.expiry ≡ true) × (is_between 1 ACTS_MAX k.came ≡ true)

-- a lot that is received is not past, and no books begin before 2000
expiry_right : (first : ℤ) (before : List Act) (r : Receipt) → IsHistory first before → verdict first before (Receive r) ≡ None → is_sound (Receive r) ≡ true → is_expiry r.expiry ≡ true
expiry_right first before r h ok sound =
    let day = today first before in
    let fresh : int_lt r.expiry day ≡ false = (receive_accepted first before r ok).not_expired in
    let begun : int_le (pos 10_957) day ≡ true = (and_both (int_le (pos 10_957) day) (int_le day (pos 84_005)) (today_is_business first before h)).0 in
    let late : int_le (pos 10_957) r.expiry ≡ true = grind (arith, ints, fresh, begun) in
    let one = and_both (is_lot_id r.lot && is_day r.expiry && is_name r.bin) (is_qty r.qty) sound in
    let two = and_both (is_lot_id r.lot && is_day r.expiry) (is_name r.bin) one.0 in
    let three = and_both (is_lot_id r.lot) (is_day r.expiry) two.0 in
    (λ i. late i && three.1 i)

lots_right : (first : ℤ) (acts : List Act) → IsHistory first acts → AllByRecursion IsLotRight (lots acts)
lots_right first [] h = tt
lots_right first (act ∷ before) h = after (lots_right first before h.0) act.command h.1.passes h.1.sound.command
  where
    after : AllByRecursion IsLotRight (lots before) → (c : Command) → verdict first before c ≡ None → is_sound c ≡ true → AllByRecursion IsLotRight (lots_after (next_number before) c (lots before))
    after rest (Receive r) ok sound =
        elim (is_some (lot_among r.lot (lots before))) as (λ b. AllByRecursion IsLotRight (if b then lots before else record { lot = r.lot; expiry = r.expiry; came = next_number before } ∷ lots before)) [
          | true ↦ rest
          | false ↦ ((expiry_right first before r h.0 ok sound, number_fits first act before h), rest)
        ]
    after rest _ ok sound = rest

pub lot_fits : (first : ℤ) (acts : List Act) → IsHistory first acts → (l : LotId) (row : LotRow) → lot_row acts l ≡ Some row → fits_row lot_mapping row ≡ true
lot_fits first acts history l row e =
    mapped_has (λ (r : LotRow). fits_row lot_mapping r ≡ true) _ (lot_known acts l) row e
    (λ k named. let right = found_has IsLotRight _ (lots acts) k (lots_right first acts history) named in (λ i. right.0 i && (right.1 i && true)))

-- ---- shipments

pub shipments_right : (first : ℤ) (acts : List Act) → IsHistory first acts → AllByRecursion (λ (s : ShipmentRow). fits_row shipment_mapping s ≡ true) (shipments first acts)
shipments_right first [] h = tt
shipments_right first (act ∷ before) h = after (shipments_right first before h.0) act.command
  where
    after : AllByRecursion (λ (s : ShipmentRow). fits_row shipment_mapping s ≡ true) (shipments first before) → (c : Command) → AllByRecursion (λ (s : ShipmentRow). fits_row shipment_mapping s ≡ true) (shipments_after first before c (shipments first before))
    after rest (Ship o) =
        let few = acts_within first (act ∷ before) h in
        let number = between (length (shipments first before) + 1) ACTS_MAX (omega arith) (omega (arith, shipments_within_acts first before, few)) in
        let mine = number_fits first act before h in
        ((λ i. number i && (mine i && true)), rest)
    after rest _ = rest

pub shipment_fits : (first : ℤ) (acts : List Act) → IsHistory first acts → (n : ℕ) (row : ShipmentRow) → shipment_row first acts n ≡ Some row → fits_row shipment_mapping row ≡ true
shipment_fits first acts history n row e = found_has (λ (s : ShipmentRow). fits_row shipment_mapping s ≡ true) _ (shipments first acts) row (shipments_right first acts history) e

-- ---- `repeats` and `meta`

pub repeat_fits : (first : ℤ) (acts : List Act) → IsHistory first acts → (k : List ℕ) (row : RepeatRow) → repeat_row first acts k ≡ Some row → fits_repeat row ≡ true
repeat_fits first [] h k row e = absurd (let no : None ≡ Some row = e in cc)
repeat_fits first (act ∷ before) h k row e =
    elim (same_text k (key_text act.key)) as (λ b. (if b then Some (record { k = key_text act.key; act = next_number before; spell = spelling act.command; reply = reply first act before }) else repeat_row first before k) ≡ Some row → fits_repeat row ≡ true) [
      | true ↦ λ f. subst (λ (r : RepeatRow). fits_repeat r ≡ true) (some_one _ row f) (number_fits first act before h)
      | false ↦ λ f. repeat_fits first before h.0 k row f
    ] e

pub meta_fits : (first : ℤ) (acts : List Act) → IsHistory first acts → fits_meta (meta_row first acts) ≡ true
meta_fits first acts history =
    let few = acts_within first acts history in
    let a : nat_le (length acts) ACTS_MAX ≡ true = within (length acts) ACTS_MAX few in
    let b : nat_le (length (shipments first acts)) ACTS_MAX ≡ true = within (length (shipments first acts)) ACTS_MAX (omega (arith, few, shipments_within_acts first acts)) in
    (λ i. a i && b i)
