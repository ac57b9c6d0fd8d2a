-- The units of the rows of a history fit into their columns.
use Rattle.store.proofs.Words.{◌≡◌, ℕ, zero, suc, ◌+◌, ◌-◌, ◌≤◌, Bool, true, false, ◌&&◌, List, [], ◌∷◌, find, Option, Some, None, refl, sym, ap, subst, ◌∙◌, arith, ℤ, pos, negsuc, neg_ℤ, decimal, ⊤, ◌==◌, ◌||◌, nat_le, is_some, if◌then◌else◌, flat_map, AllByRecursion, list_all, eqb-true, nat_tests, all-append, QTY_MAX, is_between, is_gtin, is_name, is_qty, is_counted, is_delta, same_text, LotId, is_sound, is_order_line, is_lot_id, is_day, OrderLine, Key, Command, Receive, Move, Count, Adjust, Pick, Unpick, Ship, Recall, OpenDay, ACTS_MAX, UNITS_MAX, CardKind, WriteOn, WrittenOff, Shipment, StockRow, LineRow, StagedRow, ReservedRow, ShipmentRow, ShiplineRow, CardRow, is_card_units, fits_row, stock_mapping, line_mapping, staged_mapping, reserved_mapping, shipment_mapping, shipline_mapping, card_mapping, Act, next_number, Place, Supplier, InBin, Stage, Shipped, WriteOff, Posting, balance, is_stage, is_shipment, is_lot, posting, correction, written, cleared, shipped_off, lot_returned, returned, posted, postings, postings_of, made_unshippable, RETURNS, KnownLot, lots, Placed, orders, order_named, lines_placed, lines_of, is_cancelled, shipments, shipments_so_far, in_bin, staged_of_lot, item_postings, staged, shipped, shipped_of, reserved, cards, card_line, card_lines, delivery_note, lot_units_in_house, IsHistory, names_item_twice, if_any, stock_row, line_row, staged_row, reserved_row, shipline_row, card_row, any_found, and_both, some_one, same_text_refl, is_lot_item, shipment_after, IsPart, holds_split, served, served_is, served_within_ordered, unknown_shipment_is_empty, legal_history, ordered_within_limit, line_qty, needs_of_line, reserved_within_needs, unknown_is_unreserved, shipments_apart, AllSingle, orders_single, lot_within_limit, bin_within_limit, Stays, stays_posted, units_stay}
use Rattle.machine.proofs.histories.ActFacts.{Each}
use Rattle.commands.specs.declared.command.Command.TheVariants.{Hold, Least}
use Rattle.commands.specs.declared.rows.CardKind.TheVariants.{Receipt}
use Rattle.store.proofs.ActsFit.{between, within, number_fits, found_has, mapped_has, lines_of_right, shipments_right}

-- ---- rows of units

not_none : (q : ℕ) → (q == 0) ≡ false → 1 ≤ q
not_none zero e = absurd (let no : true ≡ false = e in cc)
not_none (suc n) e = omega arith

any_has : {X : Type 0} (P : X → Type 0) (q : ℕ) (row x : X) → if_any q row ≡ Some x → (1 ≤ q → P row) → P x
any_has P q row x e own =
    elim (q == 0) as (λ b. (q == 0) ≡ b → (if b then None else Some row) ≡ Some x → P x) [
      | true ↦ λ t f. absurd (let no : None ≡ Some x = f in cc)
      | false ↦ λ t f. subst P (some_one row x f) (own (not_none q t))
    ] refl e

-- what is found keeps the test of all
found_passes : {X : Type 0} (all test : X → Bool) (xs : List X) (x : X) → list_all all xs ≡ true → find test xs ≡ Some x → all x ≡ true
found_passes all test [] x h e = absurd (let no : None ≡ Some x = e in cc)
found_passes all test (y ∷ ys) x h e =
    let two = and_both (all y) (list_all all ys) h in
    elim (test y) as (λ b. (if b then Some y else find test ys) ≡ Some x → all x ≡ true) [
      | true ↦ λ f. subst (λ z. all z ≡ true) (some_one y x f) two.0
      | false ↦ λ f. found_passes all test ys x two.1 f
    ] e

found_itself : {X : Type 0} (test : X → Bool) (xs : List X) (x : X) → find test xs ≡ Some x → test x ≡ true
found_itself test [] x e = absurd (let no : None ≡ Some x = e in cc)
found_itself test (y ∷ ys) x e =
    elim (test y) as (λ b. test y ≡ b → (if b then Some y else find test ys) ≡ Some x → test x ≡ true) [
      | true ↦ λ t f. subst (λ z. test z ≡ true) (some_one y x f) t
      | false ↦ λ t f. found_itself test ys x f
    ] refl e

module _ (first : ℤ) (acts : List Act) (history : IsHistory first acts) where
  pub stock_fits : (l : LotId) (b : List ℕ) (row : StockRow) → stock_row first acts l b ≡ Some row → fits_row stock_mapping row ≡ true
  stock_fits l b row e = any_has (λ (r : StockRow). fits_row stock_mapping r ≡ true) (in_bin first acts b l) _ row e (λ some. between (in_bin first acts b l) UNITS_MAX some (bin_within_limit first acts history l.gtin l (same_text_refl l.gtin) b))

  -- ---- lines

  shipped_within : (o g : List ℕ) → shipped_of first acts o g ≤ QTY_MAX
  shipped_within o g = omega (arith, served_is first acts (legal_history first acts history) o g, served_within_ordered first acts history o g, ordered_within_limit first acts history o g)

  pub line_fits : (o g : List ℕ) (row : LineRow) → line_row first acts o g ≡ Some row → fits_row line_mapping row ≡ true
  line_fits o g row e =
      mapped_has (λ (r : LineRow). fits_row line_mapping r ≡ true) _ (find (λ (l : OrderLine). same_text g l.gtin) (lines_of acts o)) row e (λ l found.
      let sound = found_passes is_order_line (λ (l : OrderLine). same_text g l.gtin) (lines_of acts o) l (lines_of_right first acts history o) found in
      let ordered : is_qty l.qty ≡ true = (and_both (is_gtin l.gtin) (is_qty l.qty) sound).1 in
      let gone : nat_le (shipped_of first acts o g) QTY_MAX ≡ true = within (shipped_of first acts o g) QTY_MAX (shipped_within o g) in
      (λ i. ordered i && gone i))

  -- ---- stages

  lot_in_served : (o : List ℕ) (l : LotId) → IsPart (λ p m. is_stage o p && is_lot l m) (served o l.gtin)
  lot_in_served o l (Stage u) m e = let two = and_both (same_text o u) (is_lot l m) e in (λ i. (two.0 i || false) && is_lot_item l m two.1 i)
  lot_in_served o l (InBin b) m e = e
  lot_in_served o l Supplier m e = e
  lot_in_served o l WriteOff m e = e
  lot_in_served o l (Shipped n u) m e = absurd (let no : false ≡ true = e in cc)

  pub staged_within : (o : List ℕ) (l : LotId) → staged_of_lot first acts o l ≤ QTY_MAX
  staged_within o l =
      let split = holds_split (postings first acts) (legal_history first acts history) (λ p m. is_stage o p && is_lot l m) (served o l.gtin) (record { supplier = λ m. refl; write_off = λ m. refl }) (record { supplier = λ m. refl; write_off = λ m. refl }) (lot_in_served o l) in
      omega (arith, split, served_within_ordered first acts history o l.gtin, ordered_within_limit first acts history o l.gtin)

  pub staged_fits : (o : List ℕ) (l : LotId) (row : StagedRow) → staged_row first acts o l ≡ Some row → fits_row staged_mapping row ≡ true
  staged_fits o l row e = any_has (λ (r : StagedRow). fits_row staged_mapping r ≡ true) (staged_of_lot first acts o l) _ row e (λ some. between (staged_of_lot first acts o l) QTY_MAX some (staged_within o l))

  -- ---- reservations

  less : (c : Bool) (q s t : ℕ) → (if c then 0 else q - s - t) ≤ q - 0
  less true q s t = omega arith
  less false q s t = omega arith

  single_of : (o : List ℕ) (all : List Placed) (p : Placed) → AllSingle all → find (λ q. same_text o q.order) all ≡ Some p → names_item_twice p.lines ≡ false
  single_of o [] p s e = absurd (let no : None ≡ Some p = e in cc)
  single_of o (q ∷ qs) p s e =
      elim (same_text o q.order) as (λ b. (if b then Some q else find (λ q. same_text o q.order) qs) ≡ Some p → names_item_twice p.lines ≡ false) [
        | true ↦ λ f. ap (λ (x : Placed). names_item_twice x.lines) (sym (some_one q p f)) ∙ s.0
        | false ↦ λ f. single_of o qs p s.1 f
      ] e

  reserved_within : (o : List ℕ) (l : LotId) → reserved first acts o l ≤ QTY_MAX
  reserved_within o l = by_order (order_named acts o) refl
    where
      by_order : (p : Option Placed) → order_named acts o ≡ p → reserved first acts o l ≤ QTY_MAX
      by_order None none = omega (arith, unknown_is_unreserved first acts o l none)
      by_order (Some p) named =
          let ps : List Posting = item_postings first acts l.gtin in
          let lines : lines_of acts o ≡ p.lines = ap lines_placed named in
          let all = needs_of_line acts ps l.gtin p (λ g. 0) (λ m. less (is_cancelled acts p.order) m.qty (staged ps p.order m.gtin) (shipped ps p.order m.gtin)) p.lines (single_of o (orders acts) p (orders_single first acts history) named) in
          omega (
            arith,
            reserved_within_needs first acts o l p named,
            all,
            ap (λ (ls : List OrderLine). line_qty (find (λ m. same_text l.gtin m.gtin) ls)) lines,
            ordered_within_limit first acts history o l.gtin,
          )

  pub reserved_fits : (o : List ℕ) (l : LotId) (row : ReservedRow) → reserved_row first acts o l ≡ Some row → fits_row reserved_mapping row ≡ true
  reserved_fits o l row e = any_has (λ (r : ReservedRow). fits_row reserved_mapping r ≡ true) (reserved first acts o l) _ row e (λ some. between (reserved first acts o l) QTY_MAX some (reserved_within o l))

-- ---- shipments

-- the units of a lot in a shipment were staged for its order
module _ (first : ℤ) (l : LotId) where
  abbrev units_of : List Act → ℕ → ℕ
  units_of acts n = balance (is_shipment n) (is_lot l) (postings first acts)

  shipped_units : (before : List Act) (key : Key) (o : List ℕ) → IsHistory first (record { key = key; command = Ship o } ∷ before) → (n : ℕ) → units_of before n ≤ QTY_MAX → units_of (record { key = key; command = Ship o } ∷ before) n ≤ QTY_MAX
  shipped_units before key o next n low =
      let number = shipments_so_far first before + 1 in
      let unknown : units_of before number ≡ 0 =
      unknown_shipment_is_empty first before next.0 number (is_lot l) (any_found (λ (x : ShipmentRow). number == x.number) (shipments first before) ∙ (shipments_apart first (record { key = key; command = Ship o } ∷ before)).0) in
      elim (n == number) as (λ b. (n == number) ≡ b → units_of (record { key = key; command = Ship o } ∷ before) n ≤ QTY_MAX) [
        | true ↦ λ e.
            let is : n ≡ number = eqb-true n number e in
            omega (arith, shipment_after first before key o next n l, ap (λ b. if b then staged_of_lot first before o l else 0) e, ap (units_of before) is, unknown, staged_within first before next.0 o l)
        | false ↦ λ e. omega (arith, shipment_after first before key o next n l, ap (λ b. if b then staged_of_lot first before o l else 0) e, low)
      ] refl

  units_within : (acts : List Act) → IsHistory first acts → (n : ℕ) → units_of acts n ≤ QTY_MAX
  units_within [] h n = omega arith
  units_within (act ∷ before) h n = after (units_within before h.0 n) act.key act.command h
    where
      kept : units_of before n ≤ QTY_MAX → (key : Key) (c : Command) → Each Stays (posted first (record { key = key; command = c }) before (postings first before) c) → units_of (record { key = key; command = c } ∷ before) n ≤ QTY_MAX
      kept low key c stay = omega (arith, units_stay n (is_lot l) (posted first (record { key = key; command = c }) before (postings first before) c) (postings first before) stay, low)

      after : units_of before n ≤ QTY_MAX → (key : Key) (c : Command) → IsHistory first (record { key = key; command = c } ∷ before) → units_of (record { key = key; command = c } ∷ before) n ≤ QTY_MAX
      after low key (Ship o) next = shipped_units before key o next n low
      after low key c next = kept low key c (stays_posted first (record { key = key; command = c }) before (postings first before) c refl)

  -- a shipment with units has the number of one
  number_within : (acts : List Act) → IsHistory first acts → (n : ℕ) → 1 ≤ units_of acts n → is_between 1 ACTS_MAX n ≡ true
  number_within acts h n some = by_found (find (λ (s : ShipmentRow). n == s.number) (shipments first acts)) refl
    where
      by_found : (s : Option ShipmentRow) → find (λ (s : ShipmentRow). n == s.number) (shipments first acts) ≡ s → is_between 1 ACTS_MAX n ≡ true
      by_found None none = let empty = unknown_shipment_is_empty first acts h n (is_lot l) (ap is_some none) in absurd (omega (arith, empty, some))
      by_found (Some s) found =
          let own : n ≡ s.number = eqb-true n s.number (found_itself (λ (s : ShipmentRow). n == s.number) (shipments first acts) s found) in
          let fits = found_has (λ (s : ShipmentRow). fits_row shipment_mapping s ≡ true) _ (shipments first acts) s (shipments_right first acts h) found in
          ap (is_between 1 ACTS_MAX) own ∙ (and_both (is_between 1 ACTS_MAX s.number) (is_between 1 ACTS_MAX s.act && true) fits).0

  pub shipline_fits : (acts : List Act) → IsHistory first acts → (n : ℕ) (row : ShiplineRow) → shipline_row first acts n l ≡ Some row → fits_row shipline_mapping row ≡ true
  shipline_fits acts h n row e =
      any_has (λ (r : ShiplineRow). fits_row shipline_mapping r ≡ true) (units_of acts n) _ row e (λ some.
      let number = number_within acts h n some in
      let units = between (units_of acts n) QTY_MAX some (units_within acts h n) in
      (λ i. number i && units i))

-- ---- card lines

-- the units of a posting that a card has a line of
abbrev UnitsFit : Place → Place → ℕ → Type 0
UnitsFit Supplier (InBin b) q = q ≤ QTY_MAX
UnitsFit WriteOff (InBin b) q = q ≤ QTY_MAX
UnitsFit (InBin b) WriteOff q = q ≤ UNITS_MAX
UnitsFit (Stage o) (Shipped n u) q = q ≤ UNITS_MAX
UnitsFit _ _ q = ⊤

abbrev IsPostedRight : ℕ → Posting → Type 0
IsPostedRight n p = (p.act ≡ n) × (1 ≤ p.qty) × UnitsFit p.from p.to p.qty

right_posting : (n : ℕ) (l : LotId) (from to : Place) (q : ℕ) → UnitsFit from to q → AllByRecursion (IsPostedRight n) (posting n l from to q)
right_posting n l from to q fits =
    elim (q == 0) as (λ b. (q == 0) ≡ b → AllByRecursion (IsPostedRight n) (if b then [] else record { act = n; lot = l; from = from; to = to; qty = q } ∷ [])) [
      | true ↦ λ e. tt
      | false ↦ λ e. ((refl, not_none q e, fits), tt)
    ] refl

card_on : (q : ℕ) → 1 ≤ q → q ≤ QTY_MAX → is_card_units (pos q) ≡ true
card_on q some few = between q QTY_MAX some few

card_off : (q : ℕ) → 1 ≤ q → q ≤ UNITS_MAX → is_card_units (neg_ℤ (pos q)) ≡ true
card_off zero some few = absurd (omega arith)
card_off (suc k) some few = grind (arith, nat_tests, few)

module _ (first : ℤ) (act : Act) (before : List Act) (history : IsHistory first (act ∷ before)) where
  line_right : (p : Posting) (kind : CardKind) (note : List ℕ) (q : ℤ) → p.act ≡ next_number before → is_card_units q ≡ true → AllByRecursion (λ (c : CardRow). fits_row card_mapping c ≡ true) (card_line first act before p kind note q)
  line_right p kind note q own units =
      let number : is_between 1 ACTS_MAX p.act ≡ true = ap (is_between 1 ACTS_MAX) own ∙ number_fits first act before history in
      let rest : nat_le (lot_units_in_house first (act ∷ before) p.lot) UNITS_MAX ≡ true = within (lot_units_in_house first (act ∷ before) p.lot) UNITS_MAX (lot_within_limit first (act ∷ before) history p.lot.gtin p.lot (same_text_refl p.lot.gtin)) in
      ((λ i. number i && (units i && rest i)), tt)

  lines_right : (p : Posting) (from to : Place) → p.act ≡ next_number before → 1 ≤ p.qty → UnitsFit from to p.qty → AllByRecursion (λ (c : CardRow). fits_row card_mapping c ≡ true) (card_lines first act before p from to)
  lines_right p Supplier (InBin b) own some fits = line_right p Receipt (delivery_note act.key) (pos p.qty) own (card_on p.qty some fits)
  lines_right p WriteOff (InBin b) own some fits = line_right p WriteOn b (pos p.qty) own (card_on p.qty some fits)
  lines_right p (InBin b) WriteOff own some fits = line_right p WrittenOff b (neg_ℤ (pos p.qty)) own (card_off p.qty some fits)
  lines_right p (Stage o) (Shipped n u) own some fits = line_right p Shipment (decimal n) (neg_ℤ (pos p.qty)) own (card_off p.qty some fits)
  lines_right p _ _ own some fits = tt

  all_lines_right : (ps : List Posting) → AllByRecursion (IsPostedRight (next_number before)) ps → AllByRecursion (λ (c : CardRow). fits_row card_mapping c ≡ true) (flat_map (λ p. card_lines first act before p p.from p.to) ps)
  all_lines_right [] all = tt
  all_lines_right (p ∷ ps) all =
      all-append (λ (c : CardRow). fits_row card_mapping c ≡ true) (card_lines first act before p p.from p.to) (flat_map (λ p. card_lines first act before p p.from p.to) ps)
      (lines_right p p.from p.to all.0.0 all.0.1 all.0.2) (all_lines_right ps all.1)

module _ (first : ℤ) (act : Act) (before : List Act) (history : IsHistory first before) where
  abbrev n : ℕ
  n = next_number before

  abbrev ps : List Posting
  ps = postings first before

  right_lot : (k : KnownLot) (os : List Placed) → AllByRecursion (IsPostedRight n) (lot_returned n os ps k)
  right_lot k [] = tt
  right_lot k (p ∷ os) =
      all-append (IsPostedRight n) (cleared n ps (InBin RETURNS) p.order k.lot) (lot_returned n os ps k) (right_posting n k.lot (Stage p.order) (InBin RETURNS) (balance (is_stage p.order) (is_lot k.lot) ps) tt) (right_lot k os)

  right_returned : (ks : List KnownLot) → AllByRecursion (IsPostedRight n) (returned n ks (orders before) ps)
  right_returned [] = tt
  right_returned (k ∷ ks) = all-append (IsPostedRight n) (lot_returned n (orders before) ps k) (returned n ks (orders before) ps) (right_lot k (orders before)) (right_returned ks)

  right_shipped : (s : ℕ) (o : List ℕ) (ks : List KnownLot) → AllByRecursion (IsPostedRight n) (shipped_off n s o ks ps)
  right_shipped s o [] = tt
  right_shipped s o (k ∷ ks) =
      let few = staged_within first before history o k.lot in
      all-append (IsPostedRight n) (cleared n ps (Shipped s o) o k.lot) (shipped_off n s o ks ps) (right_posting n k.lot (Stage o) (Shipped s o) (balance (is_stage o) (is_lot k.lot) ps) (omega (arith, few))) (right_shipped s o ks)

  right_written : (l : LotId) (b : List ℕ) (z : ℤ) → is_delta z ≡ true → AllByRecursion (IsPostedRight n) (written n l b z)
  right_written l b (pos k) sound = let few = (and_both (nat_le 1 k) (nat_le k QTY_MAX) sound).1 in right_posting n l WriteOff (InBin b) k (grind (arith, nat_tests, few))
  right_written l b (negsuc k) sound = let few = (and_both (nat_le 1 (suc k)) (nat_le (suc k) QTY_MAX) sound).1 in right_posting n l (InBin b) WriteOff (suc k) (grind (arith, nat_tests, few))

  right_corrected : (l : LotId) (b : List ℕ) (found : ℕ) → is_counted found ≡ true → AllByRecursion (IsPostedRight n) (correction n l b (in_bin first before b l) found)
  right_corrected l b found sound =
      let have = in_bin first before b l in
      let high = bin_within_limit first before history l.gtin l (same_text_refl l.gtin) b in
      let low : found ≤ QTY_MAX = let two = (and_both (nat_le 0 found) (nat_le found QTY_MAX) sound).1 in grind (arith, nat_tests, two) in
      all-append (IsPostedRight n) (posting n l WriteOff (InBin b) (found - have)) (posting n l (InBin b) WriteOff (have - found)) (right_posting n l WriteOff (InBin b) (found - have) (omega (arith, low))) (right_posting n l (InBin b) WriteOff (have - found) (omega (arith, high)))

  right_posted : (c : Command) → is_sound c ≡ true → AllByRecursion (IsPostedRight n) (posted first act before ps c)
  right_posted (Receive r) sound =
      let units : is_qty r.qty ≡ true = (and_both (is_lot_id r.lot && is_day r.expiry && is_name r.bin) (is_qty r.qty) sound).1 in
      let few = (and_both (nat_le 1 r.qty) (nat_le r.qty QTY_MAX) units).1 in
      right_posting n r.lot Supplier (InBin r.bin) r.qty (grind (arith, nat_tests, few))
  right_posted (Move m) sound = right_posting n m.lot (InBin m.from) (InBin m.to) m.qty tt
  right_posted (Count c) sound = right_corrected c.lot c.bin c.qty (and_both (is_lot_id c.lot && is_name c.bin) (is_counted c.qty) sound).1
  right_posted (Adjust a) sound = right_written a.lot a.bin a.change (and_both (is_lot_id a.lot && is_name a.bin) (is_delta a.change) sound).1
  right_posted (Pick p) sound = right_posting n p.lot (InBin p.bin) (Stage p.order) p.qty tt
  right_posted (Unpick p) sound = right_posting n p.lot (Stage p.order) (InBin p.bin) p.qty tt
  right_posted (Ship o) sound = right_shipped (shipments_so_far first before + 1) o (lots before)
  right_posted (Hold l) sound = right_returned (made_unshippable first act before)
  right_posted (Recall l) sound = right_returned (made_unshippable first act before)
  right_posted (OpenDay day) sound = right_returned (made_unshippable first act before)
  right_posted (Least l) sound = right_returned (made_unshippable first act before)
  right_posted _ sound = tt

cards_right : (first : ℤ) (acts : List Act) → IsHistory first acts → AllByRecursion (λ (c : CardRow). fits_row card_mapping c ≡ true) (cards first acts)
cards_right first [] h = tt
cards_right first (act ∷ before) h =
    all-append (λ (c : CardRow). fits_row card_mapping c ≡ true) (flat_map (λ p. card_lines first act before p p.from p.to) (postings_of first act before)) (cards first before)
    (all_lines_right first act before h (postings_of first act before) (right_posted first act before h.0 act.command h.1.sound.command)) (cards_right first before h.0)

pub card_fits : (first : ℤ) (acts : List Act) → IsHistory first acts → (l : LotId) (n : ℕ) (row : CardRow) → card_row first acts l n ≡ Some row → fits_row card_mapping row ≡ true
card_fits first acts history l n row e = found_has (λ (c : CardRow). fits_row card_mapping c ≡ true) _ (cards first acts) row (cards_right first acts history) e
