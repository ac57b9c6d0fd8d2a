-- On a history units stand only in known bins, on stages of known order lines and in known shipments, and only of known lots.
use Rattle.machine.proofs.Words.{◌≡◌, ℕ, ◌+◌, ◌-◌, Bool, true, false, ◌&&◌, List, [], ◌∷◌, ◌++◌, refl, ap, sym, subst, ◌∙◌, arith, eq-eqb, ◌==◌, if◌then◌else◌, find, Option, Some, None, is_some, ℤ, list_any, eqb-true, same_text, LotId, NewBin, Receipt, Command, Bin, Receive, Ship, ShipmentRow, Act, next_number, gathered, Place, Supplier, InBin, Stage, Shipped, WriteOff, Posting, balance, is_bin, is_stage, is_lot, is_shipment, KnownLot, Placed, RETURNS, bin_in, bins, has_bin, returns_bin, lots, lots_after, lot_among, has_lot, with_receipt, order_named, has_order, has_line, lines_placed, shipments, shipments_so_far, postings, postings_of, verdict, IsHistory, order_in, cons_option, orders}
use Rattle.machine.proofs.Tests.{same_text_is, is_lot_is, and_both, and_later_false}
pub use Rattle.machine.proofs.histories.ActFacts.{has_shipment, KnownPlace}
use Rattle.machine.proofs.histories.ActFacts.{Entry, Nothing, One, Corrected, ShippedOff, Returned, entry_of, entry_posted, Facts, facts_of, IsNew, order_is_new, Each, each-append, each_of_entry, Cleared, Shown, all_returned}
use Rattle.machine.proofs.histories.Cells.{Cells, into, holds}

pub record IsKnown (first : ℤ) (acts : List Act) (p : Posting) : Type 0 where
  pub lot : has_lot acts p.lot ≡ true
  pub to : KnownPlace first acts p.to p.lot
  pub from : KnownPlace first acts p.from p.lot

abbrev pub AllKnown : ℤ → List Act → List Posting → Type 0
AllKnown first acts = Each (IsKnown first acts)

-- What is known stays known

still_found : {X : Type 0} (test : X → Bool) (x : X) (xs : List X) → is_some (find test xs) ≡ true → is_some (find test (x ∷ xs)) ≡ true
still_found test x xs h = elim (test x) as (λ b. is_some (if b then Some x else find test xs) ≡ true) [ true ↦ refl | false ↦ h ]

still_received : (n : ℕ) (r : Receipt) (l : LotId) (ks : List KnownLot) → is_some (lot_among l ks) ≡ true → is_some (lot_among l (with_receipt n r ks)) ≡ true
still_received n r l ks h =
    elim (is_some (lot_among r.lot ks)) as (λ b. is_some (lot_among l (if b then ks else record { lot = r.lot; expiry = r.expiry; came = n } ∷ ks)) ≡ true) [
      | true ↦ h
      | false ↦ still_found (λ (k : KnownLot). is_lot l k.lot) (record { lot = r.lot; expiry = r.expiry; came = n }) ks h
    ]

-- a line of an order is that of an order under its name
pub line_known : (acts : List Act) (o g : List ℕ) → has_line acts o g ≡ true → has_order acts o ≡ true
line_known acts o g = by_order (order_named acts o)
  where
    by_order : (p : Option Placed) → list_any (λ l. same_text g l.gtin) (lines_placed p) ≡ true → is_some p ≡ true
    by_order None h = let f : false ≡ true = h in cc
    by_order (Some p) h = refl

module _ (first : ℤ) (act : Act) (before : List Act) (ok : verdict first before act.command ≡ None) where
  abbrev after : List Act
  after = act ∷ before

  lot_stays : (l : LotId) → has_lot before l ≡ true → has_lot after l ≡ true
  lot_stays l h = by_command act.command
    where
      by_command : (c : Command) → is_some (lot_among l (lots_after (next_number before) c (lots before))) ≡ true
      by_command (Receive r) = still_received (next_number before) r l (lots before) h
      by_command _ = h

  bin_stays : (b : List ℕ) → has_bin before b ≡ true → has_bin after b ≡ true
  bin_stays b h = by_command act.command
    where
      by_command : (c : Command) → has_bin (record { key = act.key; command = c } ∷ before) b ≡ true
      by_command (Bin x) = still_found (λ y. same_text b y.bin) x (bins before) h
      by_command _ = h

  line_stays : (o g : List ℕ) → has_line before o g ≡ true → has_line after o g ≡ true
  line_stays o g h = by_order (order_in (next_number before) act.command) (order_is_new first before act.command ok)
    where
      by_order : (p : Option Placed) → IsNew before p → list_any (λ l. same_text g l.gtin) (lines_placed (find (λ q. same_text o q.order) (cons_option p (orders before)))) ≡ true
      by_order None new = h
      by_order (Some p) new =
          elim (same_text o p.order) as (λ b. same_text o p.order ≡ b → list_any (λ l. same_text g l.gtin) (lines_placed (if b then Some p else order_named before o)) ≡ true) [
            | true ↦ λ e.
                let f : true ≡ false = sym (line_known before o g h) ∙ ap (λ (x : List ℕ). has_order before x) (same_text_is o p.order e) ∙ new in
                cc
            | false ↦ λ e. h
          ] refl

  shipment_stays : (n : ℕ) → has_shipment first before n ≡ true → has_shipment first after n ≡ true
  shipment_stays n h = by_command act.command
    where
      by_command : (c : Command) → has_shipment first (record { key = act.key; command = c } ∷ before) n ≡ true
      by_command (Ship o) = still_found (λ (s : ShipmentRow). n == s.number) _ (shipments first before) h
      by_command _ = h

  place_stays : (p : Place) (l : LotId) → KnownPlace first before p l → KnownPlace first after p l
  place_stays Supplier l h = tt
  place_stays WriteOff l h = tt
  place_stays (InBin b) l h = bin_stays b h
  place_stays (Stage o) l h = line_stays o l.gtin h
  place_stays (Shipped n o) l h = shipment_stays n h

  all_stay : (ps : List Posting) → AllKnown first before ps → AllKnown first after ps
  all_stay [] h = tt
  all_stay (p ∷ ps) h = (
    record { lot = lot_stays p.lot (h.0).lot; to = place_stays p.to p.lot (h.0).to; from = place_stays p.from p.lot (h.0).from },
    all_stay ps h.1,
  )

-- Cells that no known place has

abbrev pub Misses : ℤ → List Act → Cells → Type 0
Misses first acts w = (p : Place) (l : LotId) → KnownPlace first acts p l → has_lot acts l ≡ true → w p l ≡ false

missed_into : (first : ℤ) (acts : List Act) (w : Cells) → Misses first acts w → (ps : List Posting) → AllKnown first acts ps → into w ps ≡ 0
missed_into first acts w misses [] h = refl
missed_into first acts w misses (p ∷ ps) h =
    omega (arith, ap (λ b. if b then p.qty else 0) (misses p.to p.lot (h.0).to (h.0).lot), missed_into first acts w misses ps h.1)

-- What is on a stage came there by a posting

record OnStage (first : ℤ) (acts : List Act) (o : List ℕ) (l : LotId) : Type 0 where
  lot : has_lot acts l ≡ true
  line : has_line acts o l.gtin ≡ true

on_stage : (first : ℤ) (acts : List Act) (o : List ℕ) (l : LotId) (ps : List Posting) → AllKnown first acts ps → (into (λ p m. is_stage o p && is_lot l m) ps == 0) ≡ false → OnStage first acts o l
on_stage first acts o l [] h e = cc
on_stage first acts o l (p ∷ ps) h e =
    elim (is_stage o p.to && is_lot l p.lot) as (λ b. is_stage o p.to && is_lot l p.lot ≡ b → ((if b then p.qty else 0) + into (λ p m. is_stage o p && is_lot l m) ps == 0) ≡ false → OnStage first acts o l) [
      | true ↦ λ t f. at_place p.to (h.0).to t
      | false ↦ λ t f. on_stage first acts o l ps h.1 (ap (λ n. n == 0) (none_more (into (λ p m. is_stage o p && is_lot l m) ps)) ∙ f)
    ] refl e
  where
    none_more : (n : ℕ) → n ≡ 0 + n
    none_more n = omega arith

    at_place : (to : Place) → KnownPlace first acts to p.lot → is_stage o to && is_lot l p.lot ≡ true → OnStage first acts o l
    at_place (Stage u) k t =
        let two = and_both (same_text o u) (is_lot l p.lot) t in
        let lot : l ≡ p.lot = is_lot_is l p.lot two.1 in
        record {
          lot = ap (λ (x : LotId). has_lot acts x) lot ∙ (h.0).lot;
          line = (λ i. has_line acts (same_text_is o u two.0 i) (lot i).gtin) ∙ k;
        }
    at_place _ k t = let f : false ≡ true = t in cc

less_zero : (a b : ℕ) → (a - b == 0) ≡ false → (a == 0) ≡ false
less_zero a b e =
    elim (a == 0) as (λ t. (a == 0) ≡ t → t ≡ false) [
      | true ↦ λ f.
          let z : a ≡ 0 = eqb-true a 0 f in
          let d : a - b ≡ 0 = omega arith in
          sym (eq-eqb (a - b) 0 d) ∙ e
      | false ↦ λ f. refl
    ] refl

has_returns : (acts : List Act) → has_bin acts RETURNS ≡ true
has_returns acts = among (gathered bin_in acts)
  where
    among : (bs : List NewBin) → is_some (find (λ b. same_text RETURNS b.bin) (bs ++ returns_bin ∷ [])) ≡ true
    among [] = refl
    among (b ∷ bs) = elim (same_text RETURNS b.bin) as (λ t. is_some (if t then Some b else find (λ b. same_text RETURNS b.bin) (bs ++ returns_bin ∷ [])) ≡ true) [ true ↦ refl | false ↦ among bs ]

module _ (first : ℤ) (act : Act) (before : List Act) (ok : verdict first before act.command ≡ None) (known : AllKnown first before (postings first before)) where
  abbrev acts : List Act
  acts = act ∷ before

  abbrev ps : List Posting
  ps = postings first before

  off_stage : (to : Place) (o : List ℕ) (l : LotId) → KnownPlace first acts to l → Cleared (IsKnown first acts) (next_number before) ps to o l
  off_stage to o l k e =
      let s = on_stage first before o l ps known (less_zero _ _ e) in
      record { lot = lot_stays first act before ok l s.lot; to = k; from = line_stays first act before ok o l.gtin s.line }

  shown : (e : Entry) → Facts first act before e → Shown (IsKnown first acts) first act before ps e
  shown Nothing f = tt
  shown (One l from to q) f = λ e. record { lot = f.lot; to = place_stays first act before ok to l f.to; from = place_stays first act before ok from l f.from }
  shown (Corrected l b found) f =
      let bin = bin_stays first act before ok b f.bin in
      (λ e. record { lot = f.lot; to = bin; from = tt }, λ e. record { lot = f.lot; to = tt; from = bin })
  shown (ShippedOff o) f = λ l. off_stage (Shipped (shipments_so_far first before + 1) o) o l f.numbered
  shown Returned f = all_returned (IsKnown first acts) first act before ps (λ l o. off_stage (InBin RETURNS) o l (has_returns acts))

  known_posted : AllKnown first acts (postings_of first act before)
  known_posted =
      let e = entry_of act.command in
      subst (AllKnown first acts) (entry_posted first act before ps act.command) (each_of_entry (IsKnown first acts) first act before ps e (shown e (facts_of first act.key before act.command ok)))

-- every posting of a history names known places and a known lot
pub known_postings : (first : ℤ) (acts : List Act) → IsHistory first acts → AllKnown first acts (postings first acts)
known_postings first [] h = tt
known_postings first (act ∷ before) h =
    let known = known_postings first before h.0 in
    each-append (IsKnown first (act ∷ before)) (postings_of first act before) (postings first before) (known_posted first act before h.1.passes known) (all_stay first act before h.1.passes (postings first before) known)

module _ (first : ℤ) (acts : List Act) (history : IsHistory first acts) where
  -- cells that no known place has hold nothing
  pub unknown_holds_nothing : (w : Cells) → Misses first acts w → holds w (postings first acts) ≡ 0
  unknown_holds_nothing w misses = omega (arith, missed_into first acts w misses (postings first acts) (known_postings first acts history))

  pub unknown_bin_is_empty : (b : List ℕ) (lots : LotId → Bool) → has_bin acts b ≡ false → balance (is_bin b) lots (postings first acts) ≡ 0
  unknown_bin_is_empty b lots e = unknown_holds_nothing (λ p l. is_bin b p && lots l) at_place
    where
      at_place : (p : Place) (l : LotId) → KnownPlace first acts p l → has_lot acts l ≡ true → is_bin b p && lots l ≡ false
      at_place (InBin c) l k h =
          elim (same_text b c) as (λ t. same_text b c ≡ t → t && lots l ≡ false) [
            | true ↦ λ t. let f : true ≡ false = sym k ∙ ap (λ (x : List ℕ). has_bin acts x) (sym (same_text_is b c t)) ∙ e in cc
            | false ↦ λ t. refl
          ] refl
      at_place _ l k h = refl

  pub unknown_order_is_unstaged : (o : List ℕ) (lots : LotId → Bool) → has_order acts o ≡ false → balance (is_stage o) lots (postings first acts) ≡ 0
  unknown_order_is_unstaged o lots e = unknown_holds_nothing (λ p l. is_stage o p && lots l) at_place
    where
      at_place : (p : Place) (l : LotId) → KnownPlace first acts p l → has_lot acts l ≡ true → is_stage o p && lots l ≡ false
      at_place (Stage u) l k h =
          elim (same_text o u) as (λ t. same_text o u ≡ t → t && lots l ≡ false) [
            | true ↦ λ t. let f : true ≡ false = sym (line_known acts u l.gtin k) ∙ ap (λ (x : List ℕ). has_order acts x) (sym (same_text_is o u t)) ∙ e in cc
            | false ↦ λ t. refl
          ] refl
      at_place _ l k h = refl

  pub unknown_shipment_is_empty : (n : ℕ) (lots : LotId → Bool) → has_shipment first acts n ≡ false → balance (is_shipment n) lots (postings first acts) ≡ 0
  unknown_shipment_is_empty n lots e = unknown_holds_nothing (λ p l. is_shipment n p && lots l) at_place
    where
      at_place : (p : Place) (l : LotId) → KnownPlace first acts p l → has_lot acts l ≡ true → is_shipment n p && lots l ≡ false
      at_place (Shipped m u) l k h =
          elim (n == m) as (λ t. (n == m) ≡ t → t && lots l ≡ false) [
            | true ↦ λ t. let f : true ≡ false = sym k ∙ ap (λ (x : ℕ). has_shipment first acts x) (sym (eqb-true n m t)) ∙ e in cc
            | false ↦ λ t. refl
          ] refl
      at_place _ l k h = refl

  pub unknown_lot_is_nowhere : (l : LotId) (places : Place → Bool) → has_lot acts l ≡ false → balance places (is_lot l) (postings first acts) ≡ 0
  unknown_lot_is_nowhere l places e = unknown_holds_nothing (λ p m. places p && is_lot l m) other
    where
      other : (p : Place) (m : LotId) → KnownPlace first acts p m → has_lot acts m ≡ true → places p && is_lot l m ≡ false
      other p m k h =
          and_later_false (places p) (is_lot l m)
          (elim (is_lot l m) as (λ t. is_lot l m ≡ t → t ≡ false) [
            | true ↦ λ t. let f : true ≡ false = sym h ∙ ap (λ (x : LotId). has_lot acts x) (sym (is_lot_is l m t)) ∙ e in cc
            | false ↦ λ t. refl
          ] refl)

  pub unknown_line_is_unstaged : (o : List ℕ) (l : LotId) → has_line acts o l.gtin ≡ false → balance (is_stage o) (is_lot l) (postings first acts) ≡ 0
  unknown_line_is_unstaged o l e = unknown_holds_nothing (λ p m. is_stage o p && is_lot l m) at_place
    where
      at_place : (p : Place) (m : LotId) → KnownPlace first acts p m → has_lot acts m ≡ true → is_stage o p && is_lot l m ≡ false
      at_place (Stage u) m k h =
          elim (same_text o u && is_lot l m) as (λ t. same_text o u && is_lot l m ≡ t → t ≡ false) [
            | true ↦ λ t.
                let two = and_both (same_text o u) (is_lot l m) t in
                let same : has_line acts u m.gtin ≡ has_line acts o l.gtin = λ i. has_line acts (sym (same_text_is o u two.0) i) (sym (is_lot_is l m two.1) i).gtin in
                let f : true ≡ false = sym k ∙ same ∙ e in
                cc
            | false ↦ λ t. refl
          ] refl
      at_place _ m k h = refl
