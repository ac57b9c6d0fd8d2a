-- What an act of each kind posts, and what holds of it where it is accepted. The laws over all histories are proved of the few forms that
-- postings have, and so need no match over the commands.
use Rattle.machine.proofs.Words.{◌≡◌, ℕ, suc, ◌+◌, ◌-◌, ◌≤◌, Bool, true, false, List, [], ◌∷◌, ◌++◌, refl, ap, eq-eqb, ◌==◌, if◌then◌else◌, find, Some, None, is_some, ℤ, pos, negsuc, LotId, UNITS_MAX, Key, Receipt, Adjustment, Command, Receive, Move, Count, Adjust, Pick, Unpick, Ship, Hold, Recall, OpenDay, Least, Act, next_number, Place, Supplier, InBin, Stage, Shipped, WriteOff, Posting, balance, is_bin, is_stage, is_lot, of_item, in_house, KnownLot, Placed, RETURNS, has_bin, lots, lot_among, has_lot, with_receipt, orders, has_line, shipments, shipments_so_far, today, posting, correction, cleared, shipped_off, lot_returned, returned, made_unshippable, posted, postings, in_bin, units_in_house, touches, verdict, taken_off, put_on, Order, Urgent, has_order, order_in, Option}
use Rattle.machine.proofs.Tests.{is_lot_refl}
use Rattle.machine.proofs.histories.Accepted.{receive_accepted, move_accepted, count_accepted, adjust_accepted, pick_accepted, unpick_accepted, order_accepted, urgent_accepted}
use Rattle.machine.proofs.histories.Cells.{CanTake}

-- The forms that the postings of an act have

pub data Entry : Type 0 where
  Nothing : Entry
  One : (lot : LotId) (from to : Place) (qty : ℕ) → Entry
  Corrected : (lot : LotId) (bin : List ℕ) (found : ℕ) → Entry
  ShippedOff : (order : List ℕ) → Entry
  Returned : Entry

abbrev pub written_entry : LotId → List ℕ → ℤ → Entry
written_entry l b (pos k) = One l WriteOff (InBin b) k
written_entry l b (negsuc k) = One l (InBin b) WriteOff (suc k)

abbrev pub entry_of : Command → Entry
entry_of (Receive r) = One r.lot Supplier (InBin r.bin) r.qty
entry_of (Move m) = One m.lot (InBin m.from) (InBin m.to) m.qty
entry_of (Count c) = Corrected c.lot c.bin c.qty
entry_of (Adjust a) = written_entry a.lot a.bin a.change
entry_of (Pick p) = One p.lot (InBin p.bin) (Stage p.order) p.qty
entry_of (Unpick p) = One p.lot (Stage p.order) (InBin p.bin) p.qty
entry_of (Ship o) = ShippedOff o
entry_of (Hold l) = Returned
entry_of (Recall l) = Returned
entry_of (OpenDay day) = Returned
entry_of (Least l) = Returned
entry_of _ = Nothing

module _ (first : ℤ) (act : Act) (before : List Act) (ps : List Posting) where
  abbrev pub entry_postings : Entry → List Posting
  entry_postings Nothing = []
  entry_postings (One l from to q) = posting (next_number before) l from to q
  entry_postings (Corrected l b found) = correction (next_number before) l b (balance (is_bin b) (is_lot l) ps) found
  entry_postings (ShippedOff o) = shipped_off (next_number before) (shipments_so_far first before + 1) o (lots before) ps
  entry_postings Returned = returned (next_number before) (made_unshippable first act before) (orders before) ps

  pub entry_posted : (c : Command) → entry_postings (entry_of c) ≡ posted first act before ps c
  entry_posted (Adjust a) = by_change a.change
    where
      by_change : (z : ℤ) → entry_postings (entry_of (Adjust (record { bin = a.bin; change = z; lot = a.lot }))) ≡ posted first act before ps (Adjust (record { bin = a.bin; change = z; lot = a.lot }))
      by_change (pos k) = refl
      by_change (negsuc k) = refl
  entry_posted _ = refl

-- The way of one posting. On to a stage goes only what a pick brings.

abbrev pub is_pick : Command → Bool
is_pick (Pick p) = true
is_pick _ = false

abbrev pub IsStep : Bool → Place → Place → Type 0
IsStep picks Supplier (InBin b) = Unit {0}
IsStep picks WriteOff (InBin b) = Unit {0}
IsStep picks (InBin b) WriteOff = Unit {0}
IsStep picks (InBin b) (InBin c) = Unit {0}
IsStep picks (Stage o) (InBin b) = Unit {0}
IsStep picks (InBin b) (Stage o) = picks ≡ true
IsStep picks _ _ = ⊥

abbrev pub HasStep : Bool → Entry → Type 0
HasStep picks (One l from to q) = IsStep picks from to
HasStep picks _ = Unit {0}

pub step_of : (c : Command) → HasStep (is_pick c) (entry_of c)
step_of (Pick p) = refl
step_of (Adjust a) = by_change a.change
  where
    by_change : (z : ℤ) → HasStep false (written_entry a.lot a.bin z)
    by_change (pos k) = tt
    by_change (negsuc k) = tt
step_of _ = tt

-- Where an act is accepted

abbrev pub has_shipment : ℤ → List Act → ℕ → Bool
has_shipment first acts n = is_some (find (λ s. n == s.number) (shipments first acts))

-- a place is known to the acts, for a lot
abbrev pub KnownPlace : ℤ → List Act → Place → LotId → Type 0
KnownPlace first acts Supplier l = Unit {0}
KnownPlace first acts WriteOff l = Unit {0}
KnownPlace first acts (InBin b) l = has_bin acts b ≡ true
KnownPlace first acts (Stage o) l = has_line acts o l.gtin ≡ true
KnownPlace first acts (Shipped n o) l = has_shipment first acts n ≡ true

module _ (first : ℤ) (act : Act) (before : List Act) where
  -- one posting: between known places, of no more than there is, within the limit, of an item that the act touches
  pub record IsFounded (l : LotId) (source target : Place) (q : ℕ) : Type 0 where
    pub lot : has_lot (act ∷ before) l ≡ true
    pub from : KnownPlace first before source l
    pub to : KnownPlace first before target l
    pub there : CanTake source l q (postings first before)
    pub fits : in_house source ≡ false → units_in_house first before l.gtin + q ≤ UNITS_MAX + 0
    pub own : (g : List ℕ) → touches first act before act.command g ≡ of_item g l

  pub record IsCorrected (l : LotId) (b : List ℕ) (found : ℕ) : Type 0 where
    pub lot : has_lot (act ∷ before) l ≡ true
    pub bin : has_bin before b ≡ true
    pub fits : units_in_house first before l.gtin + found ≤ UNITS_MAX + in_bin first before b l
    pub own : (g : List ℕ) → touches first act before act.command g ≡ of_item g l

  pub record IsShipped (o : List ℕ) : Type 0 where
    pub numbered : has_shipment first (act ∷ before) (shipments_so_far first before + 1) ≡ true
    pub own : (g : List ℕ) → touches first act before act.command g ≡ has_line before o g

  abbrev pub Facts : Entry → Type 0
  Facts Nothing = Unit {0}
  Facts (One l from to q) = IsFounded l from to q
  Facts (Corrected l b found) = IsCorrected l b found
  Facts (ShippedOff o) = IsShipped o
  Facts Returned = Unit {0}

now_received : (n : ℕ) (r : Receipt) (ks : List KnownLot) → is_some (lot_among r.lot (with_receipt n r ks)) ≡ true
now_received n r ks =
    elim (is_some (lot_among r.lot ks)) as (λ b. is_some (lot_among r.lot ks) ≡ b → is_some (lot_among r.lot (if b then ks else record { lot = r.lot; expiry = r.expiry; came = n } ∷ ks)) ≡ true) [
      | true ↦ λ e. e
      | false ↦ λ e. ap (λ t. is_some (if t then Some (record { lot = r.lot; expiry = r.expiry; came = n }) else lot_among r.lot ks)) (is_lot_refl r.lot)
    ] refl

module _ (first : ℤ) (key : Key) (before : List Act) where
  abbrev done : Command → Act
  done c = record { key = key; command = c }

  inside : {P : Type 0} → true ≡ false → P
  inside e = cc

  written_facts : (a : Adjustment) (z : ℤ) → has_bin before a.bin ≡ true → has_lot before a.lot ≡ true → taken_off z ≤ in_bin first before a.bin a.lot
      → units_in_house first before a.lot.gtin + put_on z ≤ UNITS_MAX + taken_off z → Facts first (done (Adjust a)) before (written_entry a.lot a.bin z)
  written_facts a (pos k) bin lot there fits = record { lot = lot; from = tt; to = bin; there = tt; fits = λ e. fits; own = λ g. refl }
  written_facts a (negsuc k) bin lot there fits = record { lot = lot; from = bin; to = tt; there = there; fits = inside; own = λ g. refl }

  pub facts_of : (c : Command) → verdict first before c ≡ None → Facts first (done c) before (entry_of c)
  facts_of (Receive r) ok =
      let h = receive_accepted first before r ok in
      record { lot = now_received (next_number before) r (lots before); from = tt; to = h.bin; there = tt; fits = λ e. h.fits; own = λ g. refl }
  facts_of (Move m) ok =
      let h = move_accepted first before m ok in
      record { lot = h.lot; from = h.from; to = h.to; there = h.there; fits = inside; own = λ g. refl }
  facts_of (Count c) ok =
      let h = count_accepted first before c ok in
      record { lot = h.lot; bin = h.bin; fits = h.fits; own = λ g. refl }
  facts_of (Adjust a) ok =
      let h = adjust_accepted first before a ok in
      written_facts a a.change h.bin h.lot h.there h.fits
  facts_of (Pick p) ok =
      let h = pick_accepted first before p ok in
      record { lot = h.lot; from = h.bin; to = h.line; there = h.there; fits = inside; own = λ g. refl }
  facts_of (Unpick p) ok =
      let h = unpick_accepted first before p ok in
      record { lot = h.lot; from = h.line; to = h.bin; there = h.there; fits = inside; own = λ g. refl }
  facts_of (Ship o) ok =
      let n = shipments_so_far first before + 1 in
      record {
        numbered = ap (λ t. is_some (if t then Some (record { number = n; act = next_number before; day = today first before; order = o }) else find (λ s. n == s.number) (shipments first before))) (eq-eqb n _ refl);
        own = λ g. refl;
      }
  facts_of _ ok = tt

-- The order that an act makes known

abbrev pub IsNew : List Act → Option Placed → Type 0
IsNew before None = Unit {0}
IsNew before (Some p) = has_order before p.order ≡ false

pub order_is_new : (first : ℤ) (before : List Act) (c : Command) → verdict first before c ≡ None → IsNew before (order_in (next_number before) c)
order_is_new first before (Order o) ok = (order_accepted first before o ok).new
order_is_new first before (Urgent o) ok = (urgent_accepted first before o ok).new
order_is_new first before _ ok = tt

-- Of each posting of a list

abbrev pub Each : (Posting → Type 0) → List Posting → Type 0
Each P [] = Unit {0}
Each P (p ∷ ps) = P p × Each P ps

module _ (P : Posting → Type 0) where
  pub each-append : (ps qs : List Posting) → Each P ps → Each P qs → Each P (ps ++ qs)
  each-append [] qs h k = k
  each-append (p ∷ ps) qs h k = (h.0, each-append ps qs h.1 k)

  -- if it has units
  abbrev pub IfAny : ℕ → LotId → Place → Place → ℕ → Type 0
  IfAny n l from to q = (q == 0) ≡ false → P (record { act = n; lot = l; from = from; to = to; qty = q })

  pub each_posting : (n : ℕ) (l : LotId) (from to : Place) (q : ℕ) → IfAny n l from to q → Each P (posting n l from to q)
  each_posting n l from to q h =
      elim (q == 0) as (λ b. (q == 0) ≡ b → Each P (if b then [] else record { act = n; lot = l; from = from; to = to; qty = q } ∷ [])) [ true ↦ λ e. tt | false ↦ λ e. (h e, tt) ] refl

  module _ (n : ℕ) (ps : List Posting) where
    -- what leaves a stage
    abbrev pub Cleared : Place → List ℕ → LotId → Type 0
    Cleared to o l = IfAny n l (Stage o) to (balance (is_stage o) (is_lot l) ps)

    each_cleared : (to : Place) (o : List ℕ) (l : LotId) → Cleared to o l → Each P (cleared n ps to o l)
    each_cleared to o l h = each_posting n l (Stage o) to (balance (is_stage o) (is_lot l) ps) h

    each_shipped : (s : ℕ) (o : List ℕ) → ((l : LotId) → Cleared (Shipped s o) o l) → (ks : List KnownLot) → Each P (shipped_off n s o ks ps)
    each_shipped s o h [] = tt
    each_shipped s o h (k ∷ ks) = each-append (cleared n ps (Shipped s o) o k.lot) (shipped_off n s o ks ps) (each_cleared (Shipped s o) o k.lot (h k.lot)) (each_shipped s o h ks)

    pub each_lot_returned : (k : KnownLot) → ((o : List ℕ) → Cleared (InBin RETURNS) o k.lot) → (os : List Placed) → Each P (lot_returned n os ps k)
    each_lot_returned k h [] = tt
    each_lot_returned k h (p ∷ os) =
        each-append (cleared n ps (InBin RETURNS) p.order k.lot) (lot_returned n os ps k) (each_cleared (InBin RETURNS) p.order k.lot (h p.order)) (each_lot_returned k h os)

    each_returned : ((l : LotId) (o : List ℕ) → Cleared (InBin RETURNS) o l) → (os : List Placed) (ks : List KnownLot) → Each P (returned n ks os ps)
    each_returned h os [] = tt
    each_returned h os (k ∷ ks) = each-append (lot_returned n os ps k) (returned n ks os ps) (each_lot_returned k (h k.lot) os) (each_returned h os ks)

  module _ (first : ℤ) (act : Act) (before : List Act) (ps : List Posting) where
    abbrev n : ℕ
    n = next_number before

    -- what is to be shown of the postings of a form
    abbrev pub Shown : Entry → Type 0
    Shown Nothing = Unit {0}
    Shown (One l from to q) = IfAny n l from to q
    Shown (Corrected l b found) =
        let have = balance (is_bin b) (is_lot l) ps in
        IfAny n l WriteOff (InBin b) (found - have) × IfAny n l (InBin b) WriteOff (have - found)
    Shown (ShippedOff o) = (l : LotId) → Cleared n ps (Shipped (shipments_so_far first before + 1) o) o l
    Shown Returned = Each P (entry_postings first act before ps Returned)

    pub each_of_entry : (e : Entry) → Shown e → Each P (entry_postings first act before ps e)
    each_of_entry Nothing h = tt
    each_of_entry (One l from to q) h = each_posting n l from to q h
    each_of_entry (Corrected l b found) h =
        let have = balance (is_bin b) (is_lot l) ps in
        each-append (posting n l WriteOff (InBin b) (found - have)) (posting n l (InBin b) WriteOff (have - found)) (each_posting n l WriteOff (InBin b) (found - have) h.0) (each_posting n l (InBin b) WriteOff (have - found) h.1)
    each_of_entry (ShippedOff o) h = each_shipped n ps (shipments_so_far first before + 1) o h (lots before)
    each_of_entry Returned h = h

    pub all_returned : ((l : LotId) (o : List ℕ) → Cleared n ps (InBin RETURNS) o l) → Each P (entry_postings first act before ps Returned)
    all_returned h = each_returned n ps h (orders before) (made_unshippable first act before)
