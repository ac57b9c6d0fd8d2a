-- On a history the balances of the known bins, stages and shipments add up to those of all bins, stages and shipments.
use Rattle.machine.proofs.Words.{◌≡◌, ℕ, ◌+◌, Bool, true, false, ◌&&◌, not, List, [], ◌∷◌, refl, ap, sym, ◌∙◌, arith, ◌==◌, ◌||◌, ℤ, list_any, eqb-true, same_text, LotId, total, NewBin, ShipmentRow, Act, Place, Supplier, InBin, Stage, Shipped, WriteOff, is_bin, is_stage, is_shipment, is_lot, has_lot, bins, Placed, orders, shipments, postings, IsHistory, in_bins, on_stages, in_shipments}
use Rattle.machine.proofs.Numbers.{equal_turned}
use Rattle.machine.proofs.Tests.{and_both, or_none, not_true, same_text_is, same_text_turned}
use Rattle.machine.proofs.histories.Cells.{Cells, holds, Inner, IsPart, without, holds_split}
use Rattle.machine.proofs.histories.LegalHistories.{legal_history}
use Rattle.machine.proofs.Apart.{AreApart, any_found}
use Rattle.machine.proofs.histories.Orders.{same_order, orders_apart}
use Rattle.machine.proofs.histories.Notices.{bins_apart, shipments_apart}
use Rattle.machine.proofs.histories.KnownPlaces.{KnownPlace, line_known, unknown_holds_nothing}

-- places, and the cells of a lot in them
abbrev pub of_lot : LotId → (Place → Bool) → Cells
of_lot l places p m = places p && is_lot l m

-- neither the supplier nor what is written off
pub record AreInner (places : Place → Bool) : Type 0 where
  pub supplier : places Supplier ≡ false
  pub write_off : places WriteOff ≡ false

inner_of : (l : LotId) (places : Place → Bool) → AreInner places → Inner (of_lot l places)
inner_of l places i = record { supplier = λ m. ap (λ b. b && is_lot l m) i.supplier; write_off = λ m. ap (λ b. b && is_lot l m) i.write_off }

abbrev pub less : (Place → Bool) → (Place → Bool) → Place → Bool
less places some p = places p && not (some p)

-- all bins, all stages, all shipments
abbrev pub any_bin : Place → Bool
any_bin (InBin b) = true
any_bin _ = false

abbrev pub any_stage : Place → Bool
any_stage (Stage o) = true
any_stage _ = false

abbrev pub any_shipment : Place → Bool
any_shipment (Shipped n o) = true
any_shipment _ = false

-- all places in the warehouse and all shipments
abbrev pub any_inner : Place → Bool
any_inner Supplier = false
any_inner WriteOff = false
any_inner _ = true

rest_of_lot : (l : LotId) (places some : Place → Bool) → without (of_lot l places) (of_lot l some) ≡ of_lot l (less places some)
rest_of_lot l places some = λ i p m. exchanged (places p) (some p) (is_lot l m) i
  where
    exchanged : (a b c : Bool) → (a && c) && not (b && c) ≡ (a && not b) && c
    exchanged true true true = refl
    exchanged true true false = refl
    exchanged true false true = refl
    exchanged true false false = refl
    exchanged false b c = refl

module _ (first : ℤ) (acts : List Act) (history : IsHistory first acts) (l : LotId) where
  abbrev held : (Place → Bool) → ℕ
  held places = holds (of_lot l places) (postings first acts)

  part_of_lot : (places some : Place → Bool) → ((p : Place) → some p ≡ true → places p ≡ true) → IsPart (of_lot l some) (of_lot l places)
  part_of_lot places some h p m e = let two = and_both (some p) (is_lot l m) e in (λ i. h p two.0 i && two.1 i)

  -- places hold what some of them hold, with the others
  pub held_split : (places some : Place → Bool) → AreInner places → AreInner some → ((p : Place) → some p ≡ true → places p ≡ true) → held places ≡ held some + held (less places some)
  held_split places some i j h =
      holds_split (postings first acts) (legal_history first acts history) (of_lot l some) (of_lot l places) (inner_of l some j) (inner_of l places i) (part_of_lot places some h)
      ∙ ap (λ w. held some + holds w (postings first acts)) (rest_of_lot l places some)

  module _ {X : Type 0} (at : X → Place → Bool) (inner : (x : X) → AreInner (at x)) where
    abbrev AllWithin : (Place → Bool) → List X → Type 0
    AllWithin places [] = Unit {0}
    AllWithin places (x ∷ xs) = ((p : Place) → at x p ≡ true → places p ≡ true) × AllWithin places xs

    abbrev OffAll : X → List X → Type 0
    OffAll x [] = Unit {0}
    OffAll x (y ∷ ys) = ((p : Place) → at y p ≡ true → at x p ≡ false) × OffAll x ys

    abbrev AllOff : List X → Type 0
    AllOff [] = Unit {0}
    AllOff (x ∷ xs) = OffAll x xs × AllOff xs

    still_within : (places : Place → Bool) (x : X) (xs : List X) → AllWithin places xs → OffAll x xs → AllWithin (less places (at x)) xs
    still_within places x [] h off = tt
    still_within places x (y ∷ ys) h off = (λ p e. (λ i. h.0 p e i && not (off.0 p e i)), still_within places x ys h.1 off.1)

    less_inner : (places : Place → Bool) (x : X) → AreInner places → AreInner (less places (at x))
    less_inner places x i = record { supplier = ap (λ b. b && not (at x Supplier)) i.supplier; write_off = ap (λ b. b && not (at x WriteOff)) i.write_off }

    -- if every known one of the places is among them
    pub sum_of_known : (places : Place → Bool) → AreInner places → (xs : List X) → AllWithin places xs → AllOff xs
        → ((p : Place) (m : LotId) → places p ≡ true → KnownPlace first acts p m → list_any (λ x. at x p) xs ≡ true) → held places ≡ total (λ x. held (at x)) xs
    sum_of_known places i [] within off covered = unknown_holds_nothing first acts history (of_lot l places) none
      where
        none : (p : Place) (m : LotId) → KnownPlace first acts p m → has_lot acts m ≡ true → of_lot l places p m ≡ false
        none p m k h = elim (places p) as (λ b. places p ≡ b → b && is_lot l m ≡ false) [ true ↦ λ e. let f : false ≡ true = covered p m e k in cc | false ↦ λ e. refl ] refl
    sum_of_known places i (x ∷ xs) within off covered =
        held_split places (at x) i (inner x) within.0
        ∙ ap (λ n. held (at x) + n) (sum_of_known (less places (at x)) (less_inner places x i) xs (still_within places x xs within.1 off.0) off.1 later)
      where
        later : (p : Place) (m : LotId) → places p && not (at x p) ≡ true → KnownPlace first acts p m → list_any (λ y. at y p) xs ≡ true
        later p m e k =
            let two = and_both (places p) (not (at x p)) e in
            ap (λ b. b || list_any (λ y. at y p) xs) (sym (not_true (at x p) two.1)) ∙ covered p m two.0 k

  -- Bins, stages and shipments

  off_test : {b : Bool} → false ≡ true → b ≡ true
  off_test e = cc

  in_any_bin : (b : List ℕ) (p : Place) → is_bin b p ≡ true → any_bin p ≡ true
  in_any_bin b (InBin c) e = refl
  in_any_bin b _ e = e

  bins_within : (bs : List NewBin) → AllWithin (λ (b : NewBin). is_bin b.bin) (λ b. record { supplier = refl; write_off = refl }) any_bin bs
  bins_within [] = tt
  bins_within (b ∷ bs) = (in_any_bin b.bin, bins_within bs)

  other_bin : (b c : List ℕ) → same_text b c ≡ false → (p : Place) → is_bin c p ≡ true → is_bin b p ≡ false
  other_bin b c e (InBin d) t = ap (λ (x : List ℕ). same_text b x) (sym (same_text_is c d t)) ∙ e
  other_bin b c e _ t = refl

  bin_off : (b : NewBin) (bs : List NewBin) → list_any (λ (x : NewBin). same_text b.bin x.bin) bs ≡ false → OffAll (λ (b : NewBin). is_bin b.bin) (λ b. record { supplier = refl; write_off = refl }) b bs
  bin_off b [] e = tt
  bin_off b (c ∷ cs) e = let two = or_none (same_text b.bin c.bin) (list_any (λ (x : NewBin). same_text b.bin x.bin) cs) e in (other_bin b.bin c.bin two.0, bin_off b cs two.1)

  bins_off : (bs : List NewBin) → AreApart (λ (a b : NewBin). same_text a.bin b.bin) bs → AllOff (λ (b : NewBin). is_bin b.bin) (λ b. record { supplier = refl; write_off = refl }) bs
  bins_off [] h = tt
  bins_off (b ∷ bs) h = (bin_off b bs h.0, bins_off bs h.1)

  any_same : {X : Type 0} (f g : X → Bool) → ((x : X) → f x ≡ g x) → (xs : List X) → list_any f xs ≡ list_any g xs
  any_same f g e [] = refl
  any_same f g e (x ∷ xs) = λ i. e x i || any_same f g e xs i

  bins_covered : (p : Place) (m : LotId) → any_bin p ≡ true → KnownPlace first acts p m → list_any (λ (b : NewBin). is_bin b.bin p) (bins acts) ≡ true
  bins_covered (InBin c) m e k =
      any_same (λ (b : NewBin). same_text b.bin c) (λ (b : NewBin). same_text c b.bin) (λ b. same_text_turned b.bin c) (bins acts) ∙ sym (any_found (λ (b : NewBin). same_text c b.bin) (bins acts)) ∙ k
  bins_covered _ m e k = off_test e

  pub bins_hold : held any_bin ≡ in_bins first acts l
  bins_hold =
      sum_of_known (λ (b : NewBin). is_bin b.bin) (λ b. record { supplier = refl; write_off = refl }) any_bin (record { supplier = refl; write_off = refl }) (bins acts)
      (bins_within (bins acts)) (bins_off (bins acts) (bins_apart first acts history)) bins_covered

  in_any_stage : (o : List ℕ) (p : Place) → is_stage o p ≡ true → any_stage p ≡ true
  in_any_stage o (Stage u) e = refl
  in_any_stage o _ e = e

  stages_within : (os : List Placed) → AllWithin (λ (o : Placed). is_stage o.order) (λ o. record { supplier = refl; write_off = refl }) any_stage os
  stages_within [] = tt
  stages_within (o ∷ os) = (in_any_stage o.order, stages_within os)

  other_stage : (o u : List ℕ) → same_text o u ≡ false → (p : Place) → is_stage u p ≡ true → is_stage o p ≡ false
  other_stage o u e (Stage v) t = ap (λ (x : List ℕ). same_text o x) (sym (same_text_is u v t)) ∙ e
  other_stage o u e _ t = refl

  stage_off : (o : Placed) (os : List Placed) → list_any (same_order o) os ≡ false → OffAll (λ (o : Placed). is_stage o.order) (λ o. record { supplier = refl; write_off = refl }) o os
  stage_off o [] e = tt
  stage_off o (u ∷ us) e = let two = or_none (same_text o.order u.order) (list_any (same_order o) us) e in (other_stage o.order u.order two.0, stage_off o us two.1)

  stages_off : (os : List Placed) → AreApart same_order os → AllOff (λ (o : Placed). is_stage o.order) (λ o. record { supplier = refl; write_off = refl }) os
  stages_off [] h = tt
  stages_off (o ∷ os) h = (stage_off o os h.0, stages_off os h.1)

  stages_covered : (p : Place) (m : LotId) → any_stage p ≡ true → KnownPlace first acts p m → list_any (λ (o : Placed). is_stage o.order p) (orders acts) ≡ true
  stages_covered (Stage u) m e k =
      any_same (λ (o : Placed). same_text o.order u) (λ (o : Placed). same_text u o.order) (λ o. same_text_turned o.order u) (orders acts) ∙ sym (any_found (λ (o : Placed). same_text u o.order) (orders acts)) ∙ line_known acts u m.gtin k
  stages_covered _ m e k = off_test e

  pub stages_hold : held any_stage ≡ on_stages first acts l
  stages_hold =
      sum_of_known (λ (o : Placed). is_stage o.order) (λ o. record { supplier = refl; write_off = refl }) any_stage (record { supplier = refl; write_off = refl }) (orders acts)
      (stages_within (orders acts)) (stages_off (orders acts) (orders_apart first acts history)) stages_covered

  in_any_shipment : (n : ℕ) (p : Place) → is_shipment n p ≡ true → any_shipment p ≡ true
  in_any_shipment n (Shipped m u) e = refl
  in_any_shipment n _ e = e

  shipments_within : (ss : List ShipmentRow) → AllWithin (λ (s : ShipmentRow). is_shipment s.number) (λ s. record { supplier = refl; write_off = refl }) any_shipment ss
  shipments_within [] = tt
  shipments_within (s ∷ ss) = (in_any_shipment s.number, shipments_within ss)

  other_shipment : (n m : ℕ) → (n == m) ≡ false → (p : Place) → is_shipment m p ≡ true → is_shipment n p ≡ false
  other_shipment n m e (Shipped k v) t = ap (λ (x : ℕ). n == x) (sym (eqb-true m k t)) ∙ e
  other_shipment n m e _ t = refl

  shipment_off : (s : ShipmentRow) (ss : List ShipmentRow) → list_any (λ (t : ShipmentRow). s.number == t.number) ss ≡ false → OffAll (λ (s : ShipmentRow). is_shipment s.number) (λ s. record { supplier = refl; write_off = refl }) s ss
  shipment_off s [] e = tt
  shipment_off s (t ∷ ts) e = let two = or_none (s.number == t.number) (list_any (λ (x : ShipmentRow). s.number == x.number) ts) e in (other_shipment s.number t.number two.0, shipment_off s ts two.1)

  shipments_off : (ss : List ShipmentRow) → AreApart (λ (s t : ShipmentRow). s.number == t.number) ss → AllOff (λ (s : ShipmentRow). is_shipment s.number) (λ s. record { supplier = refl; write_off = refl }) ss
  shipments_off [] h = tt
  shipments_off (s ∷ ss) h = (shipment_off s ss h.0, shipments_off ss h.1)

  shipments_covered : (p : Place) (m : LotId) → any_shipment p ≡ true → KnownPlace first acts p m → list_any (λ (s : ShipmentRow). is_shipment s.number p) (shipments first acts) ≡ true
  shipments_covered (Shipped n u) m e k =
      any_same (λ (s : ShipmentRow). s.number == n) (λ (s : ShipmentRow). n == s.number) (λ s. equal_turned s.number n) (shipments first acts) ∙ sym (any_found (λ (s : ShipmentRow). n == s.number) (shipments first acts)) ∙ k
  shipments_covered _ m e k = off_test e

  pub shipments_hold : held any_shipment ≡ in_shipments first acts l
  shipments_hold =
      sum_of_known (λ (s : ShipmentRow). is_shipment s.number) (λ s. record { supplier = refl; write_off = refl }) any_shipment (record { supplier = refl; write_off = refl }) (shipments first acts)
      (shipments_within (shipments first acts)) (shipments_off (shipments first acts) (shipments_apart first acts)) shipments_covered

  pub all_held : held any_inner ≡ in_bins first acts l + on_stages first acts l + in_shipments first acts l
  all_held =
      omega (
        arith,
        held_split any_inner any_bin (record { supplier = refl; write_off = refl }) (record { supplier = refl; write_off = refl }) bin_is_inner,
        held_split (less any_inner any_bin) any_stage (record { supplier = refl; write_off = refl }) (record { supplier = refl; write_off = refl }) stage_is_left,
        ap held shipments_left,
        bins_hold,
        stages_hold,
        shipments_hold,
      )
    where
      bin_is_inner : (p : Place) → any_bin p ≡ true → any_inner p ≡ true
      bin_is_inner (InBin b) e = refl
      bin_is_inner Supplier e = e
      bin_is_inner WriteOff e = e
      bin_is_inner (Stage o) e = refl
      bin_is_inner (Shipped n o) e = refl

      stage_is_left : (p : Place) → any_stage p ≡ true → less any_inner any_bin p ≡ true
      stage_is_left (Stage o) e = refl
      stage_is_left (InBin b) e = e
      stage_is_left Supplier e = e
      stage_is_left WriteOff e = e
      stage_is_left (Shipped n o) e = refl

      left_at : (p : Place) → less (less any_inner any_bin) any_stage p ≡ any_shipment p
      left_at (Stage o) = refl
      left_at _ = refl

      shipments_left : less (less any_inner any_bin) any_stage ≡ any_shipment
      shipments_left = λ i p. left_at p i
