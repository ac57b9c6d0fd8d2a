-- Only a pick brings units on to a stage.
use Rattle.machine.proofs.Words.{◌≡◌, ℕ, ◌+◌, ◌≤◌, Bool, true, false, List, [], ◌∷◌, ◌++◌, refl, ap, sym, subst, ◌∙◌, arith, ◌==◌, if◌then◌else◌, ℤ, LotId, Command, Act, Place, Supplier, InBin, Stage, Shipped, WriteOff, Posting, balance, is_stage, is_lot, KnownLot, Placed, RETURNS, shipments_so_far, posting, cleared, lot_returned, returned, posted}
pub use Rattle.machine.proofs.histories.ActFacts.{is_pick}
use Rattle.machine.proofs.histories.ActFacts.{Entry, Nothing, One, Corrected, ShippedOff, Returned, entry_of, entry_posted, IsStep, HasStep, step_of, Each, each_of_entry, Shown, all_returned}
use Rattle.machine.proofs.histories.Cells.{Cells, into, out_of, into-append, out_of-append, holds}

-- cells of stages, and of the shipments that they go to
pub record IsStaging (w : Cells) : Type 0 where
  pub bins : (b : List ℕ) (l : LotId) → w (InBin b) l ≡ false
  pub write_off : (l : LotId) → w WriteOff l ≡ false
  pub shipped : (s : ℕ) (o : List ℕ) (l : LotId) → w (Shipped s o) l ≡ true → w (Stage o) l ≡ true

-- what comes into the cells comes from the cells
abbrev BringsNone : Cells → List Posting → Type 0
BringsNone w = Each (λ p. w p.to p.lot ≡ true → w p.from p.lot ≡ true)

never : (a b : Bool) → a ≡ false → a ≡ true → b ≡ true
never a b e f = let g : false ≡ true = sym e ∙ f in cc

no_more : (q : ℕ) (a b : Bool) → (a ≡ true → b ≡ true) → (if a then q else 0) ≤ (if b then q else 0)
no_more q true true h = omega arith
no_more q true false h = let f : false ≡ true = h refl in cc
no_more q false b h = omega arith

brings_no_more : (w : Cells) (ps : List Posting) → BringsNone w ps → into w ps ≤ out_of w ps
brings_no_more w [] h = omega arith
brings_no_more w (p ∷ ps) h = omega (arith, no_more p.qty (w p.to p.lot) (w p.from p.lot) h.0, brings_no_more w ps h.1)

module _ (w : Cells) (staging : IsStaging w) (n : ℕ) (ps : List Posting) where
  -- nothing at all comes into stages alone when lots are returned
  none_returned_lot : (k : KnownLot) (os : List Placed) → into w (lot_returned n os ps k) ≡ 0
  none_returned_lot k [] = refl
  none_returned_lot k (p ∷ os) = omega (arith, into-append w (cleared n ps (InBin RETURNS) p.order k.lot) (lot_returned n os ps k), none_returned_lot k os, none_in_bin k.lot (Stage p.order) RETURNS (balance (is_stage p.order) (is_lot k.lot) ps))
    where
      none_in_bin : (l : LotId) (from : Place) (b : List ℕ) (q : ℕ) → into w (posting n l from (InBin b) q) ≡ 0
      none_in_bin l from b q = elim (q == 0) as (λ t. into w (if t then [] else record { act = n; lot = l; from = from; to = InBin b; qty = q } ∷ []) ≡ 0) [
        | true ↦ refl
        | false ↦ omega (arith, ap (λ t. if t then q else 0) (staging.bins b l))
      ]

  pub none_returned : (os : List Placed) (ks : List KnownLot) → into w (returned n ks os ps) ≡ 0
  none_returned os [] = refl
  none_returned os (k ∷ ks) = omega (arith, into-append w (lot_returned n os ps k) (returned n ks os ps), none_returned_lot k os, none_returned os ks)

module _ (w : Cells) (staging : IsStaging w) (first : ℤ) (act : Act) (before : List Act) (ps : List Posting) where
  abbrev Brings : Posting → Type 0
  Brings p = w p.to p.lot ≡ true → w p.from p.lot ≡ true

  to_bin : (from : Place) (b : List ℕ) (l : LotId) → w (InBin b) l ≡ true → w from l ≡ true
  to_bin from b l = never (w (InBin b) l) (w from l) (staging.bins b l)

  to_write_off : (from : Place) (l : LotId) → w WriteOff l ≡ true → w from l ≡ true
  to_write_off from l = never (w WriteOff l) (w from l) (staging.write_off l)

  by_step : (l : LotId) (from to : Place) → IsStep false from to → w to l ≡ true → w from l ≡ true
  by_step l Supplier (InBin b) h = to_bin Supplier b l
  by_step l WriteOff (InBin b) h = to_bin WriteOff b l
  by_step l (InBin c) (InBin b) h = to_bin (InBin c) b l
  by_step l (Stage o) (InBin b) h = to_bin (Stage o) b l
  by_step l (InBin b) WriteOff h = to_write_off (InBin b) l
  by_step l (InBin b) (Stage o) h = cc
  by_step l _ _ h = absurd h

  shown : (e : Entry) → HasStep false e → Shown Brings first act before ps e
  shown Nothing h = tt
  shown (One l from to q) h = λ e. by_step l from to h
  shown (Corrected l b found) h = (λ e. to_bin WriteOff b l, λ e. to_write_off (InBin b) l)
  shown (ShippedOff o) h = λ l e. staging.shipped (shipments_so_far first before + 1) o l
  shown Returned h = all_returned Brings first act before ps (λ l o e. to_bin (Stage o) RETURNS l)

  brings_none : (c : Command) → is_pick c ≡ false → BringsNone w (posted first act before ps c)
  brings_none c e =
      subst (BringsNone w) (entry_posted first act before ps c) (each_of_entry Brings first act before ps (entry_of c) (shown (entry_of c) (subst (λ (b : Bool). HasStep b (entry_of c)) e (step_of c))))

  -- any other command leaves at most as much there
  pub only_picks_stage : (c : Command) → is_pick c ≡ false → holds w (posted first act before ps c ++ ps) ≤ holds w ps
  only_picks_stage c e =
      let qs = posted first act before ps c in
      omega (arith, into-append w qs ps, out_of-append w qs ps, brings_no_more w qs (brings_none c e))
