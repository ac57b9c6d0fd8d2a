-- What is booked where staged units of lots go to the bin RETURNS.
use Rattle.machine.proofs.Words.{◌≡◌, ℕ, ◌+◌, Bool, true, false, List, [], ◌∷◌, ◌++◌, refl, ap, sym, arith, ◌==◌, if◌then◌else◌, filter, flat_map, ℤ, LotId, total, CardRow, Act, InBin, Stage, Posting, balance, is_stage, is_lot, KnownLot, Placed, RETURNS, posting, cleared, lot_returned, returned, card_lines}
use Rattle.machine.proofs.histories.Cells.{Cells, into, out_of, into-append, out_of-append, holds}

module _ (n : ℕ) (os : List Placed) (ps : List Posting) where
  -- Of each of these lots the set of cells has all stages, if it has the bin RETURNS, and else none: then it keeps what it holds

  abbrev pub AreTogether : Cells → (KnownLot → Bool) → Type 0
  AreTogether w keep = (k : KnownLot) → keep k ≡ true → (o : List ℕ) → w (InBin RETURNS) k.lot ≡ w (Stage o) k.lot

  same_posted : (w : Cells) (l : LotId) (o : List ℕ) (q : ℕ) → w (InBin RETURNS) l ≡ w (Stage o) l → into w (posting n l (Stage o) (InBin RETURNS) q) ≡ out_of w (posting n l (Stage o) (InBin RETURNS) q)
  same_posted w l o q e = elim (q == 0) as (λ b. into w (if b then [] else record { act = n; lot = l; from = Stage o; to = InBin RETURNS; qty = q } ∷ []) ≡ out_of w (if b then [] else record { act = n; lot = l; from = Stage o; to = InBin RETURNS; qty = q } ∷ [])) [
    | true ↦ refl
    | false ↦ ap (λ b. (if b then q else 0) + 0) e
  ]

  lot_kept : (w : Cells) (k : KnownLot) → ((o : List ℕ) → w (InBin RETURNS) k.lot ≡ w (Stage o) k.lot) → (xs : List Placed) → into w (lot_returned n xs ps k) ≡ out_of w (lot_returned n xs ps k)
  lot_kept w k e [] = refl
  lot_kept w k e (p ∷ xs) =
      let one = cleared n ps (InBin RETURNS) p.order k.lot in
      omega (arith, into-append w one (lot_returned n xs ps k), out_of-append w one (lot_returned n xs ps k), same_posted w k.lot p.order (balance (is_stage p.order) (is_lot k.lot) ps) (e p.order), lot_kept w k e xs)

  as_much_in_as_out : (w : Cells) (keep : KnownLot → Bool) → AreTogether w keep → (ks : List KnownLot) → into w (returned n (filter keep ks) os ps) ≡ out_of w (returned n (filter keep ks) os ps)
  as_much_in_as_out w keep e [] = refl
  as_much_in_as_out w keep e (k ∷ ks) = elim (keep k) as (λ b. keep k ≡ b → into w (returned n (if b then k ∷ filter keep ks else filter keep ks) os ps) ≡ out_of w (returned n (if b then k ∷ filter keep ks else filter keep ks) os ps)) [
    | true ↦ λ t. omega (arith, into-append w (lot_returned n os ps k) (returned n (filter keep ks) os ps), out_of-append w (lot_returned n os ps k) (returned n (filter keep ks) os ps), lot_kept w k (e k t) os, as_much_in_as_out w keep e ks)
    | false ↦ λ t. as_much_in_as_out w keep e ks
  ] refl

  pub returned_kept : (w : Cells) (keep : KnownLot → Bool) (ks : List KnownLot) → AreTogether w keep → holds w (returned n (filter keep ks) os ps ++ ps) ≡ holds w ps
  returned_kept w keep ks e =
      let qs = returned n (filter keep ks) os ps in
      omega (arith, into-append w qs ps, out_of-append w qs ps, as_much_in_as_out w keep e ks)

  -- What is returned comes from stages: from a set that has all stages of these lots it takes that many units

  abbrev units : List Posting → ℕ
  units qs = total (λ (p : Posting). p.qty) qs

  units-append : (qs rs : List Posting) → units (qs ++ rs) ≡ units qs + units rs
  units-append [] rs = omega arith
  units-append (q ∷ qs) rs = omega (arith, units-append qs rs)

  units_posted : (w : Cells) (l : LotId) (o : List ℕ) (q : ℕ) → w (Stage o) l ≡ true → units (posting n l (Stage o) (InBin RETURNS) q) ≡ out_of w (posting n l (Stage o) (InBin RETURNS) q)
  units_posted w l o q e = elim (q == 0) as (λ b. units (if b then [] else record { act = n; lot = l; from = Stage o; to = InBin RETURNS; qty = q } ∷ []) ≡ out_of w (if b then [] else record { act = n; lot = l; from = Stage o; to = InBin RETURNS; qty = q } ∷ [])) [
    | true ↦ refl
    | false ↦ sym (ap (λ b. (if b then q else 0) + 0) e)
  ]

  units_of_lot : (w : Cells) (k : KnownLot) → ((o : List ℕ) → w (Stage o) k.lot ≡ true) → (xs : List Placed) → units (lot_returned n xs ps k) ≡ out_of w (lot_returned n xs ps k)
  units_of_lot w k e [] = refl
  units_of_lot w k e (p ∷ xs) =
      let one = cleared n ps (InBin RETURNS) p.order k.lot in
      omega (arith, units-append one (lot_returned n xs ps k), out_of-append w one (lot_returned n xs ps k), units_posted w k.lot p.order (balance (is_stage p.order) (is_lot k.lot) ps) (e p.order), units_of_lot w k e xs)

  pub units_taken : (w : Cells) (keep : KnownLot → Bool) → ((k : KnownLot) → keep k ≡ true → (o : List ℕ) → w (Stage o) k.lot ≡ true) → (ks : List KnownLot)
      → total (λ (p : Posting). p.qty) (returned n (filter keep ks) os ps) ≡ out_of w (returned n (filter keep ks) os ps)
  units_taken w keep e [] = refl
  units_taken w keep e (k ∷ ks) = elim (keep k) as (λ b. keep k ≡ b → units (returned n (if b then k ∷ filter keep ks else filter keep ks) os ps) ≡ out_of w (returned n (if b then k ∷ filter keep ks else filter keep ks) os ps)) [
    | true ↦ λ t. omega (arith, units-append (lot_returned n os ps k) (returned n (filter keep ks) os ps), out_of-append w (lot_returned n os ps k) (returned n (filter keep ks) os ps), units_of_lot w k (e k t) os, units_taken w keep e ks)
    | false ↦ λ t. units_taken w keep e ks
  ] refl

  -- No card has a line of it

  abbrev lines : ℤ → Act → List Act → List Posting → List CardRow
  lines first act before qs = flat_map (λ p. card_lines first act before p p.from p.to) qs

  module _ (first : ℤ) (act : Act) (before : List Act) where
    lines-append : (qs rs : List Posting) → lines first act before qs ≡ [] → lines first act before rs ≡ [] → lines first act before (qs ++ rs) ≡ []
    lines-append [] rs e f = f
    lines-append (q ∷ qs) rs e f = by_first (card_lines first act before q q.from q.to) (λ g. lines-append qs rs g f) e
      where
        by_first : (xs : List CardRow) → (lines first act before qs ≡ [] → lines first act before (qs ++ rs) ≡ []) → xs ++ lines first act before qs ≡ [] → xs ++ lines first act before (qs ++ rs) ≡ []
        by_first [] rest g = rest g
        by_first (x ∷ xs) rest g = cc

    no_line : (l : LotId) (o : List ℕ) (q : ℕ) → lines first act before (posting n l (Stage o) (InBin RETURNS) q) ≡ []
    no_line l o q = elim (q == 0) as (λ b. lines first act before (if b then [] else record { act = n; lot = l; from = Stage o; to = InBin RETURNS; qty = q } ∷ []) ≡ []) [ true ↦ refl | false ↦ refl ]

    no_line_of_lot : (k : KnownLot) (xs : List Placed) → lines first act before (lot_returned n xs ps k) ≡ []
    no_line_of_lot k [] = refl
    no_line_of_lot k (p ∷ xs) = lines-append (cleared n ps (InBin RETURNS) p.order k.lot) (lot_returned n xs ps k) (no_line k.lot p.order (balance (is_stage p.order) (is_lot k.lot) ps)) (no_line_of_lot k xs)

    pub returned_has_no_line : (ks : List KnownLot) → flat_map (λ p. card_lines first act before p p.from p.to) (returned n ks os ps) ≡ []
    returned_has_no_line [] = refl
    returned_has_no_line (k ∷ ks) = lines-append (lot_returned n os ps k) (returned n ks os ps) (no_line_of_lot k os) (returned_has_no_line ks)
