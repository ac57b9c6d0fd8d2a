-- A posting changes each balance by its quantity, and no balance of places that it does not name.
use Rattle.machine.proofs.Words.{◌≡◌, ℕ, ◌+◌, ◌-◌, ◌≤◌, Bool, true, false, ◌&&◌, List, [], ◌∷◌, ◌++◌, refl, arith, ◌==◌, if◌then◌else◌, filter, eqb-true, LotId, Place, Posting, balance, units_in, units_out, of_item, posting}
use Rattle.machine.proofs.histories.Cells.{Cells, into, out_of, holds, Inner, CanTake, Legal, never_overdrawn, taken_from}

-- once for each end that lies in the set
pub holds_posted : (w : Cells) → Inner w → (n : ℕ) (l : LotId) (from to : Place) (q : ℕ) (ps : List Posting) → CanTake from l q ps → Legal ps
    → holds w (posting n l from to q ++ ps) + (if w from l then q else 0) ≡ holds w ps + (if w to l then q else 0)
holds_posted w i n l from to q ps can legal =
    let low : out_of w ps ≤ into w ps = never_overdrawn ps legal w i in
    let takes : (if w from l then q else 0) + out_of w ps ≤ into w ps = taken_from w i from l q ps can (never_overdrawn ps legal) in
    elim (q == 0) as (λ b. (q == 0) ≡ b → holds w ((if b then [] else record { act = n; lot = l; from = from; to = to; qty = q } ∷ []) ++ ps) + (if w from l then q else 0) ≡ holds w ps + (if w to l then q else 0)) [
      | true ↦ λ e. let z : q ≡ 0 = eqb-true q 0 e in none_moved q (w from l) (w to l) (holds w ps) z
      | false ↦ λ e. omega arith
    ] refl
  where
    none_moved : (q : ℕ) (a b : Bool) (h : ℕ) → q ≡ 0 → h + (if a then q else 0) ≡ h + (if b then q else 0)
    none_moved q true true h z = refl
    none_moved q true false h z = omega arith
    none_moved q false true h z = omega arith
    none_moved q false false h z = refl

none_there : (a b : Bool) (q n : ℕ) → a ≡ false → (if a && b then q else 0) + n ≡ n
none_there true b q n e = let f : true ≡ false = e in cc
none_there false b q n e = omega arith

-- and by an item's postings alone
pub balance-elsewhere_of : (g : List ℕ) (places : Place → Bool) (lots : LotId → Bool) (n : ℕ) (l : LotId) (from to : Place) (q : ℕ) (ps : List Posting)
    → places from ≡ false → places to ≡ false
    → balance places lots (filter (λ p. of_item g p.lot) (posting n l from to q ++ ps)) ≡ balance places lots (filter (λ p. of_item g p.lot) ps)
balance-elsewhere_of g places lots n l from to q ps e f =
    elim (q == 0) as (λ b. balance places lots (filter (λ p. of_item g p.lot) ((if b then [] else record { act = n; lot = l; from = from; to = to; qty = q } ∷ []) ++ ps)) ≡ balance places lots (filter (λ p. of_item g p.lot) ps)) [
      | true ↦ refl
      | false ↦ elim (of_item g l) as (λ b. balance places lots (if b then record { act = n; lot = l; from = from; to = to; qty = q } ∷ filter (λ p. of_item g p.lot) ps else filter (λ p. of_item g p.lot) ps) ≡ balance places lots (filter (λ p. of_item g p.lot) ps)) [
        | true ↦ (λ i. none_there (places to) (lots l) q (units_in places lots (filter (λ p. of_item g p.lot) ps)) f i - none_there (places from) (lots l) q (units_out places lots (filter (λ p. of_item g p.lot) ps)) e i)
        | false ↦ refl
      ]
    ]
