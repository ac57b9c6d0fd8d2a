-- Stages that are emptied: what of a lot is staged for the order goes to the place, and all else stays where it is.
use Rattle.machine.proofs.Words.{◌≡◌, ℕ, ◌+◌, Bool, true, false, ◌&&◌, List, [], ◌∷◌, ◌++◌, refl, ap, sym, ◌∙◌, arith, ◌==◌, ◌||◌, if◌then◌else◌, flat_map, list_any, eqb-true, LotId, total, Place, Supplier, Stage, Shipped, WriteOff, Posting, balance, is_stage, is_lot, KnownLot, posting, cleared, shipped_off}
use Rattle.machine.proofs.Tests.{is_lot_is}
use Rattle.machine.proofs.Apart.{AreApart}
use Rattle.machine.proofs.histories.Cells.{Cells, Inner, Legal, into, out_of, holds, into-append, out_of-append, never_overdrawn}
use Rattle.machine.proofs.histories.Lots.{same_known}

-- One posting

none_moved : (b : Bool) (q : ℕ) → (q == 0) ≡ true → 0 ≡ (if b then q else 0)
none_moved true q e = let z : q ≡ 0 = eqb-true q 0 e in omega arith
none_moved false q e = refl

pub into_posting : (w : Cells) (n : ℕ) (l : LotId) (from to : Place) (q : ℕ) → into w (posting n l from to q) ≡ (if w to l then q else 0)
into_posting w n l from to q =
    elim (q == 0) as (λ b. (q == 0) ≡ b → into w (if b then [] else record { act = n; lot = l; from = from; to = to; qty = q } ∷ []) ≡ (if w to l then q else 0)) [
      | true ↦ λ e. none_moved (w to l) q e
      | false ↦ λ e. omega arith
    ] refl

pub out_of_posting : (w : Cells) (n : ℕ) (l : LotId) (from to : Place) (q : ℕ) → out_of w (posting n l from to q) ≡ (if w from l then q else 0)
out_of_posting w n l from to q =
    elim (q == 0) as (λ b. (q == 0) ≡ b → out_of w (if b then [] else record { act = n; lot = l; from = from; to = to; qty = q } ∷ []) ≡ (if w from l then q else 0)) [
      | true ↦ λ e. none_moved (w from l) q e
      | false ↦ λ e. omega arith
    ] refl

-- Postings made for each element of a list

pub into-flat_map : {X : Type 0} (w : Cells) (f : X → List Posting) (xs : List X) → into w (flat_map f xs) ≡ total (λ x. into w (f x)) xs
into-flat_map w f [] = refl
into-flat_map w f (x ∷ xs) = omega (arith, into-append w (f x) (flat_map f xs), into-flat_map w f xs)

pub out_of-flat_map : {X : Type 0} (w : Cells) (f : X → List Posting) (xs : List X) → out_of w (flat_map f xs) ≡ total (λ x. out_of w (f x)) xs
out_of-flat_map w f [] = refl
out_of-flat_map w f (x ∷ xs) = omega (arith, out_of-append w (f x) (flat_map f xs), out_of-flat_map w f xs)

pub same_sums : {X : Type 0} (f g : X → ℕ) → ((x : X) → f x ≡ g x) → (xs : List X) → total f xs ≡ total g xs
same_sums f g same [] = refl
same_sums f g same (x ∷ xs) = omega (arith, same x, same_sums f g same xs)

-- the sum of one lot's over the known lots
pub total_of_lot : (f : LotId → ℕ) (l : LotId) (ks : List KnownLot) → AreApart same_known ks → total (λ k. if is_lot l k.lot then f k.lot else 0) ks ≡ (if list_any (λ k. is_lot l k.lot) ks then f l else 0)
total_of_lot f l [] apart = refl
total_of_lot f l (k ∷ ks) apart =
    elim (is_lot l k.lot) as (λ b. is_lot l k.lot ≡ b → (if b then f k.lot else 0) + total (λ k. if is_lot l k.lot then f k.lot else 0) ks ≡ (if b || list_any (λ k. is_lot l k.lot) ks then f l else 0)) [
      | true ↦ λ e.
          let own : l ≡ k.lot = is_lot_is l k.lot e in
          let others : list_any (λ (m : KnownLot). is_lot l m.lot) ks ≡ false = ap (λ (x : LotId). list_any (λ (m : KnownLot). is_lot x m.lot) ks) own ∙ apart.0 in
          omega (arith, ap f own, total_of_lot f l ks apart.1, ap (λ b. if b then f l else 0) others)
      | false ↦ λ e. omega (arith, total_of_lot f l ks apart.1)
    ] refl

-- The stages of an order

module _ (n s : ℕ) (o : List ℕ) (ks : List KnownLot) (ps : List Posting) where
  abbrev shipping : List Posting
  shipping = shipped_off n s o ks ps

  abbrev staged_units : LotId → ℕ
  staged_units l = balance (is_stage o) (is_lot l) ps

  shipped_into : (w : Cells) → into w shipping ≡ total (λ k. if w (Shipped s o) k.lot then staged_units k.lot else 0) ks
  shipped_into w =
      into-flat_map w (λ (k : KnownLot). cleared n ps (Shipped s o) o k.lot) ks
      ∙ same_sums (λ (k : KnownLot). into w (cleared n ps (Shipped s o) o k.lot)) (λ (k : KnownLot). if w (Shipped s o) k.lot then staged_units k.lot else 0) (λ k. into_posting w n k.lot (Stage o) (Shipped s o) (staged_units k.lot)) ks

  shipped_out_of : (w : Cells) → out_of w shipping ≡ total (λ k. if w (Stage o) k.lot then staged_units k.lot else 0) ks
  shipped_out_of w =
      out_of-flat_map w (λ (k : KnownLot). cleared n ps (Shipped s o) o k.lot) ks
      ∙ same_sums (λ (k : KnownLot). out_of w (cleared n ps (Shipped s o) o k.lot)) (λ (k : KnownLot). if w (Stage o) k.lot then staged_units k.lot else 0) (λ k. out_of_posting w n k.lot (Stage o) (Shipped s o) (staged_units k.lot)) ks

  -- cells that tell the stage and the shipment not apart hold what they held
  pub holds_alike : (w : Cells) → ((l : LotId) → w (Shipped s o) l ≡ w (Stage o) l) → holds w (shipping ++ ps) ≡ holds w ps
  holds_alike w alike =
      omega (
        arith,
        into-append w shipping ps,
        out_of-append w shipping ps,
        shipped_into w,
        shipped_out_of w,
        same_sums (λ (k : KnownLot). if w (Shipped s o) k.lot then staged_units k.lot else 0) (λ (k : KnownLot). if w (Stage o) k.lot then staged_units k.lot else 0) (λ k. ap (λ b. if b then staged_units k.lot else 0) (alike k.lot)) ks,
      )

  module _ (apart : AreApart same_known ks) (legal : Legal ps) (legal_after : Legal (shipping ++ ps)) (l : LotId) (known : list_any (λ k. is_lot l k.lot) ks ≡ false → staged_units l ≡ 0) where
    all_or_none : (b : Bool) → list_any (λ k. is_lot l k.lot) ks ≡ b → (if b then staged_units l else 0) ≡ staged_units l
    all_or_none true e = refl
    all_or_none false e = sym (known e)

    lot_sum : (b : Bool) → total (λ k. if b && is_lot l k.lot then staged_units k.lot else 0) ks ≡ (if b then staged_units l else 0)
    lot_sum true = total_of_lot staged_units l ks apart ∙ all_or_none (list_any (λ k. is_lot l k.lot) ks) refl
    lot_sum false = none ks
      where
        none : (ks : List KnownLot) → total (λ k. 0) ks ≡ 0
        none [] = refl
        none (k ∷ ks) = omega (arith, none ks)

    -- each balance of the lot loses what was staged, if it has the stage, and gains it, if it has the shipment
    pub lot_shipped : (places : Place → Bool) → places Supplier ≡ false → places WriteOff ≡ false
        → balance places (is_lot l) (shipping ++ ps) + (if places (Stage o) then staged_units l else 0) ≡ balance places (is_lot l) ps + (if places (Shipped s o) then staged_units l else 0)
    lot_shipped places supplier write_off =
        let w : Cells = λ p m. places p && is_lot l m in
        let inner : Inner w = record { supplier = λ m. ap (λ b. b && is_lot l m) supplier; write_off = λ m. ap (λ b. b && is_lot l m) write_off } in
        omega (
          arith,
          into-append w shipping ps,
          out_of-append w shipping ps,
          shipped_into w ∙ lot_sum (places (Shipped s o)),
          shipped_out_of w ∙ lot_sum (places (Stage o)),
          never_overdrawn ps legal w inner,
          never_overdrawn (shipping ++ ps) legal_after w inner,
        )
