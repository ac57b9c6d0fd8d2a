-- On a history no item has more units in the house than the limit.
use Rattle.machine.proofs.Words.{◌≡◌, ℕ, ◌+◌, ◌-◌, ◌≤◌, Bool, true, false, ◌&&◌, List, [], ◌∷◌, ◌++◌, refl, ap, sym, subst, ◌∙◌, arith, lit≤, ◌==◌, if◌then◌else◌, ℤ, None, LotId, UNITS_MAX, Act, next_number, Place, InBin, Stage, Shipped, WriteOff, Posting, balance, is_stage, is_lot, of_item, in_house, KnownLot, Placed, RETURNS, lots, orders, shipments_so_far, posting, correction, cleared, shipped_off, lot_returned, returned, made_unshippable, postings, postings_of, in_bin, units_in_house, verdict, IsHistory}
use Rattle.machine.proofs.Numbers.{nothing_if}
use Rattle.machine.proofs.Tests.{same_text_is, is_zero}
use Rattle.machine.proofs.histories.ActFacts.{Entry, Nothing, One, Corrected, ShippedOff, Returned, entry_of, entry_postings, entry_posted, Facts, facts_of}
use Rattle.machine.proofs.histories.Cells.{Cells, into, out_of, into-append, out_of-append, holds, never_overdrawn}
use Rattle.machine.proofs.histories.LegalHistories.{legal_history}

module _ (g : List ℕ) where
  abbrev house : Cells
  house p l = in_house p && of_item g l

  -- by one posting into the house or out of it
  abbrev counted : Bool → LotId → ℕ → ℕ
  counted b l q = if b && of_item g l then q else 0

  into_posting : (n : ℕ) (l : LotId) (from to : Place) (q : ℕ) → into house (posting n l from to q) ≡ counted (in_house to) l q
  into_posting n l from to q = elim (q == 0) as (λ b. (q == 0) ≡ b → into house (if b then [] else record { act = n; lot = l; from = from; to = to; qty = q } ∷ []) ≡ counted (in_house to) l q) [
    | true ↦ λ e. nothing (in_house to && of_item g l) (is_zero q e)
    | false ↦ λ e. omega arith
  ] refl
    where
      nothing : (b : Bool) → q ≡ 0 → 0 ≡ (if b then q else 0)
      nothing true e = sym e
      nothing false e = refl

  out_of_posting : (n : ℕ) (l : LotId) (from to : Place) (q : ℕ) → out_of house (posting n l from to q) ≡ counted (in_house from) l q
  out_of_posting n l from to q = elim (q == 0) as (λ b. (q == 0) ≡ b → out_of house (if b then [] else record { act = n; lot = l; from = from; to = to; qty = q } ∷ []) ≡ counted (in_house from) l q) [
    | true ↦ λ e. nothing (in_house from && of_item g l) (is_zero q e)
    | false ↦ λ e. omega arith
  ] refl
    where
      nothing : (b : Bool) → q ≡ 0 → 0 ≡ (if b then q else 0)
      nothing true e = sym e
      nothing false e = refl

  -- lists of postings that stay in the house
  returned_lot_stays : (n : ℕ) (os : List Placed) (ps : List Posting) (k : KnownLot) → into house (lot_returned n os ps k) ≡ out_of house (lot_returned n os ps k)
  returned_lot_stays n [] ps k = refl
  returned_lot_stays n (p ∷ os) ps k =
      omega (
        arith,
        into-append house (cleared n ps (InBin RETURNS) p.order k.lot) (lot_returned n os ps k),
        out_of-append house (cleared n ps (InBin RETURNS) p.order k.lot) (lot_returned n os ps k),
        into_posting n k.lot (Stage p.order) (InBin RETURNS) (balance (is_stage p.order) (is_lot k.lot) ps),
        out_of_posting n k.lot (Stage p.order) (InBin RETURNS) (balance (is_stage p.order) (is_lot k.lot) ps),
        returned_lot_stays n os ps k,
      )

  returned_stays : (n : ℕ) (ks : List KnownLot) (os : List Placed) (ps : List Posting) → into house (returned n ks os ps) ≡ out_of house (returned n ks os ps)
  returned_stays n [] os ps = refl
  returned_stays n (k ∷ ks) os ps =
      omega (arith, into-append house (lot_returned n os ps k) (returned n ks os ps), out_of-append house (lot_returned n os ps k) (returned n ks os ps), returned_lot_stays n os ps k, returned_stays n ks os ps)

  shipped_leaves : (n s : ℕ) (o : List ℕ) (ks : List KnownLot) (ps : List Posting) → into house (shipped_off n s o ks ps) ≡ 0
  shipped_leaves n s o [] ps = refl
  shipped_leaves n s o (k ∷ ks) ps =
      omega (
        arith,
        into-append house (cleared n ps (Shipped s o) o k.lot) (shipped_off n s o ks ps),
        into_posting n k.lot (Stage o) (Shipped s o) (balance (is_stage o) (is_lot k.lot) ps),
        shipped_leaves n s o ks ps,
      )

  module _ (first : ℤ) (before : List Act) (history : IsHistory first before) (h : units_in_house first before g ≤ UNITS_MAX) where
    abbrev ps : List Posting
    ps = postings first before

    abbrev n : ℕ
    n = next_number before

    -- where the units of the lot's own item would stay within the limit
    by_lot : (l : LotId) (a b : ℕ) → units_in_house first before l.gtin + a ≤ UNITS_MAX + b → into house ps + (if of_item g l then a else 0) - (out_of house ps + (if of_item g l then b else 0)) ≤ UNITS_MAX
    by_lot l a b fits =
        elim (of_item g l) as (λ t. of_item g l ≡ t → into house ps + (if t then a else 0) - (out_of house ps + (if t then b else 0)) ≤ UNITS_MAX) [
          | true ↦ λ e.
              let own : units_in_house first before l.gtin ≡ units_in_house first before g = ap (λ (x : List ℕ). units_in_house first before x) (sym (same_text_is g l.gtin e)) in
              let low = never_overdrawn ps (legal_history first before history) house (record { supplier = λ m. refl; write_off = λ m. refl }) in
              omega (arith, own, fits, low)
          | false ↦ λ e. omega (arith, h)
        ] refl

    at_most : (b : Bool) (l : LotId) (q : ℕ) → counted b l q ≤ counted true l q
    at_most true l q = omega arith
    at_most false l q = omega arith

    moved_within : (l : LotId) (from to : Place) (q : ℕ) → (in_house from ≡ false → units_in_house first before l.gtin + q ≤ UNITS_MAX + 0) → holds house (posting n l from to q ++ ps) ≤ UNITS_MAX
    moved_within l from to q fits =
        elim (in_house from) as (λ b. in_house from ≡ b → holds house (posting n l from to q ++ ps) ≤ UNITS_MAX) [
          | true ↦ λ e.
              let out : out_of house (posting n l from to q) ≡ counted true l q = out_of_posting n l from to q ∙ ap (λ b. counted b l q) e in
              omega (arith, h, out, at_most (in_house to) l q, into_posting n l from to q, into-append house (posting n l from to q) ps, out_of-append house (posting n l from to q) ps)
          | false ↦ λ e.
              let out : out_of house (posting n l from to q) ≡ 0 = out_of_posting n l from to q ∙ ap (λ b. counted b l q) e in
              omega (arith, nothing_if (of_item g l), by_lot l q 0 (fits e), out, at_most (in_house to) l q, into_posting n l from to q, into-append house (posting n l from to q) ps, out_of-append house (posting n l from to q) ps)
        ] refl

    corrected_within : (l : LotId) (b : List ℕ) (have found : ℕ) → units_in_house first before l.gtin + found ≤ UNITS_MAX + have → holds house (correction n l b have found ++ ps) ≤ UNITS_MAX
    corrected_within l b have found fits =
        omega (
          arith,
          by_lot l (found - have) (have - found) (omega (arith, fits)),
          into-append house (correction n l b have found) ps,
          out_of-append house (correction n l b have found) ps,
          into-append house (posting n l WriteOff (InBin b) (found - have)) (posting n l (InBin b) WriteOff (have - found)),
          out_of-append house (posting n l WriteOff (InBin b) (found - have)) (posting n l (InBin b) WriteOff (have - found)),
          into_posting n l WriteOff (InBin b) (found - have),
          out_of_posting n l WriteOff (InBin b) (found - have),
          into_posting n l (InBin b) WriteOff (have - found),
          out_of_posting n l (InBin b) WriteOff (have - found),
        )

    units_by : (act : Act) (e : Entry) → Facts first act before e → holds house (entry_postings first act before ps e ++ ps) ≤ UNITS_MAX
    units_by act Nothing f = h
    units_by act (One l from to q) f = moved_within l from to q f.fits
    units_by act (Corrected l b found) f = corrected_within l b (in_bin first before b l) found f.fits
    units_by act (ShippedOff o) f =
        omega (arith, h, into-append house (shipped_off n (shipments_so_far first before + 1) o (lots before) ps) ps, out_of-append house (shipped_off n (shipments_so_far first before + 1) o (lots before) ps) ps, shipped_leaves n (shipments_so_far first before + 1) o (lots before) ps)
    units_by act Returned f =
        omega (arith, h, into-append house (returned n (made_unshippable first act before) (orders before) ps) ps, out_of-append house (returned n (made_unshippable first act before) (orders before) ps) ps, returned_stays n (made_unshippable first act before) (orders before) ps)

    units_after : (act : Act) → verdict first before act.command ≡ None → holds house (postings_of first act before ++ ps) ≤ UNITS_MAX
    units_after act ok =
        subst (λ qs. holds house (qs ++ ps) ≤ UNITS_MAX) (entry_posted first act before ps act.command) (units_by act (entry_of act.command) (facts_of first act.key before act.command ok))

pub units_within_limit : (first : ℤ) (acts : List Act) → IsHistory first acts → (g : List ℕ) → units_in_house first acts g ≤ UNITS_MAX
units_within_limit first [] h g = lit≤ tt
units_within_limit first (act ∷ before) h g = units_after g first before h.0 (units_within_limit first before h.0 g) act h.1.passes
