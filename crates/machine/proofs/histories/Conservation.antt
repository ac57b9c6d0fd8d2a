-- What came in of a lot is in bins, on stages or in shipments, or was written off.
use Prim.Native.Nat.{zero}
use Rattle.machine.proofs.Words.{◌≡◌, ℕ, suc, ◌+◌, Bool, true, false, ◌&&◌, List, [], ◌∷◌, ◌++◌, refl, ap, subst, arith, if◌then◌else◌, flat_map, ℤ, pos, neg_ℤ, unsigned_abs, LotId, Command, CardKind, WriteOn, WrittenOff, CardRow, Act, Place, Supplier, InBin, Stage, Shipped, WriteOff, Posting, is_lot, posted, postings, postings_of, cards, card_lines, card_total, Conserved}
use Rattle.commands.specs.declared.rows.CardKind.TheVariants.{Receipt}
use Rattle.machine.proofs.histories.ActFacts.{Entry, Nothing, One, Corrected, ShippedOff, Returned, entry_of, entry_posted, is_pick, IsStep, HasStep, step_of, Each, each_of_entry, Shown, all_returned}
use Rattle.machine.proofs.histories.Cells.{into, out_of, into-append, out_of-append, never_overdrawn}
use Rattle.machine.proofs.histories.LegalHistories.{legal_history}
use Rattle.machine.proofs.histories.KnownSums.{of_lot, any_inner, all_held}

-- The ways that postings go

abbrev pub IsWay : Place → Place → Type 0
IsWay Supplier (InBin b) = Unit {0}
IsWay WriteOff (InBin b) = Unit {0}
IsWay (InBin b) WriteOff = Unit {0}
IsWay (InBin b) (InBin c) = Unit {0}
IsWay (InBin b) (Stage o) = Unit {0}
IsWay (Stage o) (InBin b) = Unit {0}
IsWay (Stage o) (Shipped n u) = Unit {0}
IsWay _ _ = ⊥

abbrev pub AllWays : List Posting → Type 0
AllWays = Each (λ p. IsWay p.from p.to)

way_of : (picks : Bool) (from to : Place) → IsStep picks from to → IsWay from to
way_of picks (InBin b) (Stage o) h = tt
way_of picks (Stage o) (Shipped n u) h = tt
way_of picks _ _ h = h

pub ways_posted : (first : ℤ) (act : Act) (before : List Act) (ps : List Posting) (c : Command) → AllWays (posted first act before ps c)
ways_posted first act before ps c =
    subst AllWays (entry_posted first act before ps c) (each_of_entry (λ p. IsWay p.from p.to) first act before ps (entry_of c) (shown (entry_of c) (step_of c)))
  where
    shown : (e : Entry) → HasStep (is_pick c) e → Shown (λ p. IsWay p.from p.to) first act before ps e
    shown Nothing h = tt
    shown (One l from to q) h = λ e. way_of (is_pick c) from to h
    shown (Corrected l b found) h = (λ e. tt, λ e. tt)
    shown (ShippedOff o) h = λ l e. tt
    shown Returned h = all_returned (λ p. IsWay p.from p.to) first act before ps (λ l o e. tt)

-- The cards of a lot, posting by posting

total-append : (kind : CardKind) (l : LotId) (rows more : List CardRow) → card_total kind l (rows ++ more) ≡ card_total kind l rows + card_total kind l more
total-append kind l [] more = omega arith
total-append kind l (r ∷ rows) more = omega (arith, total-append kind l rows more)

abs_negated : (q : ℕ) → unsigned_abs (neg_ℤ (pos q)) ≡ q
abs_negated zero = refl
abs_negated (suc q) = refl

module _ (first : ℤ) (act : Act) (before : List Act) (l : LotId) where
  abbrev lines : Posting → Place → Place → List CardRow
  lines p from to = card_lines first act before p from to

  abbrev own : Posting → ℕ
  own p = if is_lot l p.lot then p.qty else 0

  some_of : (b : Bool) (q : ℕ) → (if b && true then q else 0) + 0 ≡ (if b then q else 0)
  some_of true q = omega arith
  some_of false q = refl

  none_of : (b : Bool) (q : ℕ) → (if b && false then q else 0) + 0 ≡ 0
  none_of true q = refl
  none_of false q = refl

  -- what a posting brings in or takes out is on the card
  one_posting : (p : Posting) (from to : Place) → IsWay from to
      → card_total Receipt l (lines p from to) + card_total WriteOn l (lines p from to) + (if any_inner from && is_lot l p.lot then p.qty else 0)
      ≡ (if any_inner to && is_lot l p.lot then p.qty else 0) + card_total WrittenOff l (lines p from to)
  one_posting p Supplier (InBin b) h = omega (arith, some_of (is_lot l p.lot) p.qty, none_of (is_lot l p.lot) p.qty)
  one_posting p WriteOff (InBin b) h = omega (arith, some_of (is_lot l p.lot) p.qty, none_of (is_lot l p.lot) p.qty)
  one_posting p (InBin b) WriteOff h =
      let q : unsigned_abs (neg_ℤ (pos p.qty)) ≡ p.qty = abs_negated p.qty in
      omega (arith, some_of (is_lot l p.lot) (unsigned_abs (neg_ℤ (pos p.qty))), none_of (is_lot l p.lot) (unsigned_abs (neg_ℤ (pos p.qty))), ap (λ n. if is_lot l p.lot then n else 0) q)
  one_posting p (InBin b) (InBin c) h = omega arith
  one_posting p (InBin b) (Stage o) h = omega arith
  one_posting p (Stage o) (InBin b) h = omega arith
  one_posting p (Stage o) (Shipped n u) h = omega (arith, none_of (is_lot l p.lot) (unsigned_abs (neg_ℤ (pos p.qty))))
  one_posting p _ _ h = absurd h

  abbrev all_lines : List Posting → List CardRow
  all_lines ps = flat_map (λ p. lines p p.from p.to) ps

  act_postings : (ps : List Posting) → AllWays ps
      → card_total Receipt l (all_lines ps) + card_total WriteOn l (all_lines ps) + out_of (of_lot l any_inner) ps ≡ into (of_lot l any_inner) ps + card_total WrittenOff l (all_lines ps)
  act_postings [] h = refl
  act_postings (p ∷ ps) h =
      omega (
        arith,
        one_posting p p.from p.to h.0,
        act_postings ps h.1,
        total-append Receipt l (lines p p.from p.to) (all_lines ps),
        total-append WriteOn l (lines p p.from p.to) (all_lines ps),
        total-append WrittenOff l (lines p p.from p.to) (all_lines ps),
      )

-- of all acts
all_cards : (first : ℤ) (acts : List Act) (l : LotId)
    → card_total Receipt l (cards first acts) + card_total WriteOn l (cards first acts) + out_of (of_lot l any_inner) (postings first acts)
    ≡ into (of_lot l any_inner) (postings first acts) + card_total WrittenOff l (cards first acts)
all_cards first [] l = refl
all_cards first (act ∷ before) l =
    let qs = postings_of first act before in
    let rows = all_lines first act before l qs in
    omega (
      arith,
      act_postings first act before l qs (ways_posted first act before (postings first before) act.command),
      all_cards first before l,
      total-append Receipt l rows (cards first before),
      total-append WriteOn l rows (cards first before),
      total-append WrittenOff l rows (cards first before),
      into-append (of_lot l any_inner) qs (postings first before),
      out_of-append (of_lot l any_inner) qs (postings first before),
    )

pub conserved : Conserved
conserved first acts l history =
    omega (
      arith,
      all_cards first acts l,
      all_held first acts history l,
      never_overdrawn (postings first acts) (legal_history first acts history) (of_lot l any_inner) (record { supplier = λ m. refl; write_off = λ m. refl }),
    )
