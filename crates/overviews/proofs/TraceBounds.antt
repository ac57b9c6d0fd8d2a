-- The units that a card shows as received, written on and written off are no more than the acts can bring in.
use Rattle.std.proofs.Common.{◌≡◌, ℕ, suc, ◌+◌, ◌*◌, ◌-◌, ◌≤◌, Bool, true, false, ◌&&◌, List, [], ◌∷◌, ◌++◌, refl, subst, arith, if◌then◌else◌, ◌==◌, flat_map, ℤ, pos, negsuc, length}
use Rattle.std.specs.Prelude.{nat_le, unsigned_abs, neg_ℤ}
use Rattle.std.proofs.lemmas.Bool.Decides.{nat_tests}
use Rattle.values.specs.Values.{QTY_MAX, is_between, is_qty, is_counted, is_delta, is_name}
use Rattle.values.specs.declared.lot.LotId.{LotId}
use Rattle.label.specs.Days.{is_day}
use Rattle.commands.specs.Lists.{total}
use Rattle.commands.specs.Sound.{is_sound, is_lot_id}
use Rattle.commands.specs.declared.command.Command.{Command}
use Rattle.commands.specs.declared.command.Command.TheVariants.{Receive, Move, Count, Adjust, Pick, Unpick}
use Rattle.commands.specs.declared.rows.CardKind.{CardKind}
use Rattle.commands.specs.declared.rows.CardKind.TheVariants.{Receipt, WriteOn, WriteOff as WrittenOff}
use Rattle.commands.specs.declared.rows.CardRow.{CardRow}
use Rattle.machine.specs.Acts.{Act, next_number}
use Rattle.machine.specs.Cards.{cards, card_lines}
use Rattle.machine.specs.Laws.{card_total}
use Rattle.machine.specs.Ledger.{posting, posted, postings, postings_of}
use Rattle.machine.specs.Once.{IsHistory}
use Rattle.machine.specs.Postings.{Place, Supplier, InBin, Stage, Shipped, WriteOff, Posting, balance, is_bin, is_lot}
use Rattle.machine.specs.Views.{card_of_lot}
use Rattle.machine.proofs.Tests.{and_both}
use Rattle.machine.proofs.histories.ActFacts.{Entry, Nothing, One, Corrected, ShippedOff, Returned, entry_of, written_entry, entry_postings, entry_posted, Each, each_of_entry, all_returned}
use Rattle.machine.proofs.histories.Conservation.{conserved}
use Rattle.overviews.specs.Traces.{units_of_kind}
use Rattle.overviews.proofs.TraceTotals.{of_kind}

total_appended : (kind : CardKind) (l : LotId) (rows more : List CardRow) → card_total kind l (rows ++ more) ≡ card_total kind l rows + card_total kind l more
total_appended kind l [] more = omega arith
total_appended kind l (r ∷ rows) more = omega (arith, total_appended kind l rows more)

-- ---- what one posting brings in

abbrev comes_in : Place → Bool
comes_in Supplier = true
comes_in WriteOff = true
comes_in _ = false

abbrev came : Posting → ℕ
came p = if comes_in p.from then p.qty else 0

some_at_most : (b : Bool) (q : ℕ) → (if b && true then q else 0) + 0 ≤ q
some_at_most true q = omega arith
some_at_most false q = omega arith

none_of : (b : Bool) (q : ℕ) → (if b && false then q else 0) + 0 ≡ 0
none_of true q = refl
none_of false q = refl

module _ (first : ℤ) (act : Act) (before : List Act) (l : LotId) where
  abbrev lines : Posting → Place → Place → List CardRow
  lines p from to = card_lines first act before p from to

  one_posting : (p : Posting) (from to : Place) → card_total Receipt l (lines p from to) + card_total WriteOn l (lines p from to) ≤ (if comes_in from then p.qty else 0)
  one_posting p Supplier (InBin b) = omega (arith, some_at_most (is_lot l p.lot) p.qty, none_of (is_lot l p.lot) p.qty)
  one_posting p WriteOff (InBin b) = omega (arith, some_at_most (is_lot l p.lot) p.qty, none_of (is_lot l p.lot) p.qty)
  one_posting p (InBin b) WriteOff = omega (arith, none_of (is_lot l p.lot) (unsigned_abs (neg_ℤ (pos p.qty))))
  one_posting p (Stage o) (Shipped n u) = omega (arith, none_of (is_lot l p.lot) (unsigned_abs (neg_ℤ (pos p.qty))))
  one_posting p _ _ = omega arith

  abbrev all_lines : List Posting → List CardRow
  all_lines ps = flat_map (λ p. lines p p.from p.to) ps

  all_postings : (ps : List Posting) → card_total Receipt l (all_lines ps) + card_total WriteOn l (all_lines ps) ≤ total came ps
  all_postings [] = omega arith
  all_postings (p ∷ ps) =
      omega (
        arith,
        one_posting p p.from p.to,
        all_postings ps,
        total_appended Receipt l (lines p p.from p.to) (all_lines ps),
        total_appended WriteOn l (lines p p.from p.to) (all_lines ps),
      )

-- ---- what one act brings in

came_appended : (ps qs : List Posting) → total came (ps ++ qs) ≡ total came ps + total came qs
came_appended [] qs = omega arith
came_appended (p ∷ ps) qs = omega (arith, came_appended ps qs)

came_posted : (n : ℕ) (l : LotId) (from to : Place) (q : ℕ) → total came (posting n l from to q) ≤ (if comes_in from then q else 0)
came_posted n l from to q =
    elim (q == 0) as (λ b. total came (if b then [] else record { act = n; lot = l; from = from; to = to; qty = q } ∷ []) ≤ (if comes_in from then q else 0)) [ true ↦ omega arith | false ↦ omega arith ]

none_came : (ps : List Posting) → Each (λ p. came p ≡ 0) ps → total came ps ≡ 0
none_came [] all = refl
none_came (p ∷ ps) all = omega (arith, all.0, none_came ps all.1)

abbrev Fits : Entry → Type 0
Fits (One l from to q) = q ≤ QTY_MAX
Fits (Corrected l b found) = found ≤ QTY_MAX
Fits _ = Unit {0}

at_most : (low q : ℕ) → is_between low QTY_MAX q ≡ true → q ≤ QTY_MAX
at_most low q e = let high = (and_both (nat_le low q) (nat_le q QTY_MAX) e).1 in grind (arith, nat_tests, high)

fits_written : (l : LotId) (b : List ℕ) (z : ℤ) → is_delta z ≡ true → Fits (written_entry l b z)
fits_written l b (pos k) e = at_most 1 k e
fits_written l b (negsuc k) e = at_most 1 (suc k) e

fits_of : (c : Command) → is_sound c ≡ true → Fits (entry_of c)
fits_of (Receive r) e = at_most 1 r.qty (and_both (is_lot_id r.lot && is_day r.expiry && is_name r.bin) (is_qty r.qty) e).1
fits_of (Move m) e = at_most 1 m.qty (and_both (is_lot_id m.lot && is_name m.from && is_name m.to) (is_qty m.qty) e).1
fits_of (Count c) e = at_most 0 c.qty (and_both (is_lot_id c.lot && is_name c.bin) (is_counted c.qty) e).1
fits_of (Adjust a) e = fits_written a.lot a.bin a.change (and_both (is_lot_id a.lot && is_name a.bin) (is_delta a.change) e).1
fits_of (Pick p) e = at_most 1 p.qty (and_both (is_name p.order && is_lot_id p.lot && is_name p.bin) (is_qty p.qty) e).1
fits_of (Unpick p) e = at_most 1 p.qty (and_both (is_name p.order && is_lot_id p.lot && is_name p.bin) (is_qty p.qty) e).1
fits_of _ e = tt

if_at_most : (b : Bool) (q : ℕ) → (if b then q else 0) ≤ q
if_at_most true q = omega arith
if_at_most false q = omega arith

module _ (first : ℤ) (act : Act) (before : List Act) (ps : List Posting) where
  abbrev n : ℕ
  n = next_number before

  of_entry : (e : Entry) → Fits e → total came (entry_postings first act before ps e) ≤ QTY_MAX
  of_entry Nothing h = omega arith
  of_entry (One l from to q) h = omega (arith, came_posted n l from to q, if_at_most (comes_in from) q)
  of_entry (Corrected l b found) h =
      let have = balance (is_bin b) (is_lot l) ps in
      omega (
        arith,
        came_appended (posting n l WriteOff (InBin b) (found - have)) (posting n l (InBin b) WriteOff (have - found)),
        came_posted n l WriteOff (InBin b) (found - have),
        came_posted n l (InBin b) WriteOff (have - found),
      )
  of_entry (ShippedOff o) h = omega (arith, none_came (entry_postings first act before ps (ShippedOff o)) (each_of_entry (λ p. came p ≡ 0) first act before ps (ShippedOff o) (λ l e. refl)))
  of_entry Returned h = omega (arith, none_came (entry_postings first act before ps Returned) (all_returned (λ p. came p ≡ 0) first act before ps (λ l o e. refl)))

  of_act : (c : Command) → is_sound c ≡ true → total came (posted first act before ps c) ≤ QTY_MAX
  of_act c e = subst (λ qs. total came qs ≤ QTY_MAX) (entry_posted first act before ps c) (of_entry (entry_of c) (fits_of c e))

-- ---- what all acts bring in

came_in : (first : ℤ) (acts : List Act) → IsHistory first acts → (l : LotId) → card_total Receipt l (cards first acts) + card_total WriteOn l (cards first acts) ≤ QTY_MAX * length acts
came_in first [] history l = omega arith
came_in first (act ∷ before) history l =
    let rows = all_lines first act before l (postings_of first act before) in
    omega (
      arith,
      came_in first before history.0 l,
      all_postings first act before l (postings_of first act before),
      of_act first act before (postings first before) act.command history.1.sound.command,
      total_appended Receipt l rows (cards first before),
      total_appended WriteOn l rows (cards first before),
    )

-- the units of each kind that a trace shows
pub record AreBounded (most : ℕ) (rows : List CardRow) : Type 0 where
  pub received : units_of_kind Receipt rows ≤ most
  pub on : units_of_kind WriteOn rows ≤ most
  pub off : units_of_kind WrittenOff rows ≤ most

pub units_bounded : (first : ℤ) (acts : List Act) (l : LotId) → IsHistory first acts → AreBounded (QTY_MAX * length acts) (card_of_lot first acts l)
units_bounded first acts l history =
    let most = came_in first acts history l in
    let received = of_kind first acts l Receipt in
    let on = of_kind first acts l WriteOn in
    let off = of_kind first acts l WrittenOff in
    record { received = omega arith; on = omega arith; off = omega (arith, conserved first acts l history) }
