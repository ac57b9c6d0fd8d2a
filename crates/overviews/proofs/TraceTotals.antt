-- The lists of a trace add up to the balances of which they are made.
use Rattle.std.proofs.Common.{◌≡◌, ℕ, ◌+◌, Bool, true, false, not, ◌&&◌, List, [], ◌∷◌, ◌++◌, refl, ap, ◌∙◌, arith, filter, map, reverse, ◌==◌, if◌then◌else◌, ℤ, eqb-true}
use Rattle.std.specs.Prelude.{unsigned_abs}
use Rattle.std.proofs.lemmas.List.{reverse-append}
use Rattle.values.specs.declared.lot.LotId.{LotId}
use Rattle.commands.specs.Lists.{total, placed, in_order}
use Rattle.commands.specs.declared.command.NewBin.{NewBin}
use Rattle.commands.specs.declared.rows.CardKind.{CardKind}
use Rattle.commands.specs.declared.rows.CardKind.TheVariants.{Receipt, WriteOn, WriteOff}
use Rattle.commands.specs.declared.rows.CardRow.{CardRow}
use Rattle.commands.specs.declared.rows.ShipmentRow.{ShipmentRow}
use Rattle.commands.specs.declared.views.BinUnits.{BinUnits}
use Rattle.commands.specs.declared.views.ShippedUnits.{ShippedUnits}
use Rattle.overviews.specs.declared.trace.StagedUnits.{StagedUnits}
use Rattle.machine.specs.Acts.{Act}
use Rattle.machine.specs.Cards.{cards}
use Rattle.machine.specs.Laws.{is_kind, card_total, in_bins, on_stages, in_shipments}
use Rattle.machine.specs.Ledger.{postings}
use Rattle.machine.specs.Planning.{in_bin}
use Rattle.machine.specs.Postings.{balance, is_lot, is_shipment}
use Rattle.machine.specs.Standing.{bins, orders, shipments}
use Rattle.machine.specs.Views.{bins_of_lot, card_of_lot, has_bin_units, shipments_of_lot, shipped_units, text_before}
use Rattle.machine.proofs.histories.Conservation.{conserved}
use Rattle.overviews.specs.Traces.{has_staged_units, staged_units, stages_of_lot, units_of_kind}
use Rattle.overviews.specs.TraceLaws.{TracesAreConserved}

-- ---- totals of lists

appended : {X : Type 0} (f : X → ℕ) (xs ys : List X) → total f (xs ++ ys) ≡ total f xs + total f ys
appended f [] ys = omega arith
appended f (x ∷ xs) ys = omega (arith, appended f xs ys)

reversed : {X : Type 0} (f : X → ℕ) (xs : List X) → total f (reverse xs) ≡ total f xs
reversed f [] = refl
reversed f (x ∷ xs) = let more = reversed f xs in ap (total f) (reverse-append (x ∷ []) xs) ∙ omega (arith, appended f (reverse xs) (x ∷ []), more)

stood : {X : Type 0} (f : X → ℕ) (before : X → X → Bool) (x : X) (xs : List X) → total f (placed before x xs) ≡ f x + total f xs
stood f before x [] = refl
stood f before x (y ∷ ys) =
    elim (before y x) as (λ b. total f (if b then y ∷ placed before x ys else x ∷ y ∷ ys) ≡ f x + total f (y ∷ ys)) [ true ↦ omega (arith, stood f before x ys) | false ↦ refl ]

pub ordered : {X : Type 0} (f : X → ℕ) (before : X → X → Bool) (xs : List X) → total f (in_order before xs) ≡ total f xs
ordered f before [] = refl
ordered f before (x ∷ xs) = omega (arith, stood f before x (in_order before xs), ordered f before xs)

-- those of no units add nothing
with_units : {X Y : Type 0} (f : Y → ℕ) (make : X → Y) (xs : List X) → total f (filter (λ y. not (f y == 0)) (map make xs)) ≡ total (λ x. f (make x)) xs
with_units f make [] = refl
with_units f make (x ∷ xs) =
    elim (f (make x) == 0) as (λ b. (f (make x) == 0) ≡ b → total f (if not b then make x ∷ filter (λ y. not (f y == 0)) (map make xs) else filter (λ y. not (f y == 0)) (map make xs)) ≡ f (make x) + total (λ x. f (make x)) xs) [
      | true ↦ λ e. let none = eqb-true (f (make x)) 0 e in omega (arith, with_units f make xs, none)
      | false ↦ λ e. omega (arith, with_units f make xs)
    ] refl

-- ---- the lists of a trace

module _ (first : ℤ) (acts : List Act) (l : LotId) where
  pub of_kind : (kind : CardKind) → units_of_kind kind (card_of_lot first acts l) ≡ card_total kind l (cards first acts)
  of_kind kind = reversed (λ (c : CardRow). if is_kind kind c.kind then unsigned_abs c.qty else 0) (filter (λ (c : CardRow). is_lot l c.lot) (cards first acts)) ∙ own (cards first acts)
    where
      own : (rows : List CardRow) → units_of_kind kind (filter (λ (c : CardRow). is_lot l c.lot) rows) ≡ card_total kind l rows
      own [] = refl
      own (c ∷ rows) =
          elim (is_lot l c.lot) as (λ b. units_of_kind kind (if b then c ∷ filter (λ (c : CardRow). is_lot l c.lot) rows else filter (λ (c : CardRow). is_lot l c.lot) rows) ≡ (if b && is_kind kind c.kind then unsigned_abs c.qty else 0) + card_total kind l rows) [
            | true ↦ omega (arith, own rows)
            | false ↦ omega (arith, own rows)
          ]

  binned : total (λ (u : BinUnits). u.qty) (bins_of_lot first acts l) ≡ in_bins first acts l
  binned =
      let made : List BinUnits = map (λ (b : NewBin). record { bin = b.bin; qty = in_bin first acts b.bin l }) (bins acts) in
      ordered (λ (u : BinUnits). u.qty) (λ (a b : BinUnits). text_before a.bin b.bin) (filter has_bin_units made)
      ∙ with_units (λ (u : BinUnits). u.qty) (λ (b : NewBin). record { bin = b.bin; qty = in_bin first acts b.bin l }) (bins acts)

  pub staged : total (λ (u : StagedUnits). u.qty) (stages_of_lot first acts l) ≡ on_stages first acts l
  staged =
      ordered (λ (u : StagedUnits). u.qty) (λ (a b : StagedUnits). text_before a.order b.order) (filter has_staged_units (map (staged_units first acts l) (orders acts)))
      ∙ with_units (λ (u : StagedUnits). u.qty) (staged_units first acts l) (orders acts)

  shipped : total (λ (u : ShippedUnits). u.qty) (shipments_of_lot first acts l) ≡ in_shipments first acts l
  shipped =
      with_units (λ (u : ShippedUnits). u.qty) (shipped_units first acts l) (reverse (shipments first acts))
      ∙ reversed (λ (s : ShipmentRow). balance (is_shipment s.number) (is_lot l) (postings first acts)) (shipments first acts)

pub traces_conserved : TracesAreConserved
traces_conserved first acts item k history =
    omega (
      arith,
      conserved first acts k.lot history,
      of_kind first acts k.lot Receipt,
      of_kind first acts k.lot WriteOn,
      of_kind first acts k.lot WriteOff,
      binned first acts k.lot,
      staged first acts k.lot,
      shipped first acts k.lot,
    )
