-- The trace of a lot beside its recall notice.
use Rattle.std.proofs.Common.{◌≡◌, ℕ, ◌+◌, Bool, true, false, not, ◌&&◌, ◌||◌, List, [], ◌∷◌, refl, ap, sym, ◌∙◌, arith, filter, map, reverse, ◌==◌, if◌then◌else◌, eq-eqb, eqb-true, Some, is_some, ℤ}
use Rattle.std.specs.List.{list_any}
use Rattle.values.specs.Values.{same_text}
use Rattle.values.specs.declared.lot.LotId.{LotId}
use Rattle.commands.specs.Lists.{total, in_order}
use Rattle.commands.specs.declared.command.Command.TheVariants.{Recall}
use Rattle.commands.specs.declared.command.NewBin.{NewBin}
use Rattle.commands.specs.declared.key.Key.{Key}
use Rattle.commands.specs.declared.rows.ShipmentRow.{ShipmentRow}
use Rattle.commands.specs.declared.views.BinUnits.{BinUnits}
use Rattle.commands.specs.declared.views.ShippedUnits.{ShippedUnits}
use Rattle.machine.specs.Acts.{Act, next_number}
use Rattle.machine.specs.KeyedRows.{same_cell}
use Rattle.machine.specs.Ledger.{postings}
use Rattle.machine.specs.Once.{IsHistory}
use Rattle.machine.specs.Planning.{in_bin, staged_of_lot}
use Rattle.machine.specs.Postings.{Place, Supplier, InBin, Stage, Shipped, WriteOff, balance, is_lot, is_shipment}
use Rattle.machine.specs.Standing.{KnownLot, Placed, RETURNS, bins, is_expired, is_held, is_recalled, is_shippable, least_expiry, lot_known, orders, recalling, shipments}
use Rattle.machine.specs.Views.{bins_of_lot, has_bin_units, has_shipped_units, shipped_units, shipments_of_lot, text_before}
use Rattle.machine.proofs.Apart.{AreApart, any_found}
use Rattle.machine.proofs.Tests.{is_lot_refl, is_lot_turned, or_none, same_text_is}
use Rattle.machine.proofs.histories.Cells.{holds}
use Rattle.machine.proofs.histories.KnownPlaces.{unknown_bin_is_empty}
use Rattle.machine.proofs.histories.KnownSums.{any_stage, stages_hold}
use Rattle.machine.proofs.histories.Notices.{bins_apart}
use Rattle.machine.proofs.histories.PlaceRows.{stage_cells}
use Rattle.machine.proofs.histories.StagedLots.{staged_lots_are_shippable}
use Rattle.machine.proofs.histories.UnshippableLots.{MakesUnshippable, in_bin_still, in_returns, kept, stages_of}
use Rattle.overviews.specs.Traces.{has_staged_units, staged_units, stages_of_lot}
use Rattle.overviews.specs.declared.trace.StagedUnits.{StagedUnits}
use Rattle.overviews.specs.TraceLaws.{TracesAgreeWithNotices, TracesForetellNotices, units_in}
use Rattle.overviews.proofs.TraceTotals.{ordered, staged as staged_total}

-- ---- nothing of a recalled lot is staged

module _ (first : ℤ) (acts : List Act) (k : KnownLot) (history : IsHistory first acts) (known : lot_known acts k.lot ≡ Some k) (recalled : is_recalled acts k.lot ≡ true) where
  not_shippable : is_shippable first acts k ≡ false
  not_shippable = ap (λ b. not (is_held acts k.lot) && not b && not (is_expired (least_expiry first acts k.lot.gtin) k.expiry)) recalled ∙ both (not (is_held acts k.lot)) (not (is_expired (least_expiry first acts k.lot.gtin) k.expiry))
    where
      both : (a b : Bool) → a && false && b ≡ false
      both true b = refl
      both false b = refl

  unstaged : (o : List ℕ) → (staged_of_lot first acts o k.lot == 0) ≡ true
  unstaged o = elim (staged_of_lot first acts o k.lot == 0) as (λ b. (staged_of_lot first acts o k.lot == 0) ≡ b → b ≡ true) [
    | true ↦ λ e. refl
    | false ↦ λ e.
        let h = staged_lots_are_shippable first acts o k.lot history (λ z. let f : true ≡ false = sym (eq-eqb _ 0 z) ∙ e in cc) in
        let same : h.0 ≡ k = some_is h.0 k (sym h.1 ∙ known) in
        let f : true ≡ false = sym h.2 ∙ ap (is_shippable first acts) same ∙ not_shippable in
        cc
  ] refl
    where
      some_is : (x y : KnownLot) → Some x ≡ Some y → x ≡ y
      some_is x y e = cc

  none_staged : (ps : List Placed) → filter has_staged_units (map (staged_units first acts k.lot) ps) ≡ []
  none_staged [] = refl
  none_staged (p ∷ ps) = ap (λ b. if not b then staged_units first acts k.lot p ∷ filter has_staged_units (map (staged_units first acts k.lot) ps) else filter has_staged_units (map (staged_units first acts k.lot) ps)) (unstaged p.order) ∙ none_staged ps

  pub empty : stages_of_lot first acts k.lot ≡ []
  empty = ap (in_order (λ (a b : StagedUnits). text_before a.order b.order)) (none_staged (orders acts))

pub traces_agree : TracesAgreeWithNotices
traces_agree first acts item k history known recalled = record { bins = refl; shipments = refl; staged = empty first acts k history known recalled }

-- ---- what a list of bins shows in one

module _ (first : ℤ) (acts : List Act) (l : LotId) (b : List ℕ) where
  abbrev at : BinUnits → ℕ
  at u = if same_text b u.bin then u.qty else 0

  abbrev made : NewBin → BinUnits
  made x = record { bin = x.bin; qty = in_bin first acts x.bin l }

  at_none : (t : Bool) → (let q : ℕ = if t then 0 else 0 in q ≡ 0)
  at_none true = refl
  at_none false = refl

  with_units : (xs : List NewBin) → total at (filter has_bin_units (map made xs)) ≡ total (λ x. at (made x)) xs
  with_units [] = refl
  with_units (x ∷ xs) =
      elim (in_bin first acts x.bin l == 0) as (λ t. (in_bin first acts x.bin l == 0) ≡ t → total at (if not t then made x ∷ filter has_bin_units (map made xs) else filter has_bin_units (map made xs)) ≡ at (made x) + total (λ x. at (made x)) xs) [
        | true ↦ λ e. let none : at (made x) ≡ 0 = ap (λ q. if same_text b x.bin then q else 0) (eqb-true (in_bin first acts x.bin l) 0 e) ∙ at_none (same_text b x.bin) in omega (arith, with_units xs, none)
        | false ↦ λ e. omega (arith, with_units xs)
      ] refl

  at_other : (xs : List NewBin) → list_any (λ (x : NewBin). same_text b x.bin) xs ≡ false → total (λ x. at (made x)) xs ≡ 0
  at_other [] none = refl
  at_other (x ∷ xs) none =
      let two = or_none (same_text b x.bin) (list_any (λ (x : NewBin). same_text b x.bin) xs) none in
      let off : at (made x) ≡ 0 = ap (λ t. if t then in_bin first acts x.bin l else 0) two.0 in
      omega (arith, off, at_other xs two.1)

  at_one : (xs : List NewBin) → AreApart (λ (x y : NewBin). same_text x.bin y.bin) xs → total (λ x. at (made x)) xs ≡ (if list_any (λ (x : NewBin). same_text b x.bin) xs then in_bin first acts b l else 0)
  at_one [] apart = refl
  at_one (x ∷ xs) apart =
      elim (same_text b x.bin) as (λ t. same_text b x.bin ≡ t → (if t then in_bin first acts x.bin l else 0) + total (λ x. at (made x)) xs ≡ (if t || list_any (λ (x : NewBin). same_text b x.bin) xs then in_bin first acts b l else 0)) [
        | true ↦ λ e.
            let name : b ≡ x.bin = same_text_is b x.bin e in
            let none : list_any (λ (y : NewBin). same_text b y.bin) xs ≡ false = ap (λ n. list_any (λ (y : NewBin). same_text n y.bin) xs) name ∙ apart.0 in
            let own : in_bin first acts x.bin l ≡ in_bin first acts b l = ap (λ n. in_bin first acts n l) (sym name) in
            omega (arith, at_other xs none, own)
        | false ↦ λ e. omega (arith, at_one xs apart.1)
      ] refl

  pub units_are : IsHistory first acts → units_in b (bins_of_lot first acts l) ≡ in_bin first acts b l
  units_are history =
      ordered at (λ (u v : BinUnits). text_before u.bin v.bin) (filter has_bin_units (map made (bins acts))) ∙ with_units (bins acts) ∙ at_one (bins acts) (bins_apart first acts history)
      ∙ elim (list_any (λ (x : NewBin). same_text b x.bin) (bins acts)) as (λ t. list_any (λ (x : NewBin). same_text b x.bin) (bins acts) ≡ t → (if t then in_bin first acts b l else 0) ≡ in_bin first acts b l) [
        | true ↦ λ e. refl
        | false ↦ λ e. sym (unknown_bin_is_empty first acts history b (is_lot l) (any_found (λ (x : NewBin). same_text b x.bin) (bins acts) ∙ e))
      ] refl

-- ---- the recall

module _ (first : ℤ) (acts : List Act) (key : Key) (l : LotId) (next : IsHistory first (record { key = key; command = Recall l } ∷ acts)) where
  abbrev act : Act
  act = record { key = key; command = Recall l }

  abbrev after : List Act
  after = act ∷ acts

  recalled_is : (m : LotId) → is_recalled after m ≡ (if is_lot m l then true else is_recalled acts m)
  recalled_is m = elim (is_lot m l) as (λ b. is_some (if b then Some (record { lot = l; act = next_number acts }) else recalling acts m) ≡ (if b then true else is_recalled acts m)) [ true ↦ refl | false ↦ refl ]

  and_false : (a : Bool) → a && false ≡ false
  and_false true = refl
  and_false false = refl

  makes : MakesUnshippable first acts act l
  makes = record {
    posts = refl;
    itself = λ k e.
        ap (λ b. not (is_held acts k.lot) && not b && not (is_expired (least_expiry first acts k.lot.gtin) k.expiry)) (recalled_is k.lot ∙ ap (λ t. if t then true else is_recalled acts k.lot) (is_lot_turned k.lot l ∙ e))
        ∙ ap (λ b. b && not (is_expired (least_expiry first acts k.lot.gtin) k.expiry)) (and_false (not (is_held acts k.lot)));
    others = λ k e. ap (λ b. not (is_held acts k.lot) && not b && not (is_expired (least_expiry first acts k.lot.gtin) k.expiry)) (recalled_is k.lot ∙ ap (λ t. if t then true else is_recalled acts k.lot) (is_lot_turned k.lot l ∙ e));
    same_orders = refl;
    same_cancels = refl;
    same_bins = refl;
  }

  same_shipped : (n : ℕ) → balance (is_shipment n) (is_lot l) (postings first after) ≡ balance (is_shipment n) (is_lot l) (postings first acts)
  same_shipped n = kept first acts act l makes next (λ p m. is_shipment n p && is_lot l m) (λ o. refl)

  each_shipped : (rows : List ShipmentRow) → map (shipped_units first after l) rows ≡ map (shipped_units first acts l) rows
  each_shipped [] = refl
  each_shipped (s ∷ rows) = λ i. (let one : ShippedUnits = record (shipped_units first acts l s) { qty = same_shipped s.number i } in one) ∷ each_shipped rows i

  pub shipments_are : shipments_of_lot first after l ≡ shipments_of_lot first acts l
  shipments_are = ap (filter has_shipped_units) (each_shipped (reverse (shipments first acts)))

  on_stage : (p : Place) (m : LotId) → any_stage p && is_lot l m ≡ stage_cells (λ m o. is_lot l m) p m
  on_stage (Stage o) m = refl
  on_stage Supplier m = refl
  on_stage (InBin b) m = refl
  on_stage WriteOff m = refl
  on_stage (Shipped n o) m = refl

  all_staged : holds (stages_of l) (postings first acts) ≡ total (λ (u : StagedUnits). u.qty) (stages_of_lot first acts l)
  all_staged = sym (λ i. holds (λ p m. on_stage p m i) (postings first acts)) ∙ stages_hold first acts next.0 l ∙ sym (staged_total first acts l)

  in_each : (b : List ℕ) → in_bin first after b l ≡ in_bin first acts b l + (if same_text b RETURNS then total (λ (u : StagedUnits). u.qty) (stages_of_lot first acts l) else 0)
  in_each b =
      elim (same_text b RETURNS) as (λ t. same_text b RETURNS ≡ t → in_bin first after b l ≡ in_bin first acts b l + (if t then total (λ (u : StagedUnits). u.qty) (stages_of_lot first acts l) else 0)) [
        | true ↦ λ e.
            let name : b ≡ RETURNS = same_text_is b RETURNS e in
            let after_is : in_bin first after b l ≡ in_bin first after RETURNS l = ap (λ n. in_bin first after n l) name in
            let before_is : in_bin first acts b l ≡ in_bin first acts RETURNS l = ap (λ n. in_bin first acts n l) name in
            omega (arith, after_is, before_is, in_returns first acts act l makes next, all_staged)
        | false ↦ λ e.
            let other : same_cell (l, b) (l, RETURNS) ≡ false = (λ i. is_lot_refl l i && e i) in
            omega (arith, in_bin_still first acts act l makes next b l other)
      ] refl

  pub bins_are : (b : List ℕ) → units_in b (bins_of_lot first after l) ≡ units_in b (bins_of_lot first acts l) + (if same_text b RETURNS then total (λ (u : StagedUnits). u.qty) (stages_of_lot first acts l) else 0)
  bins_are b = omega (arith, units_are first after l b next, units_are first acts l b next.0, in_each b)

pub traces_foretell : TracesForetellNotices
traces_foretell first acts item k key next = record { shipments = shipments_are first acts key k.lot next; bins = bins_are first acts key k.lot next }
