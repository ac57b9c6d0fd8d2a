-- The staged rows of a lot, by the names of their orders, are the stages of the lot.
use Rattle.queries.proofs.Words.{◌≡◌, ℕ, Bool, true, false, ◌&&◌, not, if◌then◌else◌, List, [], ◌∷◌, refl, ap, sym, subst, ◌∙◌, inl, inr, ◌==◌, ℤ, Option, Some, None, find, filter, map, option_map, is_some, list_any, same_text, LotId, Tables, OrderRow, StagedRow, Act, is_lot, Placed, orders, order_named, order_state, staged_of_lot, tables_of, IsHistory, AreRows, OrderKey, same_order, order_key, same_order_placed, StagedKey, same_staged, staged_key, same_text_is, same_text_refl, same_text_turned, is_lot_is, is_lot_refl, same_Some, has_key, has_keys, once_keys, no_two, same_share_is, same_share_refl, rows_read, rows_as, keys_read}
use Rattle.std.proofs.Common.{eq-eqb}
use Rattle.machine.specs.KeyedRows.{same_share}
use Rattle.machine.specs.Standing.{has_order}
use Rattle.machine.specs.Tables.{if_any, order_row, staged_row}
use Rattle.machine.proofs.histories.KnownPlaces.{unknown_order_is_unstaged}
use Rattle.machine.proofs.histories.Orders.{orders_apart, orders_found}
use Rattle.row_rules.specs.Plans.{inserted}
use Rattle.rules.proofs.rows.Ordering.{AreRising, rising_inserted, rising_ordered, ordered_kept}
use Rattle.rules.proofs.rows.Telling.{once_apart}
use Rattle.views.proofs.Sorting.{IsIn, in_map, of_map, in_filter, of_filter, found_in, in_any, in_ordered, of_ordered, in_inserted, of_inserted, same_rising, ordered_map, rising_map, once_kept}
use Rattle.views.proofs.Ranks.{IsEither, text_strict, text_further, text_either, are_ordered}
use Rattle.views.proofs.Members.{all_have, own_row, some_row, has_units, member_found}
use Rattle.overviews.specs.Traces.{staged_units, has_staged_units, stages_of_lot}
use Rattle.overviews.specs.declared.trace.StagedUnits.{StagedUnits}
use Rattle.machine.specs.Views.{text_before}
use Rattle.queries.specs.Telling.{EachTells}
use Rattle.queries.specs.Traced.{order_before, orders_staged, IsStaged, AreStages}

module _ (first : ℤ) (acts : List Act) (history : IsHistory first acts) (l : LotId) where
  abbrev line : Placed → StagedUnits
  line = staged_units first acts l

  abbrev stages : List StagedUnits
  stages = stages_of_lot first acts l

  abbrev stage_before : StagedUnits → StagedUnits → Bool
  stage_before a b = text_before a.order b.order

  abbrev row_of : StagedUnits → StagedRow
  row_of u = record { order = u.order; lot = l; qty = u.qty }

  abbrev IsAny : Placed → Type 0
  IsAny p = Unit {0}

  stages_rise : AreRising stage_before stages
  stages_rise =
      rising_ordered stage_before (λ x y z e f. text_further x.order y.order z.order e f) (filter has_staged_units (map line (orders acts)))
      (ordered_kept stage_before has_staged_units (map line (orders acts)) (ordered_map stage_before line (orders acts)
      (are_ordered (λ (p q : Placed). stage_before (line p) (line q)) (λ (p q : Placed). same_text p.order q.order) IsAny (λ p q e f other. text_either p.order q.order other) (orders acts)
      (all_have IsAny (orders acts) (λ p h. tt)) (once_apart same_text same_text_is same_text_turned (λ (p : Placed). p.order) (orders acts) (orders_apart first acts history)))))

  named_order : (x : Option Placed) → is_some x ≡ true → (p : Placed) × (x ≡ Some p)
  named_order None e = let f : false ≡ true = e in cc
  named_order (Some p) e = (p, refl)

  not_true : (b : Bool) → not b ≡ true → b ≡ false
  not_true true e = let f : false ≡ true = e in cc
  not_true false e = refl

  -- an order for which units of the lot are staged is known
  known_order : (o : List ℕ) → not (staged_of_lot first acts o l == 0) ≡ true → has_order acts o ≡ true
  known_order o e =
      elim (has_order acts o) as (λ t. has_order acts o ≡ t → t ≡ true) [
        | true ↦ λ f. refl
        | false ↦ λ f.
            let none : (staged_of_lot first acts o l == 0) ≡ true = eq-eqb (staged_of_lot first acts o l) 0 (unknown_order_is_unstaged first acts history o (is_lot l) f) in
            let some : (staged_of_lot first acts o l == 0) ≡ false = not_true (staged_of_lot first acts o l == 0) e in
            let no : true ≡ false = sym none ∙ some in
            cc
      ] refl

  first_false : (a b : Bool) → b ≡ true → a && b ≡ false → a ≡ false
  first_false true b e f = sym e ∙ f
  first_false false b e f = refl

  module _ (all : List StagedRow) (are : AreRows same_share (λ (r : StagedRow). (r.order, r.lot)) (λ k. same_text l.gtin k.1.gtin) (λ k. true) (λ k. staged_row first acts k.0 k.1) all) where
    abbrev is_own : StagedRow → Bool
    is_own r = is_lot l r.lot

    abbrev kept : List StagedRow
    kept = filter is_own all

    abbrev sorted : List StagedRow
    sorted = inserted order_before [] kept

    abbrev IsOfLot : StagedRow → Type 0
    IsOfLot r = l ≡ r.lot

    abbrev same_row : StagedRow → StagedRow → Bool
    same_row r s = same_share (r.order, r.lot) (s.order, s.lot)

    of_lot : (r : StagedRow) → IsIn r kept → IsOfLot r
    of_lot r h = is_lot_is l r.lot (of_filter is_own r all h).1

    row_either : (r s : StagedRow) → IsOfLot r → IsOfLot s → same_row r s ≡ false → IsEither (order_before r s) (order_before s r)
    row_either r s e f other =
        let one : is_lot r.lot s.lot ≡ true = ap (is_lot r.lot) (sym f ∙ e) ∙ is_lot_refl r.lot in
        text_either r.order s.order (first_false (same_text r.order s.order) (is_lot r.lot s.lot) one other)

    rows_rise : AreRising order_before sorted
    rows_rise =
        rising_inserted order_before (λ x y z e f. text_further x.order y.order z.order e f) kept
        (are_ordered order_before same_row IsOfLot row_either kept (all_have IsOfLot kept of_lot) (once_kept same_row is_own all are.once))

    -- each stage is among the rows
    from_stages : (r : StagedRow) → IsIn r (map row_of stages) → IsIn r sorted
    from_stages r h =
        let a = of_map row_of r stages h in
        let b = of_filter has_staged_units a.0 (map line (orders acts)) (of_ordered stage_before a.0 (filter has_staged_units (map line (orders acts))) a.1) in
        let c = of_map line a.0 (orders acts) b.0 in
        let o : List ℕ = c.0.order in
        let q : ℕ = staged_of_lot first acts o l in
        let row : StagedRow = record { order = o; lot = l; qty = q } in
        let some : not (q == 0) ≡ true = ap has_staged_units (sym c.2) ∙ b.1 in
        let found = are.found (o, l) (same_text_refl l.gtin) ∙ some_row q row some in
        let d = found_in (λ (s : StagedRow). same_share (o, l) (s.order, s.lot)) row all found in
        subst (λ (x : StagedRow). IsIn x sorted) (sym (a.2 ∙ ap row_of c.2)) (in_inserted order_before row kept (in_filter is_own row all d.0 (is_lot_refl l)))

    -- and each row of the lot is a stage
    from_rows : (r : StagedRow) → IsIn r sorted → IsIn r (map row_of stages)
    from_rows r h =
        let a = of_inserted order_before r kept h in
        let b = of_filter is_own r all a in
        let own : l ≡ r.lot = of_lot r a in
        let q : ℕ = staged_of_lot first acts r.order r.lot in
        let row : staged_row first acts r.order r.lot ≡ Some r = own_row (λ (s : StagedRow). (s.order, s.lot)) (λ (k : List ℕ × LotId). true) (λ (k : List ℕ × LotId). staged_row first acts k.0 k.1) all are.own r b.0 in
        let same : q ≡ r.qty = any_qty q (record { order = r.order; lot = r.lot; qty = q }) refl row in
        let units : not (q == 0) ≡ true = has_units q (record { order = r.order; lot = r.lot; qty = q }) r row in
        let there : not (staged_of_lot first acts r.order l == 0) ≡ true = ap (λ (m : LotId). not (staged_of_lot first acts r.order m == 0)) own ∙ units in
        let x = named_order (order_named acts r.order) (known_order r.order there) in
        let c = found_in (λ (p : Placed). same_text r.order p.order) x.0 (orders acts) x.1 in
        let name : r.order ≡ x.0.order = same_text_is r.order x.0.order c.1 in
        let as_row : row_of (line x.0) ≡ r = (λ i. record { order = sym name i; lot = own i; qty = ((λ j. staged_of_lot first acts (sym name j) (own j)) ∙ same) i }) in
        let some : has_staged_units (line x.0) ≡ true = (λ i. not (staged_of_lot first acts (sym name i) l == 0)) ∙ there in
        subst (λ (z : StagedRow). IsIn z (map row_of stages)) as_row
        (in_map row_of (line x.0) stages (in_ordered stage_before (line x.0) (filter has_staged_units (map line (orders acts)))
        (in_filter has_staged_units (line x.0) (map line (orders acts)) (in_map line x.0 (orders acts) c.0) some)))
      where
        any_qty : (q : ℕ) (x : StagedRow) → x.qty ≡ q → if_any q x ≡ Some r → q ≡ r.qty
        any_qty q x is e =
            elim (q == 0) as (λ b. (if b then None else Some x) ≡ Some r → q ≡ r.qty) [
              | true ↦ λ f. absurd (let no : ◌≡◌ {A = Option StagedRow} None (Some r) = f in cc)
              | false ↦ λ f. sym is ∙ ap (λ (s : StagedRow). s.qty) (same_Some x r f)
            ] e

    pub sorted_is : sorted ≡ map row_of stages
    sorted_is =
        sym (same_rising order_before (λ r. text_strict r.order) (λ x y z e f. text_further x.order y.order z.order e f) (map row_of stages) sorted
        (rising_map stage_before order_before row_of (λ x y e. e) stages stages_rise) rows_rise from_stages from_rows)

    -- The orders

    module _ (order_rows : List OrderRow)
        (orders_are : AreRows same_text (λ (r : OrderRow). r.order) (λ o. list_any (λ (r : StagedRow). same_text o r.order) kept) (λ o. true) (order_row first acts) order_rows) where
      one_stage : (u : StagedUnits) → IsIn u stages → IsStaged order_rows (row_of u) u
      one_stage u h =
          let b = of_filter has_staged_units u (map line (orders acts)) (of_ordered stage_before u (filter has_staged_units (map line (orders acts))) h) in
          let c = of_map line u (orders acts) b.0 in
          let p : Placed = c.0 in
          let name : u.order ≡ p.order = ap (λ (v : StagedUnits). v.order) c.2 in
          let named : order_named acts p.order ≡ Some p = member_found same_order_placed (orders acts) (orders acts) (orders_found first acts history) p c.1 in
          let row : OrderRow = record { order = p.order; act = p.act; customer = p.customer; state = order_state first acts p.order } in
          let there : IsIn (row_of u) kept = of_inserted order_before (row_of u) kept (from_stages (row_of u) (in_map row_of u stages h)) in
          let wanted : list_any (λ (r : StagedRow). same_text u.order r.order) kept ≡ true = in_any (λ (r : StagedRow). same_text u.order r.order) (row_of u) kept there (same_text_refl u.order) in
          let found : find (λ (r : OrderRow). same_text u.order r.order) order_rows ≡ Some row = orders_are.found u.order wanted ∙ ap (order_row first acts) name ∙ ap (option_map shown_order) named in
          (row, found, c.2 ∙ (λ i. record { customer = p.customer; order = sym name i; qty = (ap (λ (v : StagedUnits). v.qty) (sym c.2)) i }))
        where
          shown_order : Placed → OrderRow
          shown_order p = record { order = p.order; act = p.act; customer = p.customer; state = order_state first acts p.order }

      each_stage : (us : List StagedUnits) → ((u : StagedUnits) → IsIn u us → IsIn u stages) → EachTells (IsStaged order_rows) (map row_of us) us
      each_stage [] h = tt
      each_stage (u ∷ us) h = (one_stage u (h u (inl refl)), each_stage us (λ v m. h v (inr m)))

      pub stages_told : EachTells (IsStaged order_rows) sorted stages
      stages_told = subst (λ (rs : List StagedRow). EachTells (IsStaged order_rows) rs stages) (sym sorted_is) (each_stage stages (λ u m. m))

  -- From what is read

  pub stages_right : (staged : List StagedRow) (order_rows : List OrderRow) → AreStages l (tables_of first acts) staged order_rows → EachTells (IsStaged order_rows) (inserted order_before [] staged) stages
  unfolding tables_of
  stages_right staged order_rows are =
      let t : Tables = tables_of first acts in
      let all_are = rows_as {K = StagedKey} same_staged staged_key same_share_is same_share_refl (λ k. same_text l.gtin k.1.gtin) (λ k. same_text l.gtin k.1.gtin) (λ k. same_text l.gtin k.1.gtin) (λ k. true) (λ k. t.staged k.0 k.1) are.all (λ k e. e) (λ k e. refl)
      (rows_read {K = StagedKey} same_staged staged_key same_share_is same_share_refl (λ k. same_text l.gtin k.1.gtin) (λ k. t.staged k.0 k.1) are.all are.of_item) in
      let wanted : List ℕ → Bool = λ o. list_any (λ (r : StagedRow). same_text o r.order) staged in
      let told : (o : List ℕ) → has_key same_text (orders_staged staged) o ≡ wanted o = λ o. has_keys same_text same_text_is same_text_turned (λ (r : StagedRow). r.order) staged [] o in
      let once : no_two same_text (orders_staged staged) ≡ true = once_keys same_text same_text_is same_text_turned (λ (r : StagedRow). r.order) staged [] refl in
      let orders_are = rows_as {K = OrderKey} same_order order_key same_text_is same_text_refl wanted wanted wanted (λ o. true) t.order order_rows (λ o e. e) (λ o e. refl)
      (keys_read same_text same_text_is same_text_turned {K = OrderKey} same_order order_key same_text_is same_text_refl (λ k. k) t.order (orders_staged staged) wanted order_rows once told are.their_orders) in
      subst (λ (rs : List StagedRow). EachTells (IsStaged order_rows) (inserted order_before [] rs) stages) (sym are.own)
      (stages_told are.all all_are order_rows (subst (λ (rs : List StagedRow). AreRows same_text (λ (r : OrderRow). r.order) (λ o. list_any (λ (r : StagedRow). same_text o r.order) rs) (λ o. true) (order_row first acts) order_rows) are.own orders_are))
