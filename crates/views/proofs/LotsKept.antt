-- The lots that pass a test, in an order of them, by rows are those of the machine.
use Rattle.views.proofs.Words.{◌≡◌, Bool, true, List, [], ap, sym, subst, ◌∙◌, Option, Some, None, find, filter, map, option_map, LotId, in_order, LotRow, Act, is_lot, KnownLot, lots, lot_known, lot_row, AreRows, is_lot_is, is_lot_turned, same_known, lots_apart, IsOrder, goes_first, inserted, never_itself, AreRising, rising_inserted, rising_ordered, rising_kept, some_of_mapped, once_apart, is_behind, known_row, IsLotSeenLast}
use Rattle.row_rules.proofs.ByBoth.{goes_on}
use Rattle.views.proofs.LotsShown.{IsKnown, IsOwn, known_lot, came_apart, own_lot, row_either}
use Rattle.views.proofs.Members.{all_have}
use Rattle.views.proofs.Ranks.{IsEither, rank_either, are_ordered}
use Rattle.views.proofs.Sorting.{IsIn, in_map, of_map, in_filter, of_filter, found_in, in_ordered, of_ordered, in_inserted, of_inserted, same_rising, rising_map, once_kept}

module _ (acts : List Act) (before : LotRow → LotRow → Bool) (laws : IsOrder before) (either : (r s : LotRow) → IsEither (goes_first r s) (goes_first s r) → IsEither (before r s) (before s r)) where
  abbrev show : KnownLot → LotRow
  show = known_row acts

  abbrev goes_ahead : KnownLot → KnownLot → Bool
  goes_ahead k m = before (show k) (show m)

  abbrev in_turn : List KnownLot
  in_turn = in_order goes_ahead (lots acts)

  pub behind_same : (x : Option KnownLot) (s : Option LotRow) → IsLotSeenLast acts x s → (k : KnownLot) → is_behind before s (show k) ≡ is_behind goes_ahead x k
  behind_same None s is k = ap (λ (y : Option LotRow). is_behind before y (show k)) is
  behind_same (Some m) s is k = ap (λ (y : Option LotRow). is_behind before y (show k)) is.1

  further : (x y z : LotRow) → before x y ≡ true → before y z ≡ true → before x z ≡ true
  further = goes_on before laws

  lots_rise : AreRising goes_ahead in_turn
  lots_rise =
      rising_ordered goes_ahead (λ x y z. further (show x) (show y) (show z)) (lots acts)
      (are_ordered goes_ahead same_known (IsKnown acts)
      (λ k m e f other. either (show k) (show m) (rank_either k.expiry k.came m.expiry m.came (came_apart acts k m e f other))) (lots acts)
      (all_have (IsKnown acts) (lots acts) (known_lot acts)) (once_apart is_lot is_lot_is is_lot_turned (λ (k : KnownLot). k.lot) (lots acts) (lots_apart acts)))

  -- those that pass are among the rows that were read
  module _ (needed : LotId → Bool) (rows : List LotRow) (are : AreRows is_lot (λ (r : LotRow). r.lot) needed (λ l. true) (lot_row acts) rows)
      (keep : LotRow → Bool) (wanted : KnownLot → Bool) (same : (k : KnownLot) → keep (show k) ≡ wanted k) (needs : (k : KnownLot) → keep (show k) ≡ true → needed k.lot ≡ true) where
    abbrev machine_list : List KnownLot
    machine_list = filter wanted in_turn

    abbrev kept : List LotRow
    kept = filter keep rows

    abbrev row_list : List LotRow
    row_list = inserted before [] kept

    machine_rises : AreRising before (map show machine_list)
    machine_rises = rising_map goes_ahead before show (λ x y e. e) machine_list (rising_kept goes_ahead wanted in_turn lots_rise)

    own : (r : LotRow) → IsIn r kept → IsOwn acts needed rows are r
    own r h = own_lot acts needed rows are r (of_filter keep r rows h).0

    rows_rise : AreRising before row_list
    rows_rise =
        rising_inserted before further kept
        (are_ordered before (λ (r s : LotRow). is_lot r.lot s.lot) (IsOwn acts needed rows are)
        (λ r s e f other. either r s (row_either acts needed rows are r s e f other)) kept (all_have (IsOwn acts needed rows are) kept own)
        (once_kept (λ (r s : LotRow). is_lot r.lot s.lot) keep rows are.once))

    from_machine : (r : LotRow) → IsIn r (map show machine_list) → IsIn r row_list
    from_machine r h =
        let a = of_map show r machine_list h in
        let k : KnownLot = a.0 in
        let b = of_filter wanted k in_turn a.1 in
        let there : IsIn k (lots acts) = of_ordered goes_ahead k (lots acts) b.0 in
        let keeps : keep (show k) ≡ true = same k ∙ b.1 in
        let found : find (λ (s : LotRow). is_lot k.lot s.lot) rows ≡ Some (show k) = are.found k.lot (needs k keeps) ∙ ap (option_map show) (known_lot acts k there) in
        let in_rows = (found_in (λ (s : LotRow). is_lot k.lot s.lot) (show k) rows found).0 in
        subst (λ (x : LotRow). IsIn x row_list) (sym a.2) (in_inserted before (show k) kept (in_filter keep (show k) rows in_rows keeps))

    from_rows : (r : LotRow) → IsIn r row_list → IsIn r (map show machine_list)
    from_rows r h =
        let a = of_filter keep r rows (of_inserted before r kept h) in
        let x = some_of_mapped show (lot_known acts r.lot) r (own_lot acts needed rows are r a.0) in
        let k : KnownLot = x.0 in
        let there : IsIn k (lots acts) = (found_in (λ (m : KnownLot). is_lot r.lot m.lot) k (lots acts) x.1).0 in
        let want : wanted k ≡ true = sym (same k) ∙ ap keep x.2 ∙ a.1 in
        subst (λ (y : LotRow). IsIn y (map show machine_list)) x.2 (in_map show k machine_list (in_filter wanted k in_turn (in_ordered goes_ahead k (lots acts) there) want))

    pub lots_are : row_list ≡ map show machine_list
    lots_are = sym (same_rising before (never_itself before laws) further (map show machine_list) row_list machine_rises rows_rise from_machine from_rows)
