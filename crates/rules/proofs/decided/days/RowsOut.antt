-- The rows of a slice after an act that says from which expiry on lots ship: what was staged of the lots that are out stands in RETURNS.
use Rattle.rules.proofs.Words.{◌≡◌, ℕ, ◌+◌, Bool, true, false, ◌&&◌, not, List, [], ◌∷◌, ◌++◌, refl, ap, sym, subst, ◌∙◌, arith, ◌==◌, ◌||◌, if◌then◌else◌, Option, Some, None, find, filter, flat_map, is_some, option_map, ℤ, list_any, list_any-append, same_text, LotId, total, NewBin, BinRow, LeastRow, LotRow, StockRow, StagedRow, OrderRow, LineRow, Act, is_lot, of_item, RETURNS, KnownLot, Recalling, has_line, says_held, postings, in_bin, is_open, IsHistory, tables_of, if_any, bin_row, lot_row, recall_row, stock_row, order_row, line_row, staged_row, is_touched, AreRows, OrderLot, no_two, same_cell, same_line, same_share, IsSlice, changed, unless_put, lot_seen, is_past_row, earliest_seen, stock_put, is_share_of, staged_of_seen, units_in_returns, returned_put, returns_bin_row, bins_with_returns, is_out, gtins_seen, staged_kept_on, staged_gone_on, lot_returned_on, stock_returned, stands_in, stock_on, reserved_put_on, reserved_gone_on, Slice, and_both, and_false, or_none, is_zero, not_true, same_text_refl, same_text_is, is_lot_is, is_lot_item, is_lot_refl, any_found, holds, legal_history, returns_named, staged_holds, stages_of, rows_on}
use Rattle.rules.proofs.rows.AfterRows.{loosened}
use Rattle.rules.proofs.rows.TableSteps.{AreNamed}
use Rattle.rules.proofs.rows.replanned.EachItem.{items_replanned, items_put_once}
use Rattle.rules.proofs.rows.AddedRows.{find_appended}
use Rattle.rules.proofs.rows.DemandsTold.{TellsDemands}
use Rattle.rules.proofs.rows.DroppedRows.{rows_left, dropped_at}
use Rattle.rules.proofs.rows.FoundRows.{there_found}
use Rattle.rules.proofs.rows.LotTold.{in_bin_told}
use Rattle.rules.proofs.rows.LotUnits.{bin_within_limit}
use Rattle.rules.proofs.rows.Planned.{no_pick}
use Rattle.rules.proofs.rows.PutRows.{rows_over}
use Rattle.rules.proofs.rows.ReturnedRows.{still_some}
use Rattle.rules.proofs.rows.SameKeys.{same_share_is, same_cell_is, same_cell_refl, same_cell_turned}
use Rattle.rules.proofs.rows.SliceDemands.{staged_touched, slice_tells_demands}
use Rattle.rules.proofs.rows.SliceSupplies.{slice_tells_supplies}
use Rattle.rules.proofs.rows.StockChanged.{any_kept}
use Rattle.rules.proofs.rows.SuppliesTold.{TellsSupplies, in_stock}
use Rattle.rules.proofs.rows.ClassesTold.{same_urgents}
use Rattle.rules.proofs.rows.LeavingLots.{MakesThemUnshippable, unstaged, staged_still, in_bin_still, in_returns, open_still, line_still, order_row_still, line_row_still}
use Rattle.rules.proofs.decided.days.LotsOut.{SaysWhenLotsShip, TellsWhenLotsShip, out_touched, makes, items_apart, items_told}

again : {X : Type 0} (x : Option X) (b : Bool) → unless_put x false (if b then x else None) ≡ x
again (Some a) b = refl
again None true = refl
again None false = refl

nothing : {X : Type 0} (b : Bool) → ◌≡◌ {A = Option X} (if b then None else None) None
nothing true = refl
nothing false = refl

-- The stock rows put, lot after lot

module _ (s : Slice) (day : ℤ) (least : List LeastRow) where
  abbrev at_cell : LotId → List ℕ → StockRow → Bool
  at_cell m b r = is_lot m r.lot && same_text b r.bin

  abbrev put_of : LotId → List StockRow
  put_of m = if is_out s day least m then returned_put s m else []

  abbrev row_put : LotId → StockRow
  row_put l = record { lot = l; bin = RETURNS; qty = units_in_returns s l }

  of_other : (m : LotId) (b : List ℕ) (k : LotRow) → is_lot m k.lot ≡ false → find (at_cell m b) (lot_returned_on s day least k) ≡ None
  of_other m b k e = elim (is_out s day least k.lot) as (λ t. find (at_cell m b) (if t then returned_put s k.lot else []) ≡ None) [
    | true ↦ elim (staged_of_seen s k.lot == 0) as (λ t. find (at_cell m b) (if t then [] else stock_put k.lot RETURNS (units_in_returns s k.lot)) ≡ None) [
      | true ↦ refl
      | false ↦ elim (units_in_returns s k.lot == 0) as (λ t. find (at_cell m b) (if t then [] else row_put k.lot ∷ []) ≡ None) [
        | true ↦ refl
        | false ↦ ap (λ c. if c && same_text b RETURNS then Some (row_put k.lot) else None) e
      ]
    ]
    | false ↦ refl
  ]

  found_put : (m : LotId) (b : List ℕ) (ks : List LotRow) → find (at_cell m b) (flat_map (lot_returned_on s day least) ks) ≡ (if list_any (λ (k : LotRow). is_lot m k.lot) ks then find (at_cell m b) (put_of m) else None)
  found_put m b [] = refl
  found_put m b (k ∷ ks) =
      find_appended (at_cell m b) (lot_returned_on s day least k) (flat_map (lot_returned_on s day least) ks) ∙ ap (unless_put (find (at_cell m b) (lot_returned_on s day least k)) false) (found_put m b ks)
      ∙ elim (is_lot m k.lot) as (λ c. is_lot m k.lot ≡ c → unless_put (find (at_cell m b) (lot_returned_on s day least k)) false rest ≡ (if c || list_any (λ (k : LotRow). is_lot m k.lot) ks then find (at_cell m b) (put_of m) else None)) [
        | true ↦ λ c. ap (λ (x : LotId). unless_put (find (at_cell m b) (put_of x)) false rest) (sym (is_lot_is m k.lot c)) ∙ again (find (at_cell m b) (put_of m)) (list_any (λ (k : LotRow). is_lot m k.lot) ks)
        | false ↦ λ c. ap (λ x. unless_put x false rest) (of_other m b k c)
      ] refl
    where
      rest : Option StockRow
      rest = if list_any (λ (k : LotRow). is_lot m k.lot) ks then find (at_cell m b) (put_of m) else None

  abbrev alike : StockRow → StockRow → Bool
  alike a b = is_lot a.lot b.lot && same_text a.bin b.bin

  one_apart : (k : LotRow) (ks : List LotRow) → list_any (λ (m : LotRow). is_lot k.lot m.lot) ks ≡ false → no_two alike (flat_map (lot_returned_on s day least) ks) ≡ true → no_two alike (lot_returned_on s day least k ++ flat_map (lot_returned_on s day least) ks) ≡ true
  one_apart k ks new rest = elim (is_out s day least k.lot) as (λ t. no_two alike ((if t then returned_put s k.lot else []) ++ flat_map (lot_returned_on s day least) ks) ≡ true) [
    | true ↦ elim (staged_of_seen s k.lot == 0) as (λ t. no_two alike ((if t then [] else stock_put k.lot RETURNS (units_in_returns s k.lot)) ++ flat_map (lot_returned_on s day least) ks) ≡ true) [
      | true ↦ rest
      | false ↦ elim (units_in_returns s k.lot == 0) as (λ t. no_two alike ((if t then [] else row_put k.lot ∷ []) ++ flat_map (lot_returned_on s day least) ks) ≡ true) [
        | true ↦ rest
        | false ↦ (λ i. not (none i) && rest i)
      ]
    ]
    | false ↦ rest
  ]
    where
      none : list_any (at_cell k.lot RETURNS) (flat_map (lot_returned_on s day least) ks) ≡ false
      none = sym (any_found (at_cell k.lot RETURNS) (flat_map (lot_returned_on s day least) ks)) ∙ ap is_some (found_put k.lot RETURNS ks ∙ ap (λ c. if c then find (at_cell k.lot RETURNS) (put_of k.lot) else None) new)

  put_apart : (ks : List LotRow) → no_two (λ (k m : LotRow). is_lot k.lot m.lot) ks ≡ true → no_two alike (flat_map (lot_returned_on s day least) ks) ≡ true
  put_apart [] e = refl
  put_apart (k ∷ ks) e =
      let two = and_both (not (list_any (λ (m : LotRow). is_lot k.lot m.lot) ks)) (no_two (λ (k m : LotRow). is_lot k.lot m.lot) ks) e in
      one_apart k ks (not_true _ two.0) (put_apart ks two.1)

  -- they stand in RETURNS
  no_other_bin : (b : List ℕ) → same_text b RETURNS ≡ false → (ks : List LotRow) → list_any (λ (r : StockRow). same_text b r.bin) (flat_map (lot_returned_on s day least) ks) ≡ false
  no_other_bin b e [] = refl
  no_other_bin b e (k ∷ ks) =
      list_any-append (λ (r : StockRow). same_text b r.bin) (lot_returned_on s day least k) (flat_map (lot_returned_on s day least) ks) ∙ (λ i. own i || no_other_bin b e ks i)
    where
      own : list_any (λ (r : StockRow). same_text b r.bin) (lot_returned_on s day least k) ≡ false
      own = elim (is_out s day least k.lot) as (λ t. list_any (λ (r : StockRow). same_text b r.bin) (if t then returned_put s k.lot else []) ≡ false) [
        | true ↦ elim (staged_of_seen s k.lot == 0) as (λ t. list_any (λ (r : StockRow). same_text b r.bin) (if t then [] else stock_put k.lot RETURNS (units_in_returns s k.lot)) ≡ false) [
          | true ↦ refl
          | false ↦ elim (units_in_returns s k.lot == 0) as (λ t. list_any (λ (r : StockRow). same_text b r.bin) (if t then [] else row_put k.lot ∷ []) ≡ false) [
            | true ↦ refl
            | false ↦ ap (λ c. c || false) e
          ]
        ]
        | false ↦ refl
      ]

  -- and are of lots of the slice
  no_other_lot : (m : LotId) (ks : List LotRow) → list_any (λ (k : LotRow). is_lot m k.lot) ks ≡ false → list_any (λ (r : StockRow). is_lot m r.lot) (flat_map (lot_returned_on s day least) ks) ≡ false
  no_other_lot m [] e = refl
  no_other_lot m (k ∷ ks) e =
      list_any-append (λ (r : StockRow). is_lot m r.lot) (lot_returned_on s day least k) (flat_map (lot_returned_on s day least) ks) ∙ (λ i. own i || no_other_lot m ks two.1 i)
    where
      two : (is_lot m k.lot ≡ false) × (list_any (λ (k : LotRow). is_lot m k.lot) ks ≡ false)
      two = or_none (is_lot m k.lot) (list_any (λ (k : LotRow). is_lot m k.lot) ks) e

      own : list_any (λ (r : StockRow). is_lot m r.lot) (lot_returned_on s day least k) ≡ false
      own = elim (is_out s day least k.lot) as (λ t. list_any (λ (r : StockRow). is_lot m r.lot) (if t then returned_put s k.lot else []) ≡ false) [
        | true ↦ elim (staged_of_seen s k.lot == 0) as (λ t. list_any (λ (r : StockRow). is_lot m r.lot) (if t then [] else stock_put k.lot RETURNS (units_in_returns s k.lot)) ≡ false) [
          | true ↦ refl
          | false ↦ elim (units_in_returns s k.lot == 0) as (λ t. list_any (λ (r : StockRow). is_lot m r.lot) (if t then [] else row_put k.lot ∷ []) ≡ false) [
            | true ↦ refl
            | false ↦ ap (λ c. c || false) two.0
          ]
        ]
        | false ↦ refl
      ]

  is_seen : (m : LotId) → is_out s day least m ≡ true → list_any (λ (k : LotRow). is_lot m k.lot) s.rows.lots ≡ true
  is_seen m e = sym (any_found (λ (k : LotRow). is_lot m k.lot) s.rows.lots) ∙ by_row (lot_seen s m) e
    where
      by_row : (x : Option LotRow) → is_past_row x (earliest_seen day least m.gtin) ≡ true → is_some x ≡ true
      by_row None f = f
      by_row (Some r) f = refl

module _ (first : ℤ) (acts : List Act) (act : Act) (s : Slice) (slice : IsSlice first act acts (tables_of first acts) s) (says : SaysWhenLotsShip first act acts)
    (day : ℤ) (least : List LeastRow) (tells : TellsWhenLotsShip first act acts day least) (next : IsHistory first (act ∷ acts)) where
  abbrev after : List Act
  after = act ∷ acts

  abbrev gone : LotId → Bool
  gone l = is_out s day least l

  made : MakesThemUnshippable first acts act (λ l. is_out s day least l)
  made = makes first acts act s slice says day least tells

  -- what is known stays known

  lot_same : (l : LotId) → lot_row acts l ≡ lot_row after l
  lot_same l = λ i. option_map (λ (k : KnownLot). record { lot = k.lot; expiry = k.expiry; came = k.came; held = says_held (find (λ w. is_lot k.lot w.lot) (says.same_holds i)) }) (find (λ k. is_lot l k.lot) (says.same_lots i))

  recall_same : (l : LotId) → recall_row acts l ≡ recall_row after l
  recall_same l = λ i. option_map (λ (r : Recalling). record { lot = r.lot; act = r.act }) (find (λ r. is_lot l r.lot) (says.same_recalls i))

  bin_same : (b : List ℕ) → bin_row acts b ≡ bin_row after b
  bin_same b = λ i. option_map (λ (x : NewBin). record { name = x.bin; kind = x.kind }) (find (λ x. same_text b x.bin) (says.same_bins i))

  -- A lot that is out

  module _ (l : LotId) (g : is_out s day least l ≡ true) where
    touched : is_touched first act acts l.gtin ≡ true
    touched = out_touched first acts act s slice says day least tells l g

    staged_are : AreRows same_share (λ (r : StagedRow). (r.order, r.lot)) (λ (k : OrderLot). of_item l.gtin k.1) (λ (k : OrderLot). true) (λ k. staged_row first acts k.0 k.1) s.rows.staged
    staged_are = (slice_tells_demands first acts act s slice says.planned l.gtin touched).staged

    staged_total : holds (stages_of l) (postings first acts) ≡ total (λ (r : StagedRow). if is_lot l r.lot then r.qty else 0) s.rows.staged
    staged_total = staged_holds first acts (legal_history first acts next.0) (λ m o. is_lot l m) _ _ s.rows.staged staged_are (λ m o e. is_lot_item l m e)

    comes_in : in_bin first after RETURNS l ≡ in_bin first acts RETURNS l + holds (stages_of l) (postings first acts)
    comes_in = in_returns first acts act gone made next l g

    staged_seen_is : staged_of_seen s l ≡ holds (stages_of l) (postings first acts)
    staged_seen_is = omega (arith, staged_total, comes_in, bin_within_limit first after next l.gtin l (same_text_refl l.gtin) RETURNS)

    in_returns_is : units_in_returns s l ≡ in_bin first after RETURNS l
    in_returns_is = omega (arith, staged_seen_is, in_bin_told first acts act s slice says.planned RETURNS l touched, comes_in, bin_within_limit first after next l.gtin l (same_text_refl l.gtin) RETURNS)

    in_cell_returns : unless_put (find (at_cell s day least l RETURNS) (returned_put s l)) false (stock_row first acts l RETURNS) ≡ stock_row first after l RETURNS
    in_cell_returns =
        elim (staged_of_seen s l == 0) as (λ t. (staged_of_seen s l == 0) ≡ t → unless_put (find (at_cell s day least l RETURNS) (if t then [] else stock_put l RETURNS q)) false (stock_row first acts l RETURNS) ≡ stock_row first after l RETURNS) [
          | true ↦ λ e. ap (λ n. if_any n (record { lot = l; bin = RETURNS; qty = n })) (none e)
          | false ↦ λ e. put_there (some e)
        ] refl
      where
        q : ℕ
        q = units_in_returns s l

        none : (staged_of_seen s l == 0) ≡ true → in_bin first acts RETURNS l ≡ in_bin first after RETURNS l
        none e = let z : staged_of_seen s l ≡ 0 = is_zero _ e in omega (arith, z, staged_seen_is, comes_in)

        some : (staged_of_seen s l == 0) ≡ false → (q == 0) ≡ false
        some e = still_some (staged_of_seen s l) q e (omega (arith, in_returns_is, staged_seen_is, comes_in))

        put_there : (q == 0) ≡ false → unless_put (find (at_cell s day least l RETURNS) (stock_put l RETURNS q)) false (stock_row first acts l RETURNS) ≡ stock_row first after l RETURNS
        put_there e =
            ap (λ t. unless_put (find (at_cell s day least l RETURNS) (if t then [] else record { lot = l; bin = RETURNS; qty = q } ∷ [])) false (stock_row first acts l RETURNS)) e
            ∙ (λ i. unless_put (if is_lot_refl l i && same_text_refl RETURNS i then Some (record { lot = l; bin = RETURNS; qty = q }) else None) false (stock_row first acts l RETURNS))
            ∙ sym (ap (λ t. if t then None else Some (record { lot = l; bin = RETURNS; qty = q })) e) ∙ ap (λ n. if_any n (record { lot = l; bin = RETURNS; qty = n })) in_returns_is

    in_cell_elsewhere : (b : List ℕ) → same_text b RETURNS ≡ false → unless_put (find (at_cell s day least l b) (returned_put s l)) false (stock_row first acts l b) ≡ stock_row first after l b
    in_cell_elsewhere b e =
        elim (staged_of_seen s l == 0) as (λ t. unless_put (find (at_cell s day least l b) (if t then [] else stock_put l RETURNS (units_in_returns s l))) false (stock_row first acts l b) ≡ stock_row first after l b) [
          | true ↦ same
          | false ↦ elim (units_in_returns s l == 0) as (λ t. unless_put (find (at_cell s day least l b) (if t then [] else row_put s day least l ∷ [])) false (stock_row first acts l b) ≡ stock_row first after l b) [
            | true ↦ same
            | false ↦
                ap (λ c. unless_put (if is_lot l l && c then Some (row_put s day least l) else None) false (stock_row first acts l b)) e
                ∙ ap (λ c. unless_put (if c then Some (row_put s day least l) else None) false (stock_row first acts l b)) (and_false (is_lot l l)) ∙ same
          ]
        ]
      where
        same : stock_row first acts l b ≡ stock_row first after l b
        same = ap (λ n. if_any n (record { lot = l; bin = b; qty = n })) (sym (in_bin_still first acts act gone made next b l (ap (λ t. t && gone l) e)))

    in_cell : (b : List ℕ) → unless_put (find (at_cell s day least l b) (returned_put s l)) false (stock_row first acts l b) ≡ stock_row first after l b
    in_cell b = elim (same_text b RETURNS) as (λ t. same_text b RETURNS ≡ t → unless_put (find (at_cell s day least l b) (returned_put s l)) false (stock_row first acts l b) ≡ stock_row first after l b) [
      | true ↦ λ t. subst (λ (x : List ℕ). unless_put (find (at_cell s day least l x) (returned_put s l)) false (stock_row first acts l x) ≡ stock_row first after l x) (sym (same_text_is b RETURNS t)) in_cell_returns
      | false ↦ in_cell_elsewhere b
    ] refl

  -- Stock

  pub stock_at : (m : LotId) (b : List ℕ) → changed (λ (r : StockRow). is_lot m r.lot && same_text b r.bin) (stock_returned s day least) [] (stock_row first acts m b) ≡ stock_row first after m b
  stock_at m b =
      ap (λ x. unless_put x false (stock_row first acts m b)) (found_put s day least m b s.rows.lots)
      ∙ elim (is_out s day least m) as (λ t. is_out s day least m ≡ t → unless_put (if seen then find (at_cell s day least m b) (if t then returned_put s m else []) else None) false (stock_row first acts m b) ≡ stock_row first after m b) [
        | true ↦ λ t. ap (λ c. unless_put (if c then find (at_cell s day least m b) (returned_put s m) else None) false (stock_row first acts m b)) (is_seen s day least m t) ∙ in_cell m t b
        | false ↦ λ t.
            ap (λ x. unless_put x false (stock_row first acts m b)) (nothing seen)
            ∙ ap (λ n. if_any n (record { lot = m; bin = b; qty = n })) (sym (in_bin_still first acts act gone made next b m (ap (λ c. same_text b RETURNS && c) t ∙ and_false (same_text b RETURNS))))
      ] refl
    where
      seen : Bool
      seen = list_any (λ (k : LotRow). is_lot m k.lot) s.rows.lots

  lots_apart : no_two (λ (k m : LotRow). is_lot k.lot m.lot) s.rows.lots ≡ true
  lots_apart = slice.lots.once

  pub stock_once : no_two (λ (a b : StockRow). is_lot a.lot b.lot && same_text a.bin b.bin) (stock_returned s day least) ≡ true
  stock_once = put_apart s day least s.rows.lots lots_apart

  -- Stages

  staged_same : (k : OrderLot) → (if gone k.1 then None else staged_row first acts k.0 k.1) ≡ staged_row first after k.0 k.1
  staged_same k = elim (gone k.1) as (λ t. gone k.1 ≡ t → (if t then None else staged_row first acts k.0 k.1) ≡ staged_row first after k.0 k.1) [
    | true ↦ λ t. sym (ap (λ n. if_any n (record { order = k.0; lot = k.1; qty = n })) (unstaged first acts act gone made next k.0 k.1 t))
    | false ↦ λ t. ap (λ n. if_any n (record { order = k.0; lot = k.1; qty = n })) (sym (staged_still first acts act gone made next k.0 k.1 t))
  ] refl

  pub all_staged_are : AreRows same_share (λ (r : StagedRow). (r.order, r.lot)) (λ (k : OrderLot). is_touched first act acts k.1.gtin) (λ (k : OrderLot). true) (λ k. staged_row first acts k.0 k.1) s.rows.staged
  all_staged_are = staged_touched first acts act s slice (no_pick act.command says.planned)

  pub staged_at : (o : List ℕ) (m : LotId) → changed (λ (r : StagedRow). same_text o r.order && is_lot m r.lot) [] (staged_gone_on s day least) (staged_row first acts o m) ≡ staged_row first after o m
  staged_at o m =
      dropped_at same_share same_share_is (λ (r : StagedRow). (r.order, r.lot)) (λ k. gone k.1) (λ k. staged_row first acts k.0 k.1) s.rows.staged (o, m) (λ e. all_staged_are.found (o, m) (out_touched first acts act s slice says day least tells m e))
      ∙ staged_same (o, m)

  -- The demands and supplies of each item that the act touches

  module _ (h : List ℕ) (t : is_touched first act acts h ≡ true) where
    pub demands_after : TellsDemands first after h (rows_on s day least)
    demands_after =
        let before = slice_tells_demands first acts act s slice says.planned h t in
        let wanted : (o : List ℕ) → is_open first after o && has_line after o h ≡ true → is_open first acts o && has_line acts o h ≡ true = λ o e. (λ i. open_still first acts act gone made next o i && line_still first acts act gone made next o h i) ∙ e in
        record {
          orders = loosened same_text (λ (x : OrderRow). x.order) (λ o. is_open first acts o && has_line acts o h) (λ o. is_open first after o && has_line after o h) (λ o. true) (λ o. true) (order_row first acts) (order_row first after) s.rows.orders
              wanted (λ o e. refl) (order_row_still first acts act gone made next) before.orders;
          lines = loosened same_line (λ (x : LineRow). (x.order, x.gtin)) (λ k. is_open first acts k.0 && same_text h k.1) (λ k. is_open first after k.0 && same_text h k.1) (λ k. true) (λ k. true) (λ k. line_row first acts k.0 k.1) (λ k. line_row first after k.0 k.1) s.rows.lines
              (λ k e. ap (λ b. b && same_text h k.1) (open_still first acts act gone made next k.0) ∙ e) (λ k e. refl) (λ k. line_row_still first acts act gone made next k.0 k.1) before.lines;
          staged = loosened same_share (λ (x : StagedRow). (x.order, x.lot)) (λ k. of_item h k.1) (λ k. of_item h k.1) (λ k. true) (λ k. true) (λ k. if gone k.1 then None else staged_row first acts k.0 k.1) (λ k. staged_row first after k.0 k.1) (staged_kept_on s day least)
              (λ k e. e) (λ k e. refl) staged_same
              (rows_left same_share same_share_is (λ (r : StagedRow). (r.order, r.lot)) (λ k. gone k.1) (λ k. staged_row first acts k.0 k.1) (λ k. of_item h k.1) s.rows.staged before.staged);
          urgents = λ o e. before.urgents o (wanted o e) ∙ same_urgents acts after made.same_orders o;
        }

    bin_there : (b : List ℕ) → list_any (λ (r : StockRow). same_text b r.bin) (stock_on s day least) ≡ true → find (λ (r : BinRow). same_text b r.name) (bins_with_returns s) ≡ bin_row after b
    bin_there b e =
        elim (same_text b RETURNS) as (λ c. same_text b RETURNS ≡ c → (if c then Some returns_bin_row else find (λ (r : BinRow). same_text b r.name) s.rows.bins) ≡ bin_row after b) [
          | true ↦ λ c. sym (ap (λ (x : List ℕ). bin_row after x) (same_text_is b RETURNS c) ∙ ap (option_map (λ (x : NewBin). record { name = x.bin; kind = x.kind })) (returns_named first after next))
          | false ↦ λ c. (slice_tells_supplies first acts act s slice says.planned h t).bins b (any_kept (λ (r : StockRow). same_text b r.bin) (λ r. not (stands_in (stock_returned s day least) r)) s.rows.stock (behind c)) ∙ bin_same b
        ] refl
      where
        behind : same_text b RETURNS ≡ false → list_any (λ (r : StockRow). same_text b r.bin) (filter (λ r. not (stands_in (stock_returned s day least) r)) s.rows.stock) ≡ true
        behind c =
            ap (λ x. x || list_any (λ (r : StockRow). same_text b r.bin) (filter (λ r. not (stands_in (stock_returned s day least) r)) s.rows.stock)) (sym (no_other_bin s day least b c s.rows.lots))
            ∙ sym (list_any-append (λ (r : StockRow). same_text b r.bin) (stock_returned s day least) (filter (λ r. not (stands_in (stock_returned s day least) r)) s.rows.stock)) ∙ e

    -- a lot with stock after it is one of the slice, or had stock before
    lots_found : (m : LotId) → in_stock h (stock_on s day least) m ≡ true → find (λ (k : LotRow). is_lot m k.lot) s.rows.lots ≡ lot_row acts m
    lots_found m e =
        let two = and_both (of_item h m) (list_any (λ (r : StockRow). is_lot m r.lot) (stock_on s day least)) e in
        elim (list_any (λ (k : LotRow). is_lot m k.lot) s.rows.lots) as (λ b. list_any (λ (k : LotRow). is_lot m k.lot) s.rows.lots ≡ b → find (λ (k : LotRow). is_lot m k.lot) s.rows.lots ≡ lot_row acts m) [
          | true ↦ λ c. there_found is_lot is_lot_is (λ (k : LotRow). k.lot) (λ k. true) (lot_row acts) s.rows.lots before.lots.own m c
          | false ↦ λ c. before.lots.found m (λ i. two.0 i && any_kept (λ (r : StockRow). is_lot m r.lot) (λ r. not (stands_in (stock_returned s day least) r)) s.rows.stock (behind c two.1) i)
        ] refl
      where
        before : TellsSupplies first acts h s.rows
        before = slice_tells_supplies first acts act s slice says.planned h t

        behind : list_any (λ (k : LotRow). is_lot m k.lot) s.rows.lots ≡ false → list_any (λ (r : StockRow). is_lot m r.lot) (stock_on s day least) ≡ true
            → list_any (λ (r : StockRow). is_lot m r.lot) (filter (λ r. not (stands_in (stock_returned s day least) r)) s.rows.stock) ≡ true
        behind c f =
            ap (λ x. x || list_any (λ (r : StockRow). is_lot m r.lot) (filter (λ r. not (stands_in (stock_returned s day least) r)) s.rows.stock)) (sym (no_other_lot s day least m s.rows.lots c))
            ∙ sym (list_any-append (λ (r : StockRow). is_lot m r.lot) (stock_returned s day least) (filter (λ r. not (stands_in (stock_returned s day least) r)) s.rows.stock)) ∙ f

    pub supplies_after : TellsSupplies first after h (rows_on s day least)
    supplies_after =
        let before = slice_tells_supplies first acts act s slice says.planned h t in
        record {
          lots = loosened is_lot (λ (k : LotRow). k.lot) (in_stock h (stock_on s day least)) (in_stock h (stock_on s day least)) (λ l. true) (λ l. true) (lot_row acts) (lot_row after) s.rows.lots
              (λ l e. e) (λ l e. refl) lot_same (record { found = lots_found; own = before.lots.own; once = before.lots.once });
          recalls = λ l e. before.recalls l e ∙ recall_same l;
          stock = loosened same_cell (λ (r : StockRow). (r.lot, r.bin)) (λ k. of_item h k.0) (λ k. of_item h k.0) (λ k. true) (λ k. true)
              (λ k. unless_put (find (λ (r : StockRow). same_cell k (r.lot, r.bin)) (stock_returned s day least)) false (stock_row first acts k.0 k.1)) (λ k. stock_row first after k.0 k.1) (stock_on s day least)
              (λ k e. e) (λ k e. refl) (λ k. stock_at k.0 k.1)
              (rows_over same_cell same_cell_is same_cell_refl same_cell_turned (λ (r : StockRow). (r.lot, r.bin)) (λ k. of_item h k.0) (λ k. stock_row first acts k.0 k.1) (stock_returned s day least) s.rows.stock stock_once before.stock);
          bins = bin_there;
        }

  -- The rows that are reserved after the act

  pub out_named : AreNamed first act acts (reserved_put_on s day least) (reserved_gone_on s day least)
  out_named =
      items_replanned (λ (g : List ℕ). g) first acts act s slice says.planned next (gtins_seen s) (items_apart first acts act s slice says day least tells) (items_told first acts act s slice says day least tells)
      day (rows_on s day least) tells demands_after supplies_after

  pub out_put_once : no_two is_share_of (reserved_put_on s day least) ≡ true
  out_put_once =
      items_put_once (λ (g : List ℕ). g) first acts act s slice says.planned next (gtins_seen s) (items_apart first acts act s slice says day least tells) (items_told first acts act s slice says day least tells)
      day (rows_on s day least) tells demands_after supplies_after
