-- Where nothing is staged and no lot starts or stops being shippable, the days that are asked for are all that changes.
use Rattle.rules.proofs.Words.{◌≡◌, ℕ, Bool, true, false, ◌&&◌, not, List, [], ◌∷◌, ◌++◌, length, refl, ap, sym, ◌∙◌, arith, append_assoc, eq-eqb, ◌==◌, ◌||◌, if◌then◌else◌, Some, find, filter, map, flat_map, list_any, eqb-true, list_any-append, same_text, total, reply_text, Returned, BinRow, LeastRow, LotRow, OrderRow, StagedRow, StockRow, SUM_MAX, Demand, Supply, Row, cut_of, is_lot, of_item, RETURNS, and_both, or_none, not_true, same_text_is, capped, number_seen, none_put, none_dropped, may_ship, earliest_seen, is_store_found, is_usable, usable_lots, inserted, goes_first, supply_seen, supplies_within, named_rows, same_row, rows_apart, rows_behind, shares_changed, replanned_rows, replanned_from, item_demands, item_supplies, Slice, Replanned, total_agree, map_agree, stock_put, staged_of_seen, units_in_returns, returned_put, bins_with_returns, returns_bin_row, is_out, staged_kept_on, staged_gone_on, units_out, lot_returned_on, stock_returned, stock_on, stands_in, gtins_seen, replanned_on, reserved_put_on, reserved_gone_on, changes_on, changes_lot, keeps_plan, asked_alone}

-- Lists

none_gathered : {X Y : Type 0} (f : X → List Y) → ((x : X) → f x ≡ []) → (xs : List X) → flat_map f xs ≡ []
none_gathered f none [] = refl
none_gathered f none (x ∷ xs) = λ i. none x i ++ none_gathered f none xs i

all_kept : {X : Type 0} (xs : List X) → filter (λ x. true) xs ≡ xs
all_kept [] = refl
all_kept (x ∷ xs) = ap (λ ys. x ∷ ys) (all_kept xs)

no_items : {X : Type 0} (xs : List X) → length xs ≡ 0 → xs ≡ []
no_items [] e = refl
no_items (x ∷ xs) e = absurd (omega arith)

-- A plan that stays

same_itself : (r : Row) → same_row r r ≡ true
same_itself r = λ i. eq-eqb r.booking r.booking refl i && eq-eqb r.lot r.lot refl i && eq-eqb r.qty r.qty refl i

among_all : (front : List Row) (r : Row) (rs : List Row) → list_any (same_row r) (front ++ r ∷ rs) ≡ true
among_all front r rs = list_any-append (same_row r) front (r ∷ rs) ∙ ap (λ b. list_any (same_row r) front || (b || list_any (same_row r) rs)) (same_itself r) ∙ always (list_any (same_row r) front)
  where
    always : (b : Bool) → b || true ≡ true
    always true = refl
    always false = refl

none_apart : (front rs : List Row) → rows_apart (front ++ rs) rs ≡ []
none_apart front [] = refl
none_apart front (r ∷ rs) =
    ap (λ b. if not b then r ∷ rows_apart (front ++ r ∷ rs) rs else rows_apart (front ++ r ∷ rs) rs) (among_all front r rs)
    ∙ ap (λ (all : List Row). rows_apart all rs) (sym (append_assoc front (r ∷ []) rs)) ∙ none_apart (front ++ r ∷ []) rs

abbrev none : Replanned
none = record { put = []; dropped = [] }

rows_stay : (g : List ℕ) (orders : List OrderRow) (lots : List LotRow) (rows : List Row) → replanned_rows g orders lots rows orders lots rows ≡ none
rows_stay g orders lots rows = ap (λ (left : List Row). shares_changed g (named_rows orders lots left) (named_rows orders lots left)) (none_apart [] rows)

plan_stays : (g : List ℕ) (orders : List OrderRow) (lots : List LotRow) (ds es : List Demand) (ss ts : List Supply) → es ≡ ds → ts ≡ ss → replanned_from g orders lots ds ss orders lots es ts ≡ none
plan_stays g orders lots ds es ss ts e f =
    (λ i. replanned_from g orders lots ds ss orders lots (e i) (f i)) ∙ rows_stay g orders lots (rows_behind (cut_of ds ss ds ss) ds ss)

-- The rows after it

module _ (s : Slice) (least : List LeastRow) (none_staged : s.rows.staged ≡ []) where
  kept_all : staged_kept_on s s.meta.day least ≡ s.rows.staged
  kept_all = ap (filter (λ (r : StagedRow). not (is_out s s.meta.day least r.lot))) none_staged ∙ sym none_staged

  gone_none : staged_gone_on s s.meta.day least ≡ []
  gone_none = ap (filter (λ (r : StagedRow). is_out s s.meta.day least r.lot)) none_staged

  units_none : units_out s s.meta.day least ≡ 0
  units_none = ap (λ (rows : List StagedRow). capped (total (λ r. if is_out s s.meta.day least r.lot then r.qty else 0) rows)) none_staged

  put_nothing : (k : LotRow) → returned_put s k.lot ≡ []
  put_nothing k =
      let zero : staged_of_seen s k.lot ≡ 0 = ap (λ (rows : List StagedRow). capped (total (λ r. if is_lot k.lot r.lot then r.qty else 0) rows)) none_staged in
      ap (λ b. if b then [] else stock_put k.lot RETURNS (units_in_returns s k.lot)) (eq-eqb (staged_of_seen s k.lot) 0 zero)

  lot_none : (k : LotRow) → lot_returned_on s s.meta.day least k ≡ []
  lot_none k = elim (is_out s s.meta.day least k.lot) as (λ b. (if b then returned_put s k.lot else []) ≡ []) [ true ↦ put_nothing k | false ↦ refl ]

  returned_none : stock_returned s s.meta.day least ≡ []
  returned_none = none_gathered (lot_returned_on s s.meta.day least) lot_none s.rows.lots

  stock_stays : stock_on s s.meta.day least ≡ s.rows.stock
  stock_stays = ap (λ (rows : List StockRow). rows ++ filter (λ r. not (stands_in rows r)) s.rows.stock) returned_none ∙ all_kept s.rows.stock

  -- What lots have in STORE bins, where RETURNS is none

  module _ (no_store : is_store_found (find (λ b. same_text RETURNS b.name) s.rows.bins) ≡ false) where
    bin_same : (b : List ℕ) → is_store_found (find (λ (r : BinRow). same_text b r.name) (bins_with_returns s)) ≡ is_store_found (find (λ (r : BinRow). same_text b r.name) s.rows.bins)
    bin_same b = elim (same_text b RETURNS) as (λ t. same_text b RETURNS ≡ t → is_store_found (if t then Some returns_bin_row else find (λ (r : BinRow). same_text b r.name) s.rows.bins) ≡ is_store_found (find (λ (r : BinRow). same_text b r.name) s.rows.bins)) [
      | true ↦ λ t. sym (ap (λ (x : List ℕ). is_store_found (find (λ (r : BinRow). same_text x r.name) s.rows.bins)) (same_text_is b RETURNS t) ∙ no_store)
      | false ↦ λ t. refl
    ] refl

    supply_same : (k : LotRow) → supply_seen (bins_with_returns s) s.rows.stock k ≡ supply_seen s.rows.bins s.rows.stock k
    supply_same k =
        let same = total_agree (λ (r : StockRow). if is_lot k.lot r.lot && is_store_found (find (λ b. same_text r.bin b.name) (bins_with_returns s)) then r.qty else 0) (λ (r : StockRow). if is_lot k.lot r.lot && is_store_found (find (λ b. same_text r.bin b.name) s.rows.bins) then r.qty else 0)
        (λ r. ap (λ b. if is_lot k.lot r.lot && b then r.qty else 0) (bin_same r.bin)) s.rows.stock in
        (λ i. record { lot = k.came; avail = capped (same i) })

    -- The lots that may be shipped

    module _ (no_lot : list_any (changes_lot s least) s.rows.lots ≡ false) (g : List ℕ) where
      alike : (a b : Bool) → (if a then not b else b) ≡ false → b ≡ a
      alike true true e = refl
      alike true false e = let f : true ≡ false = e in cc
      alike false true e = let f : true ≡ false = e in cc
      alike false false e = refl

      usable_same : (k : LotRow) → changes_lot s least k ≡ false → is_usable g (earliest_seen s.meta.day least g) s.rows.recalls k ≡ is_usable g (earliest_seen s.meta.day s.rows.least g) s.rows.recalls k
      usable_same k e = elim (of_item g k.lot) as (λ b. of_item g k.lot ≡ b → b && may_ship (earliest_seen s.meta.day least g) s.rows.recalls k ≡ b && may_ship (earliest_seen s.meta.day s.rows.least g) s.rows.recalls k) [
        | true ↦ λ t.
            let own : g ≡ k.lot.gtin = same_text_is g k.lot.gtin t in
            ap (λ (x : List ℕ). may_ship (earliest_seen s.meta.day least x) s.rows.recalls k) own
            ∙ alike (may_ship (earliest_seen s.meta.day s.rows.least k.lot.gtin) s.rows.recalls k) (may_ship (earliest_seen s.meta.day least k.lot.gtin) s.rows.recalls k) e
            ∙ sym (ap (λ (x : List ℕ). may_ship (earliest_seen s.meta.day s.rows.least x) s.rows.recalls k) own)
        | false ↦ λ t. refl
      ] refl

      kept_same : (lots : List LotRow) → list_any (changes_lot s least) lots ≡ false
          → filter (is_usable g (earliest_seen s.meta.day least g) s.rows.recalls) lots ≡ filter (is_usable g (earliest_seen s.meta.day s.rows.least g) s.rows.recalls) lots
      kept_same [] e = refl
      kept_same (k ∷ ks) e =
          let two = or_none (changes_lot s least k) (list_any (changes_lot s least) ks) e in
          let first = usable_same k two.0 in
          let rest = kept_same ks two.1 in
          (λ i. if first i then k ∷ rest i else rest i)

      supplies_stay : item_supplies g (earliest_seen s.meta.day least g) s.rows.recalls (bins_with_returns s) (stock_on s s.meta.day least) s.rows.lots
          ≡ item_supplies g (earliest_seen s.meta.day s.rows.least g) s.rows.recalls s.rows.bins s.rows.stock s.rows.lots
      supplies_stay =
          let kept = kept_same s.rows.lots no_lot in
          (λ i. supplies_within SUM_MAX (map (supply_seen (bins_with_returns s) (stock_stays i)) (inserted goes_first [] (kept i))))
          ∙ ap (supplies_within SUM_MAX) (map_agree (supply_seen (bins_with_returns s) s.rows.stock) (supply_seen s.rows.bins s.rows.stock) supply_same (usable_lots g (earliest_seen s.meta.day s.rows.least g) s.rows.recalls s.rows.lots))

      replanned_none : replanned_on s s.meta.day least g ≡ none
      replanned_none =
          plan_stays g s.rows.orders s.rows.lots (item_demands g s.rows.lines s.rows.staged s.rows.urgents s.rows.orders) (item_demands g s.rows.lines (staged_kept_on s s.meta.day least) s.rows.urgents s.rows.orders)
          (item_supplies g (earliest_seen s.meta.day s.rows.least g) s.rows.recalls s.rows.bins s.rows.stock s.rows.lots)
          (item_supplies g (earliest_seen s.meta.day least g) s.rows.recalls (bins_with_returns s) (stock_on s s.meta.day least) s.rows.lots)
          (ap (λ (rows : List StagedRow). item_demands g s.rows.lines rows s.rows.urgents s.rows.orders) kept_all) supplies_stay

    module _ (no_lot : list_any (changes_lot s least) s.rows.lots ≡ false) where
      put_none : reserved_put_on s s.meta.day least ≡ []
      put_none = none_gathered (λ g. (replanned_on s s.meta.day least g).put) (λ g. ap (λ (r : Replanned). r.put) (replanned_none no_lot g)) (gtins_seen s)

      dropped_none : reserved_gone_on s s.meta.day least ≡ []
      dropped_none = none_gathered (λ g. (replanned_on s s.meta.day least g).dropped) (λ g. ap (λ (r : Replanned). r.dropped) (replanned_none no_lot g)) (gtins_seen s)

      change_same : (asked : List LeastRow) → asked_alone s asked ≡ changes_on s s.meta.day least asked
      change_same asked = λ i. record {
        meta = record { day = s.meta.day; acts = number_seen s; shipments = s.meta.shipments };
        put = record none_put { stock = sym returned_none i; reserved = sym put_none i; least = asked };
        dropped = record none_dropped { staged = sym gone_none i; reserved = sym dropped_none i };
        text = reply_text (number_seen s) (Some (Returned (sym units_none i)));
      }

pub asked_alone_changes : (s : Slice) (least asked : List LeastRow) → keeps_plan s least ≡ true → asked_alone s asked ≡ changes_on s s.meta.day least asked
asked_alone_changes s least asked e =
    let two = and_both ((length s.rows.staged == 0) && not (is_store_found (find (λ b. same_text RETURNS b.name) s.rows.bins))) (not (list_any (changes_lot s least) s.rows.lots)) e in
    let both = and_both (length s.rows.staged == 0) (not (is_store_found (find (λ b. same_text RETURNS b.name) s.rows.bins))) two.0 in
    change_same s least (no_items s.rows.staged (eqb-true (length s.rows.staged) 0 both.0)) (not_true _ both.1) (not_true _ two.1) asked
