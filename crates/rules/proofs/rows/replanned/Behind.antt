-- Behind the first demands, for which one demand stands, the rows and shares that are not among others are those of the demands that
-- follow: the one has none, since no order has its number.
use Rattle.rules.proofs.Words.{◌≡◌, ℕ, Bool, true, false, ◌&&◌, not, List, [], ◌∷◌, ◌++◌, take, drop, refl, ap, ◌∙◌, arith, ◌==◌, ◌||◌, if◌then◌else◌, ℤ, Some, None, find, filter, list_any, cons_option, filter-append, list_any-append, OrderRow, LotRow, Demand, Supply, Row, Stretch, overlap, row_of, rows_of_demand, rows_from, supplies_laid, demand_total, one_in_front, Act, Placed, order_named, order_state, order_row, AreOwn, named_row, named_rows, rows_behind, same_row, rows_apart, shares_apart, unequal_below}
use Rattle.rules.proofs.rows.Telling.{some_of_mapped}
use Rattle.rules.proofs.rows.replanned.Known.{numbered_from_one}

module _ (first : ℤ) (acts : List Act) where
  not_zero : (r : OrderRow) → order_row first acts r.order ≡ Some r → (0 == r.act) ≡ false
  not_zero r e =
      let m = some_of_mapped (λ (p : Placed). record { order = p.order; act = p.act; customer = p.customer; state = order_state first acts p.order }) (order_named acts r.order) r e in
      unequal_below 0 r.act (omega (arith, numbered_from_one acts r.order m.0 m.1, ap (λ (x : OrderRow). x.act) m.2))

  nobody : (rows : List OrderRow) → AreOwn (λ (r : OrderRow). r.order) (λ o. true) (order_row first acts) rows → find (λ (o : OrderRow). 0 == o.act) rows ≡ None
  nobody [] own = refl
  nobody (r ∷ rs) own = ap (λ b. if b then Some r else find (λ (o : OrderRow). 0 == o.act) rs) (not_zero r own.1) ∙ nobody rs own.2

abbrev one : ℕ → Stretch
one stop = record { name = 0; start = 0; stop = stop }

module _ (orders : List OrderRow) (lots : List LotRow) (none : find (λ (o : OrderRow). 0 == o.act) orders ≡ None) (keep : Row → Bool) (rest : List Row) where
  unnamed : (stop : ℕ) (ss : List Stretch) → named_rows orders lots (filter keep (rows_of_demand ss (one stop)) ++ rest) ≡ named_rows orders lots rest
  unnamed stop [] = refl
  unnamed stop (s ∷ ss) =
      elim (overlap (one stop) s == 0) as (λ b. named_rows orders lots (filter keep (if not b then row_of (one stop) s ∷ rows_of_demand ss (one stop) else rows_of_demand ss (one stop)) ++ rest) ≡ named_rows orders lots rest) [
        | true ↦ unnamed stop ss
        | false ↦
            elim (keep (row_of (one stop) s)) as (λ b. named_rows orders lots ((if b then row_of (one stop) s ∷ filter keep (rows_of_demand ss (one stop)) else filter keep (rows_of_demand ss (one stop))) ++ rest) ≡ named_rows orders lots rest) [
              | true ↦
                  ap (λ x. cons_option (named_row x (find (λ (k : LotRow). s.name == k.came) lots) (overlap (one stop) s)) (named_rows orders lots (filter keep (rows_of_demand ss (one stop)) ++ rest))) none
                  ∙ unnamed stop ss
              | false ↦ unnamed stop ss
            ]
      ]

-- a row of another number is none of the one's
one_has_none : (r : Row) → (r.booking == 0) ≡ false → (stop : ℕ) (ss : List Stretch) → list_any (same_row r) (rows_of_demand ss (one stop)) ≡ false
one_has_none r e stop [] = refl
one_has_none r e stop (s ∷ ss) =
    elim (overlap (one stop) s == 0) as (λ b. list_any (same_row r) (if not b then row_of (one stop) s ∷ rows_of_demand ss (one stop) else rows_of_demand ss (one stop)) ≡ false) [
      | true ↦ one_has_none r e stop ss
      | false ↦ (λ i. (e i && (r.lot == s.name) && (r.qty == overlap (one stop) s)) || one_has_none r e stop ss i)
    ]

pub behind_has : (r : Row) → (r.booking == 0) ≡ false → (n : ℕ) (ds : List Demand) (ss : List Supply)
    → list_any (same_row r) (rows_behind n ds ss) ≡ list_any (same_row r) (rows_from (demand_total (take n ds)) (drop n ds) ss)
behind_has r e n ds ss =
    ap (list_any (same_row r)) (one_in_front n ds ss)
    ∙ list_any-append (same_row r) (rows_of_demand (supplies_laid 0 ss) (one (demand_total (take n ds)))) (rows_from (demand_total (take n ds)) (drop n ds) ss)
    ∙ ap (λ b. b || list_any (same_row r) (rows_from (demand_total (take n ds)) (drop n ds) ss)) (one_has_none r e (demand_total (take n ds)) (supplies_laid 0 ss))

pub behind_are : (first : ℤ) (acts : List Act) (orders : List OrderRow) → AreOwn (λ (r : OrderRow). r.order) (λ o. true) (order_row first acts) orders
    → (lots : List LotRow) (others : List Row) (n : ℕ) (ds : List Demand) (ss : List Supply)
    → shares_apart orders lots others (rows_behind n ds ss) ≡ named_rows orders lots (rows_apart others (rows_from (demand_total (take n ds)) (drop n ds) ss))
behind_are first acts orders own lots others n ds ss =
    let keep : Row → Bool = λ r. not (list_any (same_row r) others) in
    ap (λ rows. named_rows orders lots (rows_apart others rows)) (one_in_front n ds ss)
    ∙ ap (named_rows orders lots) (filter-append keep (rows_of_demand (supplies_laid 0 ss) (one (demand_total (take n ds)))) (rows_from (demand_total (take n ds)) (drop n ds) ss))
    ∙ unnamed orders lots (nobody first acts orders own) keep (rows_apart others (rows_from (demand_total (take n ds)) (drop n ds) ss)) (demand_total (take n ds)) (supplies_laid 0 ss)
