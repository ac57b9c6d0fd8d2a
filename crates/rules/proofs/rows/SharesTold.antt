-- The plan's rows by names are the reserved rows of the item.
use Rattle.rules.proofs.Words.{◌≡◌, ℕ, Bool, true, false, ◌&&◌, not, List, [], ◌∷◌, refl, ap, sym, ◌∙◌, arith, eq-eqb, inl, inr, ◌==◌, ◌||◌, if◌then◌else◌, ℤ, Option, Some, None, find, filter, map, option_map, ◌⊎◌, list_any, cons_option, eqb-true, same_text, LotId, total, OrderRow, LotRow, ReservedRow, Row, reserved_in, Act, is_lot, of_item, Placed, KnownLot, order_named, lot_known, lines_placed, orders, lots, has_line, is_held, plan, reserved, reserved_of, is_open, order_state, item_postings, need, booking_of, IsHistory, order_row, lot_row, AreOwn, no_two, named_row, named_rows, is_share_of, and_both, or_none, not_true, same_text_is, same_text_refl, is_lot_is, is_lot_refl, some_one, act_names_order, found_order, receipt_names_lot, found_lot, reserved_within_needs, closed_orders_are_empty, same_pair, AllSome, plan_once, plan_some, Rows}
use Rattle.rules.proofs.rows.Telling.{some_of_mapped}
use Rattle.rules.proofs.rows.DemandsTold.{no_line}
use Rattle.rules.proofs.rows.SuppliesTold.{TellsSupplies, in_stock, none_in_store}
use Rattle.rules.proofs.rows.TableSteps.{share_row}
use Rattle.rules.proofs.rows.replanned.Pairs.{none_else}
use Rattle.rules.proofs.rows.replanned.Unreserved.{none_reserved}

-- Rows found by their numbers

module _ {K R : Type 0} (key : R → K) (number : R → ℕ) (row : K → Option R) (one : (r s : R) → row (key r) ≡ Some r → row (key s) ≡ Some s → number r ≡ number s → r ≡ s) where
  pub found_own : (rows : List R) → AreOwn key (λ k. true) row rows → (t : R → Bool) (x : R) → find t rows ≡ Some x → (t x ≡ true) × (row (key x) ≡ Some x)
  found_own [] own t x e = cc
  found_own (r ∷ rs) own t x e = elim (t r) as (λ b. t r ≡ b → (if b then Some r else find t rs) ≡ Some x → (t x ≡ true) × (row (key x) ≡ Some x)) [
    | true ↦ λ f h. let same : r ≡ x = cc in (ap t (sym same) ∙ f, ap (λ (z : R). row (key z)) (sym same) ∙ own.1 ∙ ap Some same)
    | false ↦ λ f h. found_own rs own.2 t x h
  ] refl e

  found_other : (rows : List R) (t u : R → Bool) (x : R) → find t rows ≡ Some x → u x ≡ true → (y : R) × (find u rows ≡ Some y)
  found_other [] t u x e f = cc
  found_other (r ∷ rs) t u x e f = elim (u r) as (λ c. u r ≡ c → (y : R) × ((if c then Some r else find u rs) ≡ Some y)) [
    | true ↦ λ g. (r, refl)
    | false ↦ λ g. elim (t r) as (λ b. (if b then Some r else find t rs) ≡ Some x → (y : R) × (find u rs ≡ Some y)) [
      | true ↦ λ h. let same : r ≡ x = cc in let no : true ≡ false = sym f ∙ ap u (sym same) ∙ g in cc
      | false ↦ λ h. found_other rs t u x h f
    ] e
  ] refl

  pub by_number : (rows : List R) → AreOwn key (λ k. true) row rows → (t : R → Bool) (x : R) → find t rows ≡ Some x → find (λ y. number x == number y) rows ≡ Some x
  by_number rows own t x e =
      let y = found_other rows t (λ y. number x == number y) x e (eq-eqb (number x) (number x) refl) in
      let h = found_own rows own (λ y. number x == number y) y.0 y.1 in
      y.1 ∙ ap Some (sym (one x y.0 (found_own rows own t x e).1 h.1 (eqb-true (number x) (number y.0) h.0)))

module _ (first : ℤ) (acts : List Act) where
  abbrev show_order : Placed → OrderRow
  show_order p = record { order = p.order; act = p.act; customer = p.customer; state = order_state first acts p.order }

  abbrev show_lot : KnownLot → LotRow
  show_lot k = record { lot = k.lot; expiry = k.expiry; came = k.came; held = is_held acts k.lot }

  one_order : (r s : OrderRow) → order_row first acts r.order ≡ Some r → order_row first acts s.order ≡ Some s → r.act ≡ s.act → r ≡ s
  one_order r s e f same =
      let m = some_of_mapped show_order (order_named acts r.order) r e in
      let k = some_of_mapped show_order (order_named acts s.order) s f in
      let o : r.order ≡ s.order = act_names_order acts r.order s.order m.0 k.0 m.1 k.1 (ap (λ (x : OrderRow). x.act) m.2 ∙ same ∙ sym (ap (λ (x : OrderRow). x.act) k.2)) in
      some_one r s (sym e ∙ ap (order_row first acts) o ∙ f)

  one_lot : (r s : LotRow) → lot_row acts r.lot ≡ Some r → lot_row acts s.lot ≡ Some s → r.came ≡ s.came → r ≡ s
  one_lot r s e f same =
      let m = some_of_mapped show_lot (lot_known acts r.lot) r e in
      let k = some_of_mapped show_lot (lot_known acts s.lot) s f in
      let o : r.lot ≡ s.lot = receipt_names_lot acts r.lot s.lot m.0 k.0 m.1 k.1 (ap (λ (x : LotRow). x.came) m.2 ∙ same ∙ sym (ap (λ (x : LotRow). x.came) k.2)) in
      some_one r s (sym e ∙ ap (lot_row acts) o ∙ f)

  -- a named row is of the order and the lot that the plan's row names by numbers
  pub record IsNameOf (r : Row) (n : ReservedRow) : Type 0 where
    pub placed : Placed
    pub order : order_named acts n.order ≡ Some placed
    pub act : r.booking ≡ placed.act
    pub known : KnownLot
    pub lot : lot_known acts n.lot ≡ Some known
    pub came : r.lot ≡ known.came
    pub qty : n.qty ≡ r.qty

  module _ (order_rows : List OrderRow) (lot_rows : List LotRow) (orders_own : AreOwn (λ (r : OrderRow). r.order) (λ o. true) (order_row first acts) order_rows)
      (lots_own : AreOwn (λ (r : LotRow). r.lot) (λ l. true) (lot_row acts) lot_rows) where
    abbrev name_of : Row → Option ReservedRow
    name_of r = named_row (find (λ (o : OrderRow). r.booking == o.act) order_rows) (find (λ (k : LotRow). r.lot == k.came) lot_rows) r.qty

    name_by : (r : Row) (x : Option OrderRow) (y : Option LotRow) → find (λ (o : OrderRow). r.booking == o.act) order_rows ≡ x → find (λ (k : LotRow). r.lot == k.came) lot_rows ≡ y
        → (n : ReservedRow) → named_row x y r.qty ≡ Some n → IsNameOf r n
    name_by r None y e f n h = cc
    name_by r (Some x) None e f n h = cc
    name_by r (Some x) (Some y) e f n h =
        let same = some_one (record { order = x.order; lot = y.lot; qty = r.qty }) n h in
        let a = found_own (λ (r : OrderRow). r.order) (λ (r : OrderRow). r.act) (order_row first acts) one_order order_rows orders_own (λ (o : OrderRow). r.booking == o.act) x e in
        let b = found_own (λ (r : LotRow). r.lot) (λ (r : LotRow). r.came) (lot_row acts) one_lot lot_rows lots_own (λ (k : LotRow). r.lot == k.came) y f in
        let m = some_of_mapped show_order (order_named acts x.order) x a.1 in
        let k = some_of_mapped show_lot (lot_known acts y.lot) y b.1 in
        record {
          placed = m.0;
          order = ap (λ (z : ReservedRow). order_named acts z.order) (sym same) ∙ m.1;
          act = eqb-true r.booking x.act a.0 ∙ sym (ap (λ (z : OrderRow). z.act) m.2);
          known = k.0;
          lot = ap (λ (z : ReservedRow). lot_known acts z.lot) (sym same) ∙ k.1;
          came = eqb-true r.lot y.came b.0 ∙ sym (ap (λ (z : LotRow). z.came) k.2);
          qty = sym (ap (λ (z : ReservedRow). z.qty) same);
        }

    name_is : (r : Row) (n : ReservedRow) → name_of r ≡ Some n → IsNameOf r n
    name_is r n h = name_by r (find (λ (o : OrderRow). r.booking == o.act) order_rows) (find (λ (k : LotRow). r.lot == k.came) lot_rows) refl refl n h

    -- two plan rows with one name are one pair
    same_name : (r s : Row) (n m : ReservedRow) → IsNameOf r n → IsNameOf s m → is_share_of n m ≡ true → same_pair r s ≡ true
    same_name r s n m a b e =
        let two = and_both (same_text n.order m.order) (is_lot n.lot m.lot) e in
        let p : a.placed ≡ b.placed = some_one a.placed b.placed (sym a.order ∙ ap (order_named acts) (same_text_is n.order m.order two.0) ∙ b.order) in
        let k : a.known ≡ b.known = some_one a.known b.known (sym a.lot ∙ ap (lot_known acts) (is_lot_is n.lot m.lot two.1) ∙ b.lot) in
        let x : s.booking ≡ r.booking = b.act ∙ sym (ap (λ (z : Placed). z.act) p) ∙ sym a.act in
        let y : s.lot ≡ r.lot = b.came ∙ sym (ap (λ (z : KnownLot). z.came) k) ∙ sym a.came in
        (λ i. eq-eqb s.booking r.booking x i && eq-eqb s.lot r.lot y i)

    none_named : (r : Row) (n : ReservedRow) → IsNameOf r n → (rs : List Row) → list_any (same_pair r) rs ≡ false → list_any (is_share_of n) (named_rows order_rows lot_rows rs) ≡ false
    none_named r n a [] e = refl
    none_named r n a (s ∷ ss) e =
        let two = or_none (same_pair r s) (list_any (same_pair r) ss) e in
        by_name (name_of s) refl two.0 (none_named r n a ss two.1)
      where
        by_name : (x : Option ReservedRow) → name_of s ≡ x → same_pair r s ≡ false → list_any (is_share_of n) (named_rows order_rows lot_rows ss) ≡ false
            → list_any (is_share_of n) (cons_option x (named_rows order_rows lot_rows ss)) ≡ false
        by_name None f g h = h
        by_name (Some m) f g h =
            let apart : is_share_of n m ≡ false = elim (is_share_of n m) as (λ b. is_share_of n m ≡ b → b ≡ false) [ true ↦ λ t. let y = same_name r s n m a (name_is s m f) t in cc | false ↦ λ t. refl ] refl in
            (λ i. apart i || h i)

    named_once : (rs : List Row) → no_two same_pair rs ≡ true → no_two is_share_of (named_rows order_rows lot_rows rs) ≡ true
    named_once [] e = refl
    named_once (r ∷ rs) e =
        let two = and_both (not (list_any (same_pair r) rs)) (no_two same_pair rs) e in
        by_name (name_of r) refl (not_true _ two.0) (named_once rs two.1)
      where
        by_name : (x : Option ReservedRow) → name_of r ≡ x → list_any (same_pair r) rs ≡ false → no_two is_share_of (named_rows order_rows lot_rows rs) ≡ true → no_two is_share_of (cons_option x (named_rows order_rows lot_rows rs)) ≡ true
        by_name None f g h = h
        by_name (Some n) f g h = (λ i. not (none_named r n (name_is r n f) rs g i) && h i)

    module _ (o : List ℕ) (l : LotId) where
      abbrev test : ReservedRow → Bool
      test n = same_text o n.order && is_lot l n.lot

      -- a row that passes is of the order and the lot
      passing : (r : Row) (n : ReservedRow) → name_of r ≡ Some n → test n ≡ true → (p : Placed) × (order_named acts o ≡ Some p) × (r.booking ≡ p.act) × ((k : KnownLot) × (lot_known acts l ≡ Some k) × (r.lot ≡ k.came))
      passing r n h t =
          let a = name_is r n h in
          let two = and_both (same_text o n.order) (is_lot l n.lot) t in
          (a.placed, ap (order_named acts) (same_text_is o n.order two.0) ∙ a.order, a.act, (a.known, ap (lot_known acts) (is_lot_is l n.lot two.1) ∙ a.lot, a.came))

      all_fail : ((r : Row) (n : ReservedRow) → name_of r ≡ Some n → test n ≡ true → ⊥) → (rs : List Row) → find test (named_rows order_rows lot_rows rs) ≡ None
      all_fail never [] = refl
      all_fail never (r ∷ rs) = by_name (name_of r) refl (all_fail never rs)
        where
          by_name : (x : Option ReservedRow) → name_of r ≡ x → find test (named_rows order_rows lot_rows rs) ≡ None → find test (cons_option x (named_rows order_rows lot_rows rs)) ≡ None
          by_name None e rest = rest
          by_name (Some n) e rest = elim (test n) as (λ b. test n ≡ b → (if b then Some n else find test (named_rows order_rows lot_rows rs)) ≡ None) [
            | true ↦ λ t. absurd (never r n e t)
            | false ↦ λ t. rest
          ] refl

      module _ (p : Placed) (k : KnownLot) (order : order_named acts o ≡ Some p) (lot : lot_known acts l ≡ Some k) where
        abbrev pair : Row → Bool
        pair r = (r.booking == p.act) && (r.lot == k.came)

        pair_if_passing : (r : Row) (n : ReservedRow) → name_of r ≡ Some n → test n ≡ true → pair r ≡ true
        pair_if_passing r n h t =
            let a = passing r n h t in
            let same_p : a.0 ≡ p = some_one a.0 p (sym a.1 ∙ order) in
            let same_k : a.3.0 ≡ k = some_one a.3.0 k (sym a.3.1 ∙ lot) in
            (λ i. eq-eqb r.booking p.act (a.2 ∙ ap (λ (x : Placed). x.act) same_p) i && eq-eqb r.lot k.came (a.3.2 ∙ ap (λ (x : KnownLot). x.came) same_k) i)

        told_by : (rs : List Row) → AllSome rs → no_two same_pair rs ≡ true
            → ((r : Row) → pair r ≡ true → name_of r ≡ Some (record { order = o; lot = l; qty = r.qty })) ⊎ (reserved_in p.act k.came rs ≡ 0)
            → find test (named_rows order_rows lot_rows rs) ≡ share_row o l (reserved_in p.act k.came rs)
        told_by [] some once either = refl
        told_by (r ∷ rs) some once either =
            let two = and_both (not (list_any (same_pair r) rs)) (no_two same_pair rs) once in
            elim (pair r) as (λ b. pair r ≡ b → find test (cons_option (name_of r) (named_rows order_rows lot_rows rs)) ≡ share_row o l (reserved_in p.act k.came (r ∷ rs))) [
              | true ↦ λ t. at_pair t (not_true _ two.0) either
              | false ↦ λ t. by_name (name_of r) refl t (told_by rs some.1 two.1 (rest_of t either))
            ] refl
          where
            own_qty : pair r ≡ true → list_any (same_pair r) rs ≡ false → reserved_in p.act k.came (r ∷ rs) ≡ r.qty
            own_qty t none = let e : (if pair r then r.qty else 0) ≡ r.qty = ap (λ b. if b then r.qty else 0) t in omega (arith, e, none_else p.act k.came rs r t none)

            at_pair : pair r ≡ true → list_any (same_pair r) rs ≡ false → ((r : Row) → pair r ≡ true → name_of r ≡ Some (record { order = o; lot = l; qty = r.qty })) ⊎ (reserved_in p.act k.came (r ∷ rs) ≡ 0)
                → find test (cons_option (name_of r) (named_rows order_rows lot_rows rs)) ≡ share_row o l (reserved_in p.act k.came (r ∷ rs))
            at_pair t none (inl all) =
                ap (λ x. find test (cons_option x (named_rows order_rows lot_rows rs))) (all r t)
                ∙ ap (λ b. if b then Some (record { order = o; lot = l; qty = r.qty }) else find test (named_rows order_rows lot_rows rs)) (λ i. same_text_refl o i && is_lot_refl l i)
                ∙ ap (λ b. if b then None else Some (record { order = o; lot = l; qty = r.qty })) (sym some.0)
                ∙ ap (share_row o l) (sym (own_qty t none))
            at_pair t none (inr zero) = let z : r.qty ≡ 0 = sym (own_qty t none) ∙ zero in let f : true ≡ false = sym (eq-eqb r.qty 0 z) ∙ some.0 in cc

            without : pair r ≡ false → reserved_in p.act k.came (r ∷ rs) ≡ reserved_in p.act k.came rs
            without t = let e : (if pair r then r.qty else 0) ≡ 0 = ap (λ b. if b then r.qty else 0) t in omega (arith, e)

            rest_of : pair r ≡ false → ((r : Row) → pair r ≡ true → name_of r ≡ Some (record { order = o; lot = l; qty = r.qty })) ⊎ (reserved_in p.act k.came (r ∷ rs) ≡ 0)
                → ((r : Row) → pair r ≡ true → name_of r ≡ Some (record { order = o; lot = l; qty = r.qty })) ⊎ (reserved_in p.act k.came rs ≡ 0)
            rest_of t (inl all) = inl all
            rest_of t (inr zero) = inr (sym (without t) ∙ zero)

            by_name : (x : Option ReservedRow) → name_of r ≡ x → pair r ≡ false → find test (named_rows order_rows lot_rows rs) ≡ share_row o l (reserved_in p.act k.came rs)
                → find test (cons_option x (named_rows order_rows lot_rows rs)) ≡ share_row o l (reserved_in p.act k.came (r ∷ rs))
            by_name None e t h = h ∙ ap (share_row o l) (sym (without t))
            by_name (Some n) e t h = elim (test n) as (λ b. test n ≡ b → (if b then Some n else find test (named_rows order_rows lot_rows rs)) ≡ share_row o l (reserved_in p.act k.came (r ∷ rs))) [
              | true ↦ λ u. let f = pair_if_passing r n e u in cc
              | false ↦ λ u. h ∙ ap (share_row o l) (sym (without t))
            ] refl

module _ (first : ℤ) (acts : List Act) (history : IsHistory first acts) (g : List ℕ) (read : Rows) (orders_own : AreOwn (λ (r : OrderRow). r.order) (λ o. true) (order_row first acts) read.orders) (tells : TellsSupplies first acts g read) where
  module _ (o : List ℕ) (l : LotId) (own : of_item g l ≡ true) (found : is_open first acts o && has_line acts o g ≡ true → find (λ (r : OrderRow). same_text o r.order) read.orders ≡ order_row first acts o) where
    same_item : g ≡ l.gtin
    same_item = same_text_is g l.gtin own

    pub by_plan : reserved first acts o l ≡ reserved_of (order_named acts o) (lot_known acts l) (plan first acts g)
    by_plan = ap (λ (x : List ℕ). reserved_of (order_named acts o) (lot_known acts l) (plan first acts x)) (sym same_item)

    -- an order that is closed or has no line of the item has nothing reserved
    unneeded : (p : Placed) → order_named acts o ≡ Some p → is_open first acts o && has_line acts o g ≡ false → reserved first acts o l ≡ 0
    unneeded p named e =
        elim (is_open first acts o) as (λ b. is_open first acts o ≡ b → b && has_line acts o g ≡ false → reserved first acts o l ≡ 0) [
          | true ↦ λ t f.
              let none : list_any (λ x. same_text l.gtin x.gtin) p.lines ≡ false = ap (λ q. list_any (λ x. same_text l.gtin x.gtin) (lines_placed q)) (sym named) ∙ ap (λ (x : List ℕ). has_line acts o x) (sym same_item) ∙ f in
              let zero : total (λ b. need acts (item_postings first acts l.gtin) b) (map (booking_of p) (filter (λ x. same_text l.gtin x.gtin) p.lines)) ≡ 0 =
              ap (λ ls. total (λ b. need acts (item_postings first acts l.gtin) b) (map (booking_of p) ls)) (no_line l.gtin p.lines none) in
              omega (arith, reserved_within_needs first acts o l p named, zero)
          | false ↦ λ t f. (closed_orders_are_empty first acts o l history t).1
        ] refl e

    -- a needed order's row and the row of a lot in stock are found by number
    all_named : (p : Placed) (k : KnownLot) → order_named acts o ≡ Some p → lot_known acts l ≡ Some k → in_stock g read.stock l ≡ true → is_open first acts o && has_line acts o g ≡ true
        → (r : Row) → (r.booking == p.act) && (r.lot == k.came) ≡ true → name_of first acts read.orders read.lots orders_own tells.lots.own r ≡ Some (record { order = o; lot = l; qty = r.qty })
    all_named p k order lot there needed r e =
        let two = and_both (r.booking == p.act) (r.lot == k.came) e in
        let x = by_number (λ (r : OrderRow). r.order) (λ (r : OrderRow). r.act) (order_row first acts) (one_order first acts) read.orders orders_own (λ r. same_text o r.order) (show_order first acts p)
        (found needed ∙ ap (option_map (show_order first acts)) order) in
        let y = by_number (λ (r : LotRow). r.lot) (λ (r : LotRow). r.came) (lot_row acts) (one_lot first acts) read.lots tells.lots.own (λ r. is_lot l r.lot) (show_lot first acts k)
        (tells.lots.found l there ∙ ap (option_map (show_lot first acts)) lot) in
        (λ i. named_row (find (λ (z : OrderRow). eqb-true r.booking p.act two.0 i == z.act) read.orders) (find (λ (z : LotRow). eqb-true r.lot k.came two.1 i == z.came) read.lots) r.qty)
        ∙ (λ i. named_row (x i) (y i) r.qty)
        ∙ (λ i. Some (record { order = sym (found_order o (orders acts) p order) i; lot = sym (found_lot l (lots acts) k lot) i; qty = r.qty }))

    by_stock : (p : Placed) (k : KnownLot) → order_named acts o ≡ Some p → lot_known acts l ≡ Some k → (b : Bool) → in_stock g read.stock l ≡ b
        → ((r : Row) → (r.booking == p.act) && (r.lot == k.came) ≡ true → name_of first acts read.orders read.lots orders_own tells.lots.own r ≡ Some (record { order = o; lot = l; qty = r.qty })) ⊎ (reserved_in p.act k.came (plan first acts g) ≡ 0)
    by_stock p k e f true there =
        elim (is_open first acts o && has_line acts o g) as (λ b. is_open first acts o && has_line acts o g ≡ b
        → ((r : Row) → (r.booking == p.act) && (r.lot == k.came) ≡ true → name_of first acts read.orders read.lots orders_own tells.lots.own r ≡ Some (record { order = o; lot = l; qty = r.qty })) ⊎ (reserved_in p.act k.came (plan first acts g) ≡ 0)) [
          | true ↦ λ t. inl (all_named p k e f there t)
          | false ↦ λ t. inr ((λ i. reserved_of (sym e i) (sym f i) (plan first acts g)) ∙ sym by_plan ∙ unneeded p e t)
        ] refl
    by_stock p k e f false none =
        inr (none_reserved first acts g l (λ own. none_in_store first acts history g read tells l own none) k f p.act)

  -- Rows of the plan, as far as what is not reserved in the plan is not reserved in them

  module _ (rest : List Row) (rest_some : AllSome rest) (rest_once : no_two same_pair rest ≡ true) (none_behind : (b k : ℕ) → reserved_in b k (plan first acts g) ≡ 0 → reserved_in b k rest ≡ 0) where
    pub behind_once : no_two is_share_of (named_rows read.orders read.lots rest) ≡ true
    behind_once = named_once first acts read.orders read.lots orders_own tells.lots.own rest rest_once

    module _ (o : List ℕ) (l : LotId) (own : of_item g l ≡ true) (found : is_open first acts o && has_line acts o g ≡ true → find (λ (r : OrderRow). same_text o r.order) read.orders ≡ order_row first acts o) where
      told : (x : Option Placed) (y : Option KnownLot) → order_named acts o ≡ x → lot_known acts l ≡ y
          → find (λ (r : ReservedRow). same_text o r.order && is_lot l r.lot) (named_rows read.orders read.lots rest) ≡ share_row o l (reserved_of x y rest)
      told None y e f = all_fail first acts read.orders read.lots orders_own tells.lots.own o l (λ r n h t. let a = passing first acts read.orders read.lots orders_own tells.lots.own o l r n h t in cc) rest
      told (Some p) None e f = all_fail first acts read.orders read.lots orders_own tells.lots.own o l (λ r n h t. let a = passing first acts read.orders read.lots orders_own tells.lots.own o l r n h t in let b = a.3.1 in cc) rest
      told (Some p) (Some k) e f = told_by first acts read.orders read.lots orders_own tells.lots.own o l p k e f rest rest_some rest_once (in_rest (by_stock o l own found p k e f (in_stock g read.stock l) refl))
        where
          in_rest : ((r : Row) → (r.booking == p.act) && (r.lot == k.came) ≡ true → name_of first acts read.orders read.lots orders_own tells.lots.own r ≡ Some (record { order = o; lot = l; qty = r.qty })) ⊎ (reserved_in p.act k.came (plan first acts g) ≡ 0)
              → ((r : Row) → (r.booking == p.act) && (r.lot == k.came) ≡ true → name_of first acts read.orders read.lots orders_own tells.lots.own r ≡ Some (record { order = o; lot = l; qty = r.qty })) ⊎ (reserved_in p.act k.came rest ≡ 0)
          in_rest (inl all) = inl all
          in_rest (inr none) = inr (none_behind p.act k.came none)

      pub behind_told : find (λ (r : ReservedRow). same_text o r.order && is_lot l r.lot) (named_rows read.orders read.lots rest) ≡ share_row o l (reserved_of (order_named acts o) (lot_known acts l) rest)
      behind_told = told (order_named acts o) (lot_known acts l) refl refl

    -- a lot of another item has no share
    module _ (o : List ℕ) (l : LotId) (other : of_item g l ≡ false) where
      none_of_other : (k : KnownLot) → lot_known acts l ≡ Some k → (b : ℕ) → reserved_in b k.came rest ≡ 0
      none_of_other k known b = none_behind b k.came (none_reserved first acts g l (λ own. let f : true ≡ false = sym own ∙ other in cc) k known b)

      none_told : (x : Option Placed) (y : Option KnownLot) → order_named acts o ≡ x → lot_known acts l ≡ y
          → find (λ (r : ReservedRow). same_text o r.order && is_lot l r.lot) (named_rows read.orders read.lots rest) ≡ None
      none_told None y e f = all_fail first acts read.orders read.lots orders_own tells.lots.own o l (λ r n h t. let a = passing first acts read.orders read.lots orders_own tells.lots.own o l r n h t in cc) rest
      none_told (Some p) None e f = all_fail first acts read.orders read.lots orders_own tells.lots.own o l (λ r n h t. let a = passing first acts read.orders read.lots orders_own tells.lots.own o l r n h t in let b = a.3.1 in cc) rest
      none_told (Some p) (Some k) e f =
          told_by first acts read.orders read.lots orders_own tells.lots.own o l p k e f rest rest_some rest_once (inr (none_of_other k f p.act))
          ∙ ap (share_row o l) (none_of_other k f p.act)

      pub behind_elsewhere : find (λ (r : ReservedRow). same_text o r.order && is_lot l r.lot) (named_rows read.orders read.lots rest) ≡ None
      behind_elsewhere = none_told (order_named acts o) (lot_known acts l) refl refl

  -- The whole plan

  pub shares_once : no_two is_share_of (named_rows read.orders read.lots (plan first acts g)) ≡ true
  shares_once = behind_once (plan first acts g) (plan_some first acts history g) (plan_once first acts history g) (λ b k e. e)

  pub shares_told : (o : List ℕ) (l : LotId) → of_item g l ≡ true → (is_open first acts o && has_line acts o g ≡ true → find (λ (r : OrderRow). same_text o r.order) read.orders ≡ order_row first acts o)
      → find (λ (r : ReservedRow). same_text o r.order && is_lot l r.lot) (named_rows read.orders read.lots (plan first acts g)) ≡ share_row o l (reserved first acts o l)
  shares_told o l own found = behind_told (plan first acts g) (plan_some first acts history g) (plan_once first acts history g) (λ b k e. e) o l own found ∙ ap (share_row o l) (sym (by_plan o l own found))

  pub shares_elsewhere : (o : List ℕ) (l : LotId) → of_item g l ≡ false → find (λ (r : ReservedRow). same_text o r.order && is_lot l r.lot) (named_rows read.orders read.lots (plan first acts g)) ≡ None
  shares_elsewhere o l other = behind_elsewhere (plan first acts g) (plan_some first acts history g) (plan_once first acts history g) (λ b k e. e) o l other
