-- The order rows, lines and staged rows of an item tell its demands.
use Rattle.rules.proofs.Words.{◌≡◌, ℕ, ◌+◌, ◌-◌, ◌≤◌, ◌<◌, Bool, true, false, ◌&&◌, not, List, [], ◌∷◌, refl, ap, sym, subst, ◌∙◌, arith, eq-eqb, ◌==◌, nat_lt, if◌then◌else◌, ℤ, Option, Some, None, find, filter, map, option_map, list_any, AllByRecursion, eqb-true, filter-append, ltb-false, lt-ltb, same_text, LotId, total, OrderLine, Open, Done, Cancelled, OrderRow, UrgentRow, LineRow, StagedRow, plan_total, Demand, wanted, Act, Posting, Place, Supplier, InBin, Stage, Shipped, WriteOff, is_stage, of_item, in_house, Placed, orders, order_named, lines_placed, has_line, is_cancelled, postings, Booking, booking_of, lines_of_item, need, demands, item_postings, staged, shipped, shipped_of, is_open, is_open_state, is_shipped_in_full, order_state, IsHistory, order_row, urgent_row, line_row, staged_row, AreRows, AreOwn, no_two, same_line, same_share, names_item_twice, capped, inserted, staged_seen, line_need, need_seen, demand_seen, is_earlier, is_urgent_seen, is_normal_seen, demands_by_number, unequal_turned, later_than, nothing_if, and_both, or_none, not_true, same_text_is, same_text_refl, same_text_turned, AllFound, Cells, holds, holds_split, balance-of_item, legal_history, AllSingle, NoNeed, same_order, orders_apart, orders_found, orders_single, closed_needs_none, act_names_order, RisingDemands, AfterDemands, wanted_by, none_more, AreServed, AllClass, urgent_number, served_in_class, served_both, demands_told, same_wanted, units_within_limit, staged_holds, stage_cells, Rows, demands_in}
use Rattle.rules.proofs.rows.Telling.{rows_tell, some_of_mapped, found_key}
use Rattle.rules.proofs.rows.Ordering.{AllBehind, AreRising, AllOrdered, AreOrdered, all_inserted, rising_kept, rising_inserted, total_inserted, total_map}
use Rattle.rules.proofs.rows.KeptRows.{kept_rows}
use Rattle.rules.proofs.rows.BookingSums.{total_append, total_parted}
use Rattle.rules.proofs.rows.ClassesTold.{number_told, class_told}

pub same_total : {X : Type 0} (f : X → ℕ) (xs : List X) → plan_total f xs ≡ total f xs
same_total f [] = refl
same_total f (x ∷ xs) = ap (λ n. f x + n) (same_total f xs)

-- the rows of the item, and those of the urgent orders among its orders
pub record TellsDemands (first : ℤ) (acts : List Act) (g : List ℕ) (read : Rows) : Type 0 where
  pub orders : AreRows same_text (λ (r : OrderRow). r.order) (λ o. is_open first acts o && has_line acts o g) (λ o. true) (order_row first acts) read.orders
  pub lines : AreRows same_line (λ (r : LineRow). (r.order, r.gtin)) (λ k. is_open first acts k.0 && same_text g k.1) (λ k. true) (λ k. line_row first acts k.0 k.1) read.lines
  pub staged : AreRows same_share (λ (r : StagedRow). (r.order, r.lot)) (λ k. of_item g k.1) (λ k. true) (λ k. staged_row first acts k.0 k.1) read.staged
  pub urgents : (o : List ℕ) → is_open first acts o && has_line acts o g ≡ true → find (λ (r : UrgentRow). same_text o r.order) read.urgents ≡ urgent_row acts o

-- what the bookings want under a number
abbrev pub wants : List Act → List Posting → ℕ → List Booking → ℕ
wants acts ps n bs = total (λ b. if n == b.act then need acts ps b else 0) bs

no_need_wants : (acts : List Act) (ps : List Posting) (n : ℕ) (bs : List Booking) → NoNeed acts ps bs → wants acts ps n bs ≡ 0
no_need_wants acts ps n [] h = refl
no_need_wants acts ps n (b ∷ bs) h = omega (arith, nothing (n == b.act) (need acts ps b) h.0, no_need_wants acts ps n bs h.1)
  where
    nothing : (t : Bool) (q : ℕ) → q ≡ 0 → (if t then q else 0) ≡ 0
    nothing true q e = e
    nothing false q e = refl

-- a single line of the item
abbrev pub listed : Option OrderLine → List OrderLine
listed None = []
listed (Some l) = l ∷ []

pub line_found : (g : List ℕ) (ls : List OrderLine) → names_item_twice ls ≡ false → filter (λ l. same_text g l.gtin) ls ≡ listed (find (λ l. same_text g l.gtin) ls)
line_found g [] e = refl
line_found g (l ∷ ls) e =
    let two = or_none (list_any (λ m. same_text l.gtin m.gtin) ls) (names_item_twice ls) e in
    elim (same_text g l.gtin) as (λ b. same_text g l.gtin ≡ b → (if b then l ∷ filter (λ l. same_text g l.gtin) ls else filter (λ l. same_text g l.gtin) ls) ≡ listed (if b then Some l else find (λ l. same_text g l.gtin) ls)) [
      | true ↦ λ t. ap (λ xs. l ∷ xs) (none_more g l ls t two.0)
      | false ↦ λ t. line_found g ls two.1
    ] refl

pub no_line : (g : List ℕ) (ls : List OrderLine) → list_any (λ l. same_text g l.gtin) ls ≡ false → filter (λ l. same_text g l.gtin) ls ≡ []
no_line g [] e = refl
no_line g (l ∷ ls) e =
    let two = or_none (same_text g l.gtin) (list_any (λ l. same_text g l.gtin) ls) e in
    ap (λ b. if b then l ∷ filter (λ l. same_text g l.gtin) ls else filter (λ l. same_text g l.gtin) ls) two.0 ∙ no_line g ls two.1

pub single_of : (all ps : List Placed) → AllSingle all → (o : List ℕ) (p : Placed) → find (λ q. same_text o q.order) all ≡ Some p → names_item_twice p.lines ≡ false
single_of [] ps h o p e = cc
single_of (q ∷ qs) ps h o p e = elim (same_text o q.order) as (λ b. (if b then Some q else find (λ q. same_text o q.order) qs) ≡ Some p → names_item_twice p.lines ≡ false) [
  | true ↦ λ f. let own : q ≡ p = cc in ap (λ (x : Placed). names_item_twice x.lines) (sym own) ∙ h.0
  | false ↦ λ f. single_of qs ps h.1 o p f
] e

pub open_is_uncancelled : (b c : Bool) → is_open_state (if b then Cancelled else (if c then Done else Open)) ≡ true → b ≡ false
open_is_uncancelled true c e = let f : false ≡ true = e in cc
open_is_uncancelled false c e = refl

pub either : (a b : Bool) → a && b ≡ false → a ≡ true → b ≡ false
either true b e f = e
either false b e f = cc

-- Numbers

below : (a b : ℕ) → a ≤ b → (b == a) ≡ false → a < b
below a b l t = elim (b == a) as (λ x. (b == a) ≡ x → x ≡ false → a < b) [
  | true ↦ λ e f. cc
  | false ↦ λ e f. strict (λ same. let g : true ≡ false = sym (eq-eqb b a (sym same)) ∙ e in cc)
] refl t
  where
    strict : (a ≡ b → ⊥) → a < b
    strict other = omega (arith, other)

pub either_way : (a b : ℕ) → (a == b) ≡ false → (nat_lt a b ≡ false → nat_lt b a ≡ true) × (nat_lt b a ≡ false → nat_lt a b ≡ true)
either_way a b e = (λ f. lt-ltb b a (below b a (ltb-false a b f) e), λ f. lt-ltb a b (below a b (ltb-false b a f) (unequal_turned a b e)))

after_of : (d : Demand) (ds : List Demand) → AllBehind is_earlier d ds → AfterDemands d.booking ds
after_of d [] h = tt
after_of d (e ∷ es) h = (h.0, after_of d es h.1)

rising_of : (ds : List Demand) → AreRising is_earlier ds → RisingDemands ds
rising_of [] h = tt
rising_of (d ∷ ds) h = (after_of d ds h.0, rising_of ds h.1)

-- Demands that want something

wanted_twice : (ds : List Demand) → wanted (wanted ds) ≡ wanted ds
wanted_twice [] = refl
wanted_twice (d ∷ ds) = elim (not (d.need == 0)) as (λ b. not (d.need == 0) ≡ b → wanted (if b then d ∷ wanted ds else wanted ds) ≡ (if b then d ∷ wanted ds else wanted ds)) [
  | true ↦ λ e. ap (λ b. if b then d ∷ wanted (wanted ds) else wanted (wanted ds)) e ∙ ap (λ es. d ∷ es) (wanted_twice ds)
  | false ↦ λ e. wanted_twice ds
] refl

wanted_same : (n : ℕ) (ds : List Demand) → wanted_by n (wanted ds) ≡ wanted_by n ds
wanted_same n [] = refl
wanted_same n (d ∷ ds) = elim (d.need == 0) as (λ b. (d.need == 0) ≡ b → wanted_by n (if not b then d ∷ wanted ds else wanted ds) ≡ (if n == d.booking then d.need else 0) + wanted_by n ds) [
  | true ↦ λ e. omega (arith, ap (λ q. if n == d.booking then q else 0) (eqb-true d.need 0 e), nothing_if (n == d.booking), wanted_same n ds)
  | false ↦ λ e. ap (λ q. (if n == d.booking then d.need else 0) + q) (wanted_same n ds)
] refl

-- The staged rows of an item tell what is staged of it for an order
module _ (first : ℤ) (acts : List Act) (history : IsHistory first acts) (g : List ℕ) (staged_rows : List StagedRow)
    (staged_are : AreRows same_share (λ (r : StagedRow). (r.order, r.lot)) (λ k. of_item g k.1) (λ k. true) (λ k. staged_row first acts k.0 k.1) staged_rows) where
  abbrev pick : List ℕ → LotId → List ℕ → Bool
  pick o l q = same_text o q && of_item g l

  cells_same : (o : List ℕ) (p : Place) (l : LotId) → is_stage o p && of_item g l ≡ stage_cells (pick o) p l
  cells_same o (Stage q) l = refl
  cells_same o Supplier l = refl
  cells_same o (InBin b) l = refl
  cells_same o WriteOff l = refl
  cells_same o (Shipped n q) l = refl

  in_the_house : (o : List ℕ) (p : Place) (l : LotId) → is_stage o p && of_item g l ≡ true → in_house p && of_item g l ≡ true
  in_the_house o (Stage q) l e = (and_both (same_text o q) (of_item g l) e).1
  in_the_house o Supplier l e = e
  in_the_house o WriteOff l e = e
  in_the_house o (InBin b) l e = let f : false ≡ true = e in cc
  in_the_house o (Shipped n q) l e = e

  pub staged_same : (o : List ℕ) → capped (staged_seen g o staged_rows) ≡ staged (item_postings first acts g) o g
  staged_same o =
      let legal = legal_history first acts history in
      let cells : Cells = λ p l. is_stage o p && of_item g l in
      let all : staged (item_postings first acts g) o g ≡ holds cells (postings first acts) = balance-of_item (is_stage o) g (of_item g) (λ l e. e) (postings first acts) in
      let told : holds cells (postings first acts) ≡ staged_seen g o staged_rows =
      (λ i. holds (λ p l. cells_same o p l i) (postings first acts)) ∙ staged_holds first acts legal (pick o) (λ k. of_item g k.1) (λ k. true) staged_rows staged_are (λ l q e. (and_both (same_text o q) (of_item g l) e).1) in
      let house = holds_split (postings first acts) legal cells (λ p l. in_house p && of_item g l) (record { supplier = λ m. refl; write_off = λ m. refl }) (record { supplier = λ m. refl; write_off = λ m. refl }) (in_the_house o) in
      omega (arith, all, told, house, units_within_limit first acts history g)

module _ (first : ℤ) (acts : List Act) (history : IsHistory first acts) (g : List ℕ) (read : Rows) (tells : TellsDemands first acts g read) where
  abbrev ips : List Posting
  ips = item_postings first acts g

  abbrev show : Placed → OrderRow
  show p = record { order = p.order; act = p.act; customer = p.customer; state = order_state first acts p.order }

  abbrev wanted_of : ℕ → Option Placed → ℕ
  wanted_of n None = 0
  wanted_of n (Some p) = wants acts ips n (lines_of_item g p)

  -- what the order wants of the item under the number
  abbrev order_wants : ℕ → List ℕ → ℕ
  order_wants n o = wanted_of n (order_named acts o)

  pub line_told : (p : Placed) → order_named acts p.order ≡ Some p → is_open first acts p.order ≡ true
      → find (λ l. same_text p.order l.order && same_text g l.gtin) read.lines ≡ option_map (λ l. record { order = p.order; gtin = g; ordered = l.qty; shipped = shipped_of first acts p.order g }) (find (λ l. same_text g l.gtin) p.lines)
  line_told p named e =
      tells.lines.found (p.order, g) (λ i. (e i) && same_text_refl g i)
      ∙ ap (λ q. option_map (λ (l : OrderLine). record { order = p.order; gtin = g; ordered = l.qty; shipped = shipped_of first acts p.order g }) (find (λ l. same_text g l.gtin) (lines_placed q))) named

  by_line : (n : ℕ) (p : Placed) → is_open first acts p.order ≡ true → (x : Option OrderLine) → find (λ l. same_text g l.gtin) p.lines ≡ x
      → (if n == p.act then line_need (option_map (λ l. record { order = p.order; gtin = g; ordered = l.qty; shipped = shipped_of first acts p.order g }) x) (capped (staged_seen g p.order read.staged)) else 0)
      ≡ wants acts ips n (map (booking_of p) (listed x))
  by_line n p e None f = nothing_if (n == p.act)
  by_line n p e (Some l) f =
      let own : g ≡ l.gtin = found_key same_text same_text_is same_text_turned (λ (m : OrderLine). m.gtin) g p.lines l f in
      let uncancelled : is_cancelled acts p.order ≡ false = open_is_uncancelled (is_cancelled acts p.order) (is_shipped_in_full first acts p.order) e in
      let one : need acts ips (booking_of p l) ≡ l.qty - staged ips p.order l.gtin - shipped ips p.order l.gtin = ap (λ b. if b then 0 else l.qty - staged ips p.order l.gtin - shipped ips p.order l.gtin) uncancelled in
      let same : l.qty - capped (staged_seen g p.order read.staged) - shipped_of first acts p.order g ≡ need acts ips (booking_of p l) =
      ap (λ n. l.qty - n - shipped_of first acts p.order g) (staged_same first acts history g read.staged tells.staged p.order) ∙ (λ i. l.qty - staged ips p.order (own i) - shipped ips p.order (own i)) ∙ sym one in
      let end : (if n == p.act then need acts ips (booking_of p l) else 0) ≡ wants acts ips n (map (booking_of p) (listed (Some l))) = omega arith in
      ap (λ q. if n == p.act then q else 0) same ∙ end

  at_placed : (n : ℕ) (p : Placed) → order_named acts p.order ≡ Some p → (if n == p.act then need_seen g read.lines read.staged (show p) else 0) ≡ order_wants n p.order
  at_placed n p named =
      elim (is_open first acts p.order) as (λ b. is_open first acts p.order ≡ b
      → (if n == p.act then (if b then line_need (find (λ l. same_text p.order l.order && same_text g l.gtin) read.lines) (capped (staged_seen g p.order read.staged)) else 0) else 0) ≡ wants acts ips n (lines_of_item g p)) [
        | true ↦ λ e.
            ap (λ x. if n == p.act then line_need x (capped (staged_seen g p.order read.staged)) else 0) (line_told p named e) ∙ by_line n p e (find (λ l. same_text g l.gtin) p.lines) refl
            ∙ ap (λ ls. wants acts ips n (map (booking_of p) ls)) (sym (line_found g p.lines (single_of (orders acts) [] (orders_single first acts history) p.order p named)))
        | false ↦ λ e. nothing_if (n == p.act) ∙ sym (no_need_wants acts ips n (lines_of_item g p) (closed_needs_none first acts g p named e))
      ] refl
      ∙ sym (ap (wanted_of n) named)

  row_told : (n : ℕ) (r : OrderRow) → order_row first acts r.order ≡ Some r → (if n == r.act then need_seen g read.lines read.staged r else 0) ≡ order_wants n r.order
  row_told n r e =
      let m = some_of_mapped show (order_named acts r.order) r e in
      let P : OrderRow → Type 0 = λ x. (if n == x.act then need_seen g read.lines read.staged x else 0) ≡ order_wants n x.order in
      subst P m.2 (at_placed n m.0 (ap (λ (x : OrderRow). order_named acts x.order) m.2 ∙ m.1))

  rows_told : (n : ℕ) (rows : List OrderRow) → AreOwn (λ (r : OrderRow). r.order) (λ o. true) (order_row first acts) rows
      → total (λ (r : OrderRow). if n == r.act then need_seen g read.lines read.staged r else 0) rows ≡ total (λ (r : OrderRow). order_wants n r.order) rows
  rows_told n [] h = refl
  rows_told n (r ∷ rs) h = λ i. row_told n r h.1 i + rows_told n rs h.2 i

  none_if_not_needed : (n : ℕ) (p : Placed) → order_named acts p.order ≡ Some p → is_open first acts p.order && has_line acts p.order g ≡ false → order_wants n p.order ≡ 0
  none_if_not_needed n p named e =
      ap (wanted_of n) named
      ∙ elim (is_open first acts p.order) as (λ b. is_open first acts p.order ≡ b → wants acts ips n (lines_of_item g p) ≡ 0) [
        | true ↦ λ t.
            let none : list_any (λ l. same_text g l.gtin) p.lines ≡ false =
            ap (λ q. list_any (λ l. same_text g l.gtin) (lines_placed q)) (sym named) ∙ either (is_open first acts p.order) (has_line acts p.order g) e t in
            ap (λ ls. wants acts ips n (map (booking_of p) ls)) (no_line g p.lines none)
        | false ↦ λ t. no_need_wants acts ips n (lines_of_item g p) (closed_needs_none first acts g p named t)
      ] refl

  each_named : (n : ℕ) (ps : List Placed) → AllFound same_order (orders acts) ps → total (λ (p : Placed). order_wants n p.order) ps ≡ total (λ (p : Placed). wants acts ips n (lines_of_item g p)) ps
  each_named n [] h = refl
  each_named n (p ∷ ps) h = λ i. wanted_of n (h.0 i) + each_named n ps h.1 i

  abbrev one : OrderRow → Demand
  one = demand_seen g read.lines read.staged

  -- if it wants something, it is of the class
  abbrev IsOf : Bool → Demand → Type 0
  IsOf c d = not (d.need == 0) ≡ true → urgent_number acts d.booking ≡ c

  wanted_class : (c : Bool) (ds : List Demand) → AllByRecursion (IsOf c) ds → AllClass (urgent_number acts) c (wanted ds)
  wanted_class c [] h = tt
  wanted_class c (d ∷ ds) h = elim (not (d.need == 0)) as (λ b. not (d.need == 0) ≡ b → AllClass (urgent_number acts) c (if b then d ∷ wanted ds else wanted ds)) [
    | true ↦ λ e. (h.0 e, wanted_class c ds h.1)
    | false ↦ λ e. wanted_class c ds h.1
  ] refl

  told : (n : ℕ) → wanted_by n (demands_in g read) ≡ wanted_by n (demands first acts g)
  told n =
      let f : Demand → ℕ = λ d. if n == d.booking then d.need else 0 in
      let ones = filter (is_urgent_seen read.urgents) read.orders in
      let others = filter (is_normal_seen read.urgents) read.orders in
      let both : total f (demands_in g read) ≡ total (λ r. f (one r)) read.orders =
      omega (
        arith,
        total_append f (inserted is_earlier [] (map one ones)) (inserted is_earlier [] (map one others)),
        total_inserted is_earlier f [] (map one ones),
        total_inserted is_earlier f [] (map one others),
        total_map f one ones,
        total_map f one others,
        total_parted (λ r. f (one r)) (is_urgent_seen read.urgents) read.orders,
      ) in
      same_total f (demands_in g read) ∙ both
      ∙ rows_told n read.orders tells.orders.own
      ∙ rows_tell same_text same_text_is same_text_turned (λ (p : Placed). p.order) (λ (r : OrderRow). r.order) show (orders acts) (orders_apart first acts history) (orders_found first acts history)
      (order_wants n) (λ o. is_open first acts o && has_line acts o g) (λ o. true) read.orders tells.orders.found tells.orders.own tells.orders.once (none_if_not_needed n)
      ∙ each_named n (orders acts) (orders_found first acts history) ∙ sym (demands_told first acts g n)

  -- numbers of orders are apart
  numbers_apart : (r s : OrderRow) → order_row first acts r.order ≡ Some r → order_row first acts s.order ≡ Some s → same_text r.order s.order ≡ false → (r.act == s.act) ≡ false
  numbers_apart r s e f other =
      elim (r.act == s.act) as (λ b. (r.act == s.act) ≡ b → b ≡ false) [
        | true ↦ λ t.
            let m = some_of_mapped show (order_named acts r.order) r e in
            let k = some_of_mapped show (order_named acts s.order) s f in
            let same : m.0.act ≡ k.0.act = ap (λ (x : OrderRow). x.act) m.2 ∙ eqb-true r.act s.act t ∙ sym (ap (λ (x : OrderRow). x.act) k.2) in
            let one : r.order ≡ s.order = act_names_order acts r.order s.order m.0 k.0 m.1 k.1 same in
            let yes : same_text r.order s.order ≡ true = ap (same_text r.order) (sym one) ∙ same_text_refl r.order in
            let no : true ≡ false = sym yes ∙ other in
            cc
        | false ↦ λ t. refl
      ] refl

  all_ordered : (r : OrderRow) (rows : List OrderRow) → order_row first acts r.order ≡ Some r → AreOwn (λ (r : OrderRow). r.order) (λ o. true) (order_row first acts) rows
      → list_any (λ (s : OrderRow). same_text r.order s.order) rows ≡ false → AllOrdered is_earlier (demand_seen g read.lines read.staged r) (map (demand_seen g read.lines read.staged) rows)
  all_ordered r [] e h f = tt
  all_ordered r (s ∷ ss) e h f =
      let two = or_none (same_text r.order s.order) (list_any (λ (s : OrderRow). same_text r.order s.order) ss) f in
      (either_way r.act s.act (numbers_apart r s e h.1 two.0), all_ordered r ss e h.2 two.1)

  are_ordered : (rows : List OrderRow) → AreOwn (λ (r : OrderRow). r.order) (λ o. true) (order_row first acts) rows → no_two (λ (r s : OrderRow). same_text r.order s.order) rows ≡ true
      → AreOrdered is_earlier (map (demand_seen g read.lines read.staged) rows)
  are_ordered [] h e = tt
  are_ordered (r ∷ rs) h e =
      let two = and_both (not (list_any (λ (s : OrderRow). same_text r.order s.order) rs)) (no_two (λ (r s : OrderRow). same_text r.order s.order) rs) e in
      (all_ordered r rs h.1 h.2 (not_true _ two.0), are_ordered rs h.2 two.1)

  -- Each order that wants something is of the class that the rows of urgent orders tell

  abbrev IsClassed : OrderRow → Type 0
  IsClassed r = not (need_seen g read.lines read.staged r == 0) ≡ true → urgent_number acts r.act ≡ is_urgent_seen read.urgents r

  -- an order that is closed, or has no line of the item, wants nothing
  wants_none : (r : OrderRow) → order_row first acts r.order ≡ Some r → is_open first acts r.order && has_line acts r.order g ≡ false → need_seen g read.lines read.staged r ≡ 0
  wants_none r e closed =
      let m = some_of_mapped show (order_named acts r.order) r e in
      let own : order_named acts m.0.order ≡ Some m.0 = ap (λ (x : OrderRow). order_named acts x.order) m.2 ∙ m.1 in
      ap (λ b. if b then need_seen g read.lines read.staged r else 0) (sym (eq-eqb r.act r.act refl))
      ∙ row_told r.act r e ∙ ap (λ (x : OrderRow). order_wants r.act x.order) (sym m.2)
      ∙ none_if_not_needed r.act m.0 own (ap (λ (x : OrderRow). is_open first acts x.order && has_line acts x.order g) m.2 ∙ closed)

  classed : (r : OrderRow) → order_row first acts r.order ≡ Some r → IsClassed r
  classed r e = elim (is_open first acts r.order && has_line acts r.order g) as (λ b. is_open first acts r.order && has_line acts r.order g ≡ b → IsClassed r) [
    | true ↦ λ t some.
        let m = some_of_mapped show (order_named acts r.order) r e in
        ap (λ (x : OrderRow). urgent_number acts x.act) (sym m.2) ∙ number_told acts r.order m.0 m.1 ∙ sym (class_told acts r.order m.0 m.1 read.urgents (tells.urgents r.order t))
    | false ↦ λ t some. let f : false ≡ true = ap (λ n. not (n == 0)) (sym (wants_none r e t)) ∙ some in cc
  ] refl

  all_classed : (rows : List OrderRow) → AreOwn (λ (r : OrderRow). r.order) (λ o. true) (order_row first acts) rows → AllByRecursion IsClassed rows
  all_classed [] own = tt
  all_classed (r ∷ rs) own = (classed r own.1, all_classed rs own.2)

  -- The orders of a class, told by their names

  module _ (c : Bool) (keep : List ℕ → Bool) (of_class : (r : OrderRow) → IsClassed r → keep r.order ≡ true → IsOf c (one r)) where
    abbrev rows_of : List OrderRow
    rows_of = filter (λ r. keep r.order) read.orders

    rows_are : AreRows same_text (λ (r : OrderRow). r.order) (λ o. (is_open first acts o && has_line acts o g) && keep o) (λ o. true) (order_row first acts) rows_of
    rows_are =
        kept_rows same_text same_text_is (λ (r : OrderRow). r.order) keep (λ o. is_open first acts o && has_line acts o g) (λ o. (is_open first acts o && has_line acts o g) && keep o) (λ o. true) (λ o. true)
        (order_row first acts) (order_row first acts) (λ o e. and_both (is_open first acts o && has_line acts o g) (keep o) e) (λ o e. e) (λ o e. refl) read.orders tells.orders

    class_kept : (rows : List OrderRow) → AllByRecursion IsClassed rows → AllByRecursion (IsOf c) (map one (filter (λ r. keep r.order) rows))
    class_kept [] h = tt
    class_kept (r ∷ rs) h = elim (keep r.order) as (λ b. keep r.order ≡ b → AllByRecursion (IsOf c) (map one (if b then r ∷ filter (λ r. keep r.order) rs else filter (λ r. keep r.order) rs))) [
      | true ↦ λ e. (of_class r h.0 e, class_kept rs h.1)
      | false ↦ λ e. class_kept rs h.1
    ] refl

    abbrev of_number : List Demand
    of_number = demands_by_number g read.lines read.staged rows_of

    class_same : AllClass (urgent_number acts) c (wanted of_number)
    class_same = wanted_class c of_number (all_inserted is_earlier (IsOf c) [] (map one rows_of) tt (class_kept read.orders (all_classed read.orders tells.orders.own)))

    class_served : AreServed (urgent_number acts) (wanted of_number)
    class_served =
        served_in_class (urgent_number acts) c (wanted of_number) class_same
        (rising_of (wanted of_number) (rising_kept is_earlier _ of_number (rising_inserted is_earlier (λ a b c e f. later_than a.booking b.booking c.booking e f) (map one rows_of) (are_ordered rows_of rows_are.own rows_are.once))))

  -- so the demands that want something stand in the order of service
  rows_served : AreServed (urgent_number acts) (wanted (demands_in g read))
  rows_served =
      let first_names : List ℕ → Bool = λ o. list_any (λ (u : UrgentRow). same_text o u.order) read.urgents in
      let last_names : List ℕ → Bool = λ o. not (first_names o) in
      let ones : (r : OrderRow) → IsClassed r → first_names r.order ≡ true → IsOf true (one r) = λ r h e some. h some ∙ e in
      let others : (r : OrderRow) → IsClassed r → last_names r.order ≡ true → IsOf false (one r) = λ r h e some. h some ∙ not_true _ e in
      subst (AreServed (urgent_number acts)) (sym (filter-append _ (of_number true first_names ones) (of_number false last_names others)))
      (served_both (urgent_number acts) (wanted (of_number true first_names ones)) (wanted (of_number false last_names others)) (class_same true first_names ones) (class_same false last_names others)
      (class_served true first_names ones) (class_served false last_names others))

  -- the rows tell the demands, but for orders that want nothing
  pub rows_tell_demands : wanted (demands_in g read) ≡ wanted (demands first acts g)
  rows_tell_demands =
      let seen = demands_in g read in
      sym (wanted_twice seen) ∙ same_wanted first acts g history (wanted seen) rows_served (λ n. wanted_same n seen ∙ told n)
