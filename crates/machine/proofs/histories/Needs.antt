-- What is reserved for an order of a lot is within what its line needs.
use Rattle.machine.proofs.Words.{◌≡◌, ℕ, ◌+◌, ◌-◌, ◌≤◌, ◌<◌, Bool, true, false, List, [], ◌∷◌, refl, ap, sym, ◌∙◌, arith, ◌==◌, if◌then◌else◌, find, filter, map, Option, Some, None, ℤ, list_any, same_text, LotId, total, OrderLine, Demand, Act, Posting, KnownLot, Placed, orders, order_named, lot_known, Booking, booking_of, lines_of_item, need, demands, supplies, item_postings, plan, reserved, reserved_of, names_item_twice}
use Rattle.machine.proofs.Numbers.{equal_turned, unequal_below}
use Rattle.machine.proofs.Tests.{same_text_is, or_none}
use Rattle.machine.proofs.histories.Falling.{AllBelow, AreFalling, found_below}
use Rattle.machine.proofs.histories.Orders.{orders_numbered, NoNeed}
use Rattle.machine.proofs.histories.Bookings.{wanted_by, none_more}
use Rattle.machine.proofs.histories.Served.{demands_told}
use Rattle.machine.proofs.histories.Reservations.{wanted_under, reserved_within_need}

wanted_either_way : (n : ℕ) (ds : List Demand) → wanted_under n ds ≡ wanted_by n ds
wanted_either_way n [] = refl
wanted_either_way n (d ∷ ds) = λ i. (if equal_turned d.booking n i then d.need else 0) + wanted_either_way n ds i

module _ (acts : List Act) (ps : List Posting) (g : List ℕ) where
  -- what the lines of the item of an order need, and what of it goes under a number
  abbrev pub needs : Placed → ℕ
  needs p = total (λ b. need acts ps b) (lines_of_item g p)

  abbrev under : ℕ → Placed → ℕ
  under n p = total (λ b. if n == b.act then need acts ps b else 0) (lines_of_item g p)

  at_most_all : (n : ℕ) (p : Placed) (ls : List OrderLine) → total (λ b. if n == b.act then need acts ps b else 0) (map (booking_of p) ls) ≤ total (λ b. need acts ps b) (map (booking_of p) ls)
  at_most_all n p [] = omega arith
  at_most_all n p (l ∷ ls) = omega (arith, fewer (n == p.act) (need acts ps (booking_of p l)), at_most_all n p ls)
    where
      fewer : (b : Bool) (q : ℕ) → (if b then q else 0) ≤ q
      fewer true q = omega arith
      fewer false q = omega arith

  none_under : (n : ℕ) (p : Placed) → (n == p.act) ≡ false → (ls : List OrderLine) → total (λ b. if n == b.act then need acts ps b else 0) (map (booking_of p) ls) ≡ 0
  none_under n p e [] = refl
  none_under n p e (l ∷ ls) = omega (arith, ap (λ b. if b then need acts ps (booking_of p l) else 0) e, none_under n p e ls)

  none_below : (n : ℕ) (os : List Placed) → AllBelow (λ (p : Placed). p.act) n os → total (under n) os ≡ 0
  none_below n [] h = refl
  none_below n (p ∷ os) h =
      omega (arith, none_under n p (equal_turned n p.act ∙ unequal_below p.act n h.0) (filter (λ l. same_text g l.gtin) p.lines), none_below n os h.1)

  -- under the number of an order goes what it needs
  one_order : (test : Placed → Bool) (p : Placed) (os : List Placed) → AreFalling (λ (p : Placed). p.act) os → find test os ≡ Some p → total (under p.act) os ≤ needs p
  one_order test p [] h e = cc
  one_order test p (q ∷ os) h e =
      elim (test q) as (λ b. (if b then Some q else find test os) ≡ Some p → under p.act q + total (under p.act) os ≤ needs p) [
        | true ↦ λ f.
            let own : q ≡ p = cc in
            let none : total (under p.act) os ≡ 0 = ap (λ (x : Placed). total (under x.act) os) (sym own) ∙ none_below q.act os h.0 in
            omega (arith, none, ap (λ (x : Placed). under p.act x) own, at_most_all p.act p (filter (λ l. same_text g l.gtin) p.lines))
        | false ↦ λ f.
            let low : p.act < q.act = found_below (λ (p : Placed). p.act) test q.act os p h.0 f in
            omega (arith, none_under p.act q (unequal_below p.act q.act low) (filter (λ l. same_text g l.gtin) q.lines), one_order test p os h.1 f)
      ] e

-- what is reserved for an order is within what its lines of the item need
reserved_within : (first : ℤ) (acts : List Act) (o : List ℕ) (l : LotId) (p : Placed) (k : Option KnownLot) → order_named acts o ≡ Some p
    → reserved_of (Some p) k (plan first acts l.gtin) ≤ needs acts (item_postings first acts l.gtin) l.gtin p
reserved_within first acts o l p None named = omega arith
reserved_within first acts o l p (Some k) named =
    omega (
      arith,
      reserved_within_need p.act k.came (demands first acts l.gtin) (supplies first acts l.gtin),
      wanted_either_way p.act (demands first acts l.gtin),
      demands_told first acts l.gtin p.act,
      one_order acts (item_postings first acts l.gtin) l.gtin (λ q. same_text o q.order) p (orders acts) (orders_numbered acts).falling named,
    )

pub reserved_within_needs : (first : ℤ) (acts : List Act) (o : List ℕ) (l : LotId) (p : Placed) → order_named acts o ≡ Some p
    → reserved first acts o l ≤ needs acts (item_postings first acts l.gtin) l.gtin p
reserved_within_needs first acts o l p named =
    omega (arith, reserved_within first acts o l p (lot_known acts l) named, ap (λ q. reserved_of q (lot_known acts l) (plan first acts l.gtin)) named)

-- without an order there is no reservation
pub unknown_is_unreserved : (first : ℤ) (acts : List Act) (o : List ℕ) (l : LotId) → order_named acts o ≡ None → reserved first acts o l ≡ 0
unknown_is_unreserved first acts o l none = ap (λ q. reserved_of q (lot_known acts l) (plan first acts l.gtin)) none

-- lines that need nothing, together
pub none_needed : (acts : List Act) (ps : List Posting) (bs : List Booking) → NoNeed acts ps bs → total (λ b. need acts ps b) bs ≡ 0
none_needed acts ps [] h = refl
none_needed acts ps (b ∷ bs) h = omega (arith, h.0, none_needed acts ps bs h.1)

-- An order names an item in one line

abbrev pub line_qty : Option OrderLine → ℕ
line_qty None = 0
line_qty (Some l) = l.qty

module _ (acts : List Act) (ps : List Posting) (g : List ℕ) (p : Placed) where
  -- so it needs at most what that line still lacks
  pub needs_of_line : (rest : List ℕ → ℕ) → ((l : OrderLine) → need acts ps (booking_of p l) ≤ l.qty - rest l.gtin) → (ls : List OrderLine) → names_item_twice ls ≡ false
      → total (λ b. need acts ps b) (map (booking_of p) (filter (λ l. same_text g l.gtin) ls)) ≤ line_qty (find (λ l. same_text g l.gtin) ls) - rest g
  needs_of_line rest each [] single = omega arith
  needs_of_line rest each (l ∷ ls) single =
      let two = or_none (list_any (λ m. same_text l.gtin m.gtin) ls) (names_item_twice ls) single in
      elim (same_text g l.gtin) as (λ b. same_text g l.gtin ≡ b
      → total (λ b. need acts ps b) (map (booking_of p) (if b then l ∷ filter (λ l. same_text g l.gtin) ls else filter (λ l. same_text g l.gtin) ls)) ≤ line_qty (if b then Some l else find (λ l. same_text g l.gtin) ls) - rest g) [
        | true ↦ λ t.
            let none = none_more g l ls t two.0 in
            omega (arith, each l, ap rest (same_text_is g l.gtin t), ap (λ (xs : List OrderLine). total (λ b. need acts ps b) (map (booking_of p) xs)) none)
        | false ↦ λ t. needs_of_line rest each ls two.1
      ] refl
