-- Orders: none has the name of another, and names and act numbers determine one another; the bookings of a closed order want nothing.
use Rattle.machine.proofs.Words.{◌≡◌, ℕ, ◌+◌, ◌-◌, Bool, true, false, List, [], ◌∷◌, refl, ap, sym, ◌∙◌, arith, ◌==◌, if◌then◌else◌, ℤ, Some, None, find, filter, map, list_all, cons_option, eqb-true, same_text, OrderLine, Command, Urgent, Order, Open, Done, Cancelled, Act, next_number, Posting, Placed, order_in, orders, order_named, lines_placed, is_cancelled, Booking, booking_of, lines_of_item, need, item_postings, shipped, shipped_of, staged, is_open, is_open_state, is_shipped_in_full, verdict, names_item_twice, IsHistory}
use Rattle.machine.proofs.Tests.{and_both, same_text_is, same_text_refl, same_text_turned}
use Rattle.machine.proofs.Apart.{AreApart, AllFound, all_found, any_found}
use Rattle.machine.proofs.histories.Falling.{AllBelow, AreFalling, below_more, found_one}
use Rattle.machine.proofs.histories.Accepted.{order_accepted, urgent_accepted}

abbrev pub same_order : Placed → Placed → Bool
same_order p q = same_text p.order q.order

-- Names

apart_after : (first : ℤ) (before : List Act) (c : Command) → verdict first before c ≡ None → AreApart same_order (orders before)
    → AreApart same_order (cons_option (order_in (next_number before) c) (orders before))
apart_after first before (Order o) ok h = (sym (any_found (λ (p : Placed). same_text o.order p.order) (orders before)) ∙ (order_accepted first before o ok).new, h)
apart_after first before (Urgent o) ok h = (sym (any_found (λ (p : Placed). same_text o.order p.order) (orders before)) ∙ (urgent_accepted first before o ok).new, h)
apart_after first before _ ok h = h

pub orders_apart : (first : ℤ) (acts : List Act) → IsHistory first acts → AreApart same_order (orders acts)
orders_apart first [] h = tt
orders_apart first (act ∷ before) h = apart_after first before act.command h.1.passes (orders_apart first before h.0)

pub orders_found : (first : ℤ) (acts : List Act) → IsHistory first acts → AllFound same_order (orders acts) (orders acts)
orders_found first acts h = all_found same_order (λ p. same_text_refl p.order) (λ p q. same_text_turned p.order q.order) (orders acts) (orders_apart first acts h)

-- what is found under a name has it
pub found_order : (o : List ℕ) (ps : List Placed) (p : Placed) → find (λ q. same_text o q.order) ps ≡ Some p → o ≡ p.order
found_order o [] p e = cc
found_order o (q ∷ qs) p e =
    elim (same_text o q.order) as (λ b. same_text o q.order ≡ b → (if b then Some q else find (λ q. same_text o q.order) qs) ≡ Some p → o ≡ p.order) [
      | true ↦ λ t f. let own : q ≡ p = cc in same_text_is o q.order t ∙ ap (λ (x : Placed). x.order) own
      | false ↦ λ t f. found_order o qs p f
    ] refl e

-- no order names an item twice
abbrev pub AllSingle : List Placed → Type 0
AllSingle [] = Unit {0}
AllSingle (p ∷ ps) = (names_item_twice p.lines ≡ false) × AllSingle ps

single_after : (first : ℤ) (before : List Act) (c : Command) → verdict first before c ≡ None → AllSingle (orders before) → AllSingle (cons_option (order_in (next_number before) c) (orders before))
single_after first before (Order o) ok h = ((order_accepted first before o ok).single, h)
single_after first before (Urgent o) ok h = ((urgent_accepted first before o ok).single, h)
single_after first before _ ok h = h

pub orders_single : (first : ℤ) (acts : List Act) → IsHistory first acts → AllSingle (orders acts)
orders_single first [] h = tt
orders_single first (act ∷ before) h = single_after first before act.command h.1.passes (orders_single first before h.0)

-- Numbers

pub record AreNumbered (acts : List Act) : Type 0 where
  pub below : AllBelow (λ (p : Placed). p.act) (next_number acts) (orders acts)
  pub falling : AreFalling (λ (p : Placed). p.act) (orders acts)

numbered_after : (before : List Act) (c : Command) → AreNumbered before
    → AllBelow (λ (p : Placed). p.act) (next_number before + 1) (cons_option (order_in (next_number before) c) (orders before))
    × AreFalling (λ (p : Placed). p.act) (cons_option (order_in (next_number before) c) (orders before))
numbered_after before (Order o) h = ((omega arith, below_more (λ (p : Placed). p.act) (next_number before) (next_number before + 1) (orders before) (omega arith) h.below), (h.below, h.falling))
numbered_after before (Urgent o) h = ((omega arith, below_more (λ (p : Placed). p.act) (next_number before) (next_number before + 1) (orders before) (omega arith) h.below), (h.below, h.falling))
numbered_after before _ h = (below_more (λ (p : Placed). p.act) (next_number before) (next_number before + 1) (orders before) (omega arith) h.below, h.falling)

pub orders_numbered : (acts : List Act) → AreNumbered acts
orders_numbered [] = record { below = tt; falling = tt }
orders_numbered (act ∷ before) =
    let h = numbered_after before act.command (orders_numbered before) in
    record { below = below_more (λ (p : Placed). p.act) (next_number before + 1) (next_number (act ∷ before)) (orders (act ∷ before)) (omega arith) h.0; falling = h.1 }

-- two orders with one act are one
pub act_names_order : (acts : List Act) (o u : List ℕ) (p q : Placed) → order_named acts o ≡ Some p → order_named acts u ≡ Some q → p.act ≡ q.act → o ≡ u
act_names_order acts o u p q e f same =
    let one : p ≡ q = found_one (λ (p : Placed). p.act) (λ x. same_text o x.order) (λ x. same_text u x.order) (orders acts) p q (orders_numbered acts).falling e f same in
    found_order o (orders acts) p e ∙ ap (λ (x : Placed). x.order) one ∙ sym (found_order u (orders acts) q f)

-- Bookings of closed orders

abbrev pub NoNeed : List Act → List Posting → List Booking → Type 0
NoNeed acts ps [] = Unit {0}
NoNeed acts ps (b ∷ bs) = (need acts ps b ≡ 0) × NoNeed acts ps bs

cancelled_needs_none : (acts : List Act) (ps : List Posting) (b : Booking) → is_cancelled acts b.order ≡ true → need acts ps b ≡ 0
cancelled_needs_none acts ps b e = ap (λ t. if t then 0 else b.ordered - staged ps b.order b.item - shipped ps b.order b.item) e

shipped_needs_none : (acts : List Act) (ps : List Posting) (b : Booking) → shipped ps b.order b.item ≡ b.ordered → need acts ps b ≡ 0
shipped_needs_none acts ps b e =
    elim (is_cancelled acts b.order) as (λ t. (if t then 0 else b.ordered - staged ps b.order b.item - shipped ps b.order b.item) ≡ 0) [ true ↦ refl | false ↦ omega arith ]

module _ (first : ℤ) (acts : List Act) (g : List ℕ) (p : Placed) where
  abbrev all_of : List OrderLine → List Booking
  all_of ls = map (booking_of p) (filter (λ l. same_text g l.gtin) ls)

  none_cancelled : is_cancelled acts p.order ≡ true → (ls : List OrderLine) → NoNeed acts (item_postings first acts g) (all_of ls)
  none_cancelled e [] = tt
  none_cancelled e (l ∷ ls) =
      elim (same_text g l.gtin) as (λ b. NoNeed acts (item_postings first acts g) (map (booking_of p) (if b then l ∷ filter (λ l. same_text g l.gtin) ls else filter (λ l. same_text g l.gtin) ls))) [
        | true ↦ (cancelled_needs_none acts (item_postings first acts g) (booking_of p l) e, none_cancelled e ls)
        | false ↦ none_cancelled e ls
      ]

  none_shipped : (ls : List OrderLine) → list_all (λ l. shipped_of first acts p.order l.gtin == l.qty) ls ≡ true → NoNeed acts (item_postings first acts g) (all_of ls)
  none_shipped [] h = tt
  none_shipped (l ∷ ls) h =
      let two = and_both (shipped_of first acts p.order l.gtin == l.qty) (list_all (λ l. shipped_of first acts p.order l.gtin == l.qty) ls) h in
      elim (same_text g l.gtin) as (λ b. same_text g l.gtin ≡ b → NoNeed acts (item_postings first acts g) (map (booking_of p) (if b then l ∷ filter (λ l. same_text g l.gtin) ls else filter (λ l. same_text g l.gtin) ls))) [
        | true ↦ λ e.
            let own : shipped (item_postings first acts g) p.order l.gtin ≡ l.qty =
            ap (λ (x : List ℕ). shipped (item_postings first acts x) p.order l.gtin) (same_text_is g l.gtin e) ∙ eqb-true (shipped_of first acts p.order l.gtin) l.qty two.0 in
            (shipped_needs_none acts (item_postings first acts g) (booking_of p l) own, none_shipped ls two.1)
        | false ↦ λ e. none_shipped ls two.1
      ] refl

  closed_by : (b c : Bool) → is_open_state (if b then Cancelled else (if c then Done else Open)) ≡ false → (b ≡ false → c ≡ true)
  closed_by true c e f = cc
  closed_by false true e f = refl
  closed_by false false e f = cc

  -- the bookings of a closed order have no need
  pub closed_needs_none : order_named acts p.order ≡ Some p → is_open first acts p.order ≡ false → NoNeed acts (item_postings first acts g) (lines_of_item g p)
  closed_needs_none named closed =
      elim (is_cancelled acts p.order) as (λ b. is_cancelled acts p.order ≡ b → NoNeed acts (item_postings first acts g) (lines_of_item g p)) [
        | true ↦ λ e. none_cancelled e p.lines
        | false ↦ λ e.
            let full : is_shipped_in_full first acts p.order ≡ true = closed_by (is_cancelled acts p.order) (is_shipped_in_full first acts p.order) closed e in
            none_shipped p.lines (ap (λ q. list_all (λ l. shipped_of first acts p.order l.gtin == l.qty) (lines_placed q)) (sym named) ∙ full)
      ] refl
