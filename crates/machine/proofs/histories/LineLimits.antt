-- No line asks for more units than a quantity may have, and there are no more shipments than acts.
use Rattle.machine.proofs.Words.{◌≡◌, ℕ, ◌+◌, ◌≤◌, true, false, ◌&&◌, List, [], ◌∷◌, arith, lit≤, if◌then◌else◌, find, length, Some, ℤ, list_all, QTY_MAX, same_text, is_qty, is_gtin, is_name, is_title, has_order_lines, is_sound, is_order_line, is_new_order, are_lines, OrderLine, Command, Urgent, Order, Ship, Act, next_number, order_named, lines_placed, shipments, shipments_after, shipments_so_far, IsHistory, order_in, cons_option, orders, Option, None, Placed, NewOrder}
use Rattle.machine.proofs.Tests.{and_both}
use Rattle.machine.proofs.histories.Quantities.{at_most_limit}
use Rattle.machine.proofs.histories.Needs.{line_qty}
use Rattle.machine.proofs.histories.ClosedOrders.{ordered_of}

-- Lines

sound_line : (g : List ℕ) (ls : List OrderLine) → list_all is_order_line ls ≡ true → line_qty (find (λ l. same_text g l.gtin) ls) ≤ QTY_MAX
sound_line g [] e = lit≤ tt
sound_line g (l ∷ ls) e =
    let two = and_both (is_order_line l) (list_all is_order_line ls) e in
    elim (same_text g l.gtin) as (λ b. line_qty (if b then Some l else find (λ l. same_text g l.gtin) ls) ≤ QTY_MAX) [
      | true ↦ at_most_limit l.qty (and_both (is_gtin l.gtin) (is_qty l.qty) two.0).1
      | false ↦ sound_line g ls two.1
    ]

abbrev AreSound : Option Placed → Type 0
AreSound None = Unit {0}
AreSound (Some p) = list_all is_order_line p.lines ≡ true

sound_order : (n : NewOrder) → is_new_order n ≡ true → list_all is_order_line n.lines ≡ true
sound_order n e = (and_both (has_order_lines n.lines) (list_all is_order_line n.lines) (and_both (is_name n.order && is_title n.customer) (are_lines n.lines) e).1).1

order_is_sound : (n : ℕ) (c : Command) → is_sound c ≡ true → AreSound (order_in n c)
order_is_sound n (Order o) e = sound_order o e
order_is_sound n (Urgent o) e = sound_order o e
order_is_sound n _ e = tt

ordered_after : (before : List Act) (o g : List ℕ) → ordered_of before o g ≤ QTY_MAX → (p : Option Placed) → AreSound p
    → line_qty (find (λ l. same_text g l.gtin) (lines_placed (find (λ q. same_text o q.order) (cons_option p (orders before))))) ≤ QTY_MAX
ordered_after before o g h None e = h
ordered_after before o g h (Some p) e =
    elim (same_text o p.order) as (λ b. line_qty (find (λ l. same_text g l.gtin) (lines_placed (if b then Some p else order_named before o))) ≤ QTY_MAX) [ true ↦ sound_line g p.lines e | false ↦ h ]

-- an order asks for no more units of an item than a quantity may have
pub ordered_within_limit : (first : ℤ) (acts : List Act) → IsHistory first acts → (o g : List ℕ) → ordered_of acts o g ≤ QTY_MAX
ordered_within_limit first [] h o g = lit≤ tt
ordered_within_limit first (act ∷ before) h o g = ordered_after before o g (ordered_within_limit first before h.0 o g) (order_in (next_number before) act.command) (order_is_sound (next_number before) act.command h.1.sound.command)

-- Shipments

shipped_after : (first : ℤ) (before : List Act) (c : Command) → length (shipments first before) ≤ length before → length (shipments_after first before c (shipments first before)) ≤ length before + 1
shipped_after first before (Ship o) h = omega (arith, h)
shipped_after first before _ h = omega (arith, h)

pub shipments_within_acts : (first : ℤ) (acts : List Act) → shipments_so_far first acts ≤ length acts
shipments_within_acts first [] = lit≤ tt
shipments_within_acts first (act ∷ before) = omega (arith, shipped_after first before act.command (shipments_within_acts first before))
