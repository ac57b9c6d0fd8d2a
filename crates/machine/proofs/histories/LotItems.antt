-- On a history the item of each known lot is known, and there are no more items than the limit.
use Rattle.machine.proofs.Words.{◌≡◌, ℕ, ◌≤◌, lit≤, Bool, true, false, List, [], ◌∷◌, refl, ap, ◌∙◌, arith, if◌then◌else◌, Option, Some, None, find, filter, is_some, length, ℤ, list_any, cons_option, nat_tests, same_text, ITEMS_MAX, NewItem, Receipt, Command, Item, Receive, Act, next_number, of_item, KnownLot, items, item_in, has_item, lots, lot_among, lots_after, with_receipt, verdict, IsHistory}
use Rattle.machine.proofs.Tests.{same_text_is}
use Rattle.machine.proofs.histories.Accepted.{item_accepted, receive_accepted}

-- the items of these lots are known
abbrev pub HaveItems : List Act → List KnownLot → Type 0
HaveItems acts [] = Unit {0}
HaveItems acts (k ∷ ks) = (has_item acts k.lot.gtin ≡ true) × HaveItems acts ks

still_there : (g : List ℕ) (new : Option NewItem) (is : List NewItem) → is_some (find (λ (i : NewItem). same_text g i.gtin) is) ≡ true → is_some (find (λ (i : NewItem). same_text g i.gtin) (cons_option new is)) ≡ true
still_there g None is h = h
still_there g (Some x) is h = elim (same_text g x.gtin) as (λ b. is_some (if b then Some x else find (λ (i : NewItem). same_text g i.gtin) is) ≡ true) [ true ↦ refl | false ↦ h ]

still_known : (act : Act) (before : List Act) (g : List ℕ) → has_item before g ≡ true → has_item (act ∷ before) g ≡ true
still_known act before g h = still_there g (item_in (next_number before) act.command) (items before) h

still_have : (act : Act) (before : List Act) (ks : List KnownLot) → HaveItems before ks → HaveItems (act ∷ before) ks
still_have act before [] h = tt
still_have act before (k ∷ ks) h = (still_known act before k.lot.gtin h.0, still_have act before ks h.1)

with_item : (acts : List Act) (n : ℕ) (r : Receipt) (ks : List KnownLot) → has_item acts r.lot.gtin ≡ true → HaveItems acts ks → HaveItems acts (with_receipt n r ks)
with_item acts n r ks e h = elim (is_some (lot_among r.lot ks)) as (λ b. HaveItems acts (if b then ks else record { lot = r.lot; expiry = r.expiry; came = n } ∷ ks)) [ true ↦ h | false ↦ (e, h) ]

have_after : (first : ℤ) (act : Act) (before : List Act) (c : Command) → verdict first before c ≡ None → HaveItems (act ∷ before) (lots before) → HaveItems (act ∷ before) (lots_after (next_number before) c (lots before))
have_after first act before (Receive r) ok h = with_item (act ∷ before) (next_number before) r (lots before) (still_known act before r.lot.gtin (receive_accepted first before r ok).item) h
have_after first act before _ ok h = h

pub lots_have_items : (first : ℤ) (acts : List Act) → IsHistory first acts → HaveItems acts (lots acts)
lots_have_items first [] h = tt
lots_have_items first (act ∷ before) h = have_after first act before act.command h.1.passes (still_have act before (lots before) (lots_have_items first before h.0))

-- an item with a known lot is known
pub item_of_lot : (acts : List Act) (g : List ℕ) (test : KnownLot → Bool) (ks : List KnownLot) → HaveItems acts ks → list_any test (filter (λ k. of_item g k.lot) ks) ≡ true → has_item acts g ≡ true
item_of_lot acts g test [] h e = let f : false ≡ true = e in cc
item_of_lot acts g test (k ∷ ks) h e =
    elim (of_item g k.lot) as (λ b. of_item g k.lot ≡ b → list_any test (if b then k ∷ filter (λ k. of_item g k.lot) ks else filter (λ k. of_item g k.lot) ks) ≡ true → has_item acts g ≡ true) [
      | true ↦ λ t f. ap (λ (x : List ℕ). has_item acts x) (same_text_is g k.lot.gtin t) ∙ h.0
      | false ↦ λ t f. item_of_lot acts g test ks h.1 f
    ] refl e

-- Their number

items_after : (first : ℤ) (before : List Act) (c : Command) → verdict first before c ≡ None → length (items before) ≤ ITEMS_MAX → length (cons_option (item_in (next_number before) c) (items before)) ≤ ITEMS_MAX
items_after first before (Item i) ok h =
    let room = (item_accepted first before i ok).room in
    grind (arith, nat_tests, room)
items_after first before _ ok h = h

pub items_within_limit : (first : ℤ) (acts : List Act) → IsHistory first acts → length (items acts) ≤ ITEMS_MAX
items_within_limit first [] h = lit≤ tt
items_within_limit first (act ∷ before) h = items_after first before act.command h.1.passes (items_within_limit first before h.0)
