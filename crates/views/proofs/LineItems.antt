-- On a history the item of each line of each order is known.
use Rattle.views.proofs.Words.{◌≡◌, ℕ, Bool, true, false, not, List, [], ◌∷◌, refl, ap, subst, ◌∙◌, inl, inr, if◌then◌else◌, ℤ, Option, Some, None, find, is_some, list_any, cons_option, same_text, NewItem, OrderLine, Command, Order, Urgent, Act, next_number, Placed, items, has_item, orders, order_in, order_named, IsHistory, verdict, or_none, not_false, item_in, order_accepted, urgent_accepted}
use Rattle.views.proofs.Sorting.{IsIn}

-- the items of these lines are known
abbrev HaveItems : List Act → List OrderLine → Type 0
HaveItems acts [] = Unit {0}
HaveItems acts (l ∷ ls) = (has_item acts l.gtin ≡ true) × HaveItems acts ls

abbrev AllHaveItems : List Act → List Placed → Type 0
AllHaveItems acts [] = Unit {0}
AllHaveItems acts (p ∷ ps) = HaveItems acts p.lines × AllHaveItems acts ps

known_lines : (acts : List Act) (ls : List OrderLine) → list_any (λ (l : OrderLine). not (has_item acts l.gtin)) ls ≡ false → HaveItems acts ls
known_lines acts [] e = tt
known_lines acts (l ∷ ls) e =
    let two = or_none (not (has_item acts l.gtin)) (list_any (λ (l : OrderLine). not (has_item acts l.gtin)) ls) e in
    (not_false (has_item acts l.gtin) two.0, known_lines acts ls two.1)

-- an item that is known stays so

still_there : (g : List ℕ) (new : Option NewItem) (is : List NewItem) → is_some (find (λ (i : NewItem). same_text g i.gtin) is) ≡ true → is_some (find (λ (i : NewItem). same_text g i.gtin) (cons_option new is)) ≡ true
still_there g None is h = h
still_there g (Some x) is h = elim (same_text g x.gtin) as (λ b. is_some (if b then Some x else find (λ (i : NewItem). same_text g i.gtin) is) ≡ true) [ true ↦ refl | false ↦ h ]

still_lines : (act : Act) (before : List Act) (ls : List OrderLine) → HaveItems before ls → HaveItems (act ∷ before) ls
still_lines act before [] h = tt
still_lines act before (l ∷ ls) h = (still_there l.gtin (item_in (next_number before) act.command) (items before) h.0, still_lines act before ls h.1)

still_all : (act : Act) (before : List Act) (ps : List Placed) → AllHaveItems before ps → AllHaveItems (act ∷ before) ps
still_all act before [] h = tt
still_all act before (p ∷ ps) h = (still_lines act before p.lines h.0, still_all act before ps h.1)

have_after : (first : ℤ) (act : Act) (before : List Act) (c : Command) → verdict first before c ≡ None → AllHaveItems (act ∷ before) (orders before) → AllHaveItems (act ∷ before) (cons_option (order_in (next_number before) c) (orders before))
have_after first act before (Order o) ok h = (still_lines act before o.lines (known_lines before o.lines (order_accepted first before o ok).known), h)
have_after first act before (Urgent o) ok h = (still_lines act before o.lines (known_lines before o.lines (urgent_accepted first before o ok).known), h)
have_after first act before _ ok h = h

all_have_items : (first : ℤ) (acts : List Act) → IsHistory first acts → AllHaveItems acts (orders acts)
all_have_items first [] h = tt
all_have_items first (act ∷ before) h = have_after first act before act.command h.1.passes (still_all act before (orders before) (all_have_items first before h.0))

found_have : (acts : List Act) (test : Placed → Bool) (ps : List Placed) (p : Placed) → AllHaveItems acts ps → find test ps ≡ Some p → HaveItems acts p.lines
found_have acts test [] p h e = cc
found_have acts test (q ∷ qs) p h e = elim (test q) as (λ b. (if b then Some q else find test qs) ≡ Some p → HaveItems acts p.lines) [
  | true ↦ λ f. let own : q ≡ p = cc in subst (λ (x : Placed). HaveItems acts x.lines) own h.0
  | false ↦ λ f. found_have acts test qs p h.1 f
] e

has_its_item : (acts : List Act) (ls : List OrderLine) → HaveItems acts ls → (l : OrderLine) → IsIn l ls → has_item acts l.gtin ≡ true
has_its_item acts [] h l m = absurd m
has_its_item acts (x ∷ xs) h l (inl e) = ap (λ (y : OrderLine). has_item acts y.gtin) e ∙ h.0
has_its_item acts (x ∷ xs) h l (inr m) = has_its_item acts xs h.1 l m

pub line_has_item : (first : ℤ) (acts : List Act) → IsHistory first acts → (o : List ℕ) (p : Placed) → order_named acts o ≡ Some p → (l : OrderLine) → IsIn l p.lines → has_item acts l.gtin ≡ true
line_has_item first acts history o p named l there = has_its_item acts p.lines (found_have acts (λ q. same_text o q.order) (orders acts) p (all_have_items first acts history) named) l there
