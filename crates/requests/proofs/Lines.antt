-- The lines of an order, one after another.
use Rattle.requests.proofs.Words.{◌≡◌, ◌∙◌, ap, refl, sym, ℕ, suc, ◌+◌, ◌<◌, List, [], ◌∷◌, ◌++◌, length, drop, get_or, Option, Some, None, option_map, add-one, drop-cons, append_assoc, append-nil, ◌≤◌, drop_all, view, items_view, Value, OrderLine, line_of, lines_of}

-- where the line cannot be read, the lines cannot
pub no_line : (v : Value) (vs : List Value) → line_of (view v) ≡ None → lines_of (items_view (v ∷ vs)) ≡ None
no_line v vs e = rw e refl

-- what was found, and the lines that are left
abbrev pub with_found : List OrderLine → Option (List OrderLine) → Option (List OrderLine)
with_found found rest = option_map (λ ls. found ++ ls) rest

moved : (found : List OrderLine) (x : OrderLine) (o : Option (List OrderLine)) → with_found found (option_map (λ ls. x ∷ ls) o) ≡ with_found (found ++ x ∷ []) o
moved found x None = refl
moved found x (Some ls) = ap Some (sym (append_assoc found (x ∷ []) ls))

pub one_line : (found : List OrderLine) (v : Value) (vs : List Value) (x : OrderLine) → line_of (view v) ≡ Some x
    → with_found found (lines_of (items_view (v ∷ vs))) ≡ with_found (found ++ x ∷ []) (lines_of (items_view vs))
one_line found v vs x e = rw e (moved found x (lines_of (items_view vs)))

pub next_line : (items : List Value) (i : ℕ) (v : Value) (found new : List OrderLine) (x : OrderLine) (all : Option (List OrderLine))
    → i < length items → v ≡ get_or items i v → line_of (view v) ≡ Some x → new ≡ found ++ x ∷ []
    → all ≡ with_found found (lines_of (items_view (drop i items))) → all ≡ with_found new (lines_of (items_view (drop (i + 1) items)))
next_line items i v found new x all h is e n inv =
    let d : drop i items ≡ v ∷ drop (i + 1) items = rw (add-one, drop-cons items i v) (ap (λ z. z ∷ drop (suc i) items) (sym is)) in
    inv ∙ ap (λ z. with_found found (lines_of (items_view z))) d ∙ one_line found v (drop (i + 1) items) x e
    ∙ ap (λ z. with_found z (lines_of (items_view (drop (i + 1) items)))) (sym n)

-- no line is left
pub all_found : (items : List Value) (i : ℕ) (found : List OrderLine) (all : Option (List OrderLine))
    → length items ≤ i → all ≡ with_found found (lines_of (items_view (drop i items))) → all ≡ Some found
all_found items i found all h inv =
    inv ∙ ap (λ z. with_found found (lines_of (items_view z))) (drop_all i items h) ∙ ap Some (append-nil found)
