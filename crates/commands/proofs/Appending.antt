-- Fields added one after another.
use Rattle.commands.proofs.Below.{◌≡◌, ℕ, List, [], ◌∷◌, ◌++◌, append_assoc, append-nil, length, map, get_or, take, ◌+◌, ◌<◌, ap, sym, ◌∙◌, Bor, join_with_byte, decimal, take_more, map-append, lines_fields, with_line_feeds, OrderLine}

pub appended : (a b c : List ℕ) → (a ++ b) ++ c ≡ a ++ (b ++ c)
appended a b c = append_assoc a b c

-- a text joined by line feeds is its first part and the others, each behind a line feed
pub joined_word : (w : List ℕ) (fs : List (List ℕ)) → join_with_byte 10 (w ∷ fs) ≡ w ++ with_line_feeds fs
joined_word w [] = sym (append-nil w)
joined_word w (f ∷ fs) = ap (λ t. w ++ 10 ∷ t) (joined_word f fs)

-- one more field
fields_push : (fs : List (List ℕ)) (f : List ℕ) → with_line_feeds (fs ++ f ∷ []) ≡ with_line_feeds fs ++ (10 ∷ f)
fields_push [] f = append-nil (10 ∷ f)
fields_push (g ∷ fs) f = ap (λ t. (10 ∷ g) ++ t) (fields_push fs f) ∙ sym (append_assoc (10 ∷ g) (with_line_feeds fs) (10 ∷ f))

-- the step of a loop over the fields
pub fields_more : (t : List ℕ) (fs : List (Bor (List ℕ))) (i : ℕ) (d : Bor (List ℕ)) → i < length fs → (t ++ with_line_feeds (map (λ f. f.now) (take i fs))) ++ (10 ∷ (get_or fs i d).now) ≡ t ++ with_line_feeds (map (λ f. f.now) (take (i + 1) fs))
fields_more t fs i d low =
    let now : Bor (List ℕ) → List ℕ = λ f. f.now in
    let f = get_or fs i d in
    append_assoc t (with_line_feeds (map now (take i fs))) (10 ∷ f.now)
    ∙ ap (λ x. t ++ x) (sym (fields_push (map now (take i fs)) f.now))
    ∙ ap (λ x. t ++ with_line_feeds x) (sym (map-append now (take i fs) (f ∷ [])))
    ∙ ap (λ x. t ++ with_line_feeds (map now x)) (sym (take_more fs i d low))

-- one more line
lines_push : (ls : List OrderLine) (l : OrderLine) → with_line_feeds (lines_fields (ls ++ l ∷ [])) ≡ with_line_feeds (lines_fields ls) ++ ((10 ∷ l.gtin) ++ (10 ∷ decimal l.qty))
lines_push [] l = ap (λ t. (10 ∷ l.gtin) ++ t) (append-nil (10 ∷ decimal l.qty))
lines_push (k ∷ ls) l =
    let z = (10 ∷ l.gtin) ++ (10 ∷ decimal l.qty) in
    let w = with_line_feeds (lines_fields ls) in
    ap (λ t. (10 ∷ k.gtin) ++ ((10 ∷ decimal k.qty) ++ t)) (lines_push ls l)
    ∙ ap (λ t. (10 ∷ k.gtin) ++ t) (sym (append_assoc (10 ∷ decimal k.qty) w z))
    ∙ sym (append_assoc (10 ∷ k.gtin) ((10 ∷ decimal k.qty) ++ w) z)

-- the step of a loop over the lines
pub lines_more : (t : List ℕ) (ls : List OrderLine) (i : ℕ) (l : OrderLine) → i < length ls → l ≡ get_or ls i l → ((t ++ with_line_feeds (lines_fields (take i ls))) ++ (10 ∷ l.gtin)) ++ (10 ∷ decimal l.qty) ≡ t ++ with_line_feeds (lines_fields (take (i + 1) ls))
lines_more t ls i l low is =
    let w = with_line_feeds (lines_fields (take i ls)) in
    let taken : take (i + 1) ls ≡ take i ls ++ l ∷ [] = take_more ls i l low ∙ ap (λ x. take i ls ++ x ∷ []) (sym is) in
    append_assoc (t ++ w) (10 ∷ l.gtin) (10 ∷ decimal l.qty)
    ∙ append_assoc t w ((10 ∷ l.gtin) ++ (10 ∷ decimal l.qty))
    ∙ ap (λ x. t ++ x) (sym (lines_push (take i ls) l))
    ∙ ap (λ x. t ++ with_line_feeds (lines_fields x)) (sym taken)
