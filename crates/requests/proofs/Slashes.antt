-- What stands before a slash, and behind it, as a loop goes through a text.
use Rattle.requests.proofs.Words.{◌≡◌, ◌∙◌, ap, sym, ℕ, ◌+◌, ◌<◌, List, [], ◌∷◌, ◌++◌, length, take, drop, get_or, if◌then◌else◌, append_assoc, ne_eqb, at_drop_more, take_more, after_slash, before_slash}

pub after_later : (s : List ℕ) (i : ℕ) → i < length s → (get_or s i 0 ≡ 47 → ⊥) → after_slash (drop i s) ≡ after_slash s
    → after_slash (drop (i + 1) s) ≡ after_slash s
after_later s i h n inv =
    let rest = drop (i + 1) s in
    sym (at_drop_more after_slash s i 0 h ∙ ap (λ b. if b then rest else after_slash rest) (ne_eqb (get_or s i 0) 47 n)) ∙ inv

pub before_later : (s : List ℕ) (i : ℕ) → i < length s → (get_or s i 0 ≡ 47 → ⊥) → take i s ++ before_slash (drop i s) ≡ before_slash s
    → take (i + 1) s ++ before_slash (drop (i + 1) s) ≡ before_slash s
before_later s i h n inv =
    let x = get_or s i 0 in
    let rest = before_slash (drop (i + 1) s) in
    let here : before_slash (drop i s) ≡ x ∷ rest = at_drop_more before_slash s i 0 h ∙ ap (λ b. if b then [] else x ∷ rest) (ne_eqb x 47 n) in
    ap (λ t. t ++ rest) (take_more s i 0 h) ∙ append_assoc (take i s) (x ∷ []) rest ∙ ap (λ t. take i s ++ t) (sym here) ∙ inv
