-- A text and a tab that stand first in a line.
use Rattle.histories.proofs.Words.{◌≡◌, ℕ, suc, ◌+◌, ◌<◌, ◌≤◌, List, [], ◌∷◌, ◌++◌, length, length-append, take, drop, get_or, take-append-drop, drop-cons, refl, sym, ap, ◌∙◌, arith, take-append-le, take-length, Bears}

pub too_short : (text line : List ℕ) → length line ≤ length text → Bears text line → ⊥
too_short text line short b = let n = ap length b.1 in let k = length-append text (9 ∷ b.0) in omega (arith, short, n, k)

pub front_is : (text line : List ℕ) → Bears text line → take (length text) line ≡ text
front_is text line b = ap (take (length text)) b.1 ∙ take-append-le (length text) text (9 ∷ b.0) (omega arith) ∙ take-length text

at_end : (text more : List ℕ) → get_or (text ++ 9 ∷ more) (length text) 0 ≡ 9
at_end [] more = refl
at_end (c ∷ text) more = at_end text more

pub byte_is : (text line : List ℕ) → Bears text line → get_or line (length text) 0 ≡ 9
byte_is text line b = ap (λ l. get_or l (length text) 0) b.1 ∙ at_end text b.0

rest_is : (xs : List ℕ) (n : ℕ) → n < length xs → drop n xs ≡ get_or xs n 0 ∷ drop (n + 1) xs
rest_is xs n low = let more : suc n ≡ n + 1 = omega arith in drop-cons xs n 0 low ∙ ap (λ k. get_or xs n 0 ∷ drop k xs) more

pub bears_it : (text line : List ℕ) → length text < length line → take (length text) line ≡ text → get_or line (length text) 0 ≡ 9 → Bears text line
bears_it text line long front byte =
    let n = length text in
    (drop (n + 1) line, sym (take-append-drop n line) ∙ ap (λ t. t ++ drop n line) front ∙ ap (λ t. text ++ t) (rest_is line n long ∙ ap (λ c. c ∷ drop (n + 1) line) byte))
