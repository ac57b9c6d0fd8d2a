-- The end of a head.
use Rattle.requests.proofs.Words.{◌≡◌, ◌∙◌, ap, refl, sym, ℕ, ◌+◌, ◌<◌, List, ◌∷◌, length, take, drop, get_or, true, false, Option, Some, None, option_map, arith, add-one, drop-cons, bytes_eq, head_end, BLANK_LINE}

later : (x : ℕ) (r : List ℕ) → bytes_eq (take 4 (x ∷ r)) BLANK_LINE ≡ false → head_end (x ∷ r) ≡ option_map (λ n. n + 1) (head_end r)
later x r e = rw e refl

further : (i : ℕ) (o : Option ℕ) → option_map (λ n. n + i) (option_map (λ n. n + 1) o) ≡ option_map (λ n. n + (i + 1)) o
further i None = refl
further i (Some n) = let e : n + 1 + i ≡ n + (i + 1) = omega arith in ap Some e

pub head_end_later : (s : List ℕ) (i : ℕ) → i < length s → bytes_eq (take 4 (drop i s)) BLANK_LINE ≡ false
    → head_end s ≡ option_map (λ n. n + i) (head_end (drop i s)) → head_end s ≡ option_map (λ n. n + (i + 1)) (head_end (drop (i + 1) s))
head_end_later s i h f inv =
    let d : drop i s ≡ get_or s i 0 ∷ drop (i + 1) s = rw (add-one, drop-cons s i 0) refl in
    let g : bytes_eq (take 4 (get_or s i 0 ∷ drop (i + 1) s)) BLANK_LINE ≡ false = ap (λ z. bytes_eq (take 4 z) BLANK_LINE) (sym d) ∙ f in
    inv ∙ ap (λ z. option_map (λ n. n + i) (head_end z)) d ∙ ap (option_map (λ n. n + i)) (later (get_or s i 0) (drop (i + 1) s) g)
    ∙ further i (head_end (drop (i + 1) s))

here : (x : ℕ) (r : List ℕ) → bytes_eq (take 4 (x ∷ r)) BLANK_LINE ≡ true → head_end (x ∷ r) ≡ Some 4
here x r e = rw e refl

pub head_end_here : (s : List ℕ) (i : ℕ) → i < length s → bytes_eq (take 4 (drop i s)) BLANK_LINE ≡ true
    → head_end s ≡ option_map (λ n. n + i) (head_end (drop i s)) → Some (i + 4) ≡ head_end s
head_end_here s i h f inv =
    let d : drop i s ≡ get_or s i 0 ∷ drop (i + 1) s = rw (add-one, drop-cons s i 0) refl in
    let g : bytes_eq (take 4 (get_or s i 0 ∷ drop (i + 1) s)) BLANK_LINE ≡ true = ap (λ z. bytes_eq (take 4 z) BLANK_LINE) (sym d) ∙ f in
    let e : 4 + i ≡ i + 4 = omega arith in
    sym (inv ∙ ap (λ z. option_map (λ n. n + i) (head_end z)) d ∙ ap (option_map (λ n. n + i)) (here (get_or s i 0) (drop (i + 1) s) g) ∙ ap Some e)
