-- What no stop leaves behind the lines of a file.
use Rattle.acts_files.proofs.Words.{◌≡◌, ◌≢◌, ℕ, List, [], ◌∷◌, ◌++◌, length, length-append, drop, inl, inr, refl, sym, ap, subst, ◌∙◌, arith, ℤ, decimal, drop-append_seam, All-nil, Act, next_number, newer_text, AreNext, IsLeftOf, IsPartOf, IsTail}

empty : {X : Type 0} (xs : List X) → length xs ≡ 0 → xs ≡ []
empty [] e = refl
empty (x ∷ xs) e = absurd (omega (arith, e))

-- a part of nothing is nothing
pub no_part : {most : ℕ} {newer next : List Act} → AreNext most newer next → newer ≡ [] → next ≡ []
no_part {most} {newer} {next} are none =
    let n = ap length (sym are.parts ∙ none) in
    let m = length-append are.later next in
    empty next (omega (arith, n, m))

-- so many of the next acts are these alone
one_length : {most : ℕ} {newer a b : List Act} (one : AreNext most newer a) (two : AreNext most newer b) → length a ≡ length b
one_length {most} {newer} {a} {b} one two =
    let n = ap length one.parts ∙ length-append one.later a in
    let m = ap length two.parts ∙ length-append two.later b in
    let few = one.few in
    let few_too = two.few in
    elim one.many [
      | inl all ↦
          let none : length one.later ≡ 0 = ap length all in
          elim two.many [
            | inl all_too ↦ let none_too : length two.later ≡ 0 = ap length all_too in omega (arith, n, m, none, none_too)
            | inr many ↦ omega (arith, n, m, none, many, few)
          ]
      | inr many ↦ elim two.many [
        | inl all ↦ let none : length two.later ≡ 0 = ap length all in omega (arith, n, m, none, many, few_too)
        | inr many_too ↦ omega (arith, many, many_too)
      ]
    ]

one_next : {most : ℕ} {newer a b : List Act} → AreNext most newer a → AreNext most newer b → a ≡ b
one_next {most} {newer} {a} {b} one two =
    let n = ap length one.parts ∙ length-append one.later a in
    let m = ap length two.parts ∙ length-append two.later b in
    let same = one_length one two in
    let at : length one.later ≡ length two.later = omega (arith, n, m, same) in
    sym (drop-append_seam one.later a) ∙ ap (λ k. drop k (one.later ++ a)) at ∙ ap (drop (length two.later)) (sym one.parts ∙ two.parts) ∙ drop-append_seam two.later b

-- it is none of what a torn write of the next lines leaves
pub not_left : (newer older next : List Act) (rest : List ℕ) (begun : ℤ) → AreNext 1_000 newer next → newer ≢ [] → ¬ IsLeftOf (newer_text begun next older) rest → ¬ IsTail begun newer older rest
not_left newer older next rest begun are some unlike (inl left) =
    unlike (subst (λ l. IsLeftOf (newer_text begun l older) rest) (one_next left.1 are) left.2)
not_left newer older next rest begun are some unlike (inr part) = some part.0

-- nothing is part of each line
nothing : (n : ℕ) → IsPartOf n []
nothing n = record {
  part = All-nil (λ b. b ≢ 10);
  short = omega arith;
  begins = inr (0, record { within = omega arith; before = λ i low. absurd (omega (arith, low)); end = λ low. absurd (omega (arith, low)) }, (decimal n, refl));
}

-- behind the lines of all acts it is no part of the next one
pub not_part : (begun : ℤ) (acts : List Act) (rest : List ℕ) → ¬ IsPartOf (next_number acts) rest → ¬ IsTail begun [] acts rest
not_part begun acts rest none (inl left) =
    let no_lines : newer_text begun left.0 acts ≡ [] = ap (λ l. newer_text begun l acts) (no_part left.1 refl) in
    let few = left.2.few in
    let low = ap length no_lines in
    none (subst (IsPartOf (next_number acts)) (sym (empty rest (omega (arith, few, low)))) (nothing (next_number acts)))
not_part begun acts rest none (inr part) = none part.1
