-- A line of which another piece has come.
use Rattle.histories.proofs.Words.{◌≡◌, ◌≢◌, ℕ, zero, suc, ◌+◌, ◌-◌, ◌<◌, true, eq-eqb, eqb-true, refl, inl, inr, Some, None, List, [], ◌∷◌, ◌++◌, append_assoc, length, length-append, take, All, sym, ap, subst, ◌∙◌, arith, Option, take-length, StartsWith, StopsAt, IsEmptyOrEndsWith, appended_bytes, ◌==◌, if◌then◌else◌, OnSome, cases_Bool, Consumes, IsAtEnd, starts_with_rest, Consumes-trans, take_more, All-append, All-nil, IsPart, IsLine, Ended, Whole, Part}

-- what is so where it is told later, is so where it is told now
pub end_back : (a b c : Option (List ℕ)) (bytes : List ℕ) → Consumes a b bytes → OnSome b (IsAtEnd c) → OnSome a (IsAtEnd c)
end_back None b c bytes h e = tt
end_back (Some xs) None c bytes h e = absurd h
end_back (Some xs) (Some ys) c bytes h e = e

positive : (k : ℕ) → (k ≡ 0 → ⊥) → 0 < k
positive zero h = absurd (h refl)
positive (suc k) h = omega arith

-- a line does not end with the input where another piece has come
pub piece_came : (before k n : ℕ) (ends : Ended) → n ≡ before + k → ends ≡ (if n == before then Part else Whole) → ends ≡ Whole → 0 < k
piece_came before k n ends long is whole =
    positive k (λ none.
    let same : (n == before) ≡ true = eq-eqb n before (omega (arith, long, none)) in
    let part : Part ≡ Whole = sym (is ∙ ap (λ b. if b then Part else Whole) same) ∙ whole in
    cc)

pub no_piece : (before k n : ℕ) (ends : Ended) → n ≡ before + k → ends ≡ (if n == before then Part else Whole) → ends ≡ Part → k ≡ 0
no_piece before k n ends long is part = elim (cases_Bool (n == before)) [
  | inl same ↦ let e : n ≡ before = eqb-true n before same in omega (arith, long, e)
  | inr other ↦ let whole : Whole ≡ Part = sym (is ∙ ap (λ b. if b then Part else Whole) other) ∙ part in cc
]

pub no_bytes : (xs : List ℕ) → length xs ≡ 0 → IsPart xs
no_bytes [] none = All-nil (λ b. b ≢ 10)
no_bytes (x ∷ xs) none = absurd (omega (arith, none))

module _ (old new : List ℕ) (starts : StartsWith new old) where
  parts : new ≡ old ++ appended_bytes old new
  parts = starts_with_rest new old starts

  pub longer : length new ≡ length old + length (appended_bytes old new)
  longer = ap length parts ∙ length-append old (appended_bytes old new)

  pub still_open : IsPart old → All (λ b. b ≢ 10) (appended_bytes old new) → IsPart new
  still_open front piece = subst (All (λ b. b ≢ 10)) (sym parts) (All-append (λ b. b ≢ 10) old (appended_bytes old new) front piece)

  pub read_on : (a b c : Option (List ℕ)) → Consumes a b old → Consumes b c (appended_bytes old new) → Consumes a c new
  read_on a b c one two = subst (Consumes a c) (sym parts) (Consumes-trans a b c old (appended_bytes old new) one two)

  pub is_line : IsPart old → StopsAt (appended_bytes old new) 10 → IsEmptyOrEndsWith (appended_bytes old new) 10 → 0 < length (appended_bytes old new) → IsLine new
  is_line front stops ends some =
      let piece = appended_bytes old new in
      let i = length piece - 1 in
      let last : take (i + 1) piece ≡ take i piece ++ 10 ∷ [] = take_more piece i 0 (omega (arith, some)) ∙ ap (λ x. take i piece ++ x ∷ []) (ends some) in
      let end : i + 1 ≡ length piece = omega (arith, some) in
      let all : take (i + 1) piece ≡ piece = ap (λ n. take n piece) end ∙ take-length piece in
      record {
        body = old ++ take i piece;
        is = parts ∙ ap (λ t. old ++ t) (sym all ∙ last) ∙ sym (append_assoc old (take i piece) (10 ∷ []));
        one = All-append (λ b. b ≢ 10) old (take i piece) front stops;
      }
