-- Lists of which no two elements pass a test of sameness: each is the one that is found by it.
use Rattle.std.specs.List.{IsDistinct}
use Rattle.machine.proofs.Words.{◌≡◌, Bool, true, false, List, [], ◌∷◌, refl, ap, ◌∙◌, ◌||◌, if◌then◌else◌, Some, find, is_some, filter, map, list_any, AllByRecursion}
use Rattle.machine.proofs.Tests.{or_none}

pub any_found : {X : Type 0} (test : X → Bool) (xs : List X) → is_some (find test xs) ≡ list_any test xs
any_found test [] = refl
any_found test (x ∷ xs) = elim (test x) as (λ b. is_some (if b then Some x else find test xs) ≡ b || list_any test xs) [ true ↦ refl | false ↦ any_found test xs ]

pub none_in_filter : {X : Type 0} (test keep : X → Bool) (xs : List X) → list_any test xs ≡ false → list_any test (filter keep xs) ≡ false
none_in_filter test keep [] e = refl
none_in_filter test keep (x ∷ xs) e =
    let two = or_none (test x) (list_any test xs) e in
    elim (keep x) as (λ b. list_any test (if b then x ∷ filter keep xs else filter keep xs) ≡ false) [
      | true ↦ (λ i. two.0 i || none_in_filter test keep xs two.1 i)
      | false ↦ none_in_filter test keep xs two.1
    ]

module _ {X : Type 0} (same : X → X → Bool) where
  abbrev pub AreApart : List X → Type 0
  AreApart [] = Unit {0}
  AreApart (x ∷ xs) = (list_any (same x) xs ≡ false) × AreApart xs

  pub apart-filter : (keep : X → Bool) (xs : List X) → AreApart xs → AreApart (filter keep xs)
  apart-filter keep [] h = tt
  apart-filter keep (x ∷ xs) h = elim (keep x) as (λ b. AreApart (if b then x ∷ filter keep xs else filter keep xs)) [
    | true ↦ (none_in_filter (same x) keep xs h.0, apart-filter keep xs h.1)
    | false ↦ apart-filter keep xs h.1
  ]

  -- each of these is the one that is found by it
  abbrev pub AllFound : List X → List X → Type 0
  AllFound all [] = Unit {0}
  AllFound all (x ∷ xs) = (find (same x) all ≡ Some x) × AllFound all xs

  pub found_kept : (keep : X → Bool) (all xs : List X) → AllFound all xs → AllFound all (filter keep xs)
  found_kept keep all [] h = tt
  found_kept keep all (x ∷ xs) h = elim (keep x) as (λ b. AllFound all (if b then x ∷ filter keep xs else filter keep xs)) [ true ↦ (h.0, found_kept keep all xs h.1) | false ↦ found_kept keep all xs h.1 ]

  module _ (own : (x : X) → same x x ≡ true) (turned : (x y : X) → same x y ≡ same y x) where
    found_behind : (new : X) (all xs : List X) → list_any (same new) xs ≡ false → AllFound all xs → AllFound (new ∷ all) xs
    found_behind new all [] fresh h = tt
    found_behind new all (x ∷ xs) fresh h =
        let two = or_none (same new x) (list_any (same new) xs) fresh in
        (ap (λ b. if b then Some new else find (same x) all) (turned x new ∙ two.0) ∙ h.0, found_behind new all xs two.1 h.1)

    pub all_found : (xs : List X) → AreApart xs → AllFound xs xs
    all_found [] h = tt
    all_found (x ∷ xs) h = (ap (λ b. if b then Some x else find (same x) xs) (own x), found_behind x xs xs h.0 (all_found xs h.1))

-- names apart are distinct
none_same : {X K : Type 0} (same : K → K → Bool) (name : X → K) (k : K) (xs : List X) → list_any (λ x. same k (name x)) xs ≡ false → AllByRecursion (λ j. same k j ≡ false) (map name xs)
none_same same name k [] e = tt
none_same same name k (x ∷ xs) e = let two = or_none (same k (name x)) (list_any (λ x. same k (name x)) xs) e in (two.0, none_same same name k xs two.1)

pub distinct_names : {X K : Type 0} (same : K → K → Bool) (name : X → K) (xs : List X) → AreApart (λ x y. same (name x) (name y)) xs → IsDistinct same (map name xs)
unfolding IsDistinct
distinct_names same name [] h = tt
distinct_names same name (x ∷ xs) h = (none_same same name (name x) xs h.0, distinct_names same name xs h.1)
