-- Rows with several more whose keys are new are the rows of the look-up that has these.
use Rattle.rules.proofs.Words.{◌≡◌, Bool, true, false, not, List, [], ◌∷◌, ◌++◌, refl, ◌∙◌, ◌||◌, if◌then◌else◌, Option, Some, None, find, list_any, AreRows, no_two, unless_put, and_both, not_true}
use Rattle.rules.proofs.rows.AfterRows.{loosened, rows_added}

-- Look-ups in one list after another

pub put_over_none : {X : Type 0} (x : Option X) → unless_put x false None ≡ x
put_over_none None = refl
put_over_none (Some x) = refl

pub find_appended : {X : Type 0} (test : X → Bool) (xs ys : List X) → find test (xs ++ ys) ≡ unless_put (find test xs) false (find test ys)
find_appended test [] ys = refl
find_appended test (x ∷ xs) ys = elim (test x) as (λ b. (if b then Some x else find test (xs ++ ys)) ≡ unless_put (if b then Some x else find test xs) false (find test ys)) [
  | true ↦ refl
  | false ↦ find_appended test xs ys
]

pub not_found : {X : Type 0} (test : X → Bool) (xs : List X) → list_any test xs ≡ false → find test xs ≡ None
not_found test [] e = refl
not_found test (x ∷ xs) e = elim (test x) as (λ b. b || list_any test xs ≡ false → (if b then Some x else find test xs) ≡ None) [
  | true ↦ λ h. let f : true ≡ false = h in cc
  | false ↦ λ h. not_found test xs h
] e

module _ {K R : Type 0} (same : K → K → Bool) (same_is : (a b : K) → same a b ≡ true → a ≡ b) (itself : (a : K) → same a a ≡ true) (turned : (a b : K) → same a b ≡ same b a) (key : R → K) (needed : K → Bool) (row : K → Option R) where
  -- the look-up with the rows
  abbrev pub with_rows : List R → K → Option R
  with_rows news k = unless_put (find (λ r. same k (key r)) news) false (row k)

  -- no row is under one of their keys
  abbrev pub AllNew : List R → List R → Type 0
  AllNew rows [] = Unit {0}
  AllNew rows (n ∷ ns) = (find (λ r. same (key n) (key r)) rows ≡ None) × AllNew rows ns

  pub all_added : (news rows : List R) → no_two (λ r s. same (key r) (key s)) news ≡ true → AllNew rows news → AreRows same key needed (λ k. true) row rows → AreRows same key needed (λ k. true) (with_rows news) (news ++ rows)
  all_added [] rows once new are = loosened same key needed needed (λ k. true) (λ k. true) row (with_rows []) rows (λ k e. e) (λ k e. e) (λ k. refl) are
  all_added (n ∷ ns) rows once new are =
      let two = and_both (not (list_any (λ s. same (key n) (key s)) ns)) (no_two (λ r s. same (key r) (key s)) ns) once in
      let none : find (λ r. same (key n) (key r)) (ns ++ rows) ≡ None =
      find_appended (λ r. same (key n) (key r)) ns rows ∙ (λ i. unless_put (not_found (λ r. same (key n) (key r)) ns (not_true _ two.0) i) false (new.0 i)) in
      loosened same key needed needed (λ k. true) (λ k. true) (λ k. if same k (key n) then Some n else with_rows ns k) (with_rows (n ∷ ns)) (n ∷ ns ++ rows) (λ k e. e) (λ k e. e)
      (λ k. by_test k (same k (key n)))
      (rows_added same same_is itself turned key needed (with_rows ns) n (ns ++ rows) none (all_added ns rows two.1 new.1 are))
    where
      by_test : (k : K) (b : Bool) → (if b then Some n else with_rows ns k) ≡ unless_put (if b then Some n else find (λ r. same k (key r)) ns) false (row k)
      by_test k true = refl
      by_test k false = refl
