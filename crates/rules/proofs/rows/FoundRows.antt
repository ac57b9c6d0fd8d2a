-- Look-ups among rows that are kept by a test, or made of others.
use Rattle.rules.proofs.Words.{◌≡◌, Bool, true, false, ◌&&◌, not, List, [], ◌∷◌, refl, ap, sym, ◌∙◌, if◌then◌else◌, Option, Some, find, filter, ◌||◌, None, map, option_map, is_some, list_any, AreOwn, no_two, and_both, not_true, any_found}

-- what is found passes the test
pub found_passes : {X : Type 0} (test : X → Bool) (xs : List X) (x : X) → find test xs ≡ Some x → test x ≡ true
found_passes test [] x e = cc
found_passes test (y ∷ ys) x e =
    elim (test y) as (λ b. test y ≡ b → (if b then Some y else find test ys) ≡ Some x → test x ≡ true) [
      | true ↦ λ t f. let own : y ≡ x = cc in ap test (sym own) ∙ t
      | false ↦ λ t f. found_passes test ys x f
    ] refl e

-- a row that is found is the table's under its key
pub found_own : {K R : Type 0} (key : R → K) (allowed : K → Bool) (row : K → Option R) (test : R → Bool) (rows : List R) → AreOwn key allowed row rows → (r : R) → find test rows ≡ Some r → row (key r) ≡ Some r
found_own key allowed row test [] h r e = cc
found_own {R = R} key allowed row test (q ∷ qs) h r e =
    elim (test q) as (λ b. (if b then Some q else find test qs) ≡ Some r → row (key r) ≡ Some r) [
      | true ↦ λ f. let own : q ≡ r = cc in (λ i. row (key (sym own i))) ∙ h.1 ∙ ap (λ (x : R). Some x) own
      | false ↦ λ f. found_own key allowed row test qs h.2 r f
    ] e

-- a key that stands among the rows is found as the table has it
pub there_found : {K R : Type 0} (same : K → K → Bool) (same_is : (a b : K) → same a b ≡ true → a ≡ b) (key : R → K) (allowed : K → Bool) (row : K → Option R) (rows : List R) → AreOwn key allowed row rows
    → (k : K) → list_any (λ r. same k (key r)) rows ≡ true → find (λ r. same k (key r)) rows ≡ row k
there_found {R = R} same same_is key allowed row rows own k there = by_found (find (λ r. same k (key r)) rows) refl
  where
    by_found : (x : Option R) → find (λ r. same k (key r)) rows ≡ x → find (λ r. same k (key r)) rows ≡ row k
    by_found None e = let f : false ≡ true = ap is_some (sym e) ∙ any_found (λ r. same k (key r)) rows ∙ there in cc
    by_found (Some r) e = e ∙ sym (ap row (same_is k (key r) (found_passes (λ r. same k (key r)) rows r e)) ∙ found_own key allowed row (λ r. same k (key r)) rows own r e)

-- Tests

pub same_finds : {X : Type 0} (test other : X → Bool) → ((x : X) → test x ≡ other x) → (xs : List X) → find test xs ≡ find other xs
same_finds test other same [] = refl
same_finds test other same (x ∷ xs) = λ i. if same x i then Some x else same_finds test other same xs i

pub find_never : {X : Type 0} (test : X → Bool) → ((x : X) → test x ≡ false) → (xs : List X) → find test xs ≡ None
find_never test never [] = refl
find_never test never (x ∷ xs) = ap (λ b. if b then Some x else find test xs) (never x) ∙ find_never test never xs

-- Kept rows

pub find_kept : {X : Type 0} (test keep : X → Bool) (xs : List X) → find test (filter keep xs) ≡ find (λ x. keep x && test x) xs
find_kept test keep [] = refl
find_kept test keep (x ∷ xs) =
    elim (keep x) as (λ b. find test (if b then x ∷ filter keep xs else filter keep xs) ≡ (if b && test x then Some x else find (λ x. keep x && test x) xs)) [
      | true ↦ ap (λ rest. if test x then Some x else rest) (find_kept test keep xs)
      | false ↦ find_kept test keep xs
    ]

pub find_mapped : {X Y : Type 0} (f : X → Y) (test : Y → Bool) (xs : List X) → find test (map f xs) ≡ option_map f (find (λ x. test (f x)) xs)
find_mapped f test [] = refl
find_mapped f test (x ∷ xs) =
    elim (test (f x)) as (λ b. (if b then Some (f x) else find test (map f xs)) ≡ option_map f (if b then Some x else find (λ x. test (f x)) xs)) [
      | true ↦ refl
      | false ↦ find_mapped f test xs
    ]

-- No key twice

module _ {X Y : Type 0} (keep : X → Bool) (same : X → X → Bool) (f : X → Y) (alike : Y → Y → Bool) (at_most : (x y : X) → keep x ≡ true → keep y ≡ true → alike (f x) (f y) ≡ true → same x y ≡ true) where
  none_alike : (x : X) → keep x ≡ true → (xs : List X) → list_any (same x) xs ≡ false → list_any (alike (f x)) (map f (filter keep xs)) ≡ false
  none_alike x k [] e = refl
  none_alike x k (y ∷ ys) e =
      elim (same x y) as (λ b. same x y ≡ b → b || list_any (same x) ys ≡ false → list_any (alike (f x)) (map f (if keep y then y ∷ filter keep ys else filter keep ys)) ≡ false) [
        | true ↦ λ t g. let h : true ≡ false = g in cc
        | false ↦ λ t g.
            elim (keep y) as (λ c. keep y ≡ c → list_any (alike (f x)) (map f (if c then y ∷ filter keep ys else filter keep ys)) ≡ false) [
              | true ↦ λ u. (λ i. differ y u t i || none_alike x k ys g i)
              | false ↦ λ u. none_alike x k ys g
            ] refl
      ] refl e
    where
      differ : (y : X) → keep y ≡ true → same x y ≡ false → alike (f x) (f y) ≡ false
      differ y u t = elim (alike (f x) (f y)) as (λ b. alike (f x) (f y) ≡ b → b ≡ false) [ true ↦ λ a. let h : true ≡ false = sym (at_most x y k u a) ∙ t in cc | false ↦ λ a. refl ] refl

  -- rows made of kept ones that differ
  pub kept_once : (xs : List X) → no_two same xs ≡ true → no_two alike (map f (filter keep xs)) ≡ true
  kept_once [] e = refl
  kept_once (x ∷ xs) e =
      let two = and_both (not (list_any (same x) xs)) (no_two same xs) e in
      elim (keep x) as (λ b. keep x ≡ b → no_two alike (map f (if b then x ∷ filter keep xs else filter keep xs)) ≡ true) [
        | true ↦ λ k. (λ i. not (none_alike x k xs (not_true (list_any (same x) xs) two.0) i) && kept_once xs two.1 i)
        | false ↦ λ k. kept_once xs two.1
      ] refl
