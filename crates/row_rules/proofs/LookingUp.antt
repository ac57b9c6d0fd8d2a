-- What is sought among the rows that are given for a text is what is sought among all rows; and how the rows come to stand with their texts and numbers.
use Rattle.row_rules.proofs.Words.{◌≡◌, ℕ, ◌+◌, ◌<◌, Bool, true, false, List, [], ◌∷◌, ◌++◌, length, get_or, take, refl, ap, sym, ◌∙◌, arith, ◌==◌, ◌||◌, if◌then◌else◌, map, flat_map, filter, find, Option, Some, None, is_some, list_any, option_or, nat_cmp, unsigned_tied, BTreeMap, get, is_at, take_more, find-append, exact_unsigned, tells_apart, total, equal_turned}

-- A part of a list

outside : (a b : Bool) → (a ≡ true → b ≡ true) → b ≡ false → a ≡ false
outside true b within e = let f : true ≡ false = sym (within refl) ∙ e in cc
outside false b within e = refl

pub filter_twice : {X : Type 0} (test : X → Bool) (xs : List X) → filter test (filter test xs) ≡ filter test xs
filter_twice test [] = refl
filter_twice test (x ∷ xs) =
    elim (test x) as (λ b. test x ≡ b → filter test (if b then x ∷ filter test xs else filter test xs) ≡ (if b then x ∷ filter test xs else filter test xs)) [
      | true ↦ λ e. ap (λ b. if b then x ∷ filter test (filter test xs) else filter test (filter test xs)) e ∙ ap (λ ys. x ∷ ys) (filter_twice test xs)
      | false ↦ λ e. filter_twice test xs
    ] refl

-- all that pass the test are in the part
module _ {X : Type 0} (test part : X → Bool) (within : (x : X) → test x ≡ true → part x ≡ true) where
  filter_in_part : (xs : List X) → filter test (filter part xs) ≡ filter test xs
  filter_in_part [] = refl
  filter_in_part (x ∷ xs) =
      elim (part x) as (λ b. part x ≡ b → filter test (if b then x ∷ filter part xs else filter part xs) ≡ (if test x then x ∷ filter test xs else filter test xs)) [
        | true ↦ λ e. ap (λ ys. if test x then x ∷ ys else ys) (filter_in_part xs)
        | false ↦ λ e. filter_in_part xs ∙ sym (ap (λ b. if b then x ∷ filter test xs else filter test xs) (outside (test x) (part x) (within x) e))
      ] refl

  pub filter_given : (given all : List X) → filter part given ≡ filter part all → filter test given ≡ filter test all
  filter_given given all same = sym (filter_in_part given) ∙ ap (filter test) same ∙ filter_in_part all

  find_in_part : (xs : List X) → find test (filter part xs) ≡ find test xs
  find_in_part [] = refl
  find_in_part (x ∷ xs) =
      elim (part x) as (λ b. part x ≡ b → find test (if b then x ∷ filter part xs else filter part xs) ≡ (if test x then Some x else find test xs)) [
        | true ↦ λ e. ap (λ y. if test x then Some x else y) (find_in_part xs)
        | false ↦ λ e. find_in_part xs ∙ sym (ap (λ b. if b then Some x else find test xs) (outside (test x) (part x) (within x) e))
      ] refl

  any_in_part : (xs : List X) → list_any test (filter part xs) ≡ list_any test xs
  any_in_part [] = refl
  any_in_part (x ∷ xs) =
      elim (part x) as (λ b. part x ≡ b → list_any test (if b then x ∷ filter part xs else filter part xs) ≡ test x || list_any test xs) [
        | true ↦ λ e. ap (λ b. test x || b) (any_in_part xs)
        | false ↦ λ e. any_in_part xs ∙ sym (ap (λ b. b || list_any test xs) (outside (test x) (part x) (within x) e))
      ] refl

  pub find_given : (given all : List X) → filter part given ≡ filter part all → find test given ≡ find test all
  find_given given all same = sym (find_in_part given) ∙ ap (find test) same ∙ find_in_part all

  pub any_given : (given all : List X) → filter part given ≡ filter part all → list_any test given ≡ list_any test all
  any_given given all same = sym (any_in_part given) ∙ ap (list_any test) same ∙ any_in_part all

-- outside the part is nothing to sum
module _ {X : Type 0} (f : X → ℕ) (part : X → Bool) (none : (x : X) → part x ≡ false → f x ≡ 0) where
  total_in_part : (xs : List X) → total f (filter part xs) ≡ total f xs
  total_in_part [] = refl
  total_in_part (x ∷ xs) =
      elim (part x) as (λ b. part x ≡ b → total f (if b then x ∷ filter part xs else filter part xs) ≡ f x + total f xs) [
        | true ↦ λ e. ap (λ n. f x + n) (total_in_part xs)
        | false ↦ λ e. let nothing = none x e in let rest = total_in_part xs in omega arith
      ] refl

  pub total_given : (given all : List X) → filter part given ≡ filter part all → total f given ≡ total f all
  total_given given all same = sym (total_in_part given) ∙ ap (total f) same ∙ total_in_part all

pub total_agree : {X : Type 0} (f g : X → ℕ) → ((x : X) → f x ≡ g x) → (xs : List X) → total f xs ≡ total g xs
total_agree f g same [] = refl
total_agree f g same (x ∷ xs) = λ i. same x i + total_agree f g same xs i

pub map_agree : {X Y : Type 0} (f g : X → Y) → ((x : X) → f x ≡ g x) → (xs : List X) → map f xs ≡ map g xs
map_agree f g same [] = refl
map_agree f g same (x ∷ xs) = λ i. same x i ∷ map_agree f g same xs i

-- what is made of those that pass a test

pub total_kept : {X : Type 0} (f : X → ℕ) (test : X → Bool) (xs : List X) → total f (filter test xs) ≡ total (λ x. if test x then f x else 0) xs
total_kept f test [] = refl
total_kept f test (x ∷ xs) =
    elim (test x) as (λ b. total f (if b then x ∷ filter test xs else filter test xs) ≡ (if b then f x else 0) + total (λ y. if test y then f y else 0) xs) [
      | true ↦ ap (λ n. f x + n) (total_kept f test xs)
      | false ↦ total_kept f test xs ∙ nothing (total (λ y. if test y then f y else 0) xs)
    ]
  where
    nothing : (n : ℕ) → n ≡ 0 + n
    nothing n = omega arith

pub gathered_kept : {X Y : Type 0} (f : X → List Y) (test : X → Bool) (xs : List X) → flat_map f (filter test xs) ≡ flat_map (λ x. if test x then f x else []) xs
gathered_kept f test [] = refl
gathered_kept f test (x ∷ xs) =
    elim (test x) as (λ b. flat_map f (if b then x ∷ filter test xs else filter test xs) ≡ (if b then f x else []) ++ flat_map (λ y. if test y then f y else []) xs) [
      | true ↦ ap (λ ys. f x ++ ys) (gathered_kept f test xs)
      | false ↦ gathered_kept f test xs
    ]

pub gathered_agree : {X Y : Type 0} (f g : X → List Y) → ((x : X) → f x ≡ g x) → (xs : List X) → flat_map f xs ≡ flat_map g xs
gathered_agree f g same [] = refl
gathered_agree f g same (x ∷ xs) = λ i. same x i ++ gathered_agree f g same xs i

-- Rows by their numbers

-- what is found among one row more
pub find_more : {X : Type 0} (test : X → Bool) (xs : List X) (i : ℕ) (none : X) → i < length xs
    → option_or (find test (take i xs)) (if test (get_or xs i none) then Some (get_or xs i none) else None) ≡ find test (take (i + 1) xs)
find_more test xs i none h = sym (ap (find test) (take_more xs i none h) ∙ find-append test (take i xs) (get_or xs i none ∷ []))

-- a row of a number that one has already
pub first_there : {X : Type 0} (x : X) (k : ℕ) (m : BTreeMap ℕ X) → is_some (get nat_cmp m k) ≡ true → (q : ℕ) → get nat_cmp m q ≡ option_or (get nat_cmp m q) (if q == k then Some x else None)
first_there x k m there q =
    elim (is_at (nat_cmp k) q) as (λ b. is_at (nat_cmp k) q ≡ b → get nat_cmp m q ≡ option_or (get nat_cmp m q) (if b then Some x else None)) [
      | true ↦ λ e. stays (get nat_cmp m q) (Some x) (ap (λ n. is_some (get nat_cmp m n)) (sym (tells_apart exact_unsigned k q e)) ∙ there)
      | false ↦ λ e. or_none (get nat_cmp m q)
    ] refl
    ∙ ap (λ b. option_or (get nat_cmp m q) (if b then Some x else None)) (sym (equal_turned q k ∙ sym (unsigned_tied k q)))
  where
    stays : {X : Type 0} (y z : Option X) → is_some y ≡ true → y ≡ option_or y z
    stays None z e = let f : false ≡ true = e in cc
    stays (Some y) z e = refl

    or_none : {X : Type 0} (y : Option X) → y ≡ option_or y None
    or_none None = refl
    or_none (Some y) = refl
