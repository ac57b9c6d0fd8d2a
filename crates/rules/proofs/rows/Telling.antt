-- A sum over rows is the sum over all that the table shows, if what has no row counts nothing.
use Rattle.rules.proofs.Words.{◌≡◌, ℕ, ◌+◌, Bool, true, false, ◌&&◌, not, List, [], ◌∷◌, refl, ap, sym, ◌∙◌, arith, ◌||◌, if◌then◌else◌, Option, Some, None, find, option_map, list_any, total, AreOwn, no_two, total_zero, add_totals, and_both, not_true, some_one, AreApart, AllFound}

-- sums of sums may be exchanged
pub totals_swapped : {X Y : Type 0} (f : X → Y → ℕ) (xs : List X) (ys : List Y) → total (λ x. total (f x) ys) xs ≡ total (λ y. total (λ x. f x y) xs) ys
totals_swapped f [] ys = sym (total_zero ys)
totals_swapped f (x ∷ xs) ys = ap (λ n. total (f x) ys + n) (totals_swapped f xs ys) ∙ sym (add_totals (f x) (λ y. total (λ z. f z y) xs) ys)

pub none_picked : {X : Type 0} (test : X → Bool) (f : X → ℕ) (xs : List X) → list_any test xs ≡ false → total (λ y. if test y then f y else 0) xs ≡ 0
none_picked test f [] e = refl
none_picked test f (x ∷ xs) e =
    elim (test x) as (λ b. b || list_any test xs ≡ false → (if b then f x else 0) + total (λ y. if test y then f y else 0) xs ≡ 0) [
      | true ↦ λ h. cc
      | false ↦ λ h. omega (arith, none_picked test f xs h)
    ] e

pub some_of_mapped : {A B : Type 0} (f : A → B) (x : Option A) (b : B) → option_map f x ≡ Some b → (a : A) × (x ≡ Some a) × (f a ≡ b)
some_of_mapped f None b e = cc
some_of_mapped f (Some a) b e = (a, refl, some_one (f a) b e)

module _ {K : Type 0} (same : K → K → Bool) (same_is : (a b : K) → same a b ≡ true → a ≡ b) (turned : (a b : K) → same a b ≡ same b a) where
  -- the sum over those of a key is what the one found has
  pub picked : {X : Type 0} (key : X → K) (k : K) (f : X → ℕ) (xs : List X) (x : X) → no_two (λ y z. same (key y) (key z)) xs ≡ true → find (λ y. same k (key y)) xs ≡ Some x
      → total (λ y. if same k (key y) then f y else 0) xs ≡ f x
  picked key k f [] x once e = cc
  picked key k f (y ∷ ys) x once e =
      let two = and_both (not (list_any (λ z. same (key y) (key z)) ys)) (no_two (λ y z. same (key y) (key z)) ys) once in
      elim (same k (key y)) as (λ b. same k (key y) ≡ b → (if b then Some y else find (λ z. same k (key z)) ys) ≡ Some x
      → (if b then f y else 0) + total (λ z. if same k (key z) then f z else 0) ys ≡ f x) [
        | true ↦ λ t h.
            let own : k ≡ key y = same_is k (key y) t in
            let none : list_any (λ z. same k (key z)) ys ≡ false = ap (λ (n : K). list_any (λ z. same n (key z)) ys) own ∙ not_true _ two.0 in
            let one : y ≡ x = cc in
            omega (arith, none_picked (λ z. same k (key z)) f ys none, ap f one)
        | false ↦ λ t h. omega (arith, picked key k f ys x two.1 h)
      ] refl e

  pub once_apart : {X : Type 0} (key : X → K) (xs : List X) → AreApart (λ x y. same (key x) (key y)) xs → no_two (λ x y. same (key x) (key y)) xs ≡ true
  once_apart key [] h = refl
  once_apart key (x ∷ xs) h = (λ i. not (h.0 i) && once_apart key xs h.1 i)

  -- what is found under a key has it
  pub found_key : {X : Type 0} (key : X → K) (k : K) (xs : List X) (x : X) → find (λ y. same k (key y)) xs ≡ Some x → k ≡ key x
  found_key key k [] x e = cc
  found_key key k (y ∷ ys) x e =
      elim (same k (key y)) as (λ b. same k (key y) ≡ b → (if b then Some y else find (λ z. same k (key z)) ys) ≡ Some x → k ≡ key x) [
        | true ↦ λ t h. let own : y ≡ x = cc in same_is k (key y) t ∙ ap key own
        | false ↦ λ t h. found_key key k ys x h
      ] refl e

  module _ {X R : Type 0} (name : X → K) (key : R → K) (show : X → R) (all : List X) (apart : AreApart (λ x y. same (name x) (name y)) all) (found_all : AllFound (λ x y. same (name x) (name y)) all all)
      (w : K → ℕ) (needed allowed : K → Bool) (rows : List R) (found : (k : K) → needed k ≡ true → find (λ r. same k (key r)) rows ≡ option_map show (find (λ x. same k (name x)) all))
      (own : AreOwn key allowed (λ k. option_map show (find (λ x. same k (name x)) all)) rows) (once : no_two (λ r s. same (key r) (key s)) rows ≡ true)
      (none : (x : X) → find (λ y. same (name x) (name y)) all ≡ Some x → needed (name x) ≡ false → w (name x) ≡ 0) where
    row_counts : (r : R) → option_map show (find (λ x. same (key r) (name x)) all) ≡ Some r → total (λ (x : X). if same (key r) (name x) then w (name x) else 0) all ≡ w (key r)
    row_counts r e =
        let m = some_of_mapped show (find (λ x. same (key r) (name x)) all) r e in
        picked name (key r) (λ x. w (name x)) all m.0 (once_apart name all apart) m.1 ∙ ap w (sym (found_key name (key r) all m.0 m.1))

    rows_count : (rs : List R) → AreOwn key allowed (λ k. option_map show (find (λ x. same k (name x)) all)) rs → total (λ r. w (key r)) rs ≡ total (λ r. total (λ (x : X). if same (key r) (name x) then w (name x) else 0) all) rs
    rows_count [] h = refl
    rows_count (r ∷ rs) h = λ i. sym (row_counts r h.1) i + rows_count rs h.2 i

    nothing_counts : (n : ℕ) (k : K) → n ≡ 0 → (rs : List R) → total (λ r. if same (key r) k then n else 0) rs ≡ 0
    nothing_counts n k e [] = refl
    nothing_counts n k e (r ∷ rs) = elim (same (key r) k) as (λ b. (if b then n else 0) + total (λ r. if same (key r) k then n else 0) rs ≡ 0) [
      | true ↦ omega (arith, nothing_counts n k e rs)
      | false ↦ omega (arith, nothing_counts n k e rs)
    ]

    one_counts : (x : X) → find (λ y. same (name x) (name y)) all ≡ Some x → total (λ r. if same (key r) (name x) then w (name x) else 0) rows ≡ w (name x)
    one_counts x named =
        elim (needed (name x)) as (λ b. needed (name x) ≡ b → total (λ r. if same (key r) (name x) then w (name x) else 0) rows ≡ w (name x)) [
          | true ↦ λ e.
              (λ i. total (λ r. if turned (key r) (name x) i then w (name x) else 0) rows)
              ∙ picked key (name x) (λ r. w (name x)) rows (show x) once (found (name x) e ∙ ap (option_map show) named)
          | false ↦ λ e. let z = none x named e in nothing_counts (w (name x)) (name x) z rows ∙ sym z
        ] refl

    all_count : (xs : List X) → AllFound (λ x y. same (name x) (name y)) all xs → total (λ x. total (λ r. if same (key r) (name x) then w (name x) else 0) rows) xs ≡ total (λ x. w (name x)) xs
    all_count [] h = refl
    all_count (x ∷ xs) h = λ i. one_counts x h.0 i + all_count xs h.1 i

    pub rows_tell : total (λ r. w (key r)) rows ≡ total (λ x. w (name x)) all
    rows_tell = rows_count rows own ∙ totals_swapped (λ r x. if same (key r) (name x) then w (name x) else 0) rows all ∙ all_count all found_all
