-- Texts that do not hold a byte, joined by that byte, can be told apart.
use Rattle.commands.proofs.Below.{◌≡◌, ℕ, Bool, true, false, List, [], ◌∷◌, ◌++◌, refl, ap, sym, arith, ◌&&◌, ◌==◌, join_with_byte, list_all, eqb-true, nat_tests}

-- no byte of the text is c
abbrev pub Lacks : ℕ → List ℕ → Type 0
Lacks c [] = Unit {0}
Lacks c (x ∷ xs) = ((x == c) ≡ false) × Lacks c xs

-- no byte of any of the texts is c
abbrev pub AllLack : ℕ → List (List ℕ) → Type 0
AllLack c [] = Unit {0}
AllLack c (x ∷ xs) = Lacks c x × AllLack c xs

differs_from_itself : (b c : ℕ) → b ≡ c → (b == c) ≡ false → ⊥
differs_from_itself b c e d = grind (arith, nat_tests)

-- the parts before and behind the first c
pub first_part : (c : ℕ) (x y r s : List ℕ) → Lacks c x → Lacks c y → x ++ c ∷ r ≡ y ++ c ∷ s → (x ≡ y) × (r ≡ s)
first_part c [] [] r s lx ly e = (refl, cc)
first_part c [] (b ∷ y) r s lx ly e = let h : b ≡ c = cc in absurd (differs_from_itself b c h ly.0)
first_part c (a ∷ x) [] r s lx ly e = let h : a ≡ c = cc in absurd (differs_from_itself a c h lx.0)
first_part c (a ∷ x) (b ∷ y) r s lx ly e =
    let h : a ≡ b = cc in
    let t : x ++ c ∷ r ≡ y ++ c ∷ s = cc in
    let p = first_part c x y r s lx.1 ly.1 t in
    (cc (h, p.0), p.1)

-- a text with c is none without
no_part : (c : ℕ) (x y r : List ℕ) → Lacks c y → x ++ c ∷ r ≡ y → ⊥
no_part c [] [] r l e = cc
no_part c [] (b ∷ y) r l e = let h : b ≡ c = cc in differs_from_itself b c h l.0
no_part c (a ∷ x) [] r l e = cc
no_part c (a ∷ x) (b ∷ y) r l e = let t : x ++ c ∷ r ≡ y = cc in no_part c x y r l.1 t

-- at least one text, and no byte of any is c
abbrev pub PartsLack : ℕ → List (List ℕ) → Type 0
PartsLack c [] = ⊥
PartsLack c (x ∷ xs) = Lacks c x × AllLack c xs

-- joined by c, the parts can be told again
pub joined_same : (c : ℕ) (xs ys : List (List ℕ)) → PartsLack c xs → PartsLack c ys → join_with_byte c xs ≡ join_with_byte c ys → xs ≡ ys
joined_same c [] ys lx ly e = absurd lx
joined_same c (x ∷ xs) [] lx ly e = absurd ly
joined_same c (x ∷ []) (y ∷ []) lx ly e = ap (λ z. z ∷ []) e
joined_same c (x ∷ []) (y ∷ v ∷ vs) lx ly e = absurd (no_part c y x (join_with_byte c (v ∷ vs)) lx.0 (sym e))
joined_same c (x ∷ u ∷ us) (y ∷ []) lx ly e = absurd (no_part c x y (join_with_byte c (u ∷ us)) ly.0 e)
joined_same c (x ∷ u ∷ us) (y ∷ v ∷ vs) lx ly e =
    let p = first_part c x y (join_with_byte c (u ∷ us)) (join_with_byte c (v ∷ vs)) lx.0 ly.0 e in
    let q = joined_same c (u ∷ us) (v ∷ vs) lx.1 ly.1 p.1 in
    cc (p.0, q)

pub and_true : (a b : Bool) → a ≡ true → b ≡ true → a && b ≡ true
and_true true b x y = y
and_true false b x y = x

pub and_both : (a b : Bool) → a && b ≡ true → (a ≡ true) × (b ≡ true)
and_both true b e = (refl, e)
and_both false b e = (cc, cc)

-- a text whose bytes all pass a test that c fails
pub lacks_failing : (c : ℕ) (test : ℕ → Bool) → test c ≡ false → (s : List ℕ) → list_all test s ≡ true → Lacks c s
lacks_failing c test fails [] passes = tt
lacks_failing c test fails (x ∷ xs) passes =
    let p = and_both (test x) (list_all test xs) passes in
    (other x p.0, lacks_failing c test fails xs p.1)
  where
    other : (x : ℕ) → test x ≡ true → (x == c) ≡ false
    other x e = elim (x == c) as (λ b. (x == c) ≡ b → b ≡ false) [
      | true ↦ λ t. let same : x ≡ c = eqb-true x c t in let same_test : test x ≡ test c = ap test same in cc
      | false ↦ λ f. refl
    ] refl

-- what passes a test passes a wider one
pub all_wider : (test wider : ℕ → Bool) → ((x : ℕ) → test x ≡ true → wider x ≡ true) → (s : List ℕ) → list_all test s ≡ true → list_all wider s ≡ true
all_wider test wider within [] passes = refl
all_wider test wider within (x ∷ xs) passes =
    let p = and_both (test x) (list_all test xs) passes in
    and_true (wider x) (list_all wider xs) (within x p.0) (all_wider test wider within xs p.1)

pub all-append : (test : ℕ → Bool) (x y : List ℕ) → list_all test x ≡ true → list_all test y ≡ true → list_all test (x ++ y) ≡ true
all-append test [] y lx ly = ly
all-append test (a ∷ x) y lx ly =
    let p = and_both (test a) (list_all test x) lx in
    and_true (test a) (list_all test (x ++ y)) p.0 (all-append test x y p.1 ly)
