-- Loops that go along a list and make another: what is made so far, with what the rest gives.
use Rattle.row_rules.proofs.Words.{◌≡◌, ℕ, ◌+◌, ◌<◌, Bool, true, false, List, [], ◌∷◌, ◌++◌, length, get_or, take, drop, refl, ap, sym, ◌∙◌, append_assoc, if◌then◌else◌, map, filter, drop-length, take_more, drop_from, placed, inserted}

pub drop_end : {X : Type 0} (xs : List X) (i : ℕ) → i ≡ length xs → drop i xs ≡ []
drop_end xs i e = ap (λ n. drop n xs) e ∙ drop-length xs

pub append_none : {X : Type 0} (xs : List X) → xs ++ [] ≡ xs
append_none [] = refl
append_none (x ∷ xs) = ap (λ ys. x ∷ ys) (append_none xs)

-- mapped one by one
pub record IsMapped {X Y : Type 0} (f : X → Y) (xs : List X) (i : ℕ) (out : List Y) : Type 0 where
  pub so_far : out ++ map f (drop i xs) ≡ map f xs

pub mapped_more : {X Y : Type 0} (f : X → Y) (xs : List X) (i : ℕ) (out : List Y) (none : X) (new : List Y) → i < length xs → IsMapped f xs i out → new ≡ out ++ f (get_or xs i none) ∷ [] → IsMapped f xs (i + 1) new
mapped_more f xs i out none new h s e = record {
  so_far = ap (λ ys. ys ++ map f (drop (i + 1) xs)) e ∙ append_assoc out (f (get_or xs i none) ∷ []) (map f (drop (i + 1) xs)) ∙ sym (ap (λ ys. out ++ map f ys) (drop_from xs i none h)) ∙ s.so_far;
}

pub mapped_all : {X Y : Type 0} (f : X → Y) (xs : List X) (i : ℕ) (out : List Y) → i ≡ length xs → IsMapped f xs i out → out ≡ map f xs
mapped_all f xs i out e s = sym (append_none out) ∙ sym (ap (λ ys. out ++ map f ys) (drop_end xs i e)) ∙ s.so_far

-- kept one by one
pub record IsKept {X : Type 0} (test : X → Bool) (xs : List X) (i : ℕ) (out : List X) : Type 0 where
  pub so_far : out ++ filter test (drop i xs) ≡ filter test xs

pub kept_none : {X : Type 0} (test : X → Bool) (xs : List X) (out : List X) → out ≡ [] → IsKept test xs 0 out
kept_none test xs out e = record { so_far = ap (λ ys. ys ++ filter test xs) e }

pub kept_one : {X : Type 0} (b : Bool) (x : X) (rest out : List X) → (out ++ (if b then x ∷ [] else [])) ++ rest ≡ out ++ (if b then x ∷ rest else rest)
kept_one true x rest out = append_assoc out (x ∷ []) rest
kept_one false x rest out = ap (λ ys. ys ++ rest) (append_none out)

pub kept_more : {X : Type 0} (test : X → Bool) (xs : List X) (i : ℕ) (out : List X) (none : X) (new : List X) (wanted : Bool) → i < length xs → IsKept test xs i out → wanted ≡ test (get_or xs i none)
    → new ≡ out ++ (if wanted then get_or xs i none ∷ [] else []) → IsKept test xs (i + 1) new
kept_more test xs i out none new wanted h s w e = record {
  so_far =
      ap (λ ys. ys ++ filter test (drop (i + 1) xs)) (e ∙ ap (λ b. out ++ (if b then get_or xs i none ∷ [] else [])) w) ∙ kept_one (test (get_or xs i none)) (get_or xs i none) (filter test (drop (i + 1) xs)) out
      ∙ sym (ap (λ ys. out ++ filter test ys) (drop_from xs i none h)) ∙ s.so_far;
}

pub kept_all : {X : Type 0} (test : X → Bool) (xs : List X) (i : ℕ) (out : List X) → i ≡ length xs → IsKept test xs i out → out ≡ filter test xs
kept_all test xs i out e s = sym (append_none out) ∙ sym (ap (λ ys. out ++ filter test ys) (drop_end xs i e)) ∙ s.so_far

-- put in order one by one, if they pass a test
pub record IsInserted {X Y : Type 0} (earlier : Y → Y → Bool) (f : List X → List Y) (xs : List X) (i : ℕ) (out : List Y) : Type 0 where
  pub so_far : inserted earlier out (f (drop i xs)) ≡ inserted earlier [] (f xs)

-- where x stands in a list: the walk along it
pub record IsPlaced {X : Type 0} (earlier : X → X → Bool) (x : X) (ys : List X) (i : ℕ) : Type 0 where
  pub so_far : placed earlier x ys ≡ take i ys ++ placed earlier x (drop i ys)

pub placed_more : {X : Type 0} (earlier : X → X → Bool) (x : X) (ys : List X) (i : ℕ) (none : X) → i < length ys → earlier (get_or ys i none) x ≡ true → IsPlaced earlier x ys i → IsPlaced earlier x ys (i + 1)
placed_more earlier x ys i none h e s = record {
  so_far =
      s.so_far ∙ ap (λ zs. take i ys ++ placed earlier x zs) (drop_from ys i none h)
      ∙ ap (λ b. take i ys ++ (if b then get_or ys i none ∷ placed earlier x (drop (i + 1) ys) else x ∷ get_or ys i none ∷ drop (i + 1) ys)) e
      ∙ sym (append_assoc (take i ys) (get_or ys i none ∷ []) (placed earlier x (drop (i + 1) ys)))
      ∙ ap (λ zs. zs ++ placed earlier x (drop (i + 1) ys)) (sym (take_more ys i none h));
}

pub placed_at : {X : Type 0} (earlier : X → X → Bool) (x : X) (ys : List X) (i : ℕ) (none : X) → i < length ys → earlier (get_or ys i none) x ≡ false → IsPlaced earlier x ys i → placed earlier x ys ≡ take i ys ++ x ∷ drop i ys
placed_at earlier x ys i none h e s =
    s.so_far ∙ ap (λ zs. take i ys ++ placed earlier x zs) (drop_from ys i none h)
    ∙ ap (λ b. take i ys ++ (if b then get_or ys i none ∷ placed earlier x (drop (i + 1) ys) else x ∷ get_or ys i none ∷ drop (i + 1) ys)) e
    ∙ sym (ap (λ zs. take i ys ++ x ∷ zs) (drop_from ys i none h))
