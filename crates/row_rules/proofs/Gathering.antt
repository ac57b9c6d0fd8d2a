-- Loops that gather what each element of a list gives, and a search for an item that is named twice.
use Rattle.row_rules.proofs.Words.{◌≡◌, ℕ, ◌+◌, ◌<◌, Bool, true, false, List, ◌∷◌, ◌++◌, length, get_or, drop, refl, ap, sym, ◌∙◌, append_assoc, not, min, if◌then◌else◌, [], map, filter, flat_map, drop_from, OrderLine, ReservedRow, names_item_twice, CAP, capped, total}
use Rattle.row_rules.proofs.Walking.{append_none, drop_end}
use Rattle.row_rules.proofs.Capping.{IsCapped, capped_more, capped_all}

-- gathered one by one
pub record IsGathered {X Y : Type 0} (f : X → List Y) (xs : List X) (i : ℕ) (out : List Y) : Type 0 where
  pub so_far : out ++ flat_map f (drop i xs) ≡ flat_map f xs

pub gathered_none : {X Y : Type 0} (f : X → List Y) (xs : List X) (out : List Y) → out ≡ [] → IsGathered f xs 0 out
gathered_none f xs out e = record { so_far = ap (λ ys. ys ++ flat_map f xs) e }

pub gathered_more : {X Y : Type 0} (f : X → List Y) (xs : List X) (i : ℕ) (out : List Y) (none : X) (new : List Y) → i < length xs → IsGathered f xs i out → new ≡ out ++ f (get_or xs i none) → IsGathered f xs (i + 1) new
gathered_more f xs i out none new h s e = record {
  so_far =
      ap (λ ys. ys ++ flat_map f (drop (i + 1) xs)) e ∙ append_assoc out (f (get_or xs i none)) (flat_map f (drop (i + 1) xs))
      ∙ sym (ap (λ ys. out ++ flat_map f ys) (drop_from xs i none h)) ∙ s.so_far;
}

pub gathered_all : {X Y : Type 0} (f : X → List Y) (xs : List X) (i : ℕ) (out : List Y) → i ≡ length xs → IsGathered f xs i out → out ≡ flat_map f xs
gathered_all f xs i out e s = sym (append_none out) ∙ sym (ap (λ ys. out ++ flat_map f ys) (drop_end xs i e)) ∙ s.so_far

-- what is made of each is parted: that of those which pass a test, and that of the others
abbrev pub made_if : {X Y : Type 0} (f : X → Y) (test : X → Bool) → X → List Y
made_if f test x = if test x then f x ∷ [] else []

made_kept : {X Y : Type 0} (f : X → Y) (test : X → Bool) (xs : List X) → flat_map (made_if f test) xs ≡ map f (filter test xs)
made_kept f test [] = refl
made_kept f test (x ∷ xs) =
    elim (test x) as (λ b. (if b then f x ∷ [] else []) ++ flat_map (made_if f test) xs ≡ map f (if b then x ∷ filter test xs else filter test xs)) [
      | true ↦ ap (λ ys. f x ∷ ys) (made_kept f test xs)
      | false ↦ made_kept f test xs
    ]

pub record AreParted {X Y : Type 0} (f : X → Y) (test : X → Bool) (xs : List X) (i : ℕ) (passed others : List Y) : Type 0 where
  pub first : IsGathered (made_if f test) xs i passed
  pub rest : IsGathered (made_if f (λ x. not (test x))) xs i others

module _ {X Y : Type 0} (f : X → Y) (test : X → Bool) (xs : List X) where
  pub parted_more : (i : ℕ) (passed others : List Y) (none : X) (b : Bool) (y : Y) (new_passed new_others : List Y) → i < length xs → AreParted f test xs i passed others
      → b ≡ test (get_or xs i none) → y ≡ f (get_or xs i none)
      → new_passed ≡ passed ++ (if b then y ∷ [] else []) → new_others ≡ others ++ (if not b then y ∷ [] else []) → AreParted f test xs (i + 1) new_passed new_others
  parted_more i passed others none b y new_passed new_others less s t e p o = record {
    first = gathered_more (made_if f test) xs i passed none new_passed less s.first (p ∙ (λ j. passed ++ (if t j then e j ∷ [] else [])));
    rest = gathered_more (made_if f (λ x. not (test x))) xs i others none new_others less s.rest (o ∙ (λ j. others ++ (if not (t j) then e j ∷ [] else [])));
  }

  pub parted_passed : (i : ℕ) (passed others : List Y) → i ≡ length xs → AreParted f test xs i passed others → passed ≡ map f (filter test xs)
  parted_passed i passed others e s = gathered_all (made_if f test) xs i passed e s.first ∙ made_kept f test xs

  pub parted_others : (i : ℕ) (passed others : List Y) → i ≡ length xs → AreParted f test xs i passed others → others ≡ map f (filter (λ x. not (test x)) xs)
  parted_others i passed others e s = gathered_all (made_if f (λ x. not (test x))) xs i others e s.rest ∙ made_kept f (λ x. not (test x)) xs

-- the rows put and the units short, line by line
pub record IsBooked (f : OrderLine → List ReservedRow) (h : OrderLine → ℕ) (xs : List OrderLine) (i : ℕ) (puts : List ReservedRow) (sum : ℕ) : Type 0 where
  pub put : IsGathered f xs i puts
  pub short : IsCapped h xs i sum

module _ (f : OrderLine → List ReservedRow) (h : OrderLine → ℕ) (xs : List OrderLine) where
  pub booked_more : (i : ℕ) (puts : List ReservedRow) (sum : ℕ) (none : OrderLine) (new_puts : List ReservedRow) (new_sum : ℕ) → i < length xs → IsBooked f h xs i puts sum
      → new_puts ≡ puts ++ f (get_or xs i none) → new_sum ≡ min (sum + h (get_or xs i none)) CAP → IsBooked f h xs (i + 1) new_puts new_sum
  booked_more i puts sum none new_puts new_sum less b p s = record {
    put = gathered_more f xs i puts none new_puts less b.put p;
    short = capped_more h xs i sum new_sum none less b.short s;
  }

  pub booked_put : (i : ℕ) (puts : List ReservedRow) (sum : ℕ) → i ≡ length xs → IsBooked f h xs i puts sum → puts ≡ flat_map f xs
  booked_put i puts sum e b = gathered_all f xs i puts e b.put

  pub booked_short : (i : ℕ) (puts : List ReservedRow) (sum : ℕ) → i ≡ length xs → IsBooked f h xs i puts sum → sum ≡ capped (total h xs)
  booked_short i puts sum e b = capped_all h xs i sum e b.short

-- an item that is named twice is named twice from i on
pub record IsSoughtTwice (xs : List OrderLine) (i : ℕ) : Type 0 where
  pub rest : names_item_twice (drop i xs) ≡ names_item_twice xs
