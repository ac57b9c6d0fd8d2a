-- Sums over the bookings of an item, order by order: those of urgent orders and those of the others are all.
use Rattle.rules.proofs.Words.{◌≡◌, ℕ, ◌+◌, Bool, true, false, not, List, [], ◌∷◌, ◌++◌, refl, ap, ◌∙◌, arith, if◌then◌else◌, filter, flat_map, reverse, reverse-append, total, Act, orders, Booking, bookings, lines_of_item, is_urgent, is_normal, total_flat}

pub total_append : {X : Type 0} (f : X → ℕ) (xs ys : List X) → total f (xs ++ ys) ≡ total f xs + total f ys
total_append f [] ys = omega arith
total_append f (x ∷ xs) ys = omega (arith, total_append f xs ys)

total_reversed : {X : Type 0} (f : X → ℕ) (xs : List X) → total f (reverse xs) ≡ total f xs
total_reversed f [] = refl
total_reversed f (x ∷ xs) = ap (total f) (reverse-append (x ∷ []) xs) ∙ omega (arith, total_append f (reverse xs) (x ∷ []), total_reversed f xs)

pub total_flat_map : {X Y : Type 0} (f : Y → ℕ) (g : X → List Y) (xs : List X) → total f (flat_map g xs) ≡ total (λ x. total f (g x)) xs
total_flat_map f g [] = refl
total_flat_map f g (x ∷ xs) = omega (arith, total_append f (g x) (flat_map g xs), total_flat_map f g xs)

-- what passes a test and what does not are all
pub total_parted : {X : Type 0} (f : X → ℕ) (test : X → Bool) (xs : List X) → total f (filter test xs) + total f (filter (λ x. not (test x)) xs) ≡ total f xs
total_parted f test [] = refl
total_parted f test (x ∷ xs) = elim (test x) as (λ b. total f (if b then x ∷ filter test xs else filter test xs) + total f (if not b then x ∷ filter (λ x. not (test x)) xs else filter (λ x. not (test x)) xs) ≡ f x + total f xs) [
  | true ↦ omega (arith, total_parted f test xs)
  | false ↦ omega (arith, total_parted f test xs)
]

pub total_bookings : (f : Booking → ℕ) (acts : List Act) (g : List ℕ) → total f (bookings acts g) ≡ total (λ p. total f (lines_of_item g p)) (orders acts)
total_bookings f acts g =
    let ones = filter is_urgent (orders acts) in
    let others = filter is_normal (orders acts) in
    omega (
      arith,
      total_append f (reverse (flat_map (lines_of_item g) ones)) (reverse (flat_map (lines_of_item g) others)),
      total_reversed f (flat_map (lines_of_item g) ones),
      total_reversed f (flat_map (lines_of_item g) others),
      total_flat f g ones,
      total_flat f g others,
      total_parted (λ p. total f (lines_of_item g p)) is_urgent (orders acts),
    )
