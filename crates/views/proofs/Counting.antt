-- Counts as sums: how many elements of a list pass a test, and how many there are.
use Rattle.views.proofs.Words.{◌≡◌, ℕ, ◌+◌, Bool, true, false, ◌&&◌, List, [], ◌∷◌, length, refl, ◌∙◌, inl, inr, arith, if◌then◌else◌, filter, map, count_by, total, total_kept, total_map}
use Rattle.std.specs.List.{fold}
use Rattle.views.proofs.Sorting.{IsIn}

abbrev pub once_if : Bool → ℕ
once_if b = if b then 1 else 0

count_from : {X : Type 0} (test : X → Bool) (n : ℕ) (xs : List X) → fold (λ a x. a + once_if (test x)) n xs ≡ n + total (λ x. once_if (test x)) xs
count_from test n [] = omega arith
count_from test n (x ∷ xs) = omega (arith, count_from test (n + once_if (test x)) xs)

pub count_is : {X : Type 0} (test : X → Bool) (xs : List X) → count_by test xs ≡ total (λ x. once_if (test x)) xs
count_is test xs = omega (arith, count_from test 0 xs)

pub length_is : {X : Type 0} (xs : List X) → length xs ≡ total (λ x. 1) xs
length_is [] = refl
length_is (x ∷ xs) = omega (arith, length_is xs)

pub total_same : {X : Type 0} (f g : X → ℕ) (xs : List X) → ((x : X) → IsIn x xs → f x ≡ g x) → total f xs ≡ total g xs
total_same f g [] h = refl
total_same f g (x ∷ xs) h = λ i. h x (inl refl) i + total_same f g xs (λ y k. h y (inr k)) i

both : (a b : Bool) → (if a then once_if b else 0) ≡ once_if (a && b)
both true b = refl
both false b = refl

-- those that pass one test and then another
pub count_kept : {X : Type 0} (first second : X → Bool) (xs : List X) → count_by second (filter first xs) ≡ total (λ x. once_if (first x && second x)) xs
count_kept first second xs =
    count_is second (filter first xs) ∙ total_kept (λ x. once_if (second x)) first xs
    ∙ total_same (λ x. if first x then once_if (second x) else 0) (λ x. once_if (first x && second x)) xs (λ x h. both (first x) (second x))

pub count_mapped : {X Y : Type 0} (test : Y → Bool) (f : X → Y) (xs : List X) → count_by test (map f xs) ≡ total (λ x. once_if (test (f x))) xs
count_mapped test f xs = count_is test (map f xs) ∙ total_map (λ y. once_if (test y)) f xs
