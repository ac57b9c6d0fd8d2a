-- What orders are short of, put in order, is what the rows show of them.
use Rattle.views.proofs.Words.{◌≡◌, ℕ, Bool, true, false, List, [], ◌∷◌, refl, ap, ◌∙◌, if◌then◌else◌, filter, map, placed, OrderRow, UrgentRow, inserted, Rows, served_before, is_short, short_orders, short_line, short_told, is_any, shorts_served, OrderShort}
use Rattle.views.specs.GivenShort.{is_before}
use Rattle.views.proofs.Lists.{map_twice, filter_map}

-- In the order of service

-- what is made of orders stands in the order of these
module _ (urgents : List UrgentRow) (f : OrderRow → OrderShort) (same_before : (a b : OrderRow) → is_before (f a) (f b) ≡ served_before urgents a b) where
  abbrev before : OrderRow → OrderRow → Bool
  before = served_before urgents

  placed_made : (x : OrderRow) (ys : List OrderRow) → placed is_before (f x) (map f ys) ≡ map f (placed before x ys)
  placed_made x [] = refl
  placed_made x (y ∷ ys) =
      ap (λ b. if b then f y ∷ placed is_before (f x) (map f ys) else f x ∷ f y ∷ map f ys) (same_before y x)
      ∙ elim (before y x) as (λ b. (if b then f y ∷ placed is_before (f x) (map f ys) else f x ∷ f y ∷ map f ys) ≡ map f (if b then y ∷ placed before x ys else x ∷ y ∷ ys)) [
        | true ↦ ap (λ zs. f y ∷ zs) (placed_made x ys)
        | false ↦ refl
      ]

  inserted_made : (out xs : List OrderRow) → inserted is_before (map f out) (map f xs) ≡ map f (inserted before out xs)
  inserted_made out [] = refl
  inserted_made out (x ∷ xs) = ap (λ ys. inserted is_before ys (map f xs)) (placed_made x out) ∙ inserted_made (placed before x out) xs

-- What all rows show

module _ (g : List ℕ) (rows : Rows) where
  abbrev told : OrderRow → OrderShort
  told = short_told g rows.lines rows.staged rows.reserved rows.urgents

  pub lines_same : (orders : List OrderRow) → map (λ s. s.line) (shorts_served g rows.lines rows.staged rows.reserved rows.urgents orders) ≡ map (short_line g rows) (short_orders g rows orders)
  lines_same orders =
      ap (λ (ss : List OrderShort). map (λ s. s.line) (inserted is_before [] ss)) (filter_map is_any told orders)
      ∙ ap (map (λ (s : OrderShort). s.line)) (inserted_made rows.urgents told (λ a b. refl) [] (filter (is_short g rows) orders))
      ∙ map_twice (λ (s : OrderShort). s.line) told (short_orders g rows orders)
