-- What is told of each element of a list, where something is.
use Rattle.std.specs.Prelude.{◌≡◌, ◌∷◌}
use Rattle.queries.specs.Words.{List, [], Option, IsSomeAnd, Vec, Global}

-- of each element what stands beside it is told
abbrev pub EachTells : {X Y : Type 0} → (X → Y → Type 0) → List X → List Y → Type 0
EachTells Tells [] [] = Unit {0}
EachTells Tells (x ∷ xs) (y ∷ ys) = Tells x y × EachTells Tells xs ys
EachTells Tells [] (y ∷ ys) = ⊥
EachTells Tells (x ∷ xs) [] = ⊥

-- where something is told of each, this is it
abbrev pub AreToldOf : {X Y : Type 0} → (X → Y → Type 0) → List X → Option (Vec Y Global) → Type 0
AreToldOf {Y = Y} Tells xs told = (ys : List Y) → EachTells Tells xs ys → IsSomeAnd told (λ v. v.items ≡ ys)
