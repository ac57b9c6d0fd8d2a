-- What contracts see of a writer that is lent.
use Rattle.std.specs.Prelude.{ℕ, List, ◌∷◌, Option, Some, None}

-- the bytes, where they are known, behind the name of the reference
abbrev pub behind : ℕ → Option (List ℕ) → Option (List ℕ)
behind name None = None
behind name (Some bytes) = Some (name ∷ bytes)
