-- Lines of a text.
use Rattle.std.specs.Prelude.{◌≡◌, ◌≢◌, ◌⊎◌, ℕ, List, [], ◌∷◌, ◌++◌, length, decimal, All}

-- bytes without a line feed
abbrev pub IsPart : List ℕ → Type 0
IsPart bytes = All (λ b. b ≢ 10) bytes

-- bytes that end with a line feed, and have no other
pub record IsLine (line : List ℕ) : Type 0 where
  pub body : List ℕ
  pub is : line ≡ body ++ 10 ∷ []
  pub one : IsPart body

-- a line, or so many bytes without a line feed as are read of one at most
abbrev pub IsPiece : List ℕ → Type 0
IsPiece line = IsLine line ⊎ (IsPart line × (length line ≡ 8_192))

-- the line begins with this number, and a tab behind it
abbrev pub Bears : (text line : List ℕ) → Type 0
Bears text line = (more : List ℕ) × (line ≡ text ++ 9 ∷ more)

abbrev pub IsNumbered : ℕ → List ℕ → Type 0
IsNumbered n line = Bears (decimal n) line
