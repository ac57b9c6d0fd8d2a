-- What a stop leaves behind the lines of a file, where more were being added.
use Rattle.std.specs.Prelude.{◌≡◌, ◌≢◌, ◌⊎◌, ◌<◌, ◌≤◌, ℕ, List, ◌++◌, length, take, slice_index, decimal}
use Rattle.histories.specs.Reading.{IsPart, IsNumbered}

-- the bytes go on with the line
abbrev pub Begins : (line bytes : List ℕ) → Type 0
Begins line bytes = (more : List ℕ) × (bytes ≡ line ++ more)

-- each of them is 0, or the one that stands there in the lines
abbrev pub AreOldOrNew : (lines rest : List ℕ) → Type 0
AreOldOrNew lines rest = (i : ℕ) → i < length rest → (slice_index rest i ≡ 0) ⊎ (slice_index rest i ≡ slice_index lines i)

-- before each line feed stands a byte 0
abbrev pub HasNoLine : List ℕ → Type 0
HasNoLine rest = (j : ℕ) → j < length rest → slice_index rest j ≡ 10 → (i : ℕ) × (i < j) × (slice_index rest i ≡ 0)

-- What a torn write of the lines leaves: at most as many bytes as they have, each of them 0 or the one that stands there. A line that
-- is whole is none of them.
pub record IsLeftOf (lines rest : List ℕ) : Type 0 where
  pub few : length rest ≤ length lines
  pub each : AreOldOrNew lines rest
  pub lineless : HasNoLine rest

-- so many bytes stand before the first byte 0, or before the end
pub record IsBeforeZero (rest : List ℕ) (n : ℕ) : Type 0 where
  pub within : n ≤ length rest
  pub before : (i : ℕ) → i < n → slice_index rest i ≢ 0
  pub end : n < length rest → slice_index rest n ≡ 0

-- Part of the line of the act of this number: it has no line feed, is shorter than any line may be, and begins as that line does: with
-- the number and a tab, or with a beginning of the number and then with a byte 0 or nothing more.
pub record IsPartOf (number : ℕ) (rest : List ℕ) : Type 0 where
  pub part : IsPart rest
  pub short : length rest < 8_192
  pub begins : IsNumbered number rest ⊎ ((n : ℕ) × IsBeforeZero rest n × Begins (take n rest) (decimal number))
