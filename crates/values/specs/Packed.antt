-- A text of at most twenty bytes as numbers, which compare as it does.
use Rattle.std.specs.Prelude.{◌≡◌, ℕ, zero, suc, ◌+◌, ◌-◌, ◌*◌, ◌≤◌, ◌<◌, List, ◌++◌, length, take, replicate, slice_index}
use Rattle.std.specs.Int.{w32, w64, to_be_bytes}
use Rattle.values.specs.declared.text_key.Packed.{Packed}

-- an array of n bytes that a text fills from its end; the others are zero
abbrev pub at_the_end : ℕ → List ℕ → List ℕ
at_the_end n text = replicate (n - length text) 0 ++ text

-- the number that n bytes of the text spell after a, from place i on, the greatest first; behind the text are zeros
abbrev pub spelt : List ℕ → ℕ → ℕ → ℕ → ℕ
spelt text a zero i = a
spelt text a (suc n) i = spelt text (a * 256 + slice_index text i) n (suc i)

-- the numbers of a text
abbrev pub packed : List ℕ → Packed
packed text = record { first = spelt text 0 8 0; second = spelt text 0 8 8; last = spelt text 0 4 16; len = length text }

-- the text that has the numbers
abbrev pub text_of : Packed → List ℕ
text_of p = take p.len (to_be_bytes w64 p.first ++ to_be_bytes w64 p.second ++ to_be_bytes w32 p.last)

-- the numbers are those of a text
pub record IsPacked (p : Packed) : Type 0 where
  pub fits : p.len ≤ 20
  pub narrow : (k : ℕ) → slice_index (text_of p) k < 256
  pub back : packed (text_of p) ≡ p
