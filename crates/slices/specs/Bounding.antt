-- How many items and bins there may be.
use Rattle.std.specs.Prelude.{◌≡◌, ℕ, ◌+◌, ◌<◌, ◌≤◌, ◌⊎◌, Bool, true, List, length, Option, Some, None, is_some}
use Rattle.slices.specs.Words.{Tables, Command, names_of, ITEMS_MAX, BINS_MAX, Put}
use Rattle.commands.specs.declared.names.Added.{Added}
use Rattle.commands.specs.declared.names.Added.TheVariants.{Item, Bin}
use Rattle.rows_in_memory.specs.Parts.{is_among}
use Rattle.slices.specs.Reading.{IsCount}
use Rattle.slices.specs.declared.knowing.Bounds.{Bounds}

-- there are no more rows than this: each has one of so many keys
pub record IsAtMost {R : Type 0} (row : List ℕ → Option R) (n : ℕ) : Type 0 where
  pub keys : List (List ℕ)
  pub few : length keys ≤ n
  pub among : (k : List ℕ) → is_some (row k) ≡ true → is_among keys k ≡ true

-- a number below the limit is no smaller than that of the rows
pub record AreBounds (b : Bounds) (t : Tables) : Type 0 where
  pub items : b.items < ITEMS_MAX → IsAtMost t.item b.items
  pub bins : b.bins < BINS_MAX → IsAtMost t.bin b.bins

-- the number that is known, where it is below the limit, and else that of the rows
abbrev pub IsToldNumber : {R : Type 0} → (List ℕ → List ℕ → Bool) → (R → List ℕ) → (List ℕ → Option R) → (most known n : ℕ) → Type 0
IsToldNumber same key row most known n = ((n ≡ known) × (n < most)) ⊎ IsCount {K = List ℕ} same key row n

-- with the numbers that a slice of the command tells
abbrev pub with_counts_of : Option Added → (item_count bin_count : ℕ) → Bounds → Bounds
with_counts_of None item_count bin_count b = b
with_counts_of (Some Item) item_count bin_count b = record { items = item_count; bins = b.bins }
with_counts_of (Some Bin) item_count bin_count b = record { items = b.items; bins = bin_count }

abbrev pub with_counts : Command → (item_count bin_count : ℕ) → Bounds → Bounds
with_counts command = with_counts_of (names_of command).adds

-- with the rows that a change puts
pub record IsRaised (puts : Put) (old new : Bounds) : Type 0 where
  pub items : new.items < ITEMS_MAX → new.items ≡ old.items + length puts.items
  pub bins : new.bins < BINS_MAX → new.bins ≡ old.bins + length puts.bins
