-- A loop over items that gathers the reserved rows that each puts and drops.
use Rattle.row_rules.proofs.Words.{◌≡◌, ℕ, ◌+◌, ◌<◌, List, ◌++◌, length, get_or, [], flat_map, ReservedRow}
use Rattle.row_rules.proofs.Gathering.{IsGathered, gathered_none, gathered_more, gathered_all}

-- the rows put and dropped, item by item
pub record AreGathered (f g : List ℕ → List ReservedRow) (xs : List (List ℕ)) (i : ℕ) (puts drops : List ReservedRow) : Type 0 where
  pub put : IsGathered f xs i puts
  pub dropped : IsGathered g xs i drops

module _ (f g : List ℕ → List ReservedRow) (xs : List (List ℕ)) where
  pub both_none : (puts drops : List ReservedRow) → puts ≡ [] → drops ≡ [] → AreGathered f g xs 0 puts drops
  both_none puts drops p d = record { put = gathered_none f xs puts p; dropped = gathered_none g xs drops d }

  pub both_more : (i : ℕ) (puts drops : List ReservedRow) (none : List ℕ) (new_puts new_drops : List ReservedRow) → i < length xs → AreGathered f g xs i puts drops
      → new_puts ≡ puts ++ f (get_or xs i none) → new_drops ≡ drops ++ g (get_or xs i none) → AreGathered f g xs (i + 1) new_puts new_drops
  both_more i puts drops none new_puts new_drops less b p d = record {
    put = gathered_more f xs i puts none new_puts less b.put p;
    dropped = gathered_more g xs i drops none new_drops less b.dropped d;
  }

  pub both_put : (i : ℕ) (puts drops : List ReservedRow) → i ≡ length xs → AreGathered f g xs i puts drops → puts ≡ flat_map f xs
  both_put i puts drops e b = gathered_all f xs i puts e b.put

  pub both_dropped : (i : ℕ) (puts drops : List ReservedRow) → i ≡ length xs → AreGathered f g xs i puts drops → drops ≡ flat_map g xs
  both_dropped i puts drops e b = gathered_all g xs i drops e b.dropped
