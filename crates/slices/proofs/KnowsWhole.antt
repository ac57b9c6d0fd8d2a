-- Of all rows of a table, those of an item or of an order.
use Rattle.slices.proofs.Words.{ℕ, Bool, true, List, filter, reverse, Option, refl, sym, subst, bytes_eq, is_eq, nat_cmp, slice_cmp, IsSame}
use Rattle.rows_in_memory.specs.NameOrder.{names_told}
use Rattle.table_words.specs.Found.{AreRows}
use Rattle.slices.proofs.RowsAmong.{rows_among}

-- they are those whose keys in memory are its own
pub rows_of_text : {K R : Type 0} (same : K → K → Bool) (key : R → K) → IsSame same → (text : K → List ℕ) (look : K → Option R) (rows : List R) → AreRows same key (λ k. true) look rows
    → (by : List ℕ) → AreRows same key (λ k. bytes_eq by (text k)) look (filter (λ r. is_eq (slice_cmp nat_cmp (reverse (text (key r))) (reverse by))) rows)
rows_of_text {R = R} same key exact text look rows are by =
    subst (λ (p : R → Bool). AreRows same key (λ k. bytes_eq by (text k)) look (filter p rows)) (λ i r. sym (names_told by (text (key r))) i)
    (rows_among same key exact (λ k. true) (λ k. bytes_eq by (text k)) (λ k own. refl) look rows are)
