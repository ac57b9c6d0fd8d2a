-- How many rows there are at most: as they are read, on a history, and once a slice has been read.
use Rattle.slices.proofs.Words.{◌≡◌, inl, inr, ℕ, ◌<◌, ◌≤◌, true, List, map, length, refl, ap, sym, subst, ◌∙◌, arith, nat_tests, nat_le, find, Option, is_some, same_text, Tables, Command, Item, Bin, ITEMS_MAX, BINS_MAX, ItemRow, BinRow, item_key, bin_key, AreApart, any_found, IsCount, IsAtMost, AreBounds, IsToldNumber, with_counts, AreCounts, Bounds, same_text_is, same_text_refl}
use Rattle.slices.proofs.RowsTold.{rows_read}
use Rattle.slices.proofs.Counted.{no_longer, as_many, any_mapped, apart_names, length_mapped}

-- as many as were read
at_most_read : {R : Type 0} (key : R → List ℕ) (row : List ℕ → Option R) (n : ℕ) → IsCount {K = List ℕ} same_text key row n → IsAtMost row n
at_most_read key row n count =
    let all = length_mapped key count.0 in
    let counted = count.2 in
    record {
      keys = map key count.0;
      few = omega (arith, all, counted);
      among = λ k there. any_mapped key (same_text k) count.0 ∙ sym (any_found (λ r. same_text k (key r)) count.0) ∙ ap is_some (count.1.found k refl) ∙ there;
    }

-- no fewer than are found in the history
at_most_named : {R X : Type 0} (row : List ℕ → Option R) (name : X → List ℕ) (xs : List X) (n : ℕ) → AreApart (λ x y. same_text (name x) (name y)) xs
    → ((k : List ℕ) → is_some (row k) ≡ is_some (find (λ x. same_text k (name x)) xs)) → IsAtMost row n → length xs ≤ n
at_most_named row name xs n apart same most =
    let fewer = no_longer (map name xs) most.keys (apart_names name xs apart) (λ k h. most.among k (same k ∙ any_found (λ x. same_text k (name x)) xs ∙ sym (any_mapped name (same_text k) xs) ∙ h)) in
    let all = length_mapped name xs in
    let few = most.few in
    omega (arith, fewer, all, few)

-- both are below the limit
same_below : (most n m : ℕ) → m ≤ n → n < most → nat_le most n ≡ nat_le most m
same_below most n m few less = grind (arith, nat_tests, few, less)

-- a number that is told reaches the limit where that of the history does
pub told_number : {R X : Type 0} (key : R → List ℕ) (row : List ℕ → Option R) (name : X → List ℕ) (xs : List X) → AreApart (λ x y. same_text (name x) (name y)) xs
    → ((k : List ℕ) → is_some (row k) ≡ is_some (find (λ x. same_text k (name x)) xs)) → (most known n : ℕ) → (known < most → IsAtMost row known) → IsToldNumber same_text key row most known n → nat_le most n ≡ nat_le most (length xs)
told_number key row name xs apart same most known n bound (inl is) =
    same_below most n (length xs) (at_most_named row name xs n apart same (subst (λ (m : ℕ). IsAtMost row m) (sym is.0) (bound (subst (λ (m : ℕ). m < most) is.0 is.1)))) is.1
told_number key row name xs apart same most known n bound (inr count) =
    let read = rows_read {K = List ℕ} same_text key same_text_is same_text_refl (λ k. true) row count.0 count.1 in
    ap (nat_le most) (sym count.2 ∙ as_many key name count.0 xs read.once apart (λ k. ap is_some (read.found k refl) ∙ same k))

-- Once a slice has been read

told_at_most : {R : Type 0} (key : R → List ℕ) (row : List ℕ → Option R) (most known n : ℕ) → (known < most → IsAtMost row known) → IsToldNumber same_text key row most known n → n < most → IsAtMost row n
told_at_most key row most known n bound (inl is) less = subst (λ (m : ℕ). IsAtMost row m) (sym is.0) (bound (subst (λ (m : ℕ). m < most) is.0 less))
told_at_most key row most known n bound (inr count) less = at_most_read key row n count

pub bounds_counted : (command : Command) (t : Tables) (b : Bounds) (item_count bin_count : ℕ) → AreCounts b command t item_count bin_count → AreBounds b t → AreBounds (with_counts command item_count bin_count b) t
bounds_counted (Item i) t b item_count bin_count counts bounds = record { items = told_at_most {R = ItemRow} item_key t.item ITEMS_MAX b.items item_count bounds.items (counts.items refl); bins = bounds.bins }
bounds_counted (Bin x) t b item_count bin_count counts bounds = record { items = bounds.items; bins = told_at_most {R = BinRow} bin_key t.bin BINS_MAX b.bins bin_count bounds.bins (counts.bins refl) }
bounds_counted _ t b item_count bin_count counts bounds = bounds
