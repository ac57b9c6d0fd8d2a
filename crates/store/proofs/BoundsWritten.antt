-- No fewer than the items, and than the bins, of the tables that a change leaves.
use Rattle.store.proofs.Words.{◌≡◌, ℕ, ◌+◌, ◌≤◌, Bool, true, false, List, [], ◌∷◌, length, refl, sym, subst, arith, ◌||◌, if◌then◌else◌, Option, Some, is_some, same_text, Tables, ItemRow, BinRow, RepeatRow, item_key, bin_key, with_item, with_bin, with_repeat, or_first, or_later, Put, Change, each_written, Items, Bins, change_written, table_left, is_among, IsAtMost, AreBounds, IsRaised, Bounds}

at_most_more : {R : Type 0} (row : List ℕ → Option R) (n m : ℕ) → n ≤ m → IsAtMost row n → IsAtMost row m
at_most_more row n m less most = let few = most.few in record { keys = most.keys; few = omega (arith, less, few); among = most.among }

-- greater bounds are bounds
pub bounds_more : (puts : Put) (old new : Bounds) (t : Tables) → IsRaised puts old new → AreBounds old t → AreBounds new t
bounds_more puts old new t raised bounds = record {
  items = λ less. let e = raised.items less in at_most_more t.item old.items new.items (omega (arith, e)) (bounds.items (omega (arith, less, e)));
  bins = λ less. let e = raised.bins less in at_most_more t.bin old.bins new.bins (omega (arith, e)) (bounds.bins (omega (arith, less, e)));
}

-- Each row that is put has one more key

module _ {R : Type 0} (key : R → List ℕ) (get : Tables → List ℕ → Option R) (write : R → Tables → Tables) (puts : (r : R) (t : Tables) → get (write r t) ≡ (λ k. if same_text k (key r) then Some r else get t k)) where
  row_put : (r : R) (t : Tables) (n : ℕ) → IsAtMost (get t) n → IsAtMost (get (write r t)) (n + 1)
  row_put r t n most =
      let few = most.few in
      subst (λ (f : List ℕ → Option R). IsAtMost f (n + 1)) (sym (puts r t)) (record { keys = key r ∷ most.keys; few = omega (arith, few); among = λ k there. by k (same_text k (key r)) refl there })
    where
      by : (k : List ℕ) (b : Bool) → same_text k (key r) ≡ b → is_some (if b then Some r else get t k) ≡ true → same_text k (key r) || is_among most.keys k ≡ true
      by k true is there = or_first (same_text k (key r)) (is_among most.keys k) is
      by k false is there = or_later (same_text k (key r)) (is_among most.keys k) (most.among k there)

  rows_put : (rows : List R) (t : Tables) (n : ℕ) → IsAtMost (get t) n → IsAtMost (get (each_written write rows t)) (n + length rows)
  rows_put [] t n most = at_most_more (get t) n (n + 0) (omega arith) most
  rows_put (r ∷ rows) t n most = at_most_more (get (each_written write rows (write r t))) ((n + 1) + length rows) (n + length (r ∷ rows)) (omega arith) (rows_put rows (write r t) (n + 1) (row_put r t n most))

module _ (c : Change) (row : RepeatRow) (t : Tables) where
  pub bounds_written : (old new : Bounds) → IsRaised c.put old new → AreBounds old t → AreBounds new (with_repeat row (change_written c t))
  bounds_written old new raised bounds = record {
    items = λ less.
        let e = raised.items less in
        subst (λ (f : List ℕ → Option ItemRow). IsAtMost f new.items) (sym (table_left c t Items))
        (subst (λ (m : ℕ). IsAtMost (each_written with_item c.put.items t).item m) (sym e) (rows_put item_key (λ u. u.item) with_item (λ r u. refl) c.put.items t old.items (bounds.items (omega (arith, less, e)))));
    bins = λ less.
        let e = raised.bins less in
        subst (λ (f : List ℕ → Option BinRow). IsAtMost f new.bins) (sym (table_left c t Bins))
        (subst (λ (m : ℕ). IsAtMost (each_written with_bin c.put.bins t).bin m) (sym e) (rows_put bin_key (λ u. u.bin) with_bin (λ r u. refl) c.put.bins t old.bins (bounds.bins (omega (arith, less, e)))));
  }
