-- The rows that stay known while a change is written are those of the tables that it leaves.
use Rattle.store.proofs.Words.{◌≡◌, ℕ, Bool, false, List, [], ◌∷◌, refl, sym, subst, ◌∙◌, if◌then◌else◌, reverse, Option, Some, None, IfSome, list_any, nat_cmp, is_eq, slice_cmp, same_text, Tables, RepeatRow, AreRows, with_repeat, or_none, Change, names_told, with_row, each_written, TableName, Items, Least, Bins, Recalls, family, Row, described, look, puts, change_written, table_left, is_at, RowMap, rows_at, ForgetsBy, Remembers, known_as, others_are, KnowsFollowed, Follows, KnowsRows, ForgetsPut, Followed, RowsKnown}
use Rattle.whole_tables.specs.Family.{Key}
use Rattle.store.proofs.FollowedWritten.{followed_written}

module _ (n : TableName) (wanted : List ℕ → Key n → Bool) (owner : Row n → List ℕ) (owns : (by : List ℕ) (r : Row n) → wanted by ((described n).key r) ≡ same_text by (owner r))
    (c : Change) (t left : Tables) (is_left : look n left ≡ look n (each_written (with_row (described n)) (puts c n) t)) where
  -- the rows that are sought by this are these
  abbrev AreAt : Tables → List ℕ → List (Row n) → Type 0
  AreAt u by rows = AreRows (described n).same (described n).key (wanted by) (look n u) rows

  abbrev is_sought : List ℕ → Row n → Bool
  is_sought at r = is_eq (slice_cmp nat_cmp (reverse (owner r)) (reverse at))

  -- so they are where rows are put of which none is sought
  spared : (rows : List (Row n)) (u : Tables) (at : List ℕ) (found : List (Row n)) → list_any (is_sought at) rows ≡ false → AreAt u at found → AreAt (each_written (with_row (described n)) rows u) at found
  spared [] u at found none are = are
  spared (r ∷ rs) u at found none are =
      let two = or_none (is_sought at r) (list_any (is_sought at) rs) none in
      spared rs (with_row (described n) r u) at found two.1
      (subst (λ (f : Key n → Option (Row n)). AreRows (described n).same (described n).key (wanted at) f found) (sym ((family n).there (λ k. if is_at n k r then Some r else look n u k) u))
      (others_are (described n).same (described n).key (family n).laws.itself (family n).laws.one_key (wanted at) (look n u) r found are (owns at r ∙ sym (names_told at (owner r)) ∙ two.0) (Some r)))

  pub known_spared : (old new : RowMap (List ℕ) (Row n)) → ForgetsBy (slice_cmp nat_cmp) (λ r. reverse (owner r)) (puts c n) old new → Remembers (slice_cmp nat_cmp) reverse (AreAt t) old → Remembers (slice_cmp nat_cmp) reverse (AreAt left) new
  known_spared old new forgets known =
      known_as (slice_cmp nat_cmp) reverse same_text names_told (described n).same (described n).key (family n).laws.itself (family n).laws.one_key (look n) wanted owner owns (each_written (with_row (described n)) (puts c n) t) left (sym is_left) new
      (λ at. kept at (rows_at (slice_cmp nat_cmp) new (reverse at)) (forgets (reverse at)))
    where
      kept : (at : List ℕ) (x : Option (List (Row n))) → IfSome x (λ found. (rows_at (slice_cmp nat_cmp) old (reverse at) ≡ Some found) × (list_any (is_sought at) (puts c n) ≡ false)) → IfSome x (AreAt (each_written (with_row (described n)) (puts c n) t) at)
      kept at None h = tt
      kept at (Some found) h = spared (puts c n) t at found h.1 (subst (λ y. IfSome y (AreAt t at)) h.0 (known at))

module _ (c : Change) (row : RepeatRow) (t : Tables) where
  abbrev left : Tables
  left = with_repeat row (change_written c t)

  -- what was forgotten before, and what follows the change
  pub rows_written : (old mid : RowsKnown) (followed : Followed) → ForgetsPut c.put old mid → Follows c mid.followed followed → KnowsFollowed t mid.followed → KnowsRows t old → KnowsRows left (record mid { followed = followed })
  rows_written old mid followed forgets follows before known = record {
    items = known_spared Items same_text (λ r. r.gtin) (λ by r. refl) c t left (table_left c t Items) old.items.rows mid.items.rows forgets.items known.items;
    least = known_spared Least same_text (λ r. r.gtin) (λ by r. refl) c t left (table_left c t Least) old.least.rows mid.least.rows forgets.least known.least;
    recalls = known_spared Recalls (λ g k. same_text g k.gtin) (λ r. r.lot.gtin) (λ by r. refl) c t left (table_left c t Recalls) old.recalls.rows mid.recalls.rows forgets.recalls known.recalls;
    bins = known_spared Bins same_text (λ r. r.name) (λ by r. refl) c t left (table_left c t Bins) old.bins.rows mid.bins.rows forgets.bins known.bins;
    followed = followed_written c row t mid.followed followed follows before;
  }
