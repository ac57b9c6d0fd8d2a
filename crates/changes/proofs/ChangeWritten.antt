-- A change written table by table is the change applied, and leaves each table as its own rows do.
use Rattle.changes.proofs.Words.{◌≡◌, ℕ, true, List, [], ◌∷◌, refl, sym, ap, ◌∙◌, list_all, and_both, Tables, no_two, applied, changed, are_once, Change, each_written, TableName, Meta, TABLE_NAMES, family, look, over, puts, drops, table_written, change_written, Lines, Key, Option, Some, None, IfSome, option_map, if◌then◌else◌, bytes_eq, filled_line, FillsLines, table_made, change_made}
use Rattle.whole_tables.specs.Family.{Row}
use Rattle.changes.proofs.TableWritten.{is_at, are_same, are_met, left, written, table_is, all_changed}

each_alike : {R : Type 0} (a b : R → Tables → Tables) → ((r : R) (t : Tables) → a r t ≡ b r t) → (rows : List R) (t : Tables) → each_written a rows t ≡ each_written b rows t
each_alike a b same [] t = refl
each_alike a b same (r ∷ rows) t = ap (each_written a rows) (same r t) ∙ each_alike a b same rows (b r t)

-- each table after a change is as it is after its own rows alone
pub table_left : (c : Change) (t : Tables) (n : TableName) → look n (change_written c t) ≡ look n (table_written c n t)
unfolding change_written
table_left c t n =
    ap (look n) (each_alike (table_written c) (λ m u. over m (written c m (look m u)) u) (table_is c) TABLE_NAMES.now t)
    ∙ whole n
    ∙ sym (ap (look n) (table_is c n t) ∙ (family n).there (written c n (look n t)) t)
  where
    whole : (n : TableName) → look n (each_written (λ m u. over m (written c m (look m u)) u) TABLE_NAMES.now t) ≡ written c n (look n t)
    whole Meta = refl
    whole n = refl

-- where no key is put twice, the rows of these tables are written as they are applied
names_applied : (c : Change) (names : List TableName) → list_all (λ n. no_two (are_same n) (puts c n)) names ≡ true → (t : Tables)
    → each_written (table_written c) names t ≡ each_written (λ n u. over n (λ k. changed (is_at n k) (puts c n) (drops c n) (left c n (look n u) k)) u) names t
names_applied c [] are t = refl
names_applied c (n ∷ names) are t =
    let two = and_both (no_two (are_same n) (puts c n)) (list_all (λ m. no_two (are_same m) (puts c m)) names) are in
    ap (each_written (table_written c) names) (table_is c n t ∙ ap (λ f. over n f t) (λ i k. all_changed (is_at n k) (are_same n) (are_met n k) (puts c n) (drops c n) (left c n (look n t) k) two.0 i))
    ∙ names_applied c names two.1 (over n (λ k. changed (is_at n k) (puts c n) (drops c n) (left c n (look n t) k)) t)

pub change_is_applied : (c : Change) (t : Tables) → are_once c.put ≡ true → change_written c t ≡ applied c t
unfolding change_written applied
change_is_applied c t are = names_applied c TABLE_NAMES.now are t

-- to fill the lines of an order is to put them, where these rows fill them
module _ (c : Change) (t : Tables) where
  abbrev line_look : Type 0
  line_look = Key Lines → Option (Row Lines)

  abbrev filled_look : List ℕ → (n : TableName) → (Key n → Option (Row n)) → Key n → Option (Row n)
  filled_look order Lines f k = if bytes_eq order k.0 then option_map filled_line (f k) else f k
  filled_look order n f k = written c n f k

  filled_is : (order : List ℕ) (n : TableName) (u : Tables) → table_made c n (Some order) u ≡ over n (filled_look order n (look n u)) u
  filled_is order Lines u = refl
  filled_is order n u = table_is c n u

  -- all tables, where the lines have this look-up
  abbrev own : line_look → TableName → Tables → Tables
  own f Lines u = over Lines f u
  own f n u = over n (written c n (look n u)) u

  abbrev with_lines : line_look → Tables
  with_lines f = each_written (own f) TABLE_NAMES.now t

  pub made_is_written : (filled : Option (List ℕ)) → IfSome filled (λ order. FillsLines c order t) → change_made c filled t ≡ change_written c t
  unfolding change_made change_written
  made_is_written None fills = refl
  made_is_written (Some order) fills =
      each_alike (λ n. table_made c n (Some order)) (λ n u. over n (filled_look order n (look n u)) u) (filled_is order) TABLE_NAMES.now t
      ∙ ap with_lines (λ i k. same k i)
      ∙ sym (each_alike (table_written c) (λ n u. over n (written c n (look n u)) u) (table_is c) TABLE_NAMES.now t)
    where
      same : (k : Key Lines) → filled_look order Lines (look Lines t) k ≡ written c Lines (look Lines t) k
      same k = sym (fills k) ∙ (λ i. look Lines (table_is c Lines t i) k)
