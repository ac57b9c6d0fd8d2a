-- What the laws of a table say of its rows by their keys.
use Rattle.std.proofs.Common.{◌≡◌, Bool, true, ◌∙◌, List, sym, subst, Equal, filter}
use Rattle.keyed_rows.specs.Words.{Database, rowid, value_cmp, all-slice_get, typed, AreRows, the_tables, IsReady, tables_in, are_rows}
use Rattle.sqlite_rules.specs.Lists.{Has}
use Rattle.sqlite.specs.Order.{Row}
use Rattle.table_words.specs.Rows.{IsRows}
use Rattle.keyed_rows.specs.Described.{Described, IsLawful, laid}

module _ {X K : Type 0} (d : Described X K) (laws : IsLawful d) where
  pub rows_of : (db : Database) → IsReady db → IsRows (db.trees d.layout.tree)
  rows_of db ready = all-slice_get (λ t. IsRows (db.trees t.tree)) the_tables d.place (laid d.layout) laws.placed_first ready.rows

  -- typed rows with one key are one row
  pub apart : (db : Database) → IsReady db → (a b : Row) → Has (db.trees d.layout.tree) a → Has (db.trees d.layout.tree) b → d.is a ≡ true → d.is b ≡ true → d.same (d.key (d.reads a)) (d.key (d.reads b)) ≡ true → value_cmp (rowid a) (rowid b) ≡ Equal
  apart db ready a b ha hb ta tb e =
      let k = d.key (d.reads a) in
      laws.one_row db ready (d.key_cells k) b a hb ha (laws.at_key k b tb ∙ e) (laws.at_key k a ta ∙ laws.itself k)

  -- what is found by a test of the key
  pub found_by_key : (wanted : K → Bool) (db : Database) → IsReady db → (xs : List X) → xs ≡ filter (λ x. wanted (d.key x)) (typed d.is d.reads (db.trees d.layout.tree)) → AreRows d.same d.key wanted (d.look (tables_in db.trees)) xs
  found_by_key wanted db ready xs are =
      subst (λ f. AreRows d.same d.key wanted f xs) (sym (laws.looks db.trees)) (are_rows d.same d.key laws.one_key wanted d.is d.reads (db.trees d.layout.tree) xs (rows_of db ready).0 (apart db ready) are)
