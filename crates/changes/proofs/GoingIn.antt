-- What an INSERT of several rows makes of a table with no reference.
use Rattle.changes.proofs.Words.{◌≡◌, ◌≢◌, inl, inr, ℕ, ◌/◌, Option, true, List, [], ◌++◌, map, length, slice_get, Some, None, Ok, sym, ap, subst, ◌∙◌, cases_eq, eq-eqb, ne_eqb, AllByRecursion, all_weaker, Row, Term, Table, Schema, Values, Insert, edit_of, edited, taken_by, put_all, numbered, are_fresh, Order, cast_row, Chosen, works, Enforced, Column, Tally, Does, AtPlace, OnRows, Written, Task, Database, value_rows, Trees, with_tree, State, mode_of, one_step, plain_table, Changed, went, same_value}
use Rattle.sqlite.specs.State.{Writes}

trees_from : (db next : Trees) (tree : ℕ) (rows : List Row) (tables : List Table) → next tree ≡ rows → AllByRecursion (λ t. t.tree ≢ tree → next t.tree ≡ db t.tree) tables
    → AllByRecursion (λ t. next t.tree ≡ with_tree db tree rows t.tree) tables
trees_from db next tree rows tables here others = all_weaker _ (λ t. next t.tree ≡ with_tree db tree rows t.tree) (λ t kept. elim (cases_eq t.tree tree) [
  | inl e ↦ rw (eq-eqb t.tree tree e) (ap next e ∙ here)
  | inr ne ↦ rw (ne_eqb t.tree tree ne) (kept ne)
]) tables others

module _ (schema : Schema) (at tree : ℕ) (name : List ℕ) (columns : List Column) (key : Option ℕ) (places : List ℕ) (uniques : List (List ℕ)) (orders : List Order) (found : slice_get schema.tables at ≡ Some (plain_table tree name columns key places uniques orders))
    (alone_is : (olds news : List Row) → works schema Enforced 0 tree olds news ≡ []) where
  abbrev table : Table
  table = plain_table tree name columns key places uniques orders

  -- the rows go in one after another, each with the next rowid, and none takes the place of another
  pub all_go_in : (old new : State) (terms : List Term) (width : ℕ) (text : List ℕ) (params : Row) (sources values : List Row) (count : ℕ) → old.now.schema ≡ schema
      → value_rows (params ++ []) width (length terms / width) terms ≡ sources → map (cast_row table) sources ≡ values
      → Writes old new None (Insert at (Values terms width)) text params count
      → let rows = numbered Chosen (old.now.trees tree) values in Changed schema tree (put_all (old.now.trees tree) rows) old.now new.now × (are_fresh (old.now.trees tree) rows ≡ true)
  all_go_in old new terms width text params sources values count has is_sources fits w =
      let db = old.now.trees in
      let command = Insert at (Values terms width) in
      let whole = subst (λ s. Does old.step_limit (mode_of old) params (record old.now { schema = s }) text None command (Ok (w.tally, new.now))) has w.changed in
      let task = λ (t : Table). let k : Task = record { limit = old.step_limit; keys = Enforced; schema = schema; table = t; params = params } in k in
      let done = went (subst (λ o. AtPlace (λ t. OnRows (task t) (mode_of old) None command db) o (Ok (w.tally, new.now))) found whole) in
      let now = ap (λ (p : Tally × Database). p.1) (same_value (went (went done.2).2).2) in
      let given = went done.1 in
      let written = went (went given.2).2 in
      let counted = went written.2 in
      let trees : done.0.trees ≡ written.0 = ap (λ (it : Written). it.trees) (same_value counted.2) ∙ same_value counted.1 in
      let edit = λ (rows : List Row). edit_of db table [] Chosen 0 rows in
      let applies = one_step schema Enforced db written.0 (edit given.0) (alone_is (taken_by db (edit given.0)) (edit given.0).news) written.1 in
      let news : (edit given.0).news ≡ numbered Chosen (db tree) values = ap (λ all. (edit all).news) (given.1.1 ∙ is_sources) ∙ ap (numbered Chosen (db tree)) fits in
      let rows : edited db (edit given.0) ≡ put_all (db tree) (numbered Chosen (db tree) values) = ap (put_all (db tree)) news in
      let fresh : are_fresh (db tree) (numbered Chosen (db tree) values) ≡ true = subst (λ l. are_fresh (db tree) l ≡ true) news applies.fresh in
      let is : new.now ≡ record { schema = schema; trees = written.0 } = now ∙ ap (λ (t : Trees). let d : Database = record { schema = schema; trees = t } in d) trees in
      let are = trees_from db written.0 tree _ schema.tables (applies.rows ∙ rows) applies.tables in (
        record {
          schema_is = ap (λ (d : Database). d.schema) is;
          trees_are = subst (λ (d : Database). AllByRecursion (λ t. d.trees t.tree ≡ with_tree db tree (put_all (db tree) (numbered Chosen (db tree) values)) t.tree) schema.tables) (sym is) are;
          sound = w.sound;
        },
        fresh,
      )
