-- What the statement that changes the row of `meta` makes of books of an older schema number.
use Rattle.tables.proofs.Words.{◌≡◌, ◌≢◌, ℕ, Bool, true, false, List, [], ◌∷◌, drop, filter, find, length, inl, inr, None, IsTrue, refl, sym, ap, subst, ◌∙◌, AllByRecursion, cases_Bool, and_parts, true≢false, Int, ◌↔◌, pos, map, Row, column, State, with_tree, runs_as, all_both, rowid, is_int, SCHEMA_VERSION, MetaRow, CHANGE_META, meta, meta_laws, change_meta, change_meta_laws, Counts, is_the_number, Changed, meta_table, the_tables, schema_with, IsReady, Goes, is_meta, is_meta_at, meta_in, same_meta, meta_key, meta_rows_rows, meta_at, with_meta, the_rules, Rule, Keeps, AreTyped, AreTypedAt, none_counted_pass, passes, updates, and_true, same_the_number, equals_number, front, sets_off_nothing, sound, changes, rows_of}
use Rattle.table_words.proofs.ListLemmas.{over}

-- a row of `meta` is found by its id, whatever its number
found_at : (version : ℕ) (s : MetaRow) (r : Row) → is_meta_at version r ≡ true → passes (meta.cells s) meta.tests r ≡ true
found_at version s r h = and_true _ ∙ same_the_number 1 (column r 0) (Int (pos 1)) 1 (and_parts _ _ h).0 refl

-- it passes where its id is 1
by_id : (s : MetaRow) (r : Row) → IsTrue (is_int (rowid r)) → passes (meta.cells s) meta.tests r ≡ is_the_number 1 (column r 0)
by_id s r int = and_true _ ∙ equals_number (column r 0) 1 int

no_typed : (p is : Row → Bool) (rows : List Row) → ((r : Row) → is r ≡ true → p r ≡ true) → AllByRecursion (λ r. p r ≡ false) rows → filter is rows ≡ []
no_typed p is [] finds none = refl
no_typed p is (r ∷ rows) finds none = elim (cases_Bool (is r)) [
  | inl e ↦ absurd (true≢false (sym (finds r e) ∙ none.0))
  | inr e ↦ rw e (no_typed p is rows finds none.1)
]

module _ (s : MetaRow) (good : sound meta s ≡ true) (old new : State) (count : ℕ) (ready : IsReady old.now) (h : Counts count CHANGE_META.now (meta.cells s) old new) where
  abbrev p : Row → Bool
  p = passes (meta.cells s) meta.tests

  abbrev rows : List Row
  rows = old.now.trees meta_table.tree

  turned : Changed (schema_with ready.has.rest) meta_table.tree (over p (change_meta.values s) rows) old.now new.now × (count ≡ length (filter p rows))
  turned =
      let rest = ready.has.rest in
      let kept = rows_of meta meta_laws old.now ready in
      let w = runs_as change_meta.text (meta.cells s) old new (schema_with rest) ready.has.is _ (change_meta_laws.is rest).0 (change_meta_laws.is rest).1 count h.executes.0 in
      updates (schema_with rest) meta.place meta_table.tree _ _ _ _ _ _ (meta_laws.placed rest) (λ olds news. sets_off_nothing rest meta_table.tree olds news ready.has.apart) old new meta.tests change_meta.terms _ (meta.cells s) (λ _. change_meta.values s) count ready.has.is kept
      (change_meta_laws.changed s) (λ _ _ _. change_meta_laws.casts s) w

  pub raised_some : count ≢ 0 → Goes (with_meta s) old new
  raised_some some = (changes meta meta_laws change_meta change_meta_laws s good old new count ready h).0 some

  pub raised_none : count ≡ 0 → (version : ℕ) → meta_at version old.now.trees ≡ None
  raised_none none version =
      let gone = none_counted_pass p rows (sym turned.1 ∙ none) in
      ap (λ l. find (λ x. same_meta 1 (meta_key x)) (map meta_in l)) (no_typed p (is_meta_at version) rows (found_at version s) gone)

  each_put : (version : ℕ) (all : List Row) → AllByRecursion (λ r. IsTrue (is_int (rowid r))) all → AllByRecursion (λ r. is_meta_at version r ≡ true) all → AllByRecursion (λ r. is_meta r ≡ true) (over p (change_meta.values s) all)
  each_put version [] int typed = tt
  each_put version (r ∷ all) int typed =
      let own = found_at version s r typed.0 in
      rw own ((change_meta_laws.becomes s r good int.0 own).0, each_put version all int.1 typed.1)

  -- where those with its id were so at a number, and all are now, all were: a row that stays has that id too
  each_was : (version : ℕ) (all : List Row) → AllByRecursion (λ r. IsTrue (is_int (rowid r))) all → AllByRecursion (λ r. is_meta_at version r ≡ true) (filter (λ r. is_the_number 1 (column r 0)) all)
      → AllByRecursion (λ r. is_meta r ≡ true) (over p (change_meta.values s) all) → AllByRecursion (λ r. is_meta_at version r ≡ true) all
  each_was version [] int own now = tt
  each_was version (r ∷ all) int own now = elim (cases_Bool (is_the_number 1 (column r 0))) [
    | inl e ↦
        let mine : AllByRecursion (λ r. is_meta_at version r ≡ true) (r ∷ filter (λ r. is_the_number 1 (column r 0)) all) = rw e at own in
        let put : AllByRecursion (λ r. is_meta r ≡ true) ((rowid r ∷ change_meta.values s) ∷ over p (change_meta.values s) all) = rw (by_id s r int.0 ∙ e) at now in
        (mine.0, each_was version all int.1 mine.1 put.1)
    | inr e ↦
        let stays : AllByRecursion (λ r. is_meta r ≡ true) (r ∷ over p (change_meta.values s) all) = rw (by_id s r int.0 ∙ e) at now in
        absurd (true≢false (sym (found_at SCHEMA_VERSION s r stays.0) ∙ by_id s r int.0 ∙ e))
  ]

  trees_are : AllByRecursion (λ t. new.now.trees t.tree ≡ with_tree old.now.trees meta_table.tree (over p (change_meta.values s) rows) t.tree) the_tables
  trees_are = front _ the_tables ready.has.rest.tables turned.0.trees_are

  put_typed : (version : ℕ) → AreTypedAt version old.now.trees → AreTyped new.now.trees
  put_typed version are = record {
    each = (
      subst (AllByRecursion (λ r. is_meta r ≡ true)) (sym trees_are.0) (each_put version rows (rows_of meta meta_laws old.now ready).1 are.0),
      all_both (Keeps old.now.trees) (λ (t : Rule). new.now.trees t.tree ≡ old.now.trees t.tree) (Keeps new.now.trees) (λ t kept is. subst (AllByRecursion (λ r. t.is r ≡ true)) (sym is) kept) (drop 1 the_rules) are.1 trees_are.1,
    );
  }

  was_typed : (version : ℕ) → AllByRecursion (λ r. is_meta_at version r ≡ true) (meta_rows_rows 1 old.now.trees) → AreTyped new.now.trees → AreTypedAt version old.now.trees
  was_typed version own are = (
    each_was version rows (rows_of meta meta_laws old.now ready).1 own (subst (AllByRecursion (λ r. is_meta r ≡ true)) trees_are.0 are.each.0),
    all_both (Keeps new.now.trees) (λ (t : Rule). new.now.trees t.tree ≡ old.now.trees t.tree) (Keeps old.now.trees) (λ t kept is. subst (AllByRecursion (λ r. t.is r ≡ true)) is kept) (drop 1 the_rules) are.each.1 trees_are.1,
  )

  pub raised_typed : (version : ℕ) → AllByRecursion (λ r. is_meta_at version r ≡ true) (meta_rows_rows 1 old.now.trees) → AreTypedAt version old.now.trees ↔ AreTyped new.now.trees
  raised_typed version own = (put_typed version, was_typed version own)
