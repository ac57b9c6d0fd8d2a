-- What the statements on a table make of the books, of any table that keeps the laws.
use Rattle.keyed_rows.proofs.Words.{◌≡◌, ◌≢◌, ℕ, Bool, true, false, not, List, [], ◌∷◌, filter, map, length, slice_get, Some, None, inl, inr, IsTrue, refl, sym, ap, subst, ◌∙◌, arith, if◌then◌else◌, ◌↔◌, AllByRecursion, cases_Bool, cases_eq, eq-eqb, ne_eqb, nat_tests, State, Trees, with_tree, Database, Chosen, runs_as, reads_as, all_both, all-slice_get, all-filter, with_rowid, is_taken, rowid, put_row, is_int, all_has, all_from, Null, AreRows, only_if, typed-filter, both_typed, shown_typed, the_tables, schema_with, IsRows, typed, Changed, Tables, tables_in, Rule, the_rules, Keeps, AreTyped, IsReady, Goes, Counts, over, filter_same_on, IsRows-filter, IsRows-put_row, all_put_row, any_counted, none_counted_pass, none_over, stays_put, Column, Unique, tests_from, passes, show, goes_in, updates, deletes, ready_after, sets_off_nothing, goes, typed_at, typed_put, front, AtMostOne, one_by_key, none_had, meets, found_put, found_over, found_without, are_rows_if, keyed, Described, IsLawful, Change, IsChange, DropIs, Query, IsSought, laid, rule_of, sound, with_row, without_row, found, stored_of, IsRows-rewritten}
use Rattle.sqlite.specs.Order.{Row}
use Rattle.sqlite.specs.State.{Shown}
pub use Rattle.keyed_rows.specs.KeyLaws.{rows_of, apart, found_by_key}

all_over_ids : (P : Row → Type 0) (p : Row → Bool) (values : Row) (rows : List Row) → ((r : Row) → IsTrue (is_int (rowid r)) → p r ≡ true → P (rowid r ∷ values)) → AllByRecursion (λ r. IsTrue (is_int (rowid r))) rows → AllByRecursion P rows → AllByRecursion P (over p values rows)
all_over_ids P p values [] f k h = tt
all_over_ids P p values (r ∷ rows) f k h = let more = all_over_ids P p values rows f k.1 h.1 in elim (cases_Bool (p r)) [
  | inl e ↦ rw e (f r k.0 e, more)
  | inr e ↦ rw e (h.0, more)
]

-- of a table whose PRIMARY KEY is not the rowid, no key comes twice
pub one_keyed : (db : Database) (ready : IsReady db) (place tree : ℕ) (name : List ℕ) (columns : List Column) (places : List ℕ) → slice_get the_tables place ≡ Some (laid (keyed tree name columns places))
    → slice_get (schema_with ready.has.rest).tables place ≡ Some (laid (keyed tree name columns places)) → (params : Row) → AtMostOne (passes params (tests_from places 0)) (db.trees tree)
one_keyed db ready place tree name columns places first at params =
    let table = laid (keyed tree name columns places) in
    let schema = schema_with ready.has.rest in
    one_by_key schema db.trees table places _ (all-slice_get _ schema.tables place table at ready.sound.lists.guarded 0 places refl).1 (eq-eqb tree tree refl) refl refl
    (all-slice_get _ schema.tables place table at (ready.sound.obeys.rules Unique)) (all-slice_get (λ t. IsRows (db.trees t.tree)) the_tables place table first ready.rows) params

-- the rows that there were before one was put beside them are typed, where all are now
kept_before : (old new : Trees) (tree : ℕ) (row : Row) → is_taken (old tree) row ≡ false → (t : Rule) → Keeps new t → new t.tree ≡ with_tree old tree (put_row row (old tree)) t.tree → Keeps old t
kept_before old new tree row free t kept is = elim (cases_eq t.tree tree) [
  | inl e ↦
      let all : AllByRecursion (λ r. t.is r ≡ true) (put_row row (old tree)) = rw (eq-eqb t.tree tree e) at (rw is at kept) in
      subst (λ (n : ℕ). AllByRecursion (λ r. t.is r ≡ true) (old n)) (sym e) (all_from (λ r. t.is r ≡ true) (old tree) (λ r h. all_has (λ r. t.is r ≡ true) (put_row row (old tree)) r all (stays_put row (old tree) free r h)))
  | inr ne ↦ rw (ne_eqb t.tree tree ne) at (rw is at kept)
]

-- the rows of the table are typed, where all are
pub typed_rows : {X K : Type 0} (d : Described X K) → IsLawful d → (trees : Trees) → AreTyped trees → AllByRecursion (λ r. d.is r ≡ true) (trees d.layout.tree)
typed_rows d laws trees are = typed_at d.place (rule_of d) laws.ruled trees are

module _ {X K : Type 0} (d : Described X K) (laws : IsLawful d) where
  at_own : (s : X) (r : Row) → d.is r ≡ true → passes (d.cells s) d.tests r ≡ d.same (d.key s) (d.key (d.reads r))
  at_own s r h = laws.own_key s r ∙ laws.at_key (d.key s) r h

  -- where the look-ups are so, the row is put
  with_is : (trees : Trees) (after : List Row) (s : X) → ((k : K) → found d after k ≡ (if d.same k (d.key s) then Some s else found d (trees d.layout.tree) k)) → tables_in (with_tree trees d.layout.tree after) ≡ with_row d s (tables_in trees)
  with_is trees after s h =
      laws.sets trees after ∙ (λ i. d.set (λ k. (h k ∙ ap (λ f. if d.same k (d.key s) then Some s else f k) (sym (laws.looks trees))) i) (tables_in trees))

  pub changes : (c : Change X) → IsChange d c → (s : X) → sound d s ≡ true → (old new : State) (count : ℕ) → IsReady old.now → Counts count c.text (d.cells s) old new → (count ≢ 0 → Goes (with_row d s) old new) × (count ≡ 0 → Goes (λ t. t) old new)
  changes c it s good old new count ready h =
      let params = d.cells s in
      let tree = d.layout.tree in
      let p = passes params d.tests in
      let rows = old.now.trees tree in
      let kept = rows_of d laws old.now ready in
      let after = over p (c.values s) rows in
      let rest = ready.has.rest in
      let w = runs_as c.text params old new (schema_with rest) ready.has.is _ (it.is rest).0 (it.is rest).1 count h.executes.0 in
      let u = updates (schema_with rest) d.place tree _ _ _ _ _ _ (laws.placed rest) (λ olds news. sets_off_nothing rest tree olds news ready.has.apart) old new d.tests c.terms _ params (λ _. c.values s) count ready.has.is kept (it.changed s) (λ _ _ _. it.casts s) w in
      let mode = h.executes.1.mode ∙ sym h.inside in
      let typed_after : AreTyped old.now.trees → AreTyped (with_tree old.now.trees tree after) = λ are.
      typed_put old.now.trees (rule_of d) after (all_over_ids (λ r. d.is r ≡ true) p (c.values s) rows (λ r int e. (it.becomes s r good int e).0) kept.1 (typed_rows d laws old.now.trees are)) d.place laws.ruled are in (
        λ some. goes old new tree after _ ready (IsRows-rewritten p (λ _. c.values s) rows kept) u.0 mode
            (with_is old.now.trees after s (λ k. found_over d.is d.reads p (λ x. d.same (d.key s) (d.key x)) (λ x. d.same k (d.key x)) (d.same k (d.key s)) (meets d.same d.key laws.one_key (d.key s) k) (at_own s) s refl (c.values s) rows kept.1
            (λ r int e. it.becomes s r good int e) (any_counted p rows (λ none. some (u.1 ∙ none)))))
            typed_after,
        λ none. goes old new tree after _ ready (IsRows-rewritten p (λ _. c.values s) rows kept) u.0 mode
            (ap (λ l. tables_in (with_tree old.now.trees tree l)) (none_over p (c.values s) rows (none_counted_pass p rows (sym u.1 ∙ none))) ∙ laws.sets old.now.trees rows ∙ (λ i. d.set (sym (laws.looks old.now.trees) i) (tables_in old.now.trees)) ∙ laws.same_set (tables_in old.now.trees))
            typed_after,
      )

  -- the row was put beside those that there were, none of which has its rowid
  went_in : (s : X) (old new : State) (count : ℕ) (ready : IsReady old.now) → Counts count d.add (d.cells s) old new
      → let row = with_rowid Chosen (old.now.trees d.layout.tree) (d.source s) in
      Changed (schema_with ready.has.rest) d.layout.tree (put_row row (old.now.trees d.layout.tree)) old.now new.now × (is_taken (old.now.trees d.layout.tree) row ≡ false)
  went_in s old new count ready h =
      let params = d.cells s in
      let tree = d.layout.tree in
      let rest = ready.has.rest in
      let w = runs_as d.add params old new (schema_with rest) ready.has.is _ (laws.add_is rest).0 (laws.add_is rest).1 count h.executes.0 in
      goes_in (schema_with rest) d.place tree _ _ _ _ _ _ (laws.placed rest) (λ olds news. sets_off_nothing rest tree olds news ready.has.apart) old new d.add_terms (length d.add_terms) _ params (d.source s) (d.source s) count ready.has.is (laws.added s) (laws.casts s) w

  pub adds : (s : X) → sound d s ≡ true → (old new : State) (count : ℕ) → IsReady old.now → Counts count d.add (d.cells s) old new → Goes (with_row d s) old new
  adds s good old new count ready h =
      let params = d.cells s in
      let tree = d.layout.tree in
      let p = passes params d.tests in
      let rows = old.now.trees tree in
      let kept = rows_of d laws old.now ready in
      let row : Row = with_rowid Chosen rows (d.source s) in
      let after = put_row row rows in
      let came = laws.comes s rows good in
      let u = went_in s old new count ready h in
      let good_rows = IsRows-put_row row rows came.0 kept in
      let ready_now = ready_after old.now new.now tree after ready good_rows u.0 in
      let there : p row ≡ true = at_own s row came.1.0 ∙ ap (λ x. d.same (d.key s) (d.key x)) came.1.1 ∙ laws.itself (d.key s) in
      let is_after : new.now.trees tree ≡ with_tree old.now.trees tree after tree = all-slice_get (λ t. new.now.trees t.tree ≡ with_tree old.now.trees tree after t.tree) (schema_with ready.has.rest).tables d.place (laid d.layout) (laws.placed ready.has.rest) u.0.trees_are in
      let own_tree : with_tree old.now.trees tree after tree ≡ after = grind (arith, nat_tests) in
      let none = none_had p row rows u.1 there (subst (AtMostOne p) (is_after ∙ own_tree) (laws.one_row new.now ready_now params)) (stays_put row rows u.1) in
      goes old new tree after _ ready good_rows u.0 (h.executes.1.mode ∙ sym h.inside)
      (with_is old.now.trees after s (λ k. found_put d.is d.reads p (λ x. d.same (d.key s) (d.key x)) (λ x. d.same k (d.key x)) (d.same k (d.key s)) (meets d.same d.key laws.one_key (d.key s) k) (at_own s) s refl row rows came.1.0 came.1.1 u.1 none))
      (λ are. typed_put old.now.trees (rule_of d) after (all_put_row (λ r. d.is r ≡ true) row rows came.1.0 (typed_rows d laws old.now.trees are)) d.place laws.ruled are)

  -- it took the place of none, so each stored row was typed if each is now
  pub were_typed : (s : X) (old new : State) (count : ℕ) → IsReady old.now → Counts count d.add (d.cells s) old new → AreTyped new.now.trees → AreTyped old.now.trees
  were_typed s old new count ready h are =
      let tree = d.layout.tree in
      let row : Row = with_rowid Chosen (old.now.trees tree) (d.source s) in
      let u = went_in s old new count ready h in
      record {
        each = all_both (Keeps new.now.trees) (λ (t : Rule). new.now.trees t.tree ≡ with_tree old.now.trees tree (put_row row (old.now.trees tree)) t.tree) (Keeps old.now.trees) (kept_before old.now.trees new.now.trees tree row u.1) the_rules are.each
            (front _ the_tables _ u.0.trees_are);
      }

  pub drops : (text : List ℕ) → DropIs d text → (k : K) (old new : State) (count : ℕ) → IsReady old.now → Counts count text (d.key_cells k) old new → Goes (without_row d k) old new
  drops text it k old new count ready h =
      let params = d.key_cells k in
      let tree = d.layout.tree in
      let p = passes params d.tests in
      let rows = old.now.trees tree in
      let left = filter (λ r. not (p r)) rows in
      let rest = ready.has.rest in
      let kept = rows_of d laws old.now ready in
      let w = runs_as text params old new (schema_with rest) ready.has.is _ (it rest).0 (it rest).1 count h.executes.0 in
      let c = deletes (schema_with rest) d.place tree _ _ _ _ _ _ (laws.placed rest) (λ olds news. sets_off_nothing rest tree olds news ready.has.apart) old new d.tests _ params count ready.has.is kept w in
      goes old new tree left _ ready (IsRows-filter _ rows kept) c (h.executes.1.mode ∙ sym h.inside)
      (laws.sets old.now.trees left ∙ (λ i. d.set (λ at. (found_without d.is d.reads p (λ s. d.same k (d.key s)) (λ s. d.same at (d.key s)) (d.same at k) (meets d.same d.key laws.one_key k at) (laws.at_key k) rows
      ∙ ap (λ f. if d.same at k then None else f at) (sym (laws.looks old.now.trees))) i) (tables_in old.now.trees)))
      (λ are. typed_put old.now.trees (rule_of d) left (all-filter (λ r. d.is r ≡ true) _ rows (typed_rows d laws old.now.trees are)) d.place laws.ruled are)

  -- what is found by a test of the row
  pub found_by_test : (test : X → Bool) (db : Database) → IsReady db → (xs : List X) → xs ≡ filter test (typed d.is d.reads (db.trees d.layout.tree)) → AreRows d.same d.key (λ k. true) (λ k. only_if test (d.look (tables_in db.trees) k)) xs
  found_by_test test db ready xs are =
      subst (λ f. AreRows d.same d.key (λ k. true) (λ k. only_if test (f k)) xs) (sym (laws.looks db.trees)) (are_rows_if d.same d.key laws.one_key test d.is d.reads (db.trees d.layout.tree) xs (rows_of d laws db ready).0 (apart d laws db ready) are)

  module _ {B : Type 0} (q : Query X K B) (are_of : B → Tables → List X → Type 0) (it : IsSought d q are_of) (by : B) (old new : State) (rows : List Row) (ready : IsReady old.now) (h : Shown q.text (q.params by) old new rows) where
    turn : rows ≡ map (show (q.params by) d.shown) (filter (passes (q.params by) q.tests) (old.now.trees d.layout.tree))
    turn =
        let rest = ready.has.rest in
        let read = reads_as q.text (q.params by) old new (schema_with rest) ready.has.is _ (it.is rest).0 (it.is rest).2 (it.is rest).1 rows h in
        it.ordered old.now ready by rows (read.answer Null)

    pub reads : (xs : List X) → AllByRecursion (λ v. d.has v ≡ true) rows → map d.seen rows ≡ xs → are_of by (tables_in old.now.trees) xs
    reads xs has are =
        it.finds old.now ready by xs
        (shown_typed d.is d.reads d.has d.seen (show (q.params by) d.shown) (laws.has_shown (q.params by)) (laws.seen_shown (q.params by)) _ rows xs turn has are
        ∙ typed-filter d.is d.reads (passes (q.params by) q.tests) (q.wanted by) (it.at by) (old.now.trees d.layout.tree))

    pub typed_are : AllByRecursion (λ r. d.is r ≡ true) (stored_of d q by old.now.trees) ↔ AllByRecursion (λ v. d.has v ≡ true) rows
    typed_are =
        let all = old.now.trees d.layout.tree in
        let kept = rows_of d laws old.now ready in
        let same_rows = filter_same_on (passes (q.params by) q.tests) (q.stored by) all (λ r there. it.at_stored by r (all_has (λ r. IsTrue (is_int (rowid r))) all r kept.1 there)) in
        both_typed d.has d.is (show (q.params by) d.shown) (laws.has_shown (q.params by)) (stored_of d q by old.now.trees) rows (turn ∙ ap (map (show (q.params by) d.shown)) same_rows)
