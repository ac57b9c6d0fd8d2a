-- Rows that one statement adds are those that are added one by one.
use Rattle.changes.proofs.Words.{◌≡◌, ℕ, ◌/◌, Bool, true, false, inl, inr, List, [], ◌∷◌, ◌++◌, map, length, Some, refl, sym, ap, subst, ◌∙◌, arith, if◌then◌else◌, ◌==◌, flat_map, AllByRecursion, cases_Bool, and_parts, not-true, nat_tests, Row, State, value_rows, Trees, with_tree, Chosen, runs_as, all-slice_get, with_rowid, numbered, put_all, is_taken, are_fresh, cast_row, Has, put_all_keeps, put_row, schema_with, IsRows, tables_in, IsReady, Goes, Counts, IsRows-put_row, all_put_row, stays_put, passes, ready_after, sets_off_nothing, goes, typed_put, AtMostOne, none_had, meets, found_put, each_written, Described, IsLawful, laid, rule_of, sound, with_row, found, rows_of, typed_rows, AddsMany, many_terms}
use Rattle.changes.proofs.GoingIn.{all_go_in}

-- another tree in the place of one that came to the same place
twice : (trees : Trees) (tree : ℕ) (a b : List Row) → with_tree (with_tree trees tree a) tree b ≡ with_tree trees tree b
twice trees tree a b = λ i t. one t i
  where
    one : (t : ℕ) → with_tree (with_tree trees tree a) tree b t ≡ with_tree trees tree b t
    one t = elim (cases_Bool (t == tree)) [ inl e ↦ rw e refl | inr e ↦ rw e refl ]

at_tree : (trees : Trees) (tree : ℕ) (rows : List Row) → with_tree trees tree rows tree ≡ rows
at_tree trees tree rows = grind (arith, nat_tests)

-- at most one of all rows is at most one of some of them
fewer : (p : Row → Bool) (some all : List Row) → ((r : Row) → Has some r → Has all r) → AtMostOne p all → AtMostOne p some
fewer p some all within one a b ha hb pa pb = one a b (within a ha) (within b hb) pa pb

module _ {X K : Type 0} (d : Described X K) (laws : IsLawful d) where
  abbrev news : List Row → List X → List Row
  news rows ss = numbered Chosen rows (map d.source ss)

  -- the row that a row of the table is stored as
  abbrev row_of : List Row → X → Row
  row_of rows s = with_rowid Chosen rows (d.source s)

  abbrev AreSound : List X → Type 0
  AreSound = AllByRecursion (λ s. sound d s ≡ true)

  at_own : (s : X) (r : Row) → d.is r ≡ true → passes (d.cells s) d.tests r ≡ d.same (d.key s) (d.key (d.reads r))
  at_own s r h = laws.own_key s r ∙ laws.at_key (d.key s) r h

  -- one row beside those that there are
  one_more : (trees : Trees) (rows : List Row) (s : X) → sound d s ≡ true → is_taken rows (row_of rows s) ≡ false → AtMostOne (passes (d.cells s) d.tests) (put_row (row_of rows s) rows)
      → tables_in (with_tree trees d.layout.tree (put_row (row_of rows s) rows)) ≡ with_row d s (tables_in (with_tree trees d.layout.tree rows))
  one_more trees rows s good free one =
      let tree = d.layout.tree in
      let was : Trees = with_tree trees tree rows in
      let row = row_of rows s in
      let p = passes (d.cells s) d.tests in
      let came = laws.comes s rows good in
      let there : p row ≡ true = at_own s row came.1.0 ∙ ap (λ x. d.same (d.key s) (d.key x)) came.1.1 ∙ laws.itself (d.key s) in
      let none = none_had p row rows free there one (stays_put row rows free) in
      let look : ((k : K) → found d rows k ≡ d.look (tables_in was) k) = λ k. ap (λ (l : List Row). found d l k) (sym (at_tree trees tree rows)) ∙ ap (λ (f : K → _). f k) (sym (laws.looks was)) in
      let finds : ((k : K) → found d (put_row row rows) k ≡ (if d.same k (d.key s) then Some s else d.look (tables_in was) k)) = λ k.
      found_put d.is d.reads p (λ x. d.same (d.key s) (d.key x)) (λ x. d.same k (d.key x)) (d.same k (d.key s)) (meets d.same d.key laws.one_key (d.key s) k) (at_own s) s refl row rows came.1.0 came.1.1 free none
      ∙ ap (λ o. if d.same k (d.key s) then Some s else o) (look k) in
      ap tables_in (sym (twice trees tree rows (put_row row rows))) ∙ laws.sets was (put_row row rows) ∙ (λ i. d.set (λ k. finds k i) (tables_in was))

  -- all of them, one after another
  pub put_each : (trees : Trees) (rows : List Row) (ss : List X) → AreSound ss → are_fresh rows (news rows ss) ≡ true → ((params : Row) → AtMostOne (passes params d.tests) (put_all rows (news rows ss)))
      → tables_in (with_tree trees d.layout.tree (put_all rows (news rows ss))) ≡ each_written (with_row d) ss (tables_in (with_tree trees d.layout.tree rows))
  put_each trees rows [] good fresh one = refl
  put_each trees rows (s ∷ ss) good fresh one =
      let row = row_of rows s in
      let more = put_row row rows in
      let parts = and_parts _ _ fresh in
      let kept = λ (r : Row) (h : Has more r). put_all_keeps (news more ss) more r parts.1 h in
      put_each trees more ss good.1 parts.1 one
      ∙ ap (each_written (with_row d) ss) (one_more trees rows s good.0 (not-true _ parts.0) (fewer (passes (d.cells s) d.tests) more (put_all more (news more ss)) kept (one (d.cells s))))

  -- the rows stay in order, and typed
  pub rows_put : (rows : List Row) (ss : List X) → AreSound ss → IsRows rows → IsRows (put_all rows (news rows ss))
  rows_put rows [] good kept = kept
  rows_put rows (s ∷ ss) good kept = rows_put (put_row (row_of rows s) rows) ss good.1 (IsRows-put_row (row_of rows s) rows (laws.comes s rows good.0).0 kept)

  pub typed_put_all : (rows : List Row) (ss : List X) → AreSound ss → AllByRecursion (λ r. d.is r ≡ true) rows → AllByRecursion (λ r. d.is r ≡ true) (put_all rows (news rows ss))
  typed_put_all rows [] good all = all
  typed_put_all rows (s ∷ ss) good all = typed_put_all (put_row (row_of rows s) rows) ss good.1 (all_put_row (λ r. d.is r ≡ true) (row_of rows s) rows (laws.comes s rows good.0).1.0 all)

  casts_all : (ss : List X) → map (cast_row (laid d.layout)) (map d.source ss) ≡ map d.source ss
  casts_all [] = refl
  casts_all (s ∷ ss) = λ i. laws.casts s i ∷ casts_all ss i

  -- what the statement makes of the books
  pub adds_many : (text : List ℕ) → AddsMany d text → (ss : List X) → length ss ≡ 5 → AreSound ss → (old new : State) (count : ℕ) → IsReady old.now → Counts count text (flat_map d.cells ss) old new → Goes (each_written (with_row d) ss) old new
  adds_many text it ss five good old new count ready h =
      let params = flat_map d.cells ss in
      let tree = d.layout.tree in
      let rows = old.now.trees tree in
      let rest = ready.has.rest in
      let kept = rows_of d laws old.now ready in
      let after = put_all rows (news rows ss) in
      let w = runs_as text params old new (schema_with rest) ready.has.is _ (it.is rest).0 (it.is rest).1 count h.executes.0 in
      let u = all_go_in (schema_with rest) d.place tree _ _ _ _ _ _ (laws.placed rest) (λ olds more. sets_off_nothing rest tree olds more ready.has.apart) old new (many_terms d) (length d.add_terms) _ params (map d.source ss) (map d.source ss) count ready.has.is (as_five text it ss five) (casts_all ss) w in
      let good_rows = rows_put rows ss good kept in
      let ready_now = ready_after old.now new.now tree after ready good_rows u.0 in
      let is_after : new.now.trees tree ≡ with_tree old.now.trees tree after tree = all-slice_get (λ t. new.now.trees t.tree ≡ with_tree old.now.trees tree after t.tree) (schema_with rest).tables d.place (laid d.layout) (laws.placed rest) u.0.trees_are in
      let one : ((given : Row) → AtMostOne (passes given d.tests) after) = λ given. subst (AtMostOne (passes given d.tests)) (is_after ∙ at_tree old.now.trees tree after) (laws.one_row new.now ready_now given) in
      let same : tables_in (with_tree old.now.trees tree rows) ≡ tables_in old.now.trees = laws.sets old.now.trees rows ∙ (λ i. d.set (sym (laws.looks old.now.trees) i) (tables_in old.now.trees)) ∙ laws.same_set (tables_in old.now.trees) in
      goes old new tree after _ ready good_rows u.0 (h.executes.1.mode ∙ sym h.inside)
      (put_each old.now.trees rows ss good u.1 one ∙ ap (each_written (with_row d) ss) same)
      (λ are. typed_put old.now.trees (rule_of d) after (typed_put_all rows ss good (typed_rows d laws old.now.trees are)) d.place laws.ruled are)
    where
      as_five : (text : List ℕ) → AddsMany d text → (ss : List X) → length ss ≡ 5 → value_rows (flat_map d.cells ss ++ []) (length d.add_terms) (length (many_terms d) / length d.add_terms) (many_terms d) ≡ map d.source ss
      as_five text it (a ∷ b ∷ c ∷ e ∷ f ∷ []) n = it.many a b c e f
      as_five text it [] n = absurd (omega arith)
      as_five text it (a ∷ []) n = absurd (omega arith)
      as_five text it (a ∷ b ∷ []) n = absurd (omega arith)
      as_five text it (a ∷ b ∷ c ∷ []) n = absurd (omega arith)
      as_five text it (a ∷ b ∷ c ∷ e ∷ []) n = absurd (omega arith)
      as_five text it (a ∷ b ∷ c ∷ e ∷ f ∷ g ∷ more) n = absurd (omega arith)
