-- What DELETE and INSERT make of a table with no reference.
use Rattle.sqlite.specs.declared.types.Value.{Value}
use Rattle.sqlite.specs.declared.types.Value.TheVariants.{Null, Int}
use Rattle.sqlite.specs.Order.{Row}
use Rattle.sqlite.specs.Ops.{unary}
use Rattle.std.specs.List.Sorted.{IsPermutation}
use Rattle.table_words.proofs.Words.{◌≡◌, ◌≢◌, ◌⊎◌, inl, inr, ℕ, ◌/◌, ◌≤◌, Option, unwrap_or, IsTrue, map, ap₂, arith, Bool, true, false, not, cond, List, [], ◌∷◌, ◌++◌, filter, length, slice_get, Some, None, Ok, Err, Result, refl, sym, ap, subst, ◌∙◌, cases_eq, eq-eqb, ne_eqb, and_parts, not-true, AllByRecursion, all_weaker, map_same, Term, col, IsAnswer, overlay, Table, Schema, Integer, Values, Insert, Update, Delete, edit_of, edited, taken_by, Edit, put_all, with_rowid, is_taken, are_fresh, Has, has_filtered, all_has, int_is, rowid, put_row, is_int, Order, Command, length_permutation, cast, cast_all, cast_row, Given, Chosen, ids_of, works, Enforced, Column, Tally, Does, AtPlace, OnRows, Written, Task, Database, value_rows, Trees, with_tree, State, mode_of, Writes, one_step, one_permutation, plain_table, IsRows, Changed, numbered, IsPermutation-map, map-map, drop, length-map}
use Rattle.table_words.proofs.Plans.{scan, alone}
use Rattle.table_words.proofs.ListLemmas.{gone_is, put_back, rewritten, map_same_on}
use Rattle.table_words.proofs.ScanLemmas.{passes, show, scanned}

either : (b : Bool) (x : Value) → cond b x x ≡ x
either true x = refl
either false x = refl

pub cast_null : cast Integer Null ≡ Null
unfolding unary
cast_null = either _ Null

pub cast_number : (n : _) → cast Integer (Int n) ≡ Int n
unfolding unary
cast_number n = either _ (Int n)

-- a part that gave a value did not stop on the way
pub went : {B E R : Type 0} {b : B} {Stops : E → Type 0} → ((stop : E) × Stops stop × (Ok b ≡ Err stop)) ⊎ R → R
went (inl stopped) = absurd (let e = stopped.2 in cc)
went (inr on) = on

pub same_value : {B E : Type 0} {a b : B} → ◌≡◌ {A = Result B E} (Ok a) (Ok b) → a ≡ b
same_value e = cc

nothing_in : (given : List Row) → IsPermutation [] given → given ≡ []
nothing_in [] all = refl
nothing_in (x ∷ given) all = absurd (let same = length_permutation [] (x ∷ given) all in omega arith)

trees_from : (db next : Trees) (tree : ℕ) (rows : List Row) (tables : List Table) → next tree ≡ rows → AllByRecursion (λ t. t.tree ≢ tree → next t.tree ≡ db t.tree) tables
    → AllByRecursion (λ t. next t.tree ≡ with_tree db tree rows t.tree) tables
trees_from db next tree rows tables here others = all_weaker _ (λ t. next t.tree ≡ with_tree db tree rows t.tree) (λ t kept. elim (cases_eq t.tree tree) [
  | inl e ↦ rw (eq-eqb t.tree tree e) (ap next e ∙ here)
  | inr ne ↦ rw (ne_eqb t.tree tree ne) (kept ne)
]) tables others

-- rows whose rowids are given keep them
numbers_stay : (news rows : List Row) → numbered Given rows news ≡ news
numbers_stay [] rows = refl
numbers_stay (r ∷ news) rows = ap (λ l. r ∷ l) (numbers_stay news (put_row r rows))

module _ (schema : Schema) (at tree : ℕ) (name : List ℕ) (columns : List Column) (key : Option ℕ) (places : List ℕ) (uniques : List (List ℕ)) (orders : List Order) (found : slice_get schema.tables at ≡ Some (plain_table tree name columns key places uniques orders))
    (alone_is : (olds news : List Row) → works schema Enforced 0 tree olds news ≡ []) where
  abbrev table : Table
  table = plain_table tree name columns key places uniques orders

  changed : (rows : List Row) (old new : State) {command : Command} {text : List ℕ} {params : Row} {count : ℕ} (w : Writes old new None command text params count) {trees : Trees} → new.now ≡ record { schema = schema; trees = trees }
      → AllByRecursion (λ t. trees t.tree ≡ with_tree old.now.trees tree rows t.tree) schema.tables → Changed schema tree rows old.now new.now
  changed rows old new w {trees} is are = record {
    schema_is = ap (λ (d : Database). d.schema) is;
    trees_are = subst (λ (d : Database). AllByRecursion (λ t. d.trees t.tree ≡ with_tree old.now.trees tree rows t.tree) schema.tables) (sym is) are;
    sound = w.sound;
  }

  pub deletes : (old new : State) (tests : List Term) (text : List ℕ) (params : Row) (count : ℕ) → old.now.schema ≡ schema → IsRows (old.now.trees tree)
      → Writes old new None (Delete at (alone (scan tree tests (col 1 0 ∷ []) []))) text params count
      → Changed schema tree (filter (λ r. not (passes params tests r)) (old.now.trees tree)) old.now new.now
  deletes old new tests text params count has kept w =
      let db = old.now.trees in
      let p = alone (scan tree tests (col 1 0 ∷ []) []) in
      let whole = subst (λ s. Does old.step_limit (mode_of old) params (record old.now { schema = s }) text None (Delete at p) (Ok (w.tally, new.now))) has w.changed in
      let task = λ (t : Table). let k : Task = record { limit = old.step_limit; keys = Enforced; schema = schema; table = t; params = params } in k in
      let done = went (subst (λ o. AtPlace (λ t. OnRows (task t) (mode_of old) None (Delete at p) db) o (Ok (w.tally, new.now))) found whole) in
      let now = ap (λ (p : Tally × Database). p.1) (same_value (went (went done.2).2).2) in
      let given = went done.1 in
      let wrote = went given.2 in
      let trees : done.0.trees ≡ wrote.0 = ap (λ (it : Written). it.trees) (same_value wrote.2) in
      let edit = edit_of db table (ids_of given.0) Given 0 [] in
      let a : IsAnswer (scan tree tests (col 1 0 ∷ []) []) (overlay db []) params given.0 = given.1.answer Null in
      let applies = one_step schema Enforced db wrote.0 edit (alone_is (taken_by db edit) edit.news) wrote.1 in
      let gone = gone_is (passes params tests) (λ _. []) (db tree) given.0 kept (scanned db params tree tests (col 1 0 ∷ []) [] given.0 a) in
      let is : new.now ≡ record { schema = schema; trees = wrote.0 } = now ∙ ap (λ (t : Trees). let d : Database = record { schema = schema; trees = t } in d) trees in
      changed _ old new w is (trees_from db wrote.0 tree _ schema.tables (applies.rows ∙ gone) applies.tables)

  -- a row whose rowid is given, or NULL
  pub goes_in : (old new : State) (terms : List Term) (width : ℕ) (text : List ℕ) (params source values : Row) (count : ℕ) → old.now.schema ≡ schema
      → value_rows (params ++ []) width (length terms / width) terms ≡ source ∷ [] → cast_row table source ≡ values
      → Writes old new None (Insert at (Values terms width)) text params count
      → let row = with_rowid Chosen (old.now.trees tree) values in Changed schema tree (put_row row (old.now.trees tree)) old.now new.now × (is_taken (old.now.trees tree) row ≡ false)
  goes_in old new terms width text params source values count has is_source fits w =
      let db = old.now.trees in
      let command = Insert at (Values terms width) in
      let whole = subst (λ s. Does old.step_limit (mode_of old) params (record old.now { schema = s }) text None command (Ok (w.tally, new.now))) has w.changed in
      let task = λ (t : Table). let k : Task = record { limit = old.step_limit; keys = Enforced; schema = schema; table = t; params = params } in k in
      let done = went (subst (λ o. AtPlace (λ t. OnRows (task t) (mode_of old) None command db) o (Ok (w.tally, new.now))) found whole) in
      let now = ap (λ (p : Tally × Database). p.1) (same_value (went (went done.2).2).2) in
      let given = went done.1 in
      let written = went (went given.2).2 in
      let counted = went written.2 in
      let trees : done.0.trees ≡ written.0 = ap (λ (it : Written). it.trees) (same_value counted.2) ∙ same_value counted.1 in
      let edit = λ (rows : List Row). edit_of db table [] Chosen 0 rows in
      let applies = one_step schema Enforced db written.0 (edit given.0) (alone_is (taken_by db (edit given.0)) (edit given.0).news) written.1 in
      let news : (edit given.0).news ≡ with_rowid Chosen (db tree) values ∷ [] = ap (λ all. (edit all).news) (given.1.1 ∙ is_source) ∙ ap (λ v. with_rowid Chosen (db tree) v ∷ []) fits in
      let rows : edited db (edit given.0) ≡ put_row (with_rowid Chosen (db tree) values) (db tree) = ap (put_all (db tree)) news in
      let fresh : are_fresh (db tree) (with_rowid Chosen (db tree) values ∷ []) ≡ true = subst (λ l. are_fresh (db tree) l ≡ true) news applies.fresh in
      let is : new.now ≡ record { schema = schema; trees = written.0 } = now ∙ ap (λ (t : Trees). let d : Database = record { schema = schema; trees = t } in d) trees in
      (changed _ old new w is (trees_from db written.0 tree _ schema.tables (applies.rows ∙ rows) applies.tables), not-true _ (and_parts _ _ fresh).0)

  -- each row that passes gets columns of its own
  pub updates : (old new : State) (tests cells : List Term) (text : List ℕ) (params : Row) (values : Row → Row) (count : ℕ) → old.now.schema ≡ schema → IsRows (old.now.trees tree)
      → ((r : Row) → show params cells r ≡ values r) → ((r : Row) → Has (old.now.trees tree) r → passes params tests r ≡ true → cast_all columns (values r) ≡ values r)
      → Writes old new None (Update at (alone (scan tree tests (col 1 0 ∷ col 1 0 ∷ cells) []))) text params count
      → Changed schema tree (rewritten (passes params tests) values (old.now.trees tree)) old.now new.now × (count ≡ length (filter (passes params tests) (old.now.trees tree)))
  updates old new tests cells text params values count has kept cells_are fit w =
      let db = old.now.trees in
      let p = passes params tests in
      let shown = col 1 0 ∷ col 1 0 ∷ cells in
      let program = alone (scan tree tests shown []) in
      let whole = subst (λ s. Does old.step_limit (mode_of old) params (record old.now { schema = s }) text None (Update at program) (Ok (w.tally, new.now))) has w.changed in
      let task = λ (t : Table). let k : Task = record { limit = old.step_limit; keys = Enforced; schema = schema; table = t; params = params } in k in
      let done = went (subst (λ o. AtPlace (λ t. OnRows (task t) (mode_of old) None (Update at program) db) o (Ok (w.tally, new.now))) found whole) in
      let last = same_value (went (went done.2).2).2 in
      let now = ap (λ (p : Tally × Database). p.1) last in
      let given = went done.1 in
      let wrote = went given.2 in
      let written = same_value wrote.2 in
      let trees : done.0.trees ≡ wrote.0 = ap (λ (it : Written). it.trees) written in
      let edit : Edit = edit_of db table (ids_of given.0) Given 1 given.0 in
      let a : IsAnswer (scan tree tests shown []) (overlay db []) params given.0 = given.1.answer Null in
      let applies = one_step schema Enforced db wrote.0 edit (alone_is (taken_by db edit) edit.news) wrote.1 in
      let all : IsPermutation (map (λ r. rowid r ∷ rowid r ∷ values r) (filter p (db tree))) given.0 =
      subst (λ l. IsPermutation l given.0) (map_same _ (λ r. rowid r ∷ rowid r ∷ values r) (λ r. ap (λ l. rowid r ∷ rowid r ∷ l) (cells_are r)) _) (scanned db params tree tests shown [] given.0 a) in
      let gone = gone_is p (λ r. rowid r ∷ values r) (db tree) given.0 kept all in
      let news = again given.0 kept fit all in
      let rows : edited db edit ≡ rewritten p values (db tree) =
      ap (λ l. put_all l edit.news) gone ∙ put_back p values (db tree) edit.news kept news (subst (λ l. are_fresh l edit.news ≡ true) gone applies.fresh) in
      let counted : count ≡ length edit.news = w.counted ∙ ap (λ (p : Tally × Database). unwrap_or p.0.rows 0) last ∙ ap (λ (it : Written). length it.rows) written in
      let is : new.now ≡ record { schema = schema; trees = wrote.0 } = now ∙ ap (λ (t : Trees). let d : Database = record { schema = schema; trees = t } in d) trees in (
        changed _ old new w is (trees_from db wrote.0 tree _ schema.tables (applies.rows ∙ rows) applies.tables),
        counted ∙ length_permutation (map (λ r. rowid r ∷ values r) (filter p (db tree))) edit.news news ∙ length-map (filter p (db tree)) (λ r. rowid r ∷ values r),
      )
    where
      written_as : Row → Row
      written_as s = cast_row table (drop 1 s)

      -- what goes in is what the rows that pass have from now on
      again : (given : List Row) → IsRows (old.now.trees tree) → ((r : Row) → Has (old.now.trees tree) r → passes params tests r ≡ true → cast_all columns (values r) ≡ values r)
          → IsPermutation (map (λ r. rowid r ∷ rowid r ∷ values r) (filter (passes params tests) (old.now.trees tree))) given
          → IsPermutation (map (λ r. rowid r ∷ values r) (filter (passes params tests) (old.now.trees tree))) (edit_of old.now.trees table (ids_of given) Given 1 given).news
      again given kept fit all =
          let rows = old.now.trees tree in
          let there = filter (passes params tests) rows in
          let same : map written_as (map (λ r. rowid r ∷ rowid r ∷ values r) there) ≡ map (λ r. rowid r ∷ values r) there =
          map-map written_as (λ r. rowid r ∷ rowid r ∷ values r) there
          ∙ map_same_on _ (λ r. rowid r ∷ values r) there (λ r h.
          let own = has_filtered (passes params tests) rows r h in
          let keyed = int_is (rowid r) (all_has (λ r. IsTrue (is_int (rowid r))) rows r kept.1 own.0) in
          ap₂ ◌∷◌ (ap (cast Integer) keyed ∙ cast_number _ ∙ sym keyed) (fit r own.0 own.1)) in
          subst (λ l. IsPermutation l (edit_of old.now.trees table (ids_of given) Given 1 given).news) same
          (subst (IsPermutation (map written_as (map (λ r. rowid r ∷ rowid r ∷ values r) there))) (sym (numbers_stay (map written_as given) _)) (IsPermutation-map written_as _ given all))

-- the one row that passes, in whatever order it is shown
pub only_shown : (params : Row) (shown : List Term) (there : List Row) → length there ≤ 1 → (found : List Row) → IsPermutation (map (show params shown) there) found → found ≡ map (show params shown) there
only_shown params shown [] few found all = nothing_in found all
only_shown params shown (x ∷ []) few found all = one_permutation (show params shown x) found all
only_shown params shown (x ∷ y ∷ more) few found all = absurd (omega arith)
