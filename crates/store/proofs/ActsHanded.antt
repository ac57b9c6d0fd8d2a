-- The rows of `repeats` in the books of a history.
use Rattle.store.proofs.Words.{◌≡◌, ℕ, List, find, refl, ap, ◌∙◌, Some, min, ℤ, pos, AllByRecursion, same_text, RepeatRow, State, Database, Act, tables_of, repeat_row, typed, tables_in, itself_bytes, same_bytes, typed_some, repeats, repeats_laws, IsBooksOf, stored_above, Upper, is_in, half_of, AreAll, typed_rows_of, typed_are_all, owned, Tables}
use Rattle.whole_tables.specs.Whole.{rows_of}

module _ (first : ℤ) (acts : List Act) (s : State) (books : IsBooksOf first acts s.now) where
  abbrev pub act_rows : List RepeatRow
  act_rows = typed_rows_of repeats s.now.trees

  are : AreAll repeats (tables_in s.now.trees) act_rows
  are = typed_are_all repeats repeats_laws s books.ready

  -- each act has one
  pub act_rows_found : (k : List ℕ) → find (λ (r : RepeatRow). same_text k r.k) act_rows ≡ repeat_row first acts k
  unfolding tables_of
  act_rows_found k = are.found k refl ∙ ap (λ (t : Tables). t.repeat k) books.rows.tables

  -- and each is that of an act
  pub act_rows_own : AllByRecursion (λ (r : RepeatRow). repeat_row first acts r.k ≡ Some r) act_rows
  act_rows_own = owned same_text (λ (r : RepeatRow). r.k) itself_bytes same_bytes {row = repeat_row first acts} act_rows are.once act_rows_found

  -- so are those that are stored behind a number
  abbrev pub act_rows_above : ℤ → List RepeatRow
  act_rows_above rowid = typed repeats.is repeats.reads (half_of repeats Upper rowid s.now.trees)

  pub act_rows_above_own : (rowid : ℤ) → AllByRecursion (λ (r : RepeatRow). repeat_row first acts r.k ≡ Some r) (act_rows_above rowid)
  act_rows_above_own rowid = typed_some (λ r. repeat_row first acts r.k ≡ Some r) repeats.is repeats.reads (is_in Upper rowid) (rows_of repeats s.now.trees) act_rows_own

-- they are those of a state that has the same tables
pub above_stored : (number : ℕ) (old mid : State) (rowid : ℤ) → rowid ≡ pos (min number 9_223_372_036_854_775_807) → mid.now ≡ old.now → typed repeats.is repeats.reads (half_of repeats Upper rowid mid.now.trees) ≡ stored_above number old
above_stored number old mid rowid is same =
    ap (λ z. typed repeats.is repeats.reads (half_of repeats Upper z mid.now.trees)) is
    ∙ ap (λ (db : Database). typed repeats.is repeats.reads (half_of repeats Upper (pos (min number 9_223_372_036_854_775_807)) db.trees)) same
