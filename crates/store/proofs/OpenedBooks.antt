-- From a connection that was found open to the books over it.
use Rattle.store.proofs.Words.{◌≡◌, inl, inr, ℕ, Bool, true, false, ◌&&◌, List, [], ◌∷◌, ◌++◌, filter, map, slice_get, IsTrue, Result, Err, refl, sym, ap, subst, ◌∙◌, arith, ◌≤◌, ◌⊎◌, ℤ, pos, codes, nat_eq, None, Some, option_map, find, if◌then◌else◌, AllByRecursion, cases_Bool, eqb-true, is_business_day, Tables, ACTS_MAX, SCHEMA_VERSION, MetaRow, Value, Int, column, all_weaker, Ghosts, doubt, Database, Held, state, State, HasCleanDisk, Opens, IsLive, Survives, Schema, Table, Trees, is_the_number, is_the_text, is_signed, is_number, meta_table, least_table, urgents_table, the_tables, tables_in, is_meta, is_meta_at, meta_in, meta_at, same_meta, meta_key, AreTyped, TableFault, TableStore, TableForeign, tables_same, typed_same, typed_at, KeepsRows, as_older, as_brought, number, older_tables, OlderBooks, First, Second, HasDayAt, IsNumbered, each_itself, ready_tells, older_tells, HasDayIn, HasSchema, IsReadyAs, AreReadTyped, KeepsRowsAs, ComesTo, IsCome, IsLeftAs, IsOpenAndSettled, Tells, TellTables, Found, Newest, Older, Leftover, Act, today, are_of_schema, tables_of, and_both, and_false, first_books_go_on, second_books_go_on, AreRowsOf, KeepsBooks, fault_of, Fault, third_number, AreThirdRowsOf, AreOlderRowsOf, OlderRowsGoOn, AreRowsAt, AreFoundRows, MayCome, IsOpenedFrom, IsOpenedAsFound, IsLeftOver, unlimited, Store, Foreign}
use Rattle.sqlite_value.specs.Order.{Row}
use Rattle.books_schema.specs.Settling.{IsRaised}
use Rattle.books_schema.specs.Opening.{IsLeft}
use Rattle.books_schema.specs.declared.ready_connection.Leftover.TheVariants as left

-- ---- faults

pub store_else : (fault : TableFault) → (fault ≡ TableForeign → ⊥) → fault_of fault ≡ Store
store_else (TableStore cause) other = refl
store_else TableForeign other = absurd (other refl)

pub foreign_if : (fault : TableFault) → fault_of fault ≡ Foreign → fault ≡ TableForeign
foreign_if (TableStore cause) is = cc
foreign_if TableForeign is = refl

-- two errors that are the same result are the same
pub same_err : {X E : Type 0} (a b : E) → ◌≡◌ {A = Result X E} (Err a) (Err b) → a ≡ b
same_err a b h = let is = h in cc

either_fault : (fault : TableFault) → (fault_of fault ≡ Foreign) ⊎ (fault_of fault ≡ Store)
either_fault (TableStore cause) = inr refl
either_fault TableForeign = inl refl

-- what is so of the fault told is so of its telling
pub either_told : (fault : TableFault) (told : Fault) → told ≡ fault_of fault → (told ≡ Foreign) ⊎ (told ≡ Store)
either_told fault told is = subst (λ (x : Fault). (x ≡ Foreign) ⊎ (x ≡ Store)) (sym is) (either_fault fault)

-- ---- the row of `meta`

typed_among : {R : Type 0} (P : R → Type 0) (read : R → Bool) (rows : List R) → AllByRecursion P rows → AllByRecursion P (filter read rows)
typed_among P read [] all = tt
typed_among P read (r ∷ rows) all = elim (read r) as (λ b. AllByRecursion P (if b then r ∷ filter read rows else filter read rows)) [
  | true ↦ (all.0, typed_among P read rows all.1)
  | false ↦ typed_among P read rows all.1
]

-- ---- of a history

newest_meta : (trees : Trees) → AreTyped trees → AllByRecursion (λ r. is_meta_at SCHEMA_VERSION r ≡ true) (trees meta_table.tree)
newest_meta trees typed = typed_at 0 (record { tree = meta_table.tree; is = is_meta }) refl trees typed

newest_day : (trees : Trees) (first : ℤ) (acts : List Act) → AreRowsOf first acts trees → HasDayAt SCHEMA_VERSION trees (today first acts)
unfolding tables_of
newest_day trees first acts rows = record {
  typed = typed_among (λ r. is_meta_at SCHEMA_VERSION r ≡ true) (λ r. is_the_number 1 (column r 0)) (trees meta_table.tree) (newest_meta trees rows.typed);
  found = ap (λ (t : Tables). option_map (λ (m : MetaRow). m.day) t.meta) rows.tables;
}

-- the rows of `meta` come first among those of older books
older_meta : (older : OlderBooks) (trees : Trees) (first : ℤ) (acts : List Act) → AreOlderRowsOf older first acts trees → AllByRecursion (λ r. is_meta_at (number older) r ≡ true) (trees meta_table.tree)
older_meta First trees first acts rows = rows.typed.0
older_meta Second trees first acts rows = rows.typed.0

same_meta_as : (older : OlderBooks) (t : Tables) → (as_brought older (as_older older t)).meta ≡ t.meta
same_meta_as First t = refl
same_meta_as Second t = refl

older_day : (older : OlderBooks) (trees : Trees) (first : ℤ) (acts : List Act) → AreOlderRowsOf older first acts trees → HasDayAt (number older) trees (today first acts)
unfolding tables_of
older_day older trees first acts rows =
    let seen : Tables = record (tables_in trees) { meta = meta_at (number older) trees } in
    let same : meta_at (number older) trees ≡ (tables_of first acts).meta = sym (same_meta_as older seen) ∙ ap (λ (t : Tables). t.meta) rows.tables in
    record {
      typed = typed_among (λ r. is_meta_at (number older) r ≡ true) (λ r. is_the_number 1 (column r 0)) (trees meta_table.tree) (older_meta older trees first acts rows);
      found = ap (option_map (λ (m : MetaRow). m.day)) same;
    }

pub third_day : (trees : Trees) (first : ℤ) (acts : List Act) → AreThirdRowsOf first acts trees → HasDayAt third_number trees (today first acts)
unfolding tables_of
third_day trees first acts rows = record {
  typed = typed_among (λ r. is_meta_at third_number r ≡ true) (λ r. is_the_number 1 (column r 0)) (trees meta_table.tree) rows.typed.0;
  found = ap (λ (t : Tables). option_map (λ (m : MetaRow). m.day) t.meta) rows.tables;
}

pub has_day : (found : Found) (trees : Trees) (first : ℤ) (acts : List Act) → AreRowsAt found first acts trees → HasDayIn found trees (today first acts)
has_day Newest trees first acts (inl rows) = inl (newest_day trees first acts rows)
has_day Newest trees first acts (inr rows) = inr (third_day trees first acts rows)
has_day (Older older) trees first acts rows = older_day older trees first acts rows

-- what came of books was read as typed rows
pub came_typed : (found : Found) (old new : Trees) → ComesTo found old new → AreReadTyped found old
came_typed Newest old new come = tt
came_typed (Older First) old new come = come.read
came_typed (Older Second) old new come = tt

-- what is read beside it is typed
pub read_typed : (found : Found) (trees : Trees) (first : ℤ) (acts : List Act) → AreRowsAt found first acts trees → AreReadTyped found trees
read_typed Newest trees first acts rows = tt
read_typed (Older First) trees first acts rows = rows.typed.1.0
read_typed (Older Second) trees first acts rows = tt

-- there is one day
one_day : (version : ℕ) (trees : Trees) (a b : ℤ) → HasDayAt version trees a → HasDayAt version trees b → a ≡ b
one_day version trees a b p q = let both : Some a ≡ Some b = sym p.found ∙ q.found in cc

-- ---- which books they are

-- a row of `meta` has one number
other_number : (n m : ℕ) → nat_eq n m ≡ false → (v : Value) → is_the_number m v ≡ true → is_the_number n v ≡ false
other_number n m apart (Int (pos k)) is = subst (λ (x : ℕ). nat_eq n x ≡ false) (eqb-true m k is) apart
other_number n m apart v is = absurd (let no : false ≡ true = is in cc)

other_meta : (n m : ℕ) → nat_eq n m ≡ false → (r : Row) → is_meta_at m r ≡ true → is_meta_at n r ≡ false
other_meta n m apart r is =
    let one = and_both (is_the_number 1 (column r 0)) (is_the_text (codes "LOTSTOCK") (column r 2) && (is_the_number m (column r 3) && (is_signed is_business_day (column r 4) && (is_number ACTS_MAX (column r 5) && is_number ACTS_MAX (column r 6))))) is in
    let two = and_both (is_the_text (codes "LOTSTOCK") (column r 2)) (is_the_number m (column r 3) && (is_signed is_business_day (column r 4) && (is_number ACTS_MAX (column r 5) && is_number ACTS_MAX (column r 6)))) one.1 in
    let three = and_both (is_the_number m (column r 3)) (is_signed is_business_day (column r 4) && (is_number ACTS_MAX (column r 5) && is_number ACTS_MAX (column r 6))) two.1 in
    ap (λ b. is_the_number 1 (column r 0) && (is_the_text (codes "LOTSTOCK") (column r 2) && (b && (is_signed is_business_day (column r 4) && (is_number ACTS_MAX (column r 5) && is_number ACTS_MAX (column r 6)))))) (other_number n m apart (column r 3) three.0)
    ∙ ap (λ b. is_the_number 1 (column r 0) && b) (and_false (is_the_text (codes "LOTSTOCK") (column r 2)))
    ∙ and_false (is_the_number 1 (column r 0))

none_of_other : (n m : ℕ) → nat_eq n m ≡ false → (rows : List Row) → AllByRecursion (λ r. is_meta_at m r ≡ true) rows → filter (is_meta_at n) rows ≡ []
none_of_other n m apart [] all = refl
none_of_other n m apart (r ∷ rows) all = ap (λ b. if b then r ∷ filter (is_meta_at n) rows else filter (is_meta_at n) rows) (other_meta n m apart r all.0) ∙ none_of_other n m apart rows all.1

-- where all rows of `meta` are of one number, none has a day under another
no_day : (n m : ℕ) → nat_eq n m ≡ false → (trees : Trees) (day : ℤ) → AllByRecursion (λ r. is_meta_at m r ≡ true) (trees meta_table.tree) → HasDayAt n trees day → ⊥
no_day n m apart trees day all has =
    let none : meta_at n trees ≡ None = ap (λ rows. find (λ s. same_meta 1 (meta_key s)) (map meta_in rows)) (none_of_other n m apart (trees meta_table.tree) all) in
    let no : None ≡ Some day = sym (ap (option_map (λ (m : MetaRow). m.day)) none) ∙ has.found in
    cc

-- the numbers that books may have
abbrev IsNumberOf : Found → ℕ → Type 0
IsNumberOf Newest n = (n ≡ SCHEMA_VERSION) ⊎ (n ≡ third_number)
IsNumberOf (Older older) n = n ≡ number older

-- books with one number are the same
one_number : (a b : Found) (n : ℕ) → IsNumberOf a n → IsNumberOf b n → a ≡ b
one_number Newest Newest n p q = refl
one_number (Older First) (Older First) n p q = refl
one_number (Older Second) (Older Second) n p q = refl
one_number Newest (Older First) n (inl p) q = cc
one_number Newest (Older First) n (inr p) q = cc
one_number Newest (Older Second) n (inl p) q = cc
one_number Newest (Older Second) n (inr p) q = cc
one_number (Older First) Newest n p (inl q) = cc
one_number (Older First) Newest n p (inr q) = cc
one_number (Older First) (Older Second) n p q = cc
one_number (Older Second) Newest n p (inl q) = cc
one_number (Older Second) Newest n p (inr q) = cc
one_number (Older Second) (Older First) n p q = cc

-- the row of `meta` has this day under this number of the books
record HasNumber (found : Found) (trees : Trees) (day : ℤ) : Type 0 where
  version : ℕ
  is : IsNumberOf found version
  has : HasDayAt version trees day

number_found : (found : Found) (trees : Trees) (day : ℤ) → HasDayIn found trees day → HasNumber found trees day
number_found Newest trees day (inl has) = record { version = SCHEMA_VERSION; is = inl refl; has = has }
number_found Newest trees day (inr has) = record { version = third_number; is = inr refl; has = has }
number_found (Older older) trees day has = record { version = number older; is = refl; has = has }

-- rows of the acts have this number of their books, and no other
record AreNumbered (found : Found) (trees : Trees) (day : ℤ) : Type 0 where
  own : HasNumber found trees day
  all : AllByRecursion (λ r. is_meta_at own.version r ≡ true) (trees meta_table.tree)

rows_numbered : (found : Found) (trees : Trees) (first : ℤ) (acts : List Act) → AreRowsAt found first acts trees → AreNumbered found trees (today first acts)
rows_numbered Newest trees first acts (inl rows) = record { own = record { version = SCHEMA_VERSION; is = inl refl; has = newest_day trees first acts rows }; all = newest_meta trees rows.typed }
rows_numbered Newest trees first acts (inr rows) = record { own = record { version = third_number; is = inr refl; has = third_day trees first acts rows }; all = rows.typed.0 }
rows_numbered (Older older) trees first acts rows = record { own = record { version = number older; is = refl; has = older_day older trees first acts rows }; all = older_meta older trees first acts rows }

-- rows of the acts under a number that the row of `meta` has are those of its books, and of their last day
pub same_found : (at found : Found) (trees : Trees) (first : ℤ) (acts : List Act) (day : ℤ) → AreRowsAt at first acts trees → HasDayIn found trees day → (at ≡ found) × (day ≡ today first acts)
same_found at found trees first acts day rows has =
    let rows_at = rows_numbered at trees first acts rows in
    let read = number_found found trees day has in
    elim (cases_Bool (nat_eq read.version rows_at.own.version)) [
      | inl is ↦
          let same : read.version ≡ rows_at.own.version = eqb-true read.version rows_at.own.version is in (
            one_number at found rows_at.own.version rows_at.own.is (subst (IsNumberOf found) same read.is),
            one_day rows_at.own.version trees day (today first acts) (subst (λ (n : ℕ). HasDayAt n trees day) same read.has) rows_at.own.has,
          )
      | inr apart ↦ absurd (no_day read.version rows_at.own.version apart trees day rows_at.all read.has)
    ]

-- no schema is of two kinds of books: their tables are not as many
tables_of_found : Found → List Table → List Table
tables_of_found Newest others = the_tables ++ others
tables_of_found (Older older) others = older_tables older

has_tables_of : (found : Found) (schema : Schema) → HasSchema found schema → (others : List Table) × (schema.tables ≡ tables_of_found found others)
unfolding tables_of_found
has_tables_of Newest schema has = (has.rest.tables, ap (λ (s : Schema). s.tables) has.is)
has_tables_of (Older older) schema has = ([], ap (λ (s : Schema). s.tables) has.is)

others_apart : (a b : Found) (xs ys : List Table) → tables_of_found a xs ≡ tables_of_found b ys → a ≡ b
unfolding tables_of_found
others_apart Newest Newest xs ys same = refl
others_apart (Older First) (Older First) xs ys same = refl
others_apart (Older Second) (Older Second) xs ys same = refl
others_apart Newest (Older First) xs ys same = let no : Some least_table ≡ None = ap (λ (tables : List Table). slice_get tables 14) same in cc
others_apart Newest (Older Second) xs ys same = let no : Some urgents_table ≡ None = ap (λ (tables : List Table). slice_get tables 15) same in cc
others_apart (Older First) Newest xs ys same = let no : None ≡ Some least_table = ap (λ (tables : List Table). slice_get tables 14) same in cc
others_apart (Older First) (Older Second) xs ys same = let no : None ≡ Some least_table = ap (λ (tables : List Table). slice_get tables 14) same in cc
others_apart (Older Second) Newest xs ys same = let no : None ≡ Some urgents_table = ap (λ (tables : List Table). slice_get tables 15) same in cc
others_apart (Older Second) (Older First) xs ys same = let no : Some least_table ≡ None = ap (λ (tables : List Table). slice_get tables 14) same in cc

pub one_found : (a b : Found) (schema : Schema) → HasSchema a schema → HasSchema b schema → a ≡ b
one_found a b schema p q =
    let one = has_tables_of a schema p in
    let two = has_tables_of b schema q in
    others_apart a b one.0 two.0 (sym one.1 ∙ two.1)

-- ---- the connection

-- the connection as it was, or its store, is left over
pub left_over : {S : Type 0} (g : Ghosts S) (old : Held S) (it : Leftover S) → IsLeft g old it → IsLeftOver g old it
left_over g old (left.Connection conn) h = inl h
left_over g old (left.Store s) h = h

-- with no limit on steps the books that were made are the same
pub unlimited_books : {S : Type 0} (g : Ghosts S) (mid new : Held S) (day : ℤ) → new ≡ record mid { step_limit = None } → (HasCleanDisk (state g mid) → KeepsBooks day [] (state g mid) × IsTrue (state g mid).is_open)
    → HasCleanDisk (state g new) → KeepsBooks day [] (state g new) × IsTrue (state g new).is_open
unlimited_books {S} g mid new day is made =
    subst (λ (h : Held S). HasCleanDisk (state g h) → KeepsBooks day [] (state g h) × IsTrue (state g h).is_open) (sym is)
    (λ clean. (record { books = (made clean).0.books; settled = (made clean).0.settled }, (made clean).1))

pub unlimited_survives : {S : Type 0} (g : Ghosts S) (old mid new : Held S) (P : Trees → Type 0) → new ≡ record mid { step_limit = None } → Survives (state g old) (state g mid) P → Survives (unlimited (state g old)) (state g new) P
unlimited_survives {S} g old mid new P is s =
    subst (λ (h : Held S). Survives (unlimited (state g old)) (state g h) P) (sym is)
    (record { clean = s.clean; shield = s.shield; counts = s.counts; limit = refl; closes = s.closes; crash = s.crash })

-- what a program of an older schema leaves comes to the tables of the same acts
goes_on : (older : OlderBooks) (first : ℤ) (acts : List Act) → are_of_schema (number older) acts ≡ true → as_brought older (as_older older (tables_of first acts)) ≡ tables_of first acts
goes_on First first acts old = first_books_go_on first acts old
goes_on Second first acts old = second_books_go_on first acts old

pub older_rows_go_on : OlderRowsGoOn
older_rows_go_on older first acts trees rows = record { tables = ap (as_brought older) rows.tables ∙ goes_on older first acts rows.older_acts; typed = rows.typed }

-- rows that were kept are those of the acts, and so are those that came of older ones
pub rows_come : (found : Found) (before after : Trees) (first : ℤ) (acts : List Act) → ComesTo found before after → AreRowsAt found first acts before → AreRowsOf first acts after
rows_come Newest before after first acts (inl kept) (inl rows) = record { tables = tables_same before after kept.rows ∙ rows.tables; typed = typed_same before after kept.rows rows.typed }
rows_come Newest before after first acts (inr raised) (inr rows) = record { tables = raised.tables ∙ rows.tables; typed = raised.typed.0 rows.typed }
rows_come Newest before after first acts (inl kept) (inr rows) = absurd (no_day SCHEMA_VERSION third_number refl before kept.day rows.typed.0 kept.has)
rows_come Newest before after first acts (inr raised) (inl rows) = absurd (no_day third_number SCHEMA_VERSION refl before raised.day (newest_meta before rows.typed) raised.has)
rows_come (Older older) before after first acts brought rows = record {
  tables = brought.tables ∙ rows.tables;
  typed = brought.typed.0 rows.typed;
}

-- and where what they come to has the rows of acts, they have
pub rows_came : (found : Found) (before after : Trees) (first : ℤ) (acts : List Act) → ComesTo found before after → AreRowsOf first acts after → AreRowsAt found first acts before
rows_came Newest before after first acts (inl kept) rows =
    let back = all_weaker (λ t. after t.tree ≡ before t.tree) (λ t. before t.tree ≡ after t.tree) (λ t is. sym is) the_tables kept.rows in
    inl (record { tables = tables_same after before back ∙ rows.tables; typed = typed_same after before back rows.typed })
rows_came Newest before after first acts (inr raised) rows = inr (record { tables = sym raised.tables ∙ rows.tables; typed = raised.typed.1 rows.typed })
rows_came (Older older) before after first acts brought rows = record { tables = sym brought.tables ∙ rows.tables; typed = brought.typed.1 rows.typed }

-- a connection that was found open keeps the books of the acts, as whichever books they were found
keeps_books : {S : Type 0} (g : Ghosts S) (old new : Held S) (it : IsOpenedFrom g old new) (first : ℤ) (acts : List Act) (day : ℤ) → HasDayIn it.found (state g old).committed.trees day → HasCleanDisk (state g new)
    → AreFoundRows first acts (state g old).committed.trees → KeepsBooks first acts (state g new)
keeps_books g old new it first acts day has clean (at, rows) = record {
  books = λ up. record {
    ready = it.ready clean up;
    rows = rows_come it.found (state g old).committed.trees (state g new).now.trees first acts (it.comes clean up)
        (subst (λ (f : Found). AreRowsAt f first acts (state g old).committed.trees) (same_found at it.found (state g old).committed.trees first acts day rows has).0 rows);
  };
  settled = it.settled clean;
}

-- rows that were kept, or raised
as_numbered : (old db : Trees) → IsNumbered old db → KeepsRows old db ⊎ IsRaised old db
as_numbered old db (inl kept) = inl kept.rows
as_numbered old db (inr raised) = inr raised

module _ {S : Type 0} (g : Ghosts S) (old checked new : Held S) (found : Found) (schema : HasSchema found (state g old).now.schema)
    (ready : HasCleanDisk (state g checked) → IsReadyAs found (state g checked).now) (opens : HasCleanDisk (state g checked) → IsOpenAndSettled (state g checked))
    (same : HasCleanDisk (state g checked) → (state g checked).now.trees ≡ (state g old).committed.trees) (crash : HasCleanDisk (state g checked) → (db : Trees) → (state g checked).may_leave db → db ≡ (state g old).committed.trees)
    (clean : doubt (state g old).is_clean ≤ doubt (state g checked).is_clean) (shield : (state g old).IsShielded → (state g checked).IsShielded)
    (survives : Survives (state g checked) (state g new) (λ db. IsReadyAs found (state g checked).now → ComesTo found (state g checked).now.trees db × TellTables db)) (outside : new.in_transaction ≡ false) where
  was_clean : HasCleanDisk (state g new) → HasCleanDisk (state g checked)
  was_clean c = omega (arith, c, survives.clean)

  -- the trees as they were found tell their tables
  as_found : (at : Found) → IsReadyAs at (state g checked).now → (state g checked).now.trees ≡ (state g old).committed.trees → (db : Trees) → db ≡ (state g old).committed.trees → MayCome at (state g old).committed.trees db
  as_found Newest is trees db before =
      subst (λ (t : Trees). (KeepsRows (state g old).committed.trees t ⊎ IsRaised (state g old).committed.trees t) × TellTables t) (sym before)
      (inl (each_itself (state g old).committed.trees the_tables), subst TellTables trees (ready_tells (state g checked).now is))
  as_found (Older older) is trees db before = inl (before, subst (Tells (Older older)) (trees ∙ sym before) (older_tells older (state g checked).now is))

  as_come : (at : Found) (db : Trees) → ComesTo at (state g old).committed.trees db × TellTables db → MayCome at (state g old).committed.trees db
  as_come Newest db it = (as_numbered (state g old).committed.trees db it.0, it.1)
  as_come (Older older) db it = inr it

  left_by : HasCleanDisk (state g new) → (db : Trees) → (state g checked).may_leave db ⊎ (IsReadyAs found (state g checked).now → ComesTo found (state g checked).now.trees db × TellTables db) → MayCome found (state g old).committed.trees db
  left_by c db (inl before) = as_found found (ready (was_clean c)) (same (was_clean c)) db (crash (was_clean c) db before)
  left_by c db (inr told) = let it = told (ready (was_clean c)) in as_come found db (subst (λ (t : Trees). ComesTo found t db) (same (was_clean c)) it.0, it.1)

  pub opened_from : (HasCleanDisk (state g new) → IsReadyAs found (state g checked).now → (state g checked).now ≡ (state g checked).committed → IsCome found (state g checked).now.trees (state g new)) → IsOpenedFrom g old new
  opened_from come =
      let came : HasCleanDisk (state g new) → IsCome found (state g checked).now.trees (state g new) = λ c. come c (ready (was_clean c)) (opens (was_clean c)).clean in
      record {
        found = found;
        schema = schema;
        outside = outside;
        ready = λ c up. (came c).ready;
        comes = λ c up. subst (λ (t : Trees). ComesTo found t (state g new).now.trees) (same (was_clean c)) (came c).comes;
        settled = λ c up. (came c).settled;
        crash = λ c db left. left_by c db (survives.crash c db left);
        clean = omega (arith, clean, survives.clean);
        shield = λ s. survives.shield (shield s);
      }

  pub opened_as_found : (HasCleanDisk (state g new) → IsReadyAs found (state g checked).now → (state g checked).now ≡ (state g checked).committed → IsTrue (state g new).is_open → IsLeftAs found (state g checked).now.trees (state g new))
      → IsOpenedAsFound g old new
  opened_as_found kept =
      let still : HasCleanDisk (state g new) → IsTrue (state g new).is_open → IsLeftAs found (state g checked).now.trees (state g new) = λ c up. kept c (ready (was_clean c)) (opens (was_clean c)).clean up in
      record {
        found = found;
        schema = schema;
        outside = outside;
        ready = λ c up. (still c up).ready;
        same = λ c up. subst (λ (t : Trees). KeepsRowsAs found t (state g new).now.trees) (same (was_clean c)) (still c up).rows;
        settled = λ c up. (still c up).settled;
        crash = λ c db left. left_by c db (survives.crash c db left);
        clean = omega (arith, clean, survives.clean);
        shield = λ s. survives.shield (shield s);
      }

  pub keeps_found : (HasCleanDisk (state g new) → IsReadyAs found (state g checked).now → (state g checked).now ≡ (state g checked).committed → IsCome found (state g checked).now.trees (state g new)) → (first : ℤ) (acts : List Act) (day : ℤ)
      → (IsReadyAs found (state g checked).now → HasDayIn found (state g checked).now.trees day) → HasCleanDisk (state g new) → AreFoundRows first acts (state g old).committed.trees → KeepsBooks first acts (state g new)
  unfolding opened_from
  keeps_found come first acts day has c rows =
      keeps_books g old new (opened_from come) first acts day (subst (λ (t : Trees). HasDayIn found t day) (same (was_clean c)) (has (ready (was_clean c)))) c rows

-- a connection that was opened over what a stop left has the schema of books
pub schema_opened : (found : Found) (s : State) → Opens s → IsLive s → Tells found s.committed.trees → HasSchema found s.now.schema
schema_opened found s opens live tells = subst (Tells found) (sym (ap (λ (d : Database). d.trees) opens.clean)) tells s.now.schema (live opens.is_open).0
