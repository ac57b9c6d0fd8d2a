-- The row of `meta`, read and put under the newest number, and making the indexes, in one transaction.
use Rattle.books_schema.proofs.Words.{◌≡◌, ◌⊎◌, inl, inr, ℕ, ℤ, true, List, [], ◌∷◌, Result, Ok, Err, Option, None, Some, OnOk, IfOk, IfErr, refl, sym, ap, subst, ◌∙◌, ◌↔◌, option_map, find, AllByRecursion, IsErrAnd, IsOkAnd, SCHEMA_VERSION, MetaRow, Ghosts, Database, Held, state, State, IsUnchanged, Table, Trees, the_tables, IsReady, Goes, is_meta_at, tables_in, with_meta, meta_rows_rows, meta_at, AreTyped, AreTypedAt, TableFault, Foreign as TableForeign, KeepsRows, HasRow, HasDayAt, IsNumbered, Numbers, THIRD}

pub begun_state : {S : Type 0} (g : Ghosts S) (old begun : Held S) → begun ≡ record old { in_transaction = true } → state g begun ≡ record (state g old) { in_transaction = true }
begun_state g old begun is = ap (state g) is

-- what is so of the trees of a transaction that was just begun
pub as_begun : {S : Type 0} (g : Ghosts S) (old begun : Held S) (P : Database → Type 0) → begun ≡ record old { in_transaction = true } → P (state g begun).now → P (state g old).now
as_begun {S} g old begun P is h = subst P (ap (λ (c : Held S). (state g c).now) is) h

pub as_old : {S : Type 0} (g : Ghosts S) (old begun : Held S) (P : Database → Type 0) → begun ≡ record old { in_transaction = true } → P (state g old).now → P (state g begun).now
as_old {S} g old begun P is h = subst P (sym (ap (λ (c : Held S). (state g c).now) is)) h

pub each_itself : (trees : Trees) (tables : List Table) → AllByRecursion (λ t. trees t.tree ≡ trees t.tree) tables
each_itself trees [] = tt
each_itself trees (t ∷ tables) = (refl, each_itself trees tables)

-- the row that was read is that of the trees
pub row_read : {R : Type 0} (rows : Result R TableFault) (items : R → List MetaRow) (r : Result MetaRow TableFault) (version : ℕ) (trees : Trees) → IfOk rows (λ x. find (λ _. true) (items x) ≡ meta_at version trees)
    → OnOk rows (AllByRecursion (λ r. is_meta_at version r ≡ true) (meta_rows_rows 1 trees)) → IfOk r (λ m. IsOkAnd rows (λ x. find (λ _. true) (items x) ≡ Some m)) → IfOk r (HasRow version trees)
row_read (Ok x) items (Ok m) version trees is typed h = record { typed = typed; found = sym is ∙ h }
row_read (Err e) items (Ok m) version trees is typed h = absurd h
row_read rows items (Err e) version trees is typed h = tt

-- and where none is read, the trees have none
pub no_row : {R : Type 0} (rows : Result R TableFault) (items : R → List MetaRow) (r : Result MetaRow TableFault) (version : ℕ) (trees : Trees) → IfOk rows (λ x. find (λ _. true) (items x) ≡ meta_at version trees)
    → IfErr rows (λ e. e ≡ TableForeign → ¬ AllByRecursion (λ r. is_meta_at version r ≡ true) (meta_rows_rows 1 trees)) → IfErr r (λ e. IsErrAnd rows (λ x. x ≡ e) ⊎ IsOkAnd rows (λ x. find (λ _. true) (items x) ≡ None))
    → IfErr r (λ e. e ≡ TableForeign → (day : ℤ) → ¬ HasDayAt version trees day)
no_row rows items (Ok m) version trees is other h = tt
no_row (Ok x) items (Err e) version trees is other (inl h) = absurd h
no_row (Ok x) items (Err e) version trees is other (inr none) = λ foreign day has. let no : None ≡ Some day = ap (option_map (λ (m : MetaRow). m.day)) (sym none ∙ is) ∙ has.found in cc
no_row (Err x) items (Err e) version trees is other (inl same) = λ foreign day has. other (same ∙ foreign) has.typed
no_row (Err x) items (Err e) version trees is other (inr h) = absurd h

pub on_row : {R : Type 0} (P : Type 0) (rows : Result R TableFault) (items : R → List MetaRow) (r : Result MetaRow TableFault) → OnOk rows P → IfOk r (λ m. IsOkAnd rows (λ x. find (λ _. true) (items x) ≡ Some m)) → OnOk r P
on_row P (Ok x) items (Ok m) h is = h
on_row P (Err e) items (Ok m) h is = absurd is
on_row P rows items (Err e) h is = tt

-- no row is read as such books have it, and nothing changed
pub still_row : {R : Type 0} (P : Type 0) (rows : Result R TableFault) (items : R → List MetaRow) (r : Result MetaRow TableFault) → OnOk rows P → IfErr rows (λ e. e ≡ TableForeign → P)
    → IfErr r (λ e. IsErrAnd rows (λ x. x ≡ e) ⊎ IsOkAnd rows (λ x. find (λ _. true) (items x) ≡ None)) → IfErr r (λ e. e ≡ TableForeign → P)
still_row P rows items (Ok m) h other why = tt
still_row P (Ok x) items (Err e) h other why = λ foreign. h
still_row P (Err x) items (Err e) h other (inl same) = λ foreign. other (same ∙ foreign)
still_row P (Err x) items (Err e) h other (inr none) = absurd none

pub day_of_row : (version : ℕ) (trees : Trees) (m : MetaRow) → HasRow version trees m → HasDayAt version trees m.day
day_of_row version trees m has = record { typed = has.typed; found = ap (option_map (λ (x : MetaRow). x.day)) has.found }

-- what was only read is stored still
pub own_rows : (version : ℕ) (old mid : State) → IsUnchanged old mid → AllByRecursion (λ r. is_meta_at version r ≡ true) (meta_rows_rows 1 old.now.trees) → AllByRecursion (λ r. is_meta_at version r ≡ true) (meta_rows_rows 1 mid.now.trees)
own_rows version old mid same own = subst (λ (d : Database). AllByRecursion (λ r. is_meta_at version r ≡ true) (meta_rows_rows 1 d.trees)) (sym same.0.now_is) own

-- ---- the number of the books

-- a row that has the newest number stays
pub kept_numbers : (old new : State) (row : MetaRow) → IsReady old.now → HasRow SCHEMA_VERSION old.now.trees row → IsUnchanged old new → Numbers old new
kept_numbers old new row ready has same = record {
  ready = subst IsReady (sym same.0.now_is) ready;
  comes = inl (record { day = row.day; has = day_of_row SCHEMA_VERSION old.now.trees row has; rows = subst (λ (d : Database). KeepsRows old.now.trees d.trees) (sym same.0.now_is) (each_itself old.now.trees the_tables) });
  mode = same.0.mode;
}

-- one that had the number 3 was put under the newest
pub raised_numbers : (old mid new : State) (row : MetaRow) → HasRow THIRD old.now.trees row → IsUnchanged old mid → Goes (with_meta row) mid new → (AreTypedAt THIRD mid.now.trees ↔ AreTyped new.now.trees) → Numbers old new
raised_numbers old mid new row has same raised typed = record {
  ready = raised.ready;
  comes = inr (record {
    day = row.day;
    has = day_of_row THIRD old.now.trees row has;
    tables = raised.tables ∙ ap (λ (d : Database). with_meta row (tables_in d.trees)) same.0.now_is ∙ ap (λ (m : Option MetaRow). record (tables_in old.now.trees) { meta = m }) (sym has.found);
    typed = (λ are. typed.0 (subst (λ (d : Database). AreTypedAt THIRD d.trees) (sym same.0.now_is) are), λ are. subst (λ (d : Database). AreTypedAt THIRD d.trees) same.0.now_is (typed.1 are));
  });
  mode = raised.mode ∙ same.0.mode;
}

-- that row does not go missing in between
pub never_lost : (old mid : State) (row : MetaRow) → IsUnchanged old mid → HasRow THIRD old.now.trees row → meta_at THIRD mid.now.trees ≡ None → (day : ℤ) → ¬ HasDayAt THIRD old.now.trees day
never_lost old mid row same has none day is =
    let there : Some row ≡ None = sym has.found ∙ ap (λ (d : Database). meta_at THIRD d.trees) (sym same.0.now_is) ∙ none in
    cc

-- what was found first has changed nothing
pub numbers_after : (old mid new : State) → IsUnchanged old mid → Numbers mid new → Numbers old new
numbers_after old mid new same it = record {
  ready = it.ready;
  comes = subst (λ (d : Database). IsNumbered d.trees new.now.trees) same.0.now_is it.comes;
  mode = it.mode ∙ same.0.mode;
}
