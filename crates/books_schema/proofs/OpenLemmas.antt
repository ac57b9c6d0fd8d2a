-- The rowids of each table rise in what is committed, and what is left of a connection that was not found open.
use Rattle.books_schema.proofs.Words.{◌≡◌, ◌⊎◌, ℕ, ◌≤◌, List, None, IsTrue, inl, inr, sym, ap, subst, ◌∙◌, arith, Error, Ghosts, IsQuiet, doubt, IsUndone, Held, state, State, HasCleanDisk, IsUnchanged, IsRolledBack, Row, Schema, AllByRecursion, View, IsOrdered, IsShaped, Database, IsDatabase, catalog_tree, IsListed, Lists, IsSound, table_shape, objects_rise, lists_once, all_from, the_tables, schema_with, HasTables, IsRows, IsReady, front, IsOlderReady, IsInOrder, IsOlderSchema, HasSchema, IsReadyAs, Tells, TellTables, IsClosed, Found, Newest, Older, OlderBooks}
use Rattle.sqlite_trees.specs.Tree.{Trees}
use Rattle.sqlite.specs.State.{IsNotRun}

pub ready_over : (v : View) (db : Database) → IsListed (v.trees catalog_tree) v.shape v.reals → IsOrdered v.shape v.trees → IsDatabase db → db.trees ≡ v.trees → HasTables db.schema → IsReady db
ready_over v db listed ordered sound trees has =
    let lists : Lists (v.trees catalog_tree) db.schema = subst (λ t. Lists (t catalog_tree) db.schema) trees sound.lists in
    let rows = all_from (λ t. IsRows (db.trees t.tree)) db.schema.tables (λ t h.
    subst (λ d. IsRows (d t.tree)) (sym trees) (subst (λ s. IsShaped s (v.trees t.tree)) (table_shape listed (objects_rise v listed ordered).0 lists.listed t h).0 (ordered t.tree))) in
    record {
      has = has;
      sound = subst (λ s. IsSound s db.trees) has.is sound;
      rows = front _ the_tables has.rest.tables (subst (λ (s : Schema). AllByRecursion (λ t. IsRows (db.trees t.tree)) s.tables) has.is rows);
    }

-- the same of older books
pub older_over : (v : View) (db : Database) → IsListed (v.trees catalog_tree) v.shape v.reals → IsOrdered v.shape v.trees → IsDatabase db → db.trees ≡ v.trees → (older : OlderBooks) → IsOlderSchema older db.schema → IsOlderReady older db
older_over v db listed ordered sound trees older has =
    let lists : Lists (v.trees catalog_tree) db.schema = subst (λ t. Lists (t catalog_tree) db.schema) trees sound.lists in
    let rows = all_from (λ t. IsRows (db.trees t.tree)) db.schema.tables (λ t h.
    subst (λ d. IsRows (d t.tree)) (sym trees) (subst (λ s. IsShaped s (v.trees t.tree)) (table_shape listed (objects_rise v listed ordered).0 lists.listed t h).0 (ordered t.tree))) in
    record { has = has; rows = subst (λ (s : Schema). AllByRecursion (λ t. IsRows (db.trees t.tree)) s.tables) has.is rows; sound = sound }

pub found_over : (v : View) (db : Database) → IsListed (v.trees catalog_tree) v.shape v.reals → IsOrdered v.shape v.trees → IsDatabase db → db.trees ≡ v.trees → (found : Found) → HasSchema found db.schema → IsReadyAs found db
found_over v db listed ordered sound trees Newest has = ready_over v db listed ordered sound trees has
found_over v db listed ordered sound trees (Older older) has = older_over v db listed ordered sound trees older has

-- what is committed is listed and in order, and is a database
pub found_committed : (v : View) (db : Database) → IsInOrder v → IsDatabase db → db.trees ≡ v.committed → (found : Found) → HasSchema found db.schema → IsReadyAs found db
found_committed v db order sound trees found has =
    found_over (record v { trees = v.committed; shape = v.committed_shape; reals = v.committed_reals }) db order.listed order.ordered sound trees found has

-- a statement that was not made ready changes nothing, or the store failed
pub not_run_left : (sql : List ℕ) (params : Row) (old new : State) (e : Error) → IsNotRun old new sql params e → IsUnchanged old new ⊎ IsRolledBack old new
unfolding IsNotRun
not_run_left sql params old new e (inl h) = inl h.1
not_run_left sql params old new e (inr h) = inr h.3

-- the limit on steps is no part of it
pub left_unlimited : (old new : State) → IsUnchanged (record old { step_limit = None }) new ⊎ IsRolledBack (record old { step_limit = None }) new → IsUnchanged old new ⊎ IsRolledBack old new
left_unlimited old new (inl (shows, counts, marks)) = inl (
  record { was_open = shows.was_open; is_open = shows.is_open; now_is = shows.now_is; committed_is = shows.committed_is; mode = shows.mode },
  record { changes = counts.changes; last_rowid = counts.last_rowid },
  marks,
)
left_unlimited old new (inr back) = inr (record {
  was_open = back.was_open;
  undone = back.undone;
  autocommit = back.autocommit;
  unmarked = back.unmarked;
  counts = record { changes = back.counts.changes; last_rowid = back.counts.last_rowid };
})

-- so the last commit is as it was
pub committed_kept : (old new : State) → IsUnchanged old new ⊎ IsRolledBack old new → IsTrue new.is_open → new.committed ≡ old.committed
committed_kept old new (inl same) up = same.0.committed_is
committed_kept old new (inr back) up = (back.undone up).1

-- the store of a connection that was not found open
pub closed_left : {S : Type 0} (g : Ghosts S) (old mid : Held S) (s : S) → doubt (state g old).is_clean ≤ doubt (state g mid).is_clean → ((state g old).IsShielded → (state g mid).IsShielded)
    → (HasCleanDisk (state g mid) → (db : Trees) → (state g mid).may_leave db → (state g old).may_leave db)
    → (HasCleanDisk (state g mid) → IsUnchanged (state g old) (state g mid) ⊎ IsRolledBack (state g old) (state g mid))
    → IsUndone (g.view mid.store) (g.view s) → IsQuiet g.view g.faults g.recovers g.is_shielded mid.store s → IsClosed g old s
closed_left g old mid s clean shield crash failed undone quiet = record {
  clean = omega (arith, clean, quiet.clean);
  shield = λ h. quiet.shield (shield h);
  outcomes = λ c db left. crash (omega (arith, c, quiet.clean)) db (quiet.outcomes db left);
  tables = λ c up.
      let was : HasCleanDisk (state g mid) = omega (arith, c, quiet.clean) in
      (undone.undone up).0 ∙ ap (λ (d : Database). d.trees) (committed_kept (state g old) (state g mid) (failed was) ((undone.kept c).was_open up));
}

-- so the trees of books tell that they have the tables
pub ready_tells : (db : Database) → IsReady db → TellTables db.trees
ready_tells db ready schema sound = record {
  rest = ready.has.rest;
  is = lists_once (db.trees catalog_tree) schema (schema_with ready.has.rest) sound.lists ready.sound.lists;
  apart = ready.has.apart;
  harmless = ready.has.harmless;
}

-- and so do those of older books
pub older_tells : (older : OlderBooks) (db : Database) → IsOlderReady older db → Tells (Older older) db.trees
older_tells older db ready schema sound = subst (IsOlderSchema older) (lists_once (db.trees catalog_tree) db.schema schema ready.sound.lists sound.lists) ready.has
