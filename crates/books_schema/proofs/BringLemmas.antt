-- What bringing older books up makes of their tables.
use Rattle.books_schema.proofs.Words.{◌≡◌, inl, inr, ℕ, ℤ, Bool, true, false, Option, Some, None, List, [], ◌∷◌, ◌++◌, ◌||◌, map, filter, drop, cond, refl, sym, ap, subst, ◌∙◌, ◌↔◌, if◌then◌else◌, option_map, find, bytes_eq, AllByRecursion, list_all, list_any, cases_Bool, bytes_eq-Decides, Database, Held, state, column, Schema, State, IsUnchanged, Table, Trees, created, IsSound, all_both, all_weaker, all-filter, all-append, Ghosts, with_least, asking_none, ItemRow, LeastRow, MetaRow, each_written, typed, is_the_number, IsRows, schema_with, the_tables, least_table, urgents_table, meta_table, is_harmless, IsReady, Goes, is_stored_row, Tables, tables_in, with_meta, with_least_row, is_meta_at, meta_in, same_meta, meta_key, meta_at, item_mapping, least_mapping, urgent_mapping, Rule, rule_for, first_rules, second_rules, Keeps, AreTyped, AreTypedAt, front, as_brought, older_tables_in, AreOlderTyped, AreFillersTyped, AreOlderRows, IsOlderReady, IsOlder, HasRoom, row_of, AsksNone, Fills, IsWritten, Makes, IsGrown, number, older_tables, lacking_tables, older_with, KeepsOlderRows, HasOurs, OlderBooks, First, Second, HasDayAt, HasRow, CREATE_LEAST, CREATE_URGENTS}
use Rattle.sqlite.specs.Listing.{understood}
use Rattle.sqlite.specs.Order.{Row}
use Rattle.sqlite_tied.specs.Compute.{everything}
use Rattle.books_schema.proofs.SettleLemmas.{each_itself}

-- ---- the tables that they lack

-- schema 1 with the table of schema 2
abbrev least_schema : Schema
least_schema = created (older_with First []) (record least_table { tree = 0 })

pub least_added : Makes (older_with First []) CREATE_LEAST.now (record least_table { tree = 0 })
unfolding understood everything
least_added = (refl, refl, refl, refl, (refl, refl))

pub urgents_added : Makes least_schema CREATE_URGENTS.now (record urgents_table { tree = 0 })
unfolding understood everything
urgents_added = (refl, refl, refl, refl, (refl, refl))

pub urgents_behind : Makes (older_with Second []) CREATE_URGENTS.now (record urgents_table { tree = 0 })
unfolding understood everything
urgents_behind = (refl, refl, refl, refl, (refl, refl))

-- the newest schema as it comes of theirs
abbrev pub reached : OlderBooks → Schema
reached First = created least_schema (record urgents_table { tree = 0 })
reached Second = created (older_with Second []) (record urgents_table { tree = 0 })

reached_harmless : (older : OlderBooks) → list_all is_harmless (reached older).indexes ≡ true
unfolding Rattle.std.specs.Fmt.digits
reached_harmless First = refl
reached_harmless Second = refl

pub bare_grown : (older : OlderBooks) (base : Trees) (s : State) → HasOurs older base [] s → IsGrown base (older_with older []) (older_with older []) s
bare_grown First base s has = record { added = []; split = refl; schema_is = has.schema_is; sound = has.sound; kept = has.kept; empty = tt; inside = has.inside }
bare_grown Second base s has = record { added = []; split = refl; schema_is = has.schema_is; sound = has.sound; kept = has.kept; empty = tt; inside = has.inside }

abbrev IsEmpty : Trees → Table → Type 0
IsEmpty trees t = trees t.tree ≡ []

-- what was added is what they lacked
added_empty : (older : OlderBooks) (base : Trees) (s : State) → IsGrown base (older_with older []) (reached older) s → AllByRecursion (IsEmpty s.now.trees) (lacking_tables older)
added_empty First base s made = subst (λ (l : List Table). AllByRecursion (IsEmpty s.now.trees) (drop 14 l)) (sym made.split) made.empty
added_empty Second base s made = subst (λ (l : List Table). AllByRecursion (IsEmpty s.now.trees) (drop 15 l)) (sym made.split) made.empty

all_tables : (older : OlderBooks) (trees : Trees) → AreOlderRows older trees → AllByRecursion (IsEmpty trees) (lacking_tables older) → AllByRecursion (λ t. IsRows (trees t.tree)) the_tables
all_tables older trees rows empty = joined older (all-append (λ t. IsRows (trees t.tree)) (older_tables older) (lacking_tables older) rows (all_weaker (IsEmpty trees) (λ t. IsRows (trees t.tree)) (λ t none. subst IsRows (sym none) (tt, tt)) (lacking_tables older) empty))
  where
    joined : (older : OlderBooks) → AllByRecursion (λ t. IsRows (trees t.tree)) (older_tables older ++ lacking_tables older) → AllByRecursion (λ t. IsRows (trees t.tree)) the_tables
    joined First all = all
    joined Second all = all

-- the indexes of the keys, and nothing else
abbrev bare : OlderBooks → Schema
bare older = record { tables = []; indexes = (reached older).indexes; views = [] }

reached_is : (older : OlderBooks) (s : State) → s.now.schema ≡ reached older → s.now.schema ≡ schema_with (bare older)
reached_is First s is = is
reached_is Second s is = is

pub grown_room : (older : OlderBooks) (base : Trees) (s : State) → AreOlderRows older base → IsGrown base (older_with older []) (reached older) s → HasRoom older base s
grown_room older base s rows made =
    let empty = added_empty older base s made in
    let is = reached_is older s made.schema_is in
    let kept : AreOlderRows older s.now.trees =
    all_both (λ t. IsRows (base t.tree)) (λ t. s.now.trees t.tree ≡ base t.tree) (λ t. IsRows (s.now.trees t.tree)) (λ t good same. subst IsRows (sym same) good) (older_tables older) rows made.kept in
    record {
      ready = record {
        has = record { rest = bare older; is = is; apart = refl; harmless = reached_harmless older };
        rows = all_tables older s.now.trees kept empty;
        sound = subst (λ t. IsSound t s.now.trees) is made.sound;
      };
      kept = made.kept;
      empty = empty;
      inside = made.inside;
    }

-- ---- the row of `meta`

-- the day hangs on the rows of `meta` alone
pub same_day : (version : ℕ) (a b : Trees) (day : ℤ) → a meta_table.tree ≡ b meta_table.tree → HasDayAt version a day → HasDayAt version b day
same_day version a b day same has = record {
  typed = subst (λ (rows : List Row). AllByRecursion (λ r. is_meta_at version r ≡ true) (filter (λ r. is_the_number 1 (column r 0)) rows)) same has.typed;
  found = subst (λ (rows : List Row). option_map (λ (m : MetaRow). m.day) (find (λ s. same_meta 1 (meta_key s)) (typed (is_meta_at version) meta_in rows)) ≡ Some day) same has.found;
}

pub meta_kept : (older : OlderBooks) (old new : Trees) → KeepsOlderRows older old new → new meta_table.tree ≡ old meta_table.tree
meta_kept First old new kept = kept.0
meta_kept Second old new kept = kept.0

pub same_fillers : (older : OlderBooks) (old new : Trees) → KeepsOlderRows older old new → AreFillersTyped older old → AreFillersTyped older new
same_fillers First old new kept are = subst (AllByRecursion (λ r. is_stored_row item_mapping r ≡ true)) (sym kept.1.0) are
same_fillers Second old new kept are = tt

pub same_read : (older : OlderBooks) (old new : Trees) → KeepsOlderRows older old new → AreFillersTyped older new → AreFillersTyped older old
same_read First old new kept are = subst (AllByRecursion (λ r. is_stored_row item_mapping r ≡ true)) kept.1.0 are
same_read Second old new kept are = tt

-- what is wanted of all is wanted of those that a test lets through
pub all_stored : (rows : List Row) → AllByRecursion (λ r. is_stored_row item_mapping r ≡ true) rows → AllByRecursion (λ r. is_stored_row item_mapping r ≡ true) (filter (λ r. true) rows)
all_stored rows all = all-filter (λ r. is_stored_row item_mapping r ≡ true) (λ r. true) rows all

-- and what is so of all that a test lets through that lets all through
pub all_read : (rows : List Row) → AllByRecursion (λ r. is_stored_row item_mapping r ≡ true) (filter (λ r. true) rows) → AllByRecursion (λ r. is_stored_row item_mapping r ≡ true) rows
all_read [] all = tt
all_read (r ∷ rows) all = (all.0, all_read rows all.1)

-- ---- the tables as they read

pub older_same : (older : OlderBooks) (old new : Trees) → KeepsOlderRows older old new → older_tables_in older new ≡ older_tables_in older old
older_same First old new same = rw (tables_in, same.0, same.1.0, same.1.1.0, same.1.1.1.0, same.1.1.1.1.0, same.1.1.1.1.1.0, same.1.1.1.1.1.1.0, same.1.1.1.1.1.1.1.0, same.1.1.1.1.1.1.1.1.0, same.1.1.1.1.1.1.1.1.1.0, same.1.1.1.1.1.1.1.1.1.1.0, same.1.1.1.1.1.1.1.1.1.1.1.0, same.1.1.1.1.1.1.1.1.1.1.1.1.0, same.1.1.1.1.1.1.1.1.1.1.1.1.1.0) refl
older_same Second old new same = rw (tables_in, same.0, same.1.0, same.1.1.0, same.1.1.1.0, same.1.1.1.1.0, same.1.1.1.1.1.0, same.1.1.1.1.1.1.0, same.1.1.1.1.1.1.1.0, same.1.1.1.1.1.1.1.1.0, same.1.1.1.1.1.1.1.1.1.0, same.1.1.1.1.1.1.1.1.1.1.0, same.1.1.1.1.1.1.1.1.1.1.1.0, same.1.1.1.1.1.1.1.1.1.1.1.1.0, same.1.1.1.1.1.1.1.1.1.1.1.1.1.0, same.1.1.1.1.1.1.1.1.1.1.1.1.1.1.0) refl

module _ (old new : Trees) where
  still_typed : (rules : List Rule) → AllByRecursion (λ (t : Rule). new t.tree ≡ old t.tree) rules → AllByRecursion (Keeps old) rules → AllByRecursion (Keeps new) rules
  still_typed rules same are = all_both (Keeps old) (λ (t : Rule). new t.tree ≡ old t.tree) (Keeps new) (λ t kept is. subst (AllByRecursion (λ r. t.is r ≡ true)) (sym is) kept) rules are same

  typed_still : (rules : List Rule) → AllByRecursion (λ (t : Rule). new t.tree ≡ old t.tree) rules → AllByRecursion (Keeps new) rules → AllByRecursion (Keeps old) rules
  typed_still rules same are = all_both (Keeps new) (λ (t : Rule). new t.tree ≡ old t.tree) (Keeps old) (λ t kept is. subst (AllByRecursion (λ r. t.is r ≡ true)) is kept) rules are same

  pub older_typed_same : (older : OlderBooks) → KeepsOlderRows older old new → AreOlderTyped older old ↔ AreOlderTyped older new
  older_typed_same First same = (still_typed (first_rules 1) same, typed_still (first_rules 1) same)
  older_typed_same Second same = (still_typed (second_rules 2) same, typed_still (second_rules 2) same)

-- under the newest number, and with no rows in the tables that they lack, they read as theirs
seen_older : (older : OlderBooks) (trees : Trees) (row : MetaRow) → AllByRecursion (IsEmpty trees) (lacking_tables older) → meta_at (number older) trees ≡ Some row → with_meta row (tables_in trees) ≡ older_tables_in older trees
seen_older First trees row none found = rw (tables_in, none.0, none.1.0, found) refl
seen_older Second trees row none found = rw (tables_in, none.0, found) refl

-- what is found under a key after these rows were put
looked : List LeastRow → List ℕ → Option LeastRow → Option LeastRow
looked [] g d = d
looked (s ∷ rows) g d = looked rows g (if bytes_eq g s.gtin then Some s else d)

least_written : (rows : List LeastRow) (t : Tables) → each_written with_least_row rows t ≡ record t { least = λ g. looked rows g (t.least g) }
unfolding looked
least_written [] t = refl
least_written (s ∷ rows) t = least_written rows (with_least_row s t)

abbrev none_for : List ℕ → Option LeastRow
none_for g = Some (record { gtin = g; days = 0 })

either_way : (b : Bool) (x : Option LeastRow) → cond b x x ≡ x
either_way true x = refl
either_way false x = refl

looked_rows : (items : List ItemRow) (g : List ℕ) (d : Option LeastRow) → looked (map row_of items) g d ≡ (if list_any (λ i. bytes_eq g i.gtin) items then none_for g else d)
unfolding looked
looked_rows [] g d = refl
looked_rows (i ∷ items) g d = elim (cases_Bool (bytes_eq g i.gtin)) [
  | inl e ↦
      let same : Some (row_of i) ≡ none_for g = ap none_for (sym ((bytes_eq-Decides g i.gtin).0 e)) in
      ap (λ (b : Bool). looked (map row_of items) g (if b then Some (row_of i) else d)) e ∙ looked_rows items g (Some (row_of i)) ∙ ap (λ x. if list_any (λ i. bytes_eq g i.gtin) items then none_for g else x) same
      ∙ either_way (list_any (λ i. bytes_eq g i.gtin) items) (none_for g) ∙ sym (ap (λ (b : Bool). if b || list_any (λ i. bytes_eq g i.gtin) items then none_for g else d) e)
  | inr e ↦ ap (λ (b : Bool). looked (map row_of items) g (if b then Some (row_of i) else d)) e ∙ looked_rows items g d ∙ sym (ap (λ (b : Bool). if b || list_any (λ i. bytes_eq g i.gtin) items then none_for g else d) e)
]

asked_rows : (items : List ItemRow) (g : List ℕ) → asking_none (find (λ i. bytes_eq g i.gtin) items) ≡ (if list_any (λ i. bytes_eq g i.gtin) items then none_for g else None)
asked_rows [] g = refl
asked_rows (i ∷ items) g = elim (cases_Bool (bytes_eq g i.gtin)) [
  | inl e ↦ rw e (ap none_for (sym ((bytes_eq-Decides g i.gtin).0 e)))
  | inr e ↦ rw e (asked_rows items g)
]

-- with a row for each item, they have 0 days for each
filled_least : (t : Tables) (trees : Trees) (rows : List LeastRow) → t.item ≡ (tables_in trees).item → AsksNone trees rows → ((g : List ℕ) → t.least g ≡ None) → each_written with_least_row rows t ≡ with_least t
filled_least t trees rows items asks none =
    let each : (g : List ℕ) → looked rows g (t.least g) ≡ asking_none (t.item g) = λ g.
    ap (looked rows g) (none g) ∙ ap (λ l. looked l g None) asks.3 ∙ looked_rows asks.1 g None ∙ sym (asked_rows asks.1 g) ∙ ap asking_none (asks.2.found g refl ∙ sym (ap (λ f. f g) items)) in
    least_written rows t ∙ (λ j. record t { least = λ g. each g j })

-- so with the rows that are added they are the newest tables
filled_older : (older : OlderBooks) (trees : Trees) (rows : List LeastRow) → Fills older trees rows → each_written with_least_row rows (older_tables_in older trees) ≡ as_brought older (older_tables_in older trees)
filled_older First trees rows fills = filled_least (older_tables_in First trees) trees rows refl fills (λ g. refl)
filled_older Second trees rows fills = ap (λ l. each_written with_least_row l (older_tables_in Second trees)) fills

fillers_typed : (older : OlderBooks) (trees : Trees) (rows : List LeastRow) → Fills older trees rows → AreFillersTyped older trees
fillers_typed First trees rows fills = fills.0
fillers_typed Second trees rows fills = tt

-- ---- what is written

none_typed : (trees : Trees) (rule : Rule) → trees rule.tree ≡ [] → Keeps trees rule
none_typed trees rule none = subst (AllByRecursion (λ r. rule.is r ≡ true)) (sym none) tt

abbrev least_rule : Rule
least_rule = rule_for least_table.tree least_mapping

abbrev urgent_rule : Rule
urgent_rule = rule_for urgents_table.tree urgent_mapping

typed_before : (older : OlderBooks) (trees : Trees) → AllByRecursion (IsEmpty trees) (lacking_tables older) → AreOlderTyped older trees → AreTypedAt (number older) trees
typed_before First trees none are =
    all-append (Keeps trees) (second_rules 1) (urgent_rule ∷ []) (all-append (Keeps trees) (first_rules 1) (least_rule ∷ []) are (none_typed trees least_rule none.0, tt)) (none_typed trees urgent_rule none.1.0, tt)
typed_before Second trees none are = all-append (Keeps trees) (second_rules 2) (urgent_rule ∷ []) are (none_typed trees urgent_rule none.0, tt)

typed_of_all : (older : OlderBooks) (trees : Trees) → AreTypedAt (number older) trees → AreOlderTyped older trees
typed_of_all First trees are = front (Keeps trees) (first_rules 1) (least_rule ∷ []) (front (Keeps trees) (second_rules 1) (urgent_rule ∷ []) are)
typed_of_all Second trees are = front (Keeps trees) (second_rules 2) (urgent_rule ∷ []) are

pub written : (older : OlderBooks) (base : Trees) (old mid new : State) (row : MetaRow) (rows : List LeastRow) → HasRoom older base old → HasRow (number older) old.now.trees row → Fills older old.now.trees rows
    → Goes (with_meta row) old mid → AreTypedAt (number older) old.now.trees ↔ AreTyped mid.now.trees → Goes (each_written with_least_row rows) mid new × (AreTyped new.now.trees → AreTyped mid.now.trees) → IsWritten older base new
written older base old mid new row rows room has fills raised typed (added, before) = record {
  ready = added.ready;
  brought = record {
    read = same_read older base old.now.trees room.kept (fillers_typed older old.now.trees rows fills);
    tables = added.tables ∙ ap (each_written with_least_row rows) (raised.tables ∙ seen_older older old.now.trees row room.empty has.found) ∙ filled_older older old.now.trees rows fills
        ∙ ap (as_brought older) (older_same older base old.now.trees room.kept);
    typed = (
      λ are. added.typed (typed.0 (typed_before older old.now.trees room.empty ((older_typed_same base old.now.trees older room.kept).0 are))),
      λ are. (older_typed_same base old.now.trees older room.kept).1 (typed_of_all older old.now.trees (typed.1 (before are))),
    );
  };
  inside = added.mode ∙ raised.mode ∙ room.inside;
}

pub same_filling : (older : OlderBooks) (a b : Database) (rows : List LeastRow) → b ≡ a → Fills older a.trees rows → Fills older b.trees rows
same_filling older a b rows is fills = subst (λ (d : Database). Fills older d.trees rows) (sym is) fills

pub same_row : (version : ℕ) (a b : Database) (row : MetaRow) → b ≡ a → HasRow version a.trees row → HasRow version b.trees row
same_row version a b row is has = subst (λ (d : Database). HasRow version d.trees row) (sym is) has

pub same_room : (older : OlderBooks) (base : Trees) (old new : State) → HasRoom older base old → IsUnchanged old new → HasRoom older base new
same_room older base old new room same = record {
  ready = subst IsReady (sym same.0.now_is) room.ready;
  kept = subst (λ (d : Database). KeepsOlderRows older base d.trees) (sym same.0.now_is) room.kept;
  empty = subst (λ (d : Database). AllByRecursion (IsEmpty d.trees) (lacking_tables older)) (sym same.0.now_is) room.empty;
  inside = same.0.mode ∙ room.inside;
}

-- ---- the transaction

-- one that begins over older books
pub begins_older : {S : Type 0} (g : Ghosts S) (old begun : Held S) (older : OlderBooks) → begun ≡ record old { in_transaction = true } → IsOlderReady older (state g old).now → IsOlder older (state g old).now.trees (state g begun)
begins_older g old begun older is ready = rw is (record {
  ours = ready.has.ours;
  has = record { schema_is = ready.has.is; apart = ready.has.apart; sound = ready.sound; kept = each_itself (state g old).now.trees (older_tables older); inside = refl };
  rows = ready.rows;
})
