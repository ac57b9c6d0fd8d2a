-- What CREATE TABLE makes beside tables that have rows.
use Rattle.books_schema.proofs.Words.{◌≡◌, ℕ, false, None, List, [], ◌∷◌, ◌++◌, Ok, refl, sym, ap, subst, ◌∙◌, append_assoc, AllByRecursion, CreateTable, created, next_tree, Tally, lacks_sequence, Schema, Table, Database, Trees, State, Writes, ExecutesInside, runs_as, all-append, all_both, front, went, same_value, table_at, Makes, AreMade, grown, IsGrown, TableLayout}

back : {X : Type 0} (P : X → Type 0) (xs ys : List X) → AllByRecursion P (xs ++ ys) → AllByRecursion P ys
back P [] ys h = h
back P (x ∷ xs) ys h = back P xs ys h.1

module _ (base : Trees) (first schema : Schema) (old : State) (so_far : IsGrown base first schema old) (trees : Trees) (others : AllByRecursion (λ t. trees t.tree ≡ old.now.trees t.tree) schema.tables) where
  parted : AllByRecursion (λ t. trees t.tree ≡ old.now.trees t.tree) (first.tables ++ so_far.added)
  parted = subst (AllByRecursion (λ t. trees t.tree ≡ old.now.trees t.tree)) so_far.split others

  still_kept : AllByRecursion (λ t. trees t.tree ≡ base t.tree) first.tables
  still_kept = all_both (λ t. trees t.tree ≡ old.now.trees t.tree) (λ t. old.now.trees t.tree ≡ base t.tree) (λ t. trees t.tree ≡ base t.tree) (λ t p q. p ∙ q) first.tables (front _ first.tables so_far.added parted) so_far.kept

  still_empty : AllByRecursion (λ t. trees t.tree ≡ []) so_far.added
  still_empty = all_both (λ t. trees t.tree ≡ old.now.trees t.tree) (λ t. old.now.trees t.tree ≡ []) (λ t. trees t.tree ≡ []) (λ t p q. p ∙ q) so_far.added (back (λ t. trees t.tree ≡ old.now.trees t.tree) first.tables so_far.added parted) so_far.empty

-- one table more
pub grows : (base : Trees) (first schema : Schema) (layout : TableLayout) → Makes schema layout.text.now (table_at 0 layout) → (old new : State) (count : ℕ) → IsGrown base first schema old → ExecutesInside 0 layout.text.now [] old new (Ok count)
    → IsGrown base first (created schema (table_at 0 layout)) new
grows base first schema layout m old new count so_far h =
    let text = layout.text.now in
    let table = table_at 0 layout in
    let w = subst (λ t. Writes old new None CreateTable t [] count) m.1 (runs_as text [] old new schema so_far.schema_is CreateTable m.0 m.4 count h.0) in
    let all = went w.changed in
    let one = went all.1 in
    let made = one.1 in
    let both : Ok made.table ≡ Ok table = sym made.defined ∙ m.2 in
    let same : made.table ≡ table = cc in
    let after : one.0.schema ≡ created schema table = made.is ∙ ap (λ s. created s made.table) so_far.schema_is ∙ ap (created schema) same in
    let plain : lacks_sequence one.0.schema ≡ false = ap lacks_sequence after ∙ m.3 in
    let now : new.now ≡ one.0 = ap (λ (p : Tally × Database). p.1) (same_value all.2) ∙ same_value (rw plain at one.2) in
    let here : one.0.trees (next_tree schema) ≡ [] = subst (λ s. one.0.trees (next_tree s) ≡ []) so_far.schema_is made.empty in
    let others : AllByRecursion (λ t. one.0.trees t.tree ≡ old.now.trees t.tree) schema.tables = subst (λ s. AllByRecursion (λ t. one.0.trees t.tree ≡ old.now.trees t.tree) s.tables) so_far.schema_is made.others in
    let trees : new.now.trees ≡ one.0.trees = ap (λ (d : Database). d.trees) now in
    let last : Table = record table { tree = next_tree schema } in
    record {
      added = so_far.added ++ last ∷ [];
      split = ap (λ l. l ++ last ∷ []) so_far.split ∙ append_assoc first.tables so_far.added (last ∷ []);
      schema_is = ap (λ (d : Database). d.schema) now ∙ after;
      sound = w.sound;
      kept = subst (λ (d : Trees). AllByRecursion (λ t. d t.tree ≡ base t.tree) first.tables) (sym trees) (still_kept base first schema old so_far one.0.trees others);
      empty = subst (λ (d : Trees). AllByRecursion (λ t. d t.tree ≡ []) (so_far.added ++ last ∷ [])) (sym trees)
          (all-append (λ t. one.0.trees t.tree ≡ []) so_far.added (last ∷ []) (still_empty base first schema old so_far one.0.trees others) (here, tt));
      inside = h.1.mode;
    }

-- ---- the tables of two steps, one after the other

pub made_first : (schema : Schema) (xs ys : List TableLayout) → AreMade schema (xs ++ ys) → AreMade schema xs
made_first schema [] ys h = tt
made_first schema (x ∷ xs) ys h = (h.0, made_first (created schema (table_at 0 x)) xs ys h.1)

pub made_then : (schema : Schema) (xs ys : List TableLayout) → AreMade schema (xs ++ ys) → AreMade (grown schema xs) ys
made_then schema [] ys h = h
made_then schema (x ∷ xs) ys h = made_then (created schema (table_at 0 x)) xs ys h.1

pub grown_then : (schema : Schema) (xs ys : List TableLayout) → grown schema (xs ++ ys) ≡ grown (grown schema xs) ys
grown_then schema [] ys = refl
grown_then schema (x ∷ xs) ys = grown_then (created schema (table_at 0 x)) xs ys
