-- From what a statement did to a table to what a call says.
use Rattle.std.specs.List.{flat_map}
use Rattle.std.specs.Prelude.{if◌then◌else◌}
use Rattle.table_words.proofs.Words.{◌≡◌, true≢false, inl, inr, ℕ, zero, suc, true, false, not, List, [], ◌∷◌, ◌++◌, slice_get, Some, subst, refl, sym, ap, ◌∙◌, arith, nat_eq, AllByRecursion, list_all, list_any, filter_map, cases_eq, eq-eqb, ne_eqb, and_parts, not-true, nat_tests, Row, State, Database, Trees, with_tree, Schema, Table, Enforced, works, work_for, IsSound, all_both, all-slice_get, none_from_any, the_tables, schema_with, is_nil, refers_to_none, HasTables, IsRows, Changed, no_two, Tables, tables_in, Rule, the_rules, Keeps, AreTyped, IsReady, Goes}

-- these tables alone
abbrev only : List Table → Trees → Trees
only [] trees tree = []
only (t ∷ ts) trees tree = if nat_eq t.tree tree then trees t.tree else only ts trees tree

only_same : (ts : List Table) (old new : Trees) → AllByRecursion (λ t. new t.tree ≡ old t.tree) ts → only ts new ≡ only ts old
only_same [] old new same = refl
only_same (t ∷ ts) old new same = λ i tree. if nat_eq t.tree tree then same.0 i else only_same ts old new same.1 i tree

pub tables_same : (old new : Trees) → AllByRecursion (λ t. new t.tree ≡ old t.tree) the_tables → tables_in new ≡ tables_in old
tables_same old new same = ap (λ trees. tables_in trees) (only_same the_tables old new same)

pub typed_same : (old new : Trees) → AllByRecursion (λ t. new t.tree ≡ old t.tree) the_tables → AreTyped old → AreTyped new
typed_same old new same h = record {
  each = all_both (Keeps old) (λ t. new t.tree ≡ old t.tree) (Keeps new) (λ t kept is. subst (AllByRecursion (λ r. t.is r ≡ true)) (sym is) kept) the_rules h.each same;
}

-- the rows of one table are typed, where all are
pub typed_at : (place : ℕ) (rule : Rule) → slice_get the_rules place ≡ Some rule → (trees : Trees) → AreTyped trees → Keeps trees rule
typed_at place rule at trees are = all-slice_get (Keeps trees) the_rules place rule at are.each

-- typed rows in the place of those of one table
module _ (trees : Trees) (rule : Rule) (rows : List Row) (typed : AllByRecursion (λ r. rule.is r ≡ true) rows) where
  abbrev after : Trees
  after = with_tree trees rule.tree rows

  other : (t : Rule) → Keeps trees t → nat_eq rule.tree t.tree ≡ false → Keeps after t
  other t kept apart = rw (ne_eqb t.tree rule.tree (λ e. true≢false (sym (eq-eqb rule.tree t.tree (sym e)) ∙ apart))) kept

  in_place : (rules : List Rule) (place : ℕ) → slice_get rules place ≡ Some rule → no_two (λ a b. nat_eq a.tree b.tree) rules ≡ true → AllByRecursion (Keeps trees) rules → AllByRecursion (Keeps after) rules
  in_place [] place at apart kept = tt
  in_place (t ∷ rules) zero at apart kept =
      let same : t ≡ rule = cc in
      let two = and_parts _ _ apart in
      let none = none_from_any (λ b. nat_eq rule.tree b.tree) rules (not-true _ (subst (λ (a : Rule). not (list_any (λ b. nat_eq a.tree b.tree) rules) ≡ true) same two.0)) in
      (subst (Keeps after) (sym same) (rw (eq-eqb rule.tree rule.tree refl) typed), all_both (Keeps trees) (λ b. nat_eq rule.tree b.tree ≡ false) (Keeps after) other rules kept.1 none)
  in_place (t ∷ rules) (suc place) at apart kept =
      let two = and_parts _ _ apart in
      let away : nat_eq t.tree rule.tree ≡ false = all-slice_get (λ b. nat_eq t.tree b.tree ≡ false) rules place rule at (none_from_any (λ b. nat_eq t.tree b.tree) rules (not-true _ two.0)) in
      (other t kept.0 (turned t.tree rule.tree away), in_place rules place at two.1 kept.1)
    where
      turned : (a b : ℕ) → nat_eq a b ≡ false → nat_eq b a ≡ false
      turned a b h = grind (arith, nat_tests)

  pub typed_put : (place : ℕ) → slice_get the_rules place ≡ Some rule → AreTyped trees → AreTyped after
  typed_put place at are = record { each = in_place the_rules place at refl are.each }

-- what is so of all tables is so of the first ones
pub front : {X : Type 0} (P : X → Type 0) (xs ys : List X) → AllByRecursion P (xs ++ ys) → AllByRecursion P xs
front P [] ys h = tt
front P (x ∷ xs) ys h = (h.0, front P xs ys h.1)

abbrev has_still : {old new : Schema} (has : HasTables old) → new ≡ schema_with has.rest → HasTables new
has_still has is = record { rest = has.rest; is = is; apart = has.apart; harmless = has.harmless }

nil_is : {X : Type 0} (xs : List X) → is_nil xs ≡ true → xs ≡ []
nil_is [] h = refl
nil_is (x ∷ xs) h = absurd (true≢false (sym h))

-- what refers to no table sets off nothing
pub sets_off_nothing : (rest : Schema) (tree : ℕ) (olds news : List Row) → list_all refers_to_none rest.tables ≡ true → works (schema_with rest) Enforced 0 tree olds news ≡ []
sets_off_nothing rest tree olds news apart = none_of rest.tables apart
  where
    none_of : (tables : List Table) → list_all refers_to_none tables ≡ true → flat_map (λ child. filter_map (work_for (schema_with rest) Enforced 0 tree olds news child) child.references) tables ≡ []
    none_of [] h = refl
    none_of (t ∷ tables) h = let both = and_parts _ _ h in rw (nil_is t.references both.0) (none_of tables both.1)

pub ready_after : (old new : Database) (tree : ℕ) (rows : List Row) → (ready : IsReady old) → IsRows rows → Changed (schema_with ready.has.rest) tree rows old new → IsReady new
ready_after old new tree rows ready good c = record {
  has = has_still ready.has c.schema_is;
  rows = all_both _ (λ t. new.trees t.tree ≡ with_tree old.trees tree rows t.tree) (λ t. IsRows (new.trees t.tree))
      (λ t kept is. rw is (elim (cases_eq t.tree tree) [ inl e ↦ rw (eq-eqb t.tree tree e) good | inr ne ↦ rw (ne_eqb t.tree tree ne) kept ])) the_tables ready.rows (front _ the_tables _ c.trees_are);
  sound = subst (λ s. IsSound s new.trees) c.schema_is c.sound;
}

pub goes : (old new : State) (tree : ℕ) (rows : List Row) (to : Tables → Tables) → (ready : IsReady old.now) → IsRows rows → Changed (schema_with ready.has.rest) tree rows old.now new.now → new.in_transaction ≡ old.in_transaction
    → tables_in (with_tree old.now.trees tree rows) ≡ to (tables_in old.now.trees) → (AreTyped old.now.trees → AreTyped (with_tree old.now.trees tree rows)) → Goes to old new
goes old new tree rows to ready good c mode tables typed = record {
  ready = ready_after old.now new.now tree rows ready good c;
  tables = tables_same (with_tree old.now.trees tree rows) new.now.trees (front _ the_tables _ c.trees_are) ∙ tables;
  mode = mode;
  typed = λ h. typed_same (with_tree old.now.trees tree rows) new.now.trees (front _ the_tables _ c.trees_are) (typed h);
}
