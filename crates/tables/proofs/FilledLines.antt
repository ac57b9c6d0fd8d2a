-- The lines of an order of which all units are shipped, by one statement.
use Rattle.tables.proofs.Words.{◌≡◌, ℕ, Bool, true, false, ◌&&◌, not, List, [], ◌∷◌, drop, nat_le, inl, inr, refl, sym, ap, ap₂, ◌∙◌, bytes_eq, cases_Bool, true≢false, and_parts, arith, ints, nat_tests, int_cmp, Some, pos, negsuc, Text, Int, Value, Row, Has, rowid, column, bytes, id_in, is_true, from_truth, Binary, Compare, Le, Ge, is_null, State, Database, all_has, all-slice_get, are_typed, are_present, is_of, Constraint, Datatype, NotNull, passes_rule, schema_with, IsReady, Goes, Counts, is_word, is_number, is_count, counted, same_word, cast_all, cast_number, passes, show, value_cmp, value_cmp-Int, QTY_MAX, lines, lines_laws, lines_table, lines_fill_is, filled_tests, filled_columns, filled_line, lines_filled, FILL_LINES, None, is_gtin, is_name}
use Rattle.sqlite_sql.specs.Ops.{binary}
use Rattle.sqlite_schema.specs.declared.schema.Kind.TheVariants as kind
use Rattle.std.specs.Ordering.{is_ge, is_le}
use Rattle.tables.proofs.FilledRows.{fills_rows}

-- ---- the columns of a row that is stored

text_there : (v : Value) → is_of kind.Text v ≡ true → not (is_null v) ≡ true → v ≡ Text (bytes v)
text_there (Text t) of there = refl
text_there v of there = absurd cc

int_there : (v : Value) → is_of kind.Integer v ≡ true → not (is_null v) ≡ true → v ≡ Int (id_in v)
int_there (Int n) of there = refl
int_there v of there = absurd cc

record AreLineColumns (r : Row) : Type 0 where
  pub order : column r 1 ≡ Text (bytes (column r 1))
  pub gtin : column r 2 ≡ Text (bytes (column r 2))
  pub ordered : column r 3 ≡ Int (id_in (column r 3))
  pub shipped : column r 4 ≡ Int (id_in (column r 4))

four : (a b m n more : Bool) → (a && (b && (m && (n && more)))) ≡ true → (a ≡ true) × (b ≡ true) × (m ≡ true) × (n ≡ true)
four a b m n more h =
    let one = and_parts a (b && (m && (n && more))) h in
    let two = and_parts b (m && (n && more)) one.1 in
    let three = and_parts m (n && more) two.1 in
    (one.0, two.0, three.0, (and_parts n more three.1).0)

columns_of : (r : Row) → are_typed None 0 lines.layout.columns (drop 1 r) ≡ true → are_present None 0 lines.layout.columns r ≡ true → AreLineColumns r
columns_of [] typed present = absurd (true≢false (sym present))
columns_of (i ∷ []) typed present = absurd (true≢false (sym present))
columns_of (i ∷ a ∷ []) typed present = absurd (true≢false (sym (four (not (is_null a)) false false false true present).1))
columns_of (i ∷ a ∷ b ∷ []) typed present = absurd (true≢false (sym (four (not (is_null a)) (not (is_null b)) false false true present).2))
columns_of (i ∷ a ∷ b ∷ m ∷ []) typed present = absurd (true≢false (sym (four (not (is_null a)) (not (is_null b)) (not (is_null m)) false true present).3))
columns_of (i ∷ a ∷ b ∷ m ∷ n ∷ more) typed present =
    let of = four (is_of kind.Text a) (is_of kind.Text b) (is_of kind.Integer m) (is_of kind.Integer n) (are_typed None 4 [] more) typed in
    let has = four (not (is_null a)) (not (is_null b)) (not (is_null m)) (not (is_null n)) true present in
    record { order = text_there a of.0 has.0; gtin = text_there b of.1 has.1; ordered = int_there m of.2 has.2; shipped = int_there n of.3 has.3 }

are_columns : (db : Database) → IsReady db → (r : Row) → Has (db.trees lines_table.tree) r → AreLineColumns r
are_columns db ready r there =
    let schema = schema_with ready.has.rest in
    let kept : (rule : Constraint) → passes_rule rule schema db.trees lines_table r ≡ true = λ rule.
    all_has (λ row. passes_rule rule schema db.trees lines_table row ≡ true) (db.trees lines_table.tree) r
    (all-slice_get _ schema.tables 7 lines_table (lines_laws.placed ready.has.rest) (ready.sound.obeys.rules rule)) there in
    columns_of r (and_parts _ _ (kept Datatype)).0 (kept NotNull)

-- ---- the tests

truth_back : (b : Bool) → is_true (from_truth (Some b)) ≡ b
truth_back true = refl
truth_back false = refl

and_true_both : (a b : Bool) → a ≡ true → (a && (b && true)) ≡ b
and_true_both a true e = rw e refl
and_true_both a false e = rw e refl

not_below : (n : ℕ) → is_ge (int_cmp (pos n) (pos 0)) ≡ true
not_below n = grind (arith, ints, nat_tests)

not_above : (n limit : ℕ) → is_le (int_cmp (pos n) (pos limit)) ≡ nat_le n limit
not_above n limit = grind (arith, ints, nat_tests)

below : (n : ℕ) → is_ge (int_cmp (negsuc n) (pos 0)) ≡ false
below n = grind (arith, ints, nat_tests)

abbrev is_within : ℕ → Value → Bool
is_within limit v = is_true (binary (Compare Ge Binary) v (Int (pos 0))) && (is_true (binary (Compare Le Binary) v (Int (pos limit))) && true)

within : (limit : ℕ) (v : Value) → v ≡ Int (id_in v) → is_within limit v ≡ is_number limit v
unfolding binary
within limit (Int (pos n)) is =
    and_true_both _ _ (truth_back (is_ge (value_cmp (Int (pos n)) (Int (pos 0)))) ∙ ap is_ge (value_cmp-Int (pos n) (pos 0)) ∙ not_below n)
    ∙ truth_back (is_le (value_cmp (Int (pos n)) (Int (pos limit)))) ∙ ap is_le (value_cmp-Int (pos n) (pos limit)) ∙ not_above n limit
within limit (Int (negsuc n)) is =
    ap (λ b. b && (is_true (binary (Compare Le Binary) (Int (negsuc n)) (Int (pos limit))) && true)) (truth_back (is_ge (value_cmp (Int (negsuc n)) (Int (pos 0)))) ∙ ap is_ge (value_cmp-Int (negsuc n) (pos 0)) ∙ below n)
within limit v is = absurd cc

number_there : (limit : ℕ) (v : Value) → is_number limit v ≡ true → v ≡ Int (id_in v)
number_there limit (Int n) h = refl
number_there limit v h = absurd cc

module _ (name : List ℕ) where
  abbrev params : Row
  params = Text name ∷ Int (pos QTY_MAX) ∷ []

  passing : (r : Row) → lines.is r ≡ true → passes params filled_tests r ≡ bytes_eq name (lines.key (lines.reads r)).0
  passing r h =
      let order = and_parts _ _ h in
      let shipped = (and_parts _ _ (and_parts _ _ order.1).1).1 in
      ap₂ ◌&&◌ (same_word _ (column r 1) (Text name) name order.0 refl) (within QTY_MAX (column r 4) (number_there QTY_MAX (column r 4) shipped) ∙ shipped)
      ∙ all_of_it (bytes_eq name (bytes (column r 1)))
    where
      all_of_it : (b : Bool) → (b && true) ≡ b
      all_of_it true = refl
      all_of_it false = refl

  fits : (r : Row) → AreLineColumns r → cast_all lines.layout.columns (show params filled_columns r) ≡ show params filled_columns r
  fits r it = rw (it.order, it.gtin, it.ordered, cast_number (id_in (column r 3))) refl

  becomes : (r : Row) → AreLineColumns r → passes params filled_tests r ≡ true
      → (lines.is (rowid r ∷ show params filled_columns r) ≡ lines.is r) × (lines.is r ≡ true → lines.reads (rowid r ∷ show params filled_columns r) ≡ filled_line (lines.reads r))
  becomes r it e =
      let shipped : is_number QTY_MAX (column r 4) ≡ true = sym (within QTY_MAX (column r 4) it.shipped) ∙ (and_parts _ _ e).1 in (
        ap (λ b. is_word is_name (column r 1) && (is_word is_gtin (column r 2) && b)) (both shipped),
        λ h. refl,
      )
    where
      both : is_number QTY_MAX (column r 4) ≡ true → (is_count QTY_MAX (column r 3) && is_number QTY_MAX (column r 3)) ≡ (is_count QTY_MAX (column r 3) && is_number QTY_MAX (column r 4))
      both shipped = elim (cases_Bool (is_count QTY_MAX (column r 3))) [ inl c ↦ rw (c, counted QTY_MAX (column r 3) c, shipped) refl | inr c ↦ rw c refl ]

  pub fills_lines : (old new : State) (count : ℕ) → IsReady old.now → Counts count FILL_LINES.now params old new → Goes (lines_filled name) old new
  fills_lines old new count ready h =
      fills_rows lines lines_laws (λ k. bytes_eq name k.0) filled_line (λ x. refl) filled_tests filled_columns params passing FILL_LINES.now lines_fill_is old new count ready
      (λ r there e. fits r (are_columns old.now ready r there)) (λ r there. becomes r (are_columns old.now ready r there)) h
