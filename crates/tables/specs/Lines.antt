-- The table `lines`.
use Rattle.std.specs.Prelude.{◌∷◌, if◌then◌else◌, option_map}
use Rattle.tables.specs.Words.{ℕ, bytes_eq, List, [], codes, refl, pos, and_parts, Text, Int, Binary, Compare, Le, Ge, Term, col, lit, op2, same, is_gtin, is_name, Tables, LineRow, ADD_LINE, CHANGE_LINE, FILL_LINES, LINES_OF_ORDER, LINE_OF, one, pair, text_stored, lines_table, LineKey, same_line, line_key, line_mapping, cast_number, cast_null, same_both, same_bytes, itself_both, itself_bytes, Described, IsLawful, Change, ChangeIs, IsChange, key_found, Asks, of_key, by_text, by_key, AreSought, IsText, IsAsked, planned, whole_change, one_keyed}
use Rattle.sqlite.specs.Listing.{understood}
use Rattle.sqlite_tied.specs.Compute.{everything}
use Rattle.tables.specs.Filling.{FillsBy}

-- what the table is
abbrev pub lines : Described LineRow LineKey
lines = planned line_mapping (record {
  place = 7;
  tree = lines_table.tree;
  name = codes "lines";
  columns = lines_table.columns;
  key = line_key;
  same = same_line;
  key_cells = λ k. Text k.0 ∷ Text k.1 ∷ [];
  key_places = 1 ∷ 2 ∷ [];
  look = λ t k. t.line k.0 k.1;
  set = λ f t. record t { line = λ a b. f (a, b) };
  add = ADD_LINE.now;
})

-- the statement that changes a row
abbrev pub change_line : Change LineRow
change_line = whole_change lines CHANGE_LINE.now

-- those of an order
abbrev pub lines_of_order : Asks LineKey (List ℕ)
lines_of_order = by_text LINES_OF_ORDER.now 1 (λ k. k.0)

abbrev pub AreLinesOfOrder : List ℕ → Tables → List LineRow → Type 0
AreLinesOfOrder = AreSought lines lines_of_order

-- that of an order and a gtin
abbrev pub line_of : Asks LineKey LineKey
line_of = by_key LINE_OF.now (of_key 1 (λ k. k.0) ∷ of_key 2 (λ k. k.1) ∷ [])

abbrev pub AreLineOf : LineKey → Tables → List LineRow → Type 0
AreLineOf = AreSought lines line_of

-- those of an order whose shipped units are none that a line cannot have
abbrev pub filled_tests : List Term
filled_tests = same 1 0 ∷ op2 (Compare Ge Binary) (col 1 4) (lit (Int (pos 0))) ∷ op2 (Compare Le Binary) (col 1 4) (col 0 1) ∷ []

-- as many are shipped as were ordered
abbrev pub filled_columns : List Term
filled_columns = col 1 1 ∷ col 1 2 ∷ col 1 3 ∷ col 1 3 ∷ []

-- a line of which all units are shipped
abbrev pub filled_line : LineRow → LineRow
filled_line line = record line { shipped = line.ordered }

-- all units of each line of an order are shipped
abbrev pub lines_filled : List ℕ → Tables → Tables
lines_filled name t = record t { line = λ at_order gtin. if bytes_eq name at_order then option_map filled_line (t.line at_order gtin) else t.line at_order gtin }

-- ---- what holds of them

order_text : IsText lines 1 (λ k. k.0)
order_text = record { rule = is_name; has = λ r h. (and_parts _ _ h).0; reads = λ r. refl }

gtin_text : IsText lines 2 (λ k. k.1)
gtin_text = record { rule = is_gtin; has = λ r h. (and_parts _ _ (and_parts _ _ h).1).0; reads = λ r. refl }

pub lines_laws : IsLawful lines
unfolding understood everything
lines_laws = record {
  placed_first = refl;
  placed = λ rest. refl;
  itself = λ k. itself_both _ _ (itself_bytes k.0) (itself_bytes k.1);
  one_key = same_both bytes_eq bytes_eq same_bytes same_bytes;
  one_row = λ db ready params. one_keyed db ready 7 lines_table.tree (codes "lines") lines_table.columns (1 ∷ 2 ∷ []) refl refl params;
  at_key = key_found lines line_of.columns (order_text, (gtin_text, tt));
  own_key = λ s r. refl;
  looks = λ trees. refl;
  sets = λ trees rows. refl;
  same_set = λ t. refl;
  ruled = refl;
  has_shown = λ params r. refl;
  seen_shown = λ params r. refl;
  add_is = λ rest. (refl, (refl, refl));
  added = λ s. refl;
  casts = λ s. rw (cast_null, cast_number (pos s.ordered), cast_number (pos s.shipped)) refl;
  comes = λ s rows sound. (refl, (sound, refl));
}

change_is : ChangeIs lines change_line
unfolding understood everything
change_is rest = (refl, (refl, refl))

pub change_line_laws : IsChange lines change_line
change_line_laws = record {
  is = change_is;
  changed = λ s r. refl;
  casts = λ s. rw (cast_number (pos s.ordered), cast_number (pos s.shipped)) refl;
  becomes = λ s r sound int own. (sound, refl);
}

pub lines_of_order_laws : IsAsked (one (text_stored is_name)) 1 lines lines_of_order
unfolding understood everything
lines_of_order_laws = record { few = refl; fits = λ by. refl; cells = λ by. refl; is = λ rest. (refl, refl, (refl, refl)); texts = (order_text, tt) }

pub line_of_laws : IsAsked (pair (text_stored is_name) (one (text_stored is_gtin))) 2 lines line_of
unfolding understood everything
line_of_laws = record { few = refl; fits = λ by. refl; cells = λ by. refl; is = λ rest. (refl, refl, (refl, refl)); texts = (order_text, (gtin_text, tt)) }

pub lines_fill_is : FillsBy lines filled_tests filled_columns FILL_LINES.now
unfolding understood everything
lines_fill_is rest = (refl, (refl, refl))
