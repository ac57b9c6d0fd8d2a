-- The table `least`.
use Rattle.std.specs.Prelude.{◌≡◌, ◌∷◌}
use Rattle.tables.specs.Words.{ℕ, Bool, true, nat_lt, List, [], codes, refl, ◌∙◌, pos, and_parts, Value, Int, Text, Binary, Row, column, Compare, Gt, binary, is_true, is_gtin, LEAST_DAYS_MAX, Tables, LeastRow, CHANGE_LEAST, ADD_LEAST, LEAST_OF, ASKING_LEAST, AreRows, only_if, is_stored_row, stored_row, one, text_stored, least_table, least_mapping, same_item, least_key, same, by_rowid, passes, in_order, cast_number, cast_null, and_true, same_bytes, itself_bytes, Asking, Described, IsLawful, Change, ChangeIs, IsChange, Query, QueryIs, IsSought, key_found, Asks, by_text, AreSought, IsText, IsAsked, planned, whole_change, above, above_count, one_keyed, rows_of, found_by_test}
use Rattle.sqlite.specs.Listing.{understood}
use Rattle.sqlite_tied.specs.Compute.{everything}

-- what the table is
abbrev pub least : Described LeastRow (List ℕ)
least = planned least_mapping (record {
  place = 14;
  tree = least_table.tree;
  name = codes "least";
  columns = least_table.columns;
  key = least_key;
  same = same_item;
  key_cells = λ gtin. Text gtin ∷ [];
  key_places = 1 ∷ [];
  look = λ t gtin. t.least gtin;
  set = λ f t. record t { least = f };
  add = ADD_LEAST.now;
})

-- the statement that changes a row
abbrev pub change_least : Change LeastRow
change_least = whole_change least CHANGE_LEAST.now

-- those of a gtin
abbrev pub least_of : Asks (List ℕ) (List ℕ)
least_of = by_text LEAST_OF.now 1 (λ k. k)

abbrev pub AreLeastOf : List ℕ → Tables → List LeastRow → Type 0
AreLeastOf = AreSought least least_of

-- the item asks for some days
abbrev pub is_asking : LeastRow → Bool
is_asking s = nat_lt 0 s.days

-- whether the value is above 0, as the database compares them
abbrev pub is_above_0 : Value → Bool
is_above_0 v = is_true (binary (Compare Gt Binary) v (Int (pos 0)))

-- those of the items that ask for some
abbrev pub asking : Query LeastRow (List ℕ) Asking
asking = record {
  may = λ by. true;
  text = ASKING_LEAST.now;
  params = λ by. Int (pos 0) ∷ [];
  tests = above 2 0 ∷ [];
  order = by_rowid;
  wanted = λ by s. is_asking s;
  stored = λ by r. is_above_0 (column r 2);
}

abbrev pub AreAsking : Asking → Tables → List LeastRow → Type 0
AreAsking by t rows = AreRows {K = List ℕ} same_item least_key (λ k. true) (λ k. only_if is_asking (t.least k)) rows

-- ---- what holds of them

gtin_text : IsText least 1 (λ k. k)
gtin_text = record { rule = is_gtin; has = λ r h. (and_parts _ _ h).0; reads = λ r. refl }

change_is : ChangeIs least change_least
unfolding understood everything
change_is rest = (refl, (refl, refl))

pub least_laws : IsLawful least
unfolding understood everything
least_laws = record {
  placed_first = refl;
  placed = λ rest. refl;
  itself = itself_bytes;
  one_key = same_bytes;
  one_row = λ db ready params. one_keyed db ready 14 least_table.tree (codes "least") least_table.columns (1 ∷ []) refl refl params;
  at_key = key_found least least_of.columns (gtin_text, tt);
  own_key = λ s r. refl;
  looks = λ trees. refl;
  sets = λ trees rows. refl;
  same_set = λ t. refl;
  ruled = refl;
  has_shown = λ params r. refl;
  seen_shown = λ params r. refl;
  add_is = λ rest. (refl, (refl, refl));
  added = λ s. refl;
  casts = λ s. rw (cast_null, cast_number (pos s.days)) refl;
  comes = λ s rows sound. (refl, (sound, refl));
}

pub change_least_laws : IsChange least change_least
change_least_laws = record {
  is = change_is;
  changed = λ s r. refl;
  casts = λ s. rw (cast_number (pos s.days)) refl;
  becomes = λ s r sound int own. (sound, refl);
}

pub least_of_laws : IsAsked (one (text_stored is_gtin)) 1 least least_of
unfolding understood everything
least_of_laws = record { few = refl; fits = λ by. refl; cells = λ by. refl; is = λ rest. (refl, refl, (refl, refl)); texts = (gtin_text, tt) }

asking_is : QueryIs least asking
unfolding understood everything
asking_is rest = (refl, refl, (refl, refl))

asking_at : (by : Asking) (r : Row) → is_stored_row least_mapping r ≡ true → passes (asking.params by) asking.tests r ≡ is_asking (stored_row least_mapping r)
asking_at by r h = and_true _ ∙ above_count LEAST_DAYS_MAX (column r 2) 0 (and_parts _ _ h).1

pub asking_laws : IsSought least asking AreAsking
asking_laws = record {
  is = asking_is;
  at = asking_at;
  at_stored = λ by r int. and_true _;
  ordered = λ db ready by rows a. in_order db.trees (asking.params by) least_table.tree asking.tests least.shown rows (rows_of least least_laws db ready).0 a;
  finds = λ db ready by xs are. found_by_test least least_laws is_asking db ready xs are;
}
