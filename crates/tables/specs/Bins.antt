-- The table `bins`.
use Rattle.std.specs.Prelude.{◌≡◌, ◌∷◌}
use Rattle.tables.specs.Words.{ℕ, List, [], codes, refl, ap, and_parts, Value, Text, Chosen, rowid, with_rowid, is_name, Tables, BinRow, ADD_BIN, BINS_OF, ALL_BINS, stored_row, one, none, text_stored, bins_table, bin_mapping, same_bin, bin_key, cast_null, bin_kind_back, same_bytes, itself_bytes, All, Described, IsLawful, key_found, Asks, for_all, by_text, AreSought, IsText, IsAsked, planned, one_keyed}
use Rattle.sqlite.specs.Listing.{understood}
use Rattle.sqlite_tied.specs.Compute.{everything}

-- what the table is
abbrev pub bins : Described BinRow (List ℕ)
bins = planned bin_mapping (record {
  place = 2;
  tree = bins_table.tree;
  name = codes "bins";
  columns = bins_table.columns;
  key = bin_key;
  same = same_bin;
  key_cells = λ k. Text k ∷ [];
  key_places = 1 ∷ [];
  look = λ t k. t.bin k;
  set = λ f t. record t { bin = f };
  add = ADD_BIN.now;
})

-- those of a name
abbrev pub bins_of : Asks (List ℕ) (List ℕ)
bins_of = by_text BINS_OF.now 1 (λ k. k)

abbrev pub AreBinsOf : List ℕ → Tables → List BinRow → Type 0
AreBinsOf = AreSought bins bins_of

-- all of them
abbrev pub all_bins : Asks (List ℕ) All
all_bins = for_all ALL_BINS.now

-- ---- what holds of them

name_text : IsText bins 1 (λ k. k)
name_text = record { rule = is_name; has = λ r h. (and_parts _ _ h).0; reads = λ r. refl }

-- what is written reads as the row
back : (id : Value) (s : BinRow) → stored_row bin_mapping (id ∷ bins.cells s) ≡ s
back id s = ap (λ x. let r : BinRow = record { name = s.name; kind = x } in r) (bin_kind_back s.kind)

pub bins_laws : IsLawful bins
unfolding understood everything
bins_laws = record {
  placed_first = refl;
  placed = λ rest. refl;
  itself = itself_bytes;
  one_key = same_bytes;
  one_row = λ db ready params. one_keyed db ready 2 bins_table.tree (codes "bins") bins_table.columns (1 ∷ []) refl refl params;
  at_key = key_found bins bins_of.columns (name_text, tt);
  own_key = λ s r. refl;
  looks = λ trees. refl;
  sets = λ trees rows. refl;
  same_set = λ t. refl;
  ruled = refl;
  has_shown = λ params r. refl;
  seen_shown = λ params r. refl;
  add_is = λ rest. (refl, (refl, refl));
  added = λ s. refl;
  casts = λ s. rw cast_null refl;
  comes = λ s rows sound. (refl, (sound, back (rowid (with_rowid Chosen rows (bins.source s))) s));
}

pub bins_of_laws : IsAsked (one (text_stored is_name)) 1 bins bins_of
unfolding understood everything
bins_of_laws = record { few = refl; fits = λ by. refl; cells = λ by. refl; is = λ rest. (refl, refl, (refl, refl)); texts = (name_text, tt) }

pub all_bins_laws : IsAsked (none (record {})) 0 bins all_bins
unfolding understood everything
all_bins_laws = record { few = refl; fits = λ by. refl; cells = λ by. refl; is = λ rest. (refl, refl, (refl, refl)); texts = tt }
