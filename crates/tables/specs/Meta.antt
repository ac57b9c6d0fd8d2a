-- The table `meta`.
use Rattle.std.specs.Prelude.{◌≡◌, ◌&&◌, ◌∷◌}
use Rattle.tables.specs.Words.{Bool, true, nat_le, [], codes, refl, sym, subst, ◌∙◌, pos, and_parts, Null, Int, Text, Row, column, lit, col, rowid, is_int, MetaRow, ACTS_MAX, SCHEMA_VERSION, ADD_META, CHANGE_META, meta_table, is_meta, meta_in, has_meta, meta_read, meta_cells, same, passes, cast_number, cast_null, and_true, same_the_number, id_is, one_by_rowid, Described, IsLawful, Change, ChangeIs, IsChange, Stores, sound, by_id}
use Rattle.sqlite.specs.Listing.{understood}
use Rattle.sqlite_tied.specs.Compute.{everything}

-- its numbers are within their limits
abbrev pub fits_meta : MetaRow → Bool
fits_meta s = nat_le s.acts ACTS_MAX && nat_le s.shipments ACTS_MAX

-- what the table is: there is one row at most, whose id is 1
abbrev pub meta : Described MetaRow (Unit {0})
meta = record {
  place = 0;
  layout = by_id meta_table.tree (codes "meta") meta_table.columns;
  is = is_meta;
  reads = meta_in;
  shown = col 1 0 ∷ col 1 2 ∷ col 1 3 ∷ col 1 4 ∷ col 1 5 ∷ col 1 6 ∷ [];
  has = has_meta SCHEMA_VERSION;
  seen = meta_read;
  key = λ s. tt;
  same = λ a b. true;
  cells = meta_cells SCHEMA_VERSION;
  key_cells = λ k. Int (pos 1) ∷ [];
  fits = fits_meta;
  look = λ t k. t.meta;
  set = λ f t. record t { meta = f tt };
  tests = same 0 0 ∷ [];
  add = ADD_META.now;
  add_terms = col 0 0 ∷ lit Null ∷ col 0 1 ∷ col 0 2 ∷ col 0 3 ∷ col 0 4 ∷ col 0 5 ∷ [];
  source = λ s. Int (pos 1) ∷ Null ∷ Text (codes "LOTSTOCK") ∷ Int (pos SCHEMA_VERSION) ∷ Int s.day ∷ Int (pos s.acts) ∷ Int (pos s.shipments) ∷ [];
}

-- the statement that changes a row
abbrev pub change_meta : Change MetaRow
change_meta = record {
  text = CHANGE_META.now;
  terms = lit Null ∷ col 0 1 ∷ col 0 2 ∷ col 0 3 ∷ col 0 4 ∷ col 0 5 ∷ [];
  values = λ s. Null ∷ Text (codes "LOTSTOCK") ∷ Int (pos SCHEMA_VERSION) ∷ Int s.day ∷ Int (pos s.acts) ∷ Int (pos s.shipments) ∷ [];
}

-- ---- what holds of them

change_is : ChangeIs meta change_meta
unfolding understood everything
change_is rest = (refl, (refl, refl))

-- the row with the id has it for its rowid
becomes : (s : MetaRow) (r : Row) → sound meta s ≡ true → is_int (rowid r) ≡ true → passes (meta.cells s) meta.tests r ≡ true → Stores meta s (rowid r ∷ change_meta.values s)
becomes s r good int own =
    subst (λ v. Stores meta s (v ∷ change_meta.values s)) (sym (id_is (rowid r) (pos 1) int (and_parts _ _ own).0)) (good, refl)

pub meta_laws : IsLawful meta
unfolding understood everything
meta_laws = record {
  placed_first = refl;
  placed = λ rest. refl;
  itself = λ k. refl;
  one_key = λ a b h. refl;
  one_row = λ db ready params. one_by_rowid (db.trees meta_table.tree) params;
  at_key = λ k r h. and_true _ ∙ same_the_number 1 (column r 0) (Int (pos 1)) 1 (and_parts _ _ h).0 refl;
  own_key = λ s r. refl;
  looks = λ trees. refl;
  sets = λ trees rows. refl;
  same_set = λ t. refl;
  ruled = refl;
  has_shown = λ params r. refl;
  seen_shown = λ params r. refl;
  add_is = λ rest. (refl, (refl, refl));
  added = λ s. refl;
  casts = λ s. rw (cast_null, cast_number (pos 1), cast_number (pos SCHEMA_VERSION), cast_number s.day, cast_number (pos s.acts), cast_number (pos s.shipments)) refl;
  comes = λ s rows good. (refl, (good, refl));
}

pub change_meta_laws : IsChange meta change_meta
change_meta_laws = record {
  is = change_is;
  changed = λ s r. refl;
  casts = λ s. rw (cast_null, cast_number (pos SCHEMA_VERSION), cast_number s.day, cast_number (pos s.acts), cast_number (pos s.shipments)) refl;
  becomes = becomes;
}
