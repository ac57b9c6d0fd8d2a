-- The table `shiplines`.
use Rattle.std.specs.Prelude.{◌&&◌, ◌∷◌}
use Rattle.tables.specs.Words.{nat_eq, [], codes, refl, ap₂, ◌∙◌, pos, and_parts, Int, Text, column, is_gtin, is_lot_text, ShiplineRow, ACTS_MAX, ADD_SHIPLINE, shiplines_table, same_lot_id, ShiplineKey, same_shipline, shipline_key, shipline_mapping, cast_number, cast_null, and_true, same_word, same_count, same_number, itself_number, same_lots, itself_lot, same_both, itself_both, Described, IsLawful, planned, one_keyed}
use Rattle.sqlite.specs.Listing.{understood}
use Rattle.sqlite_tied.specs.Compute.{everything}

-- what the table is
abbrev pub shiplines : Described ShiplineRow ShiplineKey
shiplines = planned shipline_mapping (record {
  place = 11;
  tree = shiplines_table.tree;
  name = codes "shiplines";
  columns = shiplines_table.columns;
  key = shipline_key;
  same = same_shipline;
  key_cells = λ k. Int (pos k.0) ∷ Text k.1.gtin ∷ Text k.1.lot ∷ [];
  key_places = 1 ∷ 2 ∷ 3 ∷ [];
  look = λ t k. t.shipline k.0 k.1;
  set = λ f t. record t { shipline = λ a b. f (a, b) };
  add = ADD_SHIPLINE.now;
})

-- ---- what holds of them

pub shiplines_laws : IsLawful shiplines
unfolding understood everything
shiplines_laws = record {
  placed_first = refl;
  placed = λ rest. refl;
  itself = λ k. itself_both _ _ (itself_number k.0) (itself_lot k.1);
  one_key = same_both nat_eq same_lot_id same_number same_lots;
  one_row = λ db ready params. one_keyed db ready 11 shiplines_table.tree (codes "shiplines") shiplines_table.columns (1 ∷ 2 ∷ 3 ∷ []) refl refl params;
  at_key = λ k r h.
      let p0 = and_parts _ _ h in
      let p1 = and_parts _ _ p0.1 in
      let p2 = and_parts _ _ p1.1 in
      ap₂ ◌&&◌ (same_count ACTS_MAX (column r 1) (Int (pos k.0)) k.0 p0.0 refl) (ap₂ ◌&&◌ (same_word is_gtin (column r 2) (Text k.1.gtin) k.1.gtin p1.0 refl) (and_true _ ∙ same_word is_lot_text (column r 3) (Text k.1.lot) k.1.lot p2.0 refl));
  own_key = λ s r. refl;
  looks = λ trees. refl;
  sets = λ trees rows. refl;
  same_set = λ t. refl;
  ruled = refl;
  has_shown = λ params r. refl;
  seen_shown = λ params r. refl;
  add_is = λ rest. (refl, (refl, refl));
  added = λ s. refl;
  casts = λ s. rw (cast_null, cast_number (pos s.number), cast_number (pos s.qty)) refl;
  comes = λ s rows sound. (refl, (sound, refl));
}
