-- The table `lots`.
use Rattle.std.specs.Prelude.{◌≡◌, ◌∷◌}
use Rattle.tables.specs.Words.{ℕ, List, [], codes, refl, ap, pos, and_parts, Value, Text, Chosen, rowid, with_rowid, is_gtin, is_lot_text, LotId, Tables, LotRow, ADD_LOT, CHANGE_LOT, LOTS_OF, LOT_OF, ALL_LOTS, flag_number, stored_row, one, none, lot_columns, text_stored, lots_table, lot_mapping, same_lot, lot_key, cast_number, cast_null, same_lots, itself_lot, flag_back, All, Described, IsLawful, Change, ChangeIs, IsChange, key_found, Asks, for_all, by_text, by_lot, AreSought, IsText, IsAsked, planned, whole_change, one_keyed}
use Rattle.sqlite.specs.Listing.{understood}
use Rattle.sqlite_tied.specs.Compute.{everything}

-- what the table is
abbrev pub lots : Described LotRow LotId
lots = planned lot_mapping (record {
  place = 3;
  tree = lots_table.tree;
  name = codes "lots";
  columns = lots_table.columns;
  key = lot_key;
  same = same_lot;
  key_cells = λ k. Text k.gtin ∷ Text k.lot ∷ [];
  key_places = 1 ∷ 2 ∷ [];
  look = λ t k. t.lot k;
  set = λ f t. record t { lot = f };
  add = ADD_LOT.now;
})

-- the statement that changes a row
abbrev pub change_lot : Change LotRow
change_lot = whole_change lots CHANGE_LOT.now

-- those of a gtin
abbrev pub lots_of : Asks LotId (List ℕ)
lots_of = by_text LOTS_OF.now 1 (λ k. k.gtin)

abbrev pub AreLotsOf : List ℕ → Tables → List LotRow → Type 0
AreLotsOf = AreSought lots lots_of

-- that of a lot
abbrev pub lot_of : Asks LotId LotId
lot_of = by_lot LOT_OF.now 1 (λ k. k)

abbrev pub AreLotOf : LotId → Tables → List LotRow → Type 0
AreLotOf = AreSought lots lot_of

-- all of them
abbrev pub all_lots : Asks LotId All
all_lots = for_all ALL_LOTS.now

-- ---- what holds of them

gtin_text : IsText lots 1 (λ k. k.gtin)
gtin_text = record { rule = is_gtin; has = λ r h. (and_parts _ _ h).0; reads = λ r. refl }

lot_text : IsText lots 2 (λ k. k.lot)
lot_text = record { rule = is_lot_text; has = λ r h. (and_parts _ _ (and_parts _ _ h).1).0; reads = λ r. refl }

-- what is written reads as the row
back : (id : Value) (s : LotRow) → stored_row lot_mapping (id ∷ lots.cells s) ≡ s
back id s = ap (λ x. let r : LotRow = record { lot = record { gtin = s.lot.gtin; lot = s.lot.lot }; expiry = s.expiry; came = s.came; held = x } in r) (flag_back s.held)

pub lots_laws : IsLawful lots
unfolding understood everything
lots_laws = record {
  placed_first = refl;
  placed = λ rest. refl;
  itself = itself_lot;
  one_key = same_lots;
  one_row = λ db ready params. one_keyed db ready 3 lots_table.tree (codes "lots") lots_table.columns (1 ∷ 2 ∷ []) refl refl params;
  at_key = key_found lots lot_of.columns (gtin_text, (lot_text, tt));
  own_key = λ s r. refl;
  looks = λ trees. refl;
  sets = λ trees rows. refl;
  same_set = λ t. refl;
  ruled = refl;
  has_shown = λ params r. refl;
  seen_shown = λ params r. refl;
  add_is = λ rest. (refl, (refl, refl));
  added = λ s. refl;
  casts = λ s. rw (cast_null, cast_number s.expiry, cast_number (pos s.came), cast_number (pos (flag_number s.held))) refl;
  comes = λ s rows sound. (refl, (sound, back (rowid (with_rowid Chosen rows (lots.source s))) s));
}

change_is : ChangeIs lots change_lot
unfolding understood everything
change_is rest = (refl, (refl, refl))

pub change_lot_laws : IsChange lots change_lot
change_lot_laws = record {
  is = change_is;
  changed = λ s r. refl;
  casts = λ s. rw (cast_number s.expiry, cast_number (pos s.came), cast_number (pos (flag_number s.held))) refl;
  becomes = λ s r sound int own. (sound, back (rowid r) s);
}

pub lots_of_laws : IsAsked (one (text_stored is_gtin)) 1 lots lots_of
unfolding understood everything
lots_of_laws = record { few = refl; fits = λ by. refl; cells = λ by. refl; is = λ rest. (refl, refl, (refl, refl)); texts = (gtin_text, tt) }

pub lot_of_laws : IsAsked lot_columns 2 lots lot_of
unfolding understood everything
lot_of_laws = record { few = refl; fits = λ by. refl; cells = λ by. refl; is = λ rest. (refl, refl, (refl, refl)); texts = (gtin_text, (lot_text, tt)) }

pub all_lots_laws : IsAsked (none (record {})) 0 lots all_lots
unfolding understood everything
all_lots_laws = record { few = refl; fits = λ by. refl; cells = λ by. refl; is = λ rest. (refl, refl, (refl, refl)); texts = tt }
