-- The table `reserved`.
use Rattle.std.specs.Prelude.{◌∷◌}
use Rattle.tables.specs.Words.{ℕ, bytes_eq, List, [], codes, refl, pos, and_parts, Text, is_gtin, is_lot_text, is_name, Tables, ReservedRow, ADD_RESERVED, CHANGE_RESERVED, RESERVED_OF_ITEM, RESERVED_OF_ORDER, ALL_RESERVED, DROP_RESERVED, one, none, text_stored, reserved_table, same_lot_id, ReservedKey, same_reserved, reserved_key, reserved_mapping, cast_number, cast_null, same_lots, itself_lot, same_both, same_bytes, itself_both, itself_bytes, All, Described, IsLawful, Change, ChangeIs, IsChange, DropIs, key_found, Asks, Compared, of_key, for_all, by_text, AreRows, AreSought, IsText, IsAsked, planned, whole_change, one_keyed}
use Rattle.sqlite.specs.Listing.{understood}
use Rattle.sqlite_tied.specs.Compute.{everything}

-- what the table is
abbrev pub reserved : Described ReservedRow ReservedKey
reserved = planned reserved_mapping (record {
  place = 9;
  tree = reserved_table.tree;
  name = codes "reserved";
  columns = reserved_table.columns;
  key = reserved_key;
  same = same_reserved;
  key_cells = λ k. Text k.0 ∷ Text k.1.gtin ∷ Text k.1.lot ∷ [];
  key_places = 1 ∷ 2 ∷ 3 ∷ [];
  look = λ t k. t.reserved k.0 k.1;
  set = λ f t. record t { reserved = λ a b. f (a, b) };
  add = ADD_RESERVED.now;
})

-- the statement that changes a row
abbrev pub change_reserved : Change ReservedRow
change_reserved = whole_change reserved CHANGE_RESERVED.now

-- those of a gtin
abbrev pub reserved_of_item : Asks ReservedKey (List ℕ)
reserved_of_item = by_text RESERVED_OF_ITEM.now 2 (λ k. k.1.gtin)

abbrev pub AreReservedOfItem : List ℕ → Tables → List ReservedRow → Type 0
AreReservedOfItem = AreSought reserved reserved_of_item

-- those of an order
abbrev pub reserved_of_order : Asks ReservedKey (List ℕ)
reserved_of_order = by_text RESERVED_OF_ORDER.now 1 (λ k. k.0)

abbrev pub AreReservedOfOrder : List ℕ → Tables → List ReservedRow → Type 0
AreReservedOfOrder = AreSought reserved reserved_of_order

-- that of an order and a lot; no statement asks for it
abbrev pub key_columns : List (Compared ReservedKey ReservedKey)
key_columns = of_key 1 (λ k. k.0) ∷ of_key 2 (λ k. k.1.gtin) ∷ of_key 3 (λ k. k.1.lot) ∷ []

abbrev pub AreReservedOf : ReservedKey → Tables → List ReservedRow → Type 0
AreReservedOf k t rows = AreRows same_reserved reserved_key (same_reserved k) (λ at. t.reserved at.0 at.1) rows

-- all of them
abbrev pub all_reserved : Asks ReservedKey All
all_reserved = for_all ALL_RESERVED.now

-- ---- what holds of them

order_text : IsText reserved 1 (λ k. k.0)
order_text = record { rule = is_name; has = λ r h. (and_parts _ _ h).0; reads = λ r. refl }

gtin_text : IsText reserved 2 (λ k. k.1.gtin)
gtin_text = record { rule = is_gtin; has = λ r h. (and_parts _ _ (and_parts _ _ h).1).0; reads = λ r. refl }

lot_text : IsText reserved 3 (λ k. k.1.lot)
lot_text = record { rule = is_lot_text; has = λ r h. (and_parts _ _ (and_parts _ _ (and_parts _ _ h).1).1).0; reads = λ r. refl }

pub reserved_laws : IsLawful reserved
unfolding understood everything
reserved_laws = record {
  placed_first = refl;
  placed = λ rest. refl;
  itself = λ k. itself_both _ _ (itself_bytes k.0) (itself_lot k.1);
  one_key = same_both bytes_eq same_lot_id same_bytes same_lots;
  one_row = λ db ready params. one_keyed db ready 9 reserved_table.tree (codes "reserved") reserved_table.columns (1 ∷ 2 ∷ 3 ∷ []) refl refl params;
  at_key = key_found reserved key_columns (order_text, (gtin_text, (lot_text, tt)));
  own_key = λ s r. refl;
  looks = λ trees. refl;
  sets = λ trees rows. refl;
  same_set = λ t. refl;
  ruled = refl;
  has_shown = λ params r. refl;
  seen_shown = λ params r. refl;
  add_is = λ rest. (refl, (refl, refl));
  added = λ s. refl;
  casts = λ s. rw (cast_null, cast_number (pos s.qty)) refl;
  comes = λ s rows sound. (refl, (sound, refl));
}

change_is : ChangeIs reserved change_reserved
unfolding understood everything
change_is rest = (refl, (refl, refl))

pub change_reserved_laws : IsChange reserved change_reserved
change_reserved_laws = record {
  is = change_is;
  changed = λ s r. refl;
  casts = λ s. rw (cast_number (pos s.qty)) refl;
  becomes = λ s r sound int own. (sound, refl);
}

pub drop_is : DropIs reserved DROP_RESERVED.now
unfolding understood everything
drop_is rest = (refl, (refl, refl))

pub reserved_of_item_laws : IsAsked (one (text_stored is_gtin)) 1 reserved reserved_of_item
unfolding understood everything
reserved_of_item_laws = record { few = refl; fits = λ by. refl; cells = λ by. refl; is = λ rest. (refl, refl, (refl, refl)); texts = (gtin_text, tt) }

pub reserved_of_order_laws : IsAsked (one (text_stored is_name)) 1 reserved reserved_of_order
unfolding understood everything
reserved_of_order_laws = record { few = refl; fits = λ by. refl; cells = λ by. refl; is = λ rest. (refl, refl, (refl, refl)); texts = (order_text, tt) }

pub all_reserved_laws : IsAsked (none (record {})) 0 reserved all_reserved
unfolding understood everything
all_reserved_laws = record { few = refl; fits = λ by. refl; cells = λ by. refl; is = λ rest. (refl, refl, (refl, refl)); texts = tt }
