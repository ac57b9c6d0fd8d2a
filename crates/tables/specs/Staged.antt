-- The table `staged`.
use Rattle.std.specs.Prelude.{if◌then◌else◌, ◌∷◌}
use Rattle.tables.specs.Words.{ℕ, bytes_eq, List, [], None, codes, refl, pos, and_parts, Text, is_gtin, is_lot_text, is_name, Tables, StagedRow, ADD_STAGED, CHANGE_STAGED, STAGED_OF_ITEM, STAGED_OF_ORDER, ALL_STAGED, DROP_STAGED, DROP_STAGE, one, none, text_stored, staged_table, same_lot_id, StagedKey, same_staged, staged_key, staged_mapping, cast_number, cast_null, same_lots, itself_lot, same_both, same_bytes, itself_both, itself_bytes, All, Described, IsLawful, Change, ChangeIs, IsChange, DropIs, key_found, Asks, Compared, of_key, for_all, by_text, tests_of, AreRows, AreSought, IsText, IsAsked, planned, whole_change, one_keyed}
use Rattle.sqlite.specs.Listing.{understood}
use Rattle.sqlite_tied.specs.Compute.{everything}
use Rattle.tables.specs.Dropping.{DropsBy}

-- what the table is
abbrev pub staged : Described StagedRow StagedKey
staged = planned staged_mapping (record {
  place = 8;
  tree = staged_table.tree;
  name = codes "staged";
  columns = staged_table.columns;
  key = staged_key;
  same = same_staged;
  key_cells = λ k. Text k.0 ∷ Text k.1.gtin ∷ Text k.1.lot ∷ [];
  key_places = 1 ∷ 2 ∷ 3 ∷ [];
  look = λ t k. t.staged k.0 k.1;
  set = λ f t. record t { staged = λ a b. f (a, b) };
  add = ADD_STAGED.now;
})

-- the statement that changes a row
abbrev pub change_staged : Change StagedRow
change_staged = whole_change staged CHANGE_STAGED.now

-- those of a gtin
abbrev pub staged_of_item : Asks StagedKey (List ℕ)
staged_of_item = by_text STAGED_OF_ITEM.now 2 (λ k. k.1.gtin)

abbrev pub AreStagedOfItem : List ℕ → Tables → List StagedRow → Type 0
AreStagedOfItem = AreSought staged staged_of_item

-- those of an order
abbrev pub staged_of_order : Asks StagedKey (List ℕ)
staged_of_order = by_text STAGED_OF_ORDER.now 1 (λ k. k.0)

abbrev pub AreStagedOfOrder : List ℕ → Tables → List StagedRow → Type 0
AreStagedOfOrder = AreSought staged staged_of_order

-- that of an order and a lot; no statement asks for it
abbrev pub key_columns : List (Compared StagedKey StagedKey)
key_columns = of_key 1 (λ k. k.0) ∷ of_key 2 (λ k. k.1.gtin) ∷ of_key 3 (λ k. k.1.lot) ∷ []

abbrev pub AreStagedOf : StagedKey → Tables → List StagedRow → Type 0
AreStagedOf k t rows = AreRows same_staged staged_key (same_staged k) (λ at. t.staged at.0 at.1) rows

-- all of them
abbrev pub all_staged : Asks StagedKey All
all_staged = for_all ALL_STAGED.now

-- all that is staged for an order goes
abbrev pub without_stage : List ℕ → Tables → Tables
without_stage name t = record t { staged = λ at_order at_lot. if bytes_eq name at_order then None else t.staged at_order at_lot }

-- ---- what holds of them

order_text : IsText staged 1 (λ k. k.0)
order_text = record { rule = is_name; has = λ r h. (and_parts _ _ h).0; reads = λ r. refl }

gtin_text : IsText staged 2 (λ k. k.1.gtin)
gtin_text = record { rule = is_gtin; has = λ r h. (and_parts _ _ (and_parts _ _ h).1).0; reads = λ r. refl }

lot_text : IsText staged 3 (λ k. k.1.lot)
lot_text = record { rule = is_lot_text; has = λ r h. (and_parts _ _ (and_parts _ _ (and_parts _ _ h).1).1).0; reads = λ r. refl }

pub staged_laws : IsLawful staged
unfolding understood everything
staged_laws = record {
  placed_first = refl;
  placed = λ rest. refl;
  itself = λ k. itself_both _ _ (itself_bytes k.0) (itself_lot k.1);
  one_key = same_both bytes_eq same_lot_id same_bytes same_lots;
  one_row = λ db ready params. one_keyed db ready 8 staged_table.tree (codes "staged") staged_table.columns (1 ∷ 2 ∷ 3 ∷ []) refl refl params;
  at_key = key_found staged key_columns (order_text, (gtin_text, (lot_text, tt)));
  own_key = λ s r. refl;
  looks = λ trees. refl;
  sets = λ trees rows. refl;
  same_set = λ t. refl;
  ruled = refl;
  has_shown = λ params r. refl;
  seen_shown = λ params r. refl;
  add_is = λ rest. (refl, (refl, refl));
  added = λ s. refl;
  casts = λ s. rw (cast_null, cast_number (pos s.qty)) refl;
  comes = λ s rows sound. (refl, (sound, refl));
}

change_is : ChangeIs staged change_staged
unfolding understood everything
change_is rest = (refl, (refl, refl))

pub change_staged_laws : IsChange staged change_staged
change_staged_laws = record {
  is = change_is;
  changed = λ s r. refl;
  casts = λ s. rw (cast_number (pos s.qty)) refl;
  becomes = λ s r sound int own. (sound, refl);
}

pub drop_is : DropIs staged DROP_STAGED.now
unfolding understood everything
drop_is rest = (refl, (refl, refl))

pub stage_drop_is : DropsBy staged (tests_of staged_of_order.columns) DROP_STAGE.now
unfolding understood everything
stage_drop_is rest = (refl, (refl, refl))

pub staged_of_item_laws : IsAsked (one (text_stored is_gtin)) 1 staged staged_of_item
unfolding understood everything
staged_of_item_laws = record { few = refl; fits = λ by. refl; cells = λ by. refl; is = λ rest. (refl, refl, (refl, refl)); texts = (gtin_text, tt) }

pub staged_of_order_laws : IsAsked (one (text_stored is_name)) 1 staged staged_of_order
unfolding understood everything
staged_of_order_laws = record { few = refl; fits = λ by. refl; cells = λ by. refl; is = λ rest. (refl, refl, (refl, refl)); texts = (order_text, tt) }

pub all_staged_laws : IsAsked (none (record {})) 0 staged all_staged
unfolding understood everything
all_staged_laws = record { few = refl; fits = λ by. refl; cells = λ by. refl; is = λ rest. (refl, refl, (refl, refl)); texts = tt }
