-- The table `items`.
use Rattle.std.specs.Prelude.{◌∷◌}
use Rattle.tables.specs.Words.{ℕ, List, [], codes, refl, and_parts, Text, is_gtin, Tables, ItemRow, ADD_ITEM, ITEMS_OF, ALL_ITEMS, one, none, text_stored, items_table, item_mapping, same_item, item_key, cast_null, same_bytes, itself_bytes, All, Described, IsLawful, key_found, Asks, for_all, by_text, AreSought, IsText, IsAsked, planned, one_keyed}
use Rattle.sqlite.specs.Listing.{understood}
use Rattle.sqlite_tied.specs.Compute.{everything}

-- what the table is
abbrev pub items : Described ItemRow (List ℕ)
items = planned item_mapping (record {
  place = 1;
  tree = items_table.tree;
  name = codes "items";
  columns = items_table.columns;
  key = item_key;
  same = same_item;
  key_cells = λ k. Text k ∷ [];
  key_places = 1 ∷ [];
  look = λ t k. t.item k;
  set = λ f t. record t { item = f };
  add = ADD_ITEM.now;
})

-- those of a gtin
abbrev pub items_of : Asks (List ℕ) (List ℕ)
items_of = by_text ITEMS_OF.now 1 (λ k. k)

abbrev pub AreItemsOf : List ℕ → Tables → List ItemRow → Type 0
AreItemsOf = AreSought items items_of

-- all of them
abbrev pub all_items : Asks (List ℕ) All
all_items = for_all ALL_ITEMS.now

-- ---- what holds of them

gtin_text : IsText items 1 (λ k. k)
gtin_text = record { rule = is_gtin; has = λ r h. (and_parts _ _ h).0; reads = λ r. refl }

pub items_laws : IsLawful items
unfolding understood everything
items_laws = record {
  placed_first = refl;
  placed = λ rest. refl;
  itself = itself_bytes;
  one_key = same_bytes;
  one_row = λ db ready params. one_keyed db ready 1 items_table.tree (codes "items") items_table.columns (1 ∷ []) refl refl params;
  at_key = key_found items items_of.columns (gtin_text, tt);
  own_key = λ s r. refl;
  looks = λ trees. refl;
  sets = λ trees rows. refl;
  same_set = λ t. refl;
  ruled = refl;
  has_shown = λ params r. refl;
  seen_shown = λ params r. refl;
  add_is = λ rest. (refl, (refl, refl));
  added = λ s. refl;
  casts = λ s. rw cast_null refl;
  comes = λ s rows sound. (refl, (sound, refl));
}

pub items_of_laws : IsAsked (one (text_stored is_gtin)) 1 items items_of
unfolding understood everything
items_of_laws = record { few = refl; fits = λ by. refl; cells = λ by. refl; is = λ rest. (refl, refl, (refl, refl)); texts = (gtin_text, tt) }

pub all_items_laws : IsAsked (none (record {})) 0 items all_items
unfolding understood everything
all_items_laws = record { few = refl; fits = λ by. refl; cells = λ by. refl; is = λ rest. (refl, refl, (refl, refl)); texts = tt }
