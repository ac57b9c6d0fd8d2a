-- The table `recalls`.
use Rattle.std.specs.Prelude.{◌∷◌}
use Rattle.tables.specs.Words.{ℕ, List, [], codes, refl, pos, and_parts, Text, is_gtin, is_lot_text, LotId, Tables, RecallRow, ADD_RECALL, RECALLS_OF, one, text_stored, recalls_table, recall_mapping, same_lot, recall_key, cast_number, cast_null, same_lots, itself_lot, Described, IsLawful, key_found, Asks, of_key, by_text, AreSought, IsText, IsAsked, planned, one_keyed}
use Rattle.sqlite.specs.Listing.{understood}
use Rattle.sqlite_tied.specs.Compute.{everything}

-- what the table is
abbrev pub recalls : Described RecallRow LotId
recalls = planned recall_mapping (record {
  place = 4;
  tree = recalls_table.tree;
  name = codes "recalls";
  columns = recalls_table.columns;
  key = recall_key;
  same = same_lot;
  key_cells = λ k. Text k.gtin ∷ Text k.lot ∷ [];
  key_places = 1 ∷ 2 ∷ [];
  look = λ t k. t.recall k;
  set = λ f t. record t { recall = f };
  add = ADD_RECALL.now;
})

-- those of a gtin
abbrev pub recalls_of : Asks LotId (List ℕ)
recalls_of = by_text RECALLS_OF.now 1 (λ k. k.gtin)

abbrev pub AreRecallsOf : List ℕ → Tables → List RecallRow → Type 0
AreRecallsOf = AreSought recalls recalls_of

-- ---- what holds of them

gtin_text : IsText recalls 1 (λ k. k.gtin)
gtin_text = record { rule = is_gtin; has = λ r h. (and_parts _ _ h).0; reads = λ r. refl }

lot_text : IsText recalls 2 (λ k. k.lot)
lot_text = record { rule = is_lot_text; has = λ r h. (and_parts _ _ (and_parts _ _ h).1).0; reads = λ r. refl }

pub recalls_laws : IsLawful recalls
unfolding understood everything
recalls_laws = record {
  placed_first = refl;
  placed = λ rest. refl;
  itself = itself_lot;
  one_key = same_lots;
  one_row = λ db ready params. one_keyed db ready 4 recalls_table.tree (codes "recalls") recalls_table.columns (1 ∷ 2 ∷ []) refl refl params;
  at_key = key_found recalls (of_key 1 (λ k. k.gtin) ∷ of_key 2 (λ k. k.lot) ∷ []) (gtin_text, (lot_text, tt));
  own_key = λ s r. refl;
  looks = λ trees. refl;
  sets = λ trees rows. refl;
  same_set = λ t. refl;
  ruled = refl;
  has_shown = λ params r. refl;
  seen_shown = λ params r. refl;
  add_is = λ rest. (refl, (refl, refl));
  added = λ s. refl;
  casts = λ s. rw (cast_null, cast_number (pos s.act)) refl;
  comes = λ s rows sound. (refl, (sound, refl));
}

pub recalls_of_laws : IsAsked (one (text_stored is_gtin)) 1 recalls recalls_of
unfolding understood everything
recalls_of_laws = record { few = refl; fits = λ by. refl; cells = λ by. refl; is = λ rest. (refl, refl, (refl, refl)); texts = (gtin_text, tt) }
