-- The table `cards`.
use Rattle.std.specs.Prelude.{◌≡◌, ◌&&◌, ◌∷◌}
use Rattle.tables.specs.Words.{nat_eq, bytes_eq, List, [], codes, refl, ap, ap₂, ◌∙◌, pos, and_parts, Value, Int, Text, column, bytes, Chosen, rowid, with_rowid, is_gtin, is_lot_text, LotId, Tables, CardRow, ACTS_MAX, ADD_CARD, CARDS_OF, number_in, cards_table, same_lot_id, CardKey, same_card, card_key, card_mapping, same, cast_number, cast_null, and_true, and_assoc, same_word, same_count, same_number, itself_number, same_lots, itself_lot, card_kind_back, same_both, itself_both, Described, IsLawful, planned, one_keyed, Asks, by_lot, AreSought, IsText, IsAsked, lot_columns}
use Rattle.sqlite.specs.Listing.{understood}
use Rattle.sqlite_tied.specs.Compute.{everything}

-- what the table is
abbrev pub cards : Described CardRow CardKey
cards = planned card_mapping (record {
  place = 12;
  tree = cards_table.tree;
  name = codes "cards";
  columns = cards_table.columns;
  key = card_key;
  same = same_card;
  key_cells = λ k. Text k.0.gtin ∷ Text k.0.lot ∷ Int (pos k.1) ∷ [];
  key_places = 1 ∷ 2 ∷ 3 ∷ [];
  look = λ t k. t.card k.0 k.1;
  set = λ f t. record t { card = λ a b. f (a, b) };
  add = ADD_CARD.now;
})

-- those of a lot
abbrev pub cards_of : Asks CardKey LotId
cards_of = by_lot CARDS_OF.now 1 (λ k. k.0)

abbrev pub AreCardsOf : LotId → Tables → List CardRow → Type 0
AreCardsOf = AreSought cards cards_of

-- ---- what holds of them

gtin_text : IsText cards 1 (λ k. k.0.gtin)
gtin_text = record { rule = is_gtin; has = λ r h. (and_parts _ _ h).0; reads = λ r. refl }

lot_text : IsText cards 2 (λ k. k.0.lot)
lot_text = record { rule = is_lot_text; has = λ r h. (and_parts _ _ (and_parts _ _ h).1).0; reads = λ r. refl }

-- what is written reads as the row
back : (id : Value) (s : CardRow) → cards.reads (id ∷ cards.cells s) ≡ s
back id s = ap (λ x. let r : CardRow = record { lot = record { gtin = s.lot.gtin; lot = s.lot.lot }; act = s.act; day = s.day; kind = x; note = s.note; qty = s.qty; rest = s.rest } in r) (card_kind_back s.kind)

pub cards_laws : IsLawful cards
unfolding understood everything
cards_laws = record {
  placed_first = refl;
  placed = λ rest. refl;
  itself = λ k. itself_both _ _ (itself_lot k.0) (itself_number k.1);
  one_key = same_both same_lot_id nat_eq same_lots same_number;
  one_row = λ db ready params. one_keyed db ready 12 cards_table.tree (codes "cards") cards_table.columns (1 ∷ 2 ∷ 3 ∷ []) refl refl params;
  at_key = λ k r h.
      let p0 = and_parts _ _ h in
      let p1 = and_parts _ _ p0.1 in
      let p2 = and_parts _ _ p1.1 in
      ap₂ ◌&&◌ (same_word is_gtin (column r 1) (Text k.0.gtin) k.0.gtin p0.0 refl) (ap₂ ◌&&◌ (same_word is_lot_text (column r 2) (Text k.0.lot) k.0.lot p1.0 refl) (and_true _ ∙ same_count ACTS_MAX (column r 3) (Int (pos k.1)) k.1 p2.0 refl))
      ∙ and_assoc (bytes_eq k.0.gtin (bytes (column r 1))) (bytes_eq k.0.lot (bytes (column r 2))) (nat_eq k.1 (number_in (column r 3)));
  own_key = λ s r. refl;
  looks = λ trees. refl;
  sets = λ trees rows. refl;
  same_set = λ t. refl;
  ruled = refl;
  has_shown = λ params r. refl;
  seen_shown = λ params r. refl;
  add_is = λ rest. (refl, (refl, refl));
  added = λ s. refl;
  casts = λ s. rw (cast_null, cast_number (pos s.act), cast_number s.day, cast_number s.qty, cast_number (pos s.rest)) refl;
  comes = λ s rows sound. (refl, (sound, back (rowid (with_rowid Chosen rows (cards.source s))) s));
}

pub cards_of_laws : IsAsked lot_columns 2 cards cards_of
unfolding understood everything
cards_of_laws = record { few = refl; fits = λ by. refl; cells = λ by. refl; is = λ rest. (refl, refl, (refl, refl)); texts = (gtin_text, (lot_text, tt)) }
