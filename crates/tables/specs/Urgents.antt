-- The table `urgents`.
use Rattle.std.specs.Prelude.{◌∷◌}
use Rattle.tables.specs.Words.{ℕ, List, [], codes, refl, pos, and_parts, Text, is_name, Tables, UrgentRow, ADD_URGENT, URGENTS_OF, ALL_URGENTS, one, none, text_stored, urgents_table, same_order, urgent_key, urgent_mapping, cast_number, cast_null, same_bytes, itself_bytes, All, Described, IsLawful, key_found, Asks, for_all, by_text, AreSought, IsText, IsAsked, planned, one_keyed}
use Rattle.sqlite.specs.Listing.{understood}
use Rattle.sqlite_tied.specs.Compute.{everything}

-- what the table is
abbrev pub urgents : Described UrgentRow (List ℕ)
urgents = planned urgent_mapping (record {
  place = 15;
  tree = urgents_table.tree;
  name = codes "urgents";
  columns = urgents_table.columns;
  key = urgent_key;
  same = same_order;
  key_cells = λ order. Text order ∷ [];
  key_places = 1 ∷ [];
  look = λ t order. t.urgent order;
  set = λ f t. record t { urgent = f };
  add = ADD_URGENT.now;
})

-- that of a name
abbrev pub urgents_of : Asks (List ℕ) (List ℕ)
urgents_of = by_text URGENTS_OF.now 1 (λ k. k)

abbrev pub AreUrgentsOf : List ℕ → Tables → List UrgentRow → Type 0
AreUrgentsOf = AreSought urgents urgents_of

-- all of them
abbrev pub all_urgents : Asks (List ℕ) All
all_urgents = for_all ALL_URGENTS.now

-- ---- what holds of them

order_text : IsText urgents 1 (λ k. k)
order_text = record { rule = is_name; has = λ r h. (and_parts _ _ h).0; reads = λ r. refl }

pub urgents_laws : IsLawful urgents
unfolding understood everything
urgents_laws = record {
  placed_first = refl;
  placed = λ rest. refl;
  itself = itself_bytes;
  one_key = same_bytes;
  one_row = λ db ready params. one_keyed db ready 15 urgents_table.tree (codes "urgents") urgents_table.columns (1 ∷ []) refl refl params;
  at_key = key_found urgents urgents_of.columns (order_text, tt);
  own_key = λ s r. refl;
  looks = λ trees. refl;
  sets = λ trees rows. refl;
  same_set = λ t. refl;
  ruled = refl;
  has_shown = λ params r. refl;
  seen_shown = λ params r. refl;
  add_is = λ rest. (refl, (refl, refl));
  added = λ s. refl;
  casts = λ s. rw (cast_null, cast_number (pos s.act)) refl;
  comes = λ s rows sound. (refl, (sound, refl));
}

pub urgents_of_laws : IsAsked (one (text_stored is_name)) 1 urgents urgents_of
unfolding understood everything
urgents_of_laws = record { few = refl; fits = λ by. refl; cells = λ by. refl; is = λ rest. (refl, refl, (refl, refl)); texts = (order_text, tt) }

pub all_urgents_laws : IsAsked (none (record {})) 0 urgents all_urgents
unfolding understood everything
all_urgents_laws = record { few = refl; fits = λ by. refl; cells = λ by. refl; is = λ rest. (refl, refl, (refl, refl)); texts = tt }
