-- The table `repeats`.
use Rattle.std.specs.Prelude.{◌∷◌}
use Rattle.tables.specs.Words.{ℕ, Bool, List, [], codes, refl, pos, and_parts, Text, is_between, RepeatRow, ACTS_MAX, KEY_TEXT_MAX, ADD_REPEAT, REPEATS_OF, fits_in, one, text_stored, repeats_table, same_repeat, repeat_key, repeat_mapping, cast_number, cast_null, same_bytes, itself_bytes, Described, IsLawful, key_found, Asks, by_text, IsText, IsAsked, planned, one_keyed}
use Rattle.sqlite.specs.Listing.{understood}
use Rattle.sqlite_tied.specs.Compute.{everything}

-- its numbers are within their limits
abbrev pub fits_repeat : RepeatRow → Bool
fits_repeat s = is_between 1 ACTS_MAX s.act

-- what the table is
abbrev pub repeats : Described RepeatRow (List ℕ)
repeats = record (planned repeat_mapping (record {
  place = 13;
  tree = repeats_table.tree;
  name = codes "repeats";
  columns = repeats_table.columns;
  key = repeat_key;
  same = same_repeat;
  key_cells = λ k. Text k ∷ [];
  key_places = 1 ∷ [];
  look = λ t k. t.repeat k;
  set = λ f t. record t { repeat = f };
  add = ADD_REPEAT.now;
})) { fits = fits_repeat }

-- that of a key
abbrev pub repeats_of : Asks (List ℕ) (List ℕ)
repeats_of = by_text REPEATS_OF.now 1 (λ k. k)

-- ---- what holds of them

key_text : IsText repeats 1 (λ k. k)
key_text = record { rule = fits_in KEY_TEXT_MAX; has = λ r h. (and_parts _ _ h).0; reads = λ r. refl }

pub repeats_laws : IsLawful repeats
unfolding understood everything
repeats_laws = record {
  placed_first = refl;
  placed = λ rest. refl;
  itself = itself_bytes;
  one_key = same_bytes;
  one_row = λ db ready params. one_keyed db ready 13 repeats_table.tree (codes "repeats") repeats_table.columns (1 ∷ []) refl refl params;
  at_key = key_found repeats repeats_of.columns (key_text, tt);
  own_key = λ s r. refl;
  looks = λ trees. refl;
  sets = λ trees rows. refl;
  same_set = λ t. refl;
  ruled = refl;
  has_shown = λ params r. refl;
  seen_shown = λ params r. refl;
  add_is = λ rest. (refl, (refl, refl));
  added = λ s. refl;
  casts = λ s. rw (cast_null, cast_number (pos s.act)) refl;
  comes = λ s rows sound. (refl, (sound, refl));
}

pub repeats_of_laws : IsAsked (one (text_stored (fits_in KEY_TEXT_MAX))) 1 repeats repeats_of
unfolding understood everything
repeats_of_laws = record { few = refl; fits = λ by. refl; cells = λ by. refl; is = λ rest. (refl, refl, (refl, refl)); texts = (key_text, tt) }
