-- What the slice of any command but a shipment tells of the days that an item asks for, and so from which expiry on its lots ship.
use Rattle.rules.proofs.Words.{◌≡◌, ℕ, true, ◌&&◌, not, List, refl, ap, sym, ◌∙◌, find, Option, Some, None, option_map, is_some, ℤ, pos, ◌+ℤ◌, same_text, NewItem, LeastRow, Act, items, item_named, least_days, least_expiry, IsHistory, tables_of, least_row, is_touched, IsSlice, ships, days_in, least_seen, earliest_seen, Slice, same_text_is, unknown_item_asks_none}
use Rattle.rules.proofs.rows.FoundRows.{found_passes}
use Rattle.rules.proofs.decided.Decisions.{day_seen}

-- the row of an item has the days that it asks for; an item without one asks for none
pub days_in_row : (first : ℤ) (acts : List Act) → IsHistory first acts → (g : List ℕ) → days_in (least_row acts g) ≡ least_days acts g
days_in_row first acts history g = by_item (item_named acts g) refl
  where
    by_item : (x : Option NewItem) → item_named acts g ≡ x → days_in (option_map (λ (i : NewItem). record { gtin = i.gtin; days = least_days acts i.gtin }) x) ≡ least_days acts g
    by_item None e = sym (unknown_item_asks_none first acts g history (ap is_some e))
    by_item (Some i) e = ap (least_days acts) (sym (same_text_is g i.gtin (found_passes (λ (x : NewItem). same_text g x.gtin) (items acts) i e)))

module _ (first : ℤ) (acts : List Act) (act : Act) (s : Slice) (slice : IsSlice first act acts (tables_of first acts) s) (goods : not (ships act.command) ≡ true) (history : IsHistory first acts)
    (g : List ℕ) (touched : is_touched first act acts g ≡ true) where
  found_least : find (λ (r : LeastRow). same_text g r.gtin) s.rows.least ≡ least_row acts g
  unfolding tables_of
  found_least = slice.least.found g (λ i. goods i && touched i)

  pub days_told : least_seen s.rows.least g ≡ least_days acts g
  days_told = ap days_in found_least ∙ days_in_row first acts history g

  pub earliest_told : earliest_seen s.meta.day s.rows.least g ≡ least_expiry first acts g
  earliest_told = λ i. day_seen first acts act s slice i +ℤ pos (days_told i)
