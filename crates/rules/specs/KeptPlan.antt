-- Days asked for that change no plan: nothing is staged, and no lot starts or stops being shippable.
use Rattle.std.specs.Prelude.{◌==◌, ◌&&◌, if◌then◌else◌}
use Rattle.rules.specs.Words.{Bool, not, List, length, find, Some, list_any, same_text, reply_text, Returned, LeastRow, LotRow, RETURNS, number_seen, meta_after, none_put, none_dropped, may_ship, earliest_seen, is_store_found, Slice, Change}

-- where these rows ask for days in place of those of the slice
module _ (s : Slice) (least : List LeastRow) where
  -- the lot starts or stops being shippable
  abbrev pub changes_lot : LotRow → Bool
  changes_lot k =
      if may_ship (earliest_seen s.meta.day s.rows.least k.lot.gtin) s.rows.recalls k then not (may_ship (earliest_seen s.meta.day least k.lot.gtin) s.rows.recalls k)
      else may_ship (earliest_seen s.meta.day least k.lot.gtin) s.rows.recalls k

  abbrev pub keeps_plan : Bool
  keeps_plan =
      (length s.rows.staged == 0) && not (is_store_found (find (λ b. same_text RETURNS b.name) s.rows.bins)) && not (list_any changes_lot s.rows.lots)

-- the change where only these rows of `least` are put
abbrev pub asked_alone : Slice → List LeastRow → Change
asked_alone s asked = record {
  meta = meta_after s;
  put = record none_put { least = asked };
  dropped = none_dropped;
  text = reply_text (number_seen s) (Some (Returned 0));
}
