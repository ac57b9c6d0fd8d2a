-- What is decided of a new item and of a new bin: the conditions judged, and the rows written.
use Rattle.std.specs.Prelude.{◌||◌, ◌∷◌}
use Rattle.rules.specs.Words.{nat_le, [], ITEMS_MAX, BINS_MAX, ItemExists, BinExists, NewItem, NewBin, Judgement, sees_item, sees_bin, meta_after, plain_reply, none_put, none_dropped, Slice, Change}

-- Item

abbrev pub item_seen : Slice → NewItem → Judgement
item_seen s i =
    (sees_item s i.gtin || nat_le ITEMS_MAX s.items, ItemExists) ∷ []

abbrev pub item_changes : Slice → NewItem → Change
item_changes s i = record {
  meta = meta_after s;
  put = record none_put { items = record { gtin = i.gtin; name = i.name } ∷ []; least = record { gtin = i.gtin; days = 0 } ∷ [] };
  dropped = none_dropped;
  text = plain_reply s;
}

-- Bin

abbrev pub bin_seen : Slice → NewBin → Judgement
bin_seen s b =
    (sees_bin s b.bin || nat_le BINS_MAX s.bins, BinExists) ∷ []

abbrev pub bin_changes : Slice → NewBin → Change
bin_changes s b = record {
  meta = meta_after s;
  put = record none_put { bins = record { name = b.bin; kind = b.kind } ∷ [] };
  dropped = none_dropped;
  text = plain_reply s;
}
