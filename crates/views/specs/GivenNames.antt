-- What is shown of items, from rows.
use Rattle.std.specs.Prelude.{◌+◌}
use Rattle.views.specs.Words.{ℕ, nat_lt, Bool, List, [], length, take, filter, map, Option, ItemRow, LeastRow, text_before, inserted, least_seen, NAMES_MAX, ItemNamesView, NamedItem, is_behind}

abbrev pub item_before : ItemRow → ItemRow → Bool
item_before i j = text_before i.gtin j.gtin

-- those behind the one that was seen last, by GTIN: as many as one answer has, and one more, which tells whether they go on
abbrev pub items_and_more : Option ItemRow → List ItemRow → List ItemRow
items_and_more seen items = take (NAMES_MAX + 1) (inserted item_before [] (filter (is_behind item_before seen) items))

abbrev pub named_seen : List LeastRow → ItemRow → NamedItem
named_seen least i = record { item = i; least = least_seen least i.gtin }

abbrev pub names_seen : ℕ → List LeastRow → List ItemRow → ItemNamesView
names_seen act least found = record {
  act = act;
  items = map (named_seen least) (take NAMES_MAX found);
  more = nat_lt NAMES_MAX (length found);
}
