-- The rows by which items are shown.
use Rattle.views.specs.Words.{ℕ, Bool, true, List, take, Option, list_any, same_text, NewItem, ItemRow, LeastRow, Act, item_row, least_row, AreRows, NAMES_MAX, items_behind}

-- the row of an item
abbrev pub row_of_item : NewItem → ItemRow
row_of_item i = record { gtin = i.gtin; name = i.name }

-- all items
abbrev pub AreItems : List Act → List ItemRow → Type 0
AreItems acts rows = AreRows same_text (λ r. r.gtin) (λ g. true) (λ g. true) (item_row acts) rows

-- the item is in the answer
abbrev pub is_named : List Act → Option NewItem → List ℕ → Bool
is_named acts last g = list_any (λ i. same_text g i.gtin) (take NAMES_MAX (items_behind acts last))

-- what the items of the answer ask for; other rows of the table may be there too
abbrev pub AreAsked : List Act → Option NewItem → List LeastRow → Type 0
AreAsked acts last rows = AreRows same_text (λ r. r.gtin) (is_named acts last) (λ g. true) (least_row acts) rows
