-- The rows by which the items of an order are named.
use Rattle.views.specs.Words.{true, List, same_text, ItemRow, Act, Placed, item_row, AreRows}
use Rattle.views.specs.Shown.{orders_item}

-- the items of the lines of the order; others may be there too
abbrev pub AreLineItems : List Act → Placed → List ItemRow → Type 0
AreLineItems acts p items = AreRows same_text (λ r. r.gtin) (orders_item p) (λ g. true) (item_row acts) items
