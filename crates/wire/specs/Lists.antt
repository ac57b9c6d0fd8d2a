-- The JSON of the books, of open orders, of items, of lots that expire and of what is in a bin. The members of an object stand in the order of their names.
use Rattle.std.specs.Prelude.{ℕ, Bool, List, codes, map}
use Rattle.serde_json.specs.Data.{Data, boolean, string, array, object, member, no_members}
use Rattle.serde_json.specs.View.{items_of}
use Rattle.commands.specs.Words.{bin_kind_word, order_class_word, lot_status_word}
use Rattle.commands.specs.declared.limits.TheConstants.{SCHEMA_VERSION}
use Rattle.label.specs.Days.{day_text}
use Rattle.overviews.specs.declared.lists.BinLot.{BinLot}
use Rattle.overviews.specs.declared.lists.BinView.{BinView}
use Rattle.overviews.specs.declared.lists.BooksView.{BooksView}
use Rattle.overviews.specs.declared.lists.ExpiringView.{ExpiringView}
use Rattle.overviews.specs.declared.lists.ItemLot.{ItemLot}
use Rattle.overviews.specs.declared.lists.ItemNamesView.{ItemNamesView}
use Rattle.overviews.specs.declared.lists.NamedItem.{NamedItem}
use Rattle.overviews.specs.declared.lists.OpenOrder.{OpenOrder}
use Rattle.overviews.specs.declared.lists.OpenOrdersView.{OpenOrdersView}
use Rattle.wire.specs.Views.{count, bin_data}

-- The books

abbrev pub books_members : ℕ → List ℕ → Data
books_members act day = object (member (codes "act") (count act) (member (codes "day") (string day) (member (codes "schema") (count SCHEMA_VERSION) no_members)))

abbrev pub books_data : BooksView → Data
books_data v = books_members v.act (day_text v.day)

-- Open orders

abbrev pub open_members : List ℕ → List ℕ → List ℕ → ℕ → ℕ → ℕ → ℕ → ℕ → Data
open_members class customer order ordered reserved shipped short staged =
    object (member (codes "class") (string class) (member (codes "customer") (string customer) (member (codes "order") (string order)
    (member (codes "ordered") (count ordered) (member (codes "reserved") (count reserved) (member (codes "shipped") (count shipped)
    (member (codes "short") (count short) (member (codes "staged") (count staged) no_members))))))))

abbrev pub open_data : OpenOrder → Data
open_data o = open_members (order_class_word o.class) o.customer o.order o.ordered o.reserved o.shipped o.short o.staged

abbrev pub open_orders_members : ℕ → Bool → Data → Data
open_orders_members act more orders = object (member (codes "act") (count act) (member (codes "more") (boolean more) (member (codes "orders") orders no_members)))

abbrev pub open_orders_data : OpenOrdersView → Data
open_orders_data v = open_orders_members v.act v.more (array (items_of (map open_data v.orders)))

-- Items

abbrev pub item_members : List ℕ → ℕ → List ℕ → Data
item_members gtin least name = object (member (codes "gtin") (string gtin) (member (codes "least") (count least) (member (codes "name") (string name) no_members)))

abbrev pub item_data : NamedItem → Data
item_data i = item_members i.item.gtin i.least i.item.name

abbrev pub item_names_members : ℕ → Data → Bool → Data
item_names_members act items more = object (member (codes "act") (count act) (member (codes "items") items (member (codes "more") (boolean more) no_members)))

abbrev pub item_names_data : ItemNamesView → Data
item_names_data v = item_names_members v.act (array (items_of (map item_data v.items))) v.more

-- Lots that expire

abbrev pub item_lot_members : Data → List ℕ → List ℕ → List ℕ → List ℕ → ℕ → ℕ → List ℕ → Data
item_lot_members bins expiry gtin lot name reserved staged status =
    object (member (codes "bins") bins (member (codes "expiry") (string expiry) (member (codes "gtin") (string gtin) (member (codes "lot") (string lot)
    (member (codes "name") (string name) (member (codes "reserved") (count reserved) (member (codes "staged") (count staged)
    (member (codes "status") (string status) no_members))))))))

abbrev pub item_lot_data : ItemLot → Data
item_lot_data i =
    item_lot_members (array (items_of (map bin_data i.lot.bins))) (day_text i.lot.expiry) i.item.gtin i.lot.lot i.item.name i.lot.reserved i.lot.staged (lot_status_word i.lot.status)

abbrev pub expiring_members : ℕ → Data → Bool → Data
expiring_members act lots more = object (member (codes "act") (count act) (member (codes "lots") lots (member (codes "more") (boolean more) no_members)))

abbrev pub expiring_data : ExpiringView → Data
expiring_data v = expiring_members v.act (array (items_of (map item_lot_data v.lots))) v.more

-- Lots in a bin

abbrev pub bin_lot_members : List ℕ → List ℕ → List ℕ → List ℕ → ℕ → List ℕ → Data
bin_lot_members expiry gtin lot name qty status =
    object (member (codes "expiry") (string expiry) (member (codes "gtin") (string gtin) (member (codes "lot") (string lot)
    (member (codes "name") (string name) (member (codes "qty") (count qty) (member (codes "status") (string status) no_members))))))

abbrev pub bin_lot_data : BinLot → Data
bin_lot_data b = bin_lot_members (day_text b.expiry) b.item.gtin b.lot b.item.name b.qty (lot_status_word b.status)

abbrev pub bin_view_members : ℕ → List ℕ → List ℕ → Data → Bool → Data
bin_view_members act bin kind lots more =
    object (member (codes "act") (count act) (member (codes "bin") (string bin) (member (codes "kind") (string kind) (member (codes "lots") lots
    (member (codes "more") (boolean more) no_members)))))

abbrev pub bin_view_data : BinView → Data
bin_view_data v = bin_view_members v.act v.bin (bin_kind_word v.kind) (array (items_of (map bin_lot_data v.lots))) v.more
