-- The JSON of an order and of the stock of an item. The members of an object stand in the order of their names.
use Rattle.std.specs.Prelude.{ℕ, List, codes, map}
use Rattle.serde_json.specs.Data.{Data, number, string, array, object, member, no_members, unsigned}
use Rattle.serde_json.specs.View.{items_of}
use Rattle.commands.specs.Words.{order_class_word, order_state_word, lot_status_word}
use Rattle.commands.specs.declared.views.ReservedLot.{ReservedLot}
use Rattle.commands.specs.declared.views.StagedLot.{StagedLot}
use Rattle.commands.specs.declared.views.LineView.{LineView}
use Rattle.commands.specs.declared.views.OrderView.{OrderView}
use Rattle.commands.specs.declared.views.BinUnits.{BinUnits}
use Rattle.commands.specs.declared.views.LotView.{LotView}
use Rattle.commands.specs.declared.views.StockView.{StockView}
use Rattle.label.specs.Days.{day_text}

abbrev pub count : ℕ → Data
count n = number (unsigned n)

abbrev pub lot_data : List ℕ → ℕ → Data
lot_data lot qty = object (member (codes "lot") (string lot) (member (codes "qty") (count qty) no_members))

abbrev pub reserved_data : ReservedLot → Data
reserved_data r = lot_data r.lot r.qty

abbrev pub staged_data : StagedLot → Data
staged_data s = lot_data s.lot s.qty

abbrev pub line_members : List ℕ → ℕ → Data → ℕ → ℕ → Data → Data
line_members gtin ordered reserved shipped short staged =
    object (member (codes "gtin") (string gtin) (member (codes "ordered") (count ordered) (member (codes "reserved") reserved
    (member (codes "shipped") (count shipped) (member (codes "short") (count short) (member (codes "staged") staged no_members))))))

abbrev pub line_data : LineView → Data
line_data l =
    line_members l.gtin l.ordered (array (items_of (map reserved_data l.reserved))) l.shipped l.short (array (items_of (map staged_data l.staged)))

abbrev pub order_members : List ℕ → List ℕ → Data → List ℕ → List ℕ → Data
order_members class customer lines order state =
    object (member (codes "class") (string class) (member (codes "customer") (string customer) (member (codes "lines") lines
    (member (codes "order") (string order) (member (codes "state") (string state) no_members)))))

abbrev pub order_data : OrderView → Data
order_data v = order_members (order_class_word v.class) v.customer (array (items_of (map line_data v.lines))) v.order (order_state_word v.state)

abbrev pub bin_members : List ℕ → ℕ → Data
bin_members bin qty = object (member (codes "bin") (string bin) (member (codes "qty") (count qty) no_members))

abbrev pub bin_data : BinUnits → Data
bin_data b = bin_members b.bin b.qty

abbrev pub lot_members : Data → List ℕ → List ℕ → ℕ → ℕ → List ℕ → Data
lot_members bins expiry lot reserved staged status =
    object (member (codes "bins") bins (member (codes "expiry") (string expiry) (member (codes "lot") (string lot)
    (member (codes "reserved") (count reserved) (member (codes "staged") (count staged) (member (codes "status") (string status) no_members))))))

abbrev pub lot_stock_data : LotView → Data
lot_stock_data l =
    lot_members (array (items_of (map bin_data l.bins))) (day_text l.expiry) l.lot l.reserved l.staged (lot_status_word l.status)

abbrev pub stock_members : List ℕ → Data → List ℕ → Data
stock_members gtin lots name =
    object (member (codes "gtin") (string gtin) (member (codes "lots") lots (member (codes "name") (string name) no_members)))

abbrev pub stock_data : StockView → Data
stock_data v = stock_members v.item.gtin (array (items_of (map lot_stock_data v.lots))) v.item.name
