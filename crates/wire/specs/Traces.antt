-- The JSON of the trace of a lot. The members of an object stand in the order of their names.
use Rattle.std.specs.Prelude.{ℕ, List, codes, map}
use Rattle.serde_json.specs.Data.{Data, Members, string, array, object, member, no_members}
use Rattle.serde_json.specs.View.{items_of}
use Rattle.commands.specs.Words.{lot_status_word}
use Rattle.commands.specs.declared.views.ShippedUnits.{ShippedUnits}
use Rattle.label.specs.Days.{day_text}
use Rattle.overviews.specs.declared.trace.Delivery.{Delivery}
use Rattle.overviews.specs.declared.trace.StagedUnits.{StagedUnits}
use Rattle.overviews.specs.declared.trace.TraceView.{TraceView}
use Rattle.wire.specs.Views.{count, bin_data}

abbrev pub delivery_members : ℕ → List ℕ → List ℕ → ℕ → ℕ → Data
delivery_members act day delivery line qty =
    object (member (codes "act") (count act) (member (codes "day") (string day) (member (codes "delivery") (string delivery)
    (member (codes "line") (count line) (member (codes "qty") (count qty) no_members)))))

abbrev pub delivery_data : Delivery → Data
delivery_data d = delivery_members d.act (day_text d.day) d.delivery d.line d.qty

abbrev pub shipped_members : List ℕ → List ℕ → ℕ → List ℕ → ℕ → Data
shipped_members customer day number order qty =
    object (member (codes "customer") (string customer) (member (codes "day") (string day) (member (codes "number") (count number)
    (member (codes "order") (string order) (member (codes "qty") (count qty) no_members)))))

abbrev pub shipped_data : ShippedUnits → Data
shipped_data s = shipped_members s.customer (day_text s.day) s.number s.order s.qty

abbrev pub staged_members : List ℕ → List ℕ → ℕ → Data
staged_members customer order qty = object (member (codes "customer") (string customer) (member (codes "order") (string order) (member (codes "qty") (count qty) no_members)))

abbrev pub staged_units_data : StagedUnits → Data
staged_units_data s = staged_members s.customer s.order s.qty

abbrev pub trace_end : ℕ → ℕ → ℕ → Data → Data → List ℕ → Members
trace_end off on received shipments staged status =
    member (codes "off") (count off) (member (codes "on") (count on) (member (codes "received") (count received)
    (member (codes "shipments") shipments (member (codes "staged") staged (member (codes "status") (string status) no_members)))))

abbrev pub trace_members : ℕ → Data → Data → List ℕ → List ℕ → List ℕ → List ℕ → Members → Data
trace_members act bins deliveries expiry gtin lot name rest =
    object (member (codes "act") (count act) (member (codes "bins") bins (member (codes "deliveries") deliveries
    (member (codes "expiry") (string expiry) (member (codes "gtin") (string gtin) (member (codes "lot") (string lot)
    (member (codes "name") (string name) rest)))))))

abbrev pub trace_data : TraceView → Data
trace_data v =
    trace_members v.act (array (items_of (map bin_data v.bins))) (array (items_of (map delivery_data v.deliveries))) (day_text v.expiry) v.item.gtin v.lot v.item.name
    (trace_end v.off v.on v.received (array (items_of (map shipped_data v.shipments))) (array (items_of (map staged_units_data v.staged))) (lot_status_word v.status))
