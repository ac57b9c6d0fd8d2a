-- The JSON of a pick list. The members of an object stand in the order of their names.
use Rattle.std.specs.Prelude.{ℕ, List, codes, map}
use Rattle.serde_json.specs.Data.{Data, string, array, object, member, no_members}
use Rattle.serde_json.specs.View.{items_of}
use Rattle.commands.specs.Words.{order_state_word}
use Rattle.commands.specs.declared.views.ReservedLot.{ReservedLot}
use Rattle.label.specs.Days.{day_text}
use Rattle.overviews.specs.declared.picks.PickLine.{PickLine}
use Rattle.overviews.specs.declared.picks.PicksView.{PicksView}
use Rattle.wire.specs.Views.{count, bin_data}

abbrev pub take_members : Data → List ℕ → List ℕ → ℕ → Data
take_members bins expiry lot qty =
    object (member (codes "bins") bins (member (codes "expiry") (string expiry) (member (codes "lot") (string lot) (member (codes "qty") (count qty) no_members))))

abbrev pub take_data : ReservedLot → Data
take_data r = take_members (array (items_of (map bin_data r.bins))) (day_text r.expiry) r.lot r.qty

abbrev pub pick_line_members : List ℕ → ℕ → List ℕ → ℕ → ℕ → ℕ → ℕ → Data → Data
pick_line_members gtin least name ordered shipped short staged take =
    object (member (codes "gtin") (string gtin) (member (codes "least") (count least) (member (codes "name") (string name)
    (member (codes "ordered") (count ordered) (member (codes "shipped") (count shipped) (member (codes "short") (count short)
    (member (codes "staged") (count staged) (member (codes "take") take no_members))))))))

abbrev pub pick_line_data : PickLine → Data
pick_line_data l = pick_line_members l.item.gtin l.least l.item.name l.ordered l.shipped l.short l.staged (array (items_of (map take_data l.take)))

abbrev pub picks_members : List ℕ → Data → List ℕ → List ℕ → Data
picks_members customer lines order state =
    object (member (codes "customer") (string customer) (member (codes "lines") lines (member (codes "order") (string order) (member (codes "state") (string state) no_members))))

abbrev pub picks_data : PicksView → Data
picks_data v = picks_members v.customer (array (items_of (map pick_line_data v.lines))) v.order (order_state_word v.state)
