-- The JSON of the figures of the house. The members of an object stand in the order of their names.
use Rattle.std.specs.Prelude.{ℕ, List, codes}
use Rattle.serde_json.specs.Data.{Data, string, object, member, no_members}
use Rattle.label.specs.Days.{day_text}
use Rattle.overviews.specs.declared.figures.FiguresView.{FiguresView}
use Rattle.overviews.specs.declared.figures.LotFigures.{LotFigures}
use Rattle.overviews.specs.declared.figures.OpenFigures.{OpenFigures}
use Rattle.overviews.specs.declared.figures.UnitFigures.{UnitFigures}
use Rattle.wire.specs.Views.{count}

abbrev pub lot_figures_data : LotFigures → Data
lot_figures_data f = object (member (codes "expired") (count f.expired) (member (codes "held") (count f.held) (member (codes "recalled") (count f.recalled) no_members)))

abbrev pub open_figures_data : OpenFigures → Data
open_figures_data f =
    object (member (codes "orders") (count f.orders) (member (codes "short") (count f.short) (member (codes "staged") (count f.staged)
    (member (codes "urgent") (count f.urgent) no_members))))

abbrev pub unit_figures_data : UnitFigures → Data
unit_figures_data f = object (member (codes "house") (count f.house) (member (codes "returns") (count f.returns) no_members))

abbrev pub figures_members : ℕ → List ℕ → Data → Data → Data → Data
figures_members act day lots open_orders units =
    object (member (codes "act") (count act) (member (codes "day") (string day) (member (codes "lots") lots (member (codes "open") open_orders
    (member (codes "units") units no_members)))))

abbrev pub figures_data : FiguresView → Data
figures_data v = figures_members v.act (day_text v.day) (lot_figures_data v.lots) (open_figures_data v.open_orders) (unit_figures_data v.units)
