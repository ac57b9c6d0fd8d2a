-- Lines of an order that are put with all their units shipped.
use Rattle.std.specs.Prelude.{◌≡◌, ◌&&◌, ◌==◌, ℕ, Bool, List, bytes_eq}
use Rattle.slices.specs.Words.{Tables, LineRow, LineKey}
use Rattle.keyed_rows.specs.Described.{with_row}
use Rattle.keyed_rows.specs.Writes.{each_written}
use Rattle.tables.specs.Lines.{lines, lines_filled}

-- the row put is the line with all its units shipped
abbrev pub is_filled : LineRow → LineRow → Bool
is_filled line put = ((bytes_eq put.order line.order && bytes_eq put.gtin line.gtin) && (put.ordered == line.ordered)) && (put.shipped == line.ordered)

-- to put these rows is to ship all units of each line of the order
abbrev pub FillsLines : List ℕ → List LineRow → Tables → Type 0
FillsLines order rows t = (k : LineKey) → lines.look (each_written (with_row lines) rows t) k ≡ lines.look (lines_filled order t) k
