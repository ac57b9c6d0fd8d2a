-- Laws of traces.
use Rattle.std.specs.Prelude.{◌≡◌, ℕ, ◌+◌, true, if◌then◌else◌, List, [], ◌∷◌, Some, ℤ}
use Rattle.values.specs.Values.{same_text}
use Rattle.commands.specs.Lists.{total}
use Rattle.commands.specs.declared.command.Command.TheVariants.{Recall}
use Rattle.commands.specs.declared.key.Key.{Key}
use Rattle.commands.specs.declared.rows.ItemRow.{ItemRow}
use Rattle.commands.specs.declared.views.BinUnits.{BinUnits}
use Rattle.commands.specs.declared.views.NoticeView.{NoticeView}
use Rattle.commands.specs.declared.views.ShippedUnits.{ShippedUnits}
use Rattle.overviews.specs.declared.trace.StagedUnits.{StagedUnits}
use Rattle.overviews.specs.declared.trace.TraceView.{TraceView}
use Rattle.machine.specs.Acts.{Act}
use Rattle.machine.specs.Once.{IsHistory}
use Rattle.machine.specs.Standing.{KnownLot, RETURNS, is_recalled, lot_known}
use Rattle.machine.specs.Views.{notice_view}
use Rattle.overviews.specs.Traces.{trace_view}

-- what came in is where the trace shows it
abbrev pub IsConserved : TraceView → Type 0
IsConserved v =
    v.received + v.on
    ≡ v.off + total (λ (u : BinUnits). u.qty) v.bins + total (λ (u : StagedUnits). u.qty) v.staged + total (λ (u : ShippedUnits). u.qty) v.shipments

abbrev pub TracesAreConserved : Type 0
TracesAreConserved = (first : ℤ) (acts : List Act) (item : ItemRow) (k : KnownLot) → IsHistory first acts → IsConserved (trace_view first acts item k)

-- Beside the recall notice of the lot

-- of a lot that is recalled, the bins and the shipments are those of its notice, and nothing is staged
pub record IsOfNotice (v : TraceView) (n : NoticeView) : Type 0 where
  pub bins : v.bins ≡ n.bins
  pub shipments : v.shipments ≡ n.shipments
  pub staged : v.staged ≡ []

abbrev pub TracesAgreeWithNotices : Type 0
TracesAgreeWithNotices = (first : ℤ) (acts : List Act) (item : ItemRow) (k : KnownLot) → IsHistory first acts → lot_known acts k.lot ≡ Some k → is_recalled acts k.lot ≡ true
    → IsOfNotice (trace_view first acts item k) (notice_view first acts item k.lot)

-- the units that a list shows in a bin
abbrev pub units_in : List ℕ → List BinUnits → ℕ
units_in b bins = total (λ (u : BinUnits). if same_text b u.bin then u.qty else 0) bins

-- the notice that a recall would bring: the shipments are those of the trace, and so are the units in each bin, with all that is staged in RETURNS
pub record ComesBefore (v : TraceView) (n : NoticeView) : Type 0 where
  pub shipments : n.shipments ≡ v.shipments
  pub bins : (b : List ℕ) → units_in b n.bins ≡ units_in b v.bins + (if same_text b RETURNS then total (λ (u : StagedUnits). u.qty) v.staged else 0)

abbrev pub TracesForetellNotices : Type 0
TracesForetellNotices = (first : ℤ) (acts : List Act) (item : ItemRow) (k : KnownLot) (key : Key) → IsHistory first (record { key = key; command = Recall k.lot } ∷ acts)
    → ComesBefore (trace_view first acts item k) (notice_view first (record { key = key; command = Recall k.lot } ∷ acts) item k.lot)
