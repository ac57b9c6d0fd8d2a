-- What the read of a slice tells.
use Rattle.slices.proofs.Words.{◌≡◌, ◌&&◌, [], ◌∷◌, Result, Ok, Err, IfOk, IfErr, IsTrue, sym, subst, Tables, Command, Pick, Ship, State, HasCleanDisk, IsReady, tables_in, TableFault, Rows, Slice, Entries, Loses, has_closed_row, has_line_row, IsRead, AreBounds, with_counts, KnowsRows, KnowsNoRows, Learning, HoldsOf, IsSliceOf, IsSliceIn, AreSliced, orders_named, Bounds, Known, RowsKnown}
use Rattle.slices.proofs.ReadSteps.{as_told}
use Rattle.slices.proofs.AtMost.{bounds_counted}
use Rattle.slices.proofs.Covering.{StaysKnown, known_met, known_shipped, known_picked}
use Rattle.slices.proofs.StillKnown.{no_rows_known}
use Rattle.slices.proofs.SliceRight.{slice_right}

-- what is known, with other rows
abbrev with_rows : Known → RowsKnown → Known
with_rows known rows = record { lines = known.lines; urgent = known.urgent; bounds = known.bounds; rows = rows }

known_sliced : (command : Command) (known : Known) (t : Tables) (rows : Rows) (old new : Entries) → AreSliced known command t rows → Loses (λ g o. has_closed_row rows.orders o && has_line_row rows.lines g o) old new → StaysKnown t old new
known_sliced (Ship order) known t rows old new are = known_shipped (order ∷ []) t rows.orders rows.lines old new are.named
known_sliced (Pick p) known t rows old new are = known_picked p.order t rows.orders rows.lines old new are.ordered.orders
known_sliced command known t rows old new are = known_met known.lines (orders_named command) are.gtins t rows.orders rows.lines old new are.ordered

-- A slice is read, with the rows that are known taken out for it; those after it are put back if it succeeds

module _ (known : Known) (taken none learned : RowsKnown) (is_taken : taken ≡ known.rows) (is_none : KnowsNoRows none) (command : Command) (before after : State) where
  abbrev emptied : Known
  emptied = with_rows known none

  holds_emptied : (t : Tables) → HoldsOf known t → HoldsOf emptied t
  holds_emptied t holds = record { lines = holds.lines; urgent = holds.urgent; bounds = holds.bounds; rows = no_rows_known t none is_none }

  slice_found : (s : Slice) → IsRead (Learning taken learned (λ t s. IsSliceIn emptied command t s)) before after (Ok s) → HasCleanDisk after → IsReady before.now → IsTrue before.is_open → HoldsOf known (tables_in before.now.trees)
      → IsSliceIn emptied command (tables_in before.now.trees) s × KnowsRows (tables_in before.now.trees) learned
  slice_found s one clean ready up holds = (one.answers clean ready up).1 (subst (λ (x : RowsKnown). KnowsRows (tables_in before.now.trees) x) (sym is_taken) holds.rows)

  pub slice_read : (r : Result Slice TableFault) → IsRead (Learning taken learned (λ t s. IsSliceIn emptied command t s)) before after r → IsRead (λ t s. HoldsOf known t → IsSliceOf command t s) before after r
  slice_read r one = as_told one (λ t s tells holds first acts key history is.
      let slice = subst (λ (t : Tables). IsSliceIn emptied command t s) is (tells (subst (λ (x : RowsKnown). KnowsRows t x) (sym is_taken) holds.rows)).0 in
      slice_right first acts key command emptied (subst (λ (t : Tables). HoldsOf emptied t) is (holds_emptied t holds)) history s slice.meta slice.counted slice.rows)

  -- without the closed orders that it tells, and with the numbers and rows that it tells, what is known is so
  pub slice_holds : (r : Result Slice TableFault) (new : Known) → IsRead (Learning taken learned (λ t s. IsSliceIn emptied command t s)) before after r
      → IfOk r (λ s. Loses (λ g o. has_closed_row s.rows.orders o && has_line_row s.rows.lines g o) known.lines new.lines) → IfOk r (λ s. Loses (λ g o. has_closed_row s.rows.orders o && has_line_row s.rows.lines g o) known.urgent new.urgent)
      → IfOk r (λ s. new.bounds ≡ with_counts command s.items s.bins known.bounds) → IfOk r (λ s. new.rows ≡ learned) → IfErr r (λ e. new ≡ emptied)
      → HasCleanDisk after → IsReady before.now → IsTrue before.is_open → HoldsOf known (tables_in before.now.trees) → HoldsOf new (tables_in before.now.trees)
  slice_holds (Ok s) new one met met_urgent counted rows unread clean ready up holds =
      let t : Tables = tables_in before.now.trees in
      let found = slice_found s one clean ready up holds in
      record {
        lines = λ o g is_up there. known_sliced command emptied t s.rows known.lines new.lines found.0.rows met o g is_up (holds.lines o g is_up there);
        urgent = λ o g is_up there hurried. known_sliced command emptied t s.rows known.urgent new.urgent found.0.rows met_urgent o g is_up (holds.urgent o g is_up there hurried);
        bounds = subst (λ (b : Bounds). AreBounds b t) (sym counted) (bounds_counted command t known.bounds s.items s.bins found.0.counted holds.bounds);
        rows = subst (λ (x : RowsKnown). KnowsRows t x) (sym rows) found.1;
      }
  slice_holds (Err e) new one met met_urgent counted rows unread clean ready up holds =
      let t : Tables = tables_in before.now.trees in
      subst (λ (k : Known). HoldsOf k t) (sym unread) (holds_emptied t holds)
