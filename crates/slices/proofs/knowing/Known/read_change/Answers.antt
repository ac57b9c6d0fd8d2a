use Rattle.slices.proofs.Words.{List, sym, subst, Tables, LineRow, UrgentRow, SqliteFailure, OutOfMemory, Gains, has_line_row, KnowsFollowed, urgent_lines, AreLinesPut, AreUrgentsPut, RowsKnown}
use Rattle.slices.proofs.Covering.{knows_put}
use Rattle.slices.proofs.ReadSteps.{has_read, read_on, and_then, so_told, fails_first, fails_later, no_room_left}
use Rattle.slices.proofs.knowing.Known.read_change.Goals as goal

pub returns-in_err-lines-clause-read : goal.returns-in_err-lines-clause-read
returns-in_err-lines-clause-read g c = fails_first c.from_residual.ensures c.in_err-lines.ensures.read

pub returns-in_err-urgents-clause-read : goal.returns-in_err-urgents-clause-read
returns-in_err-urgents-clause-read g c = fails_later (has_read c.in_ok-lines.ensures.read) c.from_residual-in_err-urgents.ensures c.in_err-urgents.ensures.read

pub returns-in_err-add_lines-clause-read : goal.returns-in_err-add_lines-clause-read
returns-in_err-add_lines-clause-read g c = no_room_left (SqliteFailure OutOfMemory) (read_on (has_read c.in_ok-lines.ensures.read) c.in_ok-urgents.ensures.read) c.from_residual-in_err-add_lines.ensures

pub returns-clause-read : goal.returns-clause-read
returns-clause-read g c =
    let lines = c.in_ok-lines.lines.items in
    let urgents = c.in_ok-urgents.urgents.items in
    let old = c.args.self.now in
    let new = c.add_lines.new.self in
    let gains = subst (λ (l : List LineRow). Gains (has_line_row l) old.lines new.lines) c.as_slice-2.ensures.value c.in_ok-add_lines.ensures.added in
    let urgent_gains = subst (λ (l : List LineRow). Gains (has_line_row (urgent_lines urgents l)) old.urgent new.urgent) c.as_slice-2.ensures.value
    (subst (λ (l : List UrgentRow). Gains (has_line_row (urgent_lines l c.as_slice-2.result.now)) old.urgent new.urgent) c.as_slice-3.ensures.value c.in_ok-add_lines.ensures.added_urgent) in
    let told = λ (t : Tables) (lines_are : AreLinesPut c.args.put.now t lines) (urgents_are : AreUrgentsPut c.args.put.now c.as_slice.result.now t urgents).
    knows_put t c.args.put.now lines lines_are urgents (subst (λ (l : List LineRow). AreUrgentsPut c.args.put.now l t urgents) c.as_slice.ensures.value urgents_are) old new gains urgent_gains in
    so_told (and_then c.in_ok-lines.ensures.read c.in_ok-urgents.ensures.read)
    (λ t h known.
    let lines_told = h.0 known.lines in
    let urgents_told = h.1 known.urgents in (
      told t lines_told.0 urgents_told.0,
      subst (λ (rows : RowsKnown). KnowsFollowed t rows.followed) (sym c.in_ok-add_lines.ensures.rows)
          (record { lots = known.lots; lots_of = known.lots_of; orders = known.orders; urgents = urgents_told.1; lines = lines_told.1; lines_at = known.lines_at; stock = known.stock; staged = known.staged; staged_for = known.staged_for; reserved = known.reserved; reserved_for = known.reserved_for; meta = known.meta }),
    ))
