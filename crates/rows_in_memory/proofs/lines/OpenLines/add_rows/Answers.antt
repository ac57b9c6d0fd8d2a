use Rattle.rows_in_memory.proofs.Words.{◌≡◌, ◌+◌, ◌&&◌, ◌∷◌, drop, sym, ap, ◌∙◌, add-one, drop-cons, same_text, LineRow}
use Rattle.rows_in_memory.proofs.Names.{gains_one}
use Rattle.rows_in_memory.proofs.Stepping.{gaining_more, keeps_gained}
use Rattle.rows_in_memory.proofs.lines.OpenLines.add_rows.Goals as goal

pub loop-row-preserved : goal.loop-row-preserved
loop-row-preserved c =
    let rows = c.args.rows.now in
    let i = c.loop-row.row-index in
    let row = c.row-item.result in
    let left : drop i rows ≡ row ∷ drop (i + 1) rows = rw add-one (drop-cons rows i row c.loop-row-test.true) ∙ ap (λ r. r ∷ drop (i + 1) rows) (sym c.row-item.is) in
    let came = gains_one row.gtin row.order c.loop-row.self c.add.new.self c.in_ok-add.ensures.added in (
      gaining_more {X = LineRow} (λ r g o. same_text o r.order && same_text g r.gtin) rows (drop i rows) (drop (i + 1) rows) row c.args.self.now c.loop-row.self c.add.new.self left came c.loop-row.invariant.0,
      keeps_gained _ c.args.self.now c.loop-row.self c.add.new.self came c.loop-row.invariant.1,
    )
