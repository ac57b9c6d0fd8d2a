use Rattle.rows_in_memory.proofs.Words.{◌&&◌, rules, same_text}
use Rattle.rows_in_memory.proofs.Names.{loses_one}
use Rattle.rows_in_memory.proofs.Stepping.{own_line, loses_as}
use Rattle.rows_in_memory.proofs.lines.OpenLines.forget_line.Goals as goal

pub returns-then-eq : goal.returns-then-eq
returns-then-eq c =
    let order = c.args.order.now in
    let line = c.args.line.now in
    loses_as (λ g o. same_text o order && same_text g line.gtin) (λ g o. same_text o order && (same_text o line.order && same_text g line.gtin)) c.args.self.now c.remove.new.self
    (λ g o. own_line order line.order line.gtin g o (search rules)) (loses_one line.gtin order c.args.self.now c.remove.new.self c.remove.ensures)
