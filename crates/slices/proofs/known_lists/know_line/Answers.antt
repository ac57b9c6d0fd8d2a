use Rattle.slices.proofs.Words.{◌≡◌, true, List, Option, sym, subst, ◌∙◌, bytes_eq, IfSome, LineRow, LineKey, same_line, line_key, line_key_cmp, turned_line, lines_told, lines_exact, and_both, AreLinesOfOrder, AreLineOf}
use Rattle.slices.proofs.RowsAmong.{rows_among}
use Rattle.slices.proofs.KeysTold.{same_line_is}
use Rattle.slices.proofs.KnowsEach.{remembers_at}
use Rattle.slices.proofs.known_lists.know_line.Goals as goal

pub returns-in-Ok : goal.returns-in-Ok
returns-in-Ok c t lines lines_at =
    let line : LineKey = c.args.line.now in
    let known = c.in-Some.known.now in
    let all : AreLinesOfOrder line.0 t known = subst (λ (x : Option (List LineRow)). IfSome x (AreLinesOfOrder line.0 t)) (sym c.in-Some.ensures) (lines line.0) in
    let within = λ (k : LineKey) (e : same_line line k ≡ true). (and_both (bytes_eq line.0 k.0) (bytes_eq line.1 k.1) e).0 in
    let own : AreLineOf line t c.in-Ok.own.items = subst (λ (rows : List LineRow). AreLineOf line t rows) (sym c.in-Ok.ensures) (rows_among same_line line_key same_line_is (λ k. bytes_eq line.0 k.0) (λ k. same_line line k) within (λ k. t.line k.0 k.1) known all) in
    remembers_at line_key_cmp turned_line (λ x y e. lines_exact x y (sym (lines_told x y) ∙ e)) (λ by found. AreLineOf by t found) line c.in-Ok.own.items c.args.lines_at.now.rows c.keep.new.self.rows c.keep.ensures.learns own lines_at
