use Rattle.applies.proofs.Words.{[], Ok, Err, refl, ap, sym, subst, ◌∙◌, AreLinesDone, AreBehindDone}
use Rattle.applies.proofs.Texts.{told_on, told_at_end, told_weaker}
use Rattle.applies.proofs.Passed.{behind_of, long_behind}
use Rattle.applies.proofs.known.go_within.Goals as goal

pub returns-in-Ok-true-clause-done : goal.returns-in-Ok-true-clause-done
returns-in-Ok-true-clause-done g c clean first begun acts history holds at =
    let left = g.R.Read.remaining c.args.reader in
    let books = c.do_lines-lines.new.books in
    let line = c.next_line.new.line.items in
    let result = c.do_lines-lines.result in
    let whole = c.next_line.ensures.whole (c.in-Ok-true.is ∙ ap Ok c.in-Ok-true.field-0-test) in
    told_weaker left (λ text. AreLinesDone g.S.Store first begun acts line text c.args.at.lines result books) (λ text. AreBehindDone g.S.Store first begun acts text c.args.at.lines c.counted.result books)
    (c.do_lines-lines.ensures.done clean left first begun acts (record { history = history; holds = holds; stands = at; whole = whole; read = c.next_line.ensures.bytes }))
    (λ text d. subst (λ r. AreBehindDone g.S.Store first begun acts text c.args.at.lines r books) (sym c.counted.ensures) (behind_of g.S.Store first begun acts line text c.args.at.lines result books d))

pub returns-in-Ok-false-clause-done : goal.returns-in-Ok-false-clause-done
returns-in-Ok-false-clause-done g c clean first begun acts history holds at =
    let line = c.next_line.new.line.items in
    let part = c.next_line.ensures.part (c.in-Ok-false.is ∙ ap Ok c.in-Ok-false.field-0-test) in
    told_at_end (g.R.Read.remaining c.args.reader) (g.R.Read.remaining c.next_line.new.reader) line
    (λ text. AreBehindDone g.S.Store first begun acts text c.args.at.lines (Ok (record { done = 0; known = c.args.at.lines; beyond = 0 })) c.args.books.now) c.next_line.ensures.bytes part.1
    (record { newer = []; history = history; behind = line; is = refl; ended = (part.0, refl); holds = holds; lasts = λ some. absurd (some refl) })

pub returns-in-Err-clause-done : goal.returns-in-Err-clause-done
returns-in-Err-clause-done g c clean first begun acts history holds at =
    let line = c.next_line.new.line.items in
    told_on (g.R.Read.remaining c.args.reader) (g.R.Read.remaining c.next_line.new.reader) line (λ text. AreBehindDone g.S.Store first begun acts text c.args.at.lines (Err c.in-Err.fault) c.args.books.now) c.next_line.ensures.bytes
    (λ rest. long_behind g.S.Store first begun acts c.args.books.now c.args.at.lines line rest c.in-Err.fault history holds c.in-Err.ensures.long)
