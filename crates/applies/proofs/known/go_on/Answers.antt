use Rattle.applies.proofs.Words.{Ok, refl, ap, sym, subst, ◌∙◌, survives_weaker, newer_text, AtPlace, GoesOn, Leaves, OfText, counted, AreLinesDone, AreBehindDone, LeavesLines}
use Rattle.applies.proofs.Texts.{told_from, told_weaker}
use Rattle.applies.proofs.Passed.{done_before, leaves_before, done_within, leaves_within}
use Rattle.applies.proofs.Walked.{done_behind}
use Rattle.applies.proofs.Wants.{lines_own, rest_own, counted_own}
use Rattle.applies.proofs.known.go_on.Goals as goal

pub returns-in-Before-clause-applied : goal.returns-in-Before-clause-applied
returns-in-Before-clause-applied g c clean left first begun acts history holds passed =
    let b = subst (λ p. AtPlace g.R.Read.remaining left begun p c.args.lines acts) c.in-Before.is passed.place in
    let books = c.do_lines-lines.new.books in
    let line = c.args.lines.line.items in
    let result = c.do_lines-lines.result in
    told_weaker left (λ text. AreLinesDone g.S.Store first begun acts line text c.args.lines.known result books) (λ text. GoesOn g.S.Store first begun acts text c.counted.result books)
    (c.do_lines-lines.ensures.done clean left first begun acts (record { history = history; holds = holds; stands = record { done = passed.done; day = passed.day }; whole = b.whole; read = b.read }))
    (λ text d. subst (λ r. GoesOn g.S.Store first begun acts text r books) (sym (c.counted.ensures ∙ ap (λ n. counted n result) b.known))
    (done_before first begun acts g.S.Store line b.unlike text result books (subst (λ n. AreLinesDone g.S.Store first begun acts line text n result books) b.known d)))

pub returns-in-Before-clause-survives : goal.returns-in-Before-clause-survives
returns-in-Before-clause-survives g c =
    survives_weaker _ _ _ _ (λ clean trees p left first begun acts history holds passed.
    let b = subst (λ q. AtPlace g.R.Read.remaining left begun q c.args.lines acts) c.in-Before.is passed.place in
    told_weaker left (λ text. LeavesLines first begun acts text trees) (λ text. Leaves first begun acts text trees)
    (p left first begun acts (record { history = history; holds = holds; stands = record { done = passed.done; day = passed.day }; whole = b.whole; read = b.read }))
    (λ text l. leaves_before first begun acts text trees l)) c.do_lines-lines.ensures.survives

pub returns-in-Within-clause-applied : goal.returns-in-Within-clause-applied
returns-in-Within-clause-applied g c clean left first begun acts history holds passed =
    let w = subst (λ p. AtPlace g.R.Read.remaining left begun p c.args.lines acts) c.in-Within.is passed.place in
    let books = c.go_within.new.books in
    let result = c.go_within.result in
    told_from left (g.R.Read.remaining c.args.lines.reader) (newer_text begun w.known w.base) (λ text. AreBehindDone g.S.Store first begun acts text c.args.lines.known result books) (λ text. GoesOn g.S.Store first begun acts text result books) w.read
    (c.go_within.ensures.done clean first begun acts history holds (record { done = passed.done; day = passed.day }))
    (λ text d. done_within first begun acts w.known w.base w.parts g.S.Store w.some (newer_text begun w.known w.base) refl text result books (subst (λ n. AreBehindDone g.S.Store first begun acts text n result books) w.count d))

pub returns-in-Within-clause-survives : goal.returns-in-Within-clause-survives
returns-in-Within-clause-survives g c =
    survives_weaker _ _ _ _ (λ clean trees p left first begun acts history holds passed.
    let w = subst (λ q. AtPlace g.R.Read.remaining left begun q c.args.lines acts) c.in-Within.is passed.place in
    told_from left (g.R.Read.remaining c.args.lines.reader) (newer_text begun w.known w.base) (λ text. LeavesLines first begun acts text trees) (λ text. Leaves first begun acts text trees) w.read
    (p first begun acts history holds (record { done = passed.done; day = passed.day }))
    (λ text l. leaves_within first begun acts w.known w.base w.parts g.S.Store w.some (newer_text begun w.known w.base) refl text trees l)) c.go_within.ensures.survives

pub returns-in-Behind-clause-applied : goal.returns-in-Behind-clause-applied
returns-in-Behind-clause-applied g c clean left first begun acts history holds passed =
    let b = subst (λ p. AtPlace g.R.Read.remaining left begun p c.args.lines acts) c.in-Behind.is passed.place in
    subst (λ n. OfText left (λ text. GoesOn g.S.Store first begun acts text (Ok (record { done = 0; known = c.args.lines.known; beyond = n })) c.args.books.now)) (sym c.acts_behind-beyond.ensures)
    (done_behind g.S.Store g.R.Read.remaining left first begun acts history c.args.books.now holds c.args.lines passed.done b)

pub returns-in-Before-clause-own : goal.returns-in-Before-clause-own
returns-in-Before-clause-own g c clean left first begun acts history holds passed =
    let b = subst (λ p. AtPlace g.R.Read.remaining left begun p c.args.lines acts) c.in-Before.is passed.place in
    let books = c.do_lines-lines.new.books in
    let line = c.args.lines.line.items in
    let result = c.do_lines-lines.result in
    let d =
    c.do_lines-lines.ensures.done clean left first begun acts (record { history = history; holds = holds; stands = record { done = passed.done; day = passed.day }; whole = b.whole; read = b.read }) in
    λ is. lines_own g.S.Store first begun acts line d.0 c.args.lines.known result books d.2 (counted_own c.args.lines.known result (sym c.counted.ensures ∙ is))

pub returns-in-Within-clause-own : goal.returns-in-Within-clause-own
returns-in-Within-clause-own g c clean left first begun acts history holds passed =
    let d = c.go_within.ensures.done clean first begun acts history holds (record { done = passed.done; day = passed.day }) in
    rest_own g.S.Store first begun acts d.0 c.args.lines.known c.go_within.result c.go_within.new.books d.2
