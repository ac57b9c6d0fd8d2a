use Rattle.applies.proofs.Words.{◌++◌, Ok, ap, subst, inl, ◌∙◌, ◌⊎◌, state, IsOfWant, MisfitsThere, IsLineAdded, LeavesLine, Store}
use Rattle.applies.proofs.Loop.{one_done, next_read, ended, fails_behind, fails_at, leaves_at}
use Rattle.applies.proofs.WalkEnds.{then_left}
use Rattle.applies.proofs.lines.do_lines.Goals as goal

pub lines-preserved : goal.lines-preserved
lines-preserved g c = record {
  clean = λ k. c.lines.invariant.clean (c.do_line.ensures.clean k);
  comes = λ clean left first begun acts s.
      let m = c.lines.invariant.comes (c.do_line.ensures.clean clean) left first begun acts s in
      let one = one_done g.S.Store g.R.Read.remaining left first begun acts c.args.line.items c.args.at.lines c.lines.at c.do_line.new.at c.lines.reader c.lines.line.items c.lines.books c.do_line.new.books m
      (subst (λ l. IsLineAdded g.S.Store first begun (m.newer ++ acts) l c.lines.at c.do_line.new.at c.do_line.new.books) c.as_slice.ensures.value (c.in-Ok.ensures.done clean first begun (m.newer ++ acts) m.history m.holds m.stands)) in
      next_read g.S.Store g.R.Read.remaining left first begun acts c.args.line.items c.args.at.lines c.do_line.new.at c.lines.reader c.next_line.new.reader c.next_line.new.line.items c.do_line.new.books one c.next_line.ensures.bytes
      (c.next_line.ensures.whole (c.in-Ok-next_line.is ∙ ap Ok c.if-not-more.false));
  survives = then_left (state g.S.Store c.args.books.now.conn) (state g.S.Store c.lines.books.conn) (state g.S.Store c.do_line.new.books.conn) _ _ _ c.lines.invariant.survives c.do_line.ensures.survives (λ clean trees p. p)
      (λ clean trees q left first begun acts s.
      let m = c.lines.invariant.comes (c.do_line.ensures.clean clean) left first begun acts s in
      leaves_at g.S.Store g.R.Read.remaining left first begun acts c.args.line.items c.args.at.lines c.lines.at c.lines.reader c.lines.line.items c.lines.books m trees (subst (λ l. LeavesLine first begun (m.newer ++ acts) l trees) c.as_slice.ensures.value (q first begun (m.newer ++ acts) m.history m.holds m.stands)));
}

pub returns-in-Err-clause-done : goal.returns-in-Err-clause-done
returns-in-Err-clause-done g c clean left first begun acts s =
    let m = c.lines.invariant.comes (c.do_line.ensures.clean clean) left first begun acts s in
    let h = c.in-Err.ensures.done clean first begun (m.newer ++ acts) m.history m.holds m.stands in
    fails_at g.S.Store g.R.Read.remaining left first begun acts c.args.line.items c.args.at.lines c.lines.at c.lines.reader c.lines.line.items c.lines.books c.do_line.new.books m c.in-Err.fault h.0
    (subst (λ l. IsOfWant c.in-Err.fault ⊎ MisfitsThere first begun (m.newer ++ acts) c.lines.at.lines l c.in-Err.fault) c.as_slice.ensures.value h.1)

pub returns-in-Err-clause-survives : goal.returns-in-Err-clause-survives
returns-in-Err-clause-survives g c =
    then_left (state g.S.Store c.args.books.now.conn) (state g.S.Store c.lines.books.conn) (state g.S.Store c.do_line.new.books.conn) _ _ _ c.lines.invariant.survives c.do_line.ensures.survives (λ clean trees p. p)
    (λ clean trees q left first begun acts s.
    let m = c.lines.invariant.comes (c.do_line.ensures.clean clean) left first begun acts s in
    leaves_at g.S.Store g.R.Read.remaining left first begun acts c.args.line.items c.args.at.lines c.lines.at c.lines.reader c.lines.line.items c.lines.books m trees (subst (λ l. LeavesLine first begun (m.newer ++ acts) l trees) c.as_slice.ensures.value (q first begun (m.newer ++ acts) m.history m.holds m.stands)))

pub returns-then-not-more-clause-done : goal.returns-then-not-more-clause-done
returns-then-not-more-clause-done g c clean left first begun acts s =
    let m = c.lines.invariant.comes (c.do_line.ensures.clean clean) left first begun acts s in
    let one = one_done g.S.Store g.R.Read.remaining left first begun acts c.args.line.items c.args.at.lines c.lines.at c.do_line.new.at c.lines.reader c.lines.line.items c.lines.books c.do_line.new.books m
    (subst (λ l. IsLineAdded g.S.Store first begun (m.newer ++ acts) l c.lines.at c.do_line.new.at c.do_line.new.books) c.as_slice.ensures.value (c.in-Ok.ensures.done clean first begun (m.newer ++ acts) m.history m.holds m.stands)) in
    let part = c.next_line.ensures.part (c.in-Ok-next_line.is ∙ ap Ok c.if-not-more.true) in
    ended g.S.Store g.R.Read.remaining left first begun acts c.args.line.items c.args.at.lines c.do_line.new.at c.lines.reader c.next_line.new.reader c.next_line.new.line.items c.do_line.new.books one c.next_line.ensures.bytes part.0 part.1

pub returns-then-not-more-clause-survives : goal.returns-then-not-more-clause-survives
returns-then-not-more-clause-survives g c =
    then_left (state g.S.Store c.args.books.now.conn) (state g.S.Store c.lines.books.conn) (state g.S.Store c.do_line.new.books.conn) _ _ _ c.lines.invariant.survives c.do_line.ensures.survives (λ clean trees p. p)
    (λ clean trees q left first begun acts s.
    let m = c.lines.invariant.comes (c.do_line.ensures.clean clean) left first begun acts s in
    leaves_at g.S.Store g.R.Read.remaining left first begun acts c.args.line.items c.args.at.lines c.lines.at c.lines.reader c.lines.line.items c.lines.books m trees (subst (λ l. LeavesLine first begun (m.newer ++ acts) l trees) c.as_slice.ensures.value (q first begun (m.newer ++ acts) m.history m.holds m.stands)))

pub returns-in-Err-next_line-clause-done : goal.returns-in-Err-next_line-clause-done
returns-in-Err-next_line-clause-done g c clean left first begun acts s =
    let m = c.lines.invariant.comes (c.do_line.ensures.clean clean) left first begun acts s in
    let one = one_done g.S.Store g.R.Read.remaining left first begun acts c.args.line.items c.args.at.lines c.lines.at c.do_line.new.at c.lines.reader c.lines.line.items c.lines.books c.do_line.new.books m
    (subst (λ l. IsLineAdded g.S.Store first begun (m.newer ++ acts) l c.lines.at c.do_line.new.at c.do_line.new.books) c.as_slice.ensures.value (c.in-Ok.ensures.done clean first begun (m.newer ++ acts) m.history m.holds m.stands)) in
    fails_behind g.S.Store g.R.Read.remaining left first begun acts c.args.line.items c.args.at.lines c.do_line.new.at c.lines.reader c.next_line.new.reader c.next_line.new.line.items c.do_line.new.books one c.next_line.ensures.bytes c.in-Err-next_line.fault c.in-Err-next_line.ensures.long

pub returns-in-Err-next_line-clause-survives : goal.returns-in-Err-next_line-clause-survives
returns-in-Err-next_line-clause-survives g c =
    then_left (state g.S.Store c.args.books.now.conn) (state g.S.Store c.lines.books.conn) (state g.S.Store c.do_line.new.books.conn) _ _ _ c.lines.invariant.survives c.do_line.ensures.survives (λ clean trees p. p)
    (λ clean trees q left first begun acts s.
    let m = c.lines.invariant.comes (c.do_line.ensures.clean clean) left first begun acts s in
    leaves_at g.S.Store g.R.Read.remaining left first begun acts c.args.line.items c.args.at.lines c.lines.at c.lines.reader c.lines.line.items c.lines.books m trees (subst (λ l. LeavesLine first begun (m.newer ++ acts) l trees) c.as_slice.ensures.value (q first begun (m.newer ++ acts) m.history m.holds m.stands)))

pub returns-clause-done : goal.returns-clause-done
returns-clause-done g c clean left first begun acts s =
    let m = c.lines.invariant.comes clean left first begun acts s in
    fails_at g.S.Store g.R.Read.remaining left first begun acts c.args.line.items c.args.at.lines c.lines.at c.lines.reader c.lines.line.items c.lines.books c.lines.books m Store m.holds (inl tt)
