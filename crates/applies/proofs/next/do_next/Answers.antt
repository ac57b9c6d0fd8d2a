use Rattle.applies.proofs.Words.{refl, survives_weaker}
use Rattle.applies.proofs.NextLine.{added, wrong, leaves}
use Rattle.applies.proofs.next.do_next.Goals as goal

pub returns-in-Ok-clause-done : goal.returns-in-Ok-clause-done
returns-in-Ok-clause-done g c clean first begun acts line history holds at own =
    added first begun acts line c.args.at.now at c.args.next.now own g.S.Store (record { done = c.args.next.now.number; day = c.args.next.now.day; lines = c.args.next.now.line }) c.act_again.new.books
    (c.in-Ok.ensures.replayed clean first acts history holds) (c.in-Ok.ensures.kept clean first acts history holds) refl refl refl

pub returns-in-Ok-clause-survives : goal.returns-in-Ok-clause-survives
returns-in-Ok-clause-survives g c =
    survives_weaker _ _ _ _ (λ clean trees p first begun acts line history holds at own. leaves first begun acts line c.args.at.now at c.args.next.now own trees history (p own.sound.kind first acts history holds.keeps)) c.act_again.ensures.survives

pub returns-in-Err-clause-done : goal.returns-in-Err-clause-done
returns-in-Err-clause-done g c clean first begun acts line history holds at own = (
  c.in-Err.ensures.left clean first acts history holds,
  wrong first begun acts line c.args.at.now at c.args.next.now own g.S.Store c.act_again.new.books c.in-Err.fault c.not_done.result (c.in-Err.ensures.replayed clean first acts history holds) c.not_done.ensures,
)

pub returns-in-Err-clause-survives : goal.returns-in-Err-clause-survives
returns-in-Err-clause-survives g c =
    survives_weaker _ _ _ _ (λ clean trees p first begun acts line history holds at own. leaves first begun acts line c.args.at.now at c.args.next.now own trees history (p own.sound.kind first acts history holds.keeps)) c.act_again.ensures.survives
