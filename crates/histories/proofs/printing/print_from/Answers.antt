use Rattle.histories.proofs.Words.{refl, sym, subst, Ok, Err, state, IsOfRows, Output}
use Rattle.histories.proofs.Kept.{told, lines_told, stays}
use Rattle.histories.proofs.printing.print_from.Goals as goal

pub returns-in-Ok-clause-printed : goal.returns-in-Ok-clause-printed
returns-in-Ok-clause-printed g c clean ready first acts history held =
    told first acts history (state g.S.Store c.args.conn.now) ready held g.W.Write.contents c.args.begun (record { alloc = c.args.alloc; day = c.args.begun; done = 0; fault = Output; out = c.args.out }) c.each_of_all-handed.new.sink refl refl (Ok tt) (c.in-Ok.ensures.handed clean ready held.typed)

pub returns-in-Err-clause-printed : goal.returns-in-Err-clause-printed
returns-in-Err-clause-printed g c clean ready first acts history held =
    told first acts history (state g.S.Store c.args.conn.now) ready held g.W.Write.contents c.args.begun (record { alloc = c.args.alloc; day = c.args.begun; done = 0; fault = Output; out = c.args.out }) c.each_of_all-handed.new.sink refl refl (Err c.in-Err.cause) (c.in-Err.ensures.handed clean ready held.typed)

pub returns-in-Ok-clause-left : goal.returns-in-Ok-clause-left
returns-in-Ok-clause-left g c clean ready = stays (state g.S.Store c.args.conn.now) (state g.S.Store c.each_of_all-handed.new.conn) (Ok tt) (c.in-Ok.ensures.left clean ready)

pub returns-in-Err-clause-left : goal.returns-in-Err-clause-left
returns-in-Err-clause-left g c clean ready = stays (state g.S.Store c.args.conn.now) (state g.S.Store c.each_of_all-handed.new.conn) (Err c.in-Err.cause) (c.in-Err.ensures.left clean ready)

pub returns-in-Err-clause-foreign : goal.returns-in-Err-clause-foreign
returns-in-Err-clause-foreign g c clean ready first acts history held =
    let old = state g.S.Store c.args.conn.now in
    subst (IsOfRows old.now.trees) (sym c.of.ensures)
    (lines_told first acts history old ready held g.W.Write.contents (record { alloc = c.args.alloc; day = c.args.begun; done = 0; fault = Output; out = c.args.out }) c.each_of_all-handed.new.sink refl c.in-Err.cause (c.in-Err.ensures.handed clean ready held.typed))
