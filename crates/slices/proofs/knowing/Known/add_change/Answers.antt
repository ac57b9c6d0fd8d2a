use Rattle.slices.proofs.Words.{sym, subst, state, tables_in, Keeps, IsRaised, KnowsFollowed, ForgetsPut, Followed, Bounds, Known, RowsKnown}
use Rattle.slices.proofs.ReadSteps.{as_told}
use Rattle.slices.proofs.LinesRead.{put_read, followed_read}
use Rattle.slices.proofs.StillKnown.{forgets_beside}
use Rattle.slices.proofs.knowing.Known.add_change.Goals as goal

pub returns-clause-keeps : goal.returns-clause-keeps
returns-clause-keeps g c = subst (λ (k : Known). Keeps c.args.self.now.lines k.lines) (sym c.forget_unread.ensures.same) c.read_change-added.ensures.keeps

pub returns-clause-keeps_urgent : goal.returns-clause-keeps_urgent
returns-clause-keeps_urgent g c = subst (λ (k : Known). Keeps c.args.self.now.urgent k.urgent) (sym c.forget_unread.ensures.same) c.read_change-added.ensures.keeps_urgent

pub returns-clause-raised : goal.returns-clause-raised
returns-clause-raised g c =
    let bounds = c.args.self.now.bounds in
    subst (λ (k : Known). IsRaised c.args.put.now bounds k.bounds) (sym c.forget_unread.ensures.same) (subst (λ (b : Bounds). IsRaised c.args.put.now bounds b) (sym c.read_change-added.ensures.bounds) c.raised-self.ensures)

pub returns-clause-forgets : goal.returns-clause-forgets
returns-clause-forgets g c =
    let put = c.args.put.now in
    let old = c.args.self.now.rows in
    let added = c.read_change-added.new.self.rows in
    let forgets = subst (λ (rows : RowsKnown). ForgetsPut put old rows) (sym c.read_change-added.ensures.rows) (forgets_beside put old c.forget_put.new.self added.followed c.forget_put.ensures.forgets) in
    subst (λ (k : Known). ForgetsPut put old k.rows) (sym c.forget_unread.ensures.same) (forgets_beside put old added c.forget_unread.new.self.rows.followed forgets)

pub returns-clause-followed : goal.returns-clause-followed
returns-clause-followed g c clean ready up known =
    let old = state g.S.Store c.args.tx.now.conn.now in
    let last = state g.S.Store c.read_change-added.new.tx.conn.now in
    let before = record c.args.self.now { bounds = c.raised-self.result; rows = c.forget_put.new.self } in
    followed_read c.args.put.now before c.read_change-added.new.self c.forget_unread.new.self old last c.read_change-added.result c.read_change-added.ensures.read c.forget_unread.ensures.read c.forget_unread.ensures.unread clean ready up
    (subst (λ (f : Followed). KnowsFollowed (tables_in old.now.trees) f) (sym c.forget_put.ensures.followed) known)

pub returns-clause-read : goal.returns-clause-read
returns-clause-read g c =
    let old = state g.S.Store c.args.tx.now.conn.now in
    let last = state g.S.Store c.read_change-added.new.tx.conn.now in
    let before = record c.args.self.now { bounds = c.raised-self.result; rows = c.forget_put.new.self } in
    as_told (put_read c.args.put.now before c.read_change-added.new.self c.forget_unread.new.self old last c.read_change-added.result c.read_change-added.ensures.read c.forget_unread.ensures.same)
    (λ t x tells known. tells (subst (λ (f : Followed). KnowsFollowed t f) (sym c.forget_put.ensures.followed) known))
