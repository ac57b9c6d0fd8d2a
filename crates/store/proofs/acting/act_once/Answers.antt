use Rattle.store.proofs.Words.{◌≡◌, Bool, OnErr, IsTrue, rules, subst, IfSome, Tables, IsReady, HoldsOf, state, State, HasCleanDisk, KeepsCommit, Act, IsKnown, HasLeft, Store}
use Rattle.store.proofs.ActsWhole.{ActsInside, ActsWhole, SurvivesWhole, begun_state, act_finished, act_stopped}
use Rattle.store.proofs.KnownKept.{holds_begun, kept_finished, known_finished}
use Rattle.store.proofs.acting.act_once.Goals as goal

pub returns-clause-acted : goal.returns-clause-acted
returns-clause-acted g c =
    let act : Act = record { key = c.args.key.now; command = c.args.command.now } in
    let old = state g.S.Store c.args.conn.now in
    let begun = state g.S.Store c.transaction-tx.result.conn.now in
    let last = state g.S.Store c.act_inside-reply.new.tx.conn.now in
    let new = state g.S.Store c.finish-reply.new.tx.0 in
    let is = begun_state g.S.Store c.args.conn.now c.transaction-tx.result.conn.now c.transaction-tx.ensures.begun in
    let inside : ActsInside act c.act_inside-reply.result begun last = λ clean kind first acts history books.
    c.act_inside-reply.ensures.acts.does.acted clean kind first acts history books (holds_begun old begun last new is c.act_inside-reply.ensures.acts.survives c.args.known.now c.requires.known clean) tt in
    let whole : ActsWhole act c.finish-reply.result old new = act_finished act old begun last new is c.act_inside-reply.result c.finish-reply.result inside c.act_inside-reply.ensures.acts.does.kept c.finish-reply.ensures.survives c.finish-reply.ensures.ends in
    subst (λ (s : State). ActsWhole act c.finish-reply.result old s) (search rules) whole

pub returns-clause-survives : goal.returns-clause-survives
returns-clause-survives g c =
    let act : Act = record { key = c.args.key.now; command = c.args.command.now } in
    let old = state g.S.Store c.args.conn.now in
    let begun = state g.S.Store c.transaction-tx.result.conn.now in
    let last = state g.S.Store c.act_inside-reply.new.tx.conn.now in
    let new = state g.S.Store c.finish-reply.new.tx.0 in
    let is = begun_state g.S.Store c.args.conn.now c.transaction-tx.result.conn.now c.transaction-tx.ensures.begun in
    let inside : ActsInside act c.act_inside-reply.result begun last = λ clean kind first acts history books.
    c.act_inside-reply.ensures.acts.does.acted clean kind first acts history books (holds_begun old begun last new is c.act_inside-reply.ensures.acts.survives c.args.known.now c.requires.known clean) tt in
    let whole : SurvivesWhole act old new = act_stopped act old begun last new is c.act_inside-reply.result inside c.act_inside-reply.ensures.acts.survives c.finish-reply.ensures.survives in
    subst (λ (s : State). SurvivesWhole act old s) (search rules) whole

pub returns-clause-as_before : goal.returns-clause-as_before
returns-clause-as_before g c =
    let old = state g.S.Store c.args.conn.now in
    let begun = state g.S.Store c.transaction-tx.result.conn.now in
    let last = state g.S.Store c.act_inside-reply.new.tx.conn.now in
    let new = state g.S.Store c.finish-reply.new.tx.0 in
    let is = begun_state g.S.Store c.args.conn.now c.transaction-tx.result.conn.now c.transaction-tx.ensures.begun in
    let whole : HasCleanDisk new → OnErr c.finish-reply.result (KeepsCommit old new) =
    kept_finished old begun last new is c.act_inside-reply.ensures.acts.survives c.args.known.now c.requires.known c.finish-reply.ensures.survives (λ _ e. e ≡ Store) c.act_inside-reply.result c.finish-reply.result c.act_inside-reply.ensures.acts.does.kept c.finish-reply.ensures.ends in
    subst (λ (s : State). HasCleanDisk s → OnErr c.finish-reply.result (KeepsCommit old s)) (search rules) whole

pub returns-clause-known : goal.returns-clause-known
returns-clause-known g c =
    let old = state g.S.Store c.args.conn.now in
    let begun = state g.S.Store c.transaction-tx.result.conn.now in
    let last = state g.S.Store c.act_inside-reply.new.tx.conn.now in
    let new = state g.S.Store c.finish-reply.new.tx.0 in
    let is = begun_state g.S.Store c.args.conn.now c.transaction-tx.result.conn.now c.transaction-tx.ensures.begun in
    let inside = λ (clean : HasCleanDisk last) (ready : IsTrue begun.is_open → IsReady begun.now). c.act_inside-reply.ensures.acts.does.knows clean ready in
    let forgets = subst (λ (b : Bool). OnErr c.finish-reply.result ((t : Tables) → HasLeft b c.act_inside-reply.new.known t → IfSome c.forget_undone.new.known (λ k. HoldsOf k t))) c.is_ok-acted.ensures.value c.forget_undone.ensures.undone in
    let whole : IsKnown c.forget_undone.new.known new =
    known_finished old begun last new is c.act_inside-reply.ensures.acts.survives c.args.known.now c.requires.known c.finish-reply.ensures.survives (λ _ e. e ≡ Store) c.act_inside-reply.result c.finish-reply.result c.act_inside-reply.ensures.acts.does.kept c.finish-reply.ensures.ends
    c.act_inside-reply.new.known (λ clean ready. (inside clean ready).answered) c.forget_undone.new.known (λ clean ready. (inside clean ready).before) c.forget_undone.ensures.committed forgets in
    subst (λ (s : State). IsKnown c.forget_undone.new.known s) (search rules) whole
