use Rattle.store.proofs.Words.{◌≡◌, rules, sym, subst, Option, State, HasCleanDisk, Survives, state, tables_in, today, tables_of, KnowsRows, Known, IsKnownOf, IsKnown, IsFoundAs, IsShownOn}
use Rattle.store.proofs.ActsWhole.{begun_state}
use Rattle.store.proofs.HandedOn.{Stays}
use Rattle.store.proofs.KnownKept.{holds_begun}
use Rattle.store.proofs.KnownShown.{known_shown}
use Rattle.store.proofs.ShownWhole.{look_stays, look_survives, ShownWhole, found_shown}
use Rattle.store.proofs.showing.show.Goals as goal

pub returns-clause-shown : goal.returns-clause-shown
returns-clause-shown g c =
    let query = c.args.query.now in
    let old = state g.S.Store c.args.conn.now in
    let begun = state g.S.Store c.transaction-tx.result.conn.now in
    let last = state g.S.Store c.find_found-found.new.tx.conn.now in
    let new = state g.S.Store c.rollback.new.self.0 in
    let is = begun_state g.S.Store c.args.conn.now c.transaction-tx.result.conn.now c.transaction-tx.ensures.begun in
    let found = c.find_found-found.ensures.looks in
    let whole : ShownWhole (λ first acts. today first acts ≡ c.args.day) (λ first acts. g.Q.Query.shown first acts query) c.view_of.result old new =
    found_shown old begun last new is found.does.kept c.rollback.ensures.survives c.rollback.ensures.undone (λ first acts. today first acts ≡ c.args.day)
    (λ first acts. g.Q.Query.shown first acts query) (λ first acts. IsFoundAs (λ x. g.Q.Query.is_in query (tables_of first acts) x)) c.find_found-found.result c.view_of.result
    (λ clean first acts history books. found.does.found clean first acts books (λ up. subst (λ (x : Option Known). IsKnownOf x (tables_in begun.now.trees) × KnowsRows (tables_in begun.now.trees) c.take_rows-rows.result) (sym c.as_ref.ensures.value)
    (c.take_rows-rows.ensures (tables_in begun.now.trees) (holds_begun old begun last new is found.survives c.args.known.now c.requires.known clean up))))
    (λ first acts history is_day so. c.view_of.ensures.shown first acts history is_day so) in
    λ clean first acts history held is_day.
    let told : HasCleanDisk new → IsShownOn first acts (g.Q.Query.shown first acts query) c.view_of.result new = λ here. whole here first acts history held is_day in
    search (rules, told)

pub returns-clause-known : goal.returns-clause-known
returns-clause-known g c =
    let old = state g.S.Store c.args.conn.now in
    let begun = state g.S.Store c.transaction-tx.result.conn.now in
    let last = state g.S.Store c.find_found-found.new.tx.conn.now in
    let new = state g.S.Store c.rollback.new.self.0 in
    let is = begun_state g.S.Store c.args.conn.now c.transaction-tx.result.conn.now c.transaction-tx.ensures.begun in
    let found = c.find_found-found.ensures.looks in
    let t = tables_in begun.now.trees in
    let stays : Stays old new = look_stays old begun last new is found.does.kept c.rollback.ensures.survives c.rollback.ensures.undone in
    let whole : IsKnown c.put_back.new.known new =
    known_shown old begun last new is found.survives c.args.known.now c.put_back.new.known c.requires.known c.rollback.ensures.survives stays (λ clean ready holds up.
    c.put_back.ensures t (c.take_rows-rows.ensures t (holds up)).0
    (found.does.knows clean ready (λ up. subst (λ (x : Option Known). IsKnownOf x t × KnowsRows t c.take_rows-rows.result) (sym c.as_ref.ensures.value) (c.take_rows-rows.ensures t (holds up))))) in
    subst (λ (s : State). IsKnown c.put_back.new.known s) (search rules) whole

pub returns-clause-stays : goal.returns-clause-stays
returns-clause-stays g c =
    let old = state g.S.Store c.args.conn.now in
    let begun = state g.S.Store c.transaction-tx.result.conn.now in
    let last = state g.S.Store c.find_found-found.new.tx.conn.now in
    let new = state g.S.Store c.rollback.new.self.0 in
    let is = begun_state g.S.Store c.args.conn.now c.transaction-tx.result.conn.now c.transaction-tx.ensures.begun in
    let whole : Stays old new = look_stays old begun last new is c.find_found-found.ensures.looks.does.kept c.rollback.ensures.survives c.rollback.ensures.undone in
    search (rules, whole)

pub returns-clause-survives : goal.returns-clause-survives
returns-clause-survives g c =
    let old = state g.S.Store c.args.conn.now in
    let begun = state g.S.Store c.transaction-tx.result.conn.now in
    let last = state g.S.Store c.find_found-found.new.tx.conn.now in
    let new = state g.S.Store c.rollback.new.self.0 in
    let is = begun_state g.S.Store c.args.conn.now c.transaction-tx.result.conn.now c.transaction-tx.ensures.begun in
    let whole : Survives old new (λ _. ⊥) = look_survives old begun last new is c.find_found-found.ensures.looks.survives c.rollback.ensures.survives in
    subst (λ (s : State). Survives old s (λ _. ⊥)) (search rules) whole
