use Rattle.replays.proofs.Words.{◌≡◌, [], ◌∷◌, ◌++◌, ◌-◌, take, append_assoc, arith, sym, ap, subst, ◌∙◌, Ok, Err, append-nil, AreRowsReplayed}
use Rattle.replays.proofs.RowSteps.{ends_rows}
use Rattle.replays.proofs.rows.replay_rows.Goals as goal

pub loop-row-init : goal.loop-row-init
loop-row-init g c = (λ clean. clean, ([], sym (append-nil c.args.rows.items), λ clean first history holds. (([], tt, history, holds), λ is_open. is_open)))

pub returns-in-Err-clause-clean : goal.returns-in-Err-clause-clean
returns-in-Err-clause-clean g c = λ clean. c.loop-row.invariant.0 (c.replay_row.ensures.clean clean)

pub returns-in-Err-clause-replayed : goal.returns-in-Err-clause-replayed
returns-in-Err-clause-replayed g c = λ clean first history holds.
    let row = c.in-Some.row in
    let left = c.pop.new.self.items in
    let so_far = c.loop-row.invariant.1 in
    let held = (so_far.2 (c.replay_row.ensures.clean clean) first history holds).0 in
    let parts : c.args.rows.items ≡ left ++ row ∷ so_far.0 = so_far.1 ∙ ap (λ l. l ++ so_far.0) c.in-Some.ensures.items ∙ append_assoc left (row ∷ []) so_far.0 in
    subst (λ rows. AreRowsReplayed g.S.Store first rows (Err c.in-Err.fault) c.replay_row.new.books) (sym parts)
    (ends_rows g.S.Store first left so_far.0 row held.0 c.in-Err.fault c.replay_row.new.books held.1 held.2 (c.in-Err.ensures.replayed clean first held.0 held.2 held.3))

pub loop-row-smaller : goal.loop-row-smaller
loop-row-smaller g c = omega (arith, c.in-Some.ensures.cases, c.give_back.ensures.len)

pub loop-row-preserved : goal.loop-row-preserved
loop-row-preserved g c =
    let row = c.in-Some.row in
    let left = c.pop.new.self.items in
    let so_far = c.loop-row.invariant.1 in (
      λ clean. c.loop-row.invariant.0 (c.replay_row.ensures.clean clean),
      (
        row ∷ so_far.0,
        so_far.1 ∙ ap (λ l. l ++ so_far.0) c.in-Some.ensures.items ∙ append_assoc left (row ∷ []) so_far.0 ∙ ap (λ l. l ++ row ∷ so_far.0) (sym c.give_back.ensures.items),
        λ clean first history holds.
            let held = (so_far.2 (c.replay_row.ensures.clean clean) first history holds).0 in
            let one = c.in-Ok.ensures.replayed clean first held.0 held.2 held.3 in
            ((one.0 ∷ held.0, (one.1, held.1), one.2, one.4), λ is_open. one.3),
      ),
    )

pub returns-clause-clean : goal.returns-clause-clean
returns-clause-clean g c = c.loop-row.invariant.0

pub returns-clause-replayed : goal.returns-clause-replayed
returns-clause-replayed g c = λ clean first history holds.
    let so_far = c.loop-row.invariant.1 in
    let none : c.loop-row.rows.items ≡ [] =
    c.in_default.ensures.items ∙ append-nil c.pop.new.self.items ∙ c.in_default.ensures.rest ∙ ap (λ n. take (n - 1) c.loop-row.rows.items) c.in_default.ensures.cases.0 in
    subst (λ rows. AreRowsReplayed g.S.Store first rows (Ok tt) c.loop-row.books) (sym (so_far.1 ∙ ap (λ l. l ++ so_far.0) none)) (so_far.2 clean first history holds).0

pub returns-clause-open : goal.returns-clause-open
returns-clause-open g c = λ clean first history holds is_open. (c.loop-row.invariant.1.2 clean first history holds).1 is_open
