use Rattle.changes.proofs.Words.{◌≡◌, ◌-◌, [], List, ◌++◌, length, take, drop, Ok, refl, sym, ap, subst, ◌∙◌, append_assoc, arith, take-append-drop, take_all, length-drop, Tables, state, Writes, each_written, with_row, writes_first, writes_then, writes_failed}
use Rattle.changes.proofs.Parts.{each_both}
use Rattle.changes.proofs.adding.add_many.Goals as goal

pub loop-rest-init : goal.loop-rest-init
loop-rest-init g c = (refl, ([], refl, writes_first (with_row g.T.Table.table) (state g.S.Store c.args.tx.now.conn.now)))

pub loop-rest-preserved : goal.loop-rest-preserved
loop-rest-preserved g c =
    let write = with_row g.T.Table.table in
    let old = state g.S.Store c.args.tx.now.conn.now in
    let mid = state g.S.Store c.loop-rest.tx.conn.now in
    let new = state g.S.Store c.add_part.new.tx.conn.now in
    let rest = c.loop-rest.rest.now in
    let so_far = c.loop-rest.invariant in
    let done : List _ = so_far.1.0 in
    let part : List _ = take 5 rest in
    let left : take (length rest - 5) (drop 5 rest) ≡ drop 5 rest = take_all (length rest - 5) (drop 5 rest) (omega (arith, length-drop 5 rest)) in
    let both : ((t : Tables) → each_written write part (each_written write done t) ≡ each_written write (done ++ part) t) = λ t. sym (each_both write done part t) in (
      c.in_ok-add_part.ensures.same_reference ∙ so_far.0,
      (
        done ++ part,
        so_far.1.1 ∙ ap (λ l. done ++ l) (sym (take-append-drop 5 rest)) ∙ sym (append_assoc done part (drop 5 rest)) ∙ ap (λ l. (done ++ part) ++ l) (sym left),
        subst (λ (f : Tables → Tables). Writes {X = Unit {0}} f old new (Ok tt)) (λ j t. both t j) (writes_then (λ _. each_written write done) (λ _. each_written write part) old mid new tt (Ok tt) so_far.1.2 c.in_ok-add_part.ensures.writes),
      ),
    )

pub returns-in_err-add_part-clause-writes : goal.returns-in_err-add_part-clause-writes
returns-in_err-add_part-clause-writes g c =
    writes_failed _ _ _ (state g.S.Store c.args.tx.now.conn.now) (state g.S.Store c.loop-rest.tx.conn.now) (state g.S.Store c.add_part.new.tx.conn.now) tt _ c.from_residual.result c.from_residual.ensures c.loop-rest.invariant.1.2 c.in_err-add_part.ensures.writes

pub returns-clause-writes : goal.returns-clause-writes
returns-clause-writes g c =
    let write = with_row g.T.Table.table in
    let old = state g.S.Store c.args.tx.now.conn.now in
    let mid = state g.S.Store c.loop-rest.tx.conn.now in
    let new = state g.S.Store c.add_all.new.tx.conn.now in
    let so_far = c.loop-rest.invariant in
    let done : List _ = so_far.1.0 in
    let rest = c.loop-rest.rest.now in
    let both : ((t : Tables) → each_written write rest (each_written write done t) ≡ each_written write c.args.rows.now t) = λ t. sym (each_both write done rest t) ∙ ap (λ l. each_written write l t) (sym so_far.1.1) in
    subst (λ (f : Tables → Tables). Writes {X = Unit {0}} f old new c.add_all.result) (λ j t. both t j) (writes_then (λ _. each_written write done) (λ _. each_written write rest) old mid new tt c.add_all.result so_far.1.2 c.add_all.ensures.writes)
