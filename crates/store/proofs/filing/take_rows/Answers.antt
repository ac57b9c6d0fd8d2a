use Rattle.store.proofs.Words.{◌≡◌, ◌+◌, drop, ◌∷◌, [], ap, subst, ◌∙◌, refl, arith, common_steps, HasCleanDisk, state, Act, kept_itself, kept_then, inside_itself, inside_then, rows_of, IsFiledInside}
use Rattle.store.proofs.FilesInside.{AreUnderWay, under_way_at_first, row_kind, row_next, one_row_on, ends_at_row, all_rows_taken}
use Rattle.store.proofs.FilesWhole.{by_row_error}
use Rattle.store.proofs.KnownKept.{none_answered}
use Rattle.store.proofs.filing.take_rows.Goals as goal

pub loop-row-init : goal.loop-row-init
loop-row-init g c =
    let old = state g.S.Store c.args.tx.now.conn.now in (
      refl,
      inside_itself old,
      refl,
      λ clean keys first acts history books holds. under_way_at_first first acts (rows_of c.args.rows.now) c.args.day old _ refl history books,
      λ clean ready. (kept_itself old, ready, refl, λ holds. holds),
    )

pub loop-row-preserved : goal.loop-row-preserved
loop-row-preserved g c =
    let rows = c.args.rows.now in
    let i = c.loop-row.row-index in
    let row = c.row-item.result in
    let act : Act = record { key = row.0; command = row.1 } in
    let old = state g.S.Store c.args.tx.now.conn.now in
    let mid = state g.S.Store c.loop-row.tx.conn.now in
    let new = state g.S.Store c.take_row.new.tx.conn.now in
    let one = c.in_ok-filed.ensures in
    let takes = one.takes in
    let before = c.loop-row.invariant in
    let left : drop i rows ≡ row ∷ drop (i + 1) rows = grind (arith, common_steps) in (
      one.same_reference ∙ before.0,
      inside_then old mid new before.1 takes.survives,
      one.count ∙ ap (λ n. n + 1) before.2,
      λ clean keys first acts history books holds.
          let was : HasCleanDisk mid = omega (arith, clean, takes.survives.clean) in
          let way = row_next rows i row (drop (i + 1) rows) left first acts c.args.day c.loop-row.filed old mid (before.3 was keys first acts history books holds) in
          one_row_on first acts (rows_of rows) c.args.day old act (rows_of (drop (i + 1) rows)) c.loop-row.filed mid new way c.in_ok-filed.filed
          (takes.does.taken clean (row_kind rows i row (drop (i + 1) rows) left keys) first way.so_far way.shows.history way.shows.books ((before.4 was books.ready).3 holds)),
      λ clean ready.
          let was : HasCleanDisk mid = omega (arith, clean, takes.survives.clean) in
          let so_far = before.4 was ready in
          let goes = takes.does.knows clean so_far.1 in
          (kept_then old mid new so_far.0 (takes.does.kept clean so_far.1), goes.1, goes.2 ∙ so_far.2, λ holds. goes.3 (so_far.3 holds)),
    )

pub returns-in_err-filed-clause-same_reference : goal.returns-in_err-filed-clause-same_reference
returns-in_err-filed-clause-same_reference g c = c.in_err-filed.ensures.same_reference ∙ c.loop-row.invariant.0

pub returns-in_err-filed-clause-files : goal.returns-in_err-filed-clause-files
returns-in_err-filed-clause-files g c =
    let rows = c.args.rows.now in
    let i = c.loop-row.row-index in
    let row = c.row-item.result in
    let act : Act = record { key = row.0; command = row.1 } in
    let old = state g.S.Store c.args.tx.now.conn.now in
    let mid = state g.S.Store c.loop-row.tx.conn.now in
    let new = state g.S.Store c.take_row.new.tx.conn.now in
    let before = c.loop-row.invariant in
    let takes = c.in_err-filed.ensures.takes in
    let left : drop i rows ≡ row ∷ drop (i + 1) rows = grind (arith, common_steps) in
    let was : HasCleanDisk new → HasCleanDisk mid = λ clean. omega (arith, clean, takes.survives.clean) in
    record {
      survives = inside_then old mid new before.1 takes.survives;
      does = λ up. record {
        filed = λ clean keys first acts history books holds.
            let way = row_next rows i row (drop (i + 1) rows) left first acts c.args.day c.loop-row.filed old mid (before.3 (was clean) keys first acts history (books up) (holds up)) in
            by_row_error c.from_residual.result c.in_err-filed.field-0.0 c.from_residual.ensures (λ r. IsFiledInside first acts (rows_of rows) c.args.day r old new)
            (ends_at_row first acts (rows_of rows) c.args.day old act (rows_of (drop (i + 1) rows)) c.loop-row.filed mid new way c.in_err-filed.field-0.0
            (takes.does.taken clean (row_kind rows i row (drop (i + 1) rows) left keys) first way.so_far way.shows.history way.shows.books ((before.4 (was clean) (books up).ready).3 (holds up))));
        knows = λ clean ready. none_answered _ c.from_residual.result c.from_residual.ensures.0;
        kept = λ clean ready.
            let so_far = before.4 (was clean) (ready up) in
            kept_then old mid new so_far.0 (takes.does.kept clean so_far.1);
      };
    }

pub returns-clause-same_reference : goal.returns-clause-same_reference
returns-clause-same_reference g c = c.loop-row.invariant.0

pub returns-clause-files : goal.returns-clause-files
returns-clause-files g c =
    let rows = c.args.rows.now in
    let old = state g.S.Store c.args.tx.now.conn.now in
    let now = state g.S.Store c.loop-row.tx.conn.now in
    let none : drop c.loop-row.row-index rows ≡ [] = grind (arith, common_steps) in
    let all = c.loop-row.invariant in
    record {
      survives = all.1;
      does = λ up. record {
        filed = λ clean keys first acts history books holds. all_rows_taken first acts (rows_of rows) c.args.day old c.loop-row.filed now
            (subst (λ l. AreUnderWay first acts (rows_of rows) (rows_of l) c.args.day c.loop-row.filed old now) none (all.3 clean keys first acts history (books up) (holds up)));
        knows = λ clean ready. let so_far = all.4 clean (ready up) in (up, so_far.1, so_far.2, so_far.3);
        kept = λ clean ready. (all.4 clean (ready up)).0;
      };
    }

pub take_row-requires : goal.take_row-requires
take_row-requires g c = omega (arith, c.loop-row.invariant.2, c.loop-row-test.true, c.requires)
