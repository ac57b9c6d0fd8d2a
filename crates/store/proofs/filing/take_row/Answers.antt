use Rattle.store.proofs.Words.{◌≡◌, ◌+◌, sym, subst, Result, IfOk, state, Act, IsSoundRequest, Filed, RowFault, IsInside, TakesRow}
use Rattle.store.proofs.FilesInside.{row_taken, one_counted, where_acted}
use Rattle.store.proofs.filing.take_row.Goals as goal

pub returns-clause-takes : goal.returns-clause-takes
returns-clause-takes g c =
    let act : Act = record { key = c.args.row.now.0; command = c.args.row.now.1 } in
    let old = state g.S.Store c.args.tx.now.conn.now in
    let done = c.act_inside-acted in
    let new = state g.S.Store done.new.tx.conn.now in
    let acts = done.ensures.acts in
    subst (λ (r : Result Filed RowFault). IsInside (TakesRow act c.args.known.now done.new.known c.args.so_far r) old new) (sym c.with_row.ensures) (record {
      survives = acts.survives;
      does = record {
        taken = λ clean kind first list history books holds.
            let sound : IsSoundRequest act = record { kind = kind; key = c.every_key_is_sound.ensures.sound; command = c.every_command_is_sound.ensures.sound } in
            row_taken first list act c.args.so_far old new done.result sound history books (acts.does.acted clean kind first list history (λ _. books) (λ _. holds) tt);
        knows = λ clean ready. where_acted c.args.so_far c.args.row.now.1 _ done.result (acts.does.knows clean (λ _. ready)).answered;
        kept = λ clean ready. acts.does.kept clean (λ _. ready);
      };
    })

pub returns-clause-count : goal.returns-clause-count
returns-clause-count g c =
    let t = c.args.so_far.tally in
    subst (λ (r : Result Filed RowFault). IfOk r (λ filed. filed.tally.accepted + filed.tally.repeated ≡ t.accepted + t.repeated + 1)) (sym c.with_row.ensures) (one_counted c.args.so_far c.args.row.now.1 c.act_inside-acted.result)
