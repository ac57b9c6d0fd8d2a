use Rattle.books_schema.proofs.Words.{◌≡◌, [], OnOk, ◌∙◌, ap, subst, refl, arith, state, HasCleanDisk, on_ok_then, AreOlderRows, HasRoom, number, older_with, HasOurs, OlderBooks, First, Second}
use Rattle.books_schema.proofs.BringLemmas.{least_added, urgents_added, urgents_behind, bare_grown, grown_room}
use Rattle.books_schema.proofs.migration.make_room.Goals as goal

pub returns-clause-done : goal.returns-clause-done
returns-clause-done g c clean base books =
    let mid = state g.S.Store c.drop_indexes.new.tx.conn.now in
    let new = state g.S.Store c.run_steps.new.tx.conn.now in
    let was : HasCleanDisk mid = omega (arith, clean, c.run_steps.ensures.survives.clean) in
    let dropped : HasOurs c.args.older base [] mid = c.in_ok-drop_indexes.ensures.done was c.args.older base books.ours books.has in
    elim c.args.older as (λ o. c.args.older ≡ o → OnOk c.run_steps.result (HasRoom o base new)) [
      | First ↦ λ is.
          let above : c.number.result ≡ 1 = c.number.ensures ∙ ap number is in
          let runs = c.run_steps.ensures.done clean base (older_with First []) (older_with First []) in
          on_ok_then c.run_steps.result ((rw above at runs) (least_added, (urgents_added, tt)) (bare_grown First base mid (subst (λ (o : OlderBooks). HasOurs o base [] mid) is dropped)))
          (grown_room First base new (subst (λ (o : OlderBooks). AreOlderRows o base) is books.rows))
      | Second ↦ λ is.
          let above : c.number.result ≡ 2 = c.number.ensures ∙ ap number is in
          let runs = c.run_steps.ensures.done clean base (older_with Second []) (older_with Second []) in
          on_ok_then c.run_steps.result ((rw above at runs) (urgents_behind, tt) (bare_grown Second base mid (subst (λ (o : OlderBooks). HasOurs o base [] mid) is dropped)))
          (grown_room Second base new (subst (λ (o : OlderBooks). AreOlderRows o base) is books.rows))
    ] refl
