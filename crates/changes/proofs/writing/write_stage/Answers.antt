use Rattle.changes.proofs.Words.{refl, sym, ap, state, tables_in, kept_itself, inside_itself, stage_emptied}
use Rattle.changes.proofs.writing.write_stage.Goals as goal

pub returns-in-None-clause-writes : goal.returns-in-None-clause-writes
returns-in-None-clause-writes g c =
    let same = state g.S.Store c.args.tx.now.conn.now in
    record {
      done = λ _ ready. record { ready = ready; tables = sym (ap (λ stage. stage_emptied stage (tables_in same.now.trees)) c.in-None.is); mode = refl; typed = λ h. h };
      kept = λ _. kept_itself same;
      survives = inside_itself same;
      never_foreign = tt;
    }
