use Rattle.store.proofs.Words.{◌≡◌, Option, Some, None, sym, ap, ◌∙◌, state, key_text, RepeatRow, tables_in, kept_unchanged, Act}
use Rattle.store.proofs.ActsFrom.{acts_unread, acts_read}
use Rattle.store.proofs.ActsInside.{told_inside, key_is_fresh, row_is_found}
use Rattle.store.proofs.KnownKept.{known_same}
use Rattle.store.proofs.acting.act_open.Goals as goal

pub returns-in_err-found-clause-acts : goal.returns-in_err-found-clause-acts
returns-in_err-found-clause-acts g c = acts_unread c.from_residual.ensures c.in_err-found.ensures.read (λ clean ready up known. known)

pub returns-in-Some-clause-acts : goal.returns-in-Some-clause-acts
returns-in-Some-clause-acts g c =
    let act : Act = record { key = c.args.key.now; command = c.args.command.now } in
    let old = state g.S.Store c.args.tx.now.conn.now in
    let new = state g.S.Store c.act_under_key.new.tx.conn.now in
    let read = c.in_ok-found.ensures.read in
    record {
      survives = read.survives;
      does = λ up. record {
        acted = λ clean kind first acts history books holds so.
            let told = read.answers clean (books up).ready up in
            let row : ◌≡◌ {A = Option RepeatRow} (Some c.in-Some.row) ((tables_in old.now.trees).repeat (key_text c.args.key.now)) = sym c.in-Some.is ∙ told.1 ∙ ap (λ k. (tables_in old.now.trees).repeat k) c.text.ensures in
            told_inside first acts act c.in-Some.row (row_is_found first acts (key_text c.args.key.now) old.now c.in-Some.row (books up) row) c.repeat_reply.result old new up (books up) told.0 c.repeat_reply.ensures;
        knows = λ clean ready. known_same c.args.known.now c.repeat_reply.result old new (read.answers clean (ready up) up).0 (ready up);
        kept = λ clean ready. kept_unchanged old new (read.answers clean (ready up) up).0;
      };
    }

pub returns-in-None-clause-acts : goal.returns-in-None-clause-acts
returns-in-None-clause-acts g c =
    let act : Act = record { key = c.args.key.now; command = c.args.command.now } in
    let old = state g.S.Store c.args.tx.now.conn.now in
    acts_read c.in_ok-found.ensures.read c.act_anew.ensures.acts (λ clean ready up told known. known) (λ kind first acts history books holds told so.
    let none : ◌≡◌ {A = Option RepeatRow} None ((tables_in old.now.trees).repeat (key_text c.args.key.now)) = sym c.in-None.is ∙ told ∙ ap (λ k. (tables_in old.now.trees).repeat k) c.text.ensures in
    key_is_fresh first acts act old.now books none)
