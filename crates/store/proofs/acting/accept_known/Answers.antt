use Rattle.store.proofs.Words.{Ok, Result, subst, sym, arith, Some, HasCleanDisk, state, IsReady, tables_in, kept_unchanged, kept_then, inside_then, Act, IsInsideOpen, Acts, IsDecidedAs, RepeatRow, repeat_of, change_made, Fault, Reply}
use Rattle.store.proofs.ActsFrom.{acts_unread}
use Rattle.store.proofs.ActsInside.{accepted_inside}
use Rattle.store.proofs.KnownKept.{holds_more, known_written, known_answered_to}
use Rattle.store.proofs.LinesFilled.{Fills, made_as_written, writes_rows}
use Rattle.store.proofs.acting.accept_known.Goals as goal

pub returns-in_err-add_change-clause-acts : goal.returns-in_err-add_change-clause-acts
returns-in_err-add_change-clause-acts g c =
    let t = tables_in (state g.S.Store c.args.tx.now.conn.now).now.trees in
    let added = c.add_change.ensures in
    acts_unread c.from_residual.ensures c.in_err-add_change.ensures.read
    (λ clean ready up. holds_more c.args.known.now c.add_change.new.self c.args.change.now.put t added.keeps added.keeps_urgent added.raised added.forgets (added.followed clean ready up))

pub returns-clause-acts : goal.returns-clause-acts
returns-clause-acts g c =
    let act : Act = record { key = c.args.key.now; command = c.args.command.now } in
    let change = c.args.change.now in
    let old = state g.S.Store c.args.tx.now.conn.now in
    let mid = state g.S.Store c.add_change.new.tx.conn.now in
    let new = state g.S.Store c.accept-written.new.tx.conn.now in
    let added = c.add_change.ensures in
    let read = c.in_ok-add_change.ensures.read in
    let done = c.accept-written.result in
    let writes = c.accept-written.ensures.writes in
    let row : RepeatRow = repeat_of act.key act.command change in
    let filled = c.order_filled-filled.result in
    let fills = subst (Fills c.args.known.now filled) c.as_slice.ensures c.order_filled-filled.ensures in
    subst (λ (r : Result Reply Fault). IsInsideOpen (Acts act (IsDecidedAs (Ok change)) (Some c.args.known.now) (Some c.follow.new.known) r) old new) (sym c.answer_to.ensures) (record {
      survives = inside_then old mid new read.survives writes.survives;
      does = λ up.
          let was : HasCleanDisk new → HasCleanDisk mid = λ clean. omega (arith, clean, writes.survives.clean) in
          let same = λ (clean : HasCleanDisk new) (ready : IsReady old.now). (read.answers (was clean) ready up).0 in
          let stays : HasCleanDisk new → IsReady old.now → IsReady mid.now = λ clean ready. subst IsReady (sym (same clean ready).0.now_is) ready in
          record {
            acted = λ clean kind first acts history books holds so. accepted_inside first acts act change old mid new up (books up) (same clean (books up).ready) so.0 so.1 done
                (writes_rows c.args.known.now change filled fills row old mid new done (same clean (books up).ready) (holds up) writes) clean (stays clean (books up).ready);
            knows = λ clean ready. known_answered_to change (Some c.args.known.now) (Some c.follow.new.known) done old new
                (known_written c.args.known.now c.add_change.new.self c.follow.new.known change row added.keeps added.keeps_urgent added.raised added.forgets c.follow.ensures.same (change_made change filled) done old mid new (same clean (ready up))
                (added.followed (was clean) (ready up) up) (read.answers (was clean) (ready up) up).1 c.follow.ensures.follows c.follow.ensures.unwritten (made_as_written c.args.known.now change filled fills (tables_in old.now.trees)) (writes.done clean (stays clean (ready up))));
            kept = λ clean ready. kept_then old mid new (kept_unchanged old mid (same clean (ready up))) (writes.kept clean);
          };
    })
