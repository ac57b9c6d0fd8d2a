use Rattle.replays.proofs.Words.{◌≡◌, rules, key_text, spelling, Act}
use Rattle.replays.proofs.RowSteps.{row_replayed}
use Rattle.replays.proofs.rows.replay_row.Goals as goal

pub returns-clause-replayed : goal.returns-clause-replayed
returns-clause-replayed g c = λ clean first acts history holds.
    let row = c.args.row.now in
    let act : Act = record { key = c.in-Some.key; command = c.in-Some-2.command } in
    let key : row.k ≡ key_text act.key = search rules in
    let command : row.spell ≡ spelling act.command = search rules in
    row_replayed g.S.Store first acts row act c.act_again.new.books (record { key = key; command = command }) c.every_key_is_sound.ensures.sound c.every_command_is_sound.ensures.sound c.act_again.result
    (c.act_again.ensures.replayed clean first acts history holds)
