use Rattle.store.proofs.Words.{◌≡◌, take, subst, arith, common_steps, All-more}
use Rattle.store.proofs.FilesInside.{IsSoundRow, rows_are_sound}
use Rattle.store.proofs.filing.every_row_is_sound.Goals as goal

pub returns : goal.returns
returns c =
    let all : take c.loop-row.row-index c.args.rows.now ≡ c.args.rows.now = grind (arith, common_steps) in
    rows_are_sound c.loop-row.row-index c.args.rows.now all c.loop-row.invariant

pub loop-row-preserved : goal.loop-row-preserved
loop-row-preserved c =
    let rows = c.args.rows.now in
    let i = c.loop-row.row-index in
    All-more IsSoundRow rows i c.row-item.result c.loop-row-test.true c.loop-row.invariant
    (subst IsSoundRow c.row-item.is (c.every_key_is_sound.ensures.sound, c.every_command_is_sound.ensures.sound))
