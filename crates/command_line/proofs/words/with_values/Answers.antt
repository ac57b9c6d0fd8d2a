use Rattle.std.proofs.Common.{◌∙◌, ap, arith, rules}
use Rattle.clap.specs.Simple.{app_of, with_rule}
use Rattle.command_line.proofs.Telling.{value_added}
use Rattle.command_line.proofs.words.with_values.Goals as goal

pub loop-value-preserved : goal.loop-value-preserved
loop-value-preserved c =
    let before = c.loop-value.invariant in
    let told = c.arg_of.ensures in
    let added = c.in_ok-command.ensures in (
      search rules,
      value_added c.args.values.now c.loop-value.value-index _ (app_of c.loop-value.command) _ _ (omega arith) before.1 (added.shape told.local ∙ ap (with_rule (app_of c.loop-value.command)) told.told),
    )
