use Rattle.std.proofs.Common.{◌≡◌, ◌∙◌, refl}
use Rattle.std.proofs.lemmas.Result.{IfOk-weaker}
use Rattle.clap.specs.Simple.{app_of}
use Rattle.command_line.specs.Program.{add_lines, bare_app, program_app}
use Rattle.command_line.proofs.words.program.Goals as goal

pub returns : goal.returns
unfolding program_app
returns c =
    let e = c.as_slice.ensures in
    let as_written : add_lines c.as_slice.result.now bare_app ≡ program_app = rw e refl in
    let with_bare : add_lines c.as_slice.result.now (app_of c.bare_program.result) ≡ program_app = rw c.bare_program.ensures as_written in
    IfOk-weaker c.with_lines.result _ _ (λ command is. is ∙ with_bare) c.with_lines.ensures
