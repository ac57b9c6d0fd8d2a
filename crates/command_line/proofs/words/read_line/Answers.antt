use Rattle.std.proofs.Common.{◌≡◌, ◌∙◌, [], ap, map, refl, subst, sym, true}
use Rattle.clap.specs.Faults.{fault_of, is_simple_and_free}
use Rattle.clap.specs.Kinds.{HasKind}
use Rattle.clap.specs.Simple.{is_simple, subcommand_of}
use Rattle.clap.proofs.OnLiterals.{clap_on_literals}
use Rattle.command_line.specs.Program.{program_app}
use Rattle.command_line.proofs.LineRead.{fails_so, line_read}
use Rattle.command_line.proofs.words.read_line.Goals as goal

is_free : is_simple_and_free program_app ≡ true
unfolding clap_on_literals program_app
is_free = refl

simple : is_simple program_app ≡ true
unfolding clap_on_literals program_app
simple = refl

pub returns-in_err-matches-clause-fails : goal.returns-in_err-matches-clause-fails
returns-in_err-matches-clause-fails g c =
    let words = map g.S.AsStr.text c.args.words.now in
    let error = c.in_err-matches.field-0.0 in
    let kinds = subst (λ app. HasKind (fault_of app words) error) c.in_ok-program.ensures (c.in_err-matches.ensures.kinds (ap is_simple_and_free c.in_ok-program.ensures ∙ is_free)) in
    fails_so (λ _. fault_of program_app words ≡ []) _ (HasKind (fault_of program_app words)) c.from_residual-in_err-matches.result (λ e h. subst (HasKind (fault_of program_app words)) (sym h) kinds) c.from_residual-in_err-matches.ensures.1

pub returns-clause-fails : goal.returns-clause-fails
returns-clause-fails g c = rw (sym c.in_ok-program.ensures) (c.in_ok-matches.ensures.kinds (ap is_simple_and_free c.in_ok-program.ensures ∙ is_free))

pub returns-clause-read : goal.returns-clause-read
returns-clause-read g c =
    let words = map g.S.AsStr.text c.args.words.now in
    let same = (c.in_ok-matches.ensures.matches (ap is_simple c.in_ok-program.ensures ∙ simple)).1 ∙ ap (λ app. subcommand_of app words) c.in_ok-program.ensures in
    line_read c.in_ok-matches.matches words c.line_found-line.result same c.line_found-line.ensures
