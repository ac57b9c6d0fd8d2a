-- What is told of behind what was told.
use Rattle.std.proofs.Common.{◌≡◌, ◌∙◌, ◌+◌, ◌<◌, ◌∷◌, ℕ, List, length, get_or, drop, ap, sym, arith}
use Rattle.std.proofs.lemmas.Grind.{common_steps}
use Rattle.clap.specs.Simple.{App, with_rule, with_subcommand}
use Rattle.command_line.specs.Program.{add_lines, add_values, line_app, value_rule}
use Rattle.command_line.specs.declared.words.Value.{Value}
use Rattle.command_line.specs.declared.words.Words.{Words}

pub value_added : (values : List Value) (i : ℕ) (d : Value) (a b to : App) → i < length values → add_values (drop i values) a ≡ to → b ≡ with_rule a (value_rule (get_or values i d)) → add_values (drop (i + 1) values) b ≡ to
value_added values i d a b to below so_far is =
    let left : drop i values ≡ get_or values i d ∷ drop (i + 1) values = grind (arith, common_steps) in
    ap (add_values (drop (i + 1) values)) is ∙ sym (ap (λ v. add_values v a) left) ∙ so_far

pub line_added : (lines : List Words) (i : ℕ) (d : Words) (a b to : App) → i < length lines → add_lines (drop i lines) a ≡ to → b ≡ with_subcommand a (line_app (get_or lines i d)).top → add_lines (drop (i + 1) lines) b ≡ to
line_added lines i d a b to below so_far is =
    let left : drop i lines ≡ get_or lines i d ∷ drop (i + 1) lines = grind (arith, common_steps) in
    ap (add_lines (drop (i + 1) lines)) is ∙ sym (ap (λ l. add_lines l a) left) ∙ so_far
