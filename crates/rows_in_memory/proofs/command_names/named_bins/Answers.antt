use Rattle.rows_in_memory.proofs.Words.{List, ℕ, ap, ◌∙◌, names_of, with_some}
use Rattle.rows_in_memory.proofs.command_names.named_bins.Goals as goal

pub returns-clause-names : goal.returns-clause-names
returns-clause-names c =
    let bin = (names_of c.args.command.now).bin in
    let other = (names_of c.args.command.now).other_bin in
    c.in_ok-add_some-2.ensures.added (c.in_ok-add_some.ensures.keyed c.new-list.ensures.keyed)
    ∙ ap (λ b. with_some b c.add_some.new.list.values.items) c.names-names.ensures.other_bin
    ∙ ap (with_some other) (c.in_ok-add_some.ensures.added c.new-list.ensures.keyed)
    ∙ ap (λ b. with_some other (with_some b c.new-list.result.values.items)) c.names-names.ensures.bin
    ∙ ap (λ (l : List (List ℕ)). with_some other (with_some bin l)) c.new-list.ensures.none
