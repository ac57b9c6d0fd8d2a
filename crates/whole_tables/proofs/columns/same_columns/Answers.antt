use Rattle.std.proofs.Common.{ap, sym, ◌∙◌}
use Rattle.whole_tables.proofs.columns.same_columns.Goals as goal

pub returns : goal.returns
returns g c =
    let m = g.M.Mapped.mapping in
    let back = g.met.M.Mapped.mapped.back in (
      λ t. sym (back c.args.a.now) ∙ ap m.of (sym c.parts.ensures ∙ c.are_same.ensures.0 t ∙ c.parts-2.ensures) ∙ back c.args.b.now,
      λ e. c.are_same.ensures.1 (c.parts.ensures ∙ ap m.parts e ∙ sym c.parts-2.ensures),
    )
