use Rattle.std.proofs.Common.{◌∙◌, nat_cmp}
use Rattle.std.specs.Cmp.Lexicographic.{slice_cmp}
use Rattle.values.proofs.Packing.{by_numbers}
use Rattle.values.proofs.text_key.TextKeyOrd.cmp.Goals as goal

pub returns : goal.returns
returns c =
    c.cmp.ensures
    ∙ by_numbers c.self.inside.turned c.other.inside.turned c.self.invariant c.other.invariant
    ∙ (λ z. slice_cmp nat_cmp (c.self.view_is z) (c.other.view_is z))
