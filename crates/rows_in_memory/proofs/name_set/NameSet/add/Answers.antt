use Rattle.rows_in_memory.proofs.Words.{ap, ◌∙◌, with_order}
use Rattle.rows_in_memory.proofs.Lookups.{ok_then, err_then}
use Rattle.rows_in_memory.proofs.Names.{added_apart}
use Rattle.rows_in_memory.proofs.name_set.NameSet.add.Goals as goal

pub invariant_of-self : goal.invariant_of-self
invariant_of-self c =
    let keyed = c.self.invariant.0 in
    (c.add.ensures.keyed keyed, added_apart c.add.result c.args.name c.self.inside.list.values.items c.add.new.self.values.items (ok_then c.add.result c.add.ensures.added (λ f. f keyed)) c.add.ensures.refused c.self.invariant.1)

pub returns-clause-added : goal.returns-clause-added
returns-clause-added c = ok_then c.add.result c.add.ensures.added (λ f. f c.self.invariant.0 ∙ ap (with_order c.args.name) c.self.view_is)

pub returns-clause-refused : goal.returns-clause-refused
returns-clause-refused c = err_then c.add.result c.add.ensures.refused (λ e. e ∙ c.self.view_is)
