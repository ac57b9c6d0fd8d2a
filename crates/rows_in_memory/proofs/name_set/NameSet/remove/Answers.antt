use Rattle.rows_in_memory.proofs.Words.{◌≡◌, ℕ, false, not, cond, List, reverse, ap, sym, subst, ◌∙◌, rules, nat_cmp, slice_cmp, is_at, contains, filter_same, same_text, is_among, are_apart, without_order, names_told}
use Rattle.rows_in_memory.proofs.KeysSeen.{keyed_without}
use Rattle.rows_in_memory.proofs.Names.{among_without, apart_without, without_none}
use Rattle.rows_in_memory.proofs.name_set.NameSet.remove.Goals as goal
use Rattle.rows_in_memory.proofs.name_set.NameSet.remove.Goals.{After-retain}

left : (c : After-retain) → c.retain.new.self.items ≡ without_order c.args.name.now c.self.inside.list.values.items
left c = filter_same _ (λ x. not (same_text c.args.name.now x)) _ (λ x b f h. search rules) c.self.inside.list.values.items c.retain.new.self.items c.retain.ensures.filtered

pub invariant_of-self : goal.invariant_of-self
invariant_of-self c =
    let name = c.args.name.now in
    let names = c.self.inside.list.values.items in
    let keys = c.self.inside.list.keys in
    let is = left (goal.at.invariant_of-self c).After-retain in
    let updates =
    subst (λ (k : List ℕ). (q : List ℕ) → contains (slice_cmp nat_cmp) c.remove.new.self q ≡ cond (is_at (slice_cmp nat_cmp k) q) false (contains (slice_cmp nat_cmp) keys q)) c.of_name.ensures c.remove.ensures.updates.0 in (
      keyed_without (slice_cmp nat_cmp) reverse same_text names_told keys c.remove.new.self names c.retain.new.self.items name c.self.invariant.0 updates (λ x. ap (λ l. is_among l x) is ∙ among_without name names x),
      ap are_apart is ∙ apart_without name names c.self.invariant.1,
    )

pub returns-then-remove : goal.returns-then-remove
returns-then-remove c = left (goal.at.returns-then-remove c).After-retain ∙ ap (without_order c.args.name.now) c.self.view_is

pub returns-else-remove : goal.returns-else-remove
returns-else-remove c =
    let name = c.args.name.now in
    let names = c.self.inside.list.values.items in
    let absent : is_among names name ≡ false =
    sym (c.self.invariant.0 name) ∙ ap (contains (slice_cmp nat_cmp) c.self.inside.list.keys) (sym c.of_name.ensures) ∙ sym c.remove.ensures.test ∙ c.if-remove.false in
    sym (without_none name names absent) ∙ ap (without_order name) c.self.view_is
