use Rattle.rows_in_memory.proofs.Words.{◌≡◌, sym, ap, subst, ◌∙◌, rules, Some, None, option_copied_mut, without_order, ChangesAt}
use Rattle.rows_in_memory.proofs.Lookups.{seen, found_at, changed_in, same_if_none}
use Rattle.rows_in_memory.proofs.lines.OpenLines.remove.Goals as goal
use Rattle.rows_in_memory.proofs.lines.OpenLines.remove.Goals.{in-Some, in_default}

pub returns : goal.returns
returns c = elim c.match-get_mut.branch [
  | in-Some w ↦
      let names = w.remove.new.self in
      let found = sym (ap option_copied_mut w.in-Some.is) ∙ c.get_mut.ensures.value in
      let done : ChangesAt c.args.gtin.now (without_order c.args.order.now) c.args.self.now (seen (c.get_mut.follows.lender names).entries) =
      changed_in c.args.gtin.now c.of_gtin.result c.self.inside.orders.entries (c.get_mut.follows.lender names).entries c.args.self.now (Some w.in-Some.orders.now) names (without_order c.args.order.now)
      c.self.view_is c.of_gtin.ensures found ((c.get_mut.follows.holds names).3 (search rules)).0 w.remove.ensures in
      subst (λ s. ChangesAt c.args.gtin.now (without_order c.args.order.now) c.args.self.now (seen s.orders.entries)) (sym w.self-inside-is) done
  | in_default w ↦
      let none = sym (ap option_copied_mut w.in_default.is) ∙ c.get_mut.ensures.value in
      let is : seen c.get_mut.follows.lender-at-none.entries ≡ c.args.self.now = ap (λ m. seen m.entries) c.get_mut.follows.holds-at-none ∙ c.self.view_is in
      let done : ChangesAt c.args.gtin.now (without_order c.args.order.now) c.args.self.now (seen c.get_mut.follows.lender-at-none.entries) =
      same_if_none c.args.order.now c.args.gtin.now c.args.self.now _ (sym (found_at c.args.gtin.now c.of_gtin.result c.self.inside.orders.entries c.args.self.now None c.self.view_is c.of_gtin.ensures none)) is in
      subst (λ s. ChangesAt c.args.gtin.now (without_order c.args.order.now) c.args.self.now (seen s.orders.entries)) (sym w.self-inside-is) done
]
