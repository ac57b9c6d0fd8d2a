use Rattle.rows_in_memory.proofs.Words.{sym, ap, ◌∙◌, rules, Some, None, option_copied_mut, nat_cmp, slice_cmp, is_at, lookup, with_order}
use Rattle.rows_in_memory.proofs.Lookups.{seen, changed_in, unchanged_at, ok_then, err_then}
use Rattle.rows_in_memory.proofs.lines.OpenLines.add.Goals as goal

pub returns-in-Some-clause-added : goal.returns-in-Some-clause-added
returns-in-Some-clause-added c =
    let held = c.get_mut.follows.holds c.add.new.self in
    let found = sym (ap option_copied_mut c.in-Some.is) ∙ c.get_mut.ensures.value in
    ok_then c.add.result c.add.ensures.added (λ e.
    changed_in c.args.gtin c.of_gtin.result c.self.inside.orders.entries (c.get_mut.follows.lender c.add.new.self).entries c.args.self.now (Some c.in-Some.orders.now) c.add.new.self (with_order c.args.order)
    c.self.view_is c.of_gtin.ensures found (held.3 (search rules)).0 e)

pub returns-in-Some-clause-refused : goal.returns-in-Some-clause-refused
returns-in-Some-clause-refused c =
    let held = c.get_mut.follows.holds c.add.new.self in
    let found = sym (ap option_copied_mut c.in-Some.is) ∙ c.get_mut.ensures.value in
    err_then c.add.result c.add.ensures.refused (λ e. unchanged_at c.args.gtin _ _
    (changed_in c.args.gtin c.of_gtin.result c.self.inside.orders.entries (c.get_mut.follows.lender c.add.new.self).entries c.args.self.now (Some c.in-Some.orders.now) c.add.new.self (λ names. names)
    c.self.view_is c.of_gtin.ensures found (held.3 (search rules)).0 e))

pub returns-in_ok-insert-in-None-clause-added : goal.returns-in_ok-insert-in-None-clause-added
returns-in_ok-insert-in-None-clause-added c =
    let before = c.get_mut.follows.lender-at-none in
    let found = sym (ap option_copied_mut c.in-None.is) ∙ c.get_mut.ensures.value in
    changed_in c.args.gtin c.of_gtin-in-None.result before.entries c.insert.new.self.entries c.args.self.now None c.add-in-None.new.self (with_order c.args.order)
    (ap (λ m. seen m.entries) c.get_mut.follows.holds-at-none ∙ c.self.view_is) c.of_gtin-in-None.ensures
    (found ∙ ap (λ k. lookup (is_at (slice_cmp nat_cmp k)) c.self.inside.orders.entries) (c.of_gtin.ensures ∙ sym c.of_gtin-in-None.ensures) ∙ ap (λ m. lookup (is_at (slice_cmp nat_cmp c.of_gtin-in-None.result)) m.entries) (sym c.get_mut.follows.holds-at-none))
    c.in_ok-insert-in-None.ensures.updates.0
    (c.in_ok-add-in-None.ensures.added ∙ ap (with_order c.args.order) c.new-orders.ensures)
