use Rattle.rows_in_memory.proofs.Words.{refl, false, sym, ap, subst, ◌∙◌, rules, arith, option_copied_mut, placed}
use Rattle.rows_in_memory.proofs.Maps.{changes_in, changes_gone, changes_as, placed_alone, gone_after, ok_value}
use Rattle.rows_in_memory.specs.KnownRows.{ChangesAt}
use Rattle.rows_in_memory.proofs.Weights.{list_gone, list_within, list_changed}
use Rattle.rows_in_memory.proofs.known.KnownRows.place.Goals as goal

-- the list that is not there is begun
pub returns-in_default : goal.returns-in_default
returns-in_default g c =
    let change = placed g.R.KeyedRow.same_row c.args.is_new c.args.row.now in
    let begun = c.begin_list.ensures change (placed_alone g.R.KeyedRow.same_row c.args.is_new c.args.row.now) in
    changes_as g.K.Ord.cmp (g.K.KeyOf.key (g.R.Has.of_row c.args.row.now)) c.of-key.result change c.args.self.now.rows c.begin_list.new.self.rows (c.of-key.ensures ∙ ap g.K.KeyOf.key c.value.ensures)
    (subst (λ m. ChangesAt g.K.Ord.cmp c.of-key.result change (record c.args.self.now.rows { lists = m }) c.begin_list.new.self.rows) c.get_mut.follows.holds-at-none begun)

pub invariant_of-self-then-can_weigh : goal.invariant_of-self-then-can_weigh
invariant_of-self-then-can_weigh g c =
    let found = sym (ap option_copied_mut c.in-Some.is) ∙ c.get_mut.ensures.value in
    record {
      weighs = omega (
        arith,
        c.weight_of-before.ensures,
        c.weight_of-after.ensures,
        c.args.self.now.weighs,
        list_within _ c.args.self.now.rows.lists c.in-Some.rows.now found,
        list_changed _ c.args.self.now.rows.lists (c.get_mut.follows.lender c.put_in-done.new.rows) c.in-Some.rows.now c.put_in-done.new.rows (c.get_mut.follows.holds c.put_in-done.new.rows).0 found,
      );
    }

pub invariant_of-self-else-can_weigh : goal.invariant_of-self-else-can_weigh
invariant_of-self-else-can_weigh g c =
    let found = sym (ap option_copied_mut c.in-Some.is) ∙ c.get_mut.ensures.value in
    let mid = c.get_mut.follows.lender c.put_in-done.new.rows in
    record {
      weighs = omega (
        arith,
        c.weight_of-before.ensures,
        c.weight_of-after.ensures,
        c.args.self.now.weighs,
        list_within _ c.args.self.now.rows.lists c.in-Some.rows.now found,
        list_changed _ c.args.self.now.rows.lists mid c.in-Some.rows.now c.put_in-done.new.rows (c.get_mut.follows.holds c.put_in-done.new.rows).0 found,
        list_gone _ mid c.remove.new.self c.put_in-done.new.rows c.remove.ensures.entries (sym ((c.get_mut.follows.holds c.put_in-done.new.rows).3 (search rules)).1),
      );
    }

pub returns-then-can_weigh : goal.returns-then-can_weigh
returns-then-can_weigh g c =
    changes_in g.K.Ord.cmp (g.K.KeyOf.key (g.R.Has.of_row c.args.row.now)) c.of-key.result (placed g.R.KeyedRow.same_row c.args.is_new c.args.row.now) c.args.self.now.rows (c.of-key.ensures ∙ ap g.K.KeyOf.key c.value.ensures) g.met.K.ExactKey.one_key
    (record c.args.self.now.rows { lists = c.get_mut.follows.lender c.put_in-done.new.rows }) (λ w. w) c.in-Some.rows.now c.put_in-done.new.rows (sym (ap option_copied_mut c.in-Some.is) ∙ c.get_mut.ensures.value) (ok_value _ c.put_in-done.result (c.can_weigh.ensures c.if-can_weigh.true).0 c.put_in-done.ensures)
    ((c.get_mut.follows.holds c.put_in-done.new.rows).3 (search rules)).0

pub returns-else-can_weigh : goal.returns-else-can_weigh
returns-else-can_weigh g c =
    let put = ((c.get_mut.follows.holds c.put_in-done.new.rows).3 (search rules)).0 in
    changes_gone g.K.Ord.cmp (g.K.KeyOf.key (g.R.Has.of_row c.args.row.now)) c.of-key.result (placed g.R.KeyedRow.same_row c.args.is_new c.args.row.now) c.args.self.now.rows (c.of-key.ensures ∙ ap g.K.KeyOf.key c.value.ensures) (record { lists = c.remove.new.self; whole = false }) refl
    (gone_after g.K.Ord.cmp (g.K.KeyOf.key (g.R.Has.of_row c.args.row.now)) c.of-key.result (placed g.R.KeyedRow.same_row c.args.is_new c.args.row.now) c.args.self.now.rows (c.of-key.ensures ∙ ap g.K.KeyOf.key c.value.ensures)
    (c.get_mut.follows.lender c.put_in-done.new.rows) c.remove.new.self c.put_in-done.new.rows put c.remove.ensures.updates.0)
