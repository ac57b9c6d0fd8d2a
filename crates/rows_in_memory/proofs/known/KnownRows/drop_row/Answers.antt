use Rattle.rows_in_memory.proofs.Words.{refl, sym, ap, ◌∙◌, rules, arith, option_copied_mut, get, without_row}
use Rattle.rows_in_memory.proofs.Maps.{changes_in, changes_none}
use Rattle.rows_in_memory.proofs.Weights.{fewer, list_within, list_changed}
use Rattle.rows_in_memory.proofs.known.KnownRows.drop_row.Goals as goal

pub returns-in_default : goal.returns-in_default
returns-in_default g c =
    changes_none g.K.Ord.cmp (g.K.KeyOf.key (g.R.Has.of_row c.args.row.now)) c.of-key.result (without_row g.R.KeyedRow.same_row c.args.row.now) c.args.self.now.rows (c.of-key.ensures ∙ ap g.K.KeyOf.key c.value.ensures) g.met.K.ExactKey.one_key
    (record c.args.self.now.rows { lists = c.get_mut.follows.lender-at-none }) (λ w. w) (sym (ap option_copied_mut c.in_default.is) ∙ c.get_mut.ensures.value) (λ w. refl) (λ q. ap (λ m. get g.K.Ord.cmp m q) c.get_mut.follows.holds-at-none)

pub returns : goal.returns
returns g c =
    changes_in g.K.Ord.cmp (g.K.KeyOf.key (g.R.Has.of_row c.args.row.now)) c.of-key.result (without_row g.R.KeyedRow.same_row c.args.row.now) c.args.self.now.rows (c.of-key.ensures ∙ ap g.K.KeyOf.key c.value.ensures) g.met.K.ExactKey.one_key
    (record c.args.self.now.rows { lists = c.get_mut.follows.lender c.drop_from.new.rows }) (λ w. w) c.in-Some.rows.now c.drop_from.new.rows (sym (ap option_copied_mut c.in-Some.is) ∙ c.get_mut.ensures.value) c.drop_from.ensures ((c.get_mut.follows.holds c.drop_from.new.rows).3 (search rules)).0

pub overflow_add-self : goal.overflow_add-self
overflow_add-self g c =
    omega (
      arith,
      c.weight_of-before.ensures,
      c.weight_of-after.ensures,
      c.args.self.now.weighs,
      list_within _ c.args.self.now.rows.lists c.in-Some.rows.now (sym (ap option_copied_mut c.in-Some.is) ∙ c.get_mut.ensures.value),
      fewer _ c.in-Some.rows.now c.drop_from.new.rows c.drop_from.ensures,
    )

pub invariant_of-self-2 : goal.invariant_of-self-2
invariant_of-self-2 g c = record {
  weighs = omega (
    arith,
    c.weight_of-before.ensures,
    c.weight_of-after.ensures,
    c.args.self.now.weighs,
    list_within _ c.args.self.now.rows.lists c.in-Some.rows.now (sym (ap option_copied_mut c.in-Some.is) ∙ c.get_mut.ensures.value),
    list_changed _ c.args.self.now.rows.lists (c.get_mut.follows.lender c.drop_from.new.rows) c.in-Some.rows.now c.drop_from.new.rows (c.get_mut.follows.holds c.drop_from.new.rows).0 (sym (ap option_copied_mut c.in-Some.is) ∙ c.get_mut.ensures.value),
  );
}
