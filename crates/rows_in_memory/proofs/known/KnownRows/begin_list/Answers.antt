use Rattle.rows_in_memory.proofs.Words.{Result, Ok, Err, OnOk, OnErr, is_ok, ◌≡◌, true, false, refl, sym, ap, ◌∙◌, rules, arith, is_at, lookup}
use Rattle.rows_in_memory.proofs.Maps.{changes_first, changes_none}
use Rattle.rows_in_memory.proofs.Weights.{list_began}
use Rattle.rows_in_memory.proofs.known.KnownRows.begin_list.Goals as goal

-- what a call answers that was done, and one that was not
done_value : {X E : Type 0} (P : Type 0) (r : Result X E) → is_ok r ≡ true → OnOk r P → P
done_value P (Ok x) is h = h
done_value P (Err e) is h = absurd (let no = is in cc)

failed_value : {X E : Type 0} (P : Type 0) (r : Result X E) → is_ok r ≡ false → OnErr r P → P
failed_value P (Ok x) is h = absurd (let no = is in cc)
failed_value P (Err e) is h = h

pub invariant_of-self-then-is_ok : goal.invariant_of-self-then-is_ok
invariant_of-self-then-is_ok g c = record {
  weighs = omega (
    arith,
    c.in-Some.ensures.1,
    c.weight_of.ensures,
    c.args.self.now.weighs,
    list_began g.K.Ord.cmp g.met.K.Ord.total c.args.self.now.rows.lists c.insert.new.self c.args.key c.in-Ok.list (done_value _ c.insert.result (sym c.is_ok.ensures.value ∙ c.if-is_ok.true) c.insert.ensures.entries) c.requires c.insert.ensures.was_ordered,
  );
}

-- its list is begun
pub returns-then-is_ok : goal.returns-then-is_ok
returns-then-is_ok g c change begins =
    let whole : c.args.self.now.rows.whole ≡ true = search rules in
    changes_first g.K.Ord.cmp c.args.key c.args.key change c.args.self.now.rows refl g.met.K.ExactKey.one_key (record { lists = c.insert.new.self; whole = true }) c.in-Ok.list whole (sym c.requires) (c.in-Ok.ensures ∙ sym begins)
    (done_value _ c.insert.result (sym c.is_ok.ensures.value ∙ c.if-is_ok.true) c.insert.ensures.updates).0

-- there is no room for it
pub returns-else-is_ok : goal.returns-else-is_ok
returns-else-is_ok g c change begins =
    let same = failed_value _ c.insert.result (sym c.is_ok.ensures.value ∙ c.if-is_ok.false) c.insert.ensures.err in
    changes_none g.K.Ord.cmp c.args.key c.args.key change c.args.self.now.rows refl g.met.K.ExactKey.one_key (record { lists = c.insert.new.self; whole = false }) (λ w. let no : false ≡ true = w in cc) (sym c.requires) (λ w. let no : false ≡ true = w in cc)
    (λ q. ap (λ es. lookup (is_at (g.K.Ord.cmp q)) es) same)
