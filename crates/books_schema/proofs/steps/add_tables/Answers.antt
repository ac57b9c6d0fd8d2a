use Rattle.books_schema.proofs.Words.{◌≡◌, inl, inr, sym, ◌+◌, ◌<◌, ℕ, List, [], length, get_or, drop, ◌∷◌, Ok, refl, subst, ◌∙◌, arith, common_steps, State, HasCleanDisk, ExecutesInside, Schema, created, Trees, state, was_inside, keeps, kept_itself, kept_then, inside_itself, inside_then, table_at, IsGrown, AreMade, grown, TableLayout}
use Rattle.books_schema.proofs.GrowLemmas.{grows}
use Rattle.books_schema.proofs.steps.add_tables.Goals as goal

adds_next : (base : Trees) (first from to : Schema) (layouts : List TableLayout) (i : ℕ) (d : TableLayout) (old new : State) (count : ℕ) → i < length layouts → IsGrown base first from old → AreMade from (drop i layouts)
    → grown from (drop i layouts) ≡ to → ExecutesInside 0 (get_or layouts i d).text.now [] old new (Ok count)
    → (next : Schema) × IsGrown base first next new × AreMade next (drop (i + 1) layouts) × (grown next (drop (i + 1) layouts) ≡ to)
adds_next base first from to layouts i d old new count below so_far made is h =
    let left : drop i layouts ≡ get_or layouts i d ∷ drop (i + 1) layouts = grind (arith, common_steps) in
    let each : AreMade from (get_or layouts i d ∷ drop (i + 1) layouts) = subst (AreMade from) left made in
    let all : grown from (get_or layouts i d ∷ drop (i + 1) layouts) ≡ to = subst (λ l. grown from l ≡ to) left is in
    (created from (table_at 0 (get_or layouts i d)), grows base first from (get_or layouts i d) each.0 old new count so_far h, each.1, all)

pub loop-table-preserved : goal.loop-table-preserved
loop-table-preserved g c =
    let old = state g.S.Store c.args.tx.now.conn.now in
    let mid = state g.S.Store c.loop-table.tx.conn.now in
    let new = state g.S.Store c.execute.new.self.conn.now in
    let one = c.in_ok-execute.ensures in
    let before = c.loop-table.invariant in
    let was = λ (clean : HasCleanDisk new). let it : HasCleanDisk mid = omega (arith, one.survives.clean) in it in (
      one.same_reference ∙ before.0,
      inside_then old mid new before.1 one.survives,
      λ clean. kept_then old mid new (before.2 (was clean)) (keeps g.S.Store _ _ c.loop-table.tx.conn.now c.execute.new.self.conn.now _ one.ended (one.runs clean)),
      λ clean base first from made so_far.
          let at = before.3 (was clean) base first from made so_far in
          adds_next base first at.0 (grown from c.args.tables.now) c.args.tables.now c.loop-table.table-index _ mid new c.in_ok-execute.field-0 (omega arith) at.1 at.2 at.3 (one.runs clean (was_inside _ one.ended)),
      λ clean. inr ((before.2 (was clean)).was_open (one.runs clean (was_inside _ one.ended)).1.was_open),
    )

pub loop-table-init : goal.loop-table-init
loop-table-init g c =
    let old = state g.S.Store c.args.tx.now.conn.now in
    (refl, inside_itself old, λ clean. kept_itself old, λ clean base first from made so_far. (from, so_far, made, refl), λ clean. inl refl)

pub returns-clause-done : goal.returns-clause-done
returns-clause-done g c clean base first from made so_far =
    let at = c.loop-table.invariant.3 clean base first from made so_far in
    let none : drop c.loop-table.table-index c.args.tables.now ≡ [] = grind (arith, common_steps) in
    let same : at.0 ≡ grown from c.args.tables.now = subst (λ l. grown at.0 l ≡ grown from c.args.tables.now) none at.3 in
    subst (λ s. IsGrown base first s (state g.S.Store c.loop-table.tx.conn.now)) same at.1

pub returns-in_err-execute-clause-kept : goal.returns-in_err-execute-clause-kept
returns-in_err-execute-clause-kept g c clean =
    let old = state g.S.Store c.args.tx.now.conn.now in
    let mid = state g.S.Store c.loop-table.tx.conn.now in
    let new = state g.S.Store c.execute.new.self.conn.now in
    let one = c.in_err-execute.ensures in
    let was : HasCleanDisk mid = omega (arith, clean, one.survives.clean) in
    kept_then old mid new (c.loop-table.invariant.2 was) (keeps g.S.Store _ _ c.loop-table.tx.conn.now c.execute.new.self.conn.now _ one.ended (one.runs clean))

pub returns-in_err-execute-clause-survives : goal.returns-in_err-execute-clause-survives
returns-in_err-execute-clause-survives g c =
    inside_then (state g.S.Store c.args.tx.now.conn.now) (state g.S.Store c.loop-table.tx.conn.now) (state g.S.Store c.execute.new.self.conn.now) c.loop-table.invariant.1 c.in_err-execute.ensures.survives

pub returns-clause-same_reference : goal.returns-clause-same_reference
returns-clause-same_reference g c = c.loop-table.invariant.0

pub returns-clause-kept : goal.returns-clause-kept
returns-clause-kept g c = c.loop-table.invariant.2

pub returns-clause-survives : goal.returns-clause-survives
returns-clause-survives g c = c.loop-table.invariant.1

pub returns-clause-was_open : goal.returns-clause-was_open
returns-clause-was_open g c clean =
    let none : drop c.loop-table.table-index c.args.tables.now ≡ [] = grind (arith, common_steps) in
    elim (c.loop-table.invariant.4 clean) [ inl all ↦ inl (sym all ∙ none) | inr up ↦ inr up ]
