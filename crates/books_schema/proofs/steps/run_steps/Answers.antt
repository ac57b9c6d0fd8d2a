use Rattle.books_schema.proofs.Words.{◌≡◌, inl, inr, ap, ◌+◌, ◌<◌, ℕ, List, [], length, get_or, drop, ◌∷◌, ◌++◌, refl, sym, subst, ◌∙◌, arith, common_steps, State, HasCleanDisk, Schema, Trees, state, kept_itself, kept_then, inside_itself, inside_then, IsGrown, AreMade, grown, added_by, added_above, Step}
use Rattle.books_schema.proofs.GrowLemmas.{made_first, made_then, grown_then}
use Rattle.books_schema.proofs.steps.run_steps.Goals as goal

runs_next : (base : Trees) (first from to : Schema) (above : ℕ) (steps : List Step) (i : ℕ) (d : Step) (new : State) → i < length steps → AreMade from (added_above above (drop i steps)) → grown from (added_above above (drop i steps)) ≡ to
    → (AreMade from (added_by above (get_or steps i d)) → IsGrown base first (grown from (added_by above (get_or steps i d))) new)
    → (next : Schema) × IsGrown base first next new × AreMade next (added_above above (drop (i + 1) steps)) × (grown next (added_above above (drop (i + 1) steps)) ≡ to)
runs_next base first from to above steps i d new below made is runs =
    let here = added_by above (get_or steps i d) in
    let rest = added_above above (drop (i + 1) steps) in
    let left : drop i steps ≡ get_or steps i d ∷ drop (i + 1) steps = grind (arith, common_steps) in
    let each : AreMade from (here ++ rest) = subst (λ l. AreMade from (added_above above l)) left made in
    let all : grown from (here ++ rest) ≡ to = subst (λ l. grown from (added_above above l) ≡ to) left is in
    (grown from here, runs (made_first from here rest each), made_then from here rest each, sym (grown_then from here rest) ∙ all)

-- where the step at a place adds none, those behind it add all
none_at : (above : ℕ) (steps : List Step) (i : ℕ) (d : Step) → i < length steps → added_by above (get_or steps i d) ≡ [] → added_above above (drop (i + 1) steps) ≡ added_above above (drop i steps)
none_at above steps i d below none =
    let left : drop i steps ≡ get_or steps i d ∷ drop (i + 1) steps = grind (arith, common_steps) in
    sym (ap (added_above above) left ∙ ap (λ l. l ++ added_above above (drop (i + 1) steps)) none)

pub loop-step-preserved : goal.loop-step-preserved
loop-step-preserved g c =
    let old = state g.S.Store c.args.tx.now.conn.now in
    let mid = state g.S.Store c.loop-step.tx.conn.now in
    let new = state g.S.Store c.run_step.new.tx.conn.now in
    let one = c.in_ok-run_step.ensures in
    let before = c.loop-step.invariant in
    let was = λ (clean : HasCleanDisk new). let it : HasCleanDisk mid = omega (arith, one.survives.clean) in it in (
      one.same_reference ∙ before.0,
      inside_then old mid new before.1 one.survives,
      λ clean. kept_then old mid new (before.2 (was clean)) (one.kept clean),
      λ clean base first from made so_far.
          let at = before.3 (was clean) base first from made so_far in
          runs_next base first at.0 (grown from (added_above c.args.above c.args.steps.now)) c.args.above c.args.steps.now c.loop-step.step-index _ new (omega arith) at.2 at.3 (λ each. one.done clean base first at.0 each at.1),
      λ clean. elim (one.was_open clean) [
        | inl none ↦ elim (before.4 (was clean)) [ inl all ↦ inl (none_at c.args.above c.args.steps.now c.loop-step.step-index _ (omega arith) none ∙ all) | inr up ↦ inr up ]
        | inr up ↦ inr ((before.2 (was clean)).was_open up)
      ],
    )

pub loop-step-init : goal.loop-step-init
loop-step-init g c =
    let old = state g.S.Store c.args.tx.now.conn.now in
    (refl, inside_itself old, λ clean. kept_itself old, λ clean base first from made so_far. (from, so_far, made, refl), λ clean. inl refl)

pub returns-clause-done : goal.returns-clause-done
returns-clause-done g c clean base first from made so_far =
    let to = grown from (added_above c.args.above c.args.steps.now) in
    let at = c.loop-step.invariant.3 clean base first from made so_far in
    let none : drop c.loop-step.step-index c.args.steps.now ≡ [] = grind (arith, common_steps) in
    let same : at.0 ≡ to = subst (λ l. grown at.0 (added_above c.args.above l) ≡ to) none at.3 in
    subst (λ s. IsGrown base first s (state g.S.Store c.loop-step.tx.conn.now)) same at.1

pub returns-in_err-run_step-clause-kept : goal.returns-in_err-run_step-clause-kept
returns-in_err-run_step-clause-kept g c clean =
    let old = state g.S.Store c.args.tx.now.conn.now in
    let mid = state g.S.Store c.loop-step.tx.conn.now in
    let new = state g.S.Store c.run_step.new.tx.conn.now in
    let one = c.in_err-run_step.ensures in
    let was : HasCleanDisk mid = omega (arith, clean, one.survives.clean) in
    kept_then old mid new (c.loop-step.invariant.2 was) (one.kept clean)

pub returns-in_err-run_step-clause-survives : goal.returns-in_err-run_step-clause-survives
returns-in_err-run_step-clause-survives g c =
    inside_then (state g.S.Store c.args.tx.now.conn.now) (state g.S.Store c.loop-step.tx.conn.now) (state g.S.Store c.run_step.new.tx.conn.now) c.loop-step.invariant.1 c.in_err-run_step.ensures.survives

pub returns-clause-same_reference : goal.returns-clause-same_reference
returns-clause-same_reference g c = c.loop-step.invariant.0

pub returns-clause-kept : goal.returns-clause-kept
returns-clause-kept g c = c.loop-step.invariant.2

pub returns-clause-survives : goal.returns-clause-survives
returns-clause-survives g c = c.loop-step.invariant.1

pub returns-clause-was_open : goal.returns-clause-was_open
returns-clause-was_open g c clean =
    let none : drop c.loop-step.step-index c.args.steps.now ≡ [] = grind (arith, common_steps) in
    elim (c.loop-step.invariant.4 clean) [ inl all ↦ inl (sym all ∙ ap (added_above c.args.above) none) | inr up ↦ inr up ]
