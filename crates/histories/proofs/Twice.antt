-- Two calls that change nothing, one after the other.
use Rattle.histories.proofs.Words.{◌≡◌, inl, inr, sym, subst, ◌∙◌, arith, ◌⊎◌, ℤ, List, Database, State, HasCleanDisk, Survives, IsUnchanged, IsRolledBack, unchanged_then, survives_then, Act, IsReady, HasRowsOf}

pub left_then : (a b c : State) → IsUnchanged a b → IsUnchanged b c ⊎ IsRolledBack b c → IsUnchanged a c ⊎ IsRolledBack a c
left_then a b c one (inl two) = inl (unchanged_then a b c one two)
left_then a b c one (inr two) = inr (record {
  was_open = λ up. one.0.was_open;
  undone = λ up. ((two.undone up).0 ∙ one.0.committed_is, (two.undone up).1 ∙ one.0.committed_is);
  autocommit = two.autocommit;
  unmarked = two.unmarked;
  counts = record { changes = two.counts.changes ∙ one.1.changes; last_rowid = two.counts.last_rowid ∙ one.1.last_rowid };
})

module _ (a b c : State) (one : Survives a b (λ _. ¬ IsReady a.now)) (two : Survives b c (λ _. ¬ IsReady b.now)) (same : HasCleanDisk b → IsReady a.now → IsUnchanged a b) where
  pub was_clean : HasCleanDisk c → HasCleanDisk b
  was_clean clean = omega (arith, clean, two.clean)

  pub shown : HasCleanDisk c → IsReady a.now → b.now ≡ a.now
  shown clean ready = (same (was_clean clean) ready).0.now_is

  pub ready_on : HasCleanDisk c → IsReady a.now → IsReady b.now
  ready_on clean ready = subst IsReady (sym (shown clean ready)) ready

  pub held_on : (first : ℤ) (acts : List Act) → HasCleanDisk c → IsReady a.now → HasRowsOf first acts a.now.trees → HasRowsOf first acts b.now.trees
  held_on first acts clean ready held = subst (λ (d : Database). HasRowsOf first acts d.trees) (sym (shown clean ready)) held

  pub left_on : HasCleanDisk c → IsReady a.now → (HasCleanDisk c → IsReady b.now → IsUnchanged b c ⊎ IsRolledBack b c) → IsUnchanged a c ⊎ IsRolledBack a c
  left_on clean ready left = left_then a b c (same (was_clean clean) ready) (left clean (ready_on clean ready))

  pub survives_on : Survives a c (λ _. ¬ IsReady a.now)
  survives_on = survives_then a b c _ _ _ (λ clean db unready. unready) (λ clean db unready ready. unready (ready_on clean ready)) one two
