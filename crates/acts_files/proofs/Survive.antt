-- What is committed where nothing is.
use Rattle.acts_files.proofs.Words.{List, inl, refl, arith, ℤ, Trees, state, State, HasCleanDisk, Survives, survives_then, survives_weaker, Act, IsHistory, HoldsBooks, Connected, NoHistory}
use Rattle.sqlite_trees.specs.declared.store.Store.{Ghosts}

-- nothing was done
pub survives_itself : (s : State) (P : Trees → Type 0) → Survives s s P
survives_itself s P = record {
  clean = omega arith;
  counts = omega arith;
  limit = refl;
  closes = λ clean is. inl is;
  shield = λ h. h;
  crash = λ clean db left. inl left;
}

module _ {S : Type 0} (g : Ghosts S) where
  pub none_at_all : (old : Connected S) (a b : State) → Survives a b (λ _. ⊥) → Survives a b (NoHistory g old)
  none_at_all old a b one = survives_weaker a b _ (NoHistory g old) (λ clean db none. absurd none) one

  -- a call behind one that leaves the books
  pub none_later : (old mid new : Connected S) → Survives (state g old.conn) (state g mid.conn) (NoHistory g old) → Survives (state g mid.conn) (state g new.conn) (NoHistory g mid)
      → (HasCleanDisk (state g mid.conn) → (first : ℤ) (acts : List Act) → IsHistory first acts → HoldsBooks g first acts old → HoldsBooks g first acts mid) → Survives (state g old.conn) (state g new.conn) (NoHistory g old)
  none_later old mid new one two keeps =
      survives_then (state g old.conn) (state g mid.conn) (state g new.conn) _ _ (NoHistory g old) (λ clean db none. none)
      (λ clean db none first acts history holds. none first acts history (keeps (omega (arith, clean, two.clean)) first acts history holds)) one two
