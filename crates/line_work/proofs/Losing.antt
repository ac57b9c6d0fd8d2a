-- A disk for the acts of which no line is lost.
use Rattle.line_work.proofs.Words.{◌≡◌, sym, subst, refl, Option, Some, None, Ghosts, LosesNoLine, same_file, loses_none, LosesNoLineIf}

module _ {D : Type 0} (g : Ghosts D) where
  -- what is left alone loses none
  pub left_alone : (disk : Option D) → LosesNoLineIf g disk disk
  left_alone None = refl
  left_alone (Some disk) = (disk, refl, loses_none g disk disk (same_file g disk))

  pub some_loses : (before : Option D) (disk new : D) → before ≡ Some disk → LosesNoLine g disk new → LosesNoLineIf g before (Some new)
  some_loses before disk new is loses = subst (λ a. LosesNoLineIf g a (Some new)) (sym is) (new, refl, loses)

  pub none_loses : (before after : Option D) → before ≡ None → after ≡ None → LosesNoLineIf g before after
  none_loses before after is none = subst (λ a. LosesNoLineIf g a after) (sym is) none
