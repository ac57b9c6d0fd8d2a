-- Records in the order of their keys.
use Rattle.std.specs.Prelude.{◌≡◌, Bool, List, find, Option}
use Rattle.sqlite_trees.specs.Tree.{IsAscending}

-- the records are those that the look-ups find, each once, and their keys rise
pub record AreInOrder {K X : Type 0} (same : K → K → Bool) (before : K → K → Type 0) (key : X → K) (row : K → Option X) (xs : List X) : Type 0 where
  pub found : (k : K) → find (λ x. same k (key x)) xs ≡ row k
  pub rises : IsAscending (λ x y. before (key x) (key y)) xs
