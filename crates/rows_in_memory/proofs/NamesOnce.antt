-- The names of rows, each once, are keys of these.
use Rattle.rows_in_memory.proofs.Words.{◌≡◌, ℕ, List, [], ◌∷◌, refl, same_text, with_name, with_names, with_keys}

pub names_once : {X : Type 0} (name : X → List ℕ) (rows : List X) (names : List (List ℕ)) → with_keys same_text name rows names ≡ with_names name rows names
names_once name [] names = refl
names_once name (r ∷ rs) names = names_once name rs (with_name (name r) names)
