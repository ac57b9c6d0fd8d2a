-- What is read of one item alone.
use Rattle.queries.proofs.Words.{ℕ, List, [], ◌∷◌, ◌++◌, sym, subst, ◌∙◌, ap, append-nil, same_text, Tables, StagedRow, StagedKey, same_staged, staged_key}
use Rattle.table_words.specs.Found.{AreRows}
use Rattle.slices.specs.Slicing.{AreStaged}

pub of_one : (g : List ℕ) (t : Tables) (rows : List StagedRow) → AreStaged (g ∷ []) t rows → AreRows {K = StagedKey} same_staged staged_key (λ k. same_text g k.1.gtin) (λ k. t.staged k.0 k.1) rows
of_one g t rows (xs, ys, are, none, is) =
    subst (λ (rs : List StagedRow). AreRows {K = StagedKey} same_staged staged_key (λ k. same_text g k.1.gtin) (λ k. t.staged k.0 k.1) rs) (sym (is ∙ ap (λ zs. xs ++ zs) none ∙ append-nil xs)) are
