-- Bytes with which a number begins.
use Rattle.acts_files.proofs.Words.{◌≡◌, ◌∙◌, ℕ, Bool, List, ◌++◌, length, take, drop, take-append-drop, sym, ap, ◌==◌, IsTrue, starts_with, take-append_seam, Decides-eqb, slice_eq-Decides, Begins}

pub begins_iff : (text bytes : List ℕ) (r : Bool) → r ≡ starts_with (λ a b. a == b) text bytes → (IsTrue r → Begins bytes text) × (Begins bytes text → IsTrue r)
begins_iff text bytes r is =
    let d = slice_eq-Decides {E = λ a b. a == b} Decides-eqb bytes (take (length bytes) text) r is in (
      λ yes. (drop (length bytes) text, sym (take-append-drop (length bytes) text) ∙ ap (λ l. l ++ drop (length bytes) text) (sym (d.0 yes))),
      λ begins. d.1 (sym (ap (take (length bytes)) begins.1 ∙ take-append_seam bytes begins.0)),
    )
