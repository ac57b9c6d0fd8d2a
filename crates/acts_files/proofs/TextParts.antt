-- The text of a history in two parts.
use Rattle.acts_files.proofs.Words.{◌≡◌, List, [], ◌∷◌, ◌++◌, append_assoc, append-nil, length, length-append, refl, sym, ap, ◌∙◌, arith, Act, history_text, act_line, newer_text, TextGoesOn}

pub goes_on : TextGoesOn
goes_on begun [] older = sym (append-nil (history_text begun older))
goes_on begun (act ∷ newer) older =
    ap (λ t. t ++ act_line begun act (newer ++ older)) (goes_on begun newer older)
    ∙ append_assoc (history_text begun older) (newer_text begun newer older) (act_line begun act (newer ++ older))

-- no act is newer than all
pub no_newer : (newer older : List Act) → length (newer ++ older) ≡ length older → newer ≡ []
no_newer [] older e = refl
no_newer (act ∷ newer) older e = let n = length-append newer older in absurd (omega (arith, e, n))
