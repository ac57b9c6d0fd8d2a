-- The lines that are written of the acts above a number.
use Rattle.histories.proofs.Words.{◌≡◌, ℕ, ◌+◌, List, [], ◌∷◌, ◌++◌, append_assoc, length, refl, sym, ap, subst, ◌∙◌, Option, ℤ, AllByRecursion, append_cancel_right, Appends, Appends-trans, Appends-nil, Reaches, RepeatRow, key_text, spelling, Act, next_number, IsHistory, day_after_command, today, history_line, AddsLine, act_line, newer_text, AreWrittenAbove, HistoryLines}
use Rattle.histories.proofs.Walking.{Walks, IsOfActs, SoFar, all_so_far}

module _ {W : Type 0} (contents : W → Option (List ℕ)) (first begun : ℤ) (acts : List Act) (history : IsHistory first acts) (start : HistoryLines W) (below : List Act) where
  -- the lines of the acts above these were written
  abbrev pub Added : HistoryLines W → List Act → Type 0
  Added now older =
      (printed : List Act) × (older ≡ printed ++ below) × (now.day ≡ today begun older) × Appends (contents start.out) (contents now.out) (newer_text begun printed below)

  pub adds : Walks first (AddsLine contents) (λ (l : HistoryLines W). l.done) Added
  adds = record {
    turn = λ now r after h. h.turn;
    count = λ now r after h. h.done;
    step = λ now act older after own was h.
        let day : after.day ≡ today begun (act ∷ older) = h.day act.command own.1.sound.command refl ∙ ap (day_after_command act.command) was.2 in
        let line : Appends (contents now.out) (contents after.out) (act_line begun act (was.0 ++ below)) =
        subst (λ l. Appends (contents now.out) (contents after.out) (act_line begun act l)) was.1 (subst (λ d. Appends (contents now.out) (contents after.out) (history_line (next_number older) d (key_text act.key) (spelling act.command))) day h.written) in
        (act ∷ was.0, ap (λ l. act ∷ l) was.1, day, Appends-trans (contents start.out) (contents now.out) (contents after.out) (newer_text begun was.0 below) (act_line begun act (was.0 ++ below)) was.3 line);
  }

  abbrev pub Goes : HistoryLines W → Type 0
  Goes = SoFar first acts history (AddsLine contents) (λ (l : HistoryLines W). l.done) Added adds

  abbrev pub Mine : RepeatRow → Type 0
  Mine = IsOfActs first acts history (AddsLine contents) (λ (l : HistoryLines W). l.done) Added adds

  module _ (newer : List Act) (parts : acts ≡ newer ++ below) (done : start.done ≡ length below) (day : start.day ≡ today begun below) where
    none_yet : Goes start
    none_yet = record { newer = newer; older = below; parts = parts; count = done; keeps = ([], refl, day, Appends-nil (contents start.out)) }

    -- the newer acts are those that are not printed yet and those that are
    of_newer : (later older printed : List Act) → acts ≡ later ++ older → older ≡ printed ++ below → newer ≡ later ++ printed
    of_newer later older printed all is =
        append_cancel_right newer (later ++ printed) below (sym parts ∙ all ∙ ap (λ l. later ++ l) is ∙ sym (append_assoc later printed below))

    -- the rows that were taken are those of some of them
    pub went_above : (rows : List RepeatRow) (after : HistoryLines W) → AllByRecursion Mine rows → Reaches (AddsLine contents) start rows after → AreWrittenAbove begun newer below (contents start.out) (contents after.out) after.done after.day
    went_above rows after mine h =
        let end = all_so_far first acts history (AddsLine contents) (λ (l : HistoryLines W). l.done) Added adds rows start after none_yet mine h in
        let printed = end.keeps.0 in
        let is = end.keeps.1 in
        (end.newer, printed, of_newer end.newer end.older printed end.parts is, end.count ∙ ap length is, end.keeps.2 ∙ ap (today begun) is, end.keeps.3)
