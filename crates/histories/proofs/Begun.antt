-- The first act that tells of the day that the acts began on.
use Rattle.histories.proofs.Words.{◌≡◌, ◌≢◌, ℕ, List, [], ◌∷◌, ◌++◌, append-nil, find, refl, sym, ap, subst, ◌∙◌, Option, Some, None, ℤ, AllByRecursion, same_text, Reaches, StopsWithin, RepeatRow, told_by, Tells, Start, told_as, Act, next_number, IsHistory, repeat_row, row_of, GoOnFrom, IsOfRow, told_first, start_of, Passes, IsFound, Finds, Foreign, FirstStart}
use Rattle.histories.proofs.InTurn.{not_in_turn}
use Rattle.histories.proofs.Walking.{Walks, IsOfActs, SoFar, all_so_far, front_all, at_next, next, later_parts, next_history, whole}

-- what older acts tell stands
pub start_kept : (newer older : List Act) (s : Start) → start_of older ≡ Some s → start_of (newer ++ older) ≡ Some s
start_kept [] older s is = is
start_kept (act ∷ newer) older s is = ap (λ o. told_first o (told_by (next_number (newer ++ older)) act.command)) (start_kept newer older s is)

abbrev pub done_of : FirstStart → ℕ
done_of now = now.done

-- none of the earlier acts tells of the day
abbrev pub TellNone : FirstStart → List Act → Type 0
TellNone now older = start_of older ≡ None

module _ (first : ℤ) (acts : List Act) (history : IsHistory first acts) where
  -- what the row of the act that follows tells, where those before it tell nothing
  told_next : (act : Act) (older : List Act) (what : Option Start) → IsHistory first (act ∷ older) → start_of older ≡ None → Tells (row_of first act older) what → what ≡ start_of (act ∷ older)
  told_next act older what own none tells =
      told_as (row_of first act older) what tells act.command own.1.sound.command refl ∙ ap (λ o. told_first o (told_by (next_number older) act.command)) (sym none)

  pub passes : Walks first Passes done_of TellNone
  passes = record {
    turn = λ now r after h. h.turn;
    count = λ now r after h. h.done;
    step = λ now act older after own none h. sym (told_next act older None own none h.nothing);
  }

  abbrev pub Goes : FirstStart → Type 0
  Goes = SoFar first acts history Passes done_of TellNone passes

  abbrev pub Mine : RepeatRow → Type 0
  Mine = IsOfActs first acts history Passes done_of TellNone passes

  none_yet : (start : FirstStart) → start.done ≡ 0 → Goes start
  none_yet start none = record { newer = acts; older = []; parts = sym (append-nil acts); count = none; keeps = refl }

  pub none_tells : (rows : List RepeatRow) (start after : FirstStart) → start.done ≡ 0 → AllByRecursion Mine rows → ((k : List ℕ) → find (λ r. same_text k r.k) rows ≡ repeat_row first acts k) → Reaches Passes start rows after
      → None ≡ start_of acts
  none_tells rows start after none mine found h = sym (whole first acts history Passes done_of TellNone passes rows start after (none_yet start none) mine found h)

  of_next : (now after : FirstStart) (r : RepeatRow) → Goes now → Mine r → Finds now r after → after.found ≢ None → after.found ≡ start_of acts
  of_next now after r end mine it some = by_found after.found it some
    where
      by_found : (found : Option Start) → IsFound found now.done r after.fault → found ≢ None → found ≡ start_of acts
      by_found None it some = absurd (some refl)
      by_found (Some s) it some =
          let act = next first acts history Passes done_of TellNone passes now end r mine it.0 in
          let own = next_history first acts history Passes done_of TellNone passes now end r mine it.0 in
          let parts = later_parts first acts history Passes done_of TellNone passes now end r mine it.0 in
          let is = told_next act.act end.older (Some s) own end.keeps (subst (λ t. Tells t (Some s)) act.row it.1) in
          sym (start_kept act.later (act.act ∷ end.older) s (sym is)) ∙ ap start_of (sym parts)

  pub one_tells : (rows : List RepeatRow) (start after : FirstStart) → start.done ≡ 0 → AllByRecursion Mine rows → StopsWithin Passes Finds start rows after → after.found ≢ None → after.found ≡ start_of acts
  one_tells rows start after none mine h some =
      let all = subst (AllByRecursion Mine) h.parts mine in
      let end = all_so_far first acts history Passes done_of TellNone passes h.taken start h.last (none_yet start none) (front_all first acts history Passes done_of TellNone passes h.taken (h.next ∷ h.others) all) h.reached in
      of_next h.last after h.next end (at_next first acts history Passes done_of TellNone passes h.taken h.others h.next all) h.stopped some

  -- none was found, and a row is told to be foreign: the rows are not in turn
  pub none_found : (rows : List RepeatRow) (start after : FirstStart) → start.done ≡ 0 → AllByRecursion Mine rows → StopsWithin Passes Finds start rows after → after.found ≡ None → after.fault ≡ Foreign → ¬ GoOnFrom 0 rows
  none_found rows start after none mine h nothing foreign =
      let stopped = subst (λ found. IsFound found h.last.done h.next after.fault) nothing h.stopped in
      not_in_turn Passes done_of (λ now r then t. t.done) first acts Finds rows start after history none mine h (subst (IsOfRow h.last.done h.next) foreign stopped)
