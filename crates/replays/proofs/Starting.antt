-- What the rows of acts tell of the day that these began on.
use Rattle.replays.proofs.Words.{◌≡◌, ℕ, ◌+◌, ◌<◌, true, false, List, [], ◌∷◌, ◌++◌, length, take, drop, get_or, take-append-drop, Option, Some, None, inr, refl, sym, ap, subst, ◌∙◌, ℤ, reverse, is_some, IsTrue, take_more, drop_more, same_Some, none-some, is_sound, spelling, Command, RepeatRow, told_by, Tells, IsReadFrom, Start, told_as, Act, next_number, IsHistory, row_of, told_first, start_of, earlier, start_kept, spelled_rows, TellNothing, TellFirst, Tell}
use Rattle.replays.proofs.RowSteps.{rows_more, rows_parts}

-- the older rows are those of the older acts
record AreOlder (first : ℤ) (rows : List RepeatRow) (acts : List Act) : Type 0 where
  newer : List Act
  older : List Act
  parts : acts ≡ newer ++ older
  spelled : rows ≡ spelled_rows first older

are_older : (first : ℤ) (newer rows : List RepeatRow) (acts : List Act) → newer ++ rows ≡ spelled_rows first acts → AreOlder first rows acts
are_older first [] rows acts e = record { newer = []; older = acts; parts = refl; spelled = e }
are_older first (row ∷ newer) rows [] e = cc
are_older first (row ∷ newer) rows (act ∷ acts) e =
    let rest : newer ++ rows ≡ spelled_rows first acts = cc in
    let more = are_older first newer rows acts rest in
    record { newer = act ∷ more.newer; older = more.older; parts = ap (λ xs. act ∷ xs) {y = more.newer ++ more.older} more.parts; spelled = more.spelled }

-- no act of these rows tells anything
abbrev pub TellNone : List RepeatRow → Type 0
TellNone rows = (first : ℤ) (acts : List Act) → IsHistory first acts → reverse rows ≡ spelled_rows first acts → start_of acts ≡ None

pub tell_none_first : TellNone []
tell_none_first first [] h e = refl
tell_none_first first (act ∷ before) h e = cc

module _ (rows : List RepeatRow) (i : ℕ) (row : RepeatRow) (low : i < length rows) (is : row ≡ get_or rows i row) (none : TellNone (take i rows)) (told : Option (Option Start)) (read : IsReadFrom row told) where
  -- what a row tells is what any command does that it spells
  read_as : (told : Option (Option Start)) → IsReadFrom row told → (command : Command) → IsTrue (is_sound command) → row.spell ≡ spelling command → told ≡ Some (told_by row.act command)
  read_as None none command sound is = absurd (none command sound is)
  read_as (Some told) one command sound is = ap (λ t. Some t) (told_as row told one command sound is)

  -- the newest of the acts so far tells what was read
  newest : (first : ℤ) (acts : List Act) → IsHistory first acts → row ∷ reverse (take i rows) ≡ spelled_rows first acts → told ≡ Some (start_of acts)
  newest first [] h e = cc
  newest first (act ∷ before) h e =
      let own : row ≡ row_of first act before = cc in
      let rest : reverse (take i rows) ≡ spelled_rows first before = cc in
      let untold = none first before h.0 rest in
      let number : row.act ≡ next_number before = ap (λ r. r.act) own in
      read_as told read act.command h.1.sound.command (ap (λ r. r.spell) own)
      ∙ ap (λ n. Some (told_by n act.command)) number ∙ ap (λ s. Some (told_first s (told_by (next_number before) act.command))) (sym untold)

  -- one more that tells nothing
  pub tell_none_more : (here : Option Start) → told ≡ Some here → is_some here ≡ false → TellNone (take (i + 1) rows)
  tell_none_more None it empty first acts h e = same_Some (start_of acts) None (sym (newest first acts h (sym (rows_more rows i row low is) ∙ e)) ∙ it)
  tell_none_more (Some s) it empty first acts h e = cc

  so_far : (first : ℤ) (acts : List Act) → IsHistory first acts → reverse rows ≡ spelled_rows first acts → (s : AreOlder first (reverse (take (i + 1) rows)) acts) × (told ≡ Some (start_of s.older))
  so_far first acts h e =
      let parts = are_older first (reverse (drop (i + 1) rows)) (reverse (take (i + 1) rows)) acts (sym (rows_parts rows (i + 1)) ∙ e) in
      (parts, newest first parts.older (earlier first parts.newer parts.older (subst (IsHistory first) parts.parts h)) (sym (rows_more rows i row low is) ∙ parts.spelled))

  -- the first that tells it
  pub tell_here : (here : Option Start) → told ≡ Some here → is_some here ≡ true → Tell rows here
  tell_here None it full first acts h e = cc
  tell_here (Some s) it full first acts h e =
      let parts = so_far first acts h e in
      let tells : start_of parts.0.older ≡ Some s = same_Some (start_of parts.0.older) (Some s) (sym parts.1 ∙ it) in
      sym (ap start_of parts.0.parts ∙ start_kept parts.0.newer parts.0.older s tells)

  -- a spelling that is none is of no history
  pub tell_ends : told ≡ None → Tell rows None
  tell_ends it first acts h e = let parts = so_far first acts h e in absurd (none-some (start_of parts.0.older) (sym it ∙ parts.1))

-- ---- the rows themselves

all_snoc : (rows : List RepeatRow) (row : RepeatRow) → TellNothing rows → Tells row None → TellNothing (rows ++ row ∷ [])
all_snoc [] row all h = (h, tt)
all_snoc (r ∷ rows) row all h = (all.0, all_snoc rows row all.1 h)

module _ (rows : List RepeatRow) (i : ℕ) (row : RepeatRow) (low : i < length rows) (is : row ≡ get_or rows i row) (nothing : TellNothing (take i rows)) (told : Option (Option Start)) (read : IsReadFrom row told) where
  -- one more that tells nothing
  pub nothing_more : (here : Option Start) → told ≡ Some here → is_some here ≡ false → TellNothing (take (i + 1) rows)
  nothing_more None it empty = subst TellNothing (sym (take_more rows i row low ∙ ap (λ x. take i rows ++ x ∷ []) (sym is))) (all_snoc (take i rows) row nothing (subst (IsReadFrom row) it read))
  nothing_more (Some s) it empty = cc

  here_parts : rows ≡ take i rows ++ row ∷ drop (i + 1) rows
  here_parts = sym (take-append-drop i rows) ∙ ap (λ l. take i rows ++ l) (drop_more rows i row low ∙ ap (λ x. x ∷ drop (i + 1) rows) (sym is))

  -- the first that tells it
  pub first_here : (here : Option Start) → told ≡ Some here → is_some here ≡ true → TellFirst rows here
  first_here None it full = cc
  first_here (Some s) it full = record { earlier = take i rows; row = row; later = drop (i + 1) rows; parts = here_parts; nothing = nothing; is = subst (IsReadFrom row) it read }

  pub first_ends : told ≡ None → TellFirst rows None
  first_ends it = inr (record { earlier = take i rows; row = row; later = drop (i + 1) rows; parts = here_parts; nothing = nothing; is = subst (IsReadFrom row) it read })
