-- A step leads from a history to a history, and a run does.
use Rattle.machine.proofs.Words.{◌≡◌, ℕ, true, false, List, [], ◌∷◌, refl, ap, sym, subst, ◌∙◌, if◌then◌else◌, map, ℤ, Option, Some, None, Refusal, KeyUsed, Act, verdict, reply, Earlier, bearer, Outcome, Accepted, Repeated, Refused, judged, told_again, outcome, appended, acts_after, IsHistory, IsSoundRequest, same_command, Tally, tallied, unless_refused, all_tallied, tally, acts_if_taken, RunsGoOn, RunsWithMemory, FilesGoOn, AllSound, Answer, Told, NoMemory, Step, Run, acts_after_all, outcomes}

module _ (first : ℤ) (act : Act) (acts : List Act) (sound : IsSoundRequest act) (history : IsHistory first acts) where
  history_judged : (v : Option Refusal) → verdict first acts act.command ≡ v → bearer act.key acts ≡ None → IsHistory first (appended act acts (judged first act acts v))
  history_judged None e fresh = (history, record { passes = e; fresh = fresh; sound = sound })
  history_judged (Some why) e fresh = history

  history_told : (e : Option Earlier) → bearer act.key acts ≡ e → IsHistory first (appended act acts (told_again first act acts e))
  history_told None fresh = history_judged (verdict first acts act.command) refl fresh
  history_told (Some e) was =
      elim (same_command act.command e.act.command) as (λ b. IsHistory first (appended act acts (if b then Repeated (reply first e.act e.before) else Refused KeyUsed))) [ true ↦ history | false ↦ history ]

  -- a request that finds memory
  pub history_after : IsHistory first (acts_after first acts act)
  history_after = history_told (bearer act.key acts) refl

-- one step of the machine
pub history_step : (first : ℤ) (old : List Act) (request : Act) (answer : Answer) (new : List Act) → IsSoundRequest request → IsHistory first old → Step first old request answer new → IsHistory first new
history_step first old request (Told o) new sound h step = subst (IsHistory first) (sym step.1) (history_after first request old sound h)
history_step first old request NoMemory new sound h step = subst (IsHistory first) (sym step) h

pub history_run : RunsGoOn
history_run first old [] [] new sound h run = subst (IsHistory first) (sym run) h
history_run first old [] (answer ∷ answers) new sound h run = absurd run
history_run first old (request ∷ requests) [] new sound h run = absurd run
history_run first old (request ∷ requests) (answer ∷ answers) new sound h run =
    history_run first run.0 requests answers new sound.1 (history_step first old request answer run.0 sound.0 h run.1) run.2

-- where every request finds memory, the run is the one that the rules give
pub run_with_memory : (first : ℤ) (old requests : List Act) → Run first old requests (map Told (outcomes first old requests)) (acts_after_all first old requests)
run_with_memory first old [] = refl
run_with_memory first old (request ∷ requests) = (acts_after first old request, (refl, refl), run_with_memory first (acts_after first old request) requests)

-- and there is no other
pub runs_with_memory : RunsWithMemory
runs_with_memory first old [] [] new run = (refl, run)
runs_with_memory first old [] (o ∷ told) new run = absurd run
runs_with_memory first old (request ∷ requests) [] new run = absurd run
runs_with_memory first old (request ∷ requests) (o ∷ told) new run =
    let rest = runs_with_memory first (run.0) requests told new run.2 in (
      (λ i. (run.1).0 i ∷ (rest.0 ∙ ap (λ acts. outcomes first acts requests) (run.1).1) i),
      rest.1 ∙ ap (λ acts. acts_after_all first acts requests) (run.1).1,
    )

-- Goods-in files

tallied_acts : (t : Tally) (act : Act) (o : Outcome) → (tallied t act o).acts ≡ appended act t.acts o
tallied_acts t act (Accepted text) = refl
tallied_acts t act (Repeated text) = refl
tallied_acts t act (Refused why) = refl

history_tallied : (first : ℤ) (t : Tally) (row : Act) (r : Option (ℕ × Refusal)) → IsSoundRequest row → IsHistory first t.acts → IsHistory first (unless_refused r t (tallied t row (outcome first t.acts row))).acts
history_tallied first t row None sound h = subst (IsHistory first) (sym (tallied_acts t row (outcome first t.acts row))) (history_after first row t.acts sound h)
history_tallied first t row (Some r) sound h = h

history_all_tallied : (first : ℤ) (t : Tally) (rows : List Act) → AllSound rows → IsHistory first t.acts → IsHistory first (all_tallied first t rows).acts
history_all_tallied first t [] sound h = h
history_all_tallied first t (row ∷ rows) sound h =
    history_all_tallied first (unless_refused t.refused t (tallied t row (outcome first t.acts row))) rows sound.1 (history_tallied first t row t.refused sound.0 h)

history_if_taken : (first : ℤ) (acts : List Act) (t : Tally) (r : Option (ℕ × Refusal)) → IsHistory first acts → IsHistory first t.acts → IsHistory first (acts_if_taken acts t r)
history_if_taken first acts t None h k = k
history_if_taken first acts t (Some r) h k = h

-- the rows of a file lead from a history to a history
pub history_file : FilesGoOn
history_file first acts rows sound h =
    history_if_taken first acts (tally first acts rows) (tally first acts rows).refused h
    (history_all_tallied first (record { accepted = 0; repeated = 0; acts = acts; refused = None }) rows sound h)
