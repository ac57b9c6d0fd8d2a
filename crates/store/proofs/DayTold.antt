-- The business day after an act.
use Rattle.store.proofs.Words.{◌≡◌, ℕ, Bool, true, false, List, refl, ap, ◌∙◌, ℤ, if◌then◌else◌, unwrap_or, names_of, Command, OpenDay, Act, today, day_after_command, Repeated, Accepted, outcome, appended, acts_after, told, day_left, Reply}

-- the day that a command opens is the one after it
pub day_named : (command : Command) (day : ℤ) → unwrap_or (names_of command).day day ≡ day_after_command command day
day_named (OpenDay opened) day = refl
day_named _ day = refl

by_repeated : (first : ℤ) (acts : List Act) (act : Act) (day : ℤ) (text : List ℕ) (repeated : Bool) → day ≡ today first acts
    → day_left day act.command repeated ≡ today first (appended act acts (if repeated then Repeated text else Accepted text))
by_repeated first acts act day text true is = is
by_repeated first acts act day text false is = ap (day_after_command act.command) is

pub day_told : (first : ℤ) (acts : List Act) (act : Act) (day : ℤ) (reply : Reply) → told reply ≡ outcome first acts act → day ≡ today first acts
    → day_left day act.command reply.repeated ≡ today first (acts_after first acts act)
day_told first acts act day reply e is = by_repeated first acts act day reply.text reply.repeated is ∙ ap (λ o. today first (appended act acts o)) e
