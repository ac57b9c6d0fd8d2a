-- One act that is done again, and then another.
use Rattle.replays.proofs.Words.{◌≡◌, ℕ, List, ◌∷◌, ap, sym, subst, ◌∙◌, ℤ, Refusal, Act, reply, Accepted, Repeated, Refused, judged, told_again, outcome, appended, acts_after, IsAccepted, IsHistory, IsSoundRequest, history_after}

-- an act of a history was accepted where it stands
pub accepted_there : (first : ℤ) (act : Act) (before : List Act) → IsAccepted first act before → outcome first before act ≡ Accepted (reply first act before)
accepted_there first act before h = ap (told_again first act before) h.fresh ∙ ap (judged first act before) h.passes

-- an act that is accepted goes on with the history
pub goes_on : (first : ℤ) (act : Act) (acts : List Act) (text : List ℕ) → Accepted text ≡ outcome first acts act → acts_after first acts act ≡ act ∷ acts
goes_on first act acts text e = ap (appended act acts) (sym e)

pub goes_on_history : (first : ℤ) (act : Act) (acts : List Act) (text : List ℕ) → IsSoundRequest act → IsHistory first acts → Accepted text ≡ outcome first acts act → IsHistory first (act ∷ acts)
goes_on_history first act acts text sound h e = subst (IsHistory first) (goes_on first act acts text e) (history_after first act acts sound h)

-- one that comes again, or is refused, does not
pub not_again : (first : ℤ) (act : Act) (acts : List Act) (text : List ℕ) → Repeated text ≡ outcome first acts act → ¬ IsHistory first (act ∷ acts)
not_again first act acts text e h = let two : Repeated text ≡ Accepted (reply first act acts) = e ∙ accepted_there first act acts h.1 in cc

pub not_refused : (first : ℤ) (act : Act) (acts : List Act) (why : Refusal) → Refused why ≡ outcome first acts act → ¬ IsHistory first (act ∷ acts)
not_refused first act acts why e h = let two : Refused why ≡ Accepted (reply first act acts) = e ∙ accepted_there first act acts h.1 in cc
