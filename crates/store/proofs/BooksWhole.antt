-- What books keep true of themselves: they are idle, and what they know of their tables is so.
use Rattle.store.proofs.Words.{◌≡◌, List, Result, Ok, Err, false, ◌∙◌, arith, ℤ, Option, None, Refusal, Held, state, State, HasCleanDisk, Survives, Trees, Ghosts, Act, today, Known, KeepsBooks, IsSettled, IsAsBefore, Connected, IsIdle, IsKnown, IsOpenedFrom, IsShown, IsShownOn, Fault, Refused, Store, Foreign}
use Rattle.store.proofs.AsBefore.{as_before}
use Rattle.store.proofs.HandedOn.{Stays}
use Rattle.store.proofs.KnownKept.{known_stays}

-- no call here sets a limit on steps
pub idle_then : {S : Type 0} (g : Ghosts S) (old new : Held S) {Q : Trees → Type 0} → Survives (state g old) (state g new) Q → new.in_transaction ≡ false → IsIdle old → IsIdle new
idle_then g old new survives outside idle = record { outside = outside; unlimited = survives.limit ∙ idle.unlimited }

-- after a look
pub whole_then : {S : Type 0} (g : Ghosts S) (known : Option Known) (old new : Held S) {Q : Trees → Type 0} → Survives (state g old) (state g new) Q → new.in_transaction ≡ false → Stays (state g old) (state g new)
    → IsIdle old × IsKnown known (state g old) → IsIdle new × IsKnown known (state g new)
whole_then g known old new survives outside stays whole = (idle_then g old new survives outside whole.0, known_stays known (state g old) (state g new) survives stays whole.1)

-- and it leaves the tables as before
pub look_kept : {S : Type 0} (g : Ghosts S) (known : Option Known) (old new : Held S) {Q : Trees → Type 0} → Survives (state g old) (state g new) Q → Stays (state g old) (state g new) → IsKnown known (state g old)
    → HasCleanDisk (state g new) → IsAsBefore (state g old) (state g new) × IsSettled (state g new)
look_kept g known old new survives stays is_known clean =
    let was = (is_known (omega (arith, clean, survives.clean))).0 in
    let left = stays clean was in
    (as_before (state g old) (state g new) was left.1 left.0, left.1)

-- what is shown over a connection is shown by the books over it
pub shown_by_books : {S V : Type 0} (g : Ghosts S) (first : ℤ) (acts : List Act) (shown : Result V Refusal) (r : Result V Fault) (new : Connected S) → IsShownOn first acts shown r (state g new.conn) → new.day ≡ today first acts
    → IsShown g first acts shown r new
shown_by_books g first acts shown (Ok view) new is day = (is.0, record { keeps = is.1; day = day })
shown_by_books g first acts shown (Err (Refused why)) new is day = (is.0, record { keeps = is.1; day = day })
shown_by_books g first acts shown (Err Store) new is day = record { keeps = is.1; day = day }
shown_by_books g first acts shown (Err Foreign) new is day = absurd is.0

-- where nothing is known yet
pub known_unread : (s : State) → (HasCleanDisk s → IsSettled s) → IsKnown None s
known_unread s settled clean = (settled clean, λ up. tt)

pub settled_books : (first : ℤ) (acts : List Act) (s : State) → KeepsBooks first acts s → IsSettled s
settled_books first acts s held = record { ready = λ up. (held.books up).ready; settled = held.settled }

pub settled_opened : {S : Type 0} (g : Ghosts S) (old new : Held S) → IsOpenedFrom g old new → HasCleanDisk (state g new) → IsSettled (state g new)
settled_opened g old new it clean = record { ready = it.ready clean; settled = it.settled clean }
