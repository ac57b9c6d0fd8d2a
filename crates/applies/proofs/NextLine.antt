-- The line of the act that comes next, and what comes of the act.
use Rattle.applies.proofs.Words.{◌≡◌, ℕ, ◌+◌, ◌<◌, ◌^◌, false, List, ◌∷◌, Some, None, Ok, Err, inl, inr, refl, sym, ap, subst, ◌∙◌, arith, true≢false, ◌⊎◌, ℤ, same_Some, none-some, Ghosts, Trees, state, key_text, spelling, Key, Command, Act, next_number, day_after_command, Outcome, Accepted, Repeated, outcome, appended, acts_after, is_key_of, IsSoundRequest, IsHistory, history_line, act_line, Connected, AreBooks, LeavesOnly, IsReplayed, NotReplayed, goes_on_history, Reads, IsOfWant, next_line, act_of, IsNext, IsNoNext, IsPlaced, IsNotDone, IsAt, MisfitsThere, IsLineAdded, LeavesLine, NotApplied, At, NextAct}
use Rattle.machine.specs.Once.{Refused}
use Rattle.replays.specs.declared.fault.NotReplayed.TheVariants as again
use Rattle.applies.specs.declared.applied.NotApplied.TheVariants as told

pub next_is : (begun : ℤ) (acts : List Act) (at : At) (act : Act) → IsAt begun acts at → next_line at act ≡ act_line begun act acts
next_is begun acts at act h =
    ap (λ n. history_line (n + 1) (day_after_command act.command at.day) (key_text act.key) (spelling act.command)) h.done
    ∙ ap (λ d. history_line (next_number acts) (day_after_command act.command d) (key_text act.key) (spelling act.command)) h.day

module _ (first begun : ℤ) (acts : List Act) (line : List ℕ) (at : At) (is : IsAt begun acts at) where
  -- no act's line was read
  pub misfits : (fault : NotApplied) → IsPlaced (at.done + 1) (at.lines + 1) line fault → IsNoNext at line → MisfitsThere first begun acts at.lines line fault
  misfits (told.Lacks n) p none = (p.0 ∙ ap (λ k. k + 1) is.done, p.1, λ act h same. none act h.1.sound (same ∙ sym (next_is begun acts at act is)))
  misfits (told.Line n) p none = (p, λ act h same. none act h.1.sound (same ∙ sym (next_is begun acts at act is)))
  misfits (told.Differs n) p none = absurd p
  misfits (told.Refused n why) p none = absurd p
  misfits told.Input p none = absurd p
  misfits told.Store p none = absurd p
  misfits told.Foreign p none = absurd p

  module _ (next : NextAct) (own : IsNext at line next) where
    line_is : line ≡ act_line begun (act_of next) acts
    line_is = own.is ∙ next_is begun acts at (act_of next) is

    number_is : next.number ≡ next_number acts
    number_is = own.number ∙ ap (λ k. k + 1) is.done

    -- the act was done
    pub added : {S : Type 0} (g : Ghosts S) (after : At) (books : Connected S) → IsReplayed g first acts (act_of next) next.number (Ok tt) books → LeavesOnly first (act_of next ∷ acts) (state g books.conn) → after.done ≡ next.number → after.day ≡ next.day → after.lines ≡ next.line
        → IsLineAdded g first begun acts line at after books
    added g after books h kept done day lines = record {
      act = act_of next;
      is = line_is;
      history = h.0;
      at = record { done = omega (arith, done, number_is); day = day ∙ own.day ∙ ap (day_after_command next.command) is.day };
      lines = lines ∙ own.place;
      holds = h.2;
      lasts = record { is_open = h.1; leaves = kept };
    }

    -- it was not
    pub wrong : {S : Type 0} (g : Ghosts S) (books : Connected S) (fault : NotReplayed) (why : NotApplied) → IsReplayed g first acts (act_of next) next.number (Err fault) books → IsNotDone fault next.line why
        → IsOfWant why ⊎ MisfitsThere first begun acts at.lines line why
    wrong g books (again.Unspelled n) why h t = absurd (true≢false (sym own.sound.kind ∙ h.1))
    wrong g books (again.Refused n cause) why h t =
        inr (subst (MisfitsThere first begun acts at.lines line) (sym t) (h.0 ∙ number_is, record { act = act_of next; sound = own.sound; is = line_is; refused = h.2 }))
    wrong g books again.Store why h t = inl (subst IsOfWant (sym t) tt)
    wrong g books again.Foreign why h t = absurd h

    by_outcome : (trees : Trees) (o : Outcome) → outcome first acts (act_of next) ≡ o → IsHistory first acts → AreBooks first (appended (act_of next) acts o) trees → LeavesLine first begun acts line trees
    by_outcome trees (Accepted text) e h books = inr (act_of next, line_is, goes_on_history first (act_of next) acts text own.sound h (sym e), books)
    by_outcome trees (Repeated text) e h books = inl books
    by_outcome trees (Refused why) e h books = inl books

    pub leaves : (trees : Trees) → IsHistory first acts → AreBooks first (acts_after first acts (act_of next)) trees → LeavesLine first begun acts line trees
    leaves trees h books = by_outcome trees (outcome first acts (act_of next)) refl h books

-- ---- what was read of the line

module _ (at : At) (line : List ℕ) (number place : ℕ) (key : Key) (command : Command) (counted : number ≡ at.done + 1) (low : number < 2 ^ 64) (reads : Reads line (Some (key, command))) where
  abbrev read : Act
  read = record { key = key; command = command }

  pub one_read : (act : Act) → IsSoundRequest act → line ≡ next_line at act → act ≡ read
  one_read act sound same =
      let both = same_Some (key, command) (act.key, act.command) (reads (at.done + 1) (day_after_command act.command at.day) act (subst (λ n. n < 2 ^ 64) counted low) sound same) in
      let keys : act.key ≡ key = sym (ap (λ (p : Key × Command). p.0) both) in
      let commands : act.command ≡ command = sym (ap (λ (p : Key × Command). p.1) both) in
      let with_key : Key → Act = λ k. record { key = k; command = act.command } in
      let with_command : Command → Act = λ c. record { key = key; command = c } in
      ap with_key keys ∙ ap with_command commands

  -- it is of the other kind
  pub none_kind : is_key_of key command ≡ false → IsNoNext at line
  none_kind other act sound same = true≢false (sym sound.kind ∙ ap (λ (a : Act). is_key_of a.key a.command) (one_read act sound same) ∙ other)

  line_same : (day : ℤ) → day ≡ day_after_command command at.day → history_line number day (key_text key) (spelling command) ≡ next_line at read
  line_same day is = ap (λ n. history_line n day (key_text key) (spelling command)) counted ∙ ap (λ d. history_line (at.done + 1) d (key_text key) (spelling command)) is

  -- the line is not its own
  pub none_line : (day : ℤ) → day ≡ day_after_command command at.day → (line ≡ history_line number day (key_text key) (spelling command) → ⊥) → IsNoNext at line
  none_line day is other act sound same = other (same ∙ ap (next_line at) (one_read act sound same) ∙ sym (line_same day is))

  pub is_next : (day : ℤ) → day ≡ day_after_command command at.day → place ≡ at.lines + 1 → IsSoundRequest read → line ≡ history_line number day (key_text key) (spelling command)
      → IsNext at line (record { number = number; day = day; line = place; key = key; command = command })
  is_next day is there sound own = record { sound = sound; number = counted; place = there; day = is; is = own ∙ line_same day is; one = one_read }

pub none_read : (at : At) (line : List ℕ) (number : ℕ) → number ≡ at.done + 1 → number < 2 ^ 64 → Reads line None → IsNoNext at line
none_read at line number counted low reads act sound same = none-some _ (reads (at.done + 1) (day_after_command act.command at.day) act (subst (λ n. n < 2 ^ 64) counted low) sound same)

pub placed_at : (at : At) (line : List ℕ) (number place : ℕ) (fault : NotApplied) → number ≡ at.done + 1 → place ≡ at.lines + 1 → IsPlaced number place line fault → IsPlaced (at.done + 1) (at.lines + 1) line fault
placed_at at line number place fault counted there h = subst (λ n. IsPlaced n (at.lines + 1) line fault) counted (subst (λ p. IsPlaced number p line fault) there h)
