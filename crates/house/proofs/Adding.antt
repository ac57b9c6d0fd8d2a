-- A step adds acts to those that were there, and takes none away.
use Rattle.house.proofs.Words.{◌≡◌, true, false, List, [], ◌∷◌, ◌++◌, refl, ap, subst, sym, inl, inr, ◌∙◌, append_assoc, Bool, if◌then◌else◌, ℕ, Option, Some, None, Result, Ok, Err, ℤ, label_read, Label, LabelFault, Key, Command, Refusal, Act, today, Outcome, Accepted, Repeated, outcome, appended, Tally, tallied, unless_refused, all_tallied, acts_if_taken, file_read, FileFault, rows_of, IsReading, Ask, Do, Scan, GoodsIn, Show, Query, Read, Need, Bad, Request, one_reading, is_served, acts_with, Delivered, receipt, acts_scanned, acts_filed, acts_asked, acts_of, Step, Run, IsInPlace, bytes_of, TellsNoAct, Answered, Short, Long}
use Rattle.machine.specs.Once.{Refused}
use Rattle.house.proofs.StepLaws.{refused_requests_change_nothing}

-- the acts are these and newer ones
abbrev pub HasMore : (old new : List Act) → Type 0
HasMore old new = (newer : List Act) × (new ≡ newer ++ old)

none_more : (acts : List Act) → HasMore acts acts
none_more acts = ([], refl)

one_more : (act : Act) (old new : List Act) → HasMore old new → HasMore old (act ∷ new)
one_more act old new m = (act ∷ m.0, ap (λ l. act ∷ l) m.1)

more_by : (act : Act) (acts : List Act) (o : Outcome) → HasMore acts (appended act acts o)
more_by act acts (Accepted text) = one_more act acts acts (none_more acts)
more_by act acts (Repeated text) = none_more acts
more_by act acts (Refused why) = none_more acts

more_if : (act : Act) (acts : List Act) (o : Outcome) (b : Bool) → HasMore acts (if b then appended act acts o else acts)
more_if act acts o true = more_by act acts o
more_if act acts o false = none_more acts

more_with : (first : ℤ) (acts : List Act) (act : Act) → HasMore acts (acts_with first acts act)
more_with first acts act = more_if act acts (outcome first acts act) (is_served act)

more_scanned : (first : ℤ) (acts : List Act) (d : Delivered) (r : Result Label LabelFault) → HasMore acts (acts_scanned first acts d r)
more_scanned first acts d (Ok label) = more_with first acts (receipt d label)
more_scanned first acts d (Err fault) = none_more acts

more_tallied : (acts : List Act) (t : Tally) (row : Act) (o : Outcome) → HasMore acts t.acts → HasMore acts (tallied t row o).acts
more_tallied acts t row (Accepted text) m = one_more row acts t.acts m
more_tallied acts t row (Repeated text) m = m
more_tallied acts t row (Refused why) m = m

more_unless : (acts : List Act) (o : Option (ℕ × Refusal)) (t next : Tally) → HasMore acts t.acts → HasMore acts next.acts → HasMore acts (unless_refused o t next).acts
more_unless acts None t next m n = n
more_unless acts (Some r) t next m n = m

more_of_all : (first : ℤ) (acts : List Act) (t : Tally) (rows : List Act) → HasMore acts t.acts → HasMore acts (all_tallied first t rows).acts
more_of_all first acts t [] m = m
more_of_all first acts t (row ∷ rows) m =
    let next = tallied t row (outcome first t.acts row) in
    more_of_all first acts (unless_refused t.refused t next) rows (more_unless acts t.refused t next m (more_tallied acts t row (outcome first t.acts row) m))

more_if_taken : (acts : List Act) (t : Tally) (o : Option (ℕ × Refusal)) → HasMore acts t.acts → HasMore acts (acts_if_taken acts t o)
more_if_taken acts t None m = m
more_if_taken acts t (Some r) m = none_more acts

pub more_filed : (first : ℤ) (acts : List Act) (r : Result (List (Key × Command)) FileFault) → HasMore acts (acts_filed first acts r)
more_filed first acts (Ok rows) =
    let start : Tally = record { accepted = 0; repeated = 0; acts = acts; refused = None } in
    let t = all_tallied first start (rows_of rows) in
    more_if_taken acts t t.refused (more_of_all first acts start (rows_of rows) (none_more acts))
more_filed first acts (Err fault) = none_more acts

more_asked : (first : ℤ) (acts : List Act) (ask : Ask) → HasMore acts (acts_asked first acts ask)
more_asked first acts (Do key command) = more_with first acts (record { key = key; command = command })
more_asked first acts (Scan delivery line label bin qty) =
    more_scanned first acts (record { delivery = delivery; line = line; bin = bin; qty = qty }) (label_read (today first acts) label)
more_asked first acts (GoodsIn bytes) = more_filed first acts (file_read (today first acts) bytes)
more_asked first acts (Show query) = none_more acts

more_of : (first : ℤ) (acts : List Act) (r : Read) → HasMore acts (acts_of first acts r)
more_of first acts (Need e) = none_more acts
more_of first acts (Bad e) = none_more acts
more_of first acts (Request ask) = more_asked first acts ask

pub step_adds : (first : ℤ) (old : List Act) (text bytes : List ℕ) (new : List Act) → Step first old text bytes new → HasMore old new
step_adds first old text bytes new (inl h) = subst (HasMore old) (sym h.acts) (more_of first old h.reading)
step_adds first old text bytes new (inr h) = ([], h.acts)

pub run_adds : (first : ℤ) (old : List Act) (texts answers : List (List ℕ)) (new : List Act) → Run first old texts answers new → HasMore old new
run_adds first old [] [] new run = ([], run)
run_adds first old [] (bytes ∷ answers) new run = absurd run
run_adds first old (text ∷ texts) [] new run = absurd run
run_adds first old (text ∷ texts) (bytes ∷ answers) new run =
    let one = step_adds first old text bytes run.0 run.1 in
    let later = run_adds first run.0 texts answers new run.2 in
    (later.0 ++ one.0, later.1 ∙ ap (λ l. later.0 ++ l) one.1 ∙ sym (append_assoc later.0 one.0 old))

-- what shows something adds none
shown_adds_none : (first : ℤ) (old : List Act) (text bytes : List ℕ) (new : List Act) (query : Query) → IsReading text (Request (Show query)) → Step first old text bytes new → new ≡ old
shown_adds_none first old text bytes new query read (inl h) = h.acts ∙ ap (acts_of first old) (one_reading text h.reading (Request (Show query)) h.read read)
shown_adds_none first old text bytes new query read (inr h) = h.acts

pub untold_adds_none : (first : ℤ) (old : List Act) (text : List ℕ) (answer : Answered) (new : List Act) → IsInPlace text answer → Step first old text (bytes_of answer) new → TellsNoAct answer → new ≡ old
untold_adds_none first old text (Short block) new place step other = refused_requests_change_nothing first old text block new step other
untold_adds_none first old text (Long bytes) new place step other = shown_adds_none first old text bytes.items new place.0 place.1 step
