-- What older tables come to.
use Rattle.audits.proofs.Words.{◌≡◌, ◌≢◌, ℕ, true, refl, List, Some, None, Option, Result, inl, inr, sym, ap, subst, ◌∙◌, ◌↔◌, ℤ, IfOk, IfErr, Ok, Ghosts, Database, Held, state, State, IsUnchanged, Trees, MetaRow, IsReady, Goes, tables_in, meta_at, with_meta, AreTyped, AreTypedAt, TableFault, Foreign, if_err, IsWritten, HasRow, HasDayAt, IsRaised, OlderBooks, Found, Newest, Older, IsReadyAs, ComesTo, begins_older, day_of_row, Act, today, AreRowsAt, Fault, third_day, has_day, read_typed, rows_come, rows_came, Finding, Sound, Differs, Unnumbered, Unspelled, Refused, IsBegunOver, AreShown, CannotBeRaised, AreOfNone, Says, SaysIn, IsFound, IsFinding, AreSoundBooks}
use Rattle.store.specs.Books.{AreRowsOf}
use Rattle.audits.specs.declared.finding.Finding.TheVariants.{Untyped}

-- books that are not of schema 3 stay
pub shown_still : (old new : State) → IsReady old.now → IsUnchanged old new → ((day : ℤ) → ¬ HasDayAt 3 old.now.trees day) → AreShown Newest old.now.trees new
shown_still old new ready same none = record {
  ready = subst IsReady (sym same.0.now_is) ready;
  are = inl (ap (λ (d : Database). d.trees) same.0.now_is, none);
  rows = λ day acts. (
    λ rows. subst (λ (d : Database). AreRowsOf day acts d.trees) (sym same.0.now_is) (elim rows [
      | inl newest ↦ newest
      | inr third ↦ absurd (none (today day acts) (third_day old.now.trees day acts third))
    ]),
    λ rows. inl (subst (λ (d : Database). AreRowsOf day acts d.trees) same.0.now_is rows),
  );
}

-- what older books come to has the rows of acts exactly where they have
come_both : (found : Found) (before after : Trees) → ComesTo found before after → (day : ℤ) (acts : List Act) → AreRowsAt found day acts before ↔ AreRowsOf day acts after
come_both found before after come day acts = (rows_come found before after day acts come, rows_came found before after day acts come)

-- those of schema 3 get the newest number
pub shown_raised : (old mid new : State) (row : MetaRow) → HasRow 3 old.now.trees row → IsUnchanged old mid → Goes (with_meta row) mid new → AreTypedAt 3 mid.now.trees ↔ AreTyped new.now.trees → AreShown Newest old.now.trees new
shown_raised old mid new row has same goes typed =
    let it : IsRaised old.now.trees new.now.trees = record {
      day = row.day;
      has = day_of_row 3 old.now.trees row has;
      tables = goes.tables ∙ ap (λ (d : Database). with_meta row (tables_in d.trees)) same.0.now_is ∙ ap (λ (m : Option MetaRow). record (tables_in old.now.trees) { meta = m }) (sym has.found);
      typed = (λ are. typed.0 (subst (λ (d : Database). AreTypedAt 3 d.trees) (sym same.0.now_is) are), λ are. subst (λ (d : Database). AreTypedAt 3 d.trees) same.0.now_is (typed.1 are));
    } in
    record { ready = goes.ready; are = inr it; rows = come_both Newest old.now.trees new.now.trees (inr it) }

-- the row that was read is there
pub raised_there : (r : Result (Unit {0}) TableFault) (old mid : State) (row : MetaRow) → IsUnchanged old mid → HasRow 3 old.now.trees row → IfErr r (λ e. e ≡ Foreign → (version : ℕ) → meta_at version mid.now.trees ≡ None)
    → IfErr r (λ e. e ≢ Foreign)
raised_there r old mid row same has h = if_err r (λ e. e ≡ Foreign → (version : ℕ) → meta_at version mid.now.trees ≡ None) (λ e. e ≢ Foreign) h
    (λ e none is.
    let there : Some row ≡ None = sym has.found ∙ ap (λ (d : Database). meta_at 3 d.trees) (sym same.0.now_is) ∙ none is 3 in
    cc)

pub shown_brought : (older : OlderBooks) (base : Trees) (new : State) → IsWritten older base new → AreShown (Older older) base new
shown_brought older base new it = record {
  ready = it.ready;
  are = it.brought;
  rows = come_both (Older older) base new.now.trees it.brought;
}

-- a transaction that was just begun over books
pub begun_over : {S : Type 0} (g : Ghosts S) (old begun : Held S) (found : Found) → begun ≡ record old { in_transaction = true } → IsReadyAs found (state g old).now → IsBegunOver found (state g old).now.trees (state g begun)
begun_over g old begun Newest is ready = rw is (ready, refl)
begun_over g old begun (Older older) is ready = begins_older g old begun older is ready

-- books of a history can be brought up
pub raised_of_acts : (found : Found) (trees : Trees) (first : ℤ) (acts : List Act) → AreRowsAt found first acts trees → ¬ CannotBeRaised found trees
raised_of_acts Newest trees first acts rows cannot = cannot
raised_of_acts (Older older) trees first acts rows cannot = cannot (today first acts) (has_day (Older older) trees first acts rows) (read_typed (Older older) trees first acts rows)

-- the same over a transaction that was begun
pub shown_newest : (base : Trees) (old new : State) → old.now.trees ≡ base → AreShown Newest old.now.trees new → AreShown Newest base new
shown_newest base old new is shown = subst (λ trees. AreShown Newest trees new) is shown

-- ---- what is found of the newest is found of those

none_as_well : (P Q : ℤ → List Act → Type 0) (given : Option ℤ) → ((day : ℤ) (acts : List Act) → Q day acts ↔ P day acts) → AreOfNone P given → AreOfNone Q given
none_as_well P Q given same none day acts asked h are = none day acts asked h ((same day acts).0 are)

says_as_well : (P Q : ℤ → List Act → Type 0) (given : Option ℤ) (trees : Trees) → ((day : ℤ) (acts : List Act) → Q day acts ↔ P day acts) → (f : Finding) → Says P given trees f → Says Q given trees f
says_as_well P Q given trees same (Sound count day) s = record { acts = s.acts; history = s.history; rows = (same day s.acts).1 s.rows; number = s.number; taken = s.taken }
says_as_well P Q given trees same (Differs row) s = (none_as_well P Q given same s.0, s.1)
says_as_well P Q given trees same (Untyped name) s = (none_as_well P Q given same s.0, s.1)
says_as_well P Q given trees same (Unnumbered k) s = (none_as_well P Q given same s.0, s.1)
says_as_well P Q given trees same (Unspelled act) s = (none_as_well P Q given same s.0, s.1)
says_as_well P Q given trees same (Refused act why) s = (none_as_well P Q given same s.0, s.1)

-- sound books are those that are opened
pub sound_books : (r : Result Finding Fault) (given : Option ℤ) (old : State) → IfOk r (IsFinding given old) → (count : ℕ) (first : ℤ) → r ≡ Ok (Sound count first) → AreSoundBooks old count first
sound_books r given old found count first is =
    let it : IsFinding given old (Sound count first) = subst (λ (x : Result Finding Fault). IfOk x (IsFinding given old)) is found in
    let sound = it.finding.says in
    record { found = it.found; schema = it.schema; acts = sound.acts; history = sound.history; number = sound.number; rows = sound.rows }

pub found_shown : (found : Found) (given : Option ℤ) (base : Trees) (s : State) → AreShown found base s → (f : Finding) → SaysIn s.now.trees given f → IsFound found given base f
found_shown found given base s shown f says = record {
  compared = s.now.trees;
  are = shown.are;
  says = says_as_well (λ day acts. AreRowsOf day acts s.now.trees) (λ day acts. AreRowsAt found day acts base) given s.now.trees shown.rows f says;
}
