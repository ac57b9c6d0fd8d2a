-- What an act comes to within its transaction: by its row of `repeats`, or by the decision and the rows written.
use Rattle.store.proofs.Words.{◌≡◌, ℕ, inl, inr, true, false, List, Ok, Err, Result, refl, sym, ap, subst, ◌∙◌, IsTrue, ℤ, Option, Some, None, if◌then◌else◌, same_text, key_text, spelling, Tables, Refusal, KeyUsed, RepeatRow, Database, State, HasCleanDisk, IsUnchanged, tables_in, AreTyped, with_repeat, IsReady, Goes, TableFault, Writes, Act, bearer, outcome, acts_after, appended, judged, Outcome, Accepted, Repeated, reply, IsDecision, applied, tables_of, verdict, Change, change_written, change_is_applied, IsBooksOf, Reply, Fault, IsActedInside, IsDecidedByRows, repeat_of, answer_of, IsToldAgain, fault_of}
use Rattle.table_words.specs.declared.error.TableFault.TheVariants as table
use Rattle.machine.specs.Once.{Refused}
use Rattle.store.specs.declared.fault.Fault.TheVariants as fault
use Rattle.store.proofs.RepeatTold.{key_is_new, new_key_is_judged, act_is_recorded, repeat_is_told}

-- the same from the state that a read left as it was
goes_from : (f : Tables → Tables) (old mid last : State) → IsUnchanged old mid → Goes f mid last → Goes f old last
goes_from f old mid last same goes = record {
  ready = goes.ready;
  tables = goes.tables ∙ ap (λ (db : Database). f (tables_in db.trees)) same.0.now_is;
  mode = goes.mode ∙ same.0.mode;
  typed = λ typed. goes.typed (subst (λ (db : Database). AreTyped db.trees) (sym same.0.now_is) typed);
}

pub books_kept : (first : ℤ) (acts : List Act) (old mid : State) → IsUnchanged old mid → IsBooksOf first acts old.now → IsBooksOf first acts mid.now
books_kept first acts old mid same books = subst (IsBooksOf first acts) (sym same.0.now_is) books

module _ (first : ℤ) (acts : List Act) (act : Act) where
  -- the acts after, once the outcome is known
  after_outcome : (o : Outcome) → outcome first acts act ≡ o → acts_after first acts act ≡ appended act acts o
  after_outcome o e = ap (appended act acts) e

  -- a new command that is refused
  pub refused_anew : (why : Refusal) → bearer act.key acts ≡ None → verdict first acts act.command ≡ Some why → Refused why ≡ outcome first acts act
  refused_anew why fresh no_way = sym (new_key_is_judged first act acts fresh ∙ ap (judged first act acts) no_way)

  -- a new command on which there is no change
  pub undecided_inside : (why : Fault) (old last : State) → bearer act.key acts ≡ None → IsDecidedByRows first act acts (Err why) → IsActedInside first acts act (Err why) old last
  undecided_inside (fault.Refused why) old last fresh h = refused_anew why fresh h
  undecided_inside fault.Store old last fresh h = tt
  undecided_inside fault.Foreign old last fresh h = h

  -- a fault of the tables, where no row is foreign
  pub fails_inside : (cause : TableFault) (old last : State) → (cause ≡ table.Foreign → ⊥) → IsActedInside first acts act (Err (fault_of cause)) old last
  fails_inside (table.Store e) old last typed = tt
  fails_inside table.Foreign old last typed = typed refl

  pub store_inside : (why : Fault) (old last : State) → why ≡ fault.Store → IsActedInside first acts act (Err why) old last
  store_inside why old last is = subst (λ (x : Fault). IsActedInside first acts act (Err x) old last) (sym is) tt

  module _ (change : Change) (old mid last : State) (up : IsTrue old.is_open) (books : IsBooksOf first acts old.now) (same : IsUnchanged old mid) (fresh : bearer act.key acts ≡ None) (decision : IsDecision first act acts (Ok change)) where
    -- a new command that is accepted, its change and its row of `repeats` written
    accepted_anew : Goes (λ t. with_repeat (repeat_of act.key act.command change) (change_written change t)) mid last → IsActedInside first acts act (Ok (record { text = change.text; repeated = false })) old last
    accepted_anew wrote =
        let row : RepeatRow = repeat_of act.key act.command change in
        let out : outcome first acts act ≡ Accepted (reply first act acts) = new_key_is_judged first act acts fresh ∙ ap (judged first act acts) decision.0 in
        let goes : Goes (λ t. with_repeat row (change_written change t)) old last = goes_from (λ t. with_repeat row (change_written change t)) old mid last same wrote in (
          ap (λ t. Accepted t) decision.2 ∙ sym out,
          up,
          record {
            ready = goes.ready;
            tables = goes.tables ∙ ap (λ t. with_repeat row t) (change_is_applied change (tables_in old.now.trees) decision.3) ∙ ap (λ t. with_repeat row (applied change t)) books.rows.tables
                ∙ act_is_recorded first act acts change row decision.1 decision.2 refl
                ∙ sym (ap (tables_of first) (after_outcome _ out));
            mode = goes.mode;
            typed = goes.typed;
          },
        )

    -- the same of what the call that writes them answers
    pub accepted_inside : (r : Result (Unit {0}) TableFault) → Writes (λ t. with_repeat (repeat_of act.key act.command change) (change_written change t)) mid last r → HasCleanDisk last → IsReady mid.now
        → IsActedInside first acts act (answer_of change r) old last
    accepted_inside (Ok done) writes clean ready = accepted_anew (writes.done clean ready)
    accepted_inside (Err e) writes clean ready = fails_inside e old last writes.never_foreign

  -- the same from the state that a read left as it was
  pub inside_from : (r : Result Reply Fault) (old mid last : State) → IsUnchanged old mid → IsActedInside first acts act r mid last → IsActedInside first acts act r old last
  inside_from (Ok reply) old mid last same h = (h.0, same.0.was_open, goes_from (λ _. tables_of first (acts_after first acts act)) old mid last same h.2)
  inside_from (Err (fault.Refused why)) old mid last same h = h
  inside_from (Err fault.Store) old mid last same h = tt
  inside_from (Err fault.Foreign) old mid last same h = h

  -- no row of the books has the key: it is new
  pub key_is_fresh : (db : Database) → IsBooksOf first acts db → ◌≡◌ {A = Option RepeatRow} None ((tables_in db.trees).repeat (key_text act.key)) → bearer act.key acts ≡ None
  unfolding tables_of
  key_is_fresh db books none = key_is_new first act.key acts (sym (ap (λ (t : Tables). t.repeat (key_text act.key)) books.rows.tables) ∙ sym none)

  module _ (row : RepeatRow) (found : (tables_of first acts).repeat (key_text act.key) ≡ Some row) where
    told_by_row : outcome first acts act ≡ (if same_text (spelling act.command) row.spell then Repeated row.reply else Refused KeyUsed)
    unfolding tables_of
    told_by_row = repeat_is_told first act acts row found

    -- the same command again
    pub repeated_inside : (old last : State) → IsTrue old.is_open → IsBooksOf first acts old.now → IsUnchanged old last → same_text (spelling act.command) row.spell ≡ true
        → IsActedInside first acts act (Ok (record { text = row.reply; repeated = true })) old last
    repeated_inside old last up books same equal =
        let out : outcome first acts act ≡ Repeated row.reply = told_by_row ∙ ap (λ b. if b then Repeated row.reply else Refused KeyUsed) equal in (
          sym out,
          up,
          record {
            ready = subst IsReady (sym same.0.now_is) books.ready;
            tables = ap (λ (db : Database). tables_in db.trees) same.0.now_is ∙ books.rows.tables ∙ sym (ap (tables_of first) (after_outcome _ out));
            mode = same.0.mode;
            typed = λ typed. subst (λ (db : Database). AreTyped db.trees) (sym same.0.now_is) typed;
          },
        )

    -- another command under the key
    pub key_used_inside : same_text (spelling act.command) row.spell ≡ false → Refused KeyUsed ≡ outcome first acts act
    key_used_inside other = sym (told_by_row ∙ ap (λ b. if b then Repeated row.reply else Refused KeyUsed) other)

    -- what the row tells
    pub told_inside : (r : Result Reply Fault) (old last : State) → IsTrue old.is_open → IsBooksOf first acts old.now → IsUnchanged old last → IsToldAgain (spelling act.command) row r → IsActedInside first acts act r old last
    told_inside (Ok reply) old last up books same h = subst (λ (x : Reply). IsActedInside first acts act (Ok x) old last) (sym h.1) (repeated_inside old last up books same h.0)
    told_inside (Err why) old last up books same (inl is) = store_inside why old last is
    told_inside (Err why) old last up books same (inr h) = subst (λ (x : Fault). IsActedInside first acts act (Err x) old last) (sym h.0) (key_used_inside h.1)

-- the row of the books under the key
pub row_is_found : (first : ℤ) (acts : List Act) (k : List ℕ) (db : Database) (row : RepeatRow) → IsBooksOf first acts db → ◌≡◌ {A = Option RepeatRow} (Some row) ((tables_in db.trees).repeat k) → (tables_of first acts).repeat k ≡ Some row
row_is_found first acts k db row books some = sym (ap (λ (t : Tables). t.repeat k) books.rows.tables) ∙ sym some
