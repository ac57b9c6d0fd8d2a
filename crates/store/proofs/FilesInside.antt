-- What the rows of a file come to within their transaction.
use Rattle.store.proofs.Words.{◌≡◌, ℕ, ◌+◌, true, false, List, [], ◌∷◌, Bool, Some, Ok, Err, Result, refl, sym, ap, subst, ◌∙◌, IsTrue, take, drop, arith, ℤ, if◌then◌else◌, All, IfOk, OnOk, All-head, All-tail, All-drop, All-same, State, IsUnchanged, Refusal, is_sound, is_sound_key, Key, Command, Act, IsHistory, IsSoundRequest, is_key_of, outcome, acts_after, appended, tallied, unless_refused, all_tallied, file_outcome_of, acts_after_file, acts_if_taken, AllSound, history_after, IsBooksOf, Reply, Fault, Tally, RowFault, Filed, IsActedInside, told, rows_of, AreKeysOf, taken, tally_of, one_more, DayGoes, ShowsBooks, IsRowTaken, IsFiledInside}
use Rattle.machine.specs.Once as once
use Rattle.store.specs.declared.fault.Fault.TheVariants as fault
use Rattle.store.specs.declared.tally.RowFault.TheVariants.{Refused, Store, Foreign}
use Rattle.store.specs.Filing.{with_row}
use Rattle.store.proofs.DayTold.{day_told}

-- One row

-- the tally after a row that was acted on
tallied_by : (t : Tally) (acts : List Act) (act : Act) (text : List ℕ) (repeated : Bool) →
    tallied (tally_of t acts) act (if repeated then once.Repeated text else once.Accepted text) ≡ tally_of (one_more t repeated) (appended act acts (if repeated then once.Repeated text else once.Accepted text))
tallied_by t acts act text true = refl
tallied_by t acts act text false = refl

one_more_counted : (t : Tally) (repeated : Bool) → (one_more t repeated).accepted + (one_more t repeated).repeated ≡ t.accepted + t.repeated + 1
one_more_counted t true = omega arith
one_more_counted t false = omega arith

module _ (first : ℤ) (acts : List Act) (act : Act) (so_far : Filed) (old new : State) where
  counts : (reply : Reply) → told reply ≡ outcome first acts act →
      tallied (tally_of so_far.tally acts) act (outcome first acts act) ≡ tally_of (one_more so_far.tally reply.repeated) (acts_after first acts act)
  counts reply e =
      subst (λ o. tallied (tally_of so_far.tally acts) act o ≡ tally_of (one_more so_far.tally reply.repeated) (appended act acts o)) e
      (tallied_by so_far.tally acts act reply.text reply.repeated)

  shows_after : (reply : Reply) → IsSoundRequest act → IsHistory first acts → IsBooksOf first acts old.now → IsActedInside first acts act (Ok reply) old new
      → ShowsBooks first (acts_after first acts act) old new
  shows_after reply sound history books done = record {
    history = history_after first act acts sound history;
    books = record { ready = done.2.ready; rows = record { tables = done.2.tables; typed = done.2.typed books.rows.typed } };
    mode = done.2.mode;
  }

  pub row_taken : (acted : Result Reply Fault) → IsSoundRequest act → IsHistory first acts → IsBooksOf first acts old.now
      → IsActedInside first acts act acted old new → IsRowTaken first acts act so_far (with_row so_far act.command acted) old new
  row_taken (Ok reply) sound history books done = (
    counts reply done.0,
    shows_after reply sound history books done,
    λ day. day_told first acts act so_far.day reply done.0 day,
  )
  row_taken (Err (fault.Refused why)) sound history books done = sym (ap (λ o. (tallied (tally_of so_far.tally acts) act o).refused) done)
  row_taken (Err fault.Store) sound history books done = tt
  row_taken (Err fault.Foreign) sound history books done = absurd done

-- a row is counted where it was acted on, and what is so then is so of both
module _ (so_far : Filed) (command : Command) where
  pub one_counted : (acted : Result Reply Fault) → IfOk (with_row so_far command acted) (λ filed. filed.tally.accepted + filed.tally.repeated ≡ so_far.tally.accepted + so_far.tally.repeated + 1)
  one_counted (Ok reply) = one_more_counted so_far.tally reply.repeated
  one_counted (Err e) = tt

  pub where_acted : (P : Type 0) (acted : Result Reply Fault) → OnOk acted P → OnOk (with_row so_far command acted) P
  where_acted P (Ok reply) h = h
  where_acted P (Err e) h = tt

-- All rows

-- once a row is refused, the others are not looked at
stays_refused : (first : ℤ) (t : once.Tally) (r : ℕ × Refusal) (left : List Act) → t.refused ≡ Some r → all_tallied first t left ≡ t
stays_refused first t r [] e = refl
stays_refused first t r (row ∷ left) e =
    ap (λ o. all_tallied first (unless_refused o t (tallied t row (outcome first t.acts row))) left) e ∙ stays_refused first t r left e

-- how far the rows have come: what is left of them leads from the acts now to what all of them lead to
pub record AreUnderWay (first : ℤ) (acts rows left : List Act) (day : ℤ) (filed : Filed) (old now : State) : Type 0 where
  pub so_far : List Act
  pub tally : all_tallied first (tally_of filed.tally so_far) left ≡ once.tally first acts rows
  pub shows : ShowsBooks first so_far old now
  pub day_goes : DayGoes first acts day so_far filed.day

module _ (first : ℤ) (acts rows : List Act) (day : ℤ) (old : State) where
  pub under_way_at_first : (filed : Filed) → filed ≡ record { tally = record { accepted = 0; repeated = 0 }; day = day } → IsHistory first acts → IsBooksOf first acts old.now
      → AreUnderWay first acts rows rows day filed old old
  under_way_at_first filed is history books =
      subst (λ (f : Filed). AreUnderWay first acts rows rows day f old old) (sym is) (record {
        so_far = acts;
        tally = refl;
        shows = record { history = history; books = books; mode = refl };
        day_goes = λ e. e;
      })

  module _ (act : Act) (left : List Act) (filed : Filed) (mid new : State) (way : AreUnderWay first acts rows (act ∷ left) day filed old mid) where
    pub one_row_on : (next : Filed) → IsRowTaken first way.so_far act filed (Ok next) mid new → AreUnderWay first acts rows left day next old new
    one_row_on next taken = record {
      so_far = acts_after first way.so_far act;
      tally = sym (ap (λ t. all_tallied first t left) taken.0) ∙ way.tally;
      shows = record { history = taken.1.history; books = taken.1.books; mode = taken.1.mode ∙ way.shows.mode };
      day_goes = λ e. taken.2 (way.day_goes e);
    }

    refused_there : (r : ℕ × Refusal) → (tallied (tally_of filed.tally way.so_far) act (outcome first way.so_far act)).refused ≡ Some r → (once.tally first acts rows).refused ≡ Some r
    refused_there r e = sym (ap (λ (t : once.Tally). t.refused) (sym (stays_refused first (tallied (tally_of filed.tally way.so_far) act (outcome first way.so_far act)) r left e) ∙ way.tally)) ∙ e

    pub ends_at_row : (e : RowFault) → IsRowTaken first way.so_far act filed (Err e) mid new → IsFiledInside first acts rows day (Err e) old new
    ends_at_row (Refused row why) taken = sym (ap (file_outcome_of (once.tally first acts rows)) (refused_there (row, why) taken))
    ends_at_row Store taken = tt
    ends_at_row Foreign taken = absurd taken

  module _ (filed : Filed) (new : State) (way : AreUnderWay first acts rows [] day filed old new) where
    come_to : once.tally first acts rows ≡ tally_of filed.tally way.so_far
    come_to = sym way.tally

    pub all_rows_taken : IsFiledInside first acts rows day (Ok filed) old new
    all_rows_taken =
        let after : way.so_far ≡ acts_after_file first acts rows = sym (ap (λ (t : once.Tally). acts_if_taken acts t t.refused) come_to) in (
          sym (ap (λ (t : once.Tally). file_outcome_of t t.refused) come_to),
          subst (λ a. ShowsBooks first a old new) after way.shows,
          subst (λ a. DayGoes first acts day a filed.day) after way.day_goes,
        )

-- the row at a place, and those after it
module _ (rows : List (Key × Command)) (i : ℕ) (row : Key × Command) (rest : List (Key × Command)) (left : drop i rows ≡ row ∷ rest) where
  pub row_kind : AreKeysOf rows → IsTrue (is_key_of row.0 row.1)
  row_kind keys =
      let P : Key × Command → Type 0 = λ r. IsTrue (is_key_of r.0 r.1) in
      All-head P row rest (All-same P (row ∷ rest) (drop i rows) (sym left) (All-drop P i rows keys))

  pub row_next : (first : ℤ) (acts : List Act) (day : ℤ) (filed : Filed) (old mid : State) → AreUnderWay first acts (rows_of rows) (rows_of (drop i rows)) day filed old mid
      → AreUnderWay first acts (rows_of rows) (record { key = row.0; command = row.1 } ∷ rows_of rest) day filed old mid
  row_next first acts day filed old mid way = subst (λ l. AreUnderWay first acts (rows_of rows) (rows_of l) day filed old mid) left way

-- the same from the state that a read left as it was
pub filed_from : (first : ℤ) (acts rows : List Act) (day : ℤ) (r : Result Filed RowFault) (old mid last : State) → IsUnchanged old mid → IsFiledInside first acts rows day r mid last → IsFiledInside first acts rows day r old last
filed_from first acts rows day (Ok filed) old mid last same h = (h.0, record { history = h.1.history; books = h.1.books; mode = h.1.mode ∙ same.0.mode }, h.2)
filed_from first acts rows day (Err (Refused row why)) old mid last same h = h
filed_from first acts rows day (Err Store) old mid last same h = tt
filed_from first acts rows day (Err Foreign) old mid last same h = h

-- Rows whose values keep their rules

abbrev pub IsSoundRow : Key × Command → Type 0
IsSoundRow r = IsTrue (is_sound_key r.0) × IsTrue (is_sound r.1)

all_sound : (rows : List (Key × Command)) → All IsSoundRow rows → AreKeysOf rows → AllSound (rows_of rows)
all_sound [] sound keys = tt
all_sound (r ∷ rows) sound keys =
    let here = All-head IsSoundRow r rows sound in (
      record { kind = All-head (λ r. IsTrue (is_key_of r.0 r.1)) r rows keys; key = here.0; command = here.1 },
      all_sound rows (All-tail IsSoundRow r rows sound) (All-tail (λ r. IsTrue (is_key_of r.0 r.1)) r rows keys),
    )

pub rows_are_sound : (n : ℕ) (rows : List (Key × Command)) → take n rows ≡ rows → All IsSoundRow (take n rows) → AreKeysOf rows → AllSound (rows_of rows)
rows_are_sound n rows all sound keys = all_sound rows (subst (All IsSoundRow) all sound) keys
