-- What is known of the tables: after a call within a transaction, and at the transaction's end.
use Rattle.store.proofs.Words.{◌≡◌, Bool, true, false, Ok, Err, Result, OnOk, OnErr, IfOk, IfErr, sym, ap, subst, ◌∙◌, IsTrue, arith, Option, Some, None, IfSome, is_ok, IsErr, State, HasCleanDisk, Shows, KeepsCommit, IsUnchanged, IsRolledBack, Survives, Database, Trees, Error, doubt, Tables, RepeatRow, IsReady, Goes, tables_in, with_repeat, TableFault, kept_then, Ends, if_so, whole_of, undone_of, kept_of, Put, Change, change_written, Keeps, IsRaised, ForgetsPut, KnowsFollowed, Follows, HoldsOf, HoldsBeside, Knows, Known, rows_stay_known, answer_of, IsSettled, HasKnown, IsKnown, GoesOnKnown, HoldsLeft, HasLeft, LeavesKnown}
use Rattle.store.proofs.ActsWhole.{KeepsInside, begun_commit}
use Rattle.store.proofs.HandedOn.{Stays, settled_back}
use Rattle.store.proofs.LinesWritten.{covers_written, covers_urgent_written}
use Rattle.store.proofs.BoundsWritten.{bounds_more, bounds_written}
use Rattle.store.proofs.RowsWritten.{rows_written}

-- of the tables of a database
abbrev KnownIn : Option Known → Database → Type 0
KnownIn known db = IfSome known (λ k. HoldsOf k (tables_in db.trees))

-- Within the transaction

ok_to : {X E P Q : Type 0} (r : Result X E) → (P → Q) → OnOk r P → OnOk r Q
ok_to (Ok x) f p = f p
ok_to (Err e) f p = tt

on_ok : {X E P : Type 0} (r : Result X E) → P → OnOk r P
on_ok (Ok x) p = p
on_ok (Err e) p = tt

-- an error answers nothing
pub none_answered : {X E : Type 0} (P : Type 0) (r : Result X E) → IsErr r → OnOk r P
none_answered P (Ok x) none = absurd (let no = none in cc)
none_answered P (Err e) is = tt

-- all of it, and so what is known beside rows
left_by : (b : Bool) (known : Known) (t : Tables) → HoldsOf known t → HoldsLeft b known t
left_by true known t holds = record { lines = holds.lines; urgent = holds.urgent; bounds = holds.bounds }
left_by false known t holds = holds

left_all : (b : Bool) (known : Option Known) (t : Tables) → IfSome known (λ k. HoldsOf k t) → HasLeft b known t
left_all b None t h = tt
left_all b (Some known) t h = left_by b known t h

pub known_if_err : {X E : Type 0} (known after : Option Known) (r : Result X E) (old new : State) → IsErr r → (HasKnown known old → HasKnown after old) → LeavesKnown known after r old new
known_if_err known after r old new is before = record { before = λ h. left_all (is_ok r) after (tables_in old.now.trees) (before h); answered = none_answered _ r is }

-- nothing was changed
pub known_same : {X E : Type 0} (known : Option Known) (r : Result X E) (old new : State) → IsUnchanged old new → IsReady old.now → LeavesKnown known known r old new
known_same known r old new same ready = record {
  before = λ h. left_all (is_ok r) known (tables_in old.now.trees) h;
  answered = on_ok r (same.0.was_open, subst IsReady (sym same.0.now_is) ready, same.0.mode, λ h. subst (KnownIn known) (sym same.0.now_is) h);
}

-- from the state that a read left as it was
pub known_from : {X E : Type 0} (known mid_known after : Option Known) (r : Result X E) (old mid new : State) → IsUnchanged old mid → (HasKnown known old → HasKnown mid_known old) → LeavesKnown mid_known after r mid new → LeavesKnown known after r old new
known_from known mid_known after r old mid new same read leaves = record {
  before = λ h. subst (λ (db : Database). HasLeft (is_ok r) after (tables_in db.trees)) same.0.now_is (leaves.before (subst (KnownIn mid_known) (sym same.0.now_is) (read h)));
  answered = ok_to r (λ a. (same.0.was_open, a.1, a.2 ∙ same.0.mode, λ h. a.3 (subst (KnownIn mid_known) (sym same.0.now_is) (read h)))) leaves.answered;
}

-- what is known of the tables that a read left as they were
pub known_kept : (known : Option Known) (old mid : State) → IsUnchanged old mid → HasKnown known old → HasKnown known mid
known_kept known old mid same holds = subst (KnownIn known) (sym same.0.now_is) holds

pub goes_known_from : {X E : Type 0} (known after : Option Known) (r : Result X E) (old mid new : State) → IsUnchanged old mid → GoesOnKnown known after r mid new → GoesOnKnown known after r old new
goes_known_from known after r old mid new same goes = ok_to r (λ a. (same.0.was_open, a.1, a.2 ∙ same.0.mode, λ h. a.3 (known_kept known old mid same h))) goes

-- more orders are known, no number is smaller, some rows are forgotten, and what follows what is written is so
pub holds_more : (known after : Known) (puts : Put) (t : Tables) → Keeps known.lines after.lines → Keeps known.urgent after.urgent → IsRaised puts known.bounds after.bounds → ForgetsPut puts known.rows after.rows → (KnowsFollowed t known.rows.followed → KnowsFollowed t after.rows.followed) → HoldsOf known t → HoldsOf after t
holds_more known after puts t keeps keeps_urgent raised forgets followed holds = record {
  lines = λ o g up there. keeps g o (holds.lines o g up there);
  urgent = λ o g up there hurried. keeps_urgent g o (holds.urgent o g up there hurried);
  bounds = bounds_more puts known.bounds after.bounds t raised holds.bounds;
  rows = rows_stay_known puts t known.rows after.rows forgets (followed holds.rows.followed) holds.rows;
}

-- A change is written, and what follows it has its rows

module _ (known put after : Known) (change : Change) (row : RepeatRow) (keeps : Keeps known.lines put.lines) (keeps_urgent : Keeps known.urgent put.urgent) (raised : IsRaised change.put known.bounds put.bounds) (forgets : ForgetsPut change.put known.rows put.rows)
    (same : after ≡ record put { rows = record put.rows { followed = after.rows.followed } }) where
  left_written : (t : Tables) → (KnowsFollowed t known.rows.followed → KnowsFollowed t put.rows.followed) → HoldsOf known t → HoldsBeside after t
  left_written t followed holds =
      let more = holds_more known put change.put t keeps keeps_urgent raised forgets followed holds in
      subst (λ (k : Known). HoldsBeside k t) (sym same) (record { lines = more.lines; urgent = more.urgent; bounds = more.bounds })

  holds_written : (t : Tables) → (KnowsFollowed t known.rows.followed → KnowsFollowed t put.rows.followed) → (KnowsFollowed t known.rows.followed → Knows change.put t put) → Follows change put.rows.followed after.rows.followed → HoldsOf known t
      → HoldsOf after (with_repeat row (change_written change t))
  holds_written t followed knows follows holds =
      let told = knows holds.rows.followed in
      subst (λ (k : Known). HoldsOf k (with_repeat row (change_written change t))) (sym same) (record {
        lines = covers_written change row t known put holds.lines keeps told;
        urgent = covers_urgent_written change row t known put holds.urgent keeps_urgent told;
        bounds = bounds_written change row t known.bounds put.bounds raised holds.bounds;
        rows = rows_written change row t known.rows put.rows after.rows.followed forgets follows (followed holds.rows.followed) holds.rows;
      })

  pub known_written : {X E : Type 0} (to : Tables → Tables) (r : Result X E) (old mid new : State) → IsUnchanged old mid → (KnowsFollowed (tables_in old.now.trees) known.rows.followed → KnowsFollowed (tables_in old.now.trees) put.rows.followed)
      → (KnowsFollowed (tables_in old.now.trees) known.rows.followed → Knows change.put (tables_in old.now.trees) put) → IfOk r (λ _. Follows change put.rows.followed after.rows.followed) → IfErr r (λ _. after ≡ put)
      → (HoldsOf known (tables_in old.now.trees) → to (tables_in old.now.trees) ≡ change_written change (tables_in old.now.trees)) → IfOk r (λ _. Goes (λ t. with_repeat row (to t)) mid new) → LeavesKnown (Some known) (Some after) r old new
  known_written to (Ok x) old mid new unchanged followed knows follows unwritten made goes = record {
    before = left_written (tables_in old.now.trees) followed;
    answered = (
      unchanged.0.was_open,
      goes.ready,
      goes.mode ∙ unchanged.0.mode,
      λ holds. subst (λ (t : Tables). HoldsOf after t) (sym (goes.tables ∙ ap (λ (db : Database). with_repeat row (to (tables_in db.trees))) unchanged.0.now_is ∙ ap (with_repeat row) (made holds))) (holds_written (tables_in old.now.trees) followed knows follows holds),
    );
  }
  known_written to (Err e) old mid new unchanged followed knows follows unwritten made goes = record {
    before = λ holds. subst (λ (k : Known). HoldsOf k (tables_in old.now.trees)) (sym unwritten) (holds_more known put change.put (tables_in old.now.trees) keeps keeps_urgent raised forgets followed holds);
    answered = tt;
  }

-- what is known after what was written is known after the answer
pub known_answered_to : (change : Change) (known after : Option Known) (r : Result (Unit {0}) TableFault) (old new : State) → LeavesKnown known after r old new → LeavesKnown known after (answer_of change r) old new
known_answered_to change known after (Ok done) old new leaves = record { before = leaves.before; answered = leaves.answered }
known_answered_to change known after (Err e) old new leaves = record { before = leaves.before; answered = leaves.answered }

-- The transaction's end

ok_with : {X E P Q S : Type 0} (r : Result X E) → (P → Q → S) → OnOk r P → OnOk r Q → OnOk r S
ok_with (Ok x) f p q = f p q
ok_with (Err e) f p q = tt

err_with : {X E P Q S : Type 0} (r : Result X E) → (P → Q → S) → OnErr r P → OnErr r Q → OnErr r S
err_with (Ok x) f p q = tt
err_with (Err e) f p q = f p q

whichever : {X E P : Type 0} (r : Result X E) → OnOk r P → OnErr r P → P
whichever (Ok x) p q = p
whichever (Err e) p q = q

module _ (old begun last new : State) (is : begun ≡ record old { in_transaction = true }) (before : Survives begun last (λ _. ⊥)) where
  clean_first : HasCleanDisk last → HasCleanDisk old
  clean_first clean =
      let begun_clean : HasCleanDisk begun = omega (arith, clean, before.clean) in
      sym (ap (λ (s : State). doubt s.is_clean) is) ∙ begun_clean

  up_first : IsTrue begun.is_open → IsTrue old.is_open
  up_first up = subst (λ b. IsTrue b) (ap (λ (s : State). s.is_open) is) up

  now_is : begun.now ≡ old.now
  now_is = ap (λ (s : State). s.now) is

  module _ (known : Option Known) (is_known : IsKnown known old) where
    pub ready_begun : HasCleanDisk last → IsTrue begun.is_open → IsReady begun.now
    ready_begun clean up = subst IsReady (sym now_is) ((is_known (clean_first clean)).0.ready (up_first up))

    pub holds_begun : HasCleanDisk last → IsTrue begun.is_open → HasKnown known begun
    holds_begun clean up = subst (KnownIn known) (sym now_is) ((is_known (clean_first clean)).1 (up_first up))

    module _ {Q : Trees → Type 0} (ends : Survives last new Q) where
      last_clean : HasCleanDisk new → HasCleanDisk last
      last_clean clean = omega (arith, clean, ends.clean)

      kept_last : KeepsInside begun last → HasCleanDisk last → KeepsCommit old last
      kept_last keeps was = kept_then old begun last (begun_commit old begun is) (keeps was (ready_begun was))

      module _ {X E : Type 0} (made : Error → E → Type 0) (done r : Result X E) (keeps : KeepsInside begun last) (ended : Ends made done r last new) where
        -- it is undone, or the commit fails
        pub kept_finished : HasCleanDisk new → OnErr r (KeepsCommit old new)
        kept_finished clean = kept_of made done r last new ended clean (kept_then old last new (kept_last keeps (last_clean clean)))

        module _ (after : Option Known) (goes : HasCleanDisk last → (IsTrue begun.is_open → IsReady begun.now) → GoesOnKnown known after done begun last) where
          abbrev Went : Type 0
          Went = IsTrue begun.is_open × IsReady last.now × (last.in_transaction ≡ begun.in_transaction) × (HasKnown known begun → HasKnown after last)

          went_on : HasCleanDisk new → OnOk done Went
          went_on clean = goes (last_clean clean) (ready_begun (last_clean clean))

          undone : {P : Type 0} → HasCleanDisk new → (IsRolledBack last new → P) → OnErr r P
          undone clean f = undone_of made done r last new ended clean (λ (went : Went). went.2 ∙ ap (λ (s : State). s.in_transaction) is) f (went_on clean)

          settled_undone : HasCleanDisk new → IsRolledBack last new → IsSettled new
          settled_undone clean back =
              let was = last_clean clean in
              settled_back old last new (is_known (clean_first was)).0 (kept_last keeps was) back

          -- it is committed
          known_committed : HasCleanDisk new → OnOk r (IsSettled new × (IsTrue new.is_open → HasKnown after new))
          known_committed clean = whole_of made done r last new ended clean (λ (went : Went) (shows : Shows last new last.now last.now false). (
            record { ready = λ _. subst IsReady (sym shows.now_is) went.1; settled = λ _. shows.committed_is ∙ sym shows.now_is },
            λ _. subst (KnownIn after) (sym shows.now_is) (went.3 (holds_begun (last_clean clean) went.0)),
          )) (went_on clean)

          pub known_answered : OnOk r (IsKnown after new)
          known_answered = if_so (IsSettled new × (IsTrue new.is_open → HasKnown after new)) r known_committed

          pub settled_finished : HasCleanDisk new → IsSettled new
          settled_finished clean = whichever r (ok_to r (λ (at : IsSettled new × (IsTrue new.is_open → HasKnown after new)). at.0) (known_committed clean)) (undone clean (settled_undone clean))

          -- where it is not committed, what is known of the tables before is left
          pub known_finished : (left : Option Known) → (HasCleanDisk last → (IsTrue begun.is_open → IsReady begun.now) → HasKnown known begun → HasLeft (is_ok done) after (tables_in begun.now.trees))
              → OnOk r (left ≡ after) → OnErr r ((t : Tables) → HasLeft (is_ok done) after t → IfSome left (λ k. HoldsOf k t)) → IsKnown left new
          known_finished left before stays forgets clean = whichever r (ok_with r (λ e at. (at.0, λ up. subst (λ (k : Option Known). HasKnown k new) (sym e) (at.1 up))) stays (known_committed clean))
              (err_with {Q = ((t : Tables) → HasLeft (is_ok done) after t → IfSome left (λ k. HoldsOf k t)) → IsSettled new × (IsTrue new.is_open → HasKnown left new)} r (λ forgot f. f forgot) forgets (undone clean (λ (back : IsRolledBack last new) (forgot : (t : Tables) → HasLeft (is_ok done) after t → IfSome left (λ k. HoldsOf k t)).
              let was = last_clean clean in
              let kept = kept_last keeps was in
              let at = is_known (clean_first was) in (
                settled_undone clean back,
                λ up.
                    let first_up : IsTrue old.is_open = kept.was_open (back.was_open up) in
                    let shows : new.now ≡ old.now = (back.undone up).0 ∙ kept.committed (back.was_open up) ∙ at.0.settled first_up in
                    subst (KnownIn left) (sym shows) (forgot (tables_in old.now.trees) (subst (λ (db : Database). HasLeft (is_ok done) after (tables_in db.trees)) now_is (before was (ready_begun was) (subst (KnownIn known) (sym now_is) (at.1 first_up))))),
              ))))

-- A look leaves what is known

pub known_stays : (known : Option Known) (old new : State) {Q : Trees → Type 0} → Survives old new Q → Stays old new → IsKnown known old → IsKnown known new
known_stays known old new survives stays is_known clean =
    let was : HasCleanDisk old = omega (arith, clean, survives.clean) in
    let at = is_known was in
    let left = stays clean at.0 in (
      left.1,
      λ up.
          let shows : new.now ≡ old.now = sym (left.1.settled up) ∙ left.0.committed up ∙ at.0.settled (left.0.was_open up) in
          subst (KnownIn known) (sym shows) (at.1 (left.0.was_open up)),
    )
