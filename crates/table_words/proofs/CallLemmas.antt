-- What a call on a transaction leaves.
use Rattle.table_words.proofs.Words.{◌≡◌, ◌⊎◌, inl, inr, ℕ, Bool, true, false, List, Ok, Err, Result, OnOk, OnErr, IfOk, IfErr, IsTrue, refl, sym, ap, subst, ◌∙◌, arith, cases_Bool, map, AllByRecursion, Ghosts, Held, state, Error, understood, timed, State, Survives, ExecutesInside, KeepsCommit, IsUnchanged, IsRolledBack, FailsToShow, IsTooLate, ShowsRows, IsPlain, survives_then, Database, Tables, tables_in, AreTyped, IsReady, Goes, ChangesNone, Reads, ShowsForeign}
use Rattle.sqlite.specs.Order.{Row}
use Rattle.sqlite.specs.State.{IsNotRun, FailsToQuery, Shown}

-- a call that answered was made inside a transaction
pub was_inside : {X E P : Type 0} (b : Bool) {x : X} {e : E} → (b ≡ false → ◌≡◌ {A = Result X E} (Ok x) (Err e) × P) → b ≡ true
was_inside true h = refl
was_inside false h = absurd (let k = (h refl).0 in cc)

pub kept_unchanged : (old new : State) → IsUnchanged old new → KeepsCommit old new
kept_unchanged old new h = record { was_open = λ _. h.0.was_open; committed = λ _. h.0.committed_is }

pub kept_undone : (old new : State) → IsRolledBack old new → KeepsCommit old new
kept_undone old new h = record { was_open = h.was_open; committed = λ up. (h.undone up).1 }

pub kept_itself : (s : State) → KeepsCommit s s
kept_itself s = record { was_open = λ up. up; committed = λ _. refl }

pub kept_then : (a b c : State) → KeepsCommit a b → KeepsCommit b c → KeepsCommit a c
kept_then a b c p q = record { was_open = λ up. p.was_open (q.was_open up); committed = λ up. q.committed up ∙ p.committed (q.was_open up) }

ran_kept : (sql : List ℕ) (params : Row) (old new : State) (r : Result ℕ Error) → ExecutesInside 0 sql params old new r → KeepsCommit old new
ran_kept sql params old new (Ok count) h = record { was_open = λ _. h.1.was_open; committed = λ _. h.1.committed_is }
ran_kept sql params old new (Err e) (inl (h, inl same)) = kept_unchanged old new same
ran_kept sql params old new (Err e) (inl (h, inr undone)) = kept_undone old new undone
ran_kept sql params old new (Err e) (inr h) = kept_unchanged old new h.2

-- whatever a call answers, nothing is committed
pub keeps : {S : Type 0} (g : Ghosts S) (sql : List ℕ) (params : Row) (old new : Held S) (r : Result ℕ Error) {late : Result ℕ Error} → ((state g old).in_transaction ≡ false → (r ≡ late) × (new ≡ old))
    → (IsTrue (state g old).in_transaction → ExecutesInside 0 sql params (state g old) (state g new) r) → KeepsCommit (state g old) (state g new)
keeps g sql params old new r ended runs = elim (cases_Bool (state g old).in_transaction) [
  | inl inside ↦ ran_kept sql params (state g old) (state g new) r (runs inside)
  | inr late ↦ subst (λ h. KeepsCommit (state g old) (state g h)) (sym (ended late).1) (kept_itself (state g old))
]

pub goes_then : (f g : Tables → Tables) (a b c : State) → Goes f a b → Goes g b c → Goes (λ t. g (f t)) a c
goes_then f g a b c p q = record { ready = q.ready; tables = q.tables ∙ ap g p.tables; mode = q.mode ∙ p.mode; typed = λ h. q.typed (p.typed h) }

late_kept : (sql : List ℕ) (params : Row) (old new : State) (e : Error) → IsNotRun old new sql params e → KeepsCommit old new
unfolding IsNotRun
late_kept sql params old new e (inl h) = kept_unchanged old new h.1
late_kept sql params old new e (inr h) = kept_undone old new h.3

-- a query that fails commits nothing
pub query_keeps : (sql : List ℕ) (params : Row) (old new : State) (e : Error) → IsPlain (understood old.now.schema sql) → FailsToQuery sql params old new e ⊎ IsTooLate sql params old new e → KeepsCommit old new
unfolding FailsToQuery
query_keeps sql params old new e plain (inl (inl h)) = late_kept sql params old new e h
query_keeps sql params old new e plain (inl (inr h)) =
    let none = (subst IsPlain h.1.is plain).0 in
    kept_unchanged old new (subst (FailsToShow old new sql h.0 (timed params h.0.formats h.1.now) e) none h.2).3
query_keeps sql params old new e plain (inr h) = kept_unchanged old new h.5

-- a query that answers changes nothing
pub query_same : (sql : List ℕ) (params : Row) (old new : State) (rows : List Row) → IsPlain (understood old.now.schema sql) → Shown sql params old new rows → IsUnchanged old new
unfolding Shown
query_same sql params old new rows plain h =
    let none = (subst IsPlain h.1.is plain).0 in
    (subst (ShowsRows old new sql h.0 (timed params h.0.formats h.1.now) rows) none h.2).3

pub on_ok : {X E P : Type 0} (r : Result X E) → P → OnOk r P
on_ok (Ok x) p = p
on_ok (Err e) p = tt

-- what is so of each answer is so where there is one
pub on_ok_if : {X E Q : Type 0} (r : Result X E) (P : X → Type 0) → IfOk r P → ((x : X) → P x → Q) → OnOk r Q
on_ok_if (Ok x) P h f = f x h
on_ok_if (Err e) P h f = tt

pub if_ok : {X E : Type 0} (r : Result X E) (P Q : X → Type 0) → IfOk r P → ((x : X) → P x → Q x) → IfOk r Q
if_ok (Ok x) P Q h f = f x h
if_ok (Err e) P Q h f = tt

-- what a query showed is a list of rows of the table where each of its rows reads as one, and shows a foreign row where one does not
pub shown_rows_read : {V X E : Type 0} (items : V → List X) (has : Row → Bool) (read : Row → X) (sql : List ℕ) (params : Row) (old new : State) (rows seen : List Row) (r : Result V E) → seen ≡ rows → Shown sql params old new rows
    → IfOk r (λ found. AllByRecursion (λ v. has v ≡ true) seen) → IfOk r (λ found. map read seen ≡ items found) → IfOk r (λ found. Reads has read sql params old new (items found))
shown_rows_read items has read sql params old new rows seen (Ok found) is shown typed ok = record { rows = seen; shown = subst (Shown sql params old new) (sym is) shown; typed = typed; read_as = ok }
shown_rows_read items has read sql params old new rows seen (Err e) is shown typed ok = tt

pub shown_row_foreign : {V E : Type 0} (k : E) (has : Row → Bool) (sql : List ℕ) (params : Row) (old new : State) (rows seen : List Row) (r : Result V E) → seen ≡ rows → Shown sql params old new rows
    → IfErr r (λ e. e ≡ k → ¬ AllByRecursion (λ v. has v ≡ true) seen) → IfErr r (λ e. e ≡ k → ShowsForeign has sql params old new)
shown_row_foreign k has sql params old new rows seen (Ok found) is shown untyped = tt
shown_row_foreign k has sql params old new rows seen (Err e) is shown untyped = λ same. record { rows = seen; shown = subst (Shown sql params old new) (sym is) shown; untyped = untyped same }

-- where nothing is done, nothing changes
pub inside_itself : (s : State) → Survives s s (λ _. ⊥)
inside_itself s = record { clean = omega arith; shield = λ is. is; counts = omega arith; limit = refl; closes = λ _ up. inl up; crash = λ _ db left. inl left }

-- two calls that commit nothing commit nothing
pub inside_then : (a b c : State) → Survives a b (λ _. ⊥) → Survives b c (λ _. ⊥) → Survives a c (λ _. ⊥)
inside_then a b c = survives_then a b c (λ _. ⊥) (λ _. ⊥) (λ _. ⊥) (λ _ db none. none) (λ _ db none. none)

-- ---- the end of a transaction

-- what is rolled back is what was there before
pub put_back : (old begun last new : State) → begun ≡ record old { in_transaction = true } → KeepsCommit begun last → IsRolledBack last new → (IsTrue old.is_open → old.now ≡ old.committed) → IsTrue new.is_open → new.now ≡ old.now
put_back old begun last new is kept undone settled up =
    let was : IsTrue begun.is_open = kept.was_open (undone.was_open up) in
    (undone.undone up).0 ∙ kept.committed (undone.was_open up) ∙ ap (λ (s : State). s.committed) is ∙ sym (settled (rw is at was))

pub on_err : {X E P : Type 0} (r : Result X E) → P → OnErr r P
on_err (Ok x) p = tt
on_err (Err e) p = p

pub if_both : {X E : Type 0} (r : Result X E) (P Q : X → Type 0) → IfOk r P → IfOk r Q → IfOk r (λ x. P x × Q x)
if_both (Ok x) P Q h k = (h, k)
if_both (Err e) P Q h k = tt

pub if_err : {X E : Type 0} (r : Result X E) (P Q : E → Type 0) → IfErr r P → ((e : E) → P e → Q e) → IfErr r Q
if_err (Ok x) P Q h f = tt
if_err (Err e) P Q h f = f e h

-- what follows from what is so where there is an answer
pub on_ok_then : {X E P Q : Type 0} (r : Result X E) → OnOk r P → (P → Q) → OnOk r Q
on_ok_then (Ok x) h f = f h
on_ok_then (Err e) h f = tt

-- ---- what a call leaves that is refused

goes_itself : (s : State) → IsReady s.now → Goes (λ t. t) s s
goes_itself s ready = record { ready = ready; tables = refl; mode = refl; typed = λ h. h }

-- where nothing is done, the tables are as they were
pub none_itself : (s : State) → IsReady s.now → ChangesNone s s
none_itself s ready = inl (goes_itself s ready)

pub none_unchanged : (old new : State) → IsReady old.now → IsUnchanged old new → ChangesNone old new
none_unchanged old new ready h = inl (record {
  ready = subst IsReady (sym h.0.now_is) ready;
  tables = ap (λ (db : Database). tables_in db.trees) h.0.now_is;
  mode = h.0.mode;
  typed = λ are. subst (λ (db : Database). AreTyped db.trees) (sym h.0.now_is) are;
})

none_undone : (old new : State) → IsRolledBack old new → ChangesNone old new
none_undone old new h = inr (record { was_open = h.was_open; undone = h.undone; autocommit = h.autocommit })

ran_none : (sql : List ℕ) (params : Row) (old new : State) (r : Result ℕ Error) → IsReady old.now → ExecutesInside 0 sql params old new r → OnErr r (ChangesNone old new)
ran_none sql params old new (Ok count) ready h = tt
ran_none sql params old new (Err e) ready (inl (h, inl same)) = none_unchanged old new ready same
ran_none sql params old new (Err e) ready (inl (h, inr undone)) = none_undone old new undone
ran_none sql params old new (Err e) ready (inr h) = none_unchanged old new ready h.2

-- a statement that is refused changes none of the tables
pub refuses : {S : Type 0} (g : Ghosts S) (sql : List ℕ) (params : Row) (old new : Held S) (r : Result ℕ Error) {late : Result ℕ Error} → ((state g old).in_transaction ≡ false → (r ≡ late) × (new ≡ old))
    → (IsTrue (state g old).in_transaction → ExecutesInside 0 sql params (state g old) (state g new) r) → IsReady (state g old).now → OnErr r (ChangesNone (state g old) (state g new))
refuses g sql params old new r ended runs ready = elim (cases_Bool (state g old).in_transaction) [
  | inl inside ↦ ran_none sql params (state g old) (state g new) r ready (runs inside)
  | inr late ↦ on_err r (subst (λ h. ChangesNone (state g old) (state g h)) (sym (ended late).1) (none_itself (state g old) ready))
]

late_none : (sql : List ℕ) (params : Row) (old new : State) (e : Error) → IsReady old.now → IsNotRun old new sql params e → ChangesNone old new
unfolding IsNotRun
late_none sql params old new e ready (inl h) = none_unchanged old new ready h.1
late_none sql params old new e ready (inr h) = none_undone old new h.3

-- so does a query
pub query_none : (sql : List ℕ) (params : Row) (old new : State) (e : Error) → IsPlain (understood old.now.schema sql) → IsReady old.now → FailsToQuery sql params old new e ⊎ IsTooLate sql params old new e → ChangesNone old new
unfolding FailsToQuery
query_none sql params old new e plain ready (inl (inl h)) = late_none sql params old new e ready h
query_none sql params old new e plain ready (inl (inr h)) =
    let none = (subst IsPlain h.1.is plain).0 in
    none_unchanged old new ready (subst (FailsToShow old new sql h.0 (timed params h.0.formats h.1.now) e) none h.2).3
query_none sql params old new e plain ready (inr h) = none_unchanged old new ready h.5

-- nothing was changed before what was refused
pub none_then : (a b c : State) → Goes (λ t. t) a b → KeepsCommit a b → ChangesNone b c → ChangesNone a c
none_then a b c same kept (inl h) = inl (goes_then (λ t. t) (λ t. t) a b c same h)
none_then a b c same kept (inr h) = inr (record {
  was_open = λ up. kept.was_open (h.was_open up);
  undone = λ up. ((h.undone up).0 ∙ kept.committed (h.was_open up), (h.undone up).1 ∙ kept.committed (h.was_open up));
  autocommit = h.autocommit;
})
