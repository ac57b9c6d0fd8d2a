-- An act within a transaction, and then the transaction's end.
use Rattle.store.proofs.Words.{◌≡◌, true, false, List, Ok, Err, Result, OnOk, refl, sym, ap, subst, ◌∙◌, IsTrue, arith, ℤ, IsOk, State, HasCleanDisk, Shows, KeepsCommit, IsRolledBack, Survives, FailsToCommit, Database, Trees, Held, state, Error, IsReady, put_back, Ends, rolled_back, survives_of, ready_tells, Act, IsHistory, is_key_of, acts_after, Reply, Fault, Refused, Store, Foreign, IsBooksOf, AreBooks, KeepsBooks, LeavesOnly, IsActedOn, IsActedInside}
use Rattle.sqlite.specs.Store.{Ghosts}

module _ (first : ℤ) (acts : List Act) (old begun : State) (is : begun ≡ record old { in_transaction = true }) (held : KeepsBooks first acts old) where
  was_open : IsTrue begun.is_open → IsTrue old.is_open
  was_open up = subst (λ b. IsTrue b) (ap (λ (s : State). s.is_open) is) up

  pub books_begun : IsTrue begun.is_open → IsBooksOf first acts begun.now
  books_begun up = subst (IsBooksOf first acts) (sym (ap (λ (s : State). s.now) is)) (held.books (was_open up))

  -- the books of the acts after, once the act is done
  books_after : (act : Act) (reply : Reply) (last : State) → IsActedInside first acts act (Ok reply) begun last → IsBooksOf first (acts_after first acts act) last.now
  books_after act reply last done = record { ready = done.2.ready; rows = record { tables = done.2.tables; typed = done.2.typed (books_begun done.1).rows.typed } }

  -- it is committed
  acted_whole : (act : Act) (reply : Reply) (last new : State) → IsActedInside first acts act (Ok reply) begun last → Shows last new last.now last.now false → IsActedOn first acts act (Ok reply) new
  acted_whole act reply last new done shows = (
    done.0,
    shows.is_open,
    record {
      books = λ up. subst (IsBooksOf first (acts_after first acts act)) (sym shows.now_is) (books_after act reply last done);
      settled = λ up. shows.committed_is ∙ sym shows.now_is;
    },
  )

  -- it is undone
  pub undone_whole : (last new : State) → KeepsCommit begun last → IsRolledBack last new → KeepsBooks first acts new
  undone_whole last new kept undone = record {
    books = λ up. subst (IsBooksOf first acts) (sym (put_back old begun last new is kept undone (λ up. sym (held.settled up)) up)) (held.books (was_open (kept.was_open (undone.was_open up))));
    settled = λ up. (undone.undone up).1 ∙ sym (undone.undone up).0;
  }

  -- the commit fails
  pub not_committed : (last new : State) (e : Error) → KeepsCommit begun last → last.in_transaction ≡ begun.in_transaction → FailsToCommit last new e → KeepsBooks first acts new
  not_committed last new e kept mode fails = undone_whole last new kept (rolled_back last new e (mode ∙ ap (λ (s : State). s.in_transaction) is) fails)

  -- what is refused, and what fails, leaves the books
  refused_whole : (act : Act) (fault : Fault) (last new : State) → IsActedInside first acts act (Err fault) begun last → KeepsBooks first acts new → IsActedOn first acts act (Err fault) new
  refused_whole act (Refused why) last new done kept = (done, kept)
  refused_whole act Store last new done kept = kept
  refused_whole act Foreign last new done kept = absurd done

pub begun_state : {S : Type 0} (g : Ghosts S) (old begun : Held S) → begun ≡ record old { in_transaction = true } → state g begun ≡ record (state g old) { in_transaction = true }
begun_state g old begun is = ap (state g) is

-- what the connection shows is what the next opening finds once it is committed
pub books_in : {first : ℤ} {acts : List Act} (db : Database) → IsBooksOf first acts db → AreBooks first acts db.trees
books_in db books = record { rows = books.rows; schema = ready_tells db books.ready }

-- what is promised of an act on every history: within its transaction, of the whole of it, and of a stop in it

abbrev pub ActsInside : Act → Result Reply Fault → State → State → Type 0
ActsInside act r old new =
    HasCleanDisk new → IsTrue (is_key_of act.key act.command) → (first : ℤ) (acts : List Act) → IsHistory first acts
    → (IsTrue old.is_open → IsBooksOf first acts old.now) → IsActedInside first acts act r old new

abbrev pub KeepsInside : State → State → Type 0
KeepsInside old new = HasCleanDisk new → (IsTrue old.is_open → IsReady old.now) → KeepsCommit old new

abbrev pub ActsWhole : Act → Result Reply Fault → State → State → Type 0
ActsWhole act r old new =
    HasCleanDisk new → IsTrue (is_key_of act.key act.command) → (first : ℤ) (acts : List Act) → IsHistory first acts → KeepsBooks first acts old
    → IsActedOn first acts act r new

abbrev pub SurvivesWhole : Act → State → State → Type 0
SurvivesWhole act old new =
    Survives old new (λ trees. IsTrue (is_key_of act.key act.command) → (first : ℤ) (acts : List Act) → IsHistory first acts → KeepsBooks first acts old
    → AreBooks first (acts_after first acts act) trees)

module _ (act : Act) (old begun last new : State) (is : begun ≡ record old { in_transaction = true }) where
  pub act_finished : {Q : Trees → Type 0} (done r : Result Reply Fault) → ActsInside act done begun last → KeepsInside begun last → Survives last new Q → Ends (λ _ e. e ≡ Store) done r last new → ActsWhole act r old new
  act_finished (Ok reply) (Ok same) inside keeps survives ends clean kind first acts history held =
      let was : HasCleanDisk last = omega (arith, clean, survives.clean) in
      let done = inside was kind first acts history (books_begun first acts old begun is held) in
      subst (λ (x : Reply). IsActedOn first acts act (Ok x) new) (sym ends.0) (acted_whole first acts old begun is held act reply last new done (ends.1 clean))
  act_finished (Ok reply) (Err e) inside keeps survives ends clean kind first acts history held =
      let was : HasCleanDisk last = omega (arith, clean, survives.clean) in
      let books = books_begun first acts old begun is held in
      let done = inside was kind first acts history books in
      subst (λ (x : Fault). IsActedOn first acts act (Err x) new) (sym ends.1) (not_committed first acts old begun is held last new ends.0 (keeps was (λ up. (books up).ready)) done.2.mode (ends.2 clean))
  act_finished (Err fault) r inside keeps survives ends clean kind first acts history held =
      let was : HasCleanDisk last = omega (arith, clean, survives.clean) in
      let books = books_begun first acts old begun is held in
      subst (λ (x : Result Reply Fault). IsActedOn first acts act x new) (sym ends.0)
      (refused_whole first acts old begun is held act fault last new (inside was kind first acts history books) (undone_whole first acts old begun is held last new (keeps was (λ up. (books up).ready)) (ends.1 clean)))

  -- a stop leaves the books before or with the whole act
  pub act_stopped : (done : Result Reply Fault) → ActsInside act done begun last → Survives begun last (λ _. ⊥) → Survives last new (λ db. IsOk done × (db ≡ last.now.trees)) → SurvivesWhole act old new
  act_stopped done inside before ends = survives_of done old begun last new _ is before ends (λ clean. by_answer done inside (let was : HasCleanDisk last = omega (arith, clean, ends.clean) in was))
    where
      by_answer : (done : Result Reply Fault) → ActsInside act done begun last → HasCleanDisk last → OnOk done (IsTrue (is_key_of act.key act.command) → (first : ℤ) (acts : List Act) → IsHistory first acts → KeepsBooks first acts old
          → AreBooks first (acts_after first acts act) last.now.trees)
      by_answer (Ok reply) inside was = λ kind first acts history held. books_in last.now (books_after first acts old begun is held act reply last (inside was kind first acts history (books_begun first acts old begun is held)))
      by_answer (Err fault) inside was = tt

-- to begin a transaction commits nothing
pub begun_commit : (old begun : State) → begun ≡ record old { in_transaction = true } → KeepsCommit old begun
begun_commit old begun is = subst (λ (s : State). KeepsCommit old s) (sym is) (record { was_open = λ up. up; committed = λ up. refl })

-- what was answered is kept: a crash leaves the last commit while the connection is open
pub kept_acts : {S : Type 0} (g : Ghosts S) (h : Held S) (first : ℤ) (acts : List Act) → ((db : Trees) → IsTrue (g.view h.store).is_open → g.recovers h.store db → db ≡ (g.view h.store).committed)
    → IsTrue (state g h).is_open → KeepsBooks first acts (state g h) → LeavesOnly first acts (state g h)
kept_acts g h first acts settled up keeps trees left =
    subst (AreBooks first acts) (sym (settled trees up left ∙ ap (λ (db : Database). db.trees) (keeps.settled up))) (books_in (state g h).now (keeps.books up))
