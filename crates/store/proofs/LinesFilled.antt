-- A change whose lines were written by one statement is the change written by its rows, where what is known of the order tells so.
use Rattle.store.proofs.Words.{◌≡◌, ℕ, Ok, Err, Result, List, ap, sym, subst, ◌∙◌, Option, Some, None, IfSome, State, Database, IsUnchanged, Tables, LineRow, RepeatRow, tables_in, with_repeat, TableFault, Writes, Change, change_made, change_written, made_is_written, Known, HoldsOf}
use Rattle.slices.specs.Filling.{FillsLines}
use Rattle.slices.specs.Following.{KnowsLines}

-- these rows fill the order, of whatever tables its lines are known
abbrev pub Fills : Known → Option (List ℕ) → List LineRow → Type 0
Fills known filled rows = IfSome filled (λ order. (t : Tables) → KnowsLines t known.rows.followed.lines.rows → FillsLines order rows t)

-- of the tables of which the lines of the order are known
told : {O : Type 0} (x : Option O) (Knows : Tables → Type 0) (Fills : O → Tables → Type 0) → IfSome x (λ order. (t : Tables) → Knows t → Fills order t) → (t : Tables) → Knows t → IfSome x (λ order. Fills order t)
told None Knows Fills h t knows = tt
told (Some order) Knows Fills h t knows = h t knows

module _ (known : Known) (change : Change) (filled : Option (List ℕ)) (fills : Fills known filled change.put.lines) where
  pub made_as_written : (t : Tables) → HoldsOf known t → change_made change filled t ≡ change_written change t
  made_as_written t holds = made_is_written change t filled (told filled (λ t. KnowsLines t known.rows.followed.lines.rows) (λ order t. FillsLines order change.put.lines t) fills t holds.rows.followed.lines)

  -- the same of a call that made it of the tables of this state, as a read left them
  pub writes_rows : (row : RepeatRow) (old mid new : State) (r : Result (Unit {0}) TableFault) → IsUnchanged old mid → HoldsOf known (tables_in old.now.trees) → Writes (λ t. with_repeat row (change_made change filled t)) mid new r
      → Writes (λ t. with_repeat row (change_written change t)) mid new r
  writes_rows row old mid new (Ok done) same holds w = record {
    done = λ clean ready.
        let goes = w.done clean ready in
        let is : change_made change filled (tables_in mid.now.trees) ≡ change_written change (tables_in mid.now.trees) =
        subst (λ (db : Database). change_made change filled (tables_in db.trees) ≡ change_written change (tables_in db.trees)) (sym same.0.now_is) (made_as_written (tables_in old.now.trees) holds) in
        record { ready = goes.ready; tables = goes.tables ∙ ap (with_repeat row) is; mode = goes.mode; typed = goes.typed };
    kept = w.kept;
    survives = w.survives;
    never_foreign = w.never_foreign;
  }
  writes_rows row old mid new (Err e) same holds w = record { done = λ clean ready. tt; kept = w.kept; survives = w.survives; never_foreign = w.never_foreign }
