-- What importing a goods-in file does to the books, and what the file of their acts keeps.
use Rattle.std.specs.Prelude.{◌≡◌, ◌⊎◌, ℕ, ℤ, List, Option, Result}
use Rattle.std.proofs.Common.{inl, inr}
use Rattle.line_work.specs.Words.{Ghosts, StoreGhosts, Held, state, Act, IsHistory, acts_after_file, Connected, KeepsBooks, AreOldest, ActsFile, Fault, IsImported}
use Rattle.store.specs.Filing.{rows_of}
use Rattle.line_work.specs.Kept.{HasActs, LeavesActs, StopLeaves}
use Rattle.line_work.specs.Beside.{IsOpenedBeside, IsRefusedBeside}

-- the acts that are kept after an import: those after the file, or those before it
abbrev pub kept_of : {Taken Untaken : Type 0} → (after before : List Act) → Taken ⊎ Untaken → List Act
kept_of after before (inl kept) = after
kept_of after before (inr unkept) = before

module _ {S D : Type 0} (s : StoreGhosts S) (g : Ghosts D) (first : ℤ) (acts : List Act) where
  abbrev pub import_keeps : (begun : ℤ) (from : Option (List ℕ)) (end : Result Unit Fault) (books : Connected S) (old new : Option (List ℕ)) (disk : D)
      → IsImported s first acts from (HasActs g disk begun) (LeavesActs g disk begun acts) (Unit {0}) end books old new → List Act
  import_keeps begun from end books old new disk (inl t) = kept_of (acts_after_file first acts (rows_of t.1.rows)) acts t.2
  import_keeps begun from end books old new disk (inr u) = acts

  -- the same of a connection, and of the disk under the file
  pub record IsImportDone (begun : ℤ) (from : Option (List ℕ)) (conn : Held S) (end : Result Unit Fault) (old new : Option (List ℕ)) (disk : D) : Type 0 where
    pub books : Connected S
    pub is : conn ≡ books.conn
    pub imported : IsImported s first acts from (HasActs g disk begun) (LeavesActs g disk begun acts) (Unit {0}) end books old new
    pub stop : StopLeaves s g first begun (import_keeps begun from end books old new disk imported) conn disk

  -- the file of the acts was refused, and nothing was done or told; or it was opened, and the goods-in file imported
  abbrev pub IsImportEnd : (disk : D) → (from : Option (List ℕ)) → (conn : Held S) → (end : Result Unit Fault) → (old new : Option (List ℕ)) → (after : D) → Type 0
  IsImportEnd disk from conn end old new after =
      (IsRefusedBeside s g first acts disk conn end after × (new ≡ old))
      ⊎ ((file : ActsFile D) × (o : IsOpenedBeside g first acts disk file) × IsImportDone o.begun from conn end old new after)

-- the connection keeps the books of the acts, or of these and more
abbrev pub KeepsMore : {S : Type 0} → StoreGhosts S → ℤ → List Act → Held S → Type 0
KeepsMore s first acts conn = (after : List Act) × IsHistory first after × AreOldest acts after × KeepsBooks first after (state s conn)
