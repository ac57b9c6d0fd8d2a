-- The rows of a half of a table.
use Rattle.std.specs.Prelude.{◌≡◌, ℕ, ℤ, Bool, true, false, List, [], ◌∷◌, map, filter, Vec, Result, OnOk, IfOk, IfErr}
use Rattle.std.specs.List.{AllByRecursion}
use Rattle.sqlite.specs.declared.types.Value.TheVariants.{Int}
use Rattle.sqlite.specs.Collation.TheVariants.{Binary}
use Rattle.whole_tables.specs.Words.{Row, Trees, Schema, Select, IsPlain, understood, reads_listing, command_of, typed, schema_with, scan, alone, by_rowid, Described}
use Rattle.sqlite.specs.Term.{Term, col, op2}
use Rattle.sqlite.specs.State.{State, HasCleanDisk, Survives, IsUnchanged}
use Rattle.sqlite_sql.specs.declared.ops.BinaryOp.TheVariants.{Compare}
use Rattle.sqlite_sql.specs.declared.ops.CompareOp.TheVariants.{Le, Gt}
use Rattle.table_words.specs.Steps.{IsReady}
use Rattle.table_words.specs.declared.error.TableFault.{TableFault}
use Rattle.table_words.specs.declared.error.TableFault.TheVariants.{Foreign}
use Rattle.table_words.proofs.ScanLemmas.{passes}
use Rattle.whole_tables.specs.declared.halves.Half.{Half}
use Rattle.whole_tables.specs.declared.halves.Half.TheVariants.{Lower, Upper}

-- the rowid is up to the parameter, or above it
abbrev pub test_of : Half → Term
test_of Lower = op2 (Compare Le Binary) (col 1 0) (col 0 0)
test_of Upper = op2 (Compare Gt Binary) (col 1 0) (col 0 0)

-- the stored row is of this half
abbrev pub is_in : Half → ℤ → Row → Bool
is_in part middle r = passes (Int middle ∷ []) (test_of part ∷ []) r

-- those that are stored
abbrev pub half_of : {X K : Type 0} → Described X K → Half → ℤ → Trees → List Row
half_of d part middle trees = filter (is_in part middle) (trees d.layout.tree)

-- the texts ask for all columns of the rows of a half, the oldest first
abbrev pub HalvesAre : {X K : Type 0} → Described X K → (Half → List ℕ) → Type 0
HalvesAre d text =
    (part : Half) (rest : Schema) → (command_of (understood (schema_with rest) (text part)) ≡ Select (alone (scan d.layout.tree (test_of part ∷ []) d.shown by_rowid)) (map (λ c. c.name) d.layout.columns)) × (reads_listing (schema_with rest) (text part) ≡ false) × IsPlain (understood (schema_with rest) (text part))

-- the rows that are stored so were read, and nothing was changed; `Foreign` only where one of them is not typed
pub record FindsStored {X K A : Type 0} (d : Described X K) (stored : Trees → List Row) (old new : State) (result : Result (Vec X A) TableFault) : Type 0 where
  pub rows : HasCleanDisk new → IsReady old.now → IfOk result (λ found. found.items ≡ typed d.is d.reads (stored old.now.trees))
  pub typed : HasCleanDisk new → IsReady old.now → OnOk result (AllByRecursion (λ r. d.is r ≡ true) (stored old.now.trees))
  pub foreign : HasCleanDisk new → IsReady old.now → IfErr result (λ e. e ≡ Foreign → ¬ AllByRecursion (λ r. d.is r ≡ true) (stored old.now.trees))
  pub same : HasCleanDisk new → IsReady old.now → OnOk result (IsUnchanged old new)
  pub survives : Survives old new (λ _. ⊥)

-- those of the half
abbrev pub FindsHalf : {X K A : Type 0} → Described X K → Half → ℤ → State → State → Result (Vec X A) TableFault → Type 0
FindsHalf d part middle old new result = FindsStored d (half_of d part middle) old new result
