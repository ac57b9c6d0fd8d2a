-- Two databases compared table by table.
use Rattle.std.specs.Prelude.{◌≡◌, List, Option, None, Result, Ok, IfOk, IfErr, IfSome}
use Rattle.std.specs.List.{AllByRecursion}
use Rattle.sqlite.specs.Effect.{Database}
use Rattle.sqlite.specs.State.{State, HasCleanDisk, Survives}
use Rattle.sqlite.specs.Tree.{Trees}
use Rattle.table_words.specs.Steps.{IsReady}
use Rattle.table_words.specs.Typed.{tables_in, Keeps}
use Rattle.whole_tables.specs.declared.key.RowKey.{RowKey}
use Rattle.whole_tables.specs.declared.key.TableName.{TableName}
use Rattle.whole_tables.specs.declared.key.TheConstants.{TABLE_NAMES}
use Rattle.whole_tables.specs.Differing.{RowDiffers, rule_called, SameCalled}
use Rattle.audits.specs.declared.finding.Unread.{Unread}
use Rattle.audits.specs.declared.finding.Unread.TheVariants.{Untyped, Store}

-- both facts
abbrev pub Both : (Database → Database → Type 0) → (Database → Database → Type 0) → Database → Database → Type 0
Both P Q a b = P a b × Q a b

-- they have each of these tables alike
abbrev pub SameEach : List TableName → Database → Database → Type 0
SameEach names a b = AllByRecursion (λ n. SameCalled n a b) names

abbrev pub SameTables : Database → Database → Type 0
SameTables = SameEach TABLE_NAMES.now

-- a row of this table has a value that no row has, or memory or the disk did not suffice
abbrev pub IsUnread : Trees → Unread → Type 0
IsUnread trees (Untyped name) = ¬ Keeps trees (rule_called name)
IsUnread trees Store = Unit {0}

-- so far the disk has returned what was written, and both databases are those of books
pub record AreSeen (old new before after : State) : Type 0 where
  pub clean : HasCleanDisk new
  pub clean_too : HasCleanDisk after
  pub ready : IsReady old.now
  pub ready_too : IsReady before.now

-- Where no row differs this holds of the two databases, which stay, and a row that is told differs. Nothing is committed.
pub record Tells (P : Database → Database → Type 0) (old new before after : State) (result : Result (Option RowKey) Unread) : Type 0 where
  pub same : AreSeen old new before after → result ≡ Ok None → P old.now before.now × (new.now ≡ old.now) × (after.now ≡ before.now)
  pub differs : AreSeen old new before after → IfOk result (λ told. IfSome told (λ row. RowDiffers row (tables_in old.now.trees) (tables_in before.now.trees)))
  pub unread : AreSeen old new before after → IfErr result (IsUnread old.now.trees)
  pub survives : Survives old new (λ _. ⊥)
  pub survives_too : Survives before after (λ _. ⊥)
