-- Tables that are compared one by one are the same.
use Rattle.audits.proofs.Words.{◌≡◌, ◌≢◌, Some, refl, ap, slice_get, AllByRecursion, Database, Trees, all_weaker, all-slice_get, tables_in, Keeps, AreTyped, RowKey, TableName, described, RowDiffers, row_at, rule_called, SameCalled, one_tables, SameTables, TABLE_NAMES}
use Rattle.commands.specs.Tables.{Tables}
use Rattle.whole_tables.specs.declared.key.TableName.TheVariants.{Meta}

-- each table is one of those that are compared, at its place in the schema
named_at : (n : TableName) → slice_get TABLE_NAMES.now (described n).place ≡ Some n
named_at Meta = refl
named_at n = refl

each_called : (P : TableName → Type 0) → AllByRecursion P TABLE_NAMES.now → (n : TableName) → P n
each_called P all n = all-slice_get P TABLE_NAMES.now (described n).place n (named_at n) all

pub same_tables : (a b : Database) → SameTables a b → tables_in a.trees ≡ tables_in b.trees
same_tables a b h = one_tables (tables_in a.trees) (tables_in b.trees) (λ n. (each_called (λ m. SameCalled m a b) h n).same)

pub typed_tables : (a b : Database) → SameTables a b → AreTyped a.trees
typed_tables a b h = record { each = all_weaker (λ n. SameCalled n a b) (λ n. Keeps a.trees (rule_called n)) (λ n alike. alike.typed) TABLE_NAMES.now h }

pub keeps_called : (trees : Trees) (name : TableName) → AreTyped trees → Keeps trees (rule_called name)
keeps_called trees name are = each_called (λ n. Keeps trees (rule_called n)) are.each name

-- tables of which a row differs are two
pub two_tables : (row : RowKey) (a b : Tables) → RowDiffers row a b → a ≢ b
two_tables row a b h e = h (ap (row_at row) e)
