-- What holds of a query of the rows in which columns of the key have the texts that are sought.
use Rattle.std.proofs.Common.{◌≡◌, ℕ, ◌+◌, Bool, true, ◌&&◌, bytes_eq, List, [], ◌∷◌, map, refl, sym, ap, ap₂, ◌∙◌}
use Rattle.std.specs.List.{AllByRecursion, list_all}
use native.Mathlib.Numerals.{unary_clauses}
use Rattle.sqlite_value.specs.declared.value.Value.{Value}
use Rattle.keyed_rows.specs.Words.{Text, Row, column, all_of, all_weaker, Columns, is_the_text, tests_from, passes, in_order}
use Rattle.sqlite_value.specs.declared.keys.Collation.TheVariants.{Binary}
use Rattle.sqlite_sql.specs.declared.ops.BinaryOp.TheVariants.{Compare}
use Rattle.sqlite_sql.specs.declared.ops.CompareOp.TheVariants.{Eq}
use Rattle.sqlite_sql.specs.Ops.{binary, is_true}
use Rattle.table_words.proofs.CellLemmas.{and_true, same_word, equals_text}
use Rattle.keyed_rows.specs.Described.{Described, IsLawful, IsSought}
use Rattle.keyed_rows.specs.Asks.{Compared, Asks, with_each, each, is_sought, params_of, tests_of, query_of, AreSought, IsText, AreTexts, IsAsked}
use Rattle.keyed_rows.specs.KeyLaws.{rows_of, found_by_key}

-- SQL's = of a value and a text
abbrev equals : Value → List ℕ → Bool
equals v t = is_true (binary (Compare Eq Binary) v (Text t))

next_column : (n : ℕ) (v : Value) (r : Row) → column (v ∷ r) (n + 1) ≡ column r n
next_column n v r = simp unary_clauses refl

-- a parameter more, in front of those that are compared
one_before : (v : Value) (params r : Row) (places : List ℕ) (n : ℕ) → passes (v ∷ params) (tests_from places (n + 1)) r ≡ passes params (tests_from places n) r
one_before v params r [] n = refl
one_before v params r (p ∷ ps) n = ap₂ ◌&&◌ (ap (λ w. is_true (binary (Compare Eq Binary) (column r p) w)) (next_column n v params)) (one_before v params r ps (n + 1))

-- the tests of columns are one of each
one_of_each : {C : Type 0} (place : C → ℕ) (text : C → List ℕ) (test : C → Bool) (r : Row) (cs : List C) → AllByRecursion (λ c. equals (column r (place c)) (text c) ≡ test c) cs
    → passes (map (λ c. Text (text c)) cs) (tests_from (map place cs) 0) r ≡ list_all test cs
one_of_each place text test r [] all = refl
one_of_each place text test r (c ∷ cs) all = ap₂ ◌&&◌ all.0 (one_before (Text (text c)) (map (λ c. Text (text c)) cs) r (map place cs) 0 ∙ one_of_each place text test r cs all.1)

one_and_each : {C : Type 0} (test : C → Bool) (c : C) (cs : List C) → list_all test (c ∷ cs) ≡ with_each test c cs
one_and_each test c [] = and_true (test c)
one_and_each test c (e ∷ cs) = ap (λ t. test c && t) (one_and_each test e cs)

list_each : {C : Type 0} (test : C → Bool) (cs : List C) → list_all test cs ≡ each test cs
list_each test [] = refl
list_each test (c ∷ cs) = one_and_each test c cs

text_compared : {X K : Type 0} (d : Described X K) (place : ℕ) (of : K → List ℕ) → IsText d place of → (r : Row) → d.is r ≡ true → (t : List ℕ) → equals (column r place) t ≡ bytes_eq t (of (d.key (d.reads r)))
text_compared d place of it r h t = same_word it.rule (column r place) (Text t) t (it.has r h) refl ∙ ap (bytes_eq t) (sym (it.reads r))

-- a typed row passes the tests where its key has the texts
pub key_found : {X K B : Type 0} (d : Described X K) (columns : List (Compared K B)) → AreTexts d columns → (by : B) (r : Row) → d.is r ≡ true → passes (params_of columns by) (tests_of columns) r ≡ is_sought columns by (d.key (d.reads r))
key_found {X} {K} {B} d columns texts by r h =
    one_of_each (λ (c : Compared K B). c.place) (λ c. c.sought by) (λ c. bytes_eq (c.sought by) (c.of (d.key (d.reads r)))) r columns
    (all_weaker (λ c. IsText d c.place c.of) (λ c. equals (column r c.place) (c.sought by) ≡ bytes_eq (c.sought by) (c.of (d.key (d.reads r)))) (λ c it. text_compared d c.place c.of it r h (c.sought by)) columns texts)
    ∙ list_each (λ (c : Compared K B). bytes_eq (c.sought by) (c.of (d.key (d.reads r)))) columns

-- and any where its columns are the texts
row_found : {K B : Type 0} (columns : List (Compared K B)) (by : B) (r : Row) → passes (params_of columns by) (tests_of columns) r ≡ each (λ c. is_the_text (c.sought by) (column r c.place)) columns
row_found {K} {B} columns by r =
    one_of_each (λ (c : Compared K B). c.place) (λ c. c.sought by) (λ c. is_the_text (c.sought by) (column r c.place)) r columns
    (all_of (λ c. equals (column r c.place) (c.sought by) ≡ is_the_text (c.sought by) (column r c.place)) (λ c. equals_text (column r c.place) (c.sought by)) columns)
    ∙ list_each (λ (c : Compared K B). is_the_text (c.sought by) (column r c.place)) columns

pub asked_sought : {X K B : Type 0} (d : Described X K) (a : Asks K B) → IsLawful d → (c : Columns B) (count : ℕ) → IsAsked c count d a → IsSought d (query_of d a) (AreSought d a)
asked_sought d a laws c count it = record {
  is = it.is;
  at = key_found d a.columns it.texts;
  at_stored = λ by r int. row_found a.columns by r;
  ordered = λ db ready by rows answer. in_order db.trees (params_of a.columns by) d.layout.tree (tests_of a.columns) d.shown rows (rows_of d laws db ready).0 answer;
  finds = λ db ready by xs are. found_by_key d laws (is_sought a.columns by) db ready xs are;
}
