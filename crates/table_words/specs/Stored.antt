-- How types are stored in the columns of a table.
use Rattle.std.specs.Prelude.{◌≡◌, ℕ, ℤ, ◌+◌, Bool, true, false, ◌&&◌, if◌then◌else◌, nat_le, length, List, [], ◌∷◌, map, pos}
use Rattle.std.proofs.Common.{refl, ap, ap₂, ◌∙◌}
use native.Mathlib.Numerals.{unary_clauses}
use Rattle.sqlite_value.specs.declared.value.Value.{Value}
use Rattle.sqlite_value.specs.declared.value.Value.TheVariants.{Null, Int, Text}
use Rattle.sqlite_value.specs.Order.{Row, column, bytes}
use Rattle.sqlite.specs.Values.{bound_value}
use Rattle.values.specs.Values.{is_between, is_gtin, is_lot_text}
use Rattle.values.specs.declared.lot.LotId.{LotId}
use Rattle.label.specs.Days.{is_business_day}
use Rattle.commands.specs.Words.{bin_kind_word, order_state_word, card_kind_word}
use Rattle.commands.specs.declared.command.BinKind.{BinKind}
use Rattle.commands.specs.declared.rows.OrderState.{OrderState}
use Rattle.commands.specs.declared.rows.CardKind.{CardKind}
use Rattle.table_words.specs.Cells.{typed, is_word, is_number, is_count, number_in, is_signed, signed_in, flag_number, flag_in, is_bin_kind, bin_kind_in, is_order_state, order_state_in, is_card_kind, card_kind_in}

-- how a type is stored in one column
pub record Stored (X : Type 0) : Type 0 where
  -- whether it is within its limit
  pub fits : X → Bool
  -- the value of the column
  pub value : X → Value
  -- whether a value is one of the type, and which
  pub is : Value → Bool
  pub reads : Value → X

-- what holds of it: it is never NULL, and a statement takes its value as it is
pub record IsStored {X : Type 0} (c : Stored X) : Type 0 where
  pub not_null : c.is Null ≡ false
  pub bound : (x : X) → bound_value (c.value x) ≡ c.value x

-- a text that keeps the rule
abbrev pub text_stored : (List ℕ → Bool) → Stored (List ℕ)
text_stored rule = record { fits = λ t. true; value = λ t. Text t; is = is_word rule; reads = bytes }

-- the limit of numbers up to this one: a column has none above 2 ^ 63 - 1
abbrev pub up_to : ℕ → ℕ
up_to n = if nat_le n 9_223_372_036_854_775_807 then n else 9_223_372_036_854_775_807

-- a number from 0 to the limit
abbrev pub number_stored : ℕ → Stored ℕ
number_stored limit = record { fits = λ n. nat_le n limit; value = λ n. Int (pos n); is = is_number limit; reads = number_in }

-- a number from 1 to the limit
abbrev pub count_stored : ℕ → Stored ℕ
count_stored limit = record { fits = λ n. is_between 1 limit n; value = λ n. Int (pos n); is = is_count limit; reads = number_in }

-- a number, below 0 or not, that keeps the rule
abbrev pub signed_stored : (ℤ → Bool) → Stored ℤ
signed_stored rule = record { fits = rule; value = λ n. Int n; is = is_signed rule; reads = signed_in }

-- a business day
abbrev pub day_stored : Stored ℤ
day_stored = record { fits = λ n. true; value = λ n. Int n; is = is_signed is_business_day; reads = signed_in }

-- yes and no
abbrev pub flag_stored : Stored Bool
flag_stored = record { fits = λ f. true; value = λ f. Int (pos (flag_number f)); is = is_number 1; reads = flag_in }

-- the kind of a bin
abbrev pub bin_kind_stored : Stored BinKind
bin_kind_stored = record { fits = λ k. true; value = λ k. Text (bin_kind_word k); is = is_word is_bin_kind; reads = bin_kind_in }

-- the state of an order
abbrev pub order_state_stored : Stored OrderState
order_state_stored = record { fits = λ s. true; value = λ s. Text (order_state_word s); is = is_word is_order_state; reads = order_state_in }

-- the kind of a card line
abbrev pub card_kind_stored : Stored CardKind
card_kind_stored = record { fits = λ k. true; value = λ k. Text (card_kind_word k); is = is_word is_card_kind; reads = card_kind_in }

-- how a type is stored in columns: `has` and `reads` are of those of a row from a place on
pub record Columns (X : Type 0) : Type 0 where
  pub fits : X → Bool
  pub cells : X → Row
  pub has : ℕ → Row → Bool
  pub reads : ℕ → Row → X

-- in no column
abbrev pub none : {X : Type 0} → X → Columns X
none x = record { fits = λ y. true; cells = λ y. []; has = λ n v. true; reads = λ n v. x }

-- in one
abbrev pub one : {A : Type 0} → Stored A → Columns A
one a = record {
  fits = a.fits;
  cells = λ x. a.value x ∷ [];
  has = λ n v. a.is (column v n);
  reads = λ n v. a.reads (column v n);
}

-- in one, and in those after it
abbrev pub pair : {A R : Type 0} → Stored A → Columns R → Columns (A × R)
pair a r = record {
  fits = λ x. a.fits x.0 && r.fits x.1;
  cells = λ x. a.value x.0 ∷ r.cells x.1;
  has = λ n v. a.is (column v n) && r.has (n + 1) v;
  reads = λ n v. (a.reads (column v n), r.reads (n + 1) v);
}

-- what holds of so many columns
pub record AreColumns {X : Type 0} (c : Columns X) (count : ℕ) : Type 0 where
  pub bound : (x : X) → map bound_value (c.cells x) ≡ c.cells x
  pub size : (x : X) → length (c.cells x) ≡ count
  pub shift : (n : ℕ) (v : Value) (r : Row) → c.has (n + 1) (v ∷ r) ≡ c.has n r

shift_column : (n : ℕ) (v : Value) (r : Row) → column (v ∷ r) (n + 1) ≡ column r n
shift_column n v r = simp unary_clauses refl

longer : (v : Value) (r : Row) → length (v ∷ r) ≡ length r + 1
longer v r = simp unary_clauses refl

pub no_columns : {X : Type 0} (x : X) → AreColumns (none x) 0
no_columns x = record { bound = λ y. refl; size = λ y. refl; shift = λ n v r. refl }

pub one_column : {A : Type 0} (a : Stored A) → IsStored a → AreColumns (one a) 1
one_column a laws = record { bound = λ x. ap (λ v. v ∷ []) (laws.bound x); size = λ x. refl; shift = λ n v r. ap a.is (shift_column n v r) }

pub more_columns : {A R : Type 0} (a : Stored A) → IsStored a → (r : Columns R) (count : ℕ) → AreColumns r count → AreColumns (pair a r) (count + 1)
more_columns a laws r count more = record {
  bound = λ x. ap₂ ◌∷◌ (laws.bound x.0) (more.bound x.1);
  size = λ x. longer (a.value x.0) (r.cells x.1) ∙ ap (λ n. n + 1) (more.size x.1);
  shift = λ n v row. ap₂ ◌&&◌ (ap a.is (shift_column n v row)) (more.shift (n + 1) v row);
}

-- a lot: its GTIN, then its own name
abbrev pub lot_columns : Columns LotId
lot_columns = record {
  fits = λ l. true;
  cells = λ l. Text l.gtin ∷ Text l.lot ∷ [];
  has = λ n v. is_word is_gtin (column v n) && is_word is_lot_text (column v (n + 1));
  reads = λ n v. record { gtin = bytes (column v n); lot = bytes (column v (n + 1)) };
}

pub are_lot_columns : AreColumns lot_columns 2
are_lot_columns =
    record { bound = λ l. refl; size = λ l. refl; shift = λ n v r. ap₂ ◌&&◌ (ap (is_word is_gtin) (shift_column n v r)) (ap (is_word is_lot_text) (shift_column (n + 1) v r)) }

-- a row of X as its columns
pub record Mapping (X P : Type 0) : Type 0 where
  pub columns : Columns P
  pub parts : X → P
  pub of : P → X

-- whether its numbers are within their limits
abbrev pub fits_row : {X P : Type 0} → Mapping X P → X → Bool
fits_row m s = m.columns.fits (m.parts s)

-- whether a stored row reads as one, whose columns stand behind the rowid, and as which
abbrev pub is_stored_row : {X P : Type 0} → Mapping X P → Row → Bool
is_stored_row m = m.columns.has 1

abbrev pub stored_row : {X P : Type 0} → Mapping X P → Row → X
stored_row m r = m.of (m.columns.reads 1 r)

-- those that do, the oldest first
abbrev pub stored_rows : {X P : Type 0} → Mapping X P → List Row → List X
stored_rows m rows = typed (is_stored_row m) (stored_row m) rows
