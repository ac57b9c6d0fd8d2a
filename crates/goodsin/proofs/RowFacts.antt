-- What a row reads as.
use Rattle.goodsin.proofs.Words.{◌≡◌, ◌≢◌, ◌∙◌, ◌<◌, ◌≤◌, ◌∷◌, ◌++◌, [], ℕ, ℤ, List, Option, Some, None, length, option_and_then, option_map, IfSome, refl, sym, Err, Key, Line, Command, row_read, Begins, HasOther, Fields, IsReceipt, command_of, line_at, name_at, receipt_of, received, Row, TooManyRows, Length}
use Rattle.std.proofs.lemmas.Bool.{le-ltb, lt-ltb, ne_eqb}
use Rattle.std.specs.Option.{ok_or}
use Rattle.commands.specs.declared.command.Receipt.{Receipt}

some_same : (m n : ℕ) → Some m ≡ Some n → m ≡ n
some_same m n e = cc e

-- of another length than the header
pub row-length : (today : ℤ) (row : ℕ) (f : Fields) → 7 ≢ length f → row_read today row f ≡ Err Length
row-length today row f other = rw (ne_eqb (length f) 7 (λ e. other (sym e))) refl

-- one too many
pub row-over : (today : ℤ) (row : ℕ) (f : Fields) → length f ≡ 7 → 1000 < row → row_read today row f ≡ Err TooManyRows
row-over today row f seven over = rw (seven, lt-ltb 1000 row over) refl

-- judged by its fields
pub row-judged : (today : ℤ) (row : ℕ) (f : Fields) (o : Option (Key × Command)) → length f ≡ 7 → row ≤ 1000 → o ≡ command_of today f
    → row_read today row f ≡ ok_or o (Row row)
row-judged today row f o seven within is = rw (seven, le-ltb 1000 row within, is) refl

-- the length that the reader expects
pub told-length : (o : Option ℕ) (n : ℕ) → o ≡ Some 7 → IfSome o (λ k. n ≡ k) → n ≡ 7
told-length None n e h = cc e
told-length (Some k) n e h = cc (e, h)

-- the row of another length
pub other-row : (today : ℤ) (row : ℕ) (text : List ℕ) (rows : List Fields) (expected : Option ℕ) → expected ≡ Some 7 → HasOther text rows expected
    → (f : Fields) × Begins text (rows ++ f ∷ []) × (row_read today row f ≡ Err Length)
other-row today row text rows expected e h =
    let seven : h.0 ≡ 7 = some_same _ _ (sym h.2 ∙ e) in
    let other : 7 ≢ length h.1 = λ is. h.3 (seven ∙ is) in
    (h.1, h.4, row-length today row h.1 other)

-- what a row gives is a receipt
pub is-receipt : (today : ℤ) (f : Fields) (r : Key × Command) → Some r ≡ command_of today f → IsReceipt r
is-receipt today f r e = by (name_at 0 f) (line_at 1 f) (receipt_of today f) e
  where
    by : (d : Option (List ℕ)) (n : Option ℕ) (q : Option Receipt)
        → Some r ≡ option_and_then (λ key. option_map (received key) q) (option_and_then (λ delivery. option_map (Line delivery) n) d) → IsReceipt r
    by None n q e = cc e
    by (Some d) None q e = cc e
    by (Some d) (Some n) None e = cc e
    by (Some d) (Some n) (Some q) e = let is : r ≡ received (Line d n) q = cc e in rw is tt
