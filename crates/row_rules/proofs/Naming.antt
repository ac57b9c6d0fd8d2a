-- A plan's rows by the names of orders and lots.
use Rattle.row_rules.proofs.Words.{◌≡◌, ℕ, ◌+◌, ◌<◌, List, [], ◌∷◌, ◌++◌, length, get_or, drop, refl, ap, sym, ◌∙◌, append_assoc, Option, Some, None, cons_option, drop-length, drop_from, Row, OrderRow, LotRow, ReservedRow, named_rows, named_row, rows_named, GivesFirst}
use Rattle.row_rules.proofs.Walking.{append_none}

some_behind : (x : Option ReservedRow) (out rest : List ReservedRow) → (out ++ cons_option x []) ++ rest ≡ out ++ cons_option x rest
some_behind None out rest = ap (λ ys. ys ++ rest) (append_none out)
some_behind (Some r) out rest = append_assoc out (r ∷ []) rest

module _ (order : ℕ → Option OrderRow) (lot : ℕ → Option LotRow) (rows : List Row) where
  pub record IsNaming (i : ℕ) (out : List ReservedRow) : Type 0 where
    pub so_far : out ++ rows_named order lot (drop i rows) ≡ rows_named order lot rows

  pub naming_more : (i : ℕ) (out : List ReservedRow) (none : Row) (new : List ReservedRow) (x : Option ReservedRow) → i < length rows → IsNaming i out
      → x ≡ named_row (order (get_or rows i none).booking) (lot (get_or rows i none).lot) (get_or rows i none).qty → new ≡ out ++ cons_option x [] → IsNaming (i + 1) new
  naming_more i out none new x h s n e = record {
    so_far =
        ap (λ ys. ys ++ rows_named order lot (drop (i + 1) rows)) e ∙ some_behind x out (rows_named order lot (drop (i + 1) rows))
        ∙ ap (λ y. out ++ cons_option y (rows_named order lot (drop (i + 1) rows))) n
        ∙ sym (ap (λ ys. out ++ rows_named order lot ys) (drop_from rows i none h)) ∙ s.so_far;
  }

  pub naming_all : (i : ℕ) (out : List ReservedRow) → i ≡ length rows → IsNaming i out → out ≡ rows_named order lot rows
  naming_all i out e s =
      sym (append_none out) ∙ sym (ap (λ ys. out ++ rows_named order lot ys) (ap (λ n. drop n rows) e ∙ drop-length rows)) ∙ s.so_far

-- the rows are those of the lists that the look-ups were made of
pub named_agree : (orders : List OrderRow) (lots : List LotRow) (order : ℕ → Option OrderRow) (lot : ℕ → Option LotRow) → GivesFirst (λ o. o.act) order orders → GivesFirst (λ k. k.came) lot lots
    → (rows : List Row) → rows_named order lot rows ≡ named_rows orders lots rows
named_agree orders lots order lot same_orders same_lots [] = refl
named_agree orders lots order lot same_orders same_lots (r ∷ rs) =
    λ i. cons_option (named_row (same_orders r.booking i) (same_lots r.lot i) r.qty) (named_agree orders lots order lot same_orders same_lots rs i)
