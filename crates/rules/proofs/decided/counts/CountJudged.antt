-- A count judged by its slice is judged as by the acts; and the limit of an item's units, where some come and some go.
use Rattle.rules.proofs.Words.{◌≡◌, ℕ, suc, ◌+◌, ◌-◌, ◌≤◌, true, false, not, List, [], ◌∷◌, refl, ap, sym, ◌∙◌, arith, lit≤, nat_lt, ℤ, pos, negsuc, ltb-false, ltb-true, lt-ltb, le-ltb, UNITS_MAX, Key, Recount, Count, UnknownItem, UnknownBin, UnknownLot, OverUnits, Act, in_bin, units_in_house, IsHistory, tables_of, is_touched, IsSlice, plans, capped, stock_units, staged_units, is_over_without, count_seen, first_refusal, judgement, taken_off, put_on, Slice, same_text_refl, is_lot_refl, units_within_limit}
use Rattle.rules.proofs.rows.LotUnits.{bin_within_limit}
use Rattle.rules.proofs.rows.SliceTells.{item_told, bin_told}
use Rattle.rules.proofs.rows.LotTold.{lot_known_told, in_bin_told}
use Rattle.rules.proofs.decided.goods.ReceiveJudged.{units_are}

-- the limit is passed or not whether the sums are held or not, if what goes is within the limit
over_same : (a b more fewer n : ℕ) → n ≡ a + b → n ≤ UNITS_MAX → fewer ≤ UNITS_MAX → nat_lt UNITS_MAX (capped (capped (capped a + capped b) + more) - fewer) ≡ nat_lt (UNITS_MAX + fewer) (n + more)
over_same a b more fewer n e within fits =
    elim (nat_lt (UNITS_MAX + fewer) (n + more)) as (λ t. nat_lt (UNITS_MAX + fewer) (n + more) ≡ t → nat_lt UNITS_MAX (capped (capped (capped a + capped b) + more) - fewer) ≡ t) [
      | true ↦ λ f. let h = ltb-true (UNITS_MAX + fewer) (n + more) f in lt-ltb _ _ (omega (arith, h, e, within, fits))
      | false ↦ λ f. let h = ltb-false (UNITS_MAX + fewer) (n + more) f in le-ltb _ _ (omega (arith, h, e, within, fits))
    ] refl

-- nor if nothing comes
over_less : (a b fewer n : ℕ) → n ≡ a + b → n ≤ UNITS_MAX → nat_lt UNITS_MAX (capped (capped (capped a + capped b) + 0) - fewer) ≡ nat_lt (UNITS_MAX + fewer) (n + 0)
over_less a b fewer n e within = le-ltb _ _ (omega (arith, e, within)) ∙ sym (le-ltb (UNITS_MAX + fewer) (n + 0) (omega (arith, within)))

module _ (first : ℤ) (acts : List Act) (act : Act) (s : Slice) (slice : IsSlice first act acts (tables_of first acts) s) (planned : plans act.command ≡ true) (history : IsHistory first acts) (g : List ℕ) (touched : is_touched first act acts g ≡ true) where
  pub over_told_without : (more fewer : ℕ) → fewer ≤ UNITS_MAX → is_over_without s g more fewer ≡ nat_lt (UNITS_MAX + fewer) (units_in_house first acts g + more)
  over_told_without more fewer fits =
      over_same (stock_units g s.rows.stock) (staged_units g s.rows.staged) more fewer (units_in_house first acts g) (units_are first acts act s slice planned history g touched) (units_within_limit first acts history g) fits

  pub over_told_change : (z : ℤ) → is_over_without s g (put_on z) (taken_off z) ≡ nat_lt (UNITS_MAX + taken_off z) (units_in_house first acts g + put_on z)
  over_told_change (pos k) = over_told_without k 0 (lit≤ tt)
  over_told_change (negsuc k) =
      over_less (stock_units g s.rows.stock) (staged_units g s.rows.staged) (suc k) (units_in_house first acts g) (units_are first acts act s slice planned history g touched) (units_within_limit first acts history g)

-- Counts

module _ (first : ℤ) (acts : List Act) (key : Key) (c : Recount) (s : Slice)
    (slice : IsSlice first (record { key = key; command = Count c }) acts (tables_of first acts) s) (history : IsHistory first acts) where
  abbrev act : Act
  act = record { key = key; command = Count c }

  touched : is_touched first act acts c.lot.gtin ≡ true
  touched = same_text_refl c.lot.gtin

  over : is_over_without s c.lot.gtin c.qty (in_bin first acts c.bin c.lot) ≡ nat_lt (UNITS_MAX + in_bin first acts c.bin c.lot) (units_in_house first acts c.lot.gtin + c.qty)
  over = over_told_without first acts act s slice refl history c.lot.gtin touched c.qty (in_bin first acts c.bin c.lot) (bin_within_limit first acts history c.lot.gtin c.lot touched c.bin)

  pub count_judged : first_refusal (count_seen s c) ≡ first_refusal (judgement first acts (Count c))
  count_judged =
      λ i. first_refusal (
      (not (item_told first acts act s slice refl c.lot.gtin touched i), UnknownItem)
      ∷ (not (bin_told first acts act s slice refl c.bin (same_text_refl c.bin) i), UnknownBin)
      ∷ (not (lot_known_told first acts act s slice refl c.lot (is_lot_refl c.lot) i), UnknownLot)
      ∷ ((ap (is_over_without s c.lot.gtin c.qty) (in_bin_told first acts act s slice refl c.bin c.lot touched) ∙ over) i, OverUnits) ∷ [])
