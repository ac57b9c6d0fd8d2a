-- The lines of an order, read one after another and read again.
use Rattle.texts.proofs.Words.{◌≡◌, ℕ, zero, suc, ◌+◌, ◌<◌, ◌≤◌, true, List, [], ◌∷◌, ◌++◌, length, drop, refl, sym, ap, ◌∙◌, append_assoc, append-nil, arith, Option, Some, None, decimal, option_map, option_and_then, list_all, is_gtin, is_qty, lines_fields, is_order_line, OrderLine, and_both, Fields, field_at, line_read, line_at, lines_read}
use Rattle.texts.proofs.Numbers.{checked_again, qty_again}

-- a line, and the others behind it
abbrev then_lines : Fields → Option OrderLine → Option (List OrderLine)
then_lines rest o = option_and_then (λ line. option_map (λ lines. line ∷ lines) (lines_read rest)) o

last_line : (o : Option OrderLine) → option_map (λ line. line ∷ []) o ≡ then_lines [] o
last_line None = refl
last_line (Some line) = refl

next_line : (f : Fields) (i : ℕ) → i < length f → lines_read (drop i f) ≡ then_lines (drop (suc (suc i)) f) (line_read (field_at i f) (field_at (suc i) f))
next_line [] i h = absurd (omega (arith, h))
next_line (g ∷ []) zero h = last_line (line_read g [])
next_line (g ∷ q ∷ rest) zero h = refl
next_line (g ∷ f) (suc i) h = next_line f i (omega (arith, h))

line_step : (f : Fields) (i : ℕ) → i < length f → lines_read (drop i f) ≡ then_lines (drop (i + 2) f) (line_at i f)
line_step f i h =
    let one : suc i ≡ i + 1 = omega arith in
    let two : suc (suc i) ≡ i + 2 = omega arith in
    next_line f i h ∙ ap (λ k. then_lines (drop k f) (line_read (field_at i f) (field_at (suc i) f))) two
    ∙ ap (λ k. then_lines (drop (i + 2) f) (line_read (field_at i f) (field_at k f))) one

abbrev pub with_front : List OrderLine → Option (List OrderLine) → Option (List OrderLine)
with_front front read = option_map (λ lines. front ++ lines) read

regroup : (front : List OrderLine) (line : OrderLine) (read : Option (List OrderLine))
    → with_front front (option_map (λ lines. line ∷ lines) read) ≡ with_front (front ++ line ∷ []) read
regroup front line None = refl
regroup front line (Some lines) = ap (λ (ls : List OrderLine). Some ls) (sym (append_assoc front (line ∷ []) lines))

pub goes_on : (front : List OrderLine) (line : OrderLine) (f : Fields) (i : ℕ) (total : Option (List OrderLine)) → i < length f → line_at i f ≡ Some line
    → with_front front (lines_read (drop i f)) ≡ total → with_front (front ++ line ∷ []) (lines_read (drop (i + 2) f)) ≡ total
goes_on front line f i total h is so_far =
    sym (regroup front line (lines_read (drop (i + 2) f)))
    ∙ sym (ap (λ o. with_front front (then_lines (drop (i + 2) f) o)) is)
    ∙ sym (ap (with_front front) (line_step f i h)) ∙ so_far

pub ends : (front : List OrderLine) (f : Fields) (i : ℕ) (total : Option (List OrderLine)) → i < length f → line_at i f ≡ None
    → with_front front (lines_read (drop i f)) ≡ total → total ≡ None
ends front f i total h is so_far =
    sym so_far ∙ ap (with_front front) (line_step f i h) ∙ ap (λ o. with_front front (then_lines (drop (i + 2) f) o)) is

past_end : (f : Fields) (i : ℕ) → length f ≤ i → drop i f ≡ []
past_end [] zero h = refl
past_end [] (suc i) h = refl
past_end (g ∷ f) zero h = absurd (omega (arith, h))
past_end (g ∷ f) (suc i) h = past_end f i (omega (arith, h))

pub is_done : (front : List OrderLine) (f : Fields) (i : ℕ) (total : Option (List OrderLine)) → length f ≤ i
    → with_front front (lines_read (drop i f)) ≡ total → Some front ≡ total
is_done front f i total h so_far =
    ap (λ (ls : List OrderLine). Some ls) (sym (append-nil front)) ∙ sym (ap (λ g. with_front front (lines_read g)) (past_end f i h)) ∙ so_far

-- what is spelled is read again
line_again : (l : OrderLine) → is_order_line l ≡ true → line_read l.gtin (decimal l.qty) ≡ Some l
line_again l sound =
    let s = and_both (is_gtin l.gtin) (is_qty l.qty) sound in
    rw (checked_again is_gtin l.gtin s.0, qty_again l.qty s.1) refl

pub lines_again : (ls : List OrderLine) → list_all is_order_line ls ≡ true → lines_read (lines_fields ls) ≡ Some ls
lines_again [] sound = refl
lines_again (l ∷ ls) sound =
    let s = and_both (is_order_line l) (list_all is_order_line ls) sound in
    ap (λ o. then_lines (lines_fields ls) o) (line_again l s.0) ∙ ap (λ o. option_map (λ lines. l ∷ lines) o) (lines_again ls s.1)
