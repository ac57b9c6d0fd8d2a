-- An order of a history has a line, so one without lines has no row.
use Rattle.slices.proofs.Words.{◌≡◌, ℕ, Bool, true, false, ◌&&◌, List, [], ◌∷◌, refl, ap, sym, subst, ◌∙◌, ◌||◌, if◌then◌else◌, find, Some, None, option_map, is_some, ℤ, inl, inr, list_any, list_all, cons_option, same_text, OrderLine, Command, Order, Urgent, OrderRow, LineRow, OrderKey, same_order, order_key, same_line, line_key, is_name, is_title, has_order_lines, is_order_line, are_lines, is_sound, Act, next_number, Placed, orders, order_in, lines_placed, tables_of, IsHistory, and_both, same_text_is, same_text_refl, Tables, AreLinesOfOrder, AreLined, AreOrders, Each}
use Rattle.table_words.specs.Found as read
use Rattle.slices.proofs.LinesTold.{line_some}

-- where no lines of an order are found it has none
pub no_lines : (o : List ℕ) (t : Tables) (lines : List LineRow) → AreLinesOfOrder o t lines → lines ≡ [] → (g : List ℕ) → t.line o g ≡ None
no_lines o t lines are none g = sym (are.found (o, g) (same_text_refl o)) ∙ ap (find (λ r. same_line (o, g) (line_key r))) none

-- Histories

abbrev AllLined : List Placed → Type 0
AllLined [] = Unit {0}
AllLined (p ∷ ps) = (has_order_lines p.lines ≡ true) × AllLined ps

lined_after : (before : List Act) (c : Command) → is_sound c ≡ true → AllLined (orders before) → AllLined (cons_option (order_in (next_number before) c) (orders before))
lined_after before (Order o) e h = ((and_both (has_order_lines o.lines) (list_all is_order_line o.lines) (and_both (is_name o.order && is_title o.customer) (are_lines o.lines) e).1).0, h)
lined_after before (Urgent o) e h = ((and_both (has_order_lines o.lines) (list_all is_order_line o.lines) (and_both (is_name o.order && is_title o.customer) (are_lines o.lines) e).1).0, h)
lined_after before _ e h = h

all_lined : (first : ℤ) (acts : List Act) → IsHistory first acts → AllLined (orders acts)
all_lined first [] h = tt
all_lined first (act ∷ before) h = lined_after before act.command h.1.sound.command (all_lined first before h.0)

-- whether one of the lines is for the item
abbrev has_item : List OrderLine → List ℕ → Bool
has_item lines g = list_any (λ (l : OrderLine). same_text g l.gtin) lines

some_item : (lines : List OrderLine) → has_order_lines lines ≡ true → ((g : List ℕ) → has_item lines g ≡ false) → ⊥
some_item [] e none = let no : false ≡ true = e in cc
some_item (l ∷ lines) e none = let no : true ≡ false = sym (ap (λ b. b || has_item lines l.gtin) (same_text_refl l.gtin)) ∙ none l.gtin in cc

-- an order without lines was not placed
unplaced : (o : List ℕ) (ps : List Placed) → AllLined ps → ((g : List ℕ) → has_item (lines_placed (find (λ p. same_text o p.order) ps)) g ≡ false) → find (λ p. same_text o p.order) ps ≡ None
unplaced o [] h none = refl
unplaced o (p ∷ ps) h none =
    elim (same_text o p.order) as (λ b. ((g : List ℕ) → has_item (lines_placed (if b then Some p else find (λ q. same_text o q.order) ps)) g ≡ false) → (if b then Some p else find (λ q. same_text o q.order) ps) ≡ None) [
      | true ↦ λ f. absurd (some_item p.lines h.0 f)
      | false ↦ λ f. unplaced o ps h.1 f
    ] none

module _ (first : ℤ) (acts : List Act) (history : IsHistory first acts) where
  abbrev t : Tables
  t = tables_of first acts

  no_row : (o : List ℕ) → ((g : List ℕ) → t.line o g ≡ None) → t.order o ≡ None
  unfolding tables_of
  no_row o none = ap (option_map _) (unplaced o (orders acts) (all_lined first acts history) (λ g. sym (line_some first acts o g) ∙ ap is_some (none g)))

  -- Rows that are not sought

  row_told : (o : List ℕ) (rows : List OrderRow) → AreLined o t rows → read.AreRows {K = OrderKey} same_order order_key (λ k. same_text o k) t.order rows
  row_told o rows (inl none) =
      subst (λ (l : List OrderRow). read.AreRows {K = OrderKey} same_order order_key (λ k. same_text o k) t.order l) (sym none.0)
      (record { found = λ k e. sym (ap t.order (sym (same_text_is o k e)) ∙ no_row o none.1); only = refl; once = refl })
  row_told o rows (inr are) = are

  pub rows_told : (names : List (List ℕ)) (rows : List OrderRow) → Each (λ o found. AreLined o t found) names rows → AreOrders names t rows
  rows_told [] rows e = e
  rows_told (o ∷ names) rows (xs, ys, lined, more, e) = (xs, ys, row_told o xs lined, rows_told names ys more, e)
