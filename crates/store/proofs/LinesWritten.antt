-- The open orders of the tables that a change leaves are known, if those before are, and what the change puts.
use Rattle.store.proofs.Words.{◌≡◌, ℕ, Bool, true, false, ◌&&◌, List, [], ◌∷◌, map, filter, ◌⊎◌, inl, inr, refl, sym, ap, ◌∙◌, ◌||◌, if◌then◌else◌, Option, Some, is_some, same_text, Tables, OrderRow, UrgentRow, LineRow, RepeatRow, LineKey, with_order, with_urgent, with_line, with_repeat, order_key, is_open_order, or_first, or_later, Change, each_written, Orders, Urgents, Lines, change_written, table_left, Keeps, has_line_row, is_among, is_passed, is_open_in, has_urgent_row, opens, comes, Covers, CoversUrgent, Knows, Known, and_true}

-- An order is open after rows are put because one of them opens it, or it was open

opens_later : (r : OrderRow) (rows : List OrderRow) (o : List ℕ) → opens rows o ≡ true → opens (r ∷ rows) o ≡ true
opens_later r rows o e = by_row (is_open_order r)
  where
    by_row : (b : Bool) → is_among (map order_key (if b then r ∷ filter is_open_order rows else filter is_open_order rows)) o ≡ true
    by_row true = or_later (same_text o r.order) (opens rows o) e
    by_row false = e

opens_first : (r : OrderRow) (rows : List OrderRow) (o : List ℕ) → same_text o r.order ≡ true → is_open_order r ≡ true → opens (r ∷ rows) o ≡ true
opens_first r rows o is up =
    ap (λ b. is_among (map order_key (if b then r ∷ filter is_open_order rows else filter is_open_order rows)) o) up ∙ or_first (same_text o r.order) (opens rows o) is

open_put : (rows : List OrderRow) (t : Tables) (o : List ℕ) → is_open_in (each_written with_order rows t) o ≡ true → (opens rows o ≡ true) ⊎ (is_open_in t o ≡ true)
open_put [] t o up = inr up
open_put (r ∷ rows) t o up = elim (open_put rows (with_order r t) o up) [
  | inl later ↦ inl (opens_later r rows o later)
  | inr before ↦ by_key (same_text o r.order) refl before
]
  where
    by_key : (b : Bool) → same_text o r.order ≡ b → is_passed is_open_order (if b then Some r else t.order o) ≡ true → (opens (r ∷ rows) o ≡ true) ⊎ (is_open_in t o ≡ true)
    by_key true is e = inl (opens_first r rows o is e)
    by_key false is e = inr e

-- so is a line

line_put : (rows : List LineRow) (t : Tables) (g o : List ℕ) → is_some ((each_written with_line rows t).line o g) ≡ true → (has_line_row rows g o ≡ true) ⊎ (is_some (t.line o g) ≡ true)
line_put [] t g o there = inr there
line_put (r ∷ rows) t g o there = elim (line_put rows (with_line r t) g o there) [
  | inl later ↦ inl (or_later (same_text o r.order && same_text g r.gtin) (has_line_row rows g o) later)
  | inr before ↦ by_key (same_text o r.order && same_text g r.gtin) refl before
]
  where
    by_key : (b : Bool) → (same_text o r.order && same_text g r.gtin) ≡ b → is_some (if b then Some r else t.line o g) ≡ true → (has_line_row (r ∷ rows) g o ≡ true) ⊎ (is_some (t.line o g) ≡ true)
    by_key true is e = inl (or_first (same_text o r.order && same_text g r.gtin) (has_line_row rows g o) is)
    by_key false is e = inr e

-- and so is an urgent order

urgent_put : (rows : List UrgentRow) (t : Tables) (o : List ℕ) → is_some ((each_written with_urgent rows t).urgent o) ≡ true → (has_urgent_row rows o ≡ true) ⊎ (is_some (t.urgent o) ≡ true)
urgent_put [] t o there = inr there
urgent_put (r ∷ rows) t o there = elim (urgent_put rows (with_urgent r t) o there) [
  | inl later ↦ inl (or_later (same_text o r.order) (has_urgent_row rows o) later)
  | inr before ↦ by_key (same_text o r.order) refl before
]
  where
    by_key : (b : Bool) → same_text o r.order ≡ b → is_some (if b then Some r else t.urgent o) ≡ true → (has_urgent_row (r ∷ rows) o ≡ true) ⊎ (is_some (t.urgent o) ≡ true)
    by_key true is e = inl (or_first (same_text o r.order) (has_urgent_row rows o) is)
    by_key false is e = inr e

module _ (c : Change) (row : RepeatRow) (t : Tables) where
  abbrev left : Tables
  left = with_repeat row (change_written c t)

  -- an order of the tables after is open
  open_after : (o : List ℕ) → is_open_in left o ≡ true → (opens c.put.orders o ≡ true) ⊎ (is_open_in t o ≡ true)
  open_after o up = open_put c.put.orders t o (sym (ap (λ (f : List ℕ → Option OrderRow). is_passed is_open_order (f o)) (table_left c t Orders)) ∙ up)

  line_after : (g o : List ℕ) → is_some (left.line o g) ≡ true → (has_line_row c.put.lines g o ≡ true) ⊎ (is_some (t.line o g) ≡ true)
  line_after g o there = line_put c.put.lines t g o (sym (ap (λ (f : LineKey → Option LineRow). is_some (f (o, g))) (table_left c t Lines)) ∙ there)

  urgent_after : (o : List ℕ) → is_some (left.urgent o) ≡ true → (has_urgent_row c.put.urgents o ≡ true) ⊎ (is_some (t.urgent o) ≡ true)
  urgent_after o there = urgent_put c.put.urgents t o (sym (ap (λ (f : List ℕ → Option UrgentRow). is_some (f o)) (table_left c t Urgents)) ∙ there)

  -- what comes with the change
  come_put : (g o : List ℕ) → has_line_row c.put.lines g o ≡ true → comes c.put t g o ≡ true
  come_put g o put = or_first _ _ put

  come_opened : (g o : List ℕ) → is_some (t.line o g) ≡ true → opens c.put.orders o ≡ true → comes c.put t g o ≡ true
  come_opened g o was opened = or_later (has_line_row c.put.lines g o) _ (and_true _ _ was (or_first _ _ opened))

  come_urgent : (g o : List ℕ) → is_some (t.line o g) ≡ true → has_urgent_row c.put.urgents o ≡ true → comes c.put t g o ≡ true
  come_urgent g o was urgent = or_later (has_line_row c.put.lines g o) _ (and_true _ _ was (or_later (opens c.put.orders o) _ urgent))

  pub covers_written : (old new : Known) → Covers old.lines t → Keeps old.lines new.lines → Knows c.put t new → Covers new.lines left
  covers_written old new covers keeps knows o g up there = elim (line_after g o there) [
    | inl put ↦ knows.lines g o (come_put g o put)
    | inr was ↦ elim (open_after o up) [
      | inl opened ↦ knows.lines g o (come_opened g o was opened)
      | inr open_before ↦ keeps g o (covers o g open_before was)
    ]
  ]

  is_urgent_after : (o : List ℕ) → (has_urgent_row c.put.urgents o ≡ true) ⊎ (is_some (t.urgent o) ≡ true) → is_some (t.urgent o) || has_urgent_row c.put.urgents o ≡ true
  is_urgent_after o (inl put) = or_later (is_some (t.urgent o)) _ put
  is_urgent_after o (inr was) = or_first _ _ was

  pub covers_urgent_written : (old new : Known) → CoversUrgent old.urgent t → Keeps old.urgent new.urgent → Knows c.put t new → CoversUrgent new.urgent left
  covers_urgent_written old new covers keeps knows o g up there hurried =
      let now = is_urgent_after o (urgent_after o hurried) in
      elim (line_after g o there) [
        | inl put ↦ knows.urgent g o (come_put g o put) now
        | inr was ↦ elim (open_after o up) [
          | inl opened ↦ knows.urgent g o (come_opened g o was opened) now
          | inr open_before ↦ elim (urgent_after o hurried) [
            | inl put ↦ knows.urgent g o (come_urgent g o was put) now
            | inr urgent_before ↦ keeps g o (covers o g open_before was urgent_before)
          ]
        ]
      ]
