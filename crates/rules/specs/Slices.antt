-- What a decision sees of the tables, and what a change makes of them.
use Rattle.std.specs.Prelude.{◌≡◌, ◌&&◌, ◌||◌, ◌==◌, if◌then◌else◌, ◌∷◌}
use Rattle.rules.specs.Words.{ℕ, Bool, true, false, not, nat_le, List, [], length, find, Option, Some, None, option_map, Result, Ok, Err, is_some, ℤ, list_all, list_any, same_text, LotId, Command, Added, NamedOrder, OrderStep, names_of, is_picked, is_shipped, ITEMS_MAX, BINS_MAX, ReservedRow, no_two, AreRows, same_cell, same_line, same_share, Act, is_lot, items, bins, lines_of, is_open, is_touched, Tables, tables_of, repeat_row, verdict, reply, Put, Rows, Slice, Change, RuleFault, Refused, NoMemory, Foreign}
use Rattle.commands.specs.declared.names.Added.TheVariants.{Item, Bin}

-- Changes: a row that is put stands, one that is dropped or on a stage that is emptied is gone, and the others stay

abbrev pub unless_put : {R : Type 0} → Option R → Bool → Option R → Option R
unless_put (Some row) gone old = Some row
unless_put None gone old = if gone then None else old

-- what is found by the test among the rows put, or else what was there before, unless it is dropped
abbrev pub changed : {R : Type 0} → (R → Bool) → List R → List R → Option R → Option R
changed test put dropped old = unless_put (find test put) (list_any test dropped) old

-- the same in a table that loses no rows
abbrev pub added : {R : Type 0} → (R → Bool) → List R → Option R → Option R
added test put old = changed test put [] old

-- what is staged for an order, unless its stage is emptied
abbrev pub unless_emptied : {R : Type 0} → Option (List ℕ) → List ℕ → Option R → Option R
unless_emptied None o row = row
unless_emptied (Some emptied) o row = if same_text emptied o then None else row

-- the tables after a change; `repeats` is written by others
unfoldable pub applied : Change → Tables → Tables
applied c t = record {
  meta = Some c.meta;
  item = λ g. added (λ r. same_text g r.gtin) c.put.items (t.item g);
  least = λ g. added (λ r. same_text g r.gtin) c.put.least (t.least g);
  bin = λ b. added (λ r. same_text b r.name) c.put.bins (t.bin b);
  lot = λ l. added (λ r. is_lot l r.lot) c.put.lots (t.lot l);
  recall = λ l. added (λ r. is_lot l r.lot) c.put.recalls (t.recall l);
  stock = λ l b. changed (λ r. is_lot l r.lot && same_text b r.bin) c.put.stock c.dropped.stock (t.stock l b);
  order = λ o. added (λ r. same_text o r.order) c.put.orders (t.order o);
  urgent = λ o. added (λ r. same_text o r.order) c.put.urgents (t.urgent o);
  line = λ o g. added (λ r. same_text o r.order && same_text g r.gtin) c.put.lines (t.line o g);
  staged = λ o l. changed (λ r. same_text o r.order && is_lot l r.lot) c.put.staged c.dropped.staged (unless_emptied c.dropped.stage o (t.staged o l));
  reserved = λ o l. changed (λ r. same_text o r.order && is_lot l r.lot) c.put.reserved c.dropped.reserved (t.reserved o l);
  shipment = λ n. added (λ r. n == r.number) c.put.shipments (t.shipment n);
  shipline = λ n l. added (λ r. (n == r.number) && is_lot l r.lot) c.put.shiplines (t.shipline n l);
  card = λ l n. added (λ r. is_lot l r.lot && (n == r.act)) c.put.cards (t.card l n);
  repeat = t.repeat;
}

-- Slices

-- whether the text is the one that is named
abbrev pub is_named : Option (List ℕ) → List ℕ → Bool
is_named None x = false
is_named (Some name) x = same_text x name

-- whether the command names the order, whether it names the lot, and whether it names the bin
abbrev pub names_order : Command → List ℕ → Bool
names_order command o = is_named (option_map (λ n. n.order) (names_of command).order) o

abbrev pub is_named_lot : Option LotId → LotId → Bool
is_named_lot None l = false
is_named_lot (Some k) l = is_lot l k

abbrev pub names_lot : Command → LotId → Bool
names_lot command l = is_named_lot (names_of command).lot l

abbrev pub is_either : Option (List ℕ) → Option (List ℕ) → List ℕ → Bool
is_either bin None b = is_named bin b
is_either bin (Some other) b = is_named bin b || same_text b other

abbrev pub names_bin : Command → List ℕ → Bool
names_bin command b = is_either (names_of command).bin (names_of command).other_bin b

abbrev pub has_touched_line : ℤ → Act → List Act → List ℕ → Bool
has_touched_line first act acts o = list_any (λ l. is_touched first act acts l.gtin) (lines_of acts o)

-- whether the command is judged by how many items there are, and whether by how many bins
abbrev pub is_item : Option Added → Bool
is_item (Some Item) = true
is_item _ = false

abbrev pub is_bin : Option Added → Bool
is_bin (Some Bin) = true
is_bin _ = false

abbrev pub counts_items : Command → Bool
counts_items command = is_item (names_of command).adds

abbrev pub counts_bins : Command → Bool
counts_bins command = is_bin (names_of command).adds

-- whether the command ships an order, and whether it picks for one
abbrev pub takes_step : (OrderStep → Bool) → Option NamedOrder → Bool
takes_step is_done None = false
takes_step is_done (Some n) = is_done n.step

abbrev pub ships : Command → Bool
ships command = takes_step is_shipped (names_of command).order

abbrev pub picks : Command → Bool
picks command = takes_step is_picked (names_of command).order

-- whether the command plans: a shipment takes what is staged for its order, and a pick what is reserved for it, and no
-- plan changes beside
abbrev pub plans : Command → Bool
plans command = not (ships command) && not (picks command)

-- whether the command is judged by what is reserved for the order on the lot
abbrev pub is_share : Option NamedOrder → Option LotId → List ℕ → LotId → Bool
is_share None lot o l = false
is_share (Some n) lot o l = if is_picked n.step then same_text o n.order && is_named_lot lot l else false

abbrev pub names_reserved : Command → List ℕ → LotId → Bool
names_reserved command o l = is_share (names_of command).order (names_of command).lot o l

-- whether the rows have units of the lot in bins, on stages, and on the stage of an order that the command names
abbrev pub in_bins : Rows → LotId → Bool
in_bins rows l = list_any (λ r. is_lot l r.lot) rows.stock

abbrev pub on_stages : Rows → LotId → Bool
on_stages rows l = list_any (λ r. is_lot l r.lot) rows.staged

abbrev pub on_named_stage : Command → Rows → LotId → Bool
on_named_stage command rows l = list_any (λ r. names_order command r.order && is_lot l r.lot) rows.staged

-- The slice has the rows of the items that the command touches, and of the days that they ask for, with the rows of the order that
-- it names, of the bins that it names or that hold units of those items, and of the orders with a line of those items; those of
-- urgent orders tell which of the open ones are urgent. Of the lots it has those that the command names and those with units in
-- bins or on stages; others may be among them. Two commands plan nothing and ask for less. For a shipment it has the order with
-- its lines, what is staged of their items, and the stock of the lots that are staged for the order. For a pick it has what it
-- names: the item, the lot, its recall, the bin, the units of the lot in the bin, the order, its line of the item, and what is
-- staged and what is reserved of the lot for it. What is reserved is told where the command is judged by it, and so is whether
-- there are as many items, or bins, as there may be. Whatever is staged or reserved for the order that it names may be among
-- the rows, also of items that it does not touch.
pub record IsSlice (first : ℤ) (act : Act) (acts : List Act) (t : Tables) (s : Slice) : Type 0 where
  pub meta : t.meta ≡ Some s.meta
  pub items_counted : counts_items act.command ≡ true → nat_le ITEMS_MAX s.items ≡ nat_le ITEMS_MAX (length (items acts))
  pub bins_counted : counts_bins act.command ≡ true → nat_le BINS_MAX s.bins ≡ nat_le BINS_MAX (length (bins acts))
  pub items : AreRows same_text (λ r. r.gtin) (λ g. not (ships act.command) && is_touched first act acts g) (is_touched first act acts) t.item s.rows.items
  pub least : AreRows same_text (λ r. r.gtin) (λ g. not (ships act.command) && is_touched first act acts g) (is_touched first act acts) t.least s.rows.least
  pub lots : AreRows is_lot (λ r. r.lot)
      (λ l. not (ships act.command) && is_touched first act acts l.gtin && (names_lot act.command l || (plans act.command && (in_bins s.rows l || on_stages s.rows l))))
      (λ l. is_touched first act acts l.gtin) t.lot s.rows.lots
  pub recalls : AreRows is_lot (λ r. r.lot) (λ l. (plans act.command || names_lot act.command l) && is_touched first act acts l.gtin) (λ l. is_touched first act acts l.gtin) t.recall s.rows.recalls
  pub stock : AreRows same_cell (λ r. (r.lot, r.bin))
      (λ k. is_touched first act acts k.0.gtin && (plans act.command || (names_lot act.command k.0 && names_bin act.command k.1) || (ships act.command && on_named_stage act.command s.rows k.0)))
      (λ k. is_touched first act acts k.0.gtin) (λ k. t.stock k.0 k.1) s.rows.stock
  pub bins : AreRows same_text (λ r. r.name)
      (λ b. names_bin act.command b || (plans act.command && list_any (λ r. same_text b r.bin) s.rows.stock))
      (λ b. names_bin act.command b || list_any (λ r. same_text b r.bin) s.rows.stock) t.bin s.rows.bins
  pub orders : AreRows same_text (λ r. r.order)
      (λ o. names_order act.command o || (plans act.command && is_open first acts o && has_touched_line first act acts o))
      (λ o. names_order act.command o || has_touched_line first act acts o) t.order s.rows.orders
  pub urgents : AreRows same_text (λ r. r.order)
      (λ o. plans act.command && is_open first acts o && has_touched_line first act acts o)
      (λ o. names_order act.command o || has_touched_line first act acts o) t.urgent s.rows.urgents
  pub lines : AreRows same_line (λ r. (r.order, r.gtin))
      (λ k. ((not (picks act.command) || is_touched first act acts k.1) && names_order act.command k.0) || (plans act.command && is_open first acts k.0 && is_touched first act acts k.1))
      (λ k. names_order act.command k.0 || is_touched first act acts k.1) (λ k. t.line k.0 k.1) s.rows.lines
  pub staged : AreRows same_share (λ r. (r.order, r.lot))
      (λ k. (not (picks act.command) || (names_order act.command k.0 && names_lot act.command k.1)) && is_touched first act acts k.1.gtin)
      (λ k. names_order act.command k.0 || is_touched first act acts k.1.gtin) (λ k. t.staged k.0 k.1) s.rows.staged
  pub reserved : AreRows same_share (λ r. (r.order, r.lot))
      (λ k. names_reserved act.command k.0 k.1) (λ k. names_order act.command k.0 || is_touched first act acts k.1.gtin) (λ k. t.reserved k.0 k.1) s.rows.reserved

-- no key twice in any table, so that it does not matter in which order the rows are written
abbrev pub are_once : Put → Bool
are_once rows = list_all (λ b. b) (
    no_two (λ r s. same_text r.gtin s.gtin) rows.items
    ∷ no_two (λ r s. same_text r.name s.name) rows.bins
    ∷ no_two (λ r s. is_lot r.lot s.lot) rows.lots
    ∷ no_two (λ r s. is_lot r.lot s.lot) rows.recalls
    ∷ no_two (λ r s. is_lot r.lot s.lot && same_text r.bin s.bin) rows.stock
    ∷ no_two (λ r s. same_text r.order s.order) rows.orders
    ∷ no_two (λ r s. same_text r.order s.order && same_text r.gtin s.gtin) rows.lines
    ∷ no_two (λ r s. same_text r.order s.order && is_lot r.lot s.lot) rows.staged
    ∷ no_two (λ r s. same_text r.order s.order && is_lot r.lot s.lot) rows.reserved
    ∷ no_two (λ r s. r.number == s.number) rows.shipments
    ∷ no_two (λ r s. (r.number == s.number) && is_lot r.lot s.lot) rows.shiplines
    ∷ no_two (λ r s. is_lot r.lot s.lot && (r.act == s.act)) rows.cards
    ∷ no_two (λ r s. same_text r.gtin s.gtin) rows.least
    ∷ no_two (λ r s. same_text r.order s.order) rows.urgents
    ∷ [])

-- Decisions

-- the tables with the act, the `repeats` row aside
abbrev pub tables_but_repeats : ℤ → Act → List Act → Tables
tables_but_repeats first act acts = record (tables_of first (act ∷ acts)) { repeat = repeat_row first acts }

-- what is decided of a command whose key is new, on the tables of these acts
abbrev pub IsDecision : ℤ → Act → List Act → Result Change RuleFault → Type 0
IsDecision first act acts (Ok change) =
    (verdict first acts act.command ≡ None)
    × (applied change (tables_of first acts) ≡ tables_but_repeats first act acts)
    × (change.text ≡ reply first act acts)
    × (are_once change.put ≡ true)
IsDecision first act acts (Err (Refused why)) = verdict first acts act.command ≡ Some why
IsDecision first act acts (Err NoMemory) = verdict first acts act.command ≡ None
IsDecision first act acts (Err Foreign) = ⊥

-- whether the row before and the row after differ
abbrev pub differs : Option ReservedRow → Option ReservedRow → Bool
differs None None = false
differs None (Some r) = true
differs (Some r) None = true
differs (Some r) (Some s) = not (r.qty == s.qty)

-- the change names a row of `reserved` exactly where the row before and the row after differ
abbrev pub NamesChangedReservations : ℤ → Act → List Act → Change → Type 0
NamesChangedReservations first act acts c =
    (o : List ℕ) (l : LotId) →
    let before = (tables_of first acts).reserved o l in
    let after = (tables_of first (act ∷ acts)).reserved o l in
    (find (λ r. same_text o r.order && is_lot l r.lot) c.put.reserved ≡ (if differs before after then after else None))
    × (list_any (λ r. same_text o r.order && is_lot l r.lot) c.dropped.reserved ≡ (is_some before && not (is_some after)))
