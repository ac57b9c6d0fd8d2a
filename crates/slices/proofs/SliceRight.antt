-- What is read of the tables of a history is the slice of the command.
use Rattle.slices.proofs.Words.{◌≡◌, ℕ, Bool, true, false, ◌&&◌, not, List, [], ◌∷◌, length, refl, ap, sym, subst, ◌∙◌, ◌||◌, ◌==◌, nat_le, if◌then◌else◌, find, Option, Some, None, option_map, is_some, ℤ, list_any, list_all, cons_option, option_to_list, same_text, LotId, names_of, is_picked, NamedOrder, Tables, Key, ITEMS_MAX, BINS_MAX, NewItem, NewBin, OrderLine, Command, Item, Bin, Receive, Move, Count, Adjust, Order, Urgent, Cancel, Pick, Unpick, Ship, Hold, Release, Recall, OpenDay, Least, ItemRow, BinRow, StockRow, LineRow, StagedRow, Open, Done, Cancelled, ItemKey, same_item, item_key, least_key, BinKey, same_bin, bin_key, LotKey, same_lot, lot_key, recall_key, StockKey, same_stock, stock_key, StagedKey, same_staged, staged_key, ReservedKey, same_reserved, reserved_key, OrderKey, same_order, order_key, urgent_key, LineKey, same_line, line_key, is_open_order, Act, next_number, items, item_in, bins, Placed, orders, order_named, lines_of, lines_placed, is_cancelled, order_state, is_open_state, is_open, shipped_of, touches, tables_of, IsHistory, verdict, is_lot, AreRows, no_two, IsSlice, names_order, names_bin, names_lot, counts_items, counts_bins, ships, picks, plans, takes_step, is_share, names_reserved, is_named, is_named_lot, is_either, in_bins, on_stages, on_named_stage, has_touched_line, Slice, and_both, or_false, or_later, same_text_is, same_text_refl, same_text_turned, is_lot_is, is_lot_refl, is_lot_turned, is_lot_item, AreApart, any_found, item_accepted, bins_apart, found_order, some_mapped, names_touched, has_key, with_keys, is_among, with_names, with_some, items_named, lots_named, orders_named, bins_named, whole_orders, held_lots, AreAllLines, AreCounts, AreTaken, AreTouched, ArePlanned, AreSliced, is_passed, is_open_in, HoldsOf, Known, has_keys, once_keys}
use Rattle.slices.proofs.AtMost.{told_number}
use Rattle.slices.proofs.KeysTold.{same_cell_is, same_cell_refl, same_share_is, same_share_refl, same_line_is, same_line_refl}
use Rattle.slices.proofs.RowsTold.{rows_as}
use Rattle.slices.proofs.SliceTold.{among_with, once_with, among_names, once_names, sought}
use Rattle.slices.proofs.KeysRead.{keys_read}
use Rattle.slices.proofs.OwnRows.{own_any, no_rows}
use Rattle.slices.proofs.PickRight.{pick_right}
use Rattle.slices.proofs.ShipmentRight.{shipment_right}
use Rattle.slices.proofs.LinesTold.{line_some, taken}
use Rattle.slices.proofs.LinedOrders.{rows_told}
use Rattle.slices.proofs.DayTold.{affected_told, affected_once}
use Rattle.slices.proofs.KnownOrders.{has_line_of, orders_told, lines_told}
use Rattle.slices.proofs.UrgentOrders.{urgents_told}

-- Names

one_among : (name : Option (List ℕ)) (x : List ℕ) → is_among (option_to_list name) x ≡ is_named name x
one_among None x = refl
one_among (Some name) x = or_false (same_text x name)

one_once : (name : Option (List ℕ)) → no_two same_text (option_to_list name) ≡ true
one_once None = refl
one_once (Some name) = refl

some_among : (name : Option (List ℕ)) (x : List ℕ) → is_among (with_some name []) x ≡ is_named name x
some_among None x = refl
some_among (Some name) x = or_false (same_text x name)

some_once : (name : Option (List ℕ)) → no_two same_text (with_some name []) ≡ true
some_once None = refl
some_once (Some name) = refl

named_only : (x : List ℕ) (lines : List LineRow) (own : Bool) → lines ≡ [] → own || list_any (λ r. same_text x r.gtin) lines ≡ own
named_only x lines own none = ap (λ l. own || list_any (λ r. same_text x r.gtin) l) none ∙ or_false own

-- the items that a command names, with those of the lines that it takes, are those that it touches
named_told : (first : ℤ) (act : Act) (acts : List Act) (command : Command) → (names_of command).day ≡ None → ships command ≡ false → (lines : List LineRow) → AreAllLines (whole_orders command) (tables_of first acts) lines
    → (x : List ℕ) → is_among (items_named command) x || list_any (λ r. same_text x r.gtin) lines ≡ touches first act acts command x
named_told first act acts (Item i) e f lines none x = named_only x lines (is_among (i.gtin ∷ []) x) none ∙ or_false (same_text x i.gtin)
named_told first act acts (Bin b) e f lines none x = named_only x lines false none
named_told first act acts (Receive r) e f lines none x = named_only x lines (is_among (r.lot.gtin ∷ []) x) none ∙ or_false (same_text x r.lot.gtin)
named_told first act acts (Move m) e f lines none x = named_only x lines (is_among (m.lot.gtin ∷ []) x) none ∙ or_false (same_text x m.lot.gtin)
named_told first act acts (Count c) e f lines none x = named_only x lines (is_among (c.lot.gtin ∷ []) x) none ∙ or_false (same_text x c.lot.gtin)
named_told first act acts (Adjust a) e f lines none x = named_only x lines (is_among (a.lot.gtin ∷ []) x) none ∙ or_false (same_text x a.lot.gtin)
named_told first act acts (Order o) e f lines none x = named_only x lines (is_among (with_names (λ l. l.gtin) o.lines []) x) none ∙ among_names (λ l. l.gtin) o.lines [] x
named_told first act acts (Urgent o) e f lines none x = named_only x lines (is_among (with_names (λ l. l.gtin) o.lines []) x) none ∙ among_names (λ l. l.gtin) o.lines [] x
named_told first act acts (Cancel o) e f lines all x = taken first acts o lines all x
named_told first act acts (Pick p) e f lines none x = named_only x lines (is_among (p.lot.gtin ∷ []) x) none ∙ or_false (same_text x p.lot.gtin)
named_told first act acts (Unpick p) e f lines none x = named_only x lines (is_among (p.lot.gtin ∷ []) x) none ∙ or_false (same_text x p.lot.gtin)
named_told first act acts (Ship o) e f lines none x = absurd cc
named_told first act acts (Hold l) e f lines none x = named_only x lines (is_among (l.gtin ∷ []) x) none ∙ or_false (same_text x l.gtin)
named_told first act acts (Release l) e f lines none x = named_only x lines (is_among (l.gtin ∷ []) x) none ∙ or_false (same_text x l.gtin)
named_told first act acts (Recall l) e f lines none x = named_only x lines (is_among (l.gtin ∷ []) x) none ∙ or_false (same_text x l.gtin)
named_told first act acts (OpenDay day) e f lines none x = absurd cc
named_told first act acts (Least l) e f lines none x = named_only x lines (is_among (l.gtin ∷ []) x) none ∙ or_false (same_text x l.gtin)

taken_told : (first : ℤ) (act : Act) (acts : List Act) (command : Command) → (names_of command).day ≡ None → ships command ≡ false → (gtins : List (List ℕ)) → AreTaken command (tables_of first acts) gtins → (x : List ℕ) → is_among gtins x ≡ touches first act acts command x
taken_told first act acts command e f gtins are x =
    ap (λ l. is_among l x) are.items ∙ among_names (λ (r : LineRow). r.gtin) are.lines (items_named command) x ∙ named_told first act acts command e f are.lines are.read x

items_told : (first : ℤ) (key : Key) (command : Command) (acts : List Act) → ships command ≡ false → IsHistory first acts → (gtins : List (List ℕ)) → AreTouched command (tables_of first acts) gtins → (x : List ℕ) → is_among gtins x ≡ touches first (record { key = key; command = command }) acts command x
items_told first key (OpenDay day) acts f history gtins are x = affected_told first key day acts history gtins are x
items_told first key command acts f history gtins are x = taken_told first (record { key = key; command = command }) acts command refl f gtins are x

named_once : (command : Command) → no_two same_text (items_named command) ≡ true
named_once command = once_names (λ (l : OrderLine). l.gtin) (names_of command).lines (option_to_list (names_of command).item) (one_once (names_of command).item)

taken_once : (command : Command) (t : Tables) (gtins : List (List ℕ)) → AreTaken command t gtins → no_two same_text gtins ≡ true
taken_once command t gtins are = ap (no_two same_text) are.items ∙ once_names (λ (r : LineRow). r.gtin) are.lines (items_named command) (named_once command)

items_once : (command : Command) (t : Tables) (gtins : List (List ℕ)) → AreTouched command t gtins → no_two same_text gtins ≡ true
items_once (OpenDay day) t gtins are = affected_once day t gtins are
items_once command t gtins are = taken_once command t gtins are

order_told : (command : Command) (o : List ℕ) → is_among (orders_named command) o ≡ names_order command o
order_told command o = one_among (option_map (λ n. n.order) (names_of command).order) o

order_once : (command : Command) → no_two same_text (orders_named command) ≡ true
order_once command = one_once (option_map (λ n. n.order) (names_of command).order)

either_among : (bin other : Option (List ℕ)) (b : List ℕ) → is_among (with_some other (with_some bin [])) b ≡ is_either bin other b
either_among bin None b = some_among bin b
either_among bin (Some other) b = among_with other (with_some bin []) b ∙ ap (λ c. c || same_text b other) (some_among bin b)

either_once : (bin other : Option (List ℕ)) → no_two same_text (with_some other (with_some bin [])) ≡ true
either_once bin None = some_once bin
either_once bin (Some other) = once_with other (with_some bin []) (some_once bin)

bin_told : (command : Command) (b : List ℕ) → is_among (bins_named command) b ≡ names_bin command b
bin_told command b = either_among (names_of command).bin (names_of command).other_bin b

bin_once : (command : Command) → no_two same_text (bins_named command) ≡ true
bin_once command = either_once (names_of command).bin (names_of command).other_bin

lot_among : (lot : Option LotId) (l : LotId) → has_key is_lot (option_to_list lot) l ≡ is_named_lot lot l
lot_among None l = refl
lot_among (Some k) l = or_false (is_lot l k)

lot_told : (command : Command) (l : LotId) → has_key is_lot (lots_named command) l ≡ names_lot command l
lot_told command l = lot_among (names_of command).lot l

-- a command that is no pick is not judged by what is reserved
no_share : (order : Option NamedOrder) (lot : Option LotId) (o : List ℕ) (l : LotId) → takes_step is_picked order ≡ false → is_share order lot o l ≡ true → ⊥
no_share None lot o l none e = let no : false ≡ true = e in cc
no_share (Some n) lot o l none e = let no : false ≡ true = ap (λ b. if b then same_text o n.order && is_named_lot lot l else false) (sym none) ∙ e in cc

-- Counts

items_apart_after : (first : ℤ) (before : List Act) (c : Command) → verdict first before c ≡ None → AreApart (λ (x y : NewItem). same_text x.gtin y.gtin) (items before) → AreApart (λ (x y : NewItem). same_text x.gtin y.gtin) (cons_option (item_in (next_number before) c) (items before))
items_apart_after first before (Item i) ok h = (sym (any_found (λ (x : NewItem). same_text i.gtin x.gtin) (items before)) ∙ (item_accepted first before i ok).new, h)
items_apart_after first before _ ok h = h

items_apart : (first : ℤ) (acts : List Act) → IsHistory first acts → AreApart (λ (x y : NewItem). same_text x.gtin y.gtin) (items acts)
items_apart first [] h = tt
items_apart first (act ∷ before) h = items_apart_after first before act.command h.1.passes (items_apart first before h.0)

-- Lists of lists

any_never : {X : Type 0} (xs : List X) → list_any (λ (x : X). false) xs ≡ false
any_never [] = refl
any_never (x ∷ xs) = any_never xs

any_or : {X : Type 0} (p q : X → Bool) (xs : List X) → list_any p xs || list_any q xs ≡ list_any (λ x. p x || q x) xs
any_or p q [] = refl
any_or p q (x ∷ xs) = grouped (p x) (list_any p xs) (q x) (list_any q xs) ∙ ap (λ b. (p x || q x) || b) (any_or p q xs)
  where
    grouped : (a b c d : Bool) → (a || b) || (c || d) ≡ (a || c) || (b || d)
    grouped true b c d = refl
    grouped false true true d = refl
    grouped false true false d = refl
    grouped false false c d = refl

any_swapped : {X Y : Type 0} (r : X → Y → Bool) (xs : List X) (ys : List Y) → list_any (λ x. list_any (r x) ys) xs ≡ list_any (λ y. list_any (λ x. r x y) xs) ys
any_swapped r [] ys = sym (any_never ys)
any_swapped r (x ∷ xs) ys = ap (λ b. list_any (r x) ys || b) (any_swapped r xs ys) ∙ any_or (r x) (λ y. list_any (λ x. r x y) xs) ys

any_same : {X : Type 0} (p q : X → Bool) (xs : List X) → ((x : X) → p x ≡ q x) → list_any p xs ≡ list_any q xs
any_same {X = X} p q xs same = ap (λ (f : X → Bool). list_any f xs) (λ i x. same x i)

-- Orders

module _ (first : ℤ) (acts : List Act) where
  -- an open order has an open row
  open_by : (o : List ℕ) (x : Option Placed) → order_named acts o ≡ x → is_open first acts o ≡ true → is_passed is_open_order (option_map (λ p. record { order = p.order; act = p.act; customer = p.customer; state = order_state first acts p.order }) x) ≡ true
  open_by o None e h =
      absurd (closed (is_cancelled acts o) (subst (λ (y : Option Placed). is_open_state (if is_cancelled acts o then Cancelled else (if list_all (λ l. shipped_of first acts o l.gtin == l.qty) (lines_placed y) then Done else Open)) ≡ true) e h))
    where
      closed : (b : Bool) → is_open_state (if b then Cancelled else Done) ≡ true → ⊥
      closed true f = let none : false ≡ true = f in cc
      closed false f = let none : false ≡ true = f in cc
  open_by o (Some p) e h = subst (λ (y : List ℕ). is_open first acts y ≡ true) (found_order o (orders acts) p e) h

  pub open_told : (o : List ℕ) → is_open first acts o ≡ true → is_open_in (tables_of first acts) o ≡ true
  unfolding tables_of
  open_told o h = open_by o (order_named acts o) refl h

  keyed_by : (o g : List ℕ) (x : Option OrderLine) (r : LineRow) → option_map (λ l. record { order = o; gtin = g; ordered = l.qty; shipped = shipped_of first acts o g }) x ≡ Some r → same_line (o, g) (line_key r) ≡ true
  keyed_by o g None r e = absurd cc
  keyed_by o g (Some l) r e =
      let is_order : o ≡ r.order = cc in
      let is_item : g ≡ r.gtin = cc in
      subst (λ (x : List ℕ). same_line (o, g) (x, r.gtin) ≡ true) is_order (subst (λ (x : List ℕ). same_line (o, g) (o, x) ≡ true) is_item (same_line_refl (o, g)))

  pub keyed : (o g : List ℕ) (r : LineRow) → (tables_of first acts).line o g ≡ Some r → same_line (o, g) (line_key r) ≡ true
  unfolding tables_of
  keyed o g r e = keyed_by o g (find (λ l. same_text g l.gtin) (lines_of acts o)) r e

  module _ (key : Key) (command : Command) (known : Known) (holds : HoldsOf known (tables_of first acts)) where
    abbrev act : Act
    act = record { key = key; command = command }

    module _ (unshipped : ships command ≡ false) (unpicked : picks command ≡ false) (history : IsHistory first acts) (s : Slice) (meta : (tables_of first acts).meta ≡ Some s.meta) (counted : AreCounts known.bounds command (tables_of first acts) s.items s.bins) (rows : ArePlanned known command (tables_of first acts) s.rows) where
      abbrev t : Tables
      t = tables_of first acts

      abbrev gtins : List (List ℕ)
      gtins = rows.gtins

      abbrev touched : List ℕ → Bool
      touched = touches first act acts command

      told : (x : List ℕ) → is_among gtins x ≡ touched x
      told = items_told first key command acts unshipped history gtins rows.touched

      once : no_two same_text gtins ≡ true
      once = items_once command t gtins rows.touched

      touched_line : (o : List ℕ) → has_line_of gtins t o ≡ has_touched_line first act acts o
      touched_line o =
          any_same (λ g. is_some (t.line o g)) (λ g. list_any (λ l. same_text g l.gtin) (lines_of acts o)) gtins (line_some first acts o)
          ∙ any_swapped (λ g (l : OrderLine). same_text g l.gtin) gtins (lines_of acts o)
          ∙ any_same (λ (l : OrderLine). list_any (λ g. same_text g l.gtin) gtins) (λ l. touched l.gtin) (lines_of acts o)
          (λ l. any_same (λ g. same_text g l.gtin) (same_text l.gtin) gtins (λ g. same_text_turned g l.gtin) ∙ told l.gtin)

      -- the numbers are told as they are known or as they were counted
      item_told : (k : List ℕ) → is_some (t.item k) ≡ is_some (find (λ (i : NewItem). same_text k i.gtin) (items acts))
      unfolding tables_of
      item_told k = some_mapped _ (find (λ i. same_text k i.gtin) (items acts))

      counted_items : counts_items command ≡ true → nat_le ITEMS_MAX s.items ≡ nat_le ITEMS_MAX (length (items acts))
      counted_items e =
          told_number {R = ItemRow} {X = NewItem} item_key t.item (λ i. i.gtin) (items acts) (items_apart first acts history) item_told ITEMS_MAX known.bounds.items s.items
          holds.bounds.items (counted.items e)

      bin_told_by : (k : List ℕ) → is_some (t.bin k) ≡ is_some (find (λ (b : NewBin). same_text k b.bin) (bins acts))
      unfolding tables_of
      bin_told_by k = some_mapped _ (find (λ b. same_text k b.bin) (bins acts))

      counted_bins : counts_bins command ≡ true → nat_le BINS_MAX s.bins ≡ nat_le BINS_MAX (length (bins acts))
      counted_bins e =
          told_number {R = BinRow} {X = NewBin} bin_key t.bin (λ b. b.bin) (bins acts) (bins_apart first acts history) bin_told_by BINS_MAX known.bounds.bins s.bins
          holds.bounds.bins (counted.bins e)

      -- what a command asks for that does not need to be read
      both : (a b : Bool) → a && b ≡ true → b ≡ true
      both a b e = (and_both a b e).1

      either : (n a b c : Bool) → n || ((a && b) && c) ≡ true → n || (b && c) ≡ true
      either true a b c e = refl
      either false true b c e = e
      either false false b c e = absurd (let none : false ≡ true = e in cc)

      either_line : (l n a b c : Bool) → (l && n) || ((a && b) && c) ≡ true → n || (b && c) ≡ true
      either_line true n a b c e = either n a b c e
      either_line false n a b c e = or_later n (b && c) (either false a b c e)

      or_asked : (n p a : Bool) → n || (p && a) ≡ true → n || a ≡ true
      or_asked true p a e = refl
      or_asked false p a e = both p a e

      asked : (n p a b : Bool) → n || (p && (a || b)) ≡ true → (n || a) || b ≡ true
      asked true p a b e = refl
      asked false p a b e = both p (a || b) e

      -- the stock and what is staged
      stock_rows : AreRows {K = StockKey} same_stock stock_key (λ k. touched k.0.gtin) (λ k. touched k.0.gtin) (λ k. t.stock k.0 k.1) s.rows.stock
      stock_rows = sought {K = StockKey} same_stock stock_key same_cell_is same_cell_refl (λ k. k.0.gtin) (λ k. t.stock k.0 k.1) gtins touched s.rows.stock once told rows.goods.stock

      staged_rows : AreRows {K = StagedKey} same_staged staged_key (λ k. touched k.1.gtin) (λ k. touched k.1.gtin) (λ k. t.staged k.0 k.1) s.rows.staged
      staged_rows = sought {K = StagedKey} same_staged staged_key same_share_is same_share_refl (λ k. k.1.gtin) (λ k. t.staged k.0 k.1) gtins touched s.rows.staged once told rows.staged

      -- the lots
      abbrev held : List LotId
      held = held_lots command s.rows.stock s.rows.staged

      abbrev named : List LotId
      named = with_keys is_lot (λ l. l) (lots_named command) []

      abbrev in_stock : List LotId
      in_stock = with_keys {R = StockRow} is_lot (λ r. r.lot) s.rows.stock named

      held_told : (l : LotId) → has_key is_lot held l ≡ (names_lot command l || in_bins s.rows l) || on_stages s.rows l
      held_told l =
          has_keys is_lot is_lot_is is_lot_turned (λ (r : StagedRow). r.lot) s.rows.staged in_stock l
          ∙ ap (λ b. b || on_stages s.rows l)
          (has_keys is_lot is_lot_is is_lot_turned (λ (r : StockRow). r.lot) s.rows.stock named l
          ∙ ap (λ b. b || in_bins s.rows l) (has_keys is_lot is_lot_is is_lot_turned (λ (k : LotId). k) (lots_named command) [] l ∙ lot_told command l))

      held_once : no_two is_lot held ≡ true
      held_once =
          once_keys is_lot is_lot_is is_lot_turned (λ (r : StagedRow). r.lot) s.rows.staged in_stock
          (once_keys is_lot is_lot_is is_lot_turned (λ (r : StockRow). r.lot) s.rows.stock named (once_keys is_lot is_lot_is is_lot_turned (λ (k : LotId). k) (lots_named command) [] refl))

      held_touched : (l : LotId) → has_key is_lot held l ≡ true → touched l.gtin ≡ true
      held_touched l e = by (names_lot command l) (in_bins s.rows l) (on_stages s.rows l) refl refl refl (sym (held_told l) ∙ e)
        where
          of_lot : (m : LotId) → is_lot l m ≡ true → touched m.gtin ≡ true → touched l.gtin ≡ true
          of_lot m is there = ap touched (same_text_is l.gtin m.gtin (is_lot_item l m is)) ∙ there

          by : (n i o : Bool) → names_lot command l ≡ n → in_bins s.rows l ≡ i → on_stages s.rows l ≡ o → (n || i) || o ≡ true → touched l.gtin ≡ true
          by true i o named bins stages _ = names_touched first act acts command l named
          by false true o named bins stages _ =
              own_any {K = StockKey} stock_key (λ k. touched k.0.gtin) (λ k. t.stock k.0 k.1) (λ r. is_lot l r.lot) s.rows.stock (touched l.gtin ≡ true) stock_rows.own (λ r is there. of_lot r.lot is there) bins
          by false false o named bins stages e =
              own_any {K = StagedKey} staged_key (λ k. touched k.1.gtin) (λ k. t.staged k.0 k.1) (λ r. is_lot l r.lot) s.rows.staged (touched l.gtin ≡ true) staged_rows.own (λ r is there. of_lot r.lot is there) (stages ∙ e)

      -- the orders, and which of them are urgent
      abbrev orders_needed : List ℕ → Bool
      orders_needed o = is_among (orders_named command) o || (is_open_in t o && has_line_of gtins t o)

      abbrev orders_allowed : List ℕ → Bool
      orders_allowed o = is_among (orders_named command) o || has_line_of gtins t o

      order_rows : AreRows {K = OrderKey} same_order order_key orders_needed orders_allowed t.order s.rows.orders
      order_rows = orders_told known.lines (orders_named command) gtins t holds.lines keyed (order_once command) once s.rows.orders s.rows.lines rows.ordered (rows_told first acts history (orders_named command) rows.ordered.own rows.ordered.is_own.orders)

      allowed_so : (o : List ℕ) → orders_allowed o ≡ true → names_order command o || has_touched_line first act acts o ≡ true
      allowed_so o e = ap (λ b. b || has_touched_line first act acts o) (sym (order_told command o)) ∙ ap (λ b. is_among (orders_named command) o || b) (sym (touched_line o)) ∙ e

      urgent_rows : AreRows {K = OrderKey} same_order urgent_key (λ o. is_open_in t o && has_line_of gtins t o) orders_allowed t.urgent s.rows.urgents
      urgent_rows =
          urgents_told t gtins orders_needed orders_allowed s.rows.orders order_rows (λ o e. or_later (is_among (orders_named command) o) (is_open_in t o && has_line_of gtins t o) e) known.urgent holds.urgent s.rows.urgents rows.urgents

      planned_right : IsSlice first act acts (tables_of first acts) s
      planned_right = record {
        meta = meta;
        items_counted = counted_items;
        bins_counted = counted_bins;
        items = rows_as {K = ItemKey} same_item item_key same_text_is same_text_refl touched touched (λ g. not (ships command) && touched g) touched t.item s.rows.items (λ g e. both (not (ships command)) (touched g) e) (λ g e. e)
            (sought {K = ItemKey} same_item item_key same_text_is same_text_refl (λ k. k) t.item gtins touched s.rows.items once told rows.goods.items);
        least = rows_as {K = ItemKey} same_item least_key same_text_is same_text_refl touched touched (λ g. not (ships command) && touched g) touched t.least s.rows.least (λ g e. both (not (ships command)) (touched g) e) (λ g e. e)
            (sought {K = ItemKey} same_item least_key same_text_is same_text_refl (λ k. k) t.least gtins touched s.rows.least once told rows.goods.least);
        lots = rows_as {K = LotKey} same_lot lot_key is_lot_is is_lot_refl (has_key is_lot held) (has_key is_lot held)
            (λ l. (not (ships command) && touched l.gtin) && (names_lot command l || (plans command && (in_bins s.rows l || on_stages s.rows l)))) (λ l. touched l.gtin) t.lot s.rows.lots
            (λ l e. held_told l ∙ asked (names_lot command l) (plans command) (in_bins s.rows l) (on_stages s.rows l) (both (not (ships command) && touched l.gtin) (names_lot command l || (plans command && (in_bins s.rows l || on_stages s.rows l))) e)) held_touched
            (keys_read is_lot is_lot_is is_lot_turned {K = LotKey} same_lot lot_key is_lot_is is_lot_refl (λ k. k) t.lot held (has_key is_lot held) s.rows.lots held_once (λ l. refl) rows.lots);
        recalls = rows_as {K = LotKey} same_lot recall_key is_lot_is is_lot_refl (λ k. touched k.gtin) (λ k. touched k.gtin) (λ k. (plans command || names_lot command k) && touched k.gtin) (λ k. touched k.gtin) t.recall s.rows.recalls (λ k e. both (plans command || names_lot command k) (touched k.gtin) e) (λ k e. e)
            (sought {K = LotKey} same_lot recall_key is_lot_is is_lot_refl (λ k. k.gtin) t.recall gtins touched s.rows.recalls once told rows.goods.recalls);
        stock = rows_as {K = StockKey} same_stock stock_key same_cell_is same_cell_refl (λ k. touched k.0.gtin) (λ k. touched k.0.gtin) (λ k. touched k.0.gtin && ((plans command || (names_lot command k.0 && names_bin command k.1)) || (ships command && on_named_stage command s.rows k.0))) (λ k. touched k.0.gtin) (λ k. t.stock k.0 k.1) s.rows.stock
            (λ k e. (and_both (touched k.0.gtin) ((plans command || (names_lot command k.0 && names_bin command k.1)) || (ships command && on_named_stage command s.rows k.0)) e).0) (λ k e. e) stock_rows;
        bins = rows_as {K = BinKey} same_bin bin_key same_text_is same_text_refl (λ b. names_bin command b || list_any (λ r. same_text b r.bin) s.rows.stock) (λ b. names_bin command b || list_any (λ r. same_text b r.bin) s.rows.stock)
            (λ b. names_bin command b || (plans command && list_any (λ r. same_text b r.bin) s.rows.stock)) (λ b. names_bin command b || list_any (λ r. same_text b r.bin) s.rows.stock) t.bin s.rows.bins
            (λ b e. or_asked (names_bin command b) (plans command) (list_any (λ r. same_text b r.bin) s.rows.stock) e) (λ b e. e)
            (sought {K = BinKey} same_bin bin_key same_text_is same_text_refl (λ k. k) t.bin (with_names (λ (r : StockRow). r.bin) s.rows.stock (bins_named command)) (λ b. names_bin command b || list_any (λ r. same_text b r.bin) s.rows.stock) s.rows.bins
            (once_names (λ (r : StockRow). r.bin) s.rows.stock (bins_named command) (bin_once command))
            (λ b. among_names (λ (r : StockRow). r.bin) s.rows.stock (bins_named command) b ∙ ap (λ c. c || list_any (λ r. same_text b r.bin) s.rows.stock) (bin_told command b)) rows.bins);
        orders = rows_as {K = OrderKey} same_order order_key same_text_is same_text_refl
            orders_needed orders_allowed
            (λ o. names_order command o || ((plans command && is_open first acts o) && has_touched_line first act acts o)) (λ o. names_order command o || has_touched_line first act acts o) t.order s.rows.orders
            (λ o e. needs (is_among (orders_named command) o) (names_order command o) (is_open first acts o) (is_open_in t o) (has_touched_line first act acts o) (has_line_of gtins t o) (order_told command o) (open_told o) (touched_line o)
            (either (names_order command o) (plans command) (is_open first acts o) (has_touched_line first act acts o) e))
            allowed_so order_rows;
        urgents = rows_as {K = OrderKey} same_order urgent_key same_text_is same_text_refl (λ o. is_open_in t o && has_line_of gtins t o) orders_allowed
            (λ o. (plans command && is_open first acts o) && has_touched_line first act acts o) (λ o. names_order command o || has_touched_line first act acts o) t.urgent s.rows.urgents
            (λ o e. opened (plans command) (is_open first acts o) (is_open_in t o) (has_touched_line first act acts o) (has_line_of gtins t o) (open_told o) (touched_line o) e) allowed_so urgent_rows;
        lines = rows_as {K = LineKey} same_line line_key same_line_is same_line_refl
            (λ k. is_among (orders_named command) k.0 || (is_open_in t k.0 && is_among gtins k.1)) (λ k. is_among (orders_named command) k.0 || is_among gtins k.1)
            (λ k. ((not (picks command) || touched k.1) && names_order command k.0) || ((plans command && is_open first acts k.0) && touched k.1)) (λ k. names_order command k.0 || touched k.1) (λ k. t.line k.0 k.1) s.rows.lines
            (λ k e. needs (is_among (orders_named command) k.0) (names_order command k.0) (is_open first acts k.0) (is_open_in t k.0) (touched k.1) (is_among gtins k.1) (order_told command k.0) (open_told k.0) (told k.1)
            (either_line (not (picks command) || touched k.1) (names_order command k.0) (plans command) (is_open first acts k.0) (touched k.1) e))
            (λ k e. ap (λ b. b || touched k.1) (sym (order_told command k.0)) ∙ ap (λ b. is_among (orders_named command) k.0 || b) (sym (told k.1)) ∙ e)
            (lines_told known.lines (orders_named command) gtins t holds.lines keyed (order_once command) once s.rows.orders s.rows.lines rows.ordered);
        staged = rows_as {K = StagedKey} same_staged staged_key same_share_is same_share_refl (λ k. touched k.1.gtin) (λ k. touched k.1.gtin) (λ k. (not (picks command) || (names_order command k.0 && names_lot command k.1)) && touched k.1.gtin) (λ k. names_order command k.0 || touched k.1.gtin) (λ k. t.staged k.0 k.1) s.rows.staged
            (λ k e. both (not (picks command) || (names_order command k.0 && names_lot command k.1)) (touched k.1.gtin) e) (λ k e. or_later (names_order command k.0) (touched k.1.gtin) e) staged_rows;
        reserved = no_rows {K = ReservedKey} same_reserved reserved_key (λ k. names_reserved command k.0 k.1) (λ k. names_order command k.0 || touched k.1.gtin) (λ k. t.reserved k.0 k.1) s.rows.reserved rows.no_reserved
            (λ k e. no_share (names_of command).order (names_of command).lot k.0 k.1 unpicked e);
      }
        where
          needs : (a n p q h g : Bool) → a ≡ n → (p ≡ true → q ≡ true) → g ≡ h → n || (p && h) ≡ true → a || (q && g) ≡ true
          needs a true p q h g e f same w = ap (λ b. b || (q && g)) e
          needs a false true q h g e f same w = ap (λ b. b || (q && g)) e ∙ ap (λ b. b && g) (f refl) ∙ same ∙ w
          needs a false false q h g e f same w = absurd (let none : false ≡ true = w in cc)

          opened : (c p q h g : Bool) → (p ≡ true → q ≡ true) → g ≡ h → (c && p) && h ≡ true → q && g ≡ true
          opened true true q h g f same w = ap (λ b. b && g) (f refl) ∙ same ∙ w
          opened true false q h g f same w = absurd (let none : false ≡ true = w in cc)
          opened false p q h g f same w = absurd (let none : false ≡ true = w in cc)

-- by what the command is
pub slice_right : (first : ℤ) (acts : List Act) (key : Key) (command : Command) (known : Known) → HoldsOf known (tables_of first acts) → IsHistory first acts → (s : Slice) → (tables_of first acts).meta ≡ Some s.meta
    → AreCounts known.bounds command (tables_of first acts) s.items s.bins → AreSliced known command (tables_of first acts) s.rows → IsSlice first (record { key = key; command = command }) acts (tables_of first acts) s
slice_right first acts key (Ship o) known holds history s meta counted are = shipment_right first acts history key o s meta are
slice_right first acts key (Pick p) known holds history s meta counted are = pick_right first acts key p s meta are
slice_right first acts key command known holds history s meta counted are = planned_right first acts key command known holds refl refl history s meta counted are
