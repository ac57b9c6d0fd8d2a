-- The rows that follow what is written are those of the tables that a change leaves.
use Rattle.store.proofs.Words.{◌≡◌, ℕ, Bool, true, inl, inr, List, [], refl, sym, ap, subst, ◌∙◌, if◌then◌else◌, reverse, Option, Some, None, IfSome, nat_cmp, is_eq, Ordering, slice_cmp, same_text, Tables, MetaRow, OrderRow, RepeatRow, StagedRow, AreRows, same_lot, same_line, same_staged, staged_key, with_repeat, without_staged, Change, turned_line, line_key_cmp, lines_told, turned_lot, lot_key_cmp, lots_told, names_told, with_row, without_row, each_written, AreStagedOfItem, AreStagedOfOrder, staged_laws, TableName, Meta, Lots, Orders, Urgents, Lines, Stock, Staged, Reserved, family, Row, described, look, puts, drops, stage_emptied, emptied, table_written, change_written, table_left, is_at, are_same, RowMap, rows_at, ChangesBy, SetsBy, Remembers, with_put, without_listed, remembers_none, known_as, known_put, known_set, known_dropped, KnowsStaged, KnowsStagedFor, KnowsMeta, KnowsFollowed, StageLeft, StagedFollows, StageEmptied, StagedForFollows, Follows, Followed}
use Rattle.whole_tables.specs.Family.{Key}
use Rattle.store.proofs.StageEmptied.{staged_at, without_order, rows_gone, rows_left}

-- What is known of one table, with the rows that are dropped from it and put into it, is known of what is written

module _ {B Q : Type 0} (cmp : Q → Q → Ordering) (key_of : B → Q) (same_by : B → B → Bool) (told : (x y : B) → is_eq (cmp (key_of y) (key_of x)) ≡ same_by x y)
    (n : TableName) (wanted : B → Key n → Bool) (owner : Row n → B) (owns : (by : B) (r : Row n) → wanted by ((described n).key r) ≡ same_by by (owner r))
    (c : Change) (t left : Tables) (is_left : look n left ≡ look n (table_written c n t)) where
  abbrev pub Knows : Tables → RowMap Q (Row n) → Type 0
  Knows u known = Remembers cmp key_of (λ by found. AreRows (described n).same (described n).key (wanted by) (look n u) found) known

  abbrev pub dropped : Tables
  dropped = each_written (λ r. without_row (described n) ((described n).key r)) (drops c n) (emptied c n t)

  pub put_known : (old new : RowMap Q (Row n)) → ChangesBy cmp (λ r. key_of (owner r)) (with_put (are_same n)) (puts c n) old new → Knows dropped old → Knows left new
  put_known old new changes known =
      known_as cmp key_of same_by told (described n).same (described n).key (family n).laws.itself (family n).laws.one_key (look n) wanted owner owns (table_written c n t) left (sym is_left) new
      (known_put cmp key_of same_by told (described n).same (described n).key (family n).laws.itself (family n).laws.one_key (look n) wanted owner owns (with_row (described n))
      (λ r u. (family n).there (λ k. if is_at n k r then Some r else look n u k) u) (puts c n) dropped old new changes known)

  -- where rows are sought by their whole key, each that is put is all that is known by it
  pub set_known : ((by : B) (r : Row n) → same_by by (owner r) ≡ true → (k : Key n) → wanted by k ≡ true → is_at n k r ≡ true) → (old new : RowMap Q (Row n)) → SetsBy cmp (λ r. key_of (owner r)) (puts c n) old new → Knows dropped old → Knows left new
  set_known whole old new sets known =
      known_as cmp key_of same_by told (described n).same (described n).key (family n).laws.itself (family n).laws.one_key (look n) wanted owner owns (table_written c n t) left (sym is_left) new
      (known_set cmp key_of same_by told (described n).same (described n).key (family n).laws.itself (family n).laws.one_key (look n) wanted owner owns whole (with_row (described n))
      (λ r u. (family n).there (λ k. if is_at n k r then Some r else look n u k) u) (puts c n) dropped old new sets known)

  pub changed_known : (old new : RowMap Q (Row n))
      → (mid : RowMap Q (Row n)) × ChangesBy cmp (λ r. key_of (owner r)) (without_listed (are_same n)) (drops c n) old mid × ChangesBy cmp (λ r. key_of (owner r)) (with_put (are_same n)) (puts c n) mid new
      → Knows (emptied c n t) old → Knows left new
  changed_known old new (mid, drop, put) known =
      put_known mid new put
      (known_dropped cmp key_of same_by told (described n).same (described n).key (family n).laws.itself (family n).laws.one_key (look n) wanted owner owns (λ r. without_row (described n) ((described n).key r))
      (λ r u. (family n).there (λ k. if is_at n k r then None else look n u k) u) (drops c n) (emptied c n t) old mid drop known)

module _ (c : Change) (row : RepeatRow) (t : Tables) where
  abbrev left : Tables
  left = with_repeat row (change_written c t)

  abbrev emptied_left : Tables
  emptied_left = stage_emptied c.dropped.stage t

  none_emptied : c.dropped.stage ≡ None → staged_at emptied_left ≡ staged_at t
  none_emptied none = ap (λ (x : Option (List ℕ)). staged_at (stage_emptied x t)) none

  one_emptied : (order : List ℕ) → c.dropped.stage ≡ Some order → staged_at emptied_left ≡ without_order order t
  one_emptied order some = ap (λ (x : Option (List ℕ)). staged_at (stage_emptied x t)) some

  abbrev by_item : (t u : Tables) → staged_at t ≡ staged_at u → (m : RowMap (List ℕ) StagedRow) → KnowsStaged t m → KnowsStaged u m
  by_item = known_as (slice_cmp nat_cmp) reverse same_text names_told same_staged staged_key staged_laws.itself staged_laws.one_key staged_at (λ g k. same_text g k.1.gtin) (λ r. r.lot.gtin) (λ by r. refl)

  -- what is known by the item, once the stage of an order was emptied
  stage_left : (stage : Option (List ℕ)) → c.dropped.stage ≡ stage → (stages old new : RowMap (List ℕ) StagedRow) → StageLeft stage stages old new → KnowsStagedFor t stages → KnowsStaged t old → KnowsStaged emptied_left new
  stage_left None is stages old new same by_order known = by_item t emptied_left (sym (none_emptied is)) new (subst (KnowsStaged t) (sym same) known)
  stage_left (Some order) is stages old new (inl (gone, at, drops)) by_order known =
      let are : AreStagedOfOrder order t gone = subst (λ (x : Option (List StagedRow)). IfSome x (AreStagedOfOrder order t)) at (by_order order) in
      by_item (each_written (λ r. without_staged r.order r.lot) gone t) emptied_left (rows_gone order t gone are ∙ sym (one_emptied order is)) new
      (known_dropped (slice_cmp nat_cmp) reverse same_text names_told same_staged staged_key staged_laws.itself staged_laws.one_key staged_at (λ g k. same_text g k.1.gtin) (λ r. r.lot.gtin) (λ by r. refl) (λ r. without_staged r.order r.lot) (λ r u. refl) gone t old new drops known)
  stage_left (Some order) is stages old new (inr none) by_order known = remembers_none (slice_cmp nat_cmp) reverse (λ by found. AreStagedOfItem by emptied_left found) new none

  staged_followed : (stages old new : RowMap (List ℕ) StagedRow) → StagedFollows c.put c.dropped stages old new → KnowsStagedFor t stages → KnowsStaged t old → KnowsStaged left new
  staged_followed stages old new (first, leaves, changes) by_order known =
      changed_known (slice_cmp nat_cmp) reverse same_text names_told Staged (λ g k. same_text g k.1.gtin) (λ r. r.lot.gtin) (λ by r. refl) c t left (table_left c t Staged) first new changes
      (stage_left c.dropped.stage refl stages old first leaves by_order known)

  abbrev by_name : (t u : Tables) → staged_at t ≡ staged_at u → (m : RowMap (List ℕ) StagedRow) → KnowsStagedFor t m → KnowsStagedFor u m
  by_name = known_as (slice_cmp nat_cmp) reverse same_text names_told same_staged staged_key staged_laws.itself staged_laws.one_key staged_at (λ o k. same_text o k.0) (λ r. r.order) (λ by r. refl)

  -- and by the order
  stage_gone : (stage : Option (List ℕ)) → c.dropped.stage ≡ stage → (old new : RowMap (List ℕ) StagedRow) → StageEmptied stage old new → KnowsStagedFor t old → KnowsStagedFor emptied_left new
  stage_gone None is old new same known by = by_name t emptied_left (sym (none_emptied is)) new (subst (KnowsStagedFor t) (sym same) known) by
  stage_gone (Some order) is old new changes known by = told (rows_at (slice_cmp nat_cmp) new (reverse by)) (changes (reverse by))
    where
      told : (x : Option (List StagedRow)) → IfSome x (λ found. (before : List StagedRow) × (rows_at (slice_cmp nat_cmp) old (reverse by) ≡ Some before) × (found ≡ (if is_eq (slice_cmp nat_cmp (reverse order) (reverse by)) then [] else before))) → IfSome x (AreStagedOfOrder by emptied_left)
      told None h = tt
      told (Some rows) h =
          let were : AreStagedOfOrder by t h.0 = subst (λ (y : Option (List StagedRow)). IfSome y (AreStagedOfOrder by t)) h.1 (known by) in
          subst (AreStagedOfOrder by emptied_left) (sym (h.2 ∙ ap (λ b. if b then [] else h.0) (names_told by order))) (rows_left order t emptied_left (one_emptied order is) by h.0 were)

  staged_for_followed : (old new : RowMap (List ℕ) StagedRow) → StagedForFollows c.put c.dropped old new → KnowsStagedFor t old → KnowsStagedFor left new
  staged_for_followed old new (first, mid, empties, drops, puts) known =
      changed_known (slice_cmp nat_cmp) reverse same_text names_told Staged (λ o k. same_text o k.0) (λ r. r.order) (λ by r. refl) c t left (table_left c t Staged) first new (mid, drops, puts)
      (stage_gone c.dropped.stage refl old first empties known)

  -- two that have the name of an order have the same
  order_alone : (by : List ℕ) (r : OrderRow) → same_text by r.order ≡ true → (k : List ℕ) → same_text by k ≡ true → same_text k r.order ≡ true
  order_alone by r own k w = subst (λ (b : List ℕ). same_text b r.order ≡ true) ((family Orders).laws.one_key by k w) own

  pub followed_written : (old new : Followed) → Follows c old new → KnowsFollowed t old → KnowsFollowed left new
  followed_written old new follows known = record {
    lots = put_known lot_key_cmp turned_lot same_lot lots_told Lots same_lot (λ r. r.lot) (λ by r. refl) c t left (table_left c t Lots) old.lots.rows new.lots.rows follows.lots known.lots;
    lots_of = put_known (slice_cmp nat_cmp) reverse same_text names_told Lots (λ g k. same_text g k.gtin) (λ r. r.lot.gtin) (λ by r. refl) c t left (table_left c t Lots) old.lots_of.rows new.lots_of.rows follows.lots_of known.lots_of;
    orders = set_known (slice_cmp nat_cmp) reverse same_text names_told Orders same_text (λ r. r.order) (λ by r. refl) c t left (table_left c t Orders) order_alone old.orders.rows new.orders.rows follows.orders known.orders;
    urgents = put_known (slice_cmp nat_cmp) reverse same_text names_told Urgents same_text (λ r. r.order) (λ by r. refl) c t left (table_left c t Urgents) old.urgents.rows new.urgents.rows follows.urgents known.urgents;
    lines = put_known (slice_cmp nat_cmp) reverse same_text names_told Lines (λ o k. same_text o k.0) (λ r. r.order) (λ by r. refl) c t left (table_left c t Lines) old.lines.rows new.lines.rows follows.lines known.lines;
    lines_at = put_known line_key_cmp turned_line same_line lines_told Lines same_line (λ r. (r.order, r.gtin)) (λ by r. refl) c t left (table_left c t Lines) old.lines_at.rows new.lines_at.rows follows.lines_at known.lines_at;
    stock = changed_known (slice_cmp nat_cmp) reverse same_text names_told Stock (λ g k. same_text g k.0.gtin) (λ r. r.lot.gtin) (λ by r. refl) c t left (table_left c t Stock) old.stock.rows new.stock.rows follows.stock known.stock;
    staged = staged_followed old.staged_for.rows old.staged.rows new.staged.rows follows.staged known.staged_for known.staged;
    staged_for = staged_for_followed old.staged_for.rows new.staged_for.rows follows.staged_for known.staged_for;
    reserved = changed_known (slice_cmp nat_cmp) reverse same_text names_told Reserved (λ g k. same_text g k.1.gtin) (λ r. r.lot.gtin) (λ by r. refl) c t left (table_left c t Reserved) old.reserved.rows new.reserved.rows follows.reserved known.reserved;
    reserved_for = changed_known (slice_cmp nat_cmp) reverse same_text names_told Reserved (λ o k. same_text o k.0) (λ r. r.order) (λ by r. refl) c t left (table_left c t Reserved) old.reserved_for.rows new.reserved_for.rows follows.reserved_for known.reserved_for;
    meta = subst (λ (x : Option MetaRow). KnowsMeta left x) (sym follows.meta) (ap (λ (f : Unit {0} → Option MetaRow). f tt) (table_left c t Meta));
  }
