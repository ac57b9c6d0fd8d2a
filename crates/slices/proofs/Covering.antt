-- The orders that may be open: as they are read, without those of which a row tells that they are closed, and with those of a change.
use Rattle.slices.proofs.Words.{◌≡◌, inl, inr, ℕ, Bool, true, false, ◌&&◌, not, List, [], ◌∷◌, map, filter, refl, ap, sym, subst, ◌∙◌, ◌||◌, if◌then◌else◌, find, Option, Some, None, is_some, list_any, same_text, Tables, OrderRow, UrgentRow, LineRow, OrderState, Open, Done, Cancelled, Entries, holds, Gains, Loses, has_line_row, is_closed_state, has_closed_row, only_if, OrderKey, same_order, order_key, is_open_order, urgent_key, LineKey, same_line, line_key, is_open_state, AreOwn, and_both, or_first, or_later, same_text_is, same_text_refl, same_text_turned, Put, is_among, is_passed, is_open_in, with_names, other_names, has_urgent_row, urgent_lines, opens, opened_by, comes, Covers, CoversUrgent, AreAllLines, AreUrgents, AreLined, AreNamed, AreKnownOrders, AreOpenLines, AreLinesPut, AreUrgentsPut, Knows, Known, Each}
use Rattle.table_words.specs.Found as read
use Rattle.slices.proofs.Counted.{any_mapped}
use Rattle.slices.proofs.KnownOrders.{any_more, among_others}
use Rattle.slices.proofs.OwnRows.{any_kept}
use Rattle.slices.proofs.RowsTold.{and_true, rows_read, any_read, any_append, own_joined, own_more}
use Rattle.slices.proofs.SliceTold.{among_names}

-- Without the closed

closed_by_state : (s : OrderState) → is_open_state s ≡ true → is_closed_state s ≡ false
closed_by_state Open e = refl
closed_by_state Done e = absurd (let none : false ≡ true = e in cc)
closed_by_state Cancelled e = absurd (let none : false ≡ true = e in cc)

none_closed : (t : Tables) (allowed : List ℕ → Bool) (rows : List OrderRow) → AreOwn (λ (r : OrderRow). r.order) allowed t.order rows → (o : List ℕ) → is_open_in t o ≡ true → has_closed_row rows o ≡ false
none_closed t allowed [] h o up = refl
none_closed t allowed (r ∷ rows) h o up =
    elim (same_text o r.order) as (λ b. same_text o r.order ≡ b → (b && is_closed_state r.state) || has_closed_row rows o ≡ false) [
      | true ↦ λ e.
          let is : is_open_state r.state ≡ true = ap (is_passed is_open_order) (sym h.1) ∙ ap (λ (x : List ℕ). is_open_in t x) (sym (same_text_is o r.order e)) ∙ up in
          ap (λ b. b || has_closed_row rows o) (closed_by_state r.state is) ∙ none_closed t allowed rows h.2 o up
      | false ↦ λ e. none_closed t allowed rows h.2 o up
    ] refl

-- an open order that is known stays so
abbrev pub StaysKnown : Tables → Entries → Entries → Type 0
StaysKnown t old new = (o g : List ℕ) → is_open_in t o ≡ true → holds old g o ≡ true → holds new g o ≡ true

still_known : (t : Tables) (allowed : List ℕ → Bool) (rows : List OrderRow) (lines : List LineRow) (old new : Entries) → AreOwn (λ (r : OrderRow). r.order) allowed t.order rows
    → Loses (λ g o. has_closed_row rows o && has_line_row lines g o) old new → StaysKnown t old new
still_known t allowed rows lines old new own loses o g up held =
    loses g o ∙ ap (λ b. b && not (has_closed_row rows o && has_line_row lines g o)) held ∙ ap (λ b. not (b && has_line_row lines g o)) (none_closed t allowed rows own o up)

-- As they are read, and with a change

only_open : (x : Option OrderRow) → is_passed is_open_order x ≡ true → is_some (only_if is_open_order x) ≡ true
only_open None e = e
only_open (Some r) e = ap (λ b. is_some (if b then Some r else None)) e

found_any : {X : Type 0} (test : X → Bool) (xs : List X) → is_some (find test xs) ≡ list_any test xs
found_any test [] = refl
found_any test (x ∷ xs) = elim (test x) as (λ b. is_some (if b then Some x else find test xs) ≡ b || list_any test xs) [ true ↦ refl | false ↦ found_any test xs ]

-- a row that the tables have under one of some names is among those that were sought by these names
each_any : {K R : Type 0} (same : K → K → Bool) (key : R → K) (text : K → List ℕ) (row : K → Option R) (names : List (List ℕ)) (rows : List R) → Each (λ n part. read.AreRows same key (λ k. same_text n (text k)) row part) names rows
    → (k : K) → is_among names (text k) ≡ true → is_some (row k) ≡ true → list_any (λ r. same k (key r)) rows ≡ true
each_any same key text row [] rows none k among there = absurd (let no : false ≡ true = among in cc)
each_any same key text row (n ∷ names) rows (xs, ys, part, more, e) k among there = ap (list_any (λ r. same k (key r))) e ∙ any_append (λ r. same k (key r)) xs ys ∙ by (same_text (text k) n) refl (λ later. each_any same key text row names ys more k later there)
  where
    by : (b : Bool) → same_text (text k) n ≡ b → (is_among names (text k) ≡ true → list_any (λ r. same k (key r)) ys ≡ true) → list_any (λ r. same k (key r)) xs || list_any (λ r. same k (key r)) ys ≡ true
    by true is _ = or_first _ _ (sym (found_any (λ r. same k (key r)) xs) ∙ ap is_some (part.found k (sym (same_text_turned (text k) n) ∙ is)) ∙ there)
    by false is rest = or_later (list_any (λ r. same k (key r)) xs) _ (rest (sym (ap (λ b. b || is_among names (text k)) is) ∙ among))

lines_have : (t : Tables) (names : List (List ℕ)) (rows : List LineRow) → AreAllLines names t rows → (g o : List ℕ) → is_among names o ≡ true → is_some (t.line o g) ≡ true → has_line_row rows g o ≡ true
lines_have t names rows all g o among there = each_any {K = LineKey} same_line line_key (λ k. k.0) (λ k. t.line k.0 k.1) names rows all (o, g) among there

urgents_have : (t : Tables) (names : List (List ℕ)) (rows : List UrgentRow) → AreUrgents names t rows → (o : List ℕ) → is_among names o ≡ true → is_some (t.urgent o) ≡ true → has_urgent_row rows o ≡ true
urgents_have t names rows all o among there = each_any {K = OrderKey} same_order urgent_key (λ k. k) t.urgent names rows all o among there

-- a line of an urgent order is among the lines of those
line_of_urgent : (urgents : List UrgentRow) (lines : List LineRow) (g o : List ℕ) → has_line_row lines g o ≡ true → has_urgent_row urgents o ≡ true → has_line_row (urgent_lines urgents lines) g o ≡ true
line_of_urgent urgents lines g o there urgent =
    any_kept (λ (r : LineRow). has_urgent_row urgents r.order) (λ r. same_text o r.order && same_text g r.gtin) lines
    ∙ any_more (λ (r : LineRow). same_text o r.order && same_text g r.gtin) (λ r. has_urgent_row urgents r.order && (same_text o r.order && same_text g r.gtin)) lines
    (λ r e. and_true _ _ (ap (has_urgent_row urgents) (sym (same_text_is o r.order (and_both (same_text o r.order) (same_text g r.gtin) e).0)) ∙ urgent) e) there

-- as they are read
module _ (t : Tables) (known urgent : Entries) (are : AreOpenLines t known urgent) where
  among_open : (o : List ℕ) → is_open_in t o ≡ true → is_among (map order_key are.all) o ≡ true
  among_open o up =
      any_mapped order_key (same_text o) are.all
      ∙ any_read {K = OrderKey} same_order order_key same_text_is same_text_refl (λ k. true) (λ k. true) (λ k. only_if is_open_order (t.order k)) are.all
      (rows_read {K = OrderKey} same_order order_key same_text_is same_text_refl (λ k. true) (λ k. only_if is_open_order (t.order k)) are.all are.read) o refl
      ∙ only_open (t.order o) up

  pub covers_read : Covers known t
  covers_read o g up there = are.added g o ∙ lines_have t (map order_key are.all) are.lines are.lines_read g o (among_open o up) there

  pub covers_urgent_read : CoversUrgent urgent t
  covers_urgent_read o g up there hurried =
      are.urgent_added g o
      ∙ line_of_urgent are.urgents are.lines g o (lines_have t (map order_key are.all) are.lines are.lines_read g o (among_open o up) there) (urgents_have t (map order_key are.all) are.urgents are.urgents_read o (among_open o up) hurried)

-- What comes with a change

opened_among : (puts : Put) (o : List ℕ) → opens puts.orders o || has_urgent_row puts.urgents o ≡ true → is_among (opened_by puts) o ≡ true
opened_among puts o e =
    let opened = map order_key (filter is_open_order puts.orders) in
    let urgent = map urgent_key puts.urgents in
    any_append (same_text o) opened (other_names opened urgent)
    ∙ ap (λ b. is_among opened o || b) (among_others opened urgent o)
    ∙ unless (is_among opened o) (is_among urgent o) (ap (λ b. is_among opened o || b) (any_mapped urgent_key (same_text o) puts.urgents) ∙ e)
  where
    unless : (a b : Bool) → a || b ≡ true → a || (b && not a) ≡ true
    unless true b e = refl
    unless false b e = and_true b true e refl

module _ (t : Tables) (puts : Put) (lines : List LineRow) (lines_are : AreLinesPut puts t lines) where
  come : (g o : List ℕ) → comes puts t g o ≡ true → has_line_row lines g o ≡ true
  come g o e =
      ap (λ l. has_line_row l g o) lines_are.lines ∙ any_append (λ (r : LineRow). same_text o r.order && same_text g r.gtin) lines_are.read puts.lines ∙ by (has_line_row puts.lines g o) refl e
    where
      by : (b : Bool) → has_line_row puts.lines g o ≡ b → b || (is_some (t.line o g) && (opens puts.orders o || has_urgent_row puts.urgents o)) ≡ true → has_line_row lines_are.read g o || has_line_row puts.lines g o ≡ true
      by true is _ = or_later (has_line_row lines_are.read g o) (has_line_row puts.lines g o) is
      by false _ rest =
          let two = and_both (is_some (t.line o g)) (opens puts.orders o || has_urgent_row puts.urgents o) rest in
          or_first _ _ (lines_have t (opened_by puts) lines_are.read lines_are.are_read g o (opened_among puts o two.1) two.0)

  urgent_come : (urgents : List UrgentRow) → AreUrgentsPut puts lines t urgents → (g o : List ℕ) → has_line_row lines g o ≡ true → is_some (t.urgent o) || has_urgent_row puts.urgents o ≡ true → has_urgent_row urgents o ≡ true
  urgent_come urgents are g o there e =
      ap (λ l. has_urgent_row l o) are.urgents ∙ any_append (λ (u : UrgentRow). same_text o u.order) are.read puts.urgents ∙ by (is_some (t.urgent o)) refl e
    where
      ordered : is_among (with_names (λ (r : LineRow). r.order) lines []) o ≡ true
      ordered = among_names (λ (r : LineRow). r.order) lines [] o ∙ any_more (λ (r : LineRow). same_text o r.order && same_text g r.gtin) (λ r. same_text o r.order) lines (λ r both. (and_both (same_text o r.order) (same_text g r.gtin) both).0) there

      by : (b : Bool) → is_some (t.urgent o) ≡ b → b || has_urgent_row puts.urgents o ≡ true → has_urgent_row are.read o || has_urgent_row puts.urgents o ≡ true
      by true is _ = or_first _ _ (urgents_have t (with_names (λ (r : LineRow). r.order) lines []) are.read are.are_read o ordered is)
      by false _ rest = or_later (has_urgent_row are.read o) _ rest

  pub knows_put : (urgents : List UrgentRow) → AreUrgentsPut puts lines t urgents → (old new : Known) → Gains (has_line_row lines) old.lines new.lines → Gains (has_line_row (urgent_lines urgents lines)) old.urgent new.urgent → Knows puts t new
  knows_put urgents are old new gains urgent_gains = record {
    lines = λ g o e. gains g o ∙ or_later (holds old.lines g o) _ (come g o e);
    urgent = λ g o e hurried. urgent_gains g o ∙ or_later (holds old.urgent g o) _ (line_of_urgent urgents lines g o (come g o e) (urgent_come urgents are g o (come g o e) hurried));
  }

-- Rows of orders that were read are the tables'

each_own : (t : Tables) (are : List ℕ → List OrderRow → Type 0) → ((o : List ℕ) (part : List OrderRow) → are o part → AreOwn {K = OrderKey} order_key (λ k. true) t.order part)
    → (names : List (List ℕ)) (rows : List OrderRow) → Each are names rows → AreOwn {K = OrderKey} order_key (λ k. true) t.order rows
each_own t are own [] rows e = subst (λ (l : List OrderRow). AreOwn {K = OrderKey} order_key (λ k. true) t.order l) (sym e) tt
each_own t are own (n ∷ names) rows (xs, ys, part, more, e) =
    subst (λ (l : List OrderRow). AreOwn {K = OrderKey} order_key (λ k. true) t.order l) (sym e)
    (own_joined {K = OrderKey} same_order order_key same_text_is same_text_refl (λ k. true) (λ k. true) t.order xs ys (own n xs part) (each_own t are own names ys more))

row_own : (t : Tables) (o : List ℕ) (rows : List OrderRow) → read.AreRows {K = OrderKey} same_order order_key (λ k. same_text o k) t.order rows → AreOwn {K = OrderKey} order_key (λ k. true) t.order rows
row_own t o rows are =
    own_more {K = OrderKey} same_order order_key same_text_is same_text_refl (λ k. same_text o k) (λ k. true) t.order rows (λ k h. refl)
    (rows_read {K = OrderKey} same_order order_key same_text_is same_text_refl (λ k. same_text o k) t.order rows are).own

lined_own : (t : Tables) (o : List ℕ) (rows : List OrderRow) → AreLined o t rows → AreOwn {K = OrderKey} order_key (λ k. true) t.order rows
lined_own t o rows (inl none) = subst (λ (l : List OrderRow). AreOwn {K = OrderKey} order_key (λ k. true) t.order l) (sym none.0) tt
lined_own t o rows (inr are) = row_own t o rows are

named_own : (t : Tables) (names : List (List ℕ)) (rows : List OrderRow) → Each (λ o found. AreLined o t found) names rows → AreOwn {K = OrderKey} order_key (λ k. true) t.order rows
named_own t names rows each = each_own t (λ o found. AreLined o t found) (lined_own t) names rows each

own_orders : (known : Entries) (named gtins : List (List ℕ)) (t : Tables) (orders : List OrderRow) (lines : List LineRow) → AreKnownOrders known named gtins t orders lines → AreOwn {K = OrderKey} order_key (λ k. true) t.order orders
own_orders known named gtins t orders lines are =
    subst (λ (l : List OrderRow). AreOwn {K = OrderKey} order_key (λ k. true) t.order l) (sym are.orders)
    (own_joined {K = OrderKey} same_order order_key same_text_is same_text_refl (λ k. true) (λ k. true) t.order are.own are.rest (named_own t named are.own are.is_own.orders)
    (each_own t (λ o found. read.AreRows {K = OrderKey} same_order order_key (λ k. same_text o k) t.order found) (row_own t) _ are.rest are.is_rest.orders))

pub known_met : (known : Entries) (named gtins : List (List ℕ)) (t : Tables) (orders : List OrderRow) (lines : List LineRow) (old new : Entries) → AreKnownOrders known named gtins t orders lines
    → Loses (λ g o. has_closed_row orders o && has_line_row lines g o) old new → StaysKnown t old new
known_met known named gtins t orders lines old new are loses = still_known t (λ k. true) orders lines old new (own_orders known named gtins t orders lines are) loses

-- the order that is shipped
pub known_shipped : (named : List (List ℕ)) (t : Tables) (orders : List OrderRow) (lines : List LineRow) (old new : Entries) → AreNamed named t orders lines → Loses (λ g o. has_closed_row orders o && has_line_row lines g o) old new → StaysKnown t old new
known_shipped named t orders lines old new are loses = still_known t (λ k. true) orders lines old new (named_own t named orders are.orders) loses

-- the order that is picked for
pub known_picked : (order : List ℕ) (t : Tables) (orders : List OrderRow) (lines : List LineRow) (old new : Entries) → read.AreRows {K = OrderKey} same_order order_key (λ k. same_text order k) t.order orders
    → Loses (λ g o. has_closed_row orders o && has_line_row lines g o) old new → StaysKnown t old new
known_picked order t orders lines old new are loses = still_known t (λ k. true) orders lines old new (row_own t order orders are) loses
