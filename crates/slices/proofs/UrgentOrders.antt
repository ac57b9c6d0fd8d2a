-- The rows of the urgent ones among the orders of a slice are those of the slice.
use Rattle.slices.proofs.Words.{◌≡◌, ℕ, Bool, true, false, ◌&&◌, not, List, [], ◌∷◌, map, filter, refl, ap, sym, ◌∙◌, ◌||◌, find, Option, Some, None, is_some, list_any, same_text, Tables, OrderRow, UrgentRow, Entries, orders_at, holds, OrderKey, same_order, order_key, urgent_key, AreRows, no_two, and_both, or_first, or_later, same_text_is, same_text_refl, is_among, names_among, names_at, is_open_in, is_passed, CoversUrgent, AreUrgents, AreUrgentsFor}
use Rattle.slices.proofs.Counted.{any_mapped}
use Rattle.slices.proofs.KnownOrders.{has_line_of, some_passes, not_found}
use Rattle.slices.proofs.OwnRows.{own_any, any_kept}
use Rattle.slices.proofs.RowsTold.{and_true, any_append, any_read, rows_kept, own_more}
use Rattle.slices.proofs.SliceTold.{sought}

-- Names

mapped_once : (rows : List OrderRow) → no_two same_text (map order_key rows) ≡ no_two (λ (r s : OrderRow). same_text r.order s.order) rows
mapped_once [] = refl
mapped_once (r ∷ rows) = ap (λ b. not b && no_two same_text (map order_key rows)) (any_mapped order_key (same_text r.order) rows) ∙ ap (λ b. not (list_any (λ (s : OrderRow). same_text r.order s.order) rows) && b) (mapped_once rows)

-- the name is among those of the items
holds_any : (known : Entries) (gtins : List (List ℕ)) (g o : List ℕ) → is_among gtins g ≡ true → holds known g o ≡ true → is_among (names_at known gtins) o ≡ true
holds_any known [] g o there held = absurd (let none : false ≡ true = there in cc)
holds_any known (x ∷ gtins) g o there held = any_append (same_text o) (orders_at known x) (names_at known gtins) ∙ by (same_text g x) refl (λ later. holds_any known gtins g o later held)
  where
    by : (b : Bool) → same_text g x ≡ b → (is_among gtins g ≡ true → is_among (names_at known gtins) o ≡ true) → is_among (orders_at known x) o || is_among (names_at known gtins) o ≡ true
    by true is _ = or_first (is_among (orders_at known x) o) (is_among (names_at known gtins) o) (ap (λ y. holds known y o) (sym (same_text_is g x is)) ∙ held)
    by false is rest = or_later (is_among (orders_at known x) o) (is_among (names_at known gtins) o) (rest (sym (ap (λ b. b || is_among gtins g) is) ∙ there))

module _ (names : List (List ℕ)) where
  -- a name that is among them and stands on a row is that of one of the rows that are among them
  among_both : (rows : List OrderRow) (o : List ℕ) → is_among names o ≡ true → list_any (λ (r : OrderRow). same_text o r.order) rows ≡ true → is_among (names_among names rows) o ≡ true
  among_both rows o named there =
      any_mapped order_key (same_text o) (filter (λ (r : OrderRow). is_among names r.order) rows) ∙ any_kept (λ (r : OrderRow). is_among names r.order) (λ r. same_text o r.order) rows ∙ each rows there
    where
      each : (rows : List OrderRow) → list_any (λ (r : OrderRow). same_text o r.order) rows ≡ true → list_any (λ (r : OrderRow). is_among names r.order && same_text o r.order) rows ≡ true
      each [] e = e
      each (r ∷ rows) e =
          elim (same_text o r.order) as (λ b. same_text o r.order ≡ b → b || list_any (λ (r : OrderRow). same_text o r.order) rows ≡ true → (is_among names r.order && b) || list_any (λ (r : OrderRow). is_among names r.order && same_text o r.order) rows ≡ true) [
            | true ↦ λ is _. or_first _ _ (and_true (is_among names r.order) true (ap (is_among names) (sym (same_text_is o r.order is)) ∙ named) refl)
            | false ↦ λ is rest. or_later (is_among names r.order && false) _ (each rows rest)
          ] refl e

  -- and it stands on a row
  on_row : (rows : List OrderRow) (o : List ℕ) → is_among (names_among names rows) o ≡ true → list_any (λ (r : OrderRow). same_text o r.order) rows ≡ true
  on_row rows o e = each rows (sym (any_kept (λ (r : OrderRow). is_among names r.order) (λ r. same_text o r.order) rows) ∙ sym (any_mapped order_key (same_text o) (filter (λ (r : OrderRow). is_among names r.order) rows)) ∙ e)
    where
      each : (rows : List OrderRow) → list_any (λ (r : OrderRow). is_among names r.order && same_text o r.order) rows ≡ true → list_any (λ (r : OrderRow). same_text o r.order) rows ≡ true
      each [] e = e
      each (r ∷ rows) e =
          elim (is_among names r.order && same_text o r.order) as (λ b. (is_among names r.order && same_text o r.order) ≡ b → b || list_any (λ (r : OrderRow). is_among names r.order && same_text o r.order) rows ≡ true → same_text o r.order || list_any (λ (r : OrderRow). same_text o r.order) rows ≡ true) [
            | true ↦ λ both _. or_first _ _ (and_both (is_among names r.order) (same_text o r.order) both).1
            | false ↦ λ _ rest. or_later (same_text o r.order) _ (each rows rest)
          ] refl e

-- Rows

passed_some : (x : Option OrderRow) (test : OrderRow → Bool) → is_passed test x ≡ true → is_some x ≡ true
passed_some None test e = e
passed_some (Some r) test e = refl

module _ (t : Tables) (gtins : List (List ℕ)) (needed allowed : List ℕ → Bool) (orders : List OrderRow) (order_rows : AreRows {K = OrderKey} same_order order_key needed allowed t.order orders)
    (needs : (o : List ℕ) → is_open_in t o && has_line_of gtins t o ≡ true → needed o ≡ true) where
  abbrev wanted : List ℕ → Bool
  wanted o = is_open_in t o && has_line_of gtins t o

  -- the row of an open order that is wanted is there
  row_there : (o : List ℕ) → wanted o ≡ true → list_any (λ (r : OrderRow). same_text o r.order) orders ≡ true
  row_there o e =
      any_read {K = OrderKey} same_order order_key same_text_is same_text_refl needed allowed t.order orders order_rows o (needs o e)
      ∙ passed_some (t.order o) _ (and_both (is_open_in t o) (has_line_of gtins t o) e).0

  row_allowed : (o : List ℕ) → list_any (λ (r : OrderRow). same_text o r.order) orders ≡ true → allowed o ≡ true
  row_allowed o e = own_any {K = OrderKey} order_key allowed t.order (λ r. same_text o r.order) orders (allowed o ≡ true) order_rows.own (λ r is there. ap allowed (same_text_is o r.order is) ∙ there) e

  -- rows that were sought by names, among which is each wanted one that is urgent
  module _ (names : List (List ℕ)) (urgents : List UrgentRow) (once : no_two same_text names ≡ true) (read : AreUrgents names t urgents) where
    named_rows : AreRows {K = OrderKey} same_order urgent_key (is_among names) (is_among names) t.urgent urgents
    named_rows = sought {K = OrderKey} same_order urgent_key same_text_is same_text_refl (λ o. o) t.urgent names (is_among names) urgents once (λ o. refl) read

    by_names : ((o : List ℕ) → wanted o ≡ true → is_some (t.urgent o) ≡ true → is_among names o ≡ true) → ((o : List ℕ) → is_among names o ≡ true → allowed o ≡ true) → AreRows {K = OrderKey} same_order urgent_key wanted allowed t.urgent urgents
    by_names among may = record {
      found = λ o e. by o e (t.urgent o) refl;
      own = own_more {K = OrderKey} same_order urgent_key same_text_is same_text_refl (is_among names) allowed t.urgent urgents may named_rows.own;
      once = named_rows.once;
    }
      where
        by : (o : List ℕ) → wanted o ≡ true → (x : Option UrgentRow) → t.urgent o ≡ x → find (λ (r : UrgentRow). same_order o (urgent_key r)) urgents ≡ t.urgent o
        by o e None none = not_found {K = OrderKey} same_order urgent_key same_text_is (is_among names) t.urgent urgents named_rows.own o none ∙ sym none
        by o e (Some u) is = named_rows.found o (among o e (ap is_some is))

  -- of each order
  pub urgents_of_each : (urgents : List UrgentRow) → AreUrgents (map order_key orders) t urgents → AreRows {K = OrderKey} same_order urgent_key wanted allowed t.urgent urgents
  urgents_of_each urgents read =
      by_names (map order_key orders) urgents (mapped_once orders ∙ order_rows.once) read (λ o e urgent. any_mapped order_key (same_text o) orders ∙ row_there o e) (λ o e. row_allowed o (sym (any_mapped order_key (same_text o) orders) ∙ e))

  -- or of those that may be urgent
  pub urgents_told : (known : Entries) → CoversUrgent known t → (urgents : List UrgentRow) → AreUrgentsFor known gtins orders t urgents → AreRows {K = OrderKey} same_order urgent_key wanted allowed t.urgent urgents
  urgents_told known covers urgents read =
      let may_be = names_at known gtins in
      let kept = rows_kept {K = OrderKey} same_order order_key same_text_is same_text_refl (is_among may_be) needed allowed t.order orders order_rows in
      by_names (names_among may_be orders) urgents (mapped_once (filter (λ (r : OrderRow). is_among may_be r.order) orders) ∙ kept.once) read
      (λ o e urgent.
      let two = and_both (is_open_in t o) (has_line_of gtins t o) e in
      among_both may_be orders o (some_passes (λ g. is_some (t.line o g)) gtins (is_among may_be o ≡ true) (λ g there line. holds_any known gtins g o there (covers o g two.0 line urgent)) two.1) (row_there o e))
      (λ o e. row_allowed o (on_row may_be orders o e))
