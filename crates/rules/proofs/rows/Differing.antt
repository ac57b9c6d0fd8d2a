-- The rows that differ: what is put and dropped of an item's reservations.
use Rattle.rules.proofs.Words.{◌≡◌, ℕ, Bool, true, false, ◌&&◌, not, List, [], ◌∷◌, refl, ap, sym, ◌∙◌, ◌||◌, if◌then◌else◌, Option, Some, None, find, filter, is_some, list_any, same_text, LotId, ReservedRow, is_lot, of_item, no_two, differs, is_share_of, has_qty, rows_to_put, rows_to_drop, and_both, not_true, same_text_is, is_lot_is, any_found, none_in_filter}
use Rattle.rules.proofs.rows.TableSteps.{IsNamed, share_row, nothing_named}

module _ (o : List ℕ) (l : LotId) where
  abbrev test : ReservedRow → Bool
  test r = same_text o r.order && is_lot l r.lot

  -- a row that passes is of the order and the lot
  share_same : (n : ReservedRow) → test n ≡ true → (r : ReservedRow) → is_share_of n r ≡ test r
  share_same n e r =
      let two = and_both (same_text o n.order) (is_lot l n.lot) e in
      (λ i. same_text (sym (same_text_is o n.order two.0) i) r.order && is_lot (sym (is_lot_is l n.lot two.1) i) r.lot)

  any_same : (n : ReservedRow) → test n ≡ true → (rows : List ReservedRow) → list_any (is_share_of n) rows ≡ list_any test rows
  any_same n e [] = refl
  any_same n e (r ∷ rs) = λ i. share_same n e r i || any_same n e rs i

  find_same : (n : ReservedRow) → test n ≡ true → (rows : List ReservedRow) → find (is_share_of n) rows ≡ find test rows
  find_same n e [] = refl
  find_same n e (r ∷ rs) = λ i. if share_same n e r i then Some r else find_same n e rs i

  none_found : (rows : List ReservedRow) → list_any test rows ≡ false → find test rows ≡ None
  none_found [] e = refl
  none_found (r ∷ rs) e = elim (test r) as (λ b. b || list_any test rs ≡ false → (if b then Some r else find test rs) ≡ None) [
    | true ↦ λ h. let f : true ≡ false = h in cc
    | false ↦ λ h. none_found rs h
  ] e

  none_any : (rows : List ReservedRow) → find test rows ≡ None → list_any test rows ≡ false
  none_any rows e = sym (any_found test rows) ∙ ap is_some e

  kept_none : (keep : ReservedRow → Bool) (rows : List ReservedRow) → list_any test rows ≡ false → find test (filter keep rows) ≡ None
  kept_none keep [] e = refl
  kept_none keep (r ∷ rs) e = elim (test r) as (λ b. test r ≡ b → b || list_any test rs ≡ false → find test (if keep r then r ∷ filter keep rs else filter keep rs) ≡ None) [
    | true ↦ λ t h. let f : true ≡ false = h in cc
    | false ↦ λ t h. elim (keep r) as (λ c. find test (if c then r ∷ filter keep rs else filter keep rs) ≡ None) [
      | true ↦ ap (λ b. if b then Some r else find test (filter keep rs)) t ∙ kept_none keep rs h
      | false ↦ kept_none keep rs h
    ]
  ] refl e

  -- of rows apart the one that is found is found among those kept, if it is kept
  kept_found : (keep : ReservedRow → Bool) (rows : List ReservedRow) → no_two is_share_of rows ≡ true → (n : ReservedRow) → find test rows ≡ Some n → find test (filter keep rows) ≡ (if keep n then Some n else None)
  kept_found keep [] once n e = cc
  kept_found keep (r ∷ rs) once n e =
      let two = and_both (not (list_any (is_share_of r) rs)) (no_two is_share_of rs) once in
      elim (test r) as (λ b. test r ≡ b → (if b then Some r else find test rs) ≡ Some n → find test (if keep r then r ∷ filter keep rs else filter keep rs) ≡ (if keep n then Some n else None)) [
        | true ↦ λ t h.
            let own : r ≡ n = cc in
            let none : list_any test rs ≡ false = sym (any_same r t rs) ∙ not_true _ two.0 in
            elim (keep r) as (λ c. find test (if c then r ∷ filter keep rs else filter keep rs) ≡ (if c then Some r else None)) [
              | true ↦ ap (λ b. if b then Some r else find test (filter keep rs)) t
              | false ↦ kept_none keep rs none
            ]
            ∙ ap (λ (x : ReservedRow). if keep x then Some x else None) own
        | false ↦ λ t h. elim (keep r) as (λ c. find test (if c then r ∷ filter keep rs else filter keep rs) ≡ (if keep n then Some n else None)) [
          | true ↦ ap (λ b. if b then Some r else find test (filter keep rs)) t ∙ kept_found keep rs two.1 n h
          | false ↦ kept_found keep rs two.1 n h
        ]
      ] refl e

  found_passes : (rows : List ReservedRow) (n : ReservedRow) → find test rows ≡ Some n → test n ≡ true
  found_passes [] n e = cc
  found_passes (r ∷ rs) n e = elim (test r) as (λ b. test r ≡ b → (if b then Some r else find test rs) ≡ Some n → test n ≡ true) [
    | true ↦ λ t h. let own : r ≡ n = cc in ap test (sym own) ∙ t
    | false ↦ λ t h. found_passes rs n h
  ] refl e

  module _ (g : List ℕ) (p q : ℕ) (olds news : List ReservedRow) (own : of_item g l ≡ true) (before : find test olds ≡ share_row o l p) (after : find test news ≡ share_row o l q)
      (olds_once : no_two is_share_of olds ≡ true) (news_once : no_two is_share_of news ≡ true) where
    put_by : (x : Option ReservedRow) (y : Option ReservedRow) → find test news ≡ x → find test olds ≡ y → find test (rows_to_put olds news) ≡ (if differs y x then x else None)
    put_by None None e f = kept_none _ news (none_any news e)
    put_by None (Some r) e f = kept_none _ news (none_any news e)
    put_by (Some n) None e f = kept_found _ news news_once n e ∙ ap (λ y. if not (has_qty y n.qty) then Some n else None) (find_same n (found_passes news n e) olds ∙ f)
    put_by (Some n) (Some r) e f = kept_found _ news news_once n e ∙ ap (λ y. if not (has_qty y n.qty) then Some n else None) (find_same n (found_passes news n e) olds ∙ f)

    some_any : (rows : List ReservedRow) (x : Option ReservedRow) → find test rows ≡ x → list_any test rows ≡ is_some x
    some_any rows x e = sym (any_found test rows) ∙ ap is_some e

    drop_by : (x : Option ReservedRow) (y : Option ReservedRow) → find test news ≡ x → find test olds ≡ y → list_any test (rows_to_drop g olds news) ≡ is_some y && not (is_some x)
    drop_by x None e f = sym (any_found test (rows_to_drop g olds news)) ∙ ap is_some (kept_none _ olds (none_any olds f))
    drop_by x (Some r) e f =
        let t = found_passes olds r f in
        let item : of_item g r.lot ≡ true = ap (λ (m : LotId). of_item g m) (sym (is_lot_is l r.lot (and_both (same_text o r.order) (is_lot l r.lot) t).1)) ∙ own in
        sym (any_found test (rows_to_drop g olds news)) ∙ ap is_some (kept_found _ olds olds_once r f)
        ∙ (λ i. is_some (if item i && not ((any_same r t news ∙ some_any news x e) i) then Some r else None)) ∙ shown (not (is_some x)) r
      where
        shown : (b : Bool) (r : ReservedRow) → is_some (if b then Some r else None) ≡ b
        shown true r = refl
        shown false r = refl

    -- the item's reservation is named where it changes
    pub named_of_item : IsNamed o l p q (rows_to_put olds news) (rows_to_drop g olds news)
    named_of_item = record { put = put_by (share_row o l q) (share_row o l p) after before; dropped = drop_by (share_row o l q) (share_row o l p) after before }

  -- a reservation of another item, which stays as it was
  module _ (g : List ℕ) (p q : ℕ) (olds news : List ReservedRow) (other : of_item g l ≡ false) (same : q ≡ p) (after : find test news ≡ None) where
    none_dropped : (rows : List ReservedRow) → list_any test (rows_to_drop g rows news) ≡ false
    none_dropped [] = refl
    none_dropped (r ∷ rs) = elim (of_item g r.lot) as (λ b. of_item g r.lot ≡ b → list_any test (if b && not (list_any (is_share_of r) news) then r ∷ rows_to_drop g rs news else rows_to_drop g rs news) ≡ false) [
      | true ↦ λ e. elim (not (list_any (is_share_of r) news)) as (λ c. list_any test (if c then r ∷ rows_to_drop g rs news else rows_to_drop g rs news) ≡ false) [
        | true ↦ (λ i. elsewhere r e i || none_dropped rs i)
        | false ↦ none_dropped rs
      ]
      | false ↦ λ e. none_dropped rs
    ] refl
      where
        elsewhere : (r : ReservedRow) → of_item g r.lot ≡ true → test r ≡ false
        elsewhere r e = elim (test r) as (λ b. test r ≡ b → b ≡ false) [
          | true ↦ λ t. let f : true ≡ false = sym e ∙ ap (λ (m : LotId). of_item g m) (sym (is_lot_is l r.lot (and_both (same_text o r.order) (is_lot l r.lot) t).1)) ∙ other in cc
          | false ↦ λ t. refl
        ] refl

    pub named_elsewhere : IsNamed o l p q (rows_to_put olds news) (rows_to_drop g olds news)
    named_elsewhere =
        let h = nothing_named o l p q same in
        record { put = kept_none _ news (none_any news after) ∙ h.put; dropped = none_dropped olds ∙ h.dropped }

-- no row is put twice
pub put_once : (olds news : List ReservedRow) → no_two is_share_of news ≡ true → no_two is_share_of (rows_to_put olds news) ≡ true
put_once olds [] e = refl
put_once olds (n ∷ ns) e =
    let two = and_both (not (list_any (is_share_of n) ns)) (no_two is_share_of ns) e in
    elim (not (has_qty (find (is_share_of n) olds) n.qty)) as (λ b. no_two is_share_of (if b then n ∷ rows_to_put olds ns else rows_to_put olds ns) ≡ true) [
      | true ↦ (λ i. not (none_in_filter (is_share_of n) (λ x. not (has_qty (find (is_share_of x) olds) x.qty)) ns (not_true _ two.0) i) && put_once olds ns two.1 i)
      | false ↦ put_once olds ns two.1
    ]
