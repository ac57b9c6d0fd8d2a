-- What an act that touches several items puts and drops of reserved rows, item after item.
use Rattle.rules.proofs.Words.{◌≡◌, ℕ, Bool, true, false, ◌&&◌, not, List, [], ◌∷◌, ◌++◌, refl, ap, sym, ◌∙◌, ◌||◌, if◌then◌else◌, ℤ, Option, Some, None, find, filter, flat_map, is_some, list_any, list_any-append, same_text, LotId, ReservedRow, Act, is_lot, of_item, reserved, IsHistory, is_touched, no_two, unless_put, is_share_of, and_both, or_false, or_none, not_true, same_text_is, same_text_refl, same_text_turned, is_lot_refl, any_found, other_items_are_left_alone, Each}
use Rattle.rules.proofs.rows.TableSteps.{IsNamed, AreNamed, nothing_named}
use Rattle.rules.proofs.rows.AddedRows.{put_over_none, find_appended}

-- Rows of one item

abbrev pub AllOf : List ℕ → List ReservedRow → Type 0
AllOf g [] = Unit {0}
AllOf g (r ∷ rs) = (of_item g r.lot ≡ true) × AllOf g rs

-- where no row of a lot of another item is found, all rows are of the item
pub all_of : (g : List ℕ) (rows : List ReservedRow) → ((q : List ℕ) (l : LotId) → of_item g l ≡ false → find (λ (r : ReservedRow). same_text q r.order && is_lot l r.lot) rows ≡ None) → AllOf g rows
all_of g [] h = tt
all_of g (r ∷ rs) h = (own (of_item g r.lot) refl, all_of g rs rest)
  where
    own : (b : Bool) → of_item g r.lot ≡ b → of_item g r.lot ≡ true
    own true e = e
    own false e =
        let f : ◌≡◌ {A = Option ReservedRow} (Some r) None =
        sym (ap (λ b. if b then Some r else find (λ (x : ReservedRow). same_text r.order x.order && is_lot r.lot x.lot) rs) (λ i. same_text_refl r.order i && is_lot_refl r.lot i)) ∙ h r.order r.lot e in
        cc

    rest : (q : List ℕ) (l : LotId) → of_item g l ≡ false → find (λ (r : ReservedRow). same_text q r.order && is_lot l r.lot) rs ≡ None
    rest q l e = elim (same_text q r.order && is_lot l r.lot) as (λ b. (if b then Some r else find (λ (r : ReservedRow). same_text q r.order && is_lot l r.lot) rs) ≡ None → find (λ (r : ReservedRow). same_text q r.order && is_lot l r.lot) rs ≡ None) [
      | true ↦ λ f. cc
      | false ↦ λ f. f
    ] (h q l e)

pub kept_of : (g : List ℕ) (keep : ReservedRow → Bool) (rows : List ReservedRow) → AllOf g rows → AllOf g (filter keep rows)
kept_of g keep [] h = tt
kept_of g keep (r ∷ rs) h = elim (keep r) as (λ b. AllOf g (if b then r ∷ filter keep rs else filter keep rs)) [
  | true ↦ (h.0, kept_of g keep rs h.1)
  | false ↦ kept_of g keep rs h.1
]

-- rows apart from the others behind them are apart
once_appended : (xs ys : List ReservedRow) (g : List ℕ) → AllOf g xs → ((r : ReservedRow) → of_item g r.lot ≡ true → list_any (is_share_of r) ys ≡ false) → no_two is_share_of xs ≡ true → no_two is_share_of ys ≡ true → no_two is_share_of (xs ++ ys) ≡ true
once_appended [] ys g of apart one two = two
once_appended (x ∷ xs) ys g of apart one two =
    let both = and_both (not (list_any (is_share_of x) xs)) (no_two is_share_of xs) one in
    let none : list_any (is_share_of x) (xs ++ ys) ≡ false = list_any-append (is_share_of x) xs ys ∙ (λ i. not_true _ both.0 i || apart x of.0 i) in
    (λ i. not (none i) && once_appended xs ys g of.1 apart both.1 two i)

-- Each element is of one item, and what it puts and drops names the reservations of this item alone
module _ {X : Type 0} (item : X → List ℕ) (first : ℤ) (acts : List Act) (act : Act) (Is : X → Type 0) (puts_of drops_of : X → List ReservedRow)
    (own_named : (x : X) → Is x → (q : List ℕ) (l : LotId) → of_item (item x) l ≡ true → IsNamed q l (reserved first acts q l) (reserved first (act ∷ acts) q l) (puts_of x) (drops_of x))
    (none_named : (x : X) → Is x → (q : List ℕ) (l : LotId) → of_item (item x) l ≡ false → IsNamed q l 0 0 (puts_of x) (drops_of x)) where
  abbrev after : List Act
  after = act ∷ acts

  abbrev puts : List X → List ReservedRow
  puts xs = flat_map puts_of xs

  abbrev drops : List X → List ReservedRow
  drops xs = flat_map drops_of xs

  -- other items name nothing of the lot
  others_named : (q : List ℕ) (l : LotId) (xs : List X) → Each Is xs → list_any (λ x. same_text l.gtin (item x)) xs ≡ false → IsNamed q l 0 0 (puts xs) (drops xs)
  others_named q l [] are e = record { put = refl; dropped = refl }
  others_named q l (x ∷ xs) are e =
      let two = or_none (same_text l.gtin (item x)) (list_any (λ x. same_text l.gtin (item x)) xs) e in
      let one = none_named x are.0 q l (same_text_turned (item x) l.gtin ∙ two.0) in
      let rest = others_named q l xs are.1 two.1 in
      record {
        put = find_appended _ (puts_of x) (puts xs) ∙ (λ i. unless_put (one.put i) false (rest.put i));
        dropped = list_any-append _ (drops_of x) (drops xs) ∙ (λ i. one.dropped i || rest.dropped i);
      }

  -- a lot's reservations are named by its item
  item_named : (q : List ℕ) (l : LotId) (xs : List X) → Each Is xs → no_two (λ x y. same_text (item x) (item y)) xs ≡ true → list_any (λ x. same_text l.gtin (item x)) xs ≡ true
      → IsNamed q l (reserved first acts q l) (reserved first after q l) (puts xs) (drops xs)
  item_named q l [] are single e = let f : false ≡ true = e in cc
  item_named q l (x ∷ xs) are single e =
      let two = and_both (not (list_any (λ y. same_text (item x) (item y)) xs)) (no_two (λ x y. same_text (item x) (item y)) xs) single in
      elim (same_text l.gtin (item x)) as (λ b. same_text l.gtin (item x) ≡ b → b || list_any (λ x. same_text l.gtin (item x)) xs ≡ true
      → IsNamed q l (reserved first acts q l) (reserved first after q l) (puts (x ∷ xs)) (drops (x ∷ xs))) [
        | true ↦ λ t h.
            let one = own_named x are.0 q l (same_text_turned (item x) l.gtin ∙ t) in
            let rest = others_named q l xs are.1 (ap (λ (g : List ℕ). list_any (λ y. same_text g (item y)) xs) (same_text_is l.gtin (item x) t) ∙ not_true _ two.0) in
            record {
              put = find_appended _ (puts_of x) (puts xs) ∙ (λ i. unless_put (one.put i) false (rest.put i)) ∙ put_over_none _;
              dropped = list_any-append _ (drops_of x) (drops xs) ∙ (λ i. one.dropped i || rest.dropped i) ∙ or_false _;
            }
        | false ↦ λ t h.
            let one = none_named x are.0 q l (same_text_turned (item x) l.gtin ∙ t) in
            let rest = item_named q l xs are.1 two.1 h in
            record {
              put = find_appended _ (puts_of x) (puts xs) ∙ (λ i. unless_put (one.put i) false (rest.put i));
              dropped = list_any-append _ (drops_of x) (drops xs) ∙ (λ i. one.dropped i || rest.dropped i);
            }
      ] refl e

  -- each reservation is named where it changes, where the elements are those of the items touched
  pub items_named : (all : List X) → Each Is all → no_two (λ x y. same_text (item x) (item y)) all ≡ true → ((g : List ℕ) → list_any (λ x. same_text g (item x)) all ≡ is_touched first act acts g) → IsHistory first after
      → AreNamed first act acts (puts all) (drops all)
  items_named all are apart touched_are next q l =
      elim (list_any (λ x. same_text l.gtin (item x)) all) as (λ b. list_any (λ x. same_text l.gtin (item x)) all ≡ b → IsNamed q l (reserved first acts q l) (reserved first after q l) (puts all) (drops all)) [
        | true ↦ λ e. item_named q l all are apart e
        | false ↦ λ e.
            let none = others_named q l all are e in
            let same = nothing_named q l (reserved first acts q l) (reserved first after q l) ((other_items_are_left_alone first act acts l.gtin next (sym (touched_are l.gtin) ∙ e)).reserved q l (same_text_refl l.gtin)) in
            record { put = none.put ∙ same.put; dropped = none.dropped ∙ same.dropped }
      ] refl

  -- no row is put twice
  pub items_once : ((x : X) → Is x → AllOf (item x) (puts_of x)) → ((x : X) → Is x → no_two is_share_of (puts_of x) ≡ true)
      → (xs : List X) → Each Is xs → no_two (λ x y. same_text (item x) (item y)) xs ≡ true → no_two is_share_of (puts xs) ≡ true
  items_once all_of once_of [] are single = refl
  items_once all_of once_of (x ∷ xs) are single =
      let two = and_both (not (list_any (λ y. same_text (item x) (item y)) xs)) (no_two (λ x y. same_text (item x) (item y)) xs) single in
      once_appended (puts_of x) (puts xs) (item x) (all_of x are.0)
      (λ r own. sym (any_found (is_share_of r) (puts xs))
      ∙ ap is_some (others_named r.order r.lot xs are.1 (ap (λ (g : List ℕ). list_any (λ y. same_text g (item y)) xs) (sym (same_text_is (item x) r.lot.gtin own)) ∙ not_true _ two.0)).put)
      (once_of x are.0) (items_once all_of once_of xs are.1 two.1)
