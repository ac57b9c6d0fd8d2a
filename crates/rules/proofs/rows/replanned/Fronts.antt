-- Rows of a plan reserve the same for an order of a lot before and after the act.
use Rattle.rules.proofs.Words.{◌≡◌, ℕ, List, ◌∷◌, refl, ap, sym, ◌∙◌, ℤ, Option, Some, None, LotId, Row, reserved_in, Act, next_number, Placed, KnownLot, order_named, lot_known, plan, reserved_of, verdict}
use Rattle.rules.proofs.rows.replanned.Known.{order_stays, order_comes, lot_stays, lot_comes}
use Rattle.rules.proofs.rows.replanned.Unreserved.{next_lot_unreserved, next_order_unreserved}

module _ (first : ℤ) (acts : List Act) (act : Act) (ok : verdict first acts act.command ≡ None) (g : List ℕ) (part : List Row) (none_in_part : (b l : ℕ) → reserved_in b l (plan first acts g) ≡ 0 → reserved_in b l part ≡ 0) where
  abbrev after : List Act
  after = act ∷ acts

  of_new_order : (k p : ℕ) → p ≡ next_number acts → reserved_in p k part ≡ 0
  of_new_order k p e = ap (λ n. reserved_in n k part) e ∙ none_in_part (next_number acts) k (next_order_unreserved first acts g k)

  of_new_lot : (b k : ℕ) → k ≡ next_number acts → reserved_in b k part ≡ 0
  of_new_lot b k e = ap (λ n. reserved_in b n part) e ∙ none_in_part b (next_number acts) (next_lot_unreserved first acts g b)

  module _ (o : List ℕ) (l : LotId) where
    part_by : (x : Option Placed) (y : Option KnownLot) (u : Option Placed) (v : Option KnownLot) → order_named acts o ≡ x → lot_known acts l ≡ y → order_named after o ≡ u → lot_known after l ≡ v
        → reserved_of u v part ≡ reserved_of x y part
    part_by None y None v e f h k = refl
    part_by None y (Some p) None e f h k = refl
    part_by None y (Some p) (Some m) e f h k = of_new_order m.came p.act (order_comes first acts act o p e h)
    part_by (Some w) None None v e f h k = refl
    part_by (Some w) None (Some p) None e f h k = refl
    part_by (Some w) None (Some p) (Some m) e f h k = of_new_lot p.act m.came (lot_comes first acts act l m f k)
    part_by (Some w) (Some j) u v e f h k = λ i. reserved_of ((sym h ∙ order_stays first acts act ok o w e) i) ((sym k ∙ lot_stays first acts act l j f) i) part

    pub part_same : reserved_of (order_named after o) (lot_known after l) part ≡ reserved_of (order_named acts o) (lot_known acts l) part
    part_same = part_by (order_named acts o) (lot_known acts l) (order_named after o) (lot_known after l) refl refl refl refl
