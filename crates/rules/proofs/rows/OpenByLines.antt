-- The open units of an item, order by order, are those of its lines, line by line.
use Rattle.rules.proofs.Words.{◌≡◌, ℕ, ◌-◌, Bool, true, false, ◌&&◌, List, [], ◌∷◌, refl, sym, ◌∙◌, arith, if◌then◌else◌, Option, Some, None, find, same_text, total, OrderRow, LineRow, is_open_state, no_two, same_line, and_both, same_text_is, same_text_refl, same_text_turned, total_agree, is_open_among, open_of_line}
use Rattle.rules.proofs.rows.Telling.{totals_swapped}
use Rattle.rules.proofs.rows.LineSums.{found_total, any_total}

-- what a line that is found has open
abbrev pub units_open : Option LineRow → ℕ
units_open None = 0
units_open (Some l) = l.ordered - l.shipped

-- ordered less shipped of the item, if the order is open
abbrev pub open_of_order : List ℕ → List LineRow → OrderRow → ℕ
open_of_order g lines o = if is_open_state o.state then units_open (find (λ l. same_text o.order l.order && same_text g l.gtin) lines) else 0

module _ (g : List ℕ) (orders : List OrderRow) (lines : List LineRow) (orders_once : no_two (λ (r s : OrderRow). same_text r.order s.order) orders ≡ true)
    (lines_once : no_two (λ (r s : LineRow). same_line (r.order, r.gtin) (s.order, s.gtin)) lines ≡ true) where
  abbrev units : LineRow → ℕ
  units l = l.ordered - l.shipped

  abbrev of_order : OrderRow → LineRow → Bool
  of_order o l = same_text o.order l.order && same_text g l.gtin

  abbrev is_open_of : LineRow → OrderRow → Bool
  is_open_of l o = same_text l.order o.order && is_open_state o.state

  abbrev both : OrderRow → LineRow → ℕ
  both o l = if of_order o l then (if is_open_state o.state then units l else 0) else 0

  -- two lines of an order and the item have one key
  line_tells : (o : OrderRow) (x y : LineRow) → of_order o x ≡ true → of_order o y ≡ true → same_line (x.order, x.gtin) (y.order, y.gtin) ≡ true
  line_tells o x y e f =
      let a = and_both (same_text o.order x.order) (same_text g x.gtin) e in
      let b = and_both (same_text o.order y.order) (same_text g y.gtin) f in
      (λ i. same_text (sym (same_text_is o.order x.order a.0) i) (sym (same_text_is o.order y.order b.0) i) && same_text (sym (same_text_is g x.gtin a.1) i) (sym (same_text_is g y.gtin b.1) i))
      ∙ (λ i. same_text_refl o.order i && same_text_refl g i)

  order_tells : (l : LineRow) (x y : OrderRow) → is_open_of l x ≡ true → is_open_of l y ≡ true → same_text x.order y.order ≡ true
  order_tells l x y e f =
      let a = and_both (same_text l.order x.order) (is_open_state x.state) e in
      let b = and_both (same_text l.order y.order) (is_open_state y.state) f in
      (λ i. same_text (sym (same_text_is l.order x.order a.0) i) (sym (same_text_is l.order y.order b.0) i)) ∙ same_text_refl l.order

  nothing : (b : Bool) → ◌≡◌ {A = ℕ} 0 (if b then 0 else 0)
  nothing true = refl
  nothing false = refl

  zeros : (o : OrderRow) (ls : List LineRow) → ◌≡◌ {A = ℕ} 0 (total (λ l. if of_order o l then 0 else 0) ls)
  zeros o [] = refl
  zeros o (l ∷ ls) = omega (arith, nothing (of_order o l), zeros o ls)

  each_order : (o : OrderRow) → open_of_order g lines o ≡ total (both o) lines
  each_order o =
      elim (is_open_state o.state) as (λ b. (if b then units_open (find (of_order o) lines) else 0) ≡ total (λ l. if of_order o l then (if b then units l else 0) else 0) lines) [
        | true ↦ found_total (λ (r s : LineRow). same_line (r.order, r.gtin) (s.order, s.gtin)) (of_order o) (line_tells o) units units_open refl (λ l. refl) lines lines_once
        | false ↦ zeros o lines
      ]

  turned : (l : LineRow) (o : OrderRow) → (if same_text o.order l.order && true then (if is_open_state o.state then units l else 0) else 0) ≡ (if is_open_of l o then units l else 0)
  turned l o = by_tests (same_text o.order l.order) (same_text l.order o.order) (is_open_state o.state) (same_text_turned o.order l.order)
    where
      by_tests : (a b c : Bool) → a ≡ b → (if a && true then (if c then units l else 0) else 0) ≡ (if b && c then units l else 0)
      by_tests true true c e = refl
      by_tests true false c e = cc
      by_tests false true c e = cc
      by_tests false false c e = refl

  none_of : (l : LineRow) (o : OrderRow) → (if same_text o.order l.order && false then (if is_open_state o.state then units l else 0) else 0) ≡ 0
  none_of l o = elim (same_text o.order l.order) as (λ b. (if b && false then (if is_open_state o.state then units l else 0) else 0) ≡ 0) [ true ↦ refl | false ↦ refl ]

  no_sum : (os : List OrderRow) → total (λ o. 0) os ≡ 0
  no_sum [] = refl
  no_sum (o ∷ os) = omega (arith, no_sum os)

  each_line : (l : LineRow) → total (λ o. both o l) orders ≡ open_of_line g orders l
  each_line l =
      elim (same_text g l.gtin) as (λ b. total (λ o. if same_text o.order l.order && b then (if is_open_state o.state then units l else 0) else 0) orders ≡ (if b && is_open_among orders l.order then units l else 0)) [
        | true ↦
            total_agree (λ o. if same_text o.order l.order && true then (if is_open_state o.state then units l else 0) else 0) (λ o. if is_open_of l o then units l else 0) (turned l) orders
            ∙ sym (any_total (λ (r s : OrderRow). same_text r.order s.order) (is_open_of l) (order_tells l) (units l) orders orders_once)
        | false ↦ total_agree (λ o. if same_text o.order l.order && false then (if is_open_state o.state then units l else 0) else 0) (λ o. 0) (none_of l) orders ∙ no_sum orders
      ]

  pub open_by_lines : total (open_of_line g orders) lines ≡ total (open_of_order g lines) orders
  open_by_lines =
      sym (total_agree (open_of_order g lines) (λ o. total (both o) lines) each_order orders
      ∙ totals_swapped both orders lines
      ∙ total_agree (λ l. total (λ o. both o l) orders) (open_of_line g orders) each_line lines)
