-- Rows of two plans, each without those that the other has: what they reserve for a booking on a lot is all that the plan reserves for it,
-- or nothing, where both plans reserve the same.
use Rattle.rules.proofs.Words.{◌≡◌, ℕ, ◌+◌, ◌≤◌, Bool, true, false, ◌&&◌, not, List, [], ◌∷◌, refl, ap, sym, ◌∙◌, arith, inl, inr, eq-eqb, ◌==◌, ◌||◌, if◌then◌else◌, Option, Some, None, find, filter, ◌⊎◌, list_any, eqb-true, Row, reserved_in, no_two, none_in_filter, equal_turned, and_both, or_none, not_true, or_false, same_pair, AllSome, same_row, rows_apart}
use Rattle.rules.proofs.rows.replanned.Pairs.{none_else}

-- Rows that are kept

pub some_kept : (keep : Row → Bool) (rs : List Row) → AllSome rs → AllSome (filter keep rs)
some_kept keep [] h = tt
some_kept keep (r ∷ rs) h = elim (keep r) as (λ b. AllSome (if b then r ∷ filter keep rs else filter keep rs)) [ true ↦ (h.0, some_kept keep rs h.1) | false ↦ some_kept keep rs h.1 ]

pub once_kept : (keep : Row → Bool) (rs : List Row) → no_two same_pair rs ≡ true → no_two same_pair (filter keep rs) ≡ true
once_kept keep [] e = refl
once_kept keep (r ∷ rs) e =
    let two = and_both (not (list_any (same_pair r) rs)) (no_two same_pair rs) e in
    elim (keep r) as (λ b. no_two same_pair (if b then r ∷ filter keep rs else filter keep rs) ≡ true) [
      | true ↦ (λ i. not (none_in_filter (same_pair r) keep rs (not_true _ two.0) i) && once_kept keep rs two.1 i)
      | false ↦ once_kept keep rs two.1
    ]

module _ (b l : ℕ) where
  abbrev pair : Row → Bool
  pair r = (r.booking == b) && (r.lot == l)

  fewer_kept : (keep : Row → Bool) (rs : List Row) → reserved_in b l (filter keep rs) ≤ reserved_in b l rs
  fewer_kept keep [] = omega arith
  fewer_kept keep (r ∷ rs) =
      let rest = fewer_kept keep rs in
      elim (keep r) as (λ c. reserved_in b l (if c then r ∷ filter keep rs else filter keep rs) ≤ (if pair r then r.qty else 0) + reserved_in b l rs) [ true ↦ omega arith | false ↦ omega arith ]

  pub none_kept : (keep : Row → Bool) (rs : List Row) → reserved_in b l rs ≡ 0 → reserved_in b l (filter keep rs) ≡ 0
  none_kept keep rs e = omega (arith, fewer_kept keep rs, e)

  -- The row of the pair

  abbrev units : Option Row → ℕ
  units None = 0
  units (Some r) = r.qty

  abbrev units_if : (Row → Bool) → Option Row → ℕ
  units_if keep None = 0
  units_if keep (Some r) = if keep r then r.qty else 0

  of_pair : (r : Row) (n : ℕ) → pair r ≡ true → n ≡ 0 → (if pair r then r.qty else 0) + n ≡ r.qty
  of_pair r n t z = let own : (if pair r then r.qty else 0) ≡ r.qty = ap (λ c. if c then r.qty else 0) t in omega (arith, own, z)

  of_others : (r : Row) (n : ℕ) → pair r ≡ false → (if pair r then r.qty else 0) + n ≡ n
  of_others r n t = let z : (if pair r then r.qty else 0) ≡ 0 = ap (λ c. if c then r.qty else 0) t in omega (arith, z)

  reserved_found : (rs : List Row) → no_two same_pair rs ≡ true → reserved_in b l rs ≡ units (find pair rs)
  reserved_found [] e = refl
  reserved_found (r ∷ rs) e =
      let two = and_both (not (list_any (same_pair r) rs)) (no_two same_pair rs) e in
      elim (pair r) as (λ c. pair r ≡ c → (if pair r then r.qty else 0) + reserved_in b l rs ≡ units (if c then Some r else find pair rs)) [
        | true ↦ λ t. of_pair r (reserved_in b l rs) t (none_else b l rs r t (not_true _ two.0))
        | false ↦ λ t. of_others r (reserved_in b l rs) t ∙ reserved_found rs two.1
      ] refl

  kept_found : (keep : Row → Bool) (rs : List Row) → no_two same_pair rs ≡ true → reserved_in b l (filter keep rs) ≡ units_if keep (find pair rs)
  kept_found keep [] e = refl
  kept_found keep (r ∷ rs) e =
      let two = and_both (not (list_any (same_pair r) rs)) (no_two same_pair rs) e in
      elim (pair r) as (λ c. pair r ≡ c → reserved_in b l (if keep r then r ∷ filter keep rs else filter keep rs) ≡ units_if keep (if c then Some r else find pair rs)) [
        | true ↦ λ t.
            let none = none_kept keep rs (none_else b l rs r t (not_true _ two.0)) in
            elim (keep r) as (λ k. reserved_in b l (if k then r ∷ filter keep rs else filter keep rs) ≡ (if k then r.qty else 0)) [
              | true ↦ of_pair r (reserved_in b l (filter keep rs)) t none
              | false ↦ none
            ]
        | false ↦ λ t. elim (keep r) as (λ k. reserved_in b l (if k then r ∷ filter keep rs else filter keep rs) ≡ units_if keep (find pair rs)) [
          | true ↦ of_others r (reserved_in b l (filter keep rs)) t ∙ kept_found keep rs two.1
          | false ↦ kept_found keep rs two.1
        ]
      ] refl

  found_passes : (rs : List Row) (r : Row) → find pair rs ≡ Some r → pair r ≡ true
  found_passes [] r e = cc
  found_passes (s ∷ ss) r e = elim (pair s) as (λ c. pair s ≡ c → (if c then Some s else find pair ss) ≡ Some r → pair r ≡ true) [
    | true ↦ λ t h. let own : s ≡ r = cc in ap pair (sym own) ∙ t
    | false ↦ λ t h. found_passes ss r h
  ] refl e

  -- Whether a row of the pair is among rows

  abbrev has_units : ℕ → Option Row → Bool
  has_units q None = false
  has_units q (Some s) = q == s.qty

  same_then_pair : (r s : Row) → pair r ≡ true → same_row r s ≡ true → pair s ≡ true
  same_then_pair r s t e =
      let two = and_both ((r.booking == s.booking) && (r.lot == s.lot)) (r.qty == s.qty) e in
      let both = and_both (r.booking == s.booking) (r.lot == s.lot) two.0 in
      (λ i. (sym (eqb-true r.booking s.booking both.0) i == b) && (sym (eqb-true r.lot s.lot both.1) i == l)) ∙ t

  -- besides a row of the pair there is none
  not_besides : (r s : Row) → pair r ≡ true → pair s ≡ true → (ss : List Row) → list_any (same_pair s) ss ≡ false → list_any (same_row r) ss ≡ false
  not_besides r s t u [] e = refl
  not_besides r s t u (x ∷ xs) e =
      let two = or_none (same_pair s x) (list_any (same_pair s) xs) e in
      (λ i. apart i || not_besides r s t u xs two.1 i)
    where
      apart : same_row r x ≡ false
      apart = elim (same_row r x) as (λ c. same_row r x ≡ c → c ≡ false) [ true ↦ λ f. let no = clash f in cc | false ↦ λ f. refl ] refl
        where
          clash : same_row r x ≡ true → true ≡ false
          clash f =
              let x_pair = and_both (x.booking == b) (x.lot == l) (same_then_pair r x t f) in
              let s_pair = and_both (s.booking == b) (s.lot == l) u in
              let one : same_pair s x ≡ true =
              (λ i. eq-eqb x.booking s.booking (eqb-true x.booking b x_pair.0 ∙ sym (eqb-true s.booking b s_pair.0)) i && eq-eqb x.lot s.lot (eqb-true x.lot l x_pair.1 ∙ sym (eqb-true s.lot l s_pair.1)) i) in
              sym one ∙ (or_none (same_pair s x) (list_any (same_pair s) xs) e).0

  has_found : (r : Row) → pair r ≡ true → (ss : List Row) → no_two same_pair ss ≡ true → list_any (same_row r) ss ≡ has_units r.qty (find pair ss)
  has_found r t [] e = refl
  has_found r t (s ∷ ss) e =
      let two = and_both (not (list_any (same_pair s) ss)) (no_two same_pair ss) e in
      elim (pair s) as (λ c. pair s ≡ c → same_row r s || list_any (same_row r) ss ≡ has_units r.qty (if c then Some s else find pair ss)) [
        | true ↦ λ u. (λ i. by_units u i || not_besides r s t u ss (not_true _ two.0) i) ∙ or_false (r.qty == s.qty)
        | false ↦ λ u. ap (λ c. c || list_any (same_row r) ss) (other u) ∙ has_found r t ss two.1
      ] refl
    where
      by_units : pair s ≡ true → same_row r s ≡ (r.qty == s.qty)
      by_units u =
          let x = and_both (r.booking == b) (r.lot == l) t in
          let y = and_both (s.booking == b) (s.lot == l) u in
          (λ i. eq-eqb r.booking s.booking (eqb-true r.booking b x.0 ∙ sym (eqb-true s.booking b y.0)) i && eq-eqb r.lot s.lot (eqb-true r.lot l x.1 ∙ sym (eqb-true s.lot l y.1)) i && (r.qty == s.qty))

      other : pair s ≡ false → same_row r s ≡ false
      other u = elim (same_row r s) as (λ c. same_row r s ≡ c → c ≡ false) [ true ↦ λ f. let no : true ≡ false = sym (same_then_pair r s t f) ∙ u in cc | false ↦ λ f. refl ] refl

  -- The rows of two plans, where those that others have are those that the other plan has

  abbrev mid : Option Row → Option Row → ℕ
  mid None y = 0
  mid (Some r) y = if not (has_units r.qty y) then r.qty else 0

  mid_found : (others rs ss : List Row) → no_two same_pair rs ≡ true → no_two same_pair ss ≡ true → ((r : Row) → pair r ≡ true → list_any (same_row r) others ≡ list_any (same_row r) ss)
      → reserved_in b l (rows_apart others rs) ≡ mid (find pair rs) (find pair ss)
  mid_found others rs ss e f has = kept_found (λ r. not (list_any (same_row r) others)) rs e ∙ by_row (find pair rs) refl
    where
      by_row : (x : Option Row) → find pair rs ≡ x → units_if (λ r. not (list_any (same_row r) others)) x ≡ mid x (find pair ss)
      by_row None h = refl
      by_row (Some r) h = let t = found_passes rs r h in ap (λ c. if not c then r.qty else 0) (has r t ∙ has_found r t ss f)

  all_or_none : (x y : Option Row) → ((mid x y ≡ units x) × (mid y x ≡ units y)) ⊎ ((mid x y ≡ 0) × (mid y x ≡ 0) × (units x ≡ units y))
  all_or_none None None = inl (refl, refl)
  all_or_none None (Some s) = inl (refl, refl)
  all_or_none (Some r) None = inl (refl, refl)
  all_or_none (Some r) (Some s) =
      elim (r.qty == s.qty) as (λ c. (r.qty == s.qty) ≡ c → ((mid (Some r) (Some s) ≡ r.qty) × (mid (Some s) (Some r) ≡ s.qty)) ⊎ ((mid (Some r) (Some s) ≡ 0) × (mid (Some s) (Some r) ≡ 0) × (r.qty ≡ s.qty))) [
        | true ↦ λ t. inr (ap (λ c. if not c then r.qty else 0) t, ap (λ c. if not c then s.qty else 0) (equal_turned s.qty r.qty ∙ t), eqb-true r.qty s.qty t)
        | false ↦ λ t. inl (ap (λ c. if not c then r.qty else 0) t, ap (λ c. if not c then s.qty else 0) (equal_turned s.qty r.qty ∙ t))
      ] refl

  pub apart_units : (olds news rs ss : List Row) → no_two same_pair rs ≡ true → no_two same_pair ss ≡ true
      → ((r : Row) → pair r ≡ true → list_any (same_row r) olds ≡ list_any (same_row r) rs) → ((r : Row) → pair r ≡ true → list_any (same_row r) news ≡ list_any (same_row r) ss)
      → ((reserved_in b l (rows_apart news rs) ≡ reserved_in b l rs) × (reserved_in b l (rows_apart olds ss) ≡ reserved_in b l ss))
      ⊎ ((reserved_in b l (rows_apart news rs) ≡ 0) × (reserved_in b l (rows_apart olds ss) ≡ 0) × (reserved_in b l rs ≡ reserved_in b l ss))
  apart_units olds news rs ss e f has_old has_new =
      let before = mid_found news rs ss e f has_new in
      let later = mid_found olds ss rs f e has_old in
      let own = reserved_found rs e in
      let other = reserved_found ss f in
      told before later own other (all_or_none (find pair rs) (find pair ss))
    where
      told : reserved_in b l (rows_apart news rs) ≡ mid (find pair rs) (find pair ss) → reserved_in b l (rows_apart olds ss) ≡ mid (find pair ss) (find pair rs)
          → reserved_in b l rs ≡ units (find pair rs) → reserved_in b l ss ≡ units (find pair ss)
          → ((mid (find pair rs) (find pair ss) ≡ units (find pair rs)) × (mid (find pair ss) (find pair rs) ≡ units (find pair ss)))
          ⊎ ((mid (find pair rs) (find pair ss) ≡ 0) × (mid (find pair ss) (find pair rs) ≡ 0) × (units (find pair rs) ≡ units (find pair ss)))
          → ((reserved_in b l (rows_apart news rs) ≡ reserved_in b l rs) × (reserved_in b l (rows_apart olds ss) ≡ reserved_in b l ss))
          ⊎ ((reserved_in b l (rows_apart news rs) ≡ 0) × (reserved_in b l (rows_apart olds ss) ≡ 0) × (reserved_in b l rs ≡ reserved_in b l ss))
      told p q own other (inl (m, n)) = inl (p ∙ m ∙ sym own, q ∙ n ∙ sym other)
      told p q own other (inr (m, n, k)) = inr (p ∙ m, q ∙ n, own ∙ k ∙ sym other)
