-- Reserved rows where units are taken from one reservation, and from no other.
use Rattle.rules.proofs.Words.{◌≡◌, ℕ, ◌<◌, Bool, true, false, ◌&&◌, not, List, [], ◌∷◌, refl, ap, sym, ◌∙◌, arith, ◌==◌, ◌||◌, if◌then◌else◌, Option, Some, None, find, is_some, list_any, cons_option, eqb-true, same_text, LotId, ReservedRow, is_lot, no_two, differs, is_share_of, reserved_found, reserved_put, reserved_gone, same_text_refl, is_lot_refl}
use Rattle.rules.proofs.rows.TableSteps.{IsNamed, share_row, nothing_named}

-- m units are reserved of the lot for the order, and of these `left` stay
module _ (o : List ℕ) (l : LotId) (m left : ℕ) (rows : List ReservedRow) (found : reserved_found rows o l ≡ share_row o l m) (less : left < m) where
  abbrev row : ℕ → ReservedRow
  row n = record { order = o; lot = l; qty = n }

  abbrev own : ReservedRow → Bool
  own r = same_text o r.order && is_lot l r.lot

  abbrev at : Bool → ℕ → Option ReservedRow
  at b n = if b then None else Some (row n)

  is_own : (n : ℕ) → own (row n) ≡ true
  is_own n = λ i. same_text_refl o i && is_lot_refl l i

  unlike : (m == left) ≡ false
  unlike = elim (m == left) as (λ b. (m == left) ≡ b → b ≡ false) [ true ↦ λ e. let same : m ≡ left = eqb-true m left e in absurd (omega (arith, same, less)) | false ↦ λ e. refl ] refl

  put_named : find own (reserved_put o l left) ≡ (if differs (share_row o l m) (share_row o l left) then share_row o l left else None)
  put_named =
      elim (left == 0) as (λ z. find own (if z then [] else row left ∷ []) ≡ (if differs (at (m == 0) m) (at z left) then at z left else None)) [
        | true ↦ elim (m == 0) as (λ w. at true left ≡ (if differs (at w m) (at true left) then at true left else None)) [ true ↦ refl | false ↦ refl ]
        | false ↦
            ap (λ b. if b then Some (row left) else None) (is_own left)
            ∙ elim (m == 0) as (λ w. at false left ≡ (if differs (at w m) (at false left) then at false left else None)) [
              | true ↦ refl
              | false ↦ sym (ap (λ b. if not b then at false left else None) unlike)
            ]
      ]

  dropped_named : list_any own (reserved_gone rows o l left) ≡ is_some (share_row o l m) && not (is_some (share_row o l left))
  dropped_named =
      elim (left == 0) as (λ z. list_any own (if z then cons_option (reserved_found rows o l) [] else []) ≡ is_some (at (m == 0) m) && not (is_some (at z left))) [
        | true ↦
            ap (λ x. list_any own (cons_option x [])) found
            ∙ elim (m == 0) as (λ w. list_any own (cons_option (at w m) []) ≡ is_some (at w m) && true) [ true ↦ refl | false ↦ ap (λ b. b || false) (is_own m) ]
        | false ↦ elim (m == 0) as (λ w. false ≡ is_some (at w m) && false) [ true ↦ refl | false ↦ refl ]
      ]

  -- the reservation is named
  pub own_lowered : IsNamed o l m left (reserved_put o l left) (reserved_gone rows o l left)
  own_lowered = record { put = put_named; dropped = dropped_named }

  module _ (q : List ℕ) (k : LotId) (other : same_text q o && is_lot k l ≡ false) where
    abbrev test : ReservedRow → Bool
    test r = same_text q r.order && is_lot k r.lot

    none_put : find test (reserved_put o l left) ≡ None
    none_put = elim (left == 0) as (λ z. find test (if z then [] else row left ∷ []) ≡ None) [ true ↦ refl | false ↦ ap (λ b. if b then Some (row left) else None) other ]

    none_gone : list_any test (reserved_gone rows o l left) ≡ false
    none_gone =
        elim (left == 0) as (λ z. list_any test (if z then cons_option (reserved_found rows o l) [] else []) ≡ false) [
          | true ↦
              ap (λ x. list_any test (cons_option x [])) found
              ∙ elim (m == 0) as (λ w. list_any test (cons_option (at w m) []) ≡ false) [ true ↦ refl | false ↦ ap (λ b. b || false) other ]
          | false ↦ refl
        ]

    -- and no other is
    pub others_kept : (n p : ℕ) → p ≡ n → IsNamed q k n p (reserved_put o l left) (reserved_gone rows o l left)
    others_kept n p e = let h = nothing_named q k n p e in record { put = none_put ∙ h.put; dropped = none_gone ∙ h.dropped }

-- no row is put twice
pub lowered_once : (o : List ℕ) (l : LotId) (left : ℕ) → no_two is_share_of (reserved_put o l left) ≡ true
lowered_once o l left = elim (left == 0) as (λ z. no_two is_share_of (if z then [] else record { order = o; lot = l; qty = left } ∷ []) ≡ true) [ true ↦ refl | false ↦ refl ]
