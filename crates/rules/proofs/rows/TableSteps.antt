-- Tables that agree at each key are equal; and what a change says of reserved rows.
use Rattle.rules.proofs.Words.{◌≡◌, ℕ, Bool, true, false, ◌&&◌, not, List, [], ◌∷◌, refl, ap, sym, ◌∙◌, eq-eqb, ◌==◌, if◌then◌else◌, Option, Some, None, option_map, find, is_some, ℤ, list_any, eqb-true, same_text, LotId, ReservedRow, Act, is_lot, reserved, Tables, tables_of, if_any, reserved_row, changed, unless_put, differs, NamesChangedReservations, Change}

-- Reserved rows before and after

abbrev pub share_row : List ℕ → LotId → ℕ → Option ReservedRow
share_row o l q = if_any q (record { order = o; lot = l; qty = q })

-- what is put and dropped of one reservation, before and after being p and q units
pub record IsNamed (o : List ℕ) (l : LotId) (p q : ℕ) (news olds : List ReservedRow) : Type 0 where
  pub put : find (λ r. same_text o r.order && is_lot l r.lot) news ≡ (if differs (share_row o l p) (share_row o l q) then share_row o l q else None)
  pub dropped : list_any (λ r. same_text o r.order && is_lot l r.lot) olds ≡ is_some (share_row o l p) && not (is_some (share_row o l q))

not_differ : (o : List ℕ) (l : LotId) (p : ℕ) → differs (share_row o l p) (share_row o l p) ≡ false
not_differ o l p = elim (p == 0) as (λ b. differs (if b then None else Some (record { order = o; lot = l; qty = p })) (if b then None else Some (record { order = o; lot = l; qty = p })) ≡ false) [
  | true ↦ refl
  | false ↦ ap not (eq-eqb p p refl)
]

none_lost : {X : Type 0} (x : Option X) → is_some x && not (is_some x) ≡ false
none_lost None = refl
none_lost (Some x) = refl

-- where nothing is put or dropped nothing is to change
pub nothing_named : (o : List ℕ) (l : LotId) (p q : ℕ) → q ≡ p → IsNamed o l p q [] []
nothing_named o l p q e = record {
  put = sym (ap (λ n. if differs (share_row o l p) (share_row o l n) then share_row o l n else None) e ∙ ap (λ b. if b then share_row o l p else None) (not_differ o l p));
  dropped = sym (ap (λ n. is_some (share_row o l p) && not (is_some (share_row o l n))) e ∙ none_lost (share_row o l p));
}

-- then the change makes the row after of the row before
put_over : (o : List ℕ) (l : LotId) (p q : ℕ) → unless_put (if differs (share_row o l p) (share_row o l q) then share_row o l q else None) (is_some (share_row o l p) && not (is_some (share_row o l q))) (share_row o l p) ≡ share_row o l q
put_over o l p q =
    elim (p == 0) as (λ b. unless_put (if differs (at b p) (share_row o l q) then share_row o l q else None) (is_some (at b p) && not (is_some (share_row o l q))) (at b p) ≡ share_row o l q) [
      | true ↦ elim (q == 0) as (λ c. unless_put (if differs None (at c q) then at c q else None) (is_some (at true p) && not (is_some (at c q))) None ≡ at c q) [ true ↦ refl | false ↦ refl ]
      | false ↦ elim (q == 0) as (λ c. unless_put (if differs (at false p) (at c q) then at c q else None) (is_some (at false p) && not (is_some (at c q))) (at false p) ≡ at c q) [
        | true ↦ refl
        | false ↦ elim (p == q) as (λ d. (p == q) ≡ d → unless_put (if not d then at false q else None) false (at false p) ≡ at false q) [
          | true ↦ λ e. ap (λ n. Some (record { order = o; lot = l; qty = n })) (eqb-true p q e)
          | false ↦ λ e. refl
        ] refl
      ]
    ]
  where
    at : Bool → ℕ → Option ReservedRow
    at b n = if b then None else Some (record { order = o; lot = l; qty = n })

pub named_changed : (o : List ℕ) (l : LotId) (p q : ℕ) (put dropped : List ReservedRow) → IsNamed o l p q put dropped
    → changed (λ (r : ReservedRow). same_text o r.order && is_lot l r.lot) put dropped (share_row o l p) ≡ share_row o l q
named_changed o l p q put dropped h = (λ i. unless_put (h.put i) (h.dropped i) (share_row o l p)) ∙ put_over o l p q

module _ (first : ℤ) (act : Act) (acts : List Act) where
  abbrev pub AreNamed : List ReservedRow → List ReservedRow → Type 0
  AreNamed put dropped = (o : List ℕ) (l : LotId) → IsNamed o l (reserved first acts o l) (reserved first (act ∷ acts) o l) put dropped

  pub names_changed : (c : Change) → AreNamed c.put.reserved c.dropped.reserved → NamesChangedReservations first act acts c
  unfolding tables_of
  names_changed c h = λ o l. ((h o l).put, (h o l).dropped)

  pub reserved_changed : (put dropped : List ReservedRow) → AreNamed put dropped → (o : List ℕ) (l : LotId)
      → changed (λ (r : ReservedRow). same_text o r.order && is_lot l r.lot) put dropped (reserved_row first acts o l) ≡ reserved_row first (act ∷ acts) o l
  reserved_changed put dropped h o l = named_changed o l (reserved first acts o l) (reserved first (act ∷ acts) o l) put dropped (h o l)

-- what is found after an act that names one more
pub put_found : {A B : Type 0} (f : A → B) (b : Bool) (new : A) (rest : Option A) → unless_put (if b then Some (f new) else None) false (option_map f rest) ≡ option_map f (if b then Some new else rest)
put_found f true new rest = refl
put_found f false new rest = refl
