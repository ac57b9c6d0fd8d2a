-- The rows that are put and dropped under the keys that postings name turn each look-up before them into the one after them.
use Rattle.rules.proofs.Words.{◌≡◌, ℕ, Bool, true, false, ◌&&◌, not, List, [], ◌∷◌, refl, ap, sym, ◌∙◌, ◌==◌, ◌||◌, if◌then◌else◌, find, Option, Some, None, is_some, list_any, cons_option, list_any-append, if_any, changed, unless_put, Shelf, units_at, row_put, rows_put, row_gone, rows_gone}
use Rattle.rules.proofs.rows.AddedRows.{find_appended}
use Rattle.rules.proofs.rows.Following.{IsShelf, look, Tells, units_told, AllNeeded}

either_put : {R : Type 0} (x : Option R) (b : Bool) → unless_put x false (if b then x else None) ≡ x
either_put None true = refl
either_put None false = refl
either_put (Some r) b = refl

put_or_gone : {R : Type 0} (x y : Option R) → unless_put x (not (is_some x) && is_some y) y ≡ x
put_or_gone (Some r) y = refl
put_or_gone None None = refl
put_or_gone None (Some r) = refl

once_more : (b g : Bool) → g || (b && g) ≡ g
once_more true true = refl
once_more true false = refl
once_more false true = refl
once_more false false = refl

module _ {K R : Type 0} (shelf : Shelf K R) (is : IsShelf shelf) (needed : K → Bool) (f h : K → ℕ) (before after : List R)
    (was : Tells shelf is needed f before) (will : Tells shelf is needed h after) where
  abbrev pub named : K → List K → Bool
  named m ks = list_any (shelf.same m) ks

  abbrev at : K → R → Bool
  at m r = shelf.same m (shelf.key r)

  abbrev old : K → Option R
  old = look shelf is needed f

  abbrev new : K → Option R
  new = look shelf is needed h

  abbrev gone : K → Bool
  gone m = not (is_some (new m)) && is_some (old m)

  module _ (m k : K) where
    key_of : (t : Bool) (q : ℕ) → shelf.same m k ≡ t → at m (shelf.row k q) ≡ t
    key_of t q e = ap (shelf.same m) (is.key_is k q) ∙ e

    put_here : (n : ℕ) → shelf.same m k ≡ true → n ≡ h k → find (at m) (row_put shelf k n) ≡ new m
    put_here n t e =
        elim (n == 0) as (λ z. find (at m) (if z then [] else shelf.row k n ∷ []) ≡ (if z then None else Some (shelf.row k n))) [ true ↦ refl | false ↦ ap (λ b. if b then Some (shelf.row k n) else None) (key_of true n t) ]
        ∙ ap (λ q. if_any q (shelf.row k q)) e ∙ ap new (sym (is.same_is m k t))

    put_there : (n : ℕ) → shelf.same m k ≡ false → find (at m) (row_put shelf k n) ≡ None
    put_there n t = elim (n == 0) as (λ z. find (at m) (if z then [] else shelf.row k n ∷ []) ≡ None) [ true ↦ refl | false ↦ ap (λ b. if b then Some (shelf.row k n) else None) (key_of false n t) ]

    gone_here : (n q : ℕ) → shelf.same m k ≡ true → list_any (at m) (if n == 0 then cons_option (if_any q (shelf.row k q)) [] else []) ≡ not (is_some (if_any n (shelf.row k n))) && is_some (if_any q (shelf.row k q))
    gone_here n q t = by_units (n == 0) (q == 0)
      where
        by_units : (z y : Bool) → list_any (at m) (if z then cons_option (if y then None else Some (shelf.row k q)) [] else []) ≡ not (is_some (if z then None else Some (shelf.row k n))) && is_some (if y then None else Some (shelf.row k q))
        by_units true true = refl
        by_units true false = ap (λ b. b || false) (key_of true q t)
        by_units false true = refl
        by_units false false = refl

    gone_there : (n q : ℕ) → shelf.same m k ≡ false → list_any (at m) (if n == 0 then cons_option (if_any q (shelf.row k q)) [] else []) ≡ false
    gone_there n q t = by_units (n == 0) (q == 0)
      where
        by_units : (z y : Bool) → list_any (at m) (if z then cons_option (if y then None else Some (shelf.row k q)) [] else []) ≡ false
        by_units true true = refl
        by_units true false = ap (λ b. b || false) (key_of false q t)
        by_units false y = refl

  put_is : (m : K) (ks : List K) → AllNeeded shelf is needed ks → find (at m) (rows_put shelf ks after) ≡ (if named m ks then new m else None)
  put_is m [] need = refl
  put_is m (k ∷ ks) need =
      let n = units_at shelf k after in
      let e : n ≡ h k = units_told shelf is needed h after will k need.0 in
      find_appended (at m) (row_put shelf k n) (rows_put shelf ks after)
      ∙ ap (unless_put (find (at m) (row_put shelf k n)) false) (put_is m ks need.1)
      ∙ elim (shelf.same m k) as (λ t. shelf.same m k ≡ t → unless_put (find (at m) (row_put shelf k n)) false (if named m ks then new m else None) ≡ (if t || named m ks then new m else None)) [
        | true ↦ λ t. ap (λ x. unless_put x false (if named m ks then new m else None)) (put_here m k n t e) ∙ either_put (new m) (named m ks)
        | false ↦ λ t. ap (λ x. unless_put x false (if named m ks then new m else None)) (put_there m k n t)
      ] refl

  gone_is : (m : K) (ks : List K) → AllNeeded shelf is needed ks → list_any (at m) (rows_gone shelf ks before after) ≡ named m ks && gone m
  gone_is m [] need = refl
  gone_is m (k ∷ ks) need =
      let n = units_at shelf k after in
      let e : n ≡ h k = units_told shelf is needed h after will k need.0 in
      let found : list_any (at m) (row_gone shelf k before after) ≡ list_any (at m) (if h k == 0 then cons_option (old k) [] else []) =
      (λ i. list_any (at m) (if e i == 0 then cons_option (was.found k need.0 i) [] else [])) in
      list_any-append (at m) (row_gone shelf k before after) (rows_gone shelf ks before after)
      ∙ (λ i. found i || gone_is m ks need.1 i)
      ∙ elim (shelf.same m k) as (λ t. shelf.same m k ≡ t → list_any (at m) (if h k == 0 then cons_option (old k) [] else []) || (named m ks && gone m) ≡ (t || named m ks) && gone m) [
        | true ↦ λ t. ap (λ x. x || (named m ks && gone m)) (gone_here m k (h k) (f k) t ∙ ap gone (sym (is.same_is m k t))) ∙ once_more (named m ks) (gone m)
        | false ↦ λ t. ap (λ x. x || (named m ks && gone m)) (gone_there m k (h k) (f k) t)
      ] refl

  -- where nothing changes under other keys, the change makes the look-up after it
  pub changed_follows : (ks : List K) → AllNeeded shelf is needed ks → ((m : K) → named m ks ≡ false → old m ≡ new m) → (m : K) → changed (at m) (rows_put shelf ks after) (rows_gone shelf ks before after) (old m) ≡ new m
  changed_follows ks need others m =
      (λ i. unless_put (put_is m ks need i) (gone_is m ks need i) (old m))
      ∙ elim (named m ks) as (λ b. named m ks ≡ b → unless_put (if b then new m else None) (b && gone m) (old m) ≡ new m) [
        | true ↦ λ e. put_or_gone (new m) (old m)
        | false ↦ λ e. others m e
      ] refl
