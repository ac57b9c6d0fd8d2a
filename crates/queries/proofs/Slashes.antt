-- What stands before a slash, and behind it, as a loop goes through a text; and of the reference of a receipt.
use Rattle.queries.proofs.Words.{◌≡◌, ◌∙◌, ap, sym, ℕ, ◌+◌, true, false, List, [], ◌∷◌, ◌++◌, length, take, drop, if◌then◌else◌, append_assoc, refl, and_both, decimal, ◌==◌, is_name}
use Rattle.std.proofs.Common.{get_or, eqb-true, ne_eqb, arith, ◌<◌}
use Rattle.std.specs.List.{list_all}
use Rattle.std.specs.Prelude.{nat_le, ◌^◌}
use Rattle.std.proofs.lemmas.Bool.Decides.{nat_tests}
use Rattle.std.proofs.lemmas.List.{at_drop_more, take_more}
use Rattle.values.specs.Values.{is_between, is_line_no, is_name_char, LINE_MAX, NAME_MAX}
use Rattle.commands.specs.declared.key.Key.TheVariants.{Line}
use Rattle.machine.specs.Cards.{delivery_note}
use Rattle.queries.specs.Traced.{before_slash, behind_slash}

pub behind_later : (s : List ℕ) (i : ℕ) → i < length s → (get_or s i 0 ≡ 47 → ⊥) → behind_slash (drop i s) ≡ behind_slash s → behind_slash (drop (i + 1) s) ≡ behind_slash s
behind_later s i h n inv =
    let rest = drop (i + 1) s in
    sym (at_drop_more behind_slash s i 0 h ∙ ap (λ b. if b then rest else behind_slash rest) (ne_eqb (get_or s i 0) 47 n)) ∙ inv

pub before_later : (s : List ℕ) (i : ℕ) → i < length s → (get_or s i 0 ≡ 47 → ⊥) → take i s ++ before_slash (drop i s) ≡ before_slash s → take (i + 1) s ++ before_slash (drop (i + 1) s) ≡ before_slash s
before_later s i h n inv =
    let x = get_or s i 0 in
    let rest = before_slash (drop (i + 1) s) in
    let here : before_slash (drop i s) ≡ x ∷ rest = at_drop_more before_slash s i 0 h ∙ ap (λ b. if b then [] else x ∷ rest) (ne_eqb x 47 n) in
    ap (λ t. t ++ rest) (take_more s i 0 h) ∙ append_assoc (take i s) (x ∷ []) rest ∙ ap (λ t. take i s ++ t) (sym here) ∙ inv

-- a name has no slash
no_slash : (c : ℕ) → is_name_char c ≡ true → (c == 47) ≡ false
no_slash c e = elim (c == 47) as (λ b. (c == 47) ≡ b → b ≡ false) [
  | true ↦ λ t. let is : c ≡ 47 = eqb-true c 47 t in let f : false ≡ true = ap is_name_char (sym is) ∙ e in cc
  | false ↦ λ t. refl
] refl

front : (d rest : List ℕ) → list_all is_name_char d ≡ true → before_slash (d ++ (47 ∷ rest)) ≡ d
front [] rest e = refl
front (c ∷ d) rest e =
    let two = and_both (is_name_char c) (list_all is_name_char d) e in
    ap (λ b. if b then [] else c ∷ before_slash (d ++ (47 ∷ rest))) (no_slash c two.0) ∙ ap (λ t. c ∷ t) (front d rest two.1)

back : (d rest : List ℕ) → list_all is_name_char d ≡ true → behind_slash (d ++ (47 ∷ rest)) ≡ rest
back [] rest e = refl
back (c ∷ d) rest e =
    let two = and_both (is_name_char c) (list_all is_name_char d) e in
    ap (λ b. if b then d ++ (47 ∷ rest) else behind_slash (d ++ (47 ∷ rest))) (no_slash c two.0) ∙ back d rest two.1

module _ (d : List ℕ) (n : ℕ) (sound : is_name d ≡ true) where
  chars : list_all is_name_char d ≡ true
  chars = (and_both (is_between 1 NAME_MAX (length d)) (list_all is_name_char d) sound).1

  grouped : delivery_note (Line d n) ≡ d ++ (47 ∷ decimal n)
  grouped = append_assoc d (47 ∷ []) (decimal n)

  pub note_front : before_slash (delivery_note (Line d n)) ≡ d
  note_front = ap before_slash grouped ∙ front d (decimal n) chars

  pub note_back : behind_slash (delivery_note (Line d n)) ≡ decimal n
  note_back = ap behind_slash grouped ∙ back d (decimal n) chars

pub small_line : (n : ℕ) → is_line_no n ≡ true → n < 2 ^ 64
small_line n e = let high = (and_both (nat_le 1 n) (nat_le n LINE_MAX) e).1 in grind (arith, nat_tests)
