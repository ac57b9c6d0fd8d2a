-- The orders of keys.
use Rattle.std.proofs.Common.{◌≡◌, ℕ, Bool, ap, ◌∙◌, refl, arith, List, Ordering, Less, Equal, Greater, is_eq}
use Rattle.std.specs.Prelude.{◌&&◌, nat_eq, bytes_eq}
use Rattle.std.specs.Ordering.{nat_cmp, ordering_then}
use Rattle.std.specs.Cmp.{IsTotalOrder}
use Rattle.std.proofs.lemmas.Bool.Decides.{nat_tests}
use Rattle.std.proofs.lemmas.Cmp.{nat_list_cmp_total, on_total, then_total}
use Rattle.std.proofs.lemmas.Map.Text.{is_eq-slice_cmp}
use Rattle.whole_tables.specs.Words.{LotId, same_lot_id}
use Rattle.whole_tables.specs.Same.{one_cmp, text_cmp, lot_cmp, pair_cmp}

-- both parts are equal
then_same : (r s : Ordering) → is_eq (ordering_then r s) ≡ is_eq r && is_eq s
then_same Less s = refl
then_same Equal s = refl
then_same Greater s = refl

pub one_total : IsTotalOrder one_cmp
one_total = record { antisymm = λ a b. refl; trans = λ a b c e f. e; congr = λ a b c e. refl }

pub text_total : IsTotalOrder text_cmp
text_total = nat_list_cmp_total

pub text_same : (a b : List ℕ) → is_eq (text_cmp a b) ≡ bytes_eq a b
text_same = is_eq-slice_cmp

pub number_same : (a b : ℕ) → is_eq (nat_cmp a b) ≡ nat_eq a b
number_same a b = grind (arith, nat_tests)

pub lot_total : IsTotalOrder lot_cmp
lot_total = then_total (on_total (λ (l : LotId). l.gtin) text_total) (on_total (λ (l : LotId). l.lot) text_total)

pub lot_same : (a b : LotId) → is_eq (lot_cmp a b) ≡ same_lot_id a b
lot_same a b = then_same (text_cmp a.gtin b.gtin) (text_cmp a.lot b.lot) ∙ rw (text_same a.gtin b.gtin, text_same a.lot b.lot) refl

pub pair_total : {K L : Type 0} (R : K → K → Ordering) (S : L → L → Ordering) → IsTotalOrder R → IsTotalOrder S → IsTotalOrder (pair_cmp R S)
pair_total {K} {L} R S p q = then_total (on_total (λ (k : K × L). k.0) p) (on_total (λ (k : K × L). k.1) q)

pub pair_same : {K L : Type 0} (R : K → K → Ordering) (S : L → L → Ordering) (same : K → K → Bool) (same_too : L → L → Bool)
    → ((a b : K) → is_eq (R a b) ≡ same a b) → ((a b : L) → is_eq (S a b) ≡ same_too a b) → (a b : K × L) → is_eq (pair_cmp R S a b) ≡ same a.0 b.0 && same_too a.1 b.1
pair_same R S same same_too p q a b = then_same (R a.0 b.0) (S a.1 b.1) ∙ ap (λ t. t && is_eq (S a.1 b.1)) (p a.0 b.0) ∙ ap (λ t. same a.0 b.0 && t) (q a.1 b.1)
