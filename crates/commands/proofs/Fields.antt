-- The fields of sound commands are printable, and tell the values.
use Rattle.commands.proofs.Below.{◌≡◌, ℕ, ◌<◌, ◌^◌, suc, Bool, true, List, [], ◌∷◌, length, refl, ap, ◌∙◌, arith, ℤ, pos, negsuc, ◌&&◌, decimal, signed_decimal, list_all, decimal_injective, signed_decimal_injective, nat_tests, is_gtin, is_lot_text, is_qty, is_counted, is_delta, is_between, QTY_MAX, is_least_days, LotId, bin_kind_word, lines_fields, picking_fields, is_lot_id, is_order_line, is_picking, BinKind, Store, Hold, OrderLine, Picking}
use lib.Signed.{mag}
use Rattle.commands.proofs.Joining.{and_both}
use Rattle.commands.proofs.Printing.{Printable, name_printable, gtin_printable, lot_printable, decimal_printable, small_size}

abbrev pub AllPrintable : List (List ℕ) → Type 0
AllPrintable [] = Unit {0}
AllPrintable (x ∷ xs) = Printable x × AllPrintable xs

pub and_three : (a b c : Bool) → a && b && c ≡ true → (a ≡ true) × (b ≡ true) × (c ≡ true)
and_three a b c e = let p = and_both (a && b) c e in let q = and_both a b p.0 in (q.0, q.1, p.1)

pub and_four : (a b c d : Bool) → a && b && c && d ≡ true → (a ≡ true) × (b ≡ true) × (c ≡ true) × (d ≡ true)
and_four a b c d e = let p = and_both (a && b && c) d e in let q = and_three a b c p.0 in (q.0, q.1, q.2, p.1)

small_qty : (n : ℕ) → is_between 1 QTY_MAX n ≡ true → n < 2 ^ 64
small_qty n e = grind (arith, nat_tests)

small_count : (n : ℕ) → is_between 0 QTY_MAX n ≡ true → n < 2 ^ 64
small_count n e = grind (arith, nat_tests)

small_least : (n : ℕ) → is_least_days n ≡ true → n < 2 ^ 64
small_least n e = grind (arith, nat_tests)

pub least_printable : (n : ℕ) → is_least_days n ≡ true → Printable (decimal n)
least_printable n sound = decimal_printable n (small_least n sound)

pub least_same : (m n : ℕ) → is_least_days m ≡ true → is_least_days n ≡ true → decimal m ≡ decimal n → m ≡ n
least_same m n x y e = decimal_injective m n (small_least m x) (small_least n y) e

pub qty_printable : (n : ℕ) → is_qty n ≡ true → Printable (decimal n)
qty_printable n sound = decimal_printable n (small_qty n sound)

pub count_printable : (n : ℕ) → is_counted n ≡ true → Printable (decimal n)
count_printable n sound = decimal_printable n (small_count n sound)

pub qty_same : (m n : ℕ) → is_qty m ≡ true → is_qty n ≡ true → decimal m ≡ decimal n → m ≡ n
qty_same m n x y e = decimal_injective m n (small_qty m x) (small_qty n y) e

pub count_same : (m n : ℕ) → is_counted m ≡ true → is_counted n ≡ true → decimal m ≡ decimal n → m ≡ n
count_same m n x y e = decimal_injective m n (small_count m x) (small_count n y) e

small_change : (z : ℤ) → is_delta z ≡ true → mag z < 2 ^ 63
small_change (pos n) e = small_size n e
small_change (negsuc n) e = let h = small_size (suc n) e in omega (arith, h)

pub change_same : (m n : ℤ) → is_delta m ≡ true → is_delta n ≡ true → signed_decimal m ≡ signed_decimal n → m ≡ n
change_same m n x y e = signed_decimal_injective m n (small_change m x) (small_change n y) e

pub kind_printable : (k : BinKind) → Printable (bin_kind_word k)
kind_printable Store = refl
kind_printable Hold = refl

pub kind_same : (k l : BinKind) → bin_kind_word k ≡ bin_kind_word l → k ≡ l
kind_same Store Store e = refl
kind_same Store Hold e = let h = ap length e in absurd (omega arith)
kind_same Hold Store e = let h = ap length e in absurd (omega arith)
kind_same Hold Hold e = refl

pub lot_same : (l m : LotId) → l.gtin ≡ m.gtin → l.lot ≡ m.lot → l ≡ m
lot_same l m p q = let f : List ℕ → LotId = λ g. record { gtin = g; lot = l.lot } in let h : List ℕ → LotId = λ t. record { gtin = m.gtin; lot = t } in ap f p ∙ ap h q

pub gtin_of_lot_printable : (l : LotId) → is_lot_id l ≡ true → Printable l.gtin
gtin_of_lot_printable l sound = gtin_printable l.gtin (and_both (is_gtin l.gtin) (is_lot_text l.lot) sound).0

pub lot_of_lot_printable : (l : LotId) → is_lot_id l ≡ true → Printable l.lot
lot_of_lot_printable l sound = lot_printable l.lot (and_both (is_gtin l.gtin) (is_lot_text l.lot) sound).1

pub lines_printable : (ls : List OrderLine) → list_all is_order_line ls ≡ true → AllPrintable (lines_fields ls)
lines_printable [] sound = tt
lines_printable (l ∷ ls) sound =
    let p = and_both (is_order_line l) (list_all is_order_line ls) sound in
    let q = and_both (is_gtin l.gtin) (is_qty l.qty) p.0 in
    (gtin_printable l.gtin q.0, (qty_printable l.qty q.1, lines_printable ls p.1))

line_same : (l m : OrderLine) → l.gtin ≡ m.gtin → l.qty ≡ m.qty → l ≡ m
line_same l m p q = let f : List ℕ → OrderLine = λ g. record { gtin = g; qty = l.qty } in let h : ℕ → OrderLine = λ n. record { gtin = m.gtin; qty = n } in ap f p ∙ ap h q

pub lines_same : (ls ms : List OrderLine) → list_all is_order_line ls ≡ true → list_all is_order_line ms ≡ true → lines_fields ls ≡ lines_fields ms → ls ≡ ms
lines_same [] [] x y e = refl
lines_same [] (m ∷ ms) x y e = cc
lines_same (l ∷ ls) [] x y e = cc
lines_same (l ∷ ls) (m ∷ ms) x y e =
    let p = and_both (is_order_line l) (list_all is_order_line ls) x in
    let q = and_both (is_order_line m) (list_all is_order_line ms) y in
    let gtins : l.gtin ≡ m.gtin = cc in
    let digits : decimal l.qty ≡ decimal m.qty = cc in
    let others : lines_fields ls ≡ lines_fields ms = cc in
    let same = line_same l m gtins (qty_same l.qty m.qty (and_both (is_gtin l.gtin) (is_qty l.qty) p.0).1 (and_both (is_gtin m.gtin) (is_qty m.qty) q.0).1 digits) in
    cc (same, lines_same ls ms p.1 q.1 others)

pub picking_printable : (p : Picking) → is_picking p ≡ true → AllPrintable (picking_fields p)
picking_printable p sound =
    let s = and_four _ (is_lot_id p.lot) _ (is_qty p.qty) sound in
    (name_printable p.order s.0, (gtin_of_lot_printable p.lot s.1, (lot_of_lot_printable p.lot s.1, (name_printable p.bin s.2, (qty_printable p.qty s.3, tt)))))
