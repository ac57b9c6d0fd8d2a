-- No act has a line that is longer than may be read.
use Rattle.applies.proofs.Words.{◌≡◌, ℕ, ◌+◌, ◌*◌, ◌≤◌, ◌/◌, ◌%◌, zero, suc, Bool, true, List, [], ◌∷◌, ◌++◌, length, length-append, refl, ap, arith, lit<, eqb-true, ℤ, pos, negsuc, ◌&&◌, ◌==◌, if◌then◌else◌, decimal, codes, join_with_byte, list_all, signed_decimal, length-decimal-le, length-map, nat_tests, is_between, is_name, is_title, is_gtin, is_lot_text, is_delta, QTY_MAX, is_qty, is_counted, is_line_no, is_least_days, LotId, last_digits, day_text, date_of, is_day, has_order_lines, bin_kind_word, is_sound, is_sound_key, is_lot_id, is_order_line, are_lines, is_new_order, is_picking, key_text, spelling, fields, lines_fields, order_fields, BinKind, HoldBin, OrderLine, NewOrder, Picking, Key, Plain, Command, Item, Bin, Receive, Move, Count, Adjust, Order, Cancel, Pick, Unpick, Ship, Hold, Release, Recall, OpenDay, Least, Urgent, and_both, long_decimal, line_room, Act, next_number, IsHistory, today, tabbed, act_line}
use Rattle.commands.specs.declared.command.BinKind.TheVariants.{Store}
use Rattle.commands.specs.declared.key.Key.TheVariants.{Line}
use Rattle.applies.proofs.LineFields.{line_parts}
use Rattle.applies.proofs.Fronts.{small}

-- ---- fields

last_length : (n x : ℕ) → length (last_digits n x) ≡ n
last_length zero x = refl
last_length (suc n) x =
    let a = length-append (last_digits n (x / 10)) ((48 + x % 10) ∷ []) in
    let k = last_length n (x / 10) in
    omega (arith, a, k)

day_length : (day : ℤ) → length (day_text day) ≡ 10
day_length day =
    let d = date_of day in
    let a = length-append (last_digits 4 d.year ++ 45 ∷ last_digits 2 d.month) (45 ∷ last_digits 2 d.day) in
    let b = length-append (last_digits 4 d.year) (45 ∷ last_digits 2 d.month) in
    omega (arith, a, b, last_length 4 d.year, last_length 2 d.month, last_length 2 d.day)

at_most : (low high n : ℕ) (b : Bool) → is_between low high n && b ≡ true → n ≤ high
at_most low high n b e = grind (arith, nat_tests)

between : (low high n : ℕ) → is_between low high n ≡ true → n ≤ high
between low high n e = grind (arith, nat_tests)

name_length : (s : List ℕ) → is_name s ≡ true → length s ≤ 20
name_length s e = at_most 1 20 (length s) _ e

lot_length : (s : List ℕ) → is_lot_text s ≡ true → length s ≤ 20
lot_length s e = at_most 1 20 (length s) _ e

title_length : (s : List ℕ) → is_title s ≡ true → length s ≤ 40
title_length s e = at_most 1 40 (length s) _ (and_both _ _ e).0

gtin_length : (s : List ℕ) → is_gtin s ≡ true → length s ≡ 14
gtin_length s e = eqb-true (length s) 14 (first_of (length s == 14) _ _ _ e)
  where
    first_of : (a b c d : Bool) → a && b && c && d ≡ true → a ≡ true
    first_of a b c d e = (and_both a b (and_both (a && b) c (and_both (a && b && c) d e).0).0).0

quantity_length : (n : ℕ) → n ≤ 1_000_000 → length (decimal n) ≤ 7
quantity_length n low = length-decimal-le 7 n (lit< tt) (omega (arith, low)) (omega (arith, low))

delta_length : (z : ℤ) → is_delta z ≡ true → length (signed_decimal z) ≤ 8
delta_length (pos n) e = let k = quantity_length n (between 1 QTY_MAX n e) in omega (arith, k)
delta_length (negsuc n) e = let k = quantity_length (suc n) (between 1 QTY_MAX (suc n) e) in omega (arith, k)

kind_length : (k : BinKind) → length (bin_kind_word k) ≤ 5
kind_length Store = omega arith
kind_length HoldBin = omega arith

-- ---- a spelling

-- the bytes of the fields, and one between each two
abbrev size : List (List ℕ) → ℕ
size [] = 0
size (f ∷ fs) = length f + 1 + size fs

joined_length : (fs : List (List ℕ)) → length (join_with_byte 10 fs) ≤ size fs
joined_length [] = omega arith
joined_length (f ∷ []) = omega arith
joined_length (f ∷ h ∷ fs) =
    let a = length-append f (10 ∷ join_with_byte 10 (h ∷ fs)) in
    let k = joined_length (h ∷ fs) in
    omega (arith, a, k)

lines_size : (ls : List OrderLine) → list_all is_order_line ls ≡ true → size (lines_fields ls) ≤ 23 * length ls
lines_size [] sound = omega arith
lines_size (l ∷ ls) sound =
    let p = and_both (is_order_line l) (list_all is_order_line ls) sound in
    let q = and_both (is_gtin l.gtin) (is_qty l.qty) p.0 in
    let g = gtin_length l.gtin q.0 in
    let d = quantity_length l.qty (between 1 QTY_MAX l.qty q.1) in
    let k = lines_size ls p.1 in
    omega (arith, g, d, k)

order_size : (o : NewOrder) → is_new_order o ≡ true → size (order_fields o) ≤ 4_662
order_size o sound =
    let p = and_both (is_name o.order && is_title o.customer) (are_lines o.lines) sound in
    let q = and_both (is_name o.order) (is_title o.customer) p.0 in
    let r = and_both (has_order_lines o.lines) (list_all is_order_line o.lines) p.1 in
    let n = name_length o.order q.0 in
    let t = title_length o.customer q.1 in
    let k = lines_size o.lines r.1 in
    let m = between 1 200 (length o.lines) r.0 in
    omega (arith, n, t, k, m)

-- the bytes of a lot's item and text
lot_size : (l : LotId) → is_lot_id l ≡ true → length l.gtin + length l.lot ≤ 34
lot_size l sound =
    let p = and_both (is_gtin l.gtin) (is_lot_text l.lot) sound in
    let g = gtin_length l.gtin p.0 in
    let t = lot_length l.lot p.1 in
    omega (arith, g, t)

picking_size : (p : Picking) → is_picking p ≡ true → length p.order + (length p.lot.gtin + length p.lot.lot) + length p.bin + length (decimal p.qty) ≤ 81
picking_size p sound =
    let a = and_both (is_name p.order && is_lot_id p.lot && is_name p.bin) (is_qty p.qty) sound in
    let b = and_both (is_name p.order && is_lot_id p.lot) (is_name p.bin) a.0 in
    let c = and_both (is_name p.order) (is_lot_id p.lot) b.0 in
    let n = name_length p.order c.0 in
    let l = lot_size p.lot c.1 in
    let m = name_length p.bin b.1 in
    let d = quantity_length p.qty (between 1 QTY_MAX p.qty a.1) in
    omega (arith, n, l, m, d)

fields_size : (c : Command) → is_sound c ≡ true → size (fields c) ≤ 4_669
fields_size (Item i) sound =
    let p = and_both (is_gtin i.gtin) _ sound in
    let g = gtin_length i.gtin p.0 in
    let t = title_length i.name p.1 in
    omega (arith, g, t)
fields_size (Bin b) sound = let n = name_length b.bin sound in let k = kind_length b.kind in omega (arith, n, k)
fields_size (Receive r) sound =
    let a = and_both (is_lot_id r.lot && is_day r.expiry && is_name r.bin) (is_qty r.qty) sound in
    let b = and_both (is_lot_id r.lot && is_day r.expiry) (is_name r.bin) a.0 in
    let c = and_both (is_lot_id r.lot) (is_day r.expiry) b.0 in
    let l = lot_size r.lot c.0 in
    let n = name_length r.bin b.1 in
    let d = quantity_length r.qty (between 1 QTY_MAX r.qty a.1) in
    let e = day_length r.expiry in
    omega (arith, l, n, d, e)
fields_size (Move m) sound =
    let a = and_both (is_lot_id m.lot && is_name m.from && is_name m.to) (is_qty m.qty) sound in
    let b = and_both (is_lot_id m.lot && is_name m.from) (is_name m.to) a.0 in
    let c = and_both (is_lot_id m.lot) (is_name m.from) b.0 in
    let l = lot_size m.lot c.0 in
    let n = name_length m.from c.1 in
    let o = name_length m.to b.1 in
    let d = quantity_length m.qty (between 1 QTY_MAX m.qty a.1) in
    omega (arith, l, n, o, d)
fields_size (Count k) sound =
    let a = and_both (is_lot_id k.lot && is_name k.bin) (is_counted k.qty) sound in
    let b = and_both (is_lot_id k.lot) (is_name k.bin) a.0 in
    let l = lot_size k.lot b.0 in
    let n = name_length k.bin b.1 in
    let d = quantity_length k.qty (between 0 QTY_MAX k.qty a.1) in
    omega (arith, l, n, d)
fields_size (Adjust k) sound =
    let a = and_both (is_lot_id k.lot && is_name k.bin) (is_delta k.change) sound in
    let b = and_both (is_lot_id k.lot) (is_name k.bin) a.0 in
    let l = lot_size k.lot b.0 in
    let n = name_length k.bin b.1 in
    let d = delta_length k.change a.1 in
    omega (arith, l, n, d)
fields_size (Order o) sound = let k = order_size o sound in omega (arith, k)
fields_size (Urgent o) sound = let k = order_size o sound in omega (arith, k)
fields_size (Cancel o) sound = let n = name_length o sound in omega (arith, n)
fields_size (Pick p) sound = let k = picking_size p sound in omega (arith, k)
fields_size (Unpick p) sound = let k = picking_size p sound in omega (arith, k)
fields_size (Ship o) sound = let n = name_length o sound in omega (arith, n)
fields_size (Hold l) sound = let k = lot_size l sound in omega (arith, k)
fields_size (Release l) sound = let k = lot_size l sound in omega (arith, k)
fields_size (Recall l) sound = let k = lot_size l sound in omega (arith, k)
fields_size (OpenDay day) sound = let k = day_length day in omega (arith, k)
fields_size (Least l) sound =
    let p = and_both (is_gtin l.gtin) (is_least_days l.days) sound in
    let g = gtin_length l.gtin p.0 in
    let low = between 0 3_650 l.days p.1 in
    let d = quantity_length l.days (omega (arith, low)) in
    omega (arith, g, d)

spelling_length : (c : Command) → is_sound c ≡ true → length (spelling c) ≤ 4_669
unfolding spelling
spelling_length c sound = let a = joined_length (fields c) in let b = fields_size c sound in omega (arith, a, b)

-- ---- a line

key_length : (k : Key) → is_sound_key k ≡ true → length (key_text k) ≤ 27
key_length (Plain name) sound = let a = length-append (codes "K/") name in let n = name_length name sound in omega (arith, a, n)
key_length (Line d n) sound =
    let s = and_both (is_name d) (is_line_no n) sound in
    line_room (key_text (Line d n)) d n refl s.0 (between 1 9_999 n s.1)

pub line_length : (first begun : ℤ) (act : Act) (older : List Act) → IsHistory first (act ∷ older) → length (act_line begun act older) ≤ 8_192
line_length first begun act older h =
    let n = next_number older in
    let day = day_text (today begun (act ∷ older)) in
    let k = key_text act.key in
    let s = spelling act.command in
    let is = ap length (line_parts n (today begun (act ∷ older)) k s) in
    let a = length-append (decimal n) (9 ∷ (day ++ 9 ∷ (k ++ 9 ∷ (tabbed s ++ 10 ∷ [])))) in
    let b = length-append day (9 ∷ (k ++ 9 ∷ (tabbed s ++ 10 ∷ []))) in
    let c = length-append k (9 ∷ (tabbed s ++ 10 ∷ [])) in
    let d = length-append (tabbed s) (10 ∷ []) in
    let t = length-map s (λ b. if b == 10 then 9 else b) in
    let number = long_decimal n (small first act older h) in
    let ten = day_length (today begun (act ∷ older)) in
    let key = key_length act.key h.1.sound.key in
    let spelled = spelling_length act.command h.1.sound.command in
    omega (arith, is, a, b, c, d, t, number, ten, key, spelled)
