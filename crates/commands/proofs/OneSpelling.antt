-- Two sound commands with one spelling are one command.
use Rattle.commands.proofs.Below.{◌≡◌, ℕ, ◌+◌, ◌*◌, true, false, List, [], ◌∷◌, refl, ap, ◌∙◌, arith, ℤ, pos, negsuc, ◌&&◌, ◌==◌, codes, decimal, IsTrue, nat_le, signed_decimal, list_all, nat_tests, is_name, is_title, is_gtin, is_qty, is_counted, is_delta, is_least_days, is_day, is_business_day, day_text, LotId, has_order_lines, bin_kind_word, is_sound, is_lot_id, is_order_line, are_lines, is_new_order, is_picking, BinKind, OrderLine, Picking, Command, Item, Bin, Receive, Move, Count, Adjust, Order, Cancel, Pick, Unpick, Ship, Release, Recall, OpenDay, Least, Urgent}
use Rattle.commands.specs.Spelling.{fields, spelling, lines_fields, order_fields, picking_fields}
use Rattle.commands.specs.declared.command.NewItem.{NewItem}
use Rattle.commands.specs.declared.command.NewBin.{NewBin}
use Rattle.commands.specs.declared.command.Receipt.{Receipt}
use Rattle.commands.specs.declared.command.Movement.{Movement}
use Rattle.commands.specs.declared.command.Recount.{Recount}
use Rattle.commands.specs.declared.command.Adjustment.{Adjustment}
use Rattle.commands.specs.declared.command.NewOrder.{NewOrder}
use Rattle.commands.specs.declared.command.NewLeast.{NewLeast}
use Rattle.commands.specs.declared.command.Command.TheVariants.{Hold}
use Rattle.commands.proofs.Joining.{AllLack, PartsLack, lacks_failing, joined_same, and_both}
use Rattle.commands.proofs.Printing.{Printable, is_printable, name_printable, title_printable, gtin_printable, signed_printable, day_printable}
use Rattle.label.proofs.DayTexts.{day_text_injective}
use Rattle.commands.proofs.Fields.{AllPrintable, and_three, and_four, qty_printable, count_printable, least_printable, least_same, kind_printable, gtin_of_lot_printable, lot_of_lot_printable, lines_printable, picking_printable, qty_same, count_same, change_same, kind_same, lot_same, lines_same}

-- each field of a sound command is printable
lot_fields_printable : (w : List ℕ) (l : LotId) → Printable w → is_lot_id l ≡ true → AllPrintable (w ∷ l.gtin ∷ l.lot ∷ [])
lot_fields_printable w l upper sound = (upper, (gtin_of_lot_printable l sound, (lot_of_lot_printable l sound, tt)))

order_printable : (o : NewOrder) → is_new_order o ≡ true → AllPrintable (order_fields o)
order_printable o sound =
    let s = and_three (is_name o.order) (is_title o.customer) (are_lines o.lines) sound in
    (name_printable o.order s.0, (title_printable o.customer s.1, lines_printable o.lines (and_both (has_order_lines o.lines) (list_all is_order_line o.lines) s.2).1))

-- at least one part, and each is printable
abbrev pub PartsPrintable : List (List ℕ) → Type 0
PartsPrintable [] = ⊥
PartsPrintable (x ∷ xs) = Printable x × AllPrintable xs

pub fields_printable : (a : Command) → is_sound a ≡ true → PartsPrintable (fields a)
fields_printable (Item i) sound =
    let s = and_both (is_gtin i.gtin) (is_title i.name) sound in
    (refl, (gtin_printable i.gtin s.0, (title_printable i.name s.1, tt)))
fields_printable (Bin b) sound = (refl, (name_printable b.bin sound, (kind_printable b.kind, tt)))
fields_printable (Receive r) sound =
    let s = and_four (is_lot_id r.lot) (is_day r.expiry) (is_name r.bin) (is_qty r.qty) sound in
    (refl, (gtin_of_lot_printable r.lot s.0, (lot_of_lot_printable r.lot s.0, (day_printable r.expiry, (name_printable r.bin s.2, (qty_printable r.qty s.3, tt))))))
fields_printable (Move m) sound =
    let s = and_four (is_lot_id m.lot) (is_name m.from) (is_name m.to) (is_qty m.qty) sound in
    (refl, (gtin_of_lot_printable m.lot s.0, (lot_of_lot_printable m.lot s.0, (name_printable m.from s.1, (name_printable m.to s.2, (qty_printable m.qty s.3, tt))))))
fields_printable (Count c) sound =
    let s = and_three (is_lot_id c.lot) (is_name c.bin) (is_counted c.qty) sound in
    (refl, (gtin_of_lot_printable c.lot s.0, (lot_of_lot_printable c.lot s.0, (name_printable c.bin s.1, (count_printable c.qty s.2, tt)))))
fields_printable (Adjust a) sound =
    let s = and_three (is_lot_id a.lot) (is_name a.bin) (is_delta a.change) sound in
    (refl, (gtin_of_lot_printable a.lot s.0, (lot_of_lot_printable a.lot s.0, (name_printable a.bin s.1, (signed_printable a.change s.2, tt)))))
fields_printable (Order o) sound = (refl, order_printable o sound)
fields_printable (Urgent o) sound = (refl, order_printable o sound)
fields_printable (Cancel o) sound = (refl, (name_printable o sound, tt))
fields_printable (Pick p) sound = (refl, picking_printable p sound)
fields_printable (Unpick p) sound = (refl, picking_printable p sound)
fields_printable (Ship o) sound = (refl, (name_printable o sound, tt))
fields_printable (Hold l) sound = lot_fields_printable (codes "HOLD") l refl sound
fields_printable (Release l) sound = lot_fields_printable (codes "RELEASE") l refl sound
fields_printable (Recall l) sound = lot_fields_printable (codes "RECALL") l refl sound
fields_printable (OpenDay day) sound = (refl, (day_printable day, tt))
fields_printable (Least l) sound =
    let s = and_both (is_gtin l.gtin) (is_least_days l.days) sound in
    (refl, (gtin_printable l.gtin s.0, (least_printable l.days s.1, tt)))

-- no printable text holds a line feed
all_lack : (xs : List (List ℕ)) → AllPrintable xs → AllLack 10 xs
all_lack [] p = tt
all_lack (x ∷ xs) p = (lacks_failing 10 is_printable refl x p.0, all_lack xs p.1)

parts_lack : (xs : List (List ℕ)) → PartsPrintable xs → PartsLack 10 xs
parts_lack [] p = p
parts_lack (x ∷ xs) p = (lacks_failing 10 is_printable refl x p.0, all_lack xs p.1)

-- a business day is a day
business_is_day : (day : ℤ) → is_business_day day ≡ true → is_day day ≡ true
business_is_day (pos n) e = within n e
  where
    within : (n : ℕ) → nat_le 10_957 n && nat_le n 84_005 ≡ true → nat_le n 102_267 ≡ true
    within n e = grind (arith, nat_tests)
business_is_day (negsuc n) e = cc

-- values that agree in each field are one
item_same : (x y : NewItem) → x.gtin ≡ y.gtin → x.name ≡ y.name → x ≡ y
item_same x y p q =
    let f0 : List ℕ → NewItem = λ v. record { gtin = v; name = x.name } in
    let f1 : List ℕ → NewItem = λ v. record { gtin = y.gtin; name = v } in
    ap f0 p ∙ ap f1 q

bin_same : (x y : NewBin) → x.bin ≡ y.bin → x.kind ≡ y.kind → x ≡ y
bin_same x y p q =
    let f0 : List ℕ → NewBin = λ v. record { bin = v; kind = x.kind } in
    let f1 : BinKind → NewBin = λ v. record { bin = y.bin; kind = v } in
    ap f0 p ∙ ap f1 q

receipt_same : (x y : Receipt) → x.lot ≡ y.lot → x.expiry ≡ y.expiry → x.bin ≡ y.bin → x.qty ≡ y.qty → x ≡ y
receipt_same x y p q r s =
    let f0 : LotId → Receipt = λ v. record { lot = v; expiry = x.expiry; bin = x.bin; qty = x.qty } in
    let f1 : ℤ → Receipt = λ v. record { lot = y.lot; expiry = v; bin = x.bin; qty = x.qty } in
    let f2 : List ℕ → Receipt = λ v. record { lot = y.lot; expiry = y.expiry; bin = v; qty = x.qty } in
    let f3 : ℕ → Receipt = λ v. record { lot = y.lot; expiry = y.expiry; bin = y.bin; qty = v } in
    ap f0 p ∙ ap f1 q ∙ ap f2 r ∙ ap f3 s

movement_same : (x y : Movement) → x.lot ≡ y.lot → x.from ≡ y.from → x.to ≡ y.to → x.qty ≡ y.qty → x ≡ y
movement_same x y p q r s =
    let f0 : LotId → Movement = λ v. record { lot = v; from = x.from; to = x.to; qty = x.qty } in
    let f1 : List ℕ → Movement = λ v. record { lot = y.lot; from = v; to = x.to; qty = x.qty } in
    let f2 : List ℕ → Movement = λ v. record { lot = y.lot; from = y.from; to = v; qty = x.qty } in
    let f3 : ℕ → Movement = λ v. record { lot = y.lot; from = y.from; to = y.to; qty = v } in
    ap f0 p ∙ ap f1 q ∙ ap f2 r ∙ ap f3 s

recount_same : (x y : Recount) → x.lot ≡ y.lot → x.bin ≡ y.bin → x.qty ≡ y.qty → x ≡ y
recount_same x y p q r =
    let f0 : LotId → Recount = λ v. record { lot = v; bin = x.bin; qty = x.qty } in
    let f1 : List ℕ → Recount = λ v. record { lot = y.lot; bin = v; qty = x.qty } in
    let f2 : ℕ → Recount = λ v. record { lot = y.lot; bin = y.bin; qty = v } in
    ap f0 p ∙ ap f1 q ∙ ap f2 r

adjustment_same : (x y : Adjustment) → x.lot ≡ y.lot → x.bin ≡ y.bin → x.change ≡ y.change → x ≡ y
adjustment_same x y p q r =
    let f0 : LotId → Adjustment = λ v. record { lot = v; bin = x.bin; change = x.change } in
    let f1 : List ℕ → Adjustment = λ v. record { lot = y.lot; bin = v; change = x.change } in
    let f2 : ℤ → Adjustment = λ v. record { lot = y.lot; bin = y.bin; change = v } in
    ap f0 p ∙ ap f1 q ∙ ap f2 r

order_same : (x y : NewOrder) → x.order ≡ y.order → x.customer ≡ y.customer → x.lines ≡ y.lines → x ≡ y
order_same x y p q r =
    let f0 : List ℕ → NewOrder = λ v. record { order = v; customer = x.customer; lines = x.lines } in
    let f1 : List ℕ → NewOrder = λ v. record { order = y.order; customer = v; lines = x.lines } in
    let f2 : List OrderLine → NewOrder = λ v. record { order = y.order; customer = y.customer; lines = v } in
    ap f0 p ∙ ap f1 q ∙ ap f2 r

picking_same : (x y : Picking) → x.order ≡ y.order → x.lot ≡ y.lot → x.bin ≡ y.bin → x.qty ≡ y.qty → x ≡ y
picking_same x y p q r s =
    let f0 : List ℕ → Picking = λ v. record { order = v; lot = x.lot; bin = x.bin; qty = x.qty } in
    let f1 : LotId → Picking = λ v. record { order = y.order; lot = v; bin = x.bin; qty = x.qty } in
    let f2 : List ℕ → Picking = λ v. record { order = y.order; lot = y.lot; bin = v; qty = x.qty } in
    let f3 : ℕ → Picking = λ v. record { order = y.order; lot = y.lot; bin = y.bin; qty = v } in
    ap f0 p ∙ ap f1 q ∙ ap f2 r ∙ ap f3 s

least_command_same : (x y : NewLeast) → x.gtin ≡ y.gtin → x.days ≡ y.days → x ≡ y
least_command_same x y p q =
    let f0 : List ℕ → NewLeast = λ v. record { gtin = v; days = x.days } in
    let f1 : ℕ → NewLeast = λ v. record { gtin = y.gtin; days = v } in
    ap f0 p ∙ ap f1 q

lot_parts : (l m : LotId) (w : List ℕ) → ◌≡◌ {A = List (List ℕ)} (w ∷ l.gtin ∷ l.lot ∷ []) (w ∷ m.gtin ∷ m.lot ∷ []) → l ≡ m
lot_parts l m w e = let p : l.gtin ≡ m.gtin = cc in let q : l.lot ≡ m.lot = cc in lot_same l m p q

-- the fields tell the command
item_told : (x y : NewItem) → fields (Item x) ≡ fields (Item y) → Item x ≡ Item y
item_told x y e = let p : x.gtin ≡ y.gtin = cc in let q : x.name ≡ y.name = cc in ap Item (item_same x y p q)

bin_told : (x y : NewBin) → fields (Bin x) ≡ fields (Bin y) → Bin x ≡ Bin y
bin_told x y e = let p : x.bin ≡ y.bin = cc in let q : bin_kind_word x.kind ≡ bin_kind_word y.kind = cc in ap Bin (bin_same x y p (kind_same x.kind y.kind q))

receipt_told : (x y : Receipt) → is_sound (Receive x) ≡ true → is_sound (Receive y) ≡ true → fields (Receive x) ≡ fields (Receive y) → Receive x ≡ Receive y
receipt_told x y sx sy e =
    let s = and_four (is_lot_id x.lot) (is_day x.expiry) (is_name x.bin) (is_qty x.qty) sx in
    let t = and_four (is_lot_id y.lot) (is_day y.expiry) (is_name y.bin) (is_qty y.qty) sy in
    let g : x.lot.gtin ≡ y.lot.gtin = cc in
    let l : x.lot.lot ≡ y.lot.lot = cc in
    let d : day_text x.expiry ≡ day_text y.expiry = cc in
    let b : x.bin ≡ y.bin = cc in
    let q : decimal x.qty ≡ decimal y.qty = cc in
    ap Receive (receipt_same x y (lot_same x.lot y.lot g l) (day_text_injective x.expiry y.expiry s.1 t.1 d) b (qty_same x.qty y.qty s.3 t.3 q))

movement_told : (x y : Movement) → is_sound (Move x) ≡ true → is_sound (Move y) ≡ true → fields (Move x) ≡ fields (Move y) → Move x ≡ Move y
movement_told x y sx sy e =
    let s = and_four (is_lot_id x.lot) (is_name x.from) (is_name x.to) (is_qty x.qty) sx in
    let t = and_four (is_lot_id y.lot) (is_name y.from) (is_name y.to) (is_qty y.qty) sy in
    let g : x.lot.gtin ≡ y.lot.gtin = cc in
    let l : x.lot.lot ≡ y.lot.lot = cc in
    let a : x.from ≡ y.from = cc in
    let b : x.to ≡ y.to = cc in
    let q : decimal x.qty ≡ decimal y.qty = cc in
    ap Move (movement_same x y (lot_same x.lot y.lot g l) a b (qty_same x.qty y.qty s.3 t.3 q))

recount_told : (x y : Recount) → is_sound (Count x) ≡ true → is_sound (Count y) ≡ true → fields (Count x) ≡ fields (Count y) → Count x ≡ Count y
recount_told x y sx sy e =
    let s = and_three (is_lot_id x.lot) (is_name x.bin) (is_counted x.qty) sx in
    let t = and_three (is_lot_id y.lot) (is_name y.bin) (is_counted y.qty) sy in
    let g : x.lot.gtin ≡ y.lot.gtin = cc in
    let l : x.lot.lot ≡ y.lot.lot = cc in
    let b : x.bin ≡ y.bin = cc in
    let q : decimal x.qty ≡ decimal y.qty = cc in
    ap Count (recount_same x y (lot_same x.lot y.lot g l) b (count_same x.qty y.qty s.2 t.2 q))

adjustment_told : (x y : Adjustment) → is_sound (Adjust x) ≡ true → is_sound (Adjust y) ≡ true → fields (Adjust x) ≡ fields (Adjust y) → Adjust x ≡ Adjust y
adjustment_told x y sx sy e =
    let s = and_three (is_lot_id x.lot) (is_name x.bin) (is_delta x.change) sx in
    let t = and_three (is_lot_id y.lot) (is_name y.bin) (is_delta y.change) sy in
    let g : x.lot.gtin ≡ y.lot.gtin = cc in
    let l : x.lot.lot ≡ y.lot.lot = cc in
    let b : x.bin ≡ y.bin = cc in
    let q : signed_decimal x.change ≡ signed_decimal y.change = cc in
    ap Adjust (adjustment_same x y (lot_same x.lot y.lot g l) b (change_same x.change y.change s.2 t.2 q))

order_told : (x y : NewOrder) → is_new_order x ≡ true → is_new_order y ≡ true → order_fields x ≡ order_fields y → x ≡ y
order_told x y sx sy e =
    let s = and_three (is_name x.order) (is_title x.customer) (are_lines x.lines) sx in
    let t = and_three (is_name y.order) (is_title y.customer) (are_lines y.lines) sy in
    let o : x.order ≡ y.order = cc in
    let c : x.customer ≡ y.customer = cc in
    let l : lines_fields x.lines ≡ lines_fields y.lines = cc in
    let sound_x = (and_both (has_order_lines x.lines) (list_all is_order_line x.lines) s.2).1 in
    let sound_y = (and_both (has_order_lines y.lines) (list_all is_order_line y.lines) t.2).1 in
    order_same x y o c (lines_same x.lines y.lines sound_x sound_y l)

picking_told : (x y : Picking) → is_picking x ≡ true → is_picking y ≡ true → picking_fields x ≡ picking_fields y → x ≡ y
picking_told x y sx sy e =
    let s = and_four (is_name x.order) (is_lot_id x.lot) (is_name x.bin) (is_qty x.qty) sx in
    let t = and_four (is_name y.order) (is_lot_id y.lot) (is_name y.bin) (is_qty y.qty) sy in
    let o : x.order ≡ y.order = cc in
    let g : x.lot.gtin ≡ y.lot.gtin = cc in
    let l : x.lot.lot ≡ y.lot.lot = cc in
    let b : x.bin ≡ y.bin = cc in
    let q : decimal x.qty ≡ decimal y.qty = cc in
    picking_same x y o (lot_same x.lot y.lot g l) b (qty_same x.qty y.qty s.3 t.3 q)

least_told : (x y : NewLeast) → is_sound (Least x) ≡ true → is_sound (Least y) ≡ true → fields (Least x) ≡ fields (Least y) → Least x ≡ Least y
least_told x y sx sy e =
    let s = and_both (is_gtin x.gtin) (is_least_days x.days) sx in
    let t = and_both (is_gtin y.gtin) (is_least_days y.days) sy in
    let g : x.gtin ≡ y.gtin = cc in
    let q : decimal x.days ≡ decimal y.days = cc in
    ap Least (least_command_same x y g (least_same x.days y.days s.1 t.1 q))

-- the word of a command as a number
abbrev text_number : List ℕ → ℕ
text_number [] = 0
text_number (c ∷ cs) = c + 256 * text_number cs

abbrev word_number : List (List ℕ) → ℕ
word_number [] = 0
word_number (w ∷ ws) = text_number w

apart : (m n : ℕ) → (m == n) ≡ false → m ≡ n → ⊥
apart m n d e = grind (arith, nat_tests)

fields_same : (a b : Command) → is_sound a ≡ true → is_sound b ≡ true → fields a ≡ fields b → a ≡ b
fields_same (Item x) (Item y) sx sy e = item_told x y e
fields_same (Bin x) (Bin y) sx sy e = bin_told x y e
fields_same (Receive x) (Receive y) sx sy e = receipt_told x y sx sy e
fields_same (Move x) (Move y) sx sy e = movement_told x y sx sy e
fields_same (Count x) (Count y) sx sy e = recount_told x y sx sy e
fields_same (Adjust x) (Adjust y) sx sy e = adjustment_told x y sx sy e
fields_same (Order x) (Order y) sx sy e = let p : order_fields x ≡ order_fields y = cc in ap Order (order_told x y sx sy p)
fields_same (Cancel x) (Cancel y) sx sy e = let p : x ≡ y = cc in ap Cancel p
fields_same (Pick x) (Pick y) sx sy e = let p : picking_fields x ≡ picking_fields y = cc in ap Pick (picking_told x y sx sy p)
fields_same (Unpick x) (Unpick y) sx sy e = let p : picking_fields x ≡ picking_fields y = cc in ap Unpick (picking_told x y sx sy p)
fields_same (Ship x) (Ship y) sx sy e = let p : x ≡ y = cc in ap Ship p
fields_same (Hold x) (Hold y) sx sy e = ap Hold (lot_parts x y (codes "HOLD") e)
fields_same (Release x) (Release y) sx sy e = ap Release (lot_parts x y (codes "RELEASE") e)
fields_same (Recall x) (Recall y) sx sy e = ap Recall (lot_parts x y (codes "RECALL") e)
fields_same (OpenDay x) (OpenDay y) sx sy e =
    let p : day_text x ≡ day_text y = cc in
    ap OpenDay (day_text_injective x y (business_is_day x sx) (business_is_day y sy) p)
fields_same (Urgent x) (Urgent y) sx sy e = let p : order_fields x ≡ order_fields y = cc in ap Urgent (order_told x y sx sy p)
fields_same (Least x) (Least y) sx sy e = least_told x y sx sy e
fields_same a b sx sy e = absurd (apart (word_number (fields a)) (word_number (fields b)) refl (ap word_number e))

pub one_spelling : (a b : Command) → IsTrue (is_sound a) → IsTrue (is_sound b) → spelling a ≡ spelling b → a ≡ b
unfolding spelling
one_spelling a b x y e = fields_same a b x y (joined_same 10 (fields a) (fields b) (parts_lack (fields a) (fields_printable a x)) (parts_lack (fields b) (fields_printable b y)) e)
