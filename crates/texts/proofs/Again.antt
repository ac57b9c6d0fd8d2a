-- What is spelled is read again.
use Rattle.texts.proofs.Words.{◌≡◌, ℕ, true, List, [], ◌∷◌, append_assoc, refl, ap, sym, ◌∙◌, arith, Some, None, IsTrue, ℤ, pos, negsuc, ◌==◌, codes, decimal, option_map, option_and_then, signed_decimal, slice_split, join_with_byte, list_all, bytes_eq, cond-true, nat_tests, bytes_eq-Decides, checked, is_gtin, is_lot_text, is_name, is_title, is_qty, is_counted, is_delta, is_line_no, is_digit, is_least_days, LotId, is_day, is_business_day, day_text, parsed_day-day_text, has_order_lines, bin_kind_word, bin_kind_of, fields, spelling, key_text, order_fields, picking_fields, is_lot_id, is_order_line, are_lines, is_new_order, is_picking, is_sound, is_sound_key, BinKind, Store, HoldBin, NewOrder, Picking, Key, Plain, Line, Command, Item, Bin, Receive, Move, Count, Adjust, Order, Cancel, Pick, Unpick, Ship, Hold, Release, Recall, OpenDay, Least, Urgent, AllLack, PartsLack, lacks_failing, and_both, is_printable, name_lacks, AllPrintable, and_three, and_four, PartsPrintable, fields_printable, small_line, Fields, lot_read, order_read, picking_read, command_read, key_read, own_key, business_day_read}
use Rattle.texts.proofs.Cutting.{cut_again}
use Rattle.texts.proofs.Numbers.{checked_again, qty_again, counted_again, least_days_again, line_no_again, delta_again, decimal_digits}
use Rattle.texts.proofs.LinesRead.{lines_again}

gtin_again : (l : LotId) → is_lot_id l ≡ true → is_gtin l.gtin ≡ true
gtin_again l sound = (and_both (is_gtin l.gtin) (is_lot_text l.lot) sound).0

lot_text_again : (l : LotId) → is_lot_id l ≡ true → is_lot_text l.lot ≡ true
lot_text_again l sound = (and_both (is_gtin l.gtin) (is_lot_text l.lot) sound).1

kind_again : (k : BinKind) → bin_kind_of (bin_kind_word k) ≡ Some k
kind_again Store = refl
kind_again HoldBin = refl

-- the lot behind one field, and behind two
lot_at_1 : (w : List ℕ) (l : LotId) (rest : Fields) → is_lot_id l ≡ true → lot_read 1 (w ∷ l.gtin ∷ l.lot ∷ rest) ≡ Some l
lot_at_1 w l rest sound = rw (checked_again is_gtin l.gtin (gtin_again l sound), checked_again is_lot_text l.lot (lot_text_again l sound)) refl

lot_at_2 : (w o : List ℕ) (l : LotId) (rest : Fields) → is_lot_id l ≡ true → lot_read 2 (w ∷ o ∷ l.gtin ∷ l.lot ∷ rest) ≡ Some l
lot_at_2 w o l rest sound = rw (checked_again is_gtin l.gtin (gtin_again l sound), checked_again is_lot_text l.lot (lot_text_again l sound)) refl

picking_again : (w : List ℕ) (p : Picking) → is_picking p ≡ true → picking_read (w ∷ picking_fields p) ≡ Some p
picking_again w p sound =
    let s = and_four (is_name p.order) (is_lot_id p.lot) (is_name p.bin) (is_qty p.qty) sound in
    rw (checked_again is_name p.order s.0, lot_at_2 w p.order p.lot (p.bin ∷ decimal p.qty ∷ []) s.1, checked_again is_name p.bin s.2, qty_again p.qty s.3) refl

order_again : (w : List ℕ) (o : NewOrder) → is_new_order o ≡ true → order_read (w ∷ order_fields o) ≡ Some o
order_again w o sound =
    let s = and_three (is_name o.order) (is_title o.customer) (are_lines o.lines) sound in
    let l = and_both (has_order_lines o.lines) (list_all is_order_line o.lines) s.2 in
    rw (checked_again is_name o.order s.0, checked_again is_title o.customer s.1, lines_again o.lines l.1, checked_again has_order_lines o.lines l.0) refl

-- a business day is a day
business_is_day : (n : ℤ) → is_business_day n ≡ true → is_day n ≡ true
business_is_day (pos k) h = grind (arith, nat_tests)
business_is_day (negsuc k) h = grind (arith, nat_tests)

opened_again : (day : ℤ) → is_business_day day ≡ true → business_day_read (day_text day) ≡ Some day
opened_again day sound =
    ap (option_and_then (checked is_business_day)) (parsed_day-day_text day (business_is_day day sound)) ∙ checked_again is_business_day day sound

command_again : (c : Command) → is_sound c ≡ true → command_read (fields c) ≡ Some c
unfolding command_read
command_again (Item i) sound =
    let s = and_both (is_gtin i.gtin) (is_title i.name) sound in
    rw (checked_again is_gtin i.gtin s.0, checked_again is_title i.name s.1) refl
command_again (Bin b) sound = rw (checked_again is_name b.bin sound, kind_again b.kind) refl
command_again (Receive r) sound =
    let s = and_four (is_lot_id r.lot) (is_day r.expiry) (is_name r.bin) (is_qty r.qty) sound in
    rw (lot_at_1 (codes "RECEIVE") r.lot (day_text r.expiry ∷ r.bin ∷ decimal r.qty ∷ []) s.0, parsed_day-day_text r.expiry s.1, checked_again is_name r.bin s.2, qty_again r.qty s.3) refl
command_again (Move m) sound =
    let s = and_four (is_lot_id m.lot) (is_name m.from) (is_name m.to) (is_qty m.qty) sound in
    rw (lot_at_1 (codes "MOVE") m.lot (m.from ∷ m.to ∷ decimal m.qty ∷ []) s.0, checked_again is_name m.from s.1, checked_again is_name m.to s.2, qty_again m.qty s.3) refl
command_again (Count c) sound =
    let s = and_three (is_lot_id c.lot) (is_name c.bin) (is_counted c.qty) sound in
    rw (lot_at_1 (codes "COUNT") c.lot (c.bin ∷ decimal c.qty ∷ []) s.0, checked_again is_name c.bin s.1, counted_again c.qty s.2) refl
command_again (Adjust a) sound =
    let s = and_three (is_lot_id a.lot) (is_name a.bin) (is_delta a.change) sound in
    rw (lot_at_1 (codes "ADJUST") a.lot (a.bin ∷ signed_decimal a.change ∷ []) s.0, checked_again is_name a.bin s.1, delta_again a.change s.2) refl
command_again (Order o) sound = ap (option_map Order) (order_again (codes "ORDER") o sound)
command_again (Urgent o) sound = ap (option_map Urgent) (order_again (codes "URGENT") o sound)
command_again (Cancel o) sound = rw (checked_again is_name o sound) refl
command_again (Pick p) sound = ap (option_map Pick) (picking_again (codes "PICK") p sound)
command_again (Unpick p) sound = ap (option_map Unpick) (picking_again (codes "UNPICK") p sound)
command_again (Ship o) sound = rw (checked_again is_name o sound) refl
command_again (Hold l) sound = ap (option_map Hold) (lot_at_1 (codes "HOLD") l [] sound)
command_again (Release l) sound = ap (option_map Release) (lot_at_1 (codes "RELEASE") l [] sound)
command_again (Recall l) sound = ap (option_map Recall) (lot_at_1 (codes "RECALL") l [] sound)
command_again (OpenDay day) sound = ap (option_map OpenDay) (opened_again day sound)
command_again (Least l) sound =
    let s = and_both (is_gtin l.gtin) (is_least_days l.days) sound in
    rw (checked_again is_gtin l.gtin s.0, least_days_again l.days s.1) refl

all_lack : (xs : List (List ℕ)) → AllPrintable xs → AllLack 10 xs
all_lack [] p = tt
all_lack (x ∷ xs) p = (lacks_failing 10 is_printable refl x p.0, all_lack xs p.1)

parts_lack : (xs : List (List ℕ)) → PartsPrintable xs → PartsLack 10 xs
parts_lack [] p = p
parts_lack (x ∷ xs) p = (lacks_failing 10 is_printable refl x p.0, all_lack xs p.1)

-- a text that spells a command is read as that command
pub spelled_again : (text : List ℕ) (c : Command) → IsTrue (is_sound c) → text ≡ spelling c → command_read (slice_split (λ b. b == 10) text) ≡ Some c
unfolding spelling
spelled_again text c sound is =
    ap (λ t. command_read (slice_split (λ b. b == 10) t)) is
    ∙ ap command_read (cut_again 10 (fields c) (parts_lack (fields c) (fields_printable c sound))) ∙ command_again c sound

-- the parts of the text of a key
abbrev key_parts : Key → Fields
key_parts (Plain name) = codes "K" ∷ name ∷ []
key_parts (Line delivery line) = codes "D" ∷ delivery ∷ decimal line ∷ []

key_joined : (k : Key) → key_text k ≡ join_with_byte 47 (key_parts k)
key_joined (Plain name) = refl
key_joined (Line delivery line) = ap (λ s. 68 ∷ 47 ∷ s) (append_assoc delivery (47 ∷ []) (decimal line))

key_lacks : (k : Key) → is_sound_key k ≡ true → PartsLack 47 (key_parts k)
key_lacks (Plain name) sound = ((refl, tt), (name_lacks 47 name refl sound, tt))
key_lacks (Line delivery line) sound =
    let s = and_both (is_name delivery) (is_line_no line) sound in
    ((refl, tt), (name_lacks 47 delivery refl s.0, (lacks_failing 47 is_digit refl (decimal line) (decimal_digits line (small_line line s.1)), tt)))

key_again : (k : Key) → is_sound_key k ≡ true → key_read (key_parts k) ≡ Some k
unfolding key_read
key_again (Plain name) sound = rw (checked_again is_name name sound) refl
key_again (Line delivery line) sound =
    let s = and_both (is_name delivery) (is_line_no line) sound in
    rw (checked_again is_name delivery s.0, line_no_again line s.1) refl

-- a text of a key is read as that key
pub key_text_again : (text : List ℕ) (k : Key) → IsTrue (is_sound_key k) → text ≡ key_text k → key_read (slice_split (λ b. b == 47) text) ≡ Some k
key_text_again text k sound is =
    ap (λ t. key_read (slice_split (λ b. b == 47) t)) (is ∙ key_joined k)
    ∙ ap key_read (cut_again 47 (key_parts k) (key_lacks k sound)) ∙ key_again k sound

-- a text that is the key's own
pub own_again : (text : List ℕ) (k : Key) → text ≡ key_text k → own_key text k ≡ Some k
own_again text k is = cond-true (bytes_eq (key_text k) text) (Some k) None ((bytes_eq-Decides (key_text k) text).1 (sym is))
