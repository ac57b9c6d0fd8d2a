-- Keys of two parts are the same where both parts are.
use Rattle.rules.proofs.Words.{◌≡◌, true, ◌&&◌, same_text, is_lot, LotBin, OrderItem, OrderLot, same_cell, same_line, same_share, and_both, same_text_is, same_text_refl, same_text_turned, is_lot_is, is_lot_refl, is_lot_turned}

-- a lot in a bin

pub same_cell_is : (a b : LotBin) → same_cell a b ≡ true → a ≡ b
same_cell_is a b e =
    let two = and_both (is_lot a.0 b.0) (same_text a.1 b.1) e in
    (λ i. (is_lot_is a.0 b.0 two.0 i, same_text_is a.1 b.1 two.1 i))

pub same_cell_refl : (a : LotBin) → same_cell a a ≡ true
same_cell_refl a = λ i. is_lot_refl a.0 i && same_text_refl a.1 i

pub same_cell_turned : (a b : LotBin) → same_cell a b ≡ same_cell b a
same_cell_turned a b = λ i. is_lot_turned a.0 b.0 i && same_text_turned a.1 b.1 i

-- an item of an order

pub same_line_is : (a b : OrderItem) → same_line a b ≡ true → a ≡ b
same_line_is a b e =
    let two = and_both (same_text a.0 b.0) (same_text a.1 b.1) e in
    (λ i. (same_text_is a.0 b.0 two.0 i, same_text_is a.1 b.1 two.1 i))

pub same_line_refl : (a : OrderItem) → same_line a a ≡ true
same_line_refl a = λ i. same_text_refl a.0 i && same_text_refl a.1 i

pub same_line_turned : (a b : OrderItem) → same_line a b ≡ same_line b a
same_line_turned a b = λ i. same_text_turned a.0 b.0 i && same_text_turned a.1 b.1 i

-- a lot for an order

pub same_share_is : (a b : OrderLot) → same_share a b ≡ true → a ≡ b
same_share_is a b e =
    let two = and_both (same_text a.0 b.0) (is_lot a.1 b.1) e in
    (λ i. (same_text_is a.0 b.0 two.0 i, is_lot_is a.1 b.1 two.1 i))

pub same_share_refl : (a : OrderLot) → same_share a a ≡ true
same_share_refl a = λ i. same_text_refl a.0 i && is_lot_refl a.1 i

pub same_share_turned : (a b : OrderLot) → same_share a b ≡ same_share b a
same_share_turned a b = λ i. same_text_turned a.0 b.0 i && is_lot_turned a.1 b.1 i
