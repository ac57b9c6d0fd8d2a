-- What the texts that drop the indexes mean in older books.
use Rattle.books_schema.proofs.Words.{◌≡◌, ◌∙◌, ℕ, List, codes, refl, Option, None, Some, Ok, Result, true, false, length, AllByRecursion, position_from, same_name, Index, DropIndex, misses_table, compiled, dropped, Compiled, CompileError, NoSuchIndex, plan, PlainIndex, older_with, older_keys, our_indexes, is_index_of_books, drop_found, Drops, OlderBooks, First, Second, DROP_STAGED_BY_GTIN, DROP_RESERVED_BY_GTIN, DROP_SHIPLINES_OF_LOT, DROP_ORDERS_BY_STATE, understood}
use Rattle.sqlite_tied.specs.Compute.{everything}
use Rattle.books_schema.proofs.TextsRead.{whole_of, understood_as}
use Rattle.books_schema.proofs.DropLemmas.{named_by}

-- what follows from where the name was found
abbrev found_at : ℕ → Option ℕ → Result Compiled CompileError
found_at size found = whole_of size (dropped DropIndex NoSuchIndex true found)

outcome : (size : ℕ) (found : Option ℕ) → (found_at size found ≡ Ok (plan size (drop_found found))) × (misses_table (found_at size found) ≡ false)
outcome size None = (refl, refl)
outcome size (Some at) = (refl, refl)

-- the place of the index of this name among those that stand behind the keys
abbrev placed : List ℕ → OlderBooks → List Index → Option ℕ
placed name older ours = position_from (λ i. same_name i.name name) (length (older_keys older)) ours

abbrev Means : ℕ → List ℕ → List ℕ → Type 0
Means size name text = (older : OlderBooks) (ours : List Index) → compiled (older_with older ours) text ≡ found_at size (placed name older ours)

drops_found : (size : ℕ) (name text : List ℕ) → Means size name text → (older : OlderBooks) (ours : List Index) → understood (older_with older ours) text ≡ Ok (plan size (drop_found (placed name older ours)))
drops_found size name text means older ours =
    let o = outcome size (placed name older ours) in
    understood_as (older_with older ours) text _ (means older ours) o.1 ∙ o.0

abbrev IsApart : List ℕ → Type 0
IsApart name = AllByRecursion (λ (l : PlainIndex). same_name l.0 name ≡ true → l.0 ≡ name) our_indexes

ours_named : (name : List ℕ) → IsApart name → (i : Index) → is_index_of_books i ≡ true → same_name i.name name ≡ true → i.name ≡ name
ours_named name apart i ours same = named_by name our_indexes apart i ours same

staged_by_gtin_means : Means 35 (codes "staged_by_gtin") DROP_STAGED_BY_GTIN.now
unfolding everything
staged_by_gtin_means First ours = refl
staged_by_gtin_means Second ours = refl

staged_by_gtin_apart : IsApart (codes "staged_by_gtin")
unfolding everything
staged_by_gtin_apart = (λ same. refl, (λ same. absurd cc, (λ same. absurd cc, (λ same. absurd cc, tt))))

pub staged_by_gtin_dropped : Drops DROP_STAGED_BY_GTIN.now (codes "staged_by_gtin")
staged_by_gtin_dropped = record { size = 35; means = drops_found 35 (codes "staged_by_gtin") DROP_STAGED_BY_GTIN.now staged_by_gtin_means; named = ours_named (codes "staged_by_gtin") staged_by_gtin_apart }

reserved_by_gtin_means : Means 37 (codes "reserved_by_gtin") DROP_RESERVED_BY_GTIN.now
unfolding everything
reserved_by_gtin_means First ours = refl
reserved_by_gtin_means Second ours = refl

reserved_by_gtin_apart : IsApart (codes "reserved_by_gtin")
unfolding everything
reserved_by_gtin_apart = (λ same. absurd cc, (λ same. refl, (λ same. absurd cc, (λ same. absurd cc, tt))))

pub reserved_by_gtin_dropped : Drops DROP_RESERVED_BY_GTIN.now (codes "reserved_by_gtin")
reserved_by_gtin_dropped = record { size = 37; means = drops_found 37 (codes "reserved_by_gtin") DROP_RESERVED_BY_GTIN.now reserved_by_gtin_means; named = ours_named (codes "reserved_by_gtin") reserved_by_gtin_apart }

shiplines_of_lot_means : Means 37 (codes "shiplines_of_lot") DROP_SHIPLINES_OF_LOT.now
unfolding everything
shiplines_of_lot_means First ours = refl
shiplines_of_lot_means Second ours = refl

shiplines_of_lot_apart : IsApart (codes "shiplines_of_lot")
unfolding everything
shiplines_of_lot_apart = (λ same. absurd cc, (λ same. absurd cc, (λ same. refl, (λ same. absurd cc, tt))))

pub shiplines_of_lot_dropped : Drops DROP_SHIPLINES_OF_LOT.now (codes "shiplines_of_lot")
shiplines_of_lot_dropped = record { size = 37; means = drops_found 37 (codes "shiplines_of_lot") DROP_SHIPLINES_OF_LOT.now shiplines_of_lot_means; named = ours_named (codes "shiplines_of_lot") shiplines_of_lot_apart }

orders_by_state_means : Means 36 (codes "orders_by_state") DROP_ORDERS_BY_STATE.now
unfolding everything
orders_by_state_means First ours = refl
orders_by_state_means Second ours = refl

orders_by_state_apart : IsApart (codes "orders_by_state")
unfolding everything
orders_by_state_apart = (λ same. absurd cc, (λ same. absurd cc, (λ same. absurd cc, (λ same. refl, tt))))

pub orders_by_state_dropped : Drops DROP_ORDERS_BY_STATE.now (codes "orders_by_state")
orders_by_state_dropped = record { size = 36; means = drops_found 36 (codes "orders_by_state") DROP_ORDERS_BY_STATE.now orders_by_state_means; named = ours_named (codes "orders_by_state") orders_by_state_apart }
