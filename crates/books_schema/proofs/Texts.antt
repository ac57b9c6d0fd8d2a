-- What the texts make of a schema with nothing in it.
use Rattle.std.specs.Prelude.{⊤}
use Rattle.books_schema.proofs.Words.{refl, ◌≡◌, true, list_all, Schema, created, schema_0, is_harmless, meta_table, items_table, bins_table, lots_table, recalls_table, stock_table, orders_table, lines_table, staged_table, reserved_table, shipments_table, shiplines_table, cards_table, repeats_table, least_table, urgents_table, Makes, CREATE_META, CREATE_ITEMS, CREATE_BINS, CREATE_LOTS, CREATE_RECALLS, CREATE_STOCK, CREATE_ORDERS, CREATE_LINES, CREATE_STAGED, CREATE_RESERVED, CREATE_SHIPMENTS, CREATE_SHIPLINES, CREATE_CARDS, CREATE_REPEATS, CREATE_LEAST, CREATE_URGENTS, List, [], ◌∷◌, ℕ, Table, the_tables}
use Rattle.sqlite_tied.specs.Compute.{everything}
use Rattle.sqlite.specs.Listing.{understood}

-- each of the texts makes its table, behind those before it
abbrev InTurn : Schema → List (List ℕ × Table) → Type 0
InTurn schema [] = ⊤
InTurn schema (made ∷ rest) = let table : Table = record made.1 { tree = 0 } in Makes schema made.0 table × InTurn (created schema table) rest

pub all_made : InTurn schema_0 (
    (CREATE_META.now, meta_table)
    ∷ (CREATE_ITEMS.now, items_table)
    ∷ (CREATE_BINS.now, bins_table)
    ∷ (CREATE_LOTS.now, lots_table)
    ∷ (CREATE_RECALLS.now, recalls_table)
    ∷ (CREATE_STOCK.now, stock_table)
    ∷ (CREATE_ORDERS.now, orders_table)
    ∷ (CREATE_LINES.now, lines_table)
    ∷ (CREATE_STAGED.now, staged_table)
    ∷ (CREATE_RESERVED.now, reserved_table)
    ∷ (CREATE_SHIPMENTS.now, shipments_table)
    ∷ (CREATE_SHIPLINES.now, shiplines_table)
    ∷ (CREATE_CARDS.now, cards_table)
    ∷ (CREATE_REPEATS.now, repeats_table)
    ∷ (CREATE_LEAST.now, least_table)
    ∷ (CREATE_URGENTS.now, urgents_table)
    ∷ [])
unfolding understood everything
all_made = (
  (refl, refl, refl, refl, (refl, refl)),
  (
    (refl, refl, refl, refl, (refl, refl)),
    (
      (refl, refl, refl, refl, (refl, refl)),
      (
        (refl, refl, refl, refl, (refl, refl)),
        (
          (refl, refl, refl, refl, (refl, refl)),
          (
            (refl, refl, refl, refl, (refl, refl)),
            (
              (refl, refl, refl, refl, (refl, refl)),
              (
                (refl, refl, refl, refl, (refl, refl)),
                (
                  (refl, refl, refl, refl, (refl, refl)),
                  (
                    (refl, refl, refl, refl, (refl, refl)),
                    (
                      (refl, refl, refl, refl, (refl, refl)),
                      (
                        (refl, refl, refl, refl, (refl, refl)),
                        (
                          (refl, refl, refl, refl, (refl, refl)),
                          (
                            (refl, refl, refl, refl, (refl, refl)),
                            (
                              (refl, refl, refl, refl, (refl, refl)),
                              (
                                (refl, refl, refl, refl, (refl, refl)),
                                tt,
                              ),
                            ),
                          ),
                        ),
                      ),
                    ),
                  ),
                ),
              ),
            ),
          ),
        ),
      ),
    ),
  ),
)

-- the schema with the tables of all steps, and nothing else
abbrev all_added : Schema → List Table → Schema
all_added schema [] = schema
all_added schema (t ∷ tables) = all_added (created schema (record t { tree = 0 })) tables

abbrev pub the_schema : Schema
the_schema = all_added schema_0 the_tables

pub the_harmless : list_all is_harmless the_schema.indexes ≡ true
unfolding Rattle.std.specs.Fmt.digits
the_harmless = refl
