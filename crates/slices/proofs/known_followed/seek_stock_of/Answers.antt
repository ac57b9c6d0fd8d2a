use Rattle.slices.proofs.Words.{◌≡◌, true, List, Option, Vec, Global, sym, subst, bytes_eq, IfSome, Tables, StockRow, state, StockKey, same_lot_id, same_stock, stock_key, and_both, AreStockOf, AreStockOfLot, KnowsRows, Learning}
use Rattle.slices.proofs.ReadSteps.{read_none}
use Rattle.slices.proofs.KnowingSteps.{unasked}
use Rattle.slices.proofs.RowsAmong.{rows_among}
use Rattle.slices.proofs.KeysTold.{same_cell_is}
use Rattle.slices.proofs.known_followed.seek_stock_of.Goals as goal

pub returns-in-Some-clause-read : goal.returns-in-Some-clause-read
returns-in-Some-clause-read g c =
    let lot = c.args.lot.now in
    read_none {X = Vec StockRow Global} (Learning c.args.rows.now c.args.rows.now (λ t found. AreStockOfLot lot t found.items)) (state g.S.Store c.args.tx.now.conn.now) c.in_ok-units.units
    (λ t known.
    let all : AreStockOf lot.gtin t c.in-Some.known.now = subst (λ (x : Option (List StockRow)). IfSome x (AreStockOf lot.gtin t)) (sym c.in-Some.ensures) (known.followed.stock lot.gtin) in
    let within = λ (k : StockKey) (e : same_lot_id lot k.0 ≡ true). (and_both (bytes_eq lot.gtin k.0.gtin) (bytes_eq lot.lot k.0.lot) e).0 in (
      subst (λ (rows : List StockRow). AreStockOfLot lot t rows) (sym c.in_ok-units.ensures) (rows_among same_stock stock_key same_cell_is (λ k. bytes_eq lot.gtin k.0.gtin) (λ k. same_lot_id lot k.0) within (λ k. t.stock k.0 k.1) c.in-Some.known.now all),
      known,
    ))

pub returns-clause-read : goal.returns-clause-read
returns-clause-read g c = unasked (λ (t : Tables). KnowsRows t c.args.rows.now) c.read_rows.ensures.read
