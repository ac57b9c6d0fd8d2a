use Rattle.slices.proofs.Words.{◌≡◌, ℕ, List, [], ap, sym, subst, ◌∙◌, LotId, LineRow, SqliteFailure, OutOfMemory, AreStaged, with_names, lots_on_stage}
use Rattle.slices.specs.ByLot.{AreStockOf}
use Rattle.slices.proofs.ReadSteps.{has_read, read_on, fails_first, fails_later, no_room_left}
use Rattle.slices.proofs.KnowingSteps.{and_known, known_told}
use Rattle.slices.proofs.shipments.read_shipment.Goals as goal

pub returns-in_err-orders-clause-read : goal.returns-in_err-orders-clause-read
returns-in_err-orders-clause-read g c = fails_first c.from_residual.ensures c.in_err-orders.ensures.read

pub returns-in_err-gtins-clause-read : goal.returns-in_err-gtins-clause-read
returns-in_err-gtins-clause-read g c = no_room_left (SqliteFailure OutOfMemory) (has_read c.in_ok-orders.ensures.read) c.from_residual-in_err-gtins.ensures

pub returns-in_err-staged-clause-read : goal.returns-in_err-staged-clause-read
returns-in_err-staged-clause-read g c = fails_later (has_read c.in_ok-orders.ensures.read) c.from_residual-in_err-staged.ensures c.in_err-staged.ensures.read

pub returns-in_err-lots-clause-read : goal.returns-in_err-lots-clause-read
returns-in_err-lots-clause-read g c = no_room_left (SqliteFailure OutOfMemory) (read_on (has_read c.in_ok-orders.ensures.read) c.in_ok-staged.ensures.read) c.from_residual-in_err-lots.ensures

pub returns-in_err-stock-clause-read : goal.returns-in_err-stock-clause-read
returns-in_err-stock-clause-read g c = fails_later (read_on (has_read c.in_ok-orders.ensures.read) c.in_ok-staged.ensures.read) c.from_residual-in_err-stock.ensures c.in_err-stock.ensures.read

pub returns-clause-read : goal.returns-clause-read
returns-clause-read g c =
    let order = c.args.order.now in
    let rows = c.of_shipment.result in
    let of_lines : c.as_slice-2.result.now ≡ with_names {X = LineRow} (λ r. r.gtin) rows.lines [] =
    c.as_slice-2.ensures.value ∙ c.in_ok-gtins.ensures ∙ ap (λ l. with_names {X = LineRow} (λ r. r.gtin) l []) (c.as_slice.ensures.value ∙ sym c.of_shipment.ensures.same_lines) in
    let on_stage : c.as_slice-4.result.now ≡ lots_on_stage order rows.staged = c.as_slice-4.ensures.value ∙ c.in_ok-lots.ensures ∙ ap (lots_on_stage order) (c.as_slice-3.ensures.value ∙ sym c.of_shipment.ensures.same_staged) in
    known_told (and_known (and_known c.in_ok-orders.ensures.read c.in_ok-staged.ensures.read) c.in_ok-stock.ensures.read)
    (λ t h. record {
      named = rw (c.of_shipment.ensures.same_orders, c.of_shipment.ensures.same_lines) h.0.0;
      staged = rw c.of_shipment.ensures.same_staged
          (subst (λ (l : List (List ℕ)). AreStaged l t c.in_ok-staged.staged.items) of_lines h.0.1);
      stock = rw c.of_shipment.ensures.same_stock (subst (λ (l : List LotId). AreStockOf l t c.in_ok-stock.stock.items) on_stage h.1);
      no_items = c.of_shipment.ensures.no_items;
      no_bins = c.of_shipment.ensures.no_bins;
      no_lots = c.of_shipment.ensures.no_lots;
      no_recalls = c.of_shipment.ensures.no_recalls;
      no_reserved = c.of_shipment.ensures.no_reserved;
      no_least = c.of_shipment.ensures.no_least;
      no_urgents = c.of_shipment.ensures.no_urgents;
    })
