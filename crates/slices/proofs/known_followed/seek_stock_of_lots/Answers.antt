use Rattle.slices.proofs.Words.{Vec, Global, ◌≡◌, ◌+◌, ◌<◌, length, take, List, [], ◌++◌, Ok, refl, sym, ap, subst, ◌∙◌, arith, take_all, state, SqliteFailure, OutOfMemory, Tables, StockRow, AreStockOfLot, IsRead, Each, KnowsRows, Learning}
use Rattle.slices.proofs.ReadSteps.{read_none, has_read, read_on, so_told, fails_later, no_room_left}
use Rattle.slices.proofs.KnowingSteps.{known_step}
use Rattle.slices.proofs.known_followed.seek_stock_of_lots.Goals as goal

pub loop-lot-init : goal.loop-lot-init
loop-lot-init g c =
    let old = state g.S.Store c.args.tx.now.conn.now in
    (refl, rw c.new-found.ensures.items (read_none {X = List StockRow} (Learning c.args.rows.now c.args.rows.now (λ t found. Each (λ m units. AreStockOfLot m t units) [] found)) old [] (λ t known. (refl, known))))

pub returns-in_err-units-clause-same_reference : goal.returns-in_err-units-clause-same_reference
returns-in_err-units-clause-same_reference g c = c.in_err-units.ensures.same_reference ∙ c.loop-lot.invariant.0

pub returns-in_err-units-clause-read : goal.returns-in_err-units-clause-read
returns-in_err-units-clause-read g c = fails_later (has_read c.loop-lot.invariant.1) c.from_residual.ensures c.in_err-units.ensures.read

pub returns-in_err-extend_from_slice-clause-same_reference : goal.returns-in_err-extend_from_slice-clause-same_reference
returns-in_err-extend_from_slice-clause-same_reference g c = c.in_ok-units.ensures.same_reference ∙ c.loop-lot.invariant.0

pub returns-in_err-extend_from_slice-clause-read : goal.returns-in_err-extend_from_slice-clause-read
returns-in_err-extend_from_slice-clause-read g c = no_room_left (SqliteFailure OutOfMemory) (read_on (has_read c.loop-lot.invariant.1) c.in_ok-units.ensures.read) c.from_residual-in_err-extend_from_slice.ensures

pub loop-lot-preserved : goal.loop-lot-preserved
loop-lot-preserved g c =
    let old = state g.S.Store c.args.tx.now.conn.now in
    let mid = state g.S.Store c.loop-lot.tx.conn.now in
    let new = state g.S.Store c.seek_stock_of.new.tx.conn.now in
    let lots = c.args.lots.now in
    let i = c.loop-lot.lot-index in
    let less : i < length lots = omega arith in
    let knows = λ (t : Tables). KnowsRows t c.args.rows.now in
    let step = known_step AreStockOfLot {X = Vec StockRow Global} (λ v. v.items) knows knows knows old mid new lots i c.lot-item.result c.loop-lot.found.items c.in_ok-units.units less c.lot-item.is c.loop-lot.invariant.1 c.in_ok-units.ensures.read in
    let grown : c.extend_from_slice.new.self.items ≡ c.loop-lot.found.items ++ c.in_ok-units.units.items = c.in_ok-extend_from_slice.ensures.items ∙ ap (λ l. c.loop-lot.found.items ++ l) c.as_slice.ensures.value in
    let next : IsRead {X = List StockRow} (Learning c.args.rows.now c.args.rows.now (λ t found. Each (λ m units. AreStockOfLot m t units) (take (i + 1) lots) found)) old new (Ok c.extend_from_slice.new.self.items) =
    subst (λ (xs : List StockRow). IsRead {X = List StockRow} (Learning c.args.rows.now c.args.rows.now (λ t found. Each (λ m units. AreStockOfLot m t units) (take (i + 1) lots) found)) old new (Ok xs)) (sym grown) step in
    (c.in_ok-units.ensures.same_reference ∙ c.loop-lot.invariant.0, next)

pub returns-clause-same_reference : goal.returns-clause-same_reference
returns-clause-same_reference g c = c.loop-lot.invariant.0

pub returns-clause-read : goal.returns-clause-read
returns-clause-read g c =
    let all : take c.loop-lot.lot-index c.args.lots.now ≡ c.args.lots.now = take_all _ c.args.lots.now c.loop-lot-test.false in
    so_told {X = List StockRow} (rw all at c.loop-lot.invariant.1) (λ t h. h)
