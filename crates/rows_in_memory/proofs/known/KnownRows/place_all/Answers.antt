use Rattle.rows_in_memory.proofs.Words.{true, ◌≡◌, ◌+◌, ◌∷◌, List, length, drop, sym, ap, subst, ◌∙◌, add-one, drop-cons, arith, drop-length, placed}
use Rattle.rows_in_memory.proofs.Maps.{Coming, coming_first, coming_next, all_came}
use Rattle.rows_in_memory.proofs.known.KnownRows.place_all.Goals as goal

pub loop-row-init : goal.loop-row-init
loop-row-init g c = coming_first g.K.Ord.cmp (λ r. g.K.KeyOf.key (g.R.Has.of_row r)) (placed g.R.KeyedRow.same_row true) c.args.rows.now c.args.self.now.rows

pub loop-row-preserved : goal.loop-row-preserved
loop-row-preserved g c =
    let rows = c.args.rows.now in
    let i = c.loop-row.row-index in
    let row = c.row-item.result in
    let left : drop i rows ≡ row ∷ drop (i + 1) rows = rw add-one (drop-cons rows i row c.loop-row-test.true) ∙ ap (λ r. r ∷ drop (i + 1) rows) (sym c.row-item.is) in
    coming_next g.K.Ord.cmp (λ r. g.K.KeyOf.key (g.R.Has.of_row r)) (placed g.R.KeyedRow.same_row true) rows (drop i rows) (drop (i + 1) rows) row c.args.self.now.rows c.loop-row.self.rows c.place.new.self.rows left c.place.ensures c.loop-row.invariant

pub returns : goal.returns
returns g c =
    let rows = c.args.rows.now in
    let end : c.loop-row.row-index ≡ length rows = omega (arith, c.loop-row-test.false, c.loop-row.auto.row-index-end) in
    all_came g.K.Ord.cmp (λ r. g.K.KeyOf.key (g.R.Has.of_row r)) (placed g.R.KeyedRow.same_row true) rows c.args.self.now.rows c.loop-row.self.rows
    (subst (λ (l : List _). Coming g.K.Ord.cmp (λ r. g.K.KeyOf.key (g.R.Has.of_row r)) (placed g.R.KeyedRow.same_row true) rows l c.args.self.now.rows c.loop-row.self.rows) (ap (λ n. drop n rows) end ∙ drop-length rows) c.loop-row.invariant)
