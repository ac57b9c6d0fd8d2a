use Rattle.rows_in_memory.proofs.Words.{◌≡◌, ◌+◌, ◌∷◌, List, length, drop, sym, ap, subst, ◌∙◌, add-one, drop-cons, arith, drop-length}
use Rattle.rows_in_memory.proofs.Maps.{Setting, setting_next, all_set}
use Rattle.rows_in_memory.proofs.known.KnownRows.set_all.Goals as goal

pub loop-row-init : goal.loop-row-init
loop-row-init g c = λ new sets. sets

pub loop-row-preserved : goal.loop-row-preserved
loop-row-preserved g c =
    let rows = c.args.rows.now in
    let i = c.loop-row.row-index in
    let row = c.row-item.result in
    let left : drop i rows ≡ row ∷ drop (i + 1) rows = rw add-one (drop-cons rows i row c.loop-row-test.true) ∙ ap (λ r. r ∷ drop (i + 1) rows) (sym c.row-item.is) in
    setting_next g.K.Ord.cmp (λ r. g.K.KeyOf.key (g.R.Has.of_row r)) rows (drop i rows) (drop (i + 1) rows) row c.args.self.now.rows c.loop-row.self.rows c.set.new.self.rows left c.set.ensures c.loop-row.invariant

pub returns : goal.returns
returns g c =
    let rows = c.args.rows.now in
    let end : c.loop-row.row-index ≡ length rows = omega (arith, c.loop-row-test.false, c.loop-row.auto.row-index-end) in
    all_set g.K.Ord.cmp (λ r. g.K.KeyOf.key (g.R.Has.of_row r)) rows c.args.self.now.rows c.loop-row.self.rows
    (subst (λ (l : List _). Setting g.K.Ord.cmp (λ r. g.K.KeyOf.key (g.R.Has.of_row r)) rows l c.args.self.now.rows c.loop-row.self.rows) (ap (λ n. drop n rows) end ∙ drop-length rows) c.loop-row.invariant)
