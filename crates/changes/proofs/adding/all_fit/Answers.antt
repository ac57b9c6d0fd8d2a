use Rattle.changes.proofs.Words.{◌≡◌, ◌+◌, ◌∷◌, ◌&&◌, length, drop, sym, ap, ◌∙◌, add-one, drop-cons, arith, drop-length, list_all}
use Rattle.changes.proofs.adding.all_fit.Goals as goal

pub loop-row-preserved : goal.loop-row-preserved
loop-row-preserved g c =
    let rows = c.args.rows.now in
    let i = c.loop-row.row-index in
    let p = g.T.Table.fits in
    let left : drop i rows ≡ c.row-item.result ∷ drop (i + 1) rows = rw add-one (drop-cons rows i c.row-item.result c.loop-row-test.true) ∙ ap (λ r. r ∷ drop (i + 1) rows) (sym c.row-item.is) in
    c.loop-row.invariant ∙ ap (list_all p) left ∙ ap (λ b. b && list_all p (drop (i + 1) rows)) (sym c.fits.ensures ∙ c.if-not-fits.false)

pub returns-then-not-fits : goal.returns-then-not-fits
returns-then-not-fits g c =
    let rows = c.args.rows.now in
    let i = c.loop-row.row-index in
    let p = g.T.Table.fits in
    let left : drop i rows ≡ c.row-item.result ∷ drop (i + 1) rows = rw add-one (drop-cons rows i c.row-item.result c.loop-row-test.true) ∙ ap (λ r. r ∷ drop (i + 1) rows) (sym c.row-item.is) in
    sym (c.loop-row.invariant ∙ ap (list_all p) left ∙ ap (λ b. b && list_all p (drop (i + 1) rows)) (sym c.fits.ensures ∙ c.if-not-fits.true))

pub returns : goal.returns
returns g c =
    let rows = c.args.rows.now in
    let end : c.loop-row.row-index ≡ length rows = omega (arith, c.loop-row-test.false, c.loop-row.auto.row-index-end) in
    sym (c.loop-row.invariant ∙ ap (λ n. list_all g.T.Table.fits (drop n rows)) end ∙ ap (list_all g.T.Table.fits) (drop-length rows))
