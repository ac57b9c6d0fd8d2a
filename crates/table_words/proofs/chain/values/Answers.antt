use Rattle.std.proofs.Common.{sym}
use Rattle.table_words.proofs.Eight.{eight}
use Rattle.table_words.proofs.chain.values.Goals as goal

pub returns : goal.returns
returns g c =
    let p = c.args.columns.now in
    let laws = g.met.C.Chain.chain_laws in
    let few = rw (sym (laws.size p)) at c.requires.few in
    rw (sym (laws.size p)) (eight c.value_at.result c.value_at-2.result c.value_at-3.result c.value_at-4.result c.value_at-5.result c.value_at-6.result c.value_at-7.result c.value_at-8.result (g.C.Chain.columns.cells p) few (laws.bound p) c.value_at.ensures c.value_at-2.ensures c.value_at-3.ensures c.value_at-4.ensures c.value_at-5.ensures c.value_at-6.ensures c.value_at-7.ensures c.value_at-8.ensures)
