use Rattle.table_words.proofs.chain.Tuple2Chain.is_stored.Goals as goal

pub returns : goal.returns
returns g c = rw (c.value.ensures.rule, g.met.R.Chain.chain_laws.shift 0 (g.A.Column.stored.value c.args.self.now.0) (g.R.Chain.columns.cells c.args.self.now.1)) c.is_stored.ensures
