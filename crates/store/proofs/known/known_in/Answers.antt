use Rattle.store.proofs.Words.{sym, subst, Option, state, Tables, HoldsOf, read_none, as_told, Known, IsKnownOf}
use Rattle.store.proofs.known.known_in.Goals as goal

pub returns-in-Some-clause-read : goal.returns-in-Some-clause-read
returns-in-Some-clause-read g c = read_none (λ (t : Tables) (found : Known). IsKnownOf c.args.known.now t → HoldsOf found t) (state g.S.Store c.args.tx.now.conn.now) c.in-Some.found (λ t known. subst (λ (k : Option Known). IsKnownOf k t) (sym c.in-Some.ensures.value) known)

pub returns-in-None-clause-read : goal.returns-in-None-clause-read
returns-in-None-clause-read g c = as_told c.read.ensures.read (λ t found holds known. holds)
