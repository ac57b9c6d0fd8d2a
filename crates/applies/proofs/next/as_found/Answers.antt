use Rattle.applies.proofs.Words.{◌<◌, ◌^◌, inr, rules, subst, Reads}
use Rattle.applies.proofs.NextLine.{none_read, placed_at}
use Rattle.applies.proofs.next.as_found.Goals as goal

pub as_next-requires-clause-reads : goal.as_next-requires-clause-reads
as_next-requires-clause-reads c = subst (Reads c.args.line.now) c.in-Some.is c.requires.reads

pub returns-in-None : goal.returns-in-None
returns-in-None c =
    let low : c.args.number < 2 ^ 64 = search rules in
    inr (
      placed_at c.args.at.now c.args.line.now c.args.number c.args.place _ c.requires.number c.requires.place c.misplaced.ensures,
      none_read c.args.at.now c.args.line.now c.args.number c.requires.number low (subst (Reads c.args.line.now) c.in-None.is c.requires.reads),
    )
