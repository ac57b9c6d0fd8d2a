use Rattle.acts_files.proofs.Words.{rules, ◌≡◌, ◌≤◌, ◌+◌, true, false, length, sym, ◌∙◌, arith, Decides-eqb, slice_eq-Decides}
use Rattle.acts_files.proofs.Read.{other}
use Rattle.acts_files.proofs.beside.has_there.Goals as goal

pub returns-clause-other : goal.returns-clause-other
returns-clause-other g c isnt clean size holds =
    let room : c.args.at + length c.args.bytes.now ≤ c.args.size = search rules in
    other (g.D.Disk.seen c.args.disk.now) c.in_ok-found.found.items c.args.bytes.now c.args.at c.in_ok-found.ensures.long (c.in_ok-found.ensures.read clean (omega (arith, room, size)))
    (λ e. let hit : c.eq.result ≡ true = (slice_eq-Decides Decides-eqb _ _ _ c.eq.ensures).1 (c.as_slice.ensures.value ∙ e) in let both : true ≡ false = sym hit ∙ isnt in cc) holds
