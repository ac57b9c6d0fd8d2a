use Rattle.label.proofs.Words.{rules, arith, FitsSigned, w32, w64, signed_arith}
use Rattle.std.proofs.lemmas.Int.{to_z-of_z}
use Rattle.label.proofs.DayNumbers.{day_bounds, epoch_is_zero}
use Rattle.label.proofs.day.Day.civil.Goals as goal

pub returns-in-Ok-clause-value : goal.returns-in-Ok-clause-value
returns-in-Ok-clause-value c =
    let zero_day = epoch_is_zero c.date.result c.date.ensures in
    let within = day_bounds c.self.inside.number c.self.invariant in
    let small : FitsSigned w32 c.self.inside.number = omega (arith, signed_arith) in
    let large : FitsSigned w64 c.self.inside.number = omega (arith, signed_arith) in
    let value = simp to_z-of_z at c.in-Ok.ensures.value in
    rw (c.from_plain.ensures, value, c.to_plain-epoch.ensures, zero_day) search rules

pub returns-in-Err-clause-value : goal.returns-in-Err-clause-value
returns-in-Err-clause-value c =
    let zero_day = epoch_is_zero c.date.result c.date.ensures in
    let within = day_bounds c.self.inside.number c.self.invariant in
    let small : FitsSigned w32 c.self.inside.number = omega (arith, signed_arith) in
    let large : FitsSigned w64 c.self.inside.number = omega (arith, signed_arith) in
    let fails = simp to_z-of_z at c.in-Err.ensures.succeeds in
    let from_zero = rw (c.to_plain-epoch.ensures, zero_day) at fails in
    cc (from_zero.1 (omega (arith, signed_arith), omega (arith, signed_arith)))
