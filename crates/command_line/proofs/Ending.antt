-- The end of a line whose output is flushed, and what is told of it.
use Rattle.std.proofs.Common.{◌≡◌, ◌⊎◌, ℕ, List, [], Option, inl, inr, sym, subst, append-nil, Ok, Err, Result}
use Rattle.std.specs.Prelude.{IfErr, OnOk}
use Rattle.texts.specs.Writing.{AppendsBeginning, Writes}
use Rattle.command_line.specs.declared.fault.Fault.{Fault}
use Rattle.command_line.specs.declared.fault.Fault.TheVariants.{Io}

-- what holds of the end holds of what it is then, or it was well and the output could not be flushed
pub flushed : (P : Result Unit Fault → Type 0) (end flush : Result Unit Fault) → IfErr end (λ fault. flush ≡ Err fault) → OnOk end ((flush ≡ Ok tt) ⊎ (flush ≡ Err Io))
    → P end → P flush ⊎ ((done : Unit) × P (Ok done) × (flush ≡ Err Io))
flushed P (Err fault) flush same end h = inl (subst P (sym same) h)
flushed P (Ok done) flush same (inl well) h = inl (subst P (sym well) h)
flushed P (Ok done) flush same (inr io) h = inr (done, h, io)

-- what was written is a beginning of the text, maybe all of it
pub begun : {X E : Type 0} (r : Result X E) (old new : Option (List ℕ)) (text : List ℕ) → Writes r old new text → AppendsBeginning old new text
begun (Ok x) old new text all = record { front = text; rest = []; parts = sym (append-nil text); written = all }
begun (Err e) old new text cut = cut
