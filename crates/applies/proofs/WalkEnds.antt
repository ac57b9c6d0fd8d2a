-- How the walk over the rows of the acts ended, and what a stop leaves then.
use Rattle.applies.proofs.Words.{ℕ, List, Option, Err, inl, inr, refl, sym, subst, arith, ◌⊎◌, ℤ, State, HasCleanDisk, Survives, survives_then, survives_weaker, Trees, ReachesWithin, Act, HandsRecords, NoBooks, Fault, IsNoMisfit, HasBroken, MissesLine, LineFault, KnownLines, IsOfNoLine, IsToldAs, ArePassed, NotApplied}
use Rattle.store.specs.declared.fault.Fault.TheVariants as store
use Rattle.store.specs.declared.each_fault.EachFault.TheVariants as each
use Rattle.histories.specs.declared.line_fault.LineFault.TheVariants as line

own_told : (l : LineFault) (known : ℕ) (fault : NotApplied) → IsNoMisfit l → IsToldAs l known fault → IsOfNoLine fault
own_told line.Memory known fault own is = subst IsOfNoLine (sym is) tt
own_told line.Input known fault own is = subst IsOfNoLine (sym is) tt
own_told line.Foreign known fault own is = subst IsOfNoLine (sym is) tt
own_told (line.Differs n) known fault own is = absurd own
own_told line.OutOfTurn known fault own is = absurd own

pub stop_told : {R : Type 0} (remaining : R → Option (List ℕ)) (left : Option (List ℕ)) (begun : ℤ) (acts : List Act) (after : KnownLines R) (fault : NotApplied) → IsToldAs after.fault after.known fault
    → (IsNoMisfit after.fault × HasBroken remaining left begun acts) ⊎ MissesLine remaining left begun acts after.fault after → ArePassed remaining left begun acts (Err fault) after
stop_told remaining left begun acts after fault is h = elim h [
  | inl own ↦ inl (own_told after.fault after.known fault own.0 is, own.1)
  | inr miss ↦ inr (after.fault, is, miss)
]

-- on the books of a history the rows break off for want of memory or of the disk alone
pub part_handed : {X K : Type 0} (takes stops : K → X → K → Type 0) (rows : List X) (before after : K) (f : Fault) → HandsRecords takes stops rows before after (Err (each.Fault f)) → ReachesWithin takes before rows after
part_handed takes stops rows before after (store.Refused why) h = absurd h
part_handed takes stops rows before after store.Store h = h
part_handed takes stops rows before after store.Foreign h = absurd h

-- ---- what a stop leaves

pub survives_itself : (s : State) (P : Trees → Type 0) → Survives s s P
survives_itself s P = record { clean = omega arith; shield = λ h. h; counts = omega arith; limit = refl; closes = λ _ h. inl h; crash = λ _ db h. inl h }

-- of a call that commits nothing on books of a history
pub none_left : (a b : State) (P : Trees → Type 0) → Survives a b (NoBooks a) → ((trees : Trees) → NoBooks a trees → P trees) → Survives a b P
none_left a b P one none = survives_weaker a b (NoBooks a) P (λ _ trees h. none trees h) one

pub then_left : (a b c : State) (P Q R : Trees → Type 0) → Survives a b P → Survives b c Q → (HasCleanDisk c → (trees : Trees) → P trees → R trees) → (HasCleanDisk c → (trees : Trees) → Q trees → R trees) → Survives a c R
then_left a b c P Q R one two f g = survives_then a b c P Q R f g one two
