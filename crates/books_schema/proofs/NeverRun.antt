-- A statement that begins a transaction is read whatever the schema: that it is not made ready comes of memory or of the disk.
use Rattle.books_schema.proofs.Words.{◌≡◌, ◌≤◌, ◌∙◌, [], ap, arith, inl, inr, length, refl, subst, sym, IsTrue, Ok, Schema, Begin, State, Error, compiled, Compiled, Row, plan, IsOfFault, NEVER_RUN, understood}
use Rattle.sqlite_trees.specs.declared.error.StoreError.TheVariants as stored
use Rattle.sqlite_tied.specs.Compute.{everything}
use Rattle.sqlite.specs.State.{IsNotRun}
use Rattle.books_schema.proofs.TextsRead.{understood_as}

begin_means : (schema : Schema) → compiled schema NEVER_RUN.now ≡ Ok (plan 5 Begin)
unfolding everything
begin_means schema = refl

begin_is_read : (schema : Schema) → understood schema NEVER_RUN.now ≡ Ok (plan 5 Begin)
begin_is_read schema = understood_as schema NEVER_RUN.now _ (begin_means schema) refl

is_begin : (schema : Schema) → (c : Compiled) → understood schema NEVER_RUN.now ≡ Ok c → c ≡ plan 5 Begin
is_begin schema c is = let one = sym is ∙ begin_is_read schema in cc

abbrev no_params : Row
no_params = []

pub of_fault : (old new : State) (e : Error) → IsTrue old.is_open → IsNotRun old new NEVER_RUN.now [] e → IsOfFault old new e
unfolding IsNotRun
of_fault old new e up (inl (inl (fault, bad, told), same)) = absurd (let no = sym bad ∙ begin_is_read old.now.schema in cc)
of_fault old new e up (inl (inr (c, is, inl (short, told)), same)) = absurd (let read = is_begin old.now.schema c is in let whole : 5 ≤ 5 = omega arith in short (subst (λ (it : Compiled). length NEVER_RUN.now ≤ it.tail) (sym read) whole))
of_fault old new e up (inl (inr (c, is, inr (inl (other, told))), same)) = absurd (let read = is_begin old.now.schema c is in other (subst (λ (it : Compiled). length no_params ≡ length it.names) (sym read) refl))
of_fault old new e up (inl (inr (c, is, inr (inr (timed, told))), same)) = absurd (let read = is_begin old.now.schema c is in timed (ap (λ (it : Compiled). it.formats) read))
of_fault old new e up (inr (stored.OutOfMemory, is, why, back, told)) = inl is
of_fault old new e up (inr (stored.Io, is, why, back, told)) = inr why
of_fault old new e up (inr (stored.Corrupt, is, why, back, told)) = inr why
of_fault old new e up (inr (stored.Full, is, why, back, told)) = inr why
of_fault old new e up (inr (stored.Broken, is, why, back, told)) = absurd (let no = sym why ∙ up in cc)
of_fault old new e up (inr (stored.Unstorable, is, why, back, told)) = absurd why
