use Rattle.slices.proofs.Words.{Vec, Global, ◌≡◌, ◌+◌, ◌<◌, length, take, List, [], ◌++◌, Ok, refl, sym, ap, subst, ◌∙◌, arith, take_all, state, SqliteFailure, OutOfMemory, IsRead, Each}
use Rattle.slices.proofs.ReadSteps.{read_none, has_read, read_on, so_told, fails_later, no_room_left}
use Rattle.slices.proofs.KnownSteps.{key_step}
use Rattle.slices.proofs.sought_rows.seek_all.Goals as goal

pub loop-key-init : goal.loop-key-init
loop-key-init g c =
    let old = state g.S.Store c.args.tx.now.conn.now in
    (refl, rw c.new-found.ensures.items (read_none {X = List _} (λ t rows. Each (λ j found. g.T.Sought.are_of j t found) [] rows) old [] (λ t. refl)))

pub returns-in_err-rows-clause-same_reference : goal.returns-in_err-rows-clause-same_reference
returns-in_err-rows-clause-same_reference g c = c.in_err-rows.ensures.same_reference ∙ c.loop-key.invariant.0

pub returns-in_err-rows-clause-read : goal.returns-in_err-rows-clause-read
returns-in_err-rows-clause-read g c = fails_later (has_read c.loop-key.invariant.1) c.from_residual.ensures c.in_err-rows.ensures.read

pub returns-in_err-extend_from_slice-clause-same_reference : goal.returns-in_err-extend_from_slice-clause-same_reference
returns-in_err-extend_from_slice-clause-same_reference g c = c.in_ok-rows.ensures.same_reference ∙ c.loop-key.invariant.0

pub returns-in_err-extend_from_slice-clause-read : goal.returns-in_err-extend_from_slice-clause-read
returns-in_err-extend_from_slice-clause-read g c = no_room_left (SqliteFailure OutOfMemory) (read_on (has_read c.loop-key.invariant.1) c.in_ok-rows.ensures.read) c.from_residual-in_err-extend_from_slice.ensures

pub loop-key-preserved : goal.loop-key-preserved
loop-key-preserved g c =
    let old = state g.S.Store c.args.tx.now.conn.now in
    let mid = state g.S.Store c.loop-key.tx.conn.now in
    let new = state g.S.Store c.read_rows.new.tx.conn.now in
    let are_of = g.T.Sought.are_of in
    let keys = c.args.keys.now in
    let i = c.loop-key.key-index in
    let less : i < length keys = omega arith in
    let step = key_step are_of {X = Vec _ Global} (λ v. v.items) old mid new keys i c.key-item.result c.loop-key.found.items c.in_ok-rows.rows less c.key-item.is c.loop-key.invariant.1 c.in_ok-rows.ensures.read in
    let grown : c.extend_from_slice.new.self.items ≡ c.loop-key.found.items ++ c.in_ok-rows.rows.items = c.in_ok-extend_from_slice.ensures.items ∙ ap (λ l. c.loop-key.found.items ++ l) c.as_slice.ensures.value in
    let next : IsRead {X = List _} (λ t rows. Each (λ j found. are_of j t found) (take (i + 1) keys) rows) old new (Ok c.extend_from_slice.new.self.items) =
    subst (λ (xs : List _). IsRead {X = List _} (λ t rows. Each (λ j found. are_of j t found) (take (i + 1) keys) rows) old new (Ok xs)) (sym grown) step in
    (c.in_ok-rows.ensures.same_reference ∙ c.loop-key.invariant.0, next)

pub returns-clause-same_reference : goal.returns-clause-same_reference
returns-clause-same_reference g c = c.loop-key.invariant.0

pub returns-clause-read : goal.returns-clause-read
returns-clause-read g c =
    let all : take c.loop-key.key-index c.args.keys.now ≡ c.args.keys.now = take_all _ c.args.keys.now c.loop-key-test.false in
    so_told {X = List _} (rw all at c.loop-key.invariant.1) (λ t h. h)
