use Rattle.slices.proofs.Words.{Vec, Global, ◌≡◌, ◌+◌, ◌<◌, length, take, List, ◌++◌, Ok, sym, ap, subst, ◌∙◌, arith, Option, IfSome, take_all, Tables, state, SqliteFailure, OutOfMemory, IsRead, Each, Knowing, Remembers}
use Rattle.slices.proofs.ReadSteps.{read_none, has_read, read_on, so_told, fails_later, no_room_left}
use Rattle.slices.proofs.KnowingSteps.{known_step}
use Rattle.slices.proofs.sought.seek_all_known.Goals as goal

pub returns-in_err-rows-clause-read : goal.returns-in_err-rows-clause-read
returns-in_err-rows-clause-read g c = fails_later (has_read c.loop-key.invariant.1) c.from_residual-in_err-rows.ensures c.in_err-rows.ensures.read

pub returns-in_err-extend_from_slice-clause-read : goal.returns-in_err-extend_from_slice-clause-read
returns-in_err-extend_from_slice-clause-read g c = no_room_left (SqliteFailure OutOfMemory) (has_read c.loop-key.invariant.1) c.from_residual.ensures

pub returns-in_err-extend_from_slice-2-clause-read : goal.returns-in_err-extend_from_slice-2-clause-read
returns-in_err-extend_from_slice-2-clause-read g c = no_room_left (SqliteFailure OutOfMemory) (read_on (has_read c.loop-key.invariant.1) c.in_ok-rows.ensures.read) c.from_residual-in_err-extend_from_slice-2.ensures

-- what is known goes behind what was found
pub loop-key-preserved-in-Some : goal.loop-key-preserved-in-Some
loop-key-preserved-in-Some g c =
    let old = state g.S.Store c.args.tx.now.conn.now in
    let mid = state g.S.Store c.loop-key.tx.conn.now in
    let are_of = g.T.Sought.are_of in
    let keys = c.args.keys.now in
    let i = c.loop-key.key-index in
    let key = c.key-item.result in
    let rows = c.in-Some.rows.now in
    let less : i < length keys = omega arith in
    let knew = λ (t : Tables). Remembers g.K.Ord.cmp g.K.KeyOf.key (λ by found. are_of by t found) c.args.known.now.rows in
    let knows = λ (t : Tables). Remembers g.K.Ord.cmp g.K.KeyOf.key (λ by found. are_of by t found) c.loop-key.known.rows in
    let told = read_none {X = List _} (Knowing knows knows (λ t found. are_of key t found)) mid rows (λ t known. (subst (λ (x : Option (List _)). IfSome x (are_of key t)) (sym c.in-Some.ensures) (known key), known)) in
    let step = known_step are_of {X = List _} (λ found. found) knew knows knows old mid mid keys i key c.loop-key.found.items rows less c.key-item.is c.loop-key.invariant.1 told in
    let next : IsRead {X = List _} (Knowing knew knows (λ t found. Each (λ j part. are_of j t part) (take (i + 1) keys) found)) old mid (Ok c.extend_from_slice.new.self.items) =
    subst (λ (xs : List _). IsRead {X = List _} (Knowing knew knows (λ t found. Each (λ j part. are_of j t part) (take (i + 1) keys) found)) old mid (Ok xs)) (sym c.in_ok-extend_from_slice.ensures.items) step in
    (c.loop-key.invariant.0, next)

pub loop-key-preserved : goal.loop-key-preserved
loop-key-preserved g c =
    let old = state g.S.Store c.args.tx.now.conn.now in
    let mid = state g.S.Store c.loop-key.tx.conn.now in
    let new = state g.S.Store c.seek_known.new.tx.conn.now in
    let are_of = g.T.Sought.are_of in
    let keys = c.args.keys.now in
    let i = c.loop-key.key-index in
    let less : i < length keys = omega arith in
    let step = known_step are_of {X = Vec _ Global} (λ v. v.items)
    (λ t. Remembers g.K.Ord.cmp g.K.KeyOf.key (λ by rows. are_of by t rows) c.args.known.now.rows) (λ t. Remembers g.K.Ord.cmp g.K.KeyOf.key (λ by rows. are_of by t rows) c.loop-key.known.rows) (λ t. Remembers g.K.Ord.cmp g.K.KeyOf.key (λ by rows. are_of by t rows) c.seek_known.new.known.rows)
    old mid new keys i c.key-item.result c.loop-key.found.items c.in_ok-rows.rows less c.key-item.is c.loop-key.invariant.1 c.in_ok-rows.ensures.read in
    let grown : c.extend_from_slice-in-loop-key.new.self.items ≡ c.loop-key.found.items ++ c.in_ok-rows.rows.items = c.in_ok-extend_from_slice-2.ensures.items ∙ ap (λ l. c.loop-key.found.items ++ l) c.as_slice.ensures.value in
    let next : IsRead {X = List _} (Knowing (λ t. Remembers g.K.Ord.cmp g.K.KeyOf.key (λ by rows. are_of by t rows) c.args.known.now.rows) (λ t. Remembers g.K.Ord.cmp g.K.KeyOf.key (λ by rows. are_of by t rows) c.seek_known.new.known.rows)
    (λ t rows. Each (λ j found. are_of j t found) (take (i + 1) keys) rows)) old new (Ok c.extend_from_slice-in-loop-key.new.self.items) =
    subst (λ (xs : List _). IsRead {X = List _} (Knowing (λ t. Remembers g.K.Ord.cmp g.K.KeyOf.key (λ by rows. are_of by t rows) c.args.known.now.rows) (λ t. Remembers g.K.Ord.cmp g.K.KeyOf.key (λ by rows. are_of by t rows) c.seek_known.new.known.rows)
    (λ t rows. Each (λ j found. are_of j t found) (take (i + 1) keys) rows)) old new (Ok xs)) (sym grown) step in
    (c.in_ok-rows.ensures.same_reference ∙ c.loop-key.invariant.0, next)

pub returns-clause-read : goal.returns-clause-read
returns-clause-read g c =
    let all : take c.loop-key.key-index c.args.keys.now ≡ c.args.keys.now = take_all _ c.args.keys.now c.loop-key-test.false in
    so_told {X = List _} (rw all at c.loop-key.invariant.1) (λ t h. h)
