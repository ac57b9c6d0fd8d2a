use Rattle.slices.proofs.Words.{◌≡◌, Option, Some, sym, subst, Tables, MetaRow, state, KnowsMeta, KnowsFollowed, Learning, Followed}
use Rattle.slices.proofs.ReadSteps.{read_none, fails_first, so_told}
use Rattle.slices.proofs.known_followed.known_meta.Goals as goal

pub returns-in-Some-clause-read : goal.returns-in-Some-clause-read
returns-in-Some-clause-read g c =
    read_none (Learning c.args.rows.now c.args.rows.now (λ t row. t.meta ≡ Some row)) (state g.S.Store c.args.tx.now.conn.now) c.in-Some.row
    (λ t known. (subst (λ (x : Option MetaRow). KnowsMeta t x) c.in-Some.is known.followed.meta, known))

pub returns-in_err-row-clause-read : goal.returns-in_err-row-clause-read
returns-in_err-row-clause-read g c = fails_first c.from_residual.ensures c.in_err-row.ensures.read

pub returns-clause-read : goal.returns-clause-read
returns-clause-read g c = so_told {P = λ (t : Tables) (row : MetaRow). t.meta ≡ Some row} c.in_ok-row.ensures.read (λ t there all. (
  there,
  record {
    items = all.items;
    least = all.least;
    bins = all.bins;
    recalls = all.recalls;
    followed = subst (λ (x : Followed). KnowsFollowed t x) (sym c.know_meta.ensures) (record { lots = all.followed.lots; lots_of = all.followed.lots_of; orders = all.followed.orders; urgents = all.followed.urgents; lines = all.followed.lines; lines_at = all.followed.lines_at; stock = all.followed.stock; staged = all.followed.staged; staged_for = all.followed.staged_for; reserved = all.followed.reserved; reserved_for = all.followed.reserved_for; meta = there });
  },
))
