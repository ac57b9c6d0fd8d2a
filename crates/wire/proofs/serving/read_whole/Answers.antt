use Rattle.wire.proofs.Words.{[], inl, sym, subst, refl, append-nil, Consumes, Consumes-nil, IsReading, Need}
use Rattle.wire.proofs.Bounded.{bounded}
use Rattle.wire.proofs.ReadOn.{needing_has_memory, settled, nearer, taken_on, at_stop}
use Rattle.wire.proofs.serving.read_whole.Goals as goal

pub loop-fault-init : goal.loop-fault-init
loop-fault-init g c =
    let start = g.R.Read.remaining c.args.reader.now in
    subst (Consumes start start) (sym c.new-text.ensures.items) (Consumes-nil start)

pub loop-fault-smaller : goal.loop-fault-smaller
loop-fault-smaller g c =
    let need = Need c.in-Need.fault in
    nearer _ _ _ _ c.in_ok-stop.stop 270_400 c.in-More.is c.in_ok-stop.ensures.taken
    (bounded c.loop-fault.text.items need (subst (λ t. IsReading t need) c.as_slice.ensures.value (c.in-Need.ensures (needing_has_memory need refl))) refl)

pub loop-fault-preserved : goal.loop-fault-preserved
loop-fault-preserved g c = taken_on _ _ _ _ _ c.in_ok-stop.stop c.in-More.is c.loop-fault.invariant c.in_ok-stop.ensures.taken

pub returns-in_default-clause-read : goal.returns-in_default-clause-read
returns-in_default-clause-read g c = record {
  text = c.loop-fault.text.items;
  taken = c.loop-fault.invariant;
  read = λ has. subst (λ t. IsReading t c.read_request.result) c.as_slice.ensures.value (c.read_request.ensures has);
  whole = inl (settled c.read_request.result c.in_default.not-Need);
  lost = [];
  parts = sym (append-nil c.loop-fault.text.items);
  kept = inl refl;
}

pub returns-in_default-2-clause-read : goal.returns-in_default-2-clause-read
returns-in_default-2-clause-read g c =
    let need = Need c.in-Need.fault in
    rw c.end_reading-reading.ensures
    (at_stop _ _ _ _ _ c.in_ok-stop.stop need c.in_default-2.not-More c.loop-fault.invariant
    (λ has. subst (λ t. IsReading t need) c.as_slice.ensures.value (c.in-Need.ensures has)) c.in_ok-stop.ensures.taken)
