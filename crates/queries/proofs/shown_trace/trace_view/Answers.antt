use Rattle.queries.proofs.Words.{◌≡◌, List, [], Option, Some, None, filter, refl, ap, sym, subst, ◌∙◌, Vec, Global, CardRow, LeastRow, OrderRow, StagedRow, ShippedUnits, bins_seen}
use Rattle.commands.specs.declared.rows.CardKind.TheVariants.{Receipt, WriteOn, WriteOff}
use Rattle.row_rules.specs.Plans.{inserted}
use Rattle.row_rules.specs.Seen.{capped}
use Rattle.row_rules.specs.Status.{status_seen, least_seen}
use Rattle.overviews.specs.Traces.{units_of_kind}
use Rattle.overviews.specs.declared.trace.Delivery.{Delivery}
use Rattle.overviews.specs.declared.trace.StagedUnits.{StagedUnits}
use Rattle.queries.specs.Telling.{AreToldOf}
use Rattle.queries.specs.Traced.{IsDelivery, IsStaged, is_receipt, order_before}
use Rattle.queries.proofs.TraceRight.{trace_right, none_came, none_went, none_stands, some_items}
use Rattle.queries.proofs.shown_trace.trace_view.Goals as goal

pub returns-in-Some-Some-Some : goal.returns-in-Some-Some-Some
returns-in-Some-Some-Some c first acts history is_day are =
    let l = c.args.of.now in
    let rows = c.args.found in
    let came = subst (λ (cs : List CardRow). AreToldOf IsDelivery (filter is_receipt cs) c.in_ok-deliveries.deliveries) c.as_slice-4.ensures.value c.in_ok-deliveries.ensures in
    let stands = subst (λ (os : List OrderRow). AreToldOf (IsStaged os) (inserted order_before [] rows.staged.items) c.in_ok-stages.stages) c.as_slice-2.ensures.value
    (subst (λ (ss : List StagedRow). AreToldOf (IsStaged c.as_slice-2.result.now) (inserted order_before [] ss) c.in_ok-stages.stages) c.as_slice-3.ensures.value c.in_ok-stages.ensures) in
    let is_came : ◌≡◌ {A = Option (Vec Delivery Global)} c.in_ok-deliveries.deliveries (Some c.in-Some-Some-Some.deliveries) = cc (c.in-Some-Some-Some.is-0) in
    let is_went : ◌≡◌ {A = Option (Vec ShippedUnits Global)} rows.shipments (Some c.in-Some-Some-Some.shipments) = cc (c.in-Some-Some-Some.is-1) in
    let is_stands : ◌≡◌ {A = Option (Vec StagedUnits Global)} c.in_ok-stages.stages (Some c.in-Some-Some-Some.staged) = cc (c.in-Some-Some-Some.is-2) in
    trace_right first acts l history rows are _ (record {
      act = refl;
      bins = c.from_vec.ensures ∙ c.in_ok-bins.ensures ∙ ap (λ stock. bins_seen stock l) c.as_slice.ensures.value;
      came = (c.in_ok-deliveries.deliveries, came, some_items c.in_ok-deliveries.deliveries c.in-Some-Some-Some.deliveries c.from_vec-in-Some-Some-Some.result is_came c.from_vec-in-Some-Some-Some.ensures);
      expiry = refl;
      item = refl;
      lot = refl;
      off = c.units_of_kind.ensures ∙ ap (λ (cs : List CardRow). capped (units_of_kind WriteOff cs)) c.as_slice-in-Some-Some-Some.ensures.value;
      on = c.units_of_kind-in-Some-Some-Some.ensures ∙ ap (λ (cs : List CardRow). capped (units_of_kind WriteOn cs)) c.as_slice-in-Some-Some-Some-2.ensures.value;
      received = c.units_of_kind-in-Some-Some-Some-2.ensures ∙ ap (λ (cs : List CardRow). capped (units_of_kind Receipt cs)) c.as_slice-in-Some-Some-Some-3.ensures.value;
      went = some_items rows.shipments c.in-Some-Some-Some.shipments c.from_vec-in-Some-Some-Some-2.result is_went c.from_vec-in-Some-Some-Some-2.ensures;
      stands = (c.in_ok-stages.stages, stands, some_items c.in_ok-stages.stages c.in-Some-Some-Some.staged c.from_vec-in-Some-Some-Some-3.result is_stands c.from_vec-in-Some-Some-Some-3.ensures);
      status =
          c.lot_status-status.ensures
          ∙ (λ i. status_seen (sym is_day i) ((c.least_days-days.ensures.value ∙ ap (λ (rs : List LeastRow). least_seen rs l.gtin) c.as_slice-5.ensures.value) i) (c.as_slice-6.ensures.value i) rows.lot);
    })

pub returns-in-None-default-default : goal.returns-in-None-default-default
returns-in-None-default-default c first acts history is_day are =
    let came = subst (λ (cs : List CardRow). AreToldOf IsDelivery (filter is_receipt cs) c.in_ok-deliveries.deliveries) c.as_slice-4.ensures.value c.in_ok-deliveries.ensures in
    let none : ◌≡◌ {A = Option (Vec Delivery Global)} c.in_ok-deliveries.deliveries None = cc (c.in-None-default-default.is-0) in
    absurd (none_came first acts c.args.of.now history c.args.found are c.in_ok-deliveries.deliveries came none)

pub returns-in-Some-None-default : goal.returns-in-Some-None-default
returns-in-Some-None-default c first acts history is_day are =
    let none : ◌≡◌ {A = Option (Vec ShippedUnits Global)} c.args.found.shipments None = cc (c.in-Some-None-default.is-1) in
    absurd (none_went first acts c.args.of.now history c.args.found are none)

pub returns : goal.returns
returns c first acts history is_day are =
    let rows = c.args.found in
    let stands = subst (λ (os : List OrderRow). AreToldOf (IsStaged os) (inserted order_before [] rows.staged.items) c.in_ok-stages.stages) c.as_slice-2.ensures.value
    (subst (λ (ss : List StagedRow). AreToldOf (IsStaged c.as_slice-2.result.now) (inserted order_before [] ss) c.in_ok-stages.stages) c.as_slice-3.ensures.value c.in_ok-stages.ensures) in
    let none : ◌≡◌ {A = Option (Vec StagedUnits Global)} c.in_ok-stages.stages None = cc (c.in-Some-Some-None.is-2) in
    absurd (none_stands first acts c.args.of.now history rows are c.in_ok-stages.stages stands none)
