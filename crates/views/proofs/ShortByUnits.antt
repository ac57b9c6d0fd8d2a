-- What a line is short of is told by the rows of units of its order and item.
use Rattle.views.proofs.Words.{◌≡◌, ◌-◌, Bool, ◌&&◌, List, ap, if◌then◌else◌, filter, same_text, LineRow, OrderRow, ReservedRow, StagedRow, of_item, total_given, is_cancelled_state, line_short}

pub short_by_own : (o : OrderRow) (l : LineRow) (on_stage staged : List StagedRow) (taken reserved : List ReservedRow)
    → filter (λ r. same_text o.order r.order && of_item l.gtin r.lot) on_stage ≡ filter (λ r. same_text o.order r.order && of_item l.gtin r.lot) staged
    → filter (λ r. same_text o.order r.order && of_item l.gtin r.lot) taken ≡ filter (λ r. same_text o.order r.order && of_item l.gtin r.lot) reserved → line_short on_stage taken o l ≡ line_short staged reserved o l
short_by_own o l on_stage staged taken reserved same_staged same_reserved =
    let is_staged : StagedRow → Bool = λ r. same_text o.order r.order && of_item l.gtin r.lot in
    let is_reserved : ReservedRow → Bool = λ r. same_text o.order r.order && of_item l.gtin r.lot in
    let s = total_given (λ r. if is_staged r then r.qty else 0) is_staged (λ r e. ap (λ b. if b then r.qty else 0) e) on_stage staged same_staged in
    let t = total_given (λ r. if is_reserved r then r.qty else 0) is_reserved (λ r e. ap (λ b. if b then r.qty else 0) e) taken reserved same_reserved in
    λ i. (if is_cancelled_state o.state then 0 else l.ordered - s i - l.shipped) - t i
