-- How the units of the lines of an order are summed.
use Rattle.views.proofs.Words.{◌≡◌, ℕ, ◌+◌, ◌<◌, ◌≤◌, Bool, true, false, List, length, get_or, refl, ap, sym, subst, ◌∙◌, arith, min, if◌then◌else◌, filter, same_text, total, LineRow, OrderRow, ReservedRow, StagedRow, CAP, capped, IsCapped, capped_none, capped_more, capped_all, total_given, line_units, no_units, with_units, of_order, order_units, OrderUnits}

-- the lines of an order tell its units
pub units_of_own : (own lines : List LineRow) (staged : List StagedRow) (reserved : List ReservedRow) (o : OrderRow) → filter (λ l. same_text o.order l.order) own ≡ filter (λ l. same_text o.order l.order) lines
    → order_units own staged reserved o ≡ order_units lines staged reserved o
units_of_own own lines staged reserved o same =
    λ i. record { ordered = sum (λ u. u.ordered) i; reserved = sum (λ u. u.reserved) i; shipped = sum (λ u. u.shipped) i; short = sum (λ u. u.short) i; staged = sum (λ u. u.staged) i }
  where
    sum : (get : OrderUnits → ℕ) → capped (total (of_order o (λ l. get (line_units staged reserved o l))) own) ≡ capped (total (of_order o (λ l. get (line_units staged reserved o l))) lines)
    sum get =
        ap capped
        (total_given (of_order o (λ l. get (line_units staged reserved o l))) (λ l. same_text o.order l.order) (λ l e. ap (λ b. if b then get (line_units staged reserved o l) else 0) e) own lines same)

-- Line after line

pub record AreSummed (lines : List LineRow) (on_stages : List StagedRow) (shares : List ReservedRow) (o : OrderRow) (i : ℕ) (units : OrderUnits) : Type 0 where
  pub ordered : IsCapped (of_order o (λ l. (line_units on_stages shares o l).ordered)) lines i units.ordered
  pub reserved : IsCapped (of_order o (λ l. (line_units on_stages shares o l).reserved)) lines i units.reserved
  pub shipped : IsCapped (of_order o (λ l. (line_units on_stages shares o l).shipped)) lines i units.shipped
  pub short : IsCapped (of_order o (λ l. (line_units on_stages shares o l).short)) lines i units.short
  pub staged : IsCapped (of_order o (λ l. (line_units on_stages shares o l).staged)) lines i units.staged

pub summed_none : (lines : List LineRow) (staged : List StagedRow) (reserved : List ReservedRow) (o : OrderRow) (units : OrderUnits) → units ≡ no_units → AreSummed lines staged reserved o 0 units
summed_none lines staged reserved o units e = subst (AreSummed lines staged reserved o 0) (sym e) (record {
  ordered = capped_none _ lines;
  reserved = capped_none _ lines;
  shipped = capped_none _ lines;
  short = capped_none _ lines;
  staged = capped_none _ lines;
})

either : (b : Bool) (get : OrderUnits → ℕ) (u v : OrderUnits) → get (if b then u else v) ≡ (if b then get u else get v)
either true get u v = refl
either false get u v = refl

one_more : (b : Bool) (sum more : ℕ) → sum ≤ CAP → (if b then min (sum + more) CAP else sum) ≡ min (sum + (if b then more else 0)) CAP
one_more true sum more h = refl
one_more false sum more h = omega arith

pub summed_more : (lines : List LineRow) (staged : List StagedRow) (reserved : List ReservedRow) (o : OrderRow) (i : ℕ) (units : OrderUnits) (none : LineRow) (new : OrderUnits) → i < length lines → AreSummed lines staged reserved o i units
    → new ≡ (if same_text o.order (get_or lines i none).order then with_units units (line_units staged reserved o (get_or lines i none)) else units) → AreSummed lines staged reserved o (i + 1) new
summed_more lines staged reserved o i units none new h s e =
    let line : LineRow = get_or lines i none in
    let b : Bool = same_text o.order line.order in
    let more : OrderUnits = line_units staged reserved o line in
    let sum : OrderUnits = with_units units more in
    record {
      ordered = capped_more _ lines i units.ordered new.ordered none h s.ordered (ap (λ (u : OrderUnits). u.ordered) e ∙ either b (λ u. u.ordered) sum units ∙ one_more b units.ordered more.ordered s.ordered.within);
      reserved = capped_more _ lines i units.reserved new.reserved none h s.reserved (ap (λ (u : OrderUnits). u.reserved) e ∙ either b (λ u. u.reserved) sum units ∙ one_more b units.reserved more.reserved s.reserved.within);
      shipped = capped_more _ lines i units.shipped new.shipped none h s.shipped (ap (λ (u : OrderUnits). u.shipped) e ∙ either b (λ u. u.shipped) sum units ∙ one_more b units.shipped more.shipped s.shipped.within);
      short = capped_more _ lines i units.short new.short none h s.short (ap (λ (u : OrderUnits). u.short) e ∙ either b (λ u. u.short) sum units ∙ one_more b units.short more.short s.short.within);
      staged = capped_more _ lines i units.staged new.staged none h s.staged (ap (λ (u : OrderUnits). u.staged) e ∙ either b (λ u. u.staged) sum units ∙ one_more b units.staged more.staged s.staged.within);
    }

pub summed_all : (lines : List LineRow) (staged : List StagedRow) (reserved : List ReservedRow) (o : OrderRow) (i : ℕ) (units : OrderUnits) → i ≡ length lines → AreSummed lines staged reserved o i units → units ≡ order_units lines staged reserved o
summed_all lines staged reserved o i units e s = λ j. record {
  ordered = capped_all _ lines i units.ordered e s.ordered j;
  reserved = capped_all _ lines i units.reserved e s.reserved j;
  shipped = capped_all _ lines i units.shipped e s.shipped j;
  short = capped_all _ lines i units.short e s.short j;
  staged = capped_all _ lines i units.staged e s.staged j;
}
