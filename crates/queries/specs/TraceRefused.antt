-- What the tables have nothing of, the machine refuses of a trace.
use Rattle.std.specs.Prelude.{◌≡◌}
use Rattle.queries.specs.Words.{ℤ, List, Option, Some, None, Result, Ok, Err, option_map, ap, LotId, Refusal, UnknownItem, UnknownLot, ItemRow, LotRow, Act, KnownLot, lot_known, is_held, tables_of, item_row, if_known}
use Rattle.overviews.specs.Traces.{trace_view}
use Rattle.overviews.specs.declared.trace.TraceView.{TraceView}
use Rattle.queries.specs.ShownNotice.{whole}
use Rattle.queries.specs.Traced.{trace_head_of, trace_head_in, whole_trace_shown}

module _ (first : ℤ) (acts : List Act) (l : LotId) where
  abbrev pub lot_of : KnownLot → LotRow
  lot_of k = record { lot = k.lot; expiry = k.expiry; came = k.came; held = is_held acts k.lot }

  refused_by : (item : Option ItemRow) (known : Option KnownLot) (why : Refusal) → Err why ≡ trace_head_of item (option_map lot_of known)
      → if_known item UnknownItem (λ i. if_known known UnknownLot (λ k. Ok (trace_view first acts i k))) ≡ Err why
  refused_by None known why e = let same : UnknownItem ≡ why = cc in ap (λ w. let r : Result TraceView Refusal = Err w in r) same
  refused_by (Some item) None why e = let same : UnknownLot ≡ why = cc in ap (λ w. let r : Result TraceView Refusal = Err w in r) same
  refused_by (Some item) (Some k) why e = absurd cc

  pub trace_refused : (why : Refusal) → Err why ≡ trace_head_in (tables_of first acts) l → whole_trace_shown first acts l ≡ Err why
  unfolding tables_of
  trace_refused why e = ap (whole {V = TraceView}) (refused_by (item_row acts l.gtin) (lot_known acts l) why e)
