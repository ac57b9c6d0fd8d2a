-- What the proofs of this crate say of what it stands on: each word from where it is defined.
pub use Rattle.std.specs.List.{count_by, find, list_any}
pub use Rattle.std.specs.Option.{ok_or}
pub use Rattle.std.specs.Prelude.{negsuc, nat_lt, All}
pub use Rattle.std.specs.Str.{bytes_eq, IsUtf8, is_utf8}
pub use Rattle.std.proofs.Common.{◌≡◌, ◌≢◌, ◌∙◌, ap, refl, ℕ, List, Bool, Option, Some, Err, if◌then◌else◌, codes, [], ◌∷◌, None, Ok, option_map, sym, ◌+◌, ◌<◌, length, take, drop, get_or, true, false, arith, add-one, drop-cons, suc, ◌++◌, append_assoc, append-nil, ◌≤◌, inl, inr, ◌-◌, min, MatchOption, Result, length-append, length-take, unwrap_or, rules, map}
pub use Rattle.std.proofs.Math.Seq.{take-append-add, take-length}
pub use Rattle.std.proofs.lemmas.Bool.{ne_eqb, not-false}
pub use Rattle.std.proofs.lemmas.Bool.Decides.{nat_tests}
pub use Rattle.std.proofs.lemmas.List.{drop_all, take-append-le, drop-append-le, take_min, at_drop_more, take_more}
pub use Rattle.std.proofs.lemmas.Option.{none-some}
pub use Rattle.std.proofs.lemmas.Result.{IfOk-weaker, IfErr-weaker}
pub use Rattle.std.proofs.lemmas.Slice.Eq.{bytes_eq-Decides}
pub use Rattle.std.proofs.lemmas.Str.{IsUtf8-from_is_utf8, is_utf8-from_IsUtf8}
pub use Rattle.httparse.specs.Grammar.{RequestHead}
pub use Rattle.httparse.specs.Spans.{header_bytes, IsHeaderWithin}
pub use Rattle.serde_json.specs.Data.{Data}
pub use Rattle.serde_json.specs.Errors.{IsMemory}
pub use Rattle.serde_json.specs.Read.{read}
pub use Rattle.serde_json.specs.View.{view, items_view}
pub use Rattle.serde_json.specs.declared.value.Value.{Value}
pub use Rattle.httparse.proofs.GrammarLemmas.{request_unique}
pub use Rattle.serde_json.proofs.Views.{members_len-members_view}
pub use Rattle.commands.specs.declared.command.Command.TheVariants.{Item, Count, Least, Urgent}
pub use Rattle.commands.specs.declared.command.OrderLine.{OrderLine}
pub use Rattle.commands.specs.declared.key.Key.TheVariants.{Plain}
pub use Rattle.requests.specs.Bodies.{body_of, line_of, lines_of}
pub use Rattle.requests.specs.Fields.{json, whole_at, delta_at}
pub use Rattle.requests.specs.Head.{length_value, body_length, head_end, BLANK_LINE, HEAD_MAX, fields_of, IsHead, is_named}
pub use Rattle.requests.specs.Laws.{needs_more, IsSettled}
pub use Rattle.requests.specs.Requests.{valued, posted, read_route, read_method, read_ask, second_segment, third_segment, inner_segment, fourth_segment, query_of, headless, after_head, answered, IsCutReading, IsReading, after_slash, before_slash}
pub use Rattle.requests.specs.Routes.{route_of, method_of, method_name, add_all, listed}
unfoldable pub use Rattle.requests.specs.Routes.{table}
pub use Rattle.requests.specs.declared.ask.Ask.{Ask}
pub use Rattle.requests.specs.declared.ask.Ask.TheVariants.{Do, GoodsIn as FileOf}
pub use Rattle.requests.specs.declared.ask.Query.TheVariants.{Card as CardOf, OpenOrders as OpenOrdersFrom, Bin as BinFrom}
pub use Rattle.requests.specs.declared.fault.WireFault.{WireFault}
pub use Rattle.requests.specs.declared.fault.WireFault.TheVariants.{Field, Method, Length, Path, TooLarge, Head}
pub use Rattle.requests.specs.declared.method.Method.TheVariants.{Get, Post}
pub use Rattle.requests.specs.declared.request.Read.{Read}
pub use Rattle.requests.specs.declared.request.Read.TheVariants.{Need, Bad}
pub use Rattle.requests.specs.declared.routes.Posted.{Posted}
pub use Rattle.requests.specs.declared.routes.Posted.TheVariants.{Items, Bins, Receipts, Counts, Orders, Recalls, Days, Leasts, Urgents, GoodsIn}
pub use Rattle.requests.specs.declared.routes.Route.{Route}
pub use Rattle.requests.specs.declared.routes.Route.TheVariants.{Post as PostTo, Get as GetOf}
pub use Rattle.requests.specs.declared.routes.Shown.TheVariants.{Order as AnOrder, Stock as TheStock, PickList as APickList, Shortages as TheShortages, Card, Notice as ANotice, Books, OpenOrders, OpenOrdersBehind, ItemNames, ItemNamesBehind, Expiring, ExpiringBehind, Bin, BinBehind}
pub use Rattle.requests.specs.declared.routes.Shown.TheVariants.{Trace as ATrace}
pub use Rattle.requests.specs.declared.routes.Shown.TheVariants.{Picks as PicksShown, Figures}
pub use Rattle.requests.specs.declared.ask.Query.TheVariants.{Picks as PicksOf}
