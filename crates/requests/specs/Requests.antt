-- Which request a text reads as. A text is judged in steps; the first that fails gives the fault (`wire_code`).
--   1  the end of the head: `head_end`, `headless`
--   2  the head: `IsHead`
--   3  the length of the body: `body_length`
--   4  the body: `after_head`
--   5  the path: `route_of`
--   6  the method: `read_method`
--   7  of a GET, the values in the path: `query_of`
--   8  of a POST, the body as JSON: `json`
--   9  its fields: `body_of`
-- A definition stands after those that it uses, so the steps are read from `IsReading`, at the end, upwards.
use Rattle.std.specs.Prelude.{◌≡◌, ℕ, ℤ, List, [], ◌∷◌, length, take, drop, ◌==◌, nat_lt, if◌then◌else◌, Option, Some, None, option_map, option_and_then, Result, Ok, Err, MatchOption, ◌⊎◌}
use Rattle.std.specs.Str.{bytes_eq}
use Rattle.std.specs.Option.{ok_or}
use Rattle.httparse.specs.Grammar.{RequestHead}
use Rattle.percent_encoding.specs.Percent.{percent_decode}
use Rattle.serde_json.specs.Data.{Data}
use Rattle.values.specs.Values.{checked, is_name, is_gtin, is_lot_text}
use Rattle.values.specs.declared.lot.LotId.{LotId}
use Rattle.label.specs.Days.{is_business_day, parsed_day}
use Rattle.requests.specs.Head.{HEAD_MAX, head_end, IsHead, fields_of, body_length}
use Rattle.requests.specs.Routes.{route_of, method_of, method_name}
use Rattle.requests.specs.Fields.{json}
use Rattle.requests.specs.Bodies.{body_of}
use Rattle.requests.specs.declared.fault.WireFault.{WireFault}
use Rattle.requests.specs.declared.fault.WireFault.TheVariants.{Head, Length, Json, Field, Path, Method, TooLarge}
use Rattle.requests.specs.declared.routes.Route.{Route}
use Rattle.requests.specs.declared.routes.Route.TheVariants.{Post, Get}
use Rattle.requests.specs.declared.routes.Shown.{Shown}
use Rattle.requests.specs.declared.routes.Shown.TheVariants.{Picks, Figures, Books, OpenOrders, OpenOrdersBehind, ItemNames, ItemNamesBehind, Expiring, ExpiringBehind, Bin, BinBehind, Stock, Order, PickList, Shortages, Card, Notice}
use Rattle.requests.specs.declared.routes.Shown.TheVariants.{Trace}
use Rattle.requests.specs.declared.routes.Posted.{Posted}
use Rattle.requests.specs.declared.routes.Posted.TheVariants.{GoodsIn as ToGoodsIn}
use Rattle.requests.specs.declared.ask.Ask.{Ask}
use Rattle.requests.specs.declared.ask.Ask.TheVariants.{GoodsIn, Show}
use Rattle.requests.specs.declared.ask.Query.{Query}
use Rattle.requests.specs.declared.ask.Query.TheVariants.{Picks as PicksOf, Figures as TheFigures, Books as AllBooks, OpenOrders as OpenOrdersFrom, ItemNames as ItemNamesFrom, Expiring as ExpiringFrom, Bin as BinFrom, Stock as StockOf, Order as OrderNamed, PickList as PickListOf, Shortages as ShortagesOf, Card as CardOf, Notice as NoticeOf}
use Rattle.requests.specs.declared.ask.Query.TheVariants.{Trace as TraceOf}
use Rattle.requests.specs.declared.request.Read.{Read}
use Rattle.requests.specs.declared.request.Read.TheVariants.{Need, Bad, Request}

-- Step 7: values in a path. The path is cut at `/`, then escapes are replaced, once.

-- what stands after the first slash
abbrev pub after_slash : List ℕ → List ℕ
after_slash [] = []
after_slash (c ∷ cs) = if c == 47 then cs else after_slash cs

-- what stands before the first slash
abbrev pub before_slash : List ℕ → List ℕ
before_slash [] = []
before_slash (c ∷ cs) = if c == 47 then [] else c ∷ before_slash cs

-- the second segment of a path, and all that stands behind it, escapes replaced
abbrev pub second_segment : List ℕ → List ℕ
second_segment target = percent_decode (before_slash (after_slash (after_slash target)))

abbrev pub third_segment : List ℕ → List ℕ
third_segment target = percent_decode (after_slash (after_slash (after_slash target)))

-- the third segment alone, and all that stands behind it
abbrev pub inner_segment : List ℕ → List ℕ
inner_segment target = percent_decode (before_slash (after_slash (after_slash (after_slash target))))

abbrev pub fourth_segment : List ℕ → List ℕ
fourth_segment target = percent_decode (after_slash (after_slash (after_slash (after_slash target))))

abbrev pub gtin_in : List ℕ → Option (List ℕ)
gtin_in target = checked is_gtin (second_segment target)

abbrev pub name_in : List ℕ → Option (List ℕ)
name_in target = checked is_name (second_segment target)

abbrev pub day_in : List ℕ → Option ℤ
day_in target = option_and_then (checked is_business_day) (parsed_day (second_segment target))

-- the lot that two texts name
abbrev pub lot_named : List ℕ → List ℕ → Option LotId
lot_named gtin lot = option_and_then (λ g. option_map (λ l. record { gtin = g; lot = l }) (checked is_lot_text lot)) (checked is_gtin gtin)

abbrev pub lot_in : List ℕ → Option LotId
lot_in target = lot_named (second_segment target) (third_segment target)

-- the lot behind another value
abbrev pub lot_behind : List ℕ → Option LotId
lot_behind target = lot_named (inner_segment target) (fourth_segment target)

-- what a path shows, where each value in it keeps its rule
abbrev pub query_of : Shown → List ℕ → Option Query
query_of Books target = Some AllBooks
query_of OpenOrders target = Some (OpenOrdersFrom None)
query_of OpenOrdersBehind target = option_map (λ order. OpenOrdersFrom (Some order)) (name_in target)
query_of ItemNames target = Some (ItemNamesFrom None)
query_of ItemNamesBehind target = option_map (λ gtin. ItemNamesFrom (Some gtin)) (gtin_in target)
query_of Expiring target = option_map (λ day. ExpiringFrom day None) (day_in target)
query_of ExpiringBehind target = option_and_then (λ day. option_map (λ lot. ExpiringFrom day (Some lot)) (lot_behind target)) (day_in target)
query_of Bin target = option_map (λ bin. BinFrom bin None) (name_in target)
query_of BinBehind target = option_and_then (λ bin. option_map (λ lot. BinFrom bin (Some lot)) (lot_behind target)) (name_in target)
query_of Stock target = option_map StockOf (gtin_in target)
query_of Order target = option_map OrderNamed (name_in target)
query_of PickList target = option_map PickListOf (name_in target)
query_of Shortages target = option_map ShortagesOf (gtin_in target)
query_of Card target = option_map CardOf (lot_in target)
query_of Notice target = option_map NoticeOf (lot_in target)
query_of Trace target = option_map TraceOf (lot_in target)
query_of Picks target = option_map PicksOf (name_in target)
query_of Figures target = Some TheFigures

-- Steps 5 to 9: what a method, a target and a body ask.

-- steps 8 and 9: the body is JSON, and has the fields of the route
abbrev pub valued : Posted → Option Data → Result Ask WireFault
valued p None = Err Json
valued p (Some d) = ok_or (body_of p d) Field

-- what is posted; a file is taken as it stands
abbrev pub posted : Posted → List ℕ → Result Ask WireFault
posted ToGoodsIn body = Ok (GoodsIn body)
posted p body = valued p (json body)

-- steps 7 to 9; the body of a GET is not looked at
abbrev pub read_route : Route → List ℕ → List ℕ → Result Ask WireFault
read_route (Post p) target body = posted p body
read_route (Get g) target body = ok_or (option_map Show (query_of g target)) Field

-- steps 5 and 6: the target has a route, and the method is the route's
abbrev pub read_method : Option Route → List ℕ → List ℕ → List ℕ → Result Ask WireFault
read_method None method target body = Err Path
read_method (Some r) method target body =
    if bytes_eq method (method_name (method_of r)) then read_route r target body else Err (Method (method_of r))

-- steps 5 to 9
abbrev pub read_ask : List ℕ → List ℕ → List ℕ → Result Ask WireFault
read_ask method target body = read_method (route_of target) method target body

-- Steps 1 to 4: what a text is read as: more bytes are needed, with the fault if none come (`Need`); it is refused (`Bad`); or it asks (`Request`).

abbrev pub answered : Result Ask WireFault → Read
answered (Ok a) = Request a
answered (Err e) = Bad e

-- steps 3 and 4: the reading of what stands behind a head of this method, target and length; what follows the body is not looked at
abbrev pub after_head : List ℕ → List ℕ → Result ℕ WireFault → List ℕ → Read
after_head method target (Err e) rest = Bad e
after_head method target (Ok n) rest =
    if nat_lt (length rest) n then Need Length else answered (read_ask method target (take n rest))

-- step 1 fails: a text whose first 8,192 bytes hold no end of a head
abbrev pub headless : List ℕ → Read
headless text = if nat_lt HEAD_MAX (length text) then Bad TooLarge else Need Head

-- step 2: the reading of a text cut at the end of its head
abbrev pub IsCutReading : List ℕ → List ℕ → Read → Type 0
IsCutReading head rest r =
    ((h : RequestHead) × IsHead head h × (r ≡ after_head h.method h.target (body_length (fields_of h)) rest))
    ⊎ (((h : RequestHead) → ¬ (IsHead head h)) × (r ≡ Bad Head))

-- the reading of a text; step 1 finds the end of its head
abbrev pub IsReading : List ℕ → Read → Type 0
IsReading text r =
    MatchOption (head_end (take HEAD_MAX text)) (r ≡ headless text) (λ n. IsCutReading (take n text) (drop n text) r)
