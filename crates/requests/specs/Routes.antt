-- The routes that the server has, the route of a target, and its method: steps 5 and 6 of `Requests`.
use Rattle.std.specs.Prelude.{ℕ, List, [], ◌∷◌, map, Bool, ◌||◌, ◌&&◌, not, ◌==◌, if◌then◌else◌, Option, None, option_map, Result, Ok, Err, codes, slice_index}
use Rattle.std.specs.Borrow.{Bor}
use Rattle.std.specs.List.{list_any}
use Rattle.matchit.specs.Route.{Scan, parse_route}
use Rattle.matchit.specs.Rows.{RowsOf}
use Rattle.matchit.specs.Order.{placed}
use Rattle.matchit.specs.Router.{RouteOf, route_from}
use Rattle.matchit.specs.Seek.{first}
use Rattle.matchit.specs.declared.error.InsertError.{InsertError}
use Rattle.requests.specs.declared.method.Method.{Method}
use Rattle.requests.specs.declared.method.Method.TheVariants.{Get, Post}
use Rattle.requests.specs.declared.routes.Route.{Route}
use Rattle.requests.specs.declared.routes.Route.TheVariants.{Post as PostTo, Get as GetOf}
use Rattle.requests.specs.declared.routes.Posted.TheVariants.{Items, Bins, Receipts, Moves, Counts, Adjustments, Orders, Cancels, Picks, Unpicks, Shipments, Holds, Releases, Recalls, Days, Leasts, Urgents, GoodsIn}
use Rattle.requests.specs.declared.routes.Shown.TheVariants.{Picks as PicksShown, Figures, Order, Stock, PickList, Shortages, Card, Notice, Books, OpenOrders, OpenOrdersBehind, ItemNames, ItemNamesBehind, Expiring, ExpiringBehind, Bin, BinBehind}
use Rattle.requests.specs.declared.routes.Shown.TheVariants.{Trace}

-- the rows of a table
abbrev pub Rows : Type 0
Rows = RowsOf (RouteOf Route)

abbrev pub add_read : Result Scan InsertError → Route → Rows → Rows
add_read (Ok s) v rows = let r = route_from s v in placed (r.pattern, r) rows
add_read (Err e) v rows = rows

-- the table with a route more
abbrev pub add : List ℕ → Route → Rows → Rows
add text v rows = add_read (parse_route text) v rows

-- the table with these routes more
abbrev pub add_all : List (List ℕ × Route) → Rows → Rows
add_all [] rows = rows
add_all (r ∷ rest) rows = add_all rest (add r.0 r.1 rows)

-- the routes of a list in the source
abbrev pub listed : List (Bor (List ℕ) × Route) → List (List ℕ × Route)
listed list = map (λ p. (p.0.now, p.1)) list

-- the routes that are served; a part in braces stands for a text that is not empty and has no slash
abbrev pub served : List (List ℕ × Route)
served =
    (codes "/items", PostTo Items)
    ∷ (codes "/bins", PostTo Bins)
    ∷ (codes "/receipts", PostTo Receipts)
    ∷ (codes "/moves", PostTo Moves)
    ∷ (codes "/counts", PostTo Counts)
    ∷ (codes "/adjustments", PostTo Adjustments)
    ∷ (codes "/orders", PostTo Orders)
    ∷ (codes "/cancels", PostTo Cancels)
    ∷ (codes "/picks", PostTo Picks)
    ∷ (codes "/unpicks", PostTo Unpicks)
    ∷ (codes "/shipments", PostTo Shipments)
    ∷ (codes "/holds", PostTo Holds)
    ∷ (codes "/releases", PostTo Releases)
    ∷ (codes "/recalls", PostTo Recalls)
    ∷ (codes "/days", PostTo Days)
    ∷ (codes "/leasts", PostTo Leasts)
    ∷ (codes "/urgents", PostTo Urgents)
    ∷ (codes "/goodsin", PostTo GoodsIn)
    ∷ (codes "/orders/{order}", GetOf Order)
    ∷ (codes "/stock/{gtin}", GetOf Stock)
    ∷ (codes "/picklists/{order}", GetOf PickList)
    ∷ (codes "/shortages/{gtin}", GetOf Shortages)
    ∷ (codes "/cards/{gtin}/{lot}", GetOf Card)
    ∷ (codes "/notices/{gtin}/{lot}", GetOf Notice)
    ∷ (codes "/books", GetOf Books)
    ∷ (codes "/openorders", GetOf OpenOrders)
    ∷ (codes "/openorders/{order}", GetOf OpenOrdersBehind)
    ∷ (codes "/itemnames", GetOf ItemNames)
    ∷ (codes "/itemnames/{gtin}", GetOf ItemNamesBehind)
    ∷ (codes "/expiring/{day}", GetOf Expiring)
    ∷ (codes "/expiring/{day}/{gtin}/{lot}", GetOf ExpiringBehind)
    ∷ (codes "/bins/{bin}", GetOf Bin)
    ∷ (codes "/bins/{bin}/{gtin}/{lot}", GetOf BinBehind)
    ∷ (codes "/traces/{gtin}/{lot}", GetOf Trace)
    ∷ (codes "/picks/{order}", GetOf PicksShown)
    ∷ (codes "/figures", GetOf Figures)
    ∷ []

unfoldable pub table : Rows
table = add_all served []

-- `?` or `#`
abbrev pub ends_path : ℕ → Bool
ends_path c = c == 63 || c == 35

-- the target is a path: it begins with `/` and has no query and no fragment
abbrev pub is_path : List ℕ → Bool
is_path target = slice_index target 0 == 47 && not (list_any ends_path target)

-- step 5: the route of a target, taken as it stands
abbrev pub route_of : List ℕ → Option Route
route_of target = if is_path target then option_map (λ r. r.value) (first table target) else None

-- step 6: the route's one method, and how it is spelled
abbrev pub method_of : Route → Method
method_of (PostTo p) = Post
method_of (GetOf g) = Get

abbrev pub method_name : Method → List ℕ
method_name Get = codes "GET"
method_name Post = codes "POST"
