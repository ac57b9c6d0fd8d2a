-- Readings of some texts.
use Rattle.requests.proofs.Words.{◌≡◌, codes, refl, [], ◌∷◌, Some, None, Ok, Err, option_map, negsuc, read, table, route_of, length_value, body_length, read_ask, second_segment, third_segment, inner_segment, fourth_segment, query_of, whole_at, delta_at, body_of, Plain, Item, Count, Least, Urgent, Length, Path, Field, TooLarge, Method as OtherMethod, Get, Post, PostTo, GetOf, Items, Bins, Receipts, Counts, Orders, Recalls, Days, Leasts, Urgents, GoodsIn, AnOrder, TheStock, APickList, TheShortages, Card, ANotice, Books, OpenOrders, OpenOrdersBehind, ItemNames, ItemNamesBehind, Expiring, ExpiringBehind, Bin, BinBehind, Do, FileOf, CardOf, OpenOrdersFrom, BinFrom, PicksShown, PicksOf, Figures}
use Rattle.requests.proofs.Words.{ATrace}
use Rattle.serde_json.proofs.OnLiterals.{serde_json_on_literals}
use Rattle.matchit.proofs.OnLiterals.{matchit_on_literals}
use Rattle.percent_encoding.specs.Percent.{percent_decode}

-- routes

pub items : route_of (codes "/items") ≡ Some (PostTo Items)
unfolding matchit_on_literals table
items = refl

pub bins : route_of (codes "/bins") ≡ Some (PostTo Bins)
unfolding matchit_on_literals table
bins = refl

pub receipts : route_of (codes "/receipts") ≡ Some (PostTo Receipts)
unfolding matchit_on_literals table
receipts = refl

pub orders : route_of (codes "/orders") ≡ Some (PostTo Orders)
unfolding matchit_on_literals table
orders = refl

pub recalls : route_of (codes "/recalls") ≡ Some (PostTo Recalls)
unfolding matchit_on_literals table
recalls = refl

pub days : route_of (codes "/days") ≡ Some (PostTo Days)
unfolding matchit_on_literals table
days = refl

pub leasts : route_of (codes "/leasts") ≡ Some (PostTo Leasts)
unfolding matchit_on_literals table
leasts = refl

pub urgents : route_of (codes "/urgents") ≡ Some (PostTo Urgents)
unfolding matchit_on_literals table
urgents = refl

pub goods_in : route_of (codes "/goodsin") ≡ Some (PostTo GoodsIn)
unfolding matchit_on_literals table
goods_in = refl

pub an_order : route_of (codes "/orders/S-1") ≡ Some (GetOf AnOrder)
unfolding matchit_on_literals table
an_order = refl

pub the_stock : route_of (codes "/stock/09506000134352") ≡ Some (GetOf TheStock)
unfolding matchit_on_literals table
the_stock = refl

pub no_order : route_of (codes "/orders/") ≡ None
unfolding matchit_on_literals table
no_order = refl

pub two_orders : route_of (codes "/orders/S-1/S-2") ≡ None
unfolding matchit_on_literals table
two_orders = refl

pub escaped_route : route_of (codes "/%69tems") ≡ None
unfolding matchit_on_literals table
escaped_route = refl

pub a_query_is_no_path : read_ask (codes "POST") (codes "/items?x=1") [] ≡ Err Path
unfolding matchit_on_literals table
a_query_is_no_path = refl

pub another_method : read_ask (codes "GET") (codes "/items") [] ≡ Err (OtherMethod Post)
unfolding matchit_on_literals table
another_method = refl

pub small_letters_are_another_method : read_ask (codes "get") (codes "/orders/S-1") [] ≡ Err (OtherMethod Get)
unfolding matchit_on_literals table
small_letters_are_another_method = refl

pub a_broken_escape : read_ask (codes "GET") (codes "/orders/%zz") [] ≡ Err Field
unfolding matchit_on_literals table percent_decode
a_broken_escape = refl

pub stock_is_not_posted : read_ask (codes "POST") (codes "/stock/09506000134352") [] ≡ Err (OtherMethod Get)
unfolding matchit_on_literals table
stock_is_not_posted = refl

pub a_pick_list_of_no_order : route_of (codes "/picklists/") ≡ None
unfolding matchit_on_literals table
a_pick_list_of_no_order = refl

pub a_file_is_taken_as_it_is : read_ask (codes "POST") (codes "/goodsin") (codes "no file") ≡ Ok (FileOf (codes "no file"))
unfolding matchit_on_literals table
a_file_is_taken_as_it_is = refl

pub a_pick_list_is_not_posted : read_ask (codes "POST") (codes "/picklists/S-1") [] ≡ Err (OtherMethod Get)
unfolding matchit_on_literals table
a_pick_list_is_not_posted = refl

pub a_pick_list : route_of (codes "/picklists/S-1") ≡ Some (GetOf APickList)
unfolding matchit_on_literals table
a_pick_list = refl

pub the_shortages : route_of (codes "/shortages/09506000134352") ≡ Some (GetOf TheShortages)
unfolding matchit_on_literals table
the_shortages = refl

pub a_card : route_of (codes "/cards/09506000134352/A%2FB") ≡ Some (GetOf Card)
unfolding matchit_on_literals table
a_card = refl

pub a_notice : route_of (codes "/notices/09506000134352/L2") ≡ Some (GetOf ANotice)
unfolding matchit_on_literals table
a_notice = refl

pub a_card_of_no_lot : route_of (codes "/cards/09506000134352") ≡ None
unfolding matchit_on_literals table
a_card_of_no_lot = refl

pub the_books : route_of (codes "/books") ≡ Some (GetOf Books)
unfolding matchit_on_literals table
the_books = refl

pub books_have_no_parts : route_of (codes "/books/") ≡ None
unfolding matchit_on_literals table
books_have_no_parts = refl

pub open_orders : route_of (codes "/openorders") ≡ Some (GetOf OpenOrders)
unfolding matchit_on_literals table
open_orders = refl

pub open_orders_behind_one : route_of (codes "/openorders/S-1") ≡ Some (GetOf OpenOrdersBehind)
unfolding matchit_on_literals table
open_orders_behind_one = refl

pub items_by_name : route_of (codes "/itemnames") ≡ Some (GetOf ItemNames)
unfolding matchit_on_literals table
items_by_name = refl

pub items_behind_one : route_of (codes "/itemnames/09506000134352") ≡ Some (GetOf ItemNamesBehind)
unfolding matchit_on_literals table
items_behind_one = refl

pub lots_that_expire : route_of (codes "/expiring/2026-05-31") ≡ Some (GetOf Expiring)
unfolding matchit_on_literals table
lots_that_expire = refl

-- the values are judged later
pub lots_behind_one : route_of (codes "/expiring/d/g/l") ≡ Some (GetOf ExpiringBehind)
unfolding matchit_on_literals table
lots_behind_one = refl

pub half_a_lot : route_of (codes "/expiring/d/g") ≡ None
unfolding matchit_on_literals table
half_a_lot = refl

pub lots_in_a_bin : route_of (codes "/bins/A-01") ≡ Some (GetOf Bin)
unfolding matchit_on_literals table
lots_in_a_bin = refl

-- the values are judged later
pub lots_in_a_bin_behind_one : route_of (codes "/bins/b/g/l") ≡ Some (GetOf BinBehind)
unfolding matchit_on_literals table
lots_in_a_bin_behind_one = refl

pub half_a_lot_in_a_bin : route_of (codes "/bins/b/g") ≡ None
unfolding matchit_on_literals table
half_a_lot_in_a_bin = refl

pub a_bin_of_no_name : route_of (codes "/bins/") ≡ None
unfolding matchit_on_literals table
a_bin_of_no_name = refl

pub bins_are_not_shown : read_ask (codes "GET") (codes "/bins") [] ≡ Err (OtherMethod Post)
unfolding matchit_on_literals table
bins_are_not_shown = refl

pub lots_in_a_bin_are_not_posted : read_ask (codes "POST") (codes "/bins/A-01") [] ≡ Err (OtherMethod Get)
unfolding matchit_on_literals table
lots_in_a_bin_are_not_posted = refl

pub a_trace : route_of (codes "/traces/09506000134352/L2") ≡ Some (GetOf ATrace)
unfolding matchit_on_literals table
a_trace = refl

pub a_trace_of_no_lot : route_of (codes "/traces/09506000134352") ≡ None
unfolding matchit_on_literals table
a_trace_of_no_lot = refl

pub open_orders_are_not_posted : read_ask (codes "POST") (codes "/openorders") [] ≡ Err (OtherMethod Get)
unfolding matchit_on_literals table
open_orders_are_not_posted = refl

-- values in a path

pub a_gtin_behind_a_day : inner_segment (codes "/expiring/2026-05-31/09506000134352/A%2FB") ≡ codes "09506000134352"
unfolding percent_decode
a_gtin_behind_a_day = refl

pub a_lot_behind_a_gtin : fourth_segment (codes "/expiring/2026-05-31/09506000134352/A%2FB") ≡ codes "A/B"
unfolding percent_decode
a_lot_behind_a_gtin = refl

pub open_orders_behind_a_name : query_of OpenOrdersBehind (codes "/openorders/S-1") ≡ Some (OpenOrdersFrom (Some (codes "S-1")))
unfolding percent_decode
open_orders_behind_a_name = refl

pub lots_of_a_bin_behind_a_lot : query_of BinBehind (codes "/bins/A%2D01/09506000134352/A%2FB")
    ≡ Some (BinFrom (codes "A-01") (Some (record { gtin = codes "09506000134352"; lot = codes "A/B" })))
unfolding percent_decode
lots_of_a_bin_behind_a_lot = refl

-- a check digit that is wrong
pub no_gtin_in_a_bin : query_of BinBehind (codes "/bins/A-01/09506000134353/L2") ≡ None
unfolding percent_decode
no_gtin_in_a_bin = refl

pub an_escaped_digit : second_segment (codes "/stock/0950600013435%32") ≡ codes "09506000134352"
unfolding percent_decode
an_escaped_digit = refl

pub an_escaped_slash : query_of Card (codes "/cards/09506000134352/A%2FB")
    ≡ Some (CardOf (record { gtin = codes "09506000134352"; lot = codes "A/B" }))
unfolding percent_decode
an_escaped_slash = refl

pub a_percent_sign_in_a_lot : third_segment (codes "/cards/09506000134352/%zz") ≡ codes "%zz"
unfolding percent_decode
a_percent_sign_in_a_lot = refl

-- lengths

pub a_sign_is_no_digit : length_value (codes "+32") ≡ Err Length
a_sign_is_no_digit = refl

pub nine_digits : length_value (codes "000000032") ≡ Ok 32
nine_digits = refl

pub ten_digits : length_value (codes "0000000032") ≡ Err Length
ten_digits = refl

pub the_largest_body : length_value (codes "262144") ≡ Ok 262144
the_largest_body = refl

pub one_byte_more : length_value (codes "262145") ≡ Err TooLarge
one_byte_more = refl

pub no_length : body_length ((codes "Host", codes "a") ∷ []) ≡ Ok 0
no_length = refl

pub two_lengths : body_length ((codes "Content-Length", codes "1") ∷ (codes "content-length", codes "1") ∷ []) ≡ Err Length
two_lengths = refl

pub a_coding : body_length ((codes "Transfer-Encoding", codes "chunked") ∷ []) ≡ Err Length
a_coding = refl

-- bodies

pub an_item : option_map (body_of Items) (read (codes "{\"key\":\"K-1\",\"gtin\":\"09506000134352\",\"name\":\"Oat drink\"}"))
    ≡ Some (Some (Do (Plain (codes "K-1")) (Item (record { gtin = codes "09506000134352"; name = codes "Oat drink" }))))
unfolding serde_json_on_literals
an_item = refl

pub a_field_more : option_map (body_of Items) (read (codes "{\"key\":\"K-1\",\"gtin\":\"09506000134352\",\"name\":\"Oat drink\",\"kind\":\"HOLD\"}")) ≡ Some None
unfolding serde_json_on_literals
a_field_more = refl

pub nothing_is_counted : option_map (body_of Counts) (read (codes "{\"key\":\"K-1\",\"gtin\":\"09506000134352\",\"lot\":\"L1\",\"bin\":\"A-01\",\"qty\":0}"))
    ≡ Some (Some (Do (Plain (codes "K-1"))
    (Count (record { lot = record { gtin = codes "09506000134352"; lot = codes "L1" }; bin = codes "A-01"; qty = 0 }))))
unfolding serde_json_on_literals
nothing_is_counted = refl

pub a_change_down : option_map (delta_at (codes "change")) (read (codes "{\"change\":-10}")) ≡ Some (Some (negsuc 9))
unfolding serde_json_on_literals
a_change_down = refl

pub a_change_of_nothing : option_map (delta_at (codes "change")) (read (codes "{\"change\":0}")) ≡ Some None
unfolding serde_json_on_literals
a_change_of_nothing = refl

pub least_days : option_map (body_of Leasts) (read (codes "{\"key\":\"K-1\",\"gtin\":\"09506000134352\",\"days\":3650}"))
    ≡ Some (Some (Do (Plain (codes "K-1")) (Least (record { gtin = codes "09506000134352"; days = 3650 }))))
unfolding serde_json_on_literals
least_days = refl

pub an_urgent_order : option_map (body_of Urgents) (read (codes "{\"key\":\"K-1\",\"order\":\"S-3\",\"customer\":\"Mill Inn\",\"lines\":[{\"gtin\":\"09506000134352\",\"qty\":10}]}"))
    ≡ Some (Some (Do (Plain (codes "K-1"))
    (Urgent (record { order = codes "S-3"; customer = codes "Mill Inn"; lines = record { gtin = codes "09506000134352"; qty = 10 } ∷ [] }))))
unfolding serde_json_on_literals
an_urgent_order = refl

-- `days` is no text, no fraction, not below 0 and not above 3,650, and has to be there
pub days_as_a_text : option_map (body_of Leasts) (read (codes "{\"key\":\"K-1\",\"gtin\":\"09506000134352\",\"days\":\"7\"}")) ≡ Some None
unfolding serde_json_on_literals
days_as_a_text = refl

pub half_a_day : option_map (body_of Leasts) (read (codes "{\"key\":\"K-1\",\"gtin\":\"09506000134352\",\"days\":0.5}")) ≡ Some None
unfolding serde_json_on_literals
half_a_day = refl

pub days_below_none : option_map (body_of Leasts) (read (codes "{\"key\":\"K-1\",\"gtin\":\"09506000134352\",\"days\":-1}")) ≡ Some None
unfolding serde_json_on_literals
days_below_none = refl

pub days_above_ten_years : option_map (body_of Leasts) (read (codes "{\"key\":\"K-1\",\"gtin\":\"09506000134352\",\"days\":3651}")) ≡ Some None
unfolding serde_json_on_literals
days_above_ten_years = refl

pub no_days : option_map (body_of Leasts) (read (codes "{\"key\":\"K-1\",\"gtin\":\"09506000134352\"}")) ≡ Some None
unfolding serde_json_on_literals
no_days = refl

pub a_whole_number_with_a_point : option_map (whole_at (codes "qty")) (read (codes "{\"qty\":1.0}")) ≡ Some None
unfolding serde_json_on_literals
a_whole_number_with_a_point = refl

pub a_whole_number_with_an_exponent : option_map (whole_at (codes "qty")) (read (codes "{\"qty\":1e2}")) ≡ Some None
unfolding serde_json_on_literals
a_whole_number_with_an_exponent = refl

-- pick lists and figures

pub the_picks_of_an_order : route_of (codes "/picks/S-1") ≡ Some (GetOf PicksShown)
unfolding matchit_on_literals table
the_picks_of_an_order = refl

pub picks_of_no_order : route_of (codes "/picks/") ≡ None
unfolding matchit_on_literals table
picks_of_no_order = refl

pub picks_are_posted : read_ask (codes "GET") (codes "/picks") [] ≡ Err (OtherMethod Post)
unfolding matchit_on_literals table
picks_are_posted = refl

pub picks_by_a_name : query_of PicksShown (codes "/picks/S%2D1") ≡ Some (PicksOf (codes "S-1"))
unfolding percent_decode
picks_by_a_name = refl

pub the_figures : route_of (codes "/figures") ≡ Some (GetOf Figures)
unfolding matchit_on_literals table
the_figures = refl

pub figures_are_not_posted : read_ask (codes "POST") (codes "/figures") [] ≡ Err (OtherMethod Get)
unfolding matchit_on_literals table
figures_are_not_posted = refl
