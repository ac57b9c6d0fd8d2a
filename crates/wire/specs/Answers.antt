-- The bytes of an answer.
use Rattle.std.specs.Prelude.{ℕ, List, [], ◌∷◌, ◌++◌, codes, length, decimal, ◌==◌, if◌then◌else◌, Option, Some, None}
use Rattle.serde_json.specs.Written.{compact_text}
use Rattle.requests.specs.Routes.{method_name}
use Rattle.requests.specs.declared.method.Method.{Method}
use Rattle.wire.specs.Lists.{books_data, open_orders_data, item_names_data, expiring_data, bin_view_data}
use Rattle.wire.specs.Traces.{trace_data}
use Rattle.wire.specs.Views.{order_data, stock_data}
use Rattle.wire.specs.Picks.{picks_data}
use Rattle.wire.specs.Figures.{figures_data}
use Rattle.wire.specs.declared.answer.Answer.{Answer}
use Rattle.wire.specs.declared.answer.Answer.TheVariants.{Books, OpenOrders, ItemNames, Expiring, Bin, Stock, Order, Text, Picks, Figures}
use Rattle.wire.specs.declared.answer.Answer.TheVariants.{Trace}

-- a phrase for each status that the server answers
abbrev pub phrase : ℕ → List ℕ
phrase status =
    if status == 200 then codes "OK" else (if status == 400 then codes "Bad Request" else (if status == 404 then codes "Not Found"
    else (if status == 405 then codes "Method Not Allowed" else (if status == 409 then codes "Conflict"
    else (if status == 413 then codes "Content Too Large" else (if status == 503 then codes "Service Unavailable" else []))))))

abbrev pub CRLF : List ℕ
CRLF = 13 ∷ 10 ∷ []

abbrev pub json_type : List ℕ
json_type = codes "application/json"

abbrev pub text_type : List ℕ
text_type = codes "text/plain"

-- the field that names the route's method
abbrev pub allow_line : Option Method → List ℕ
allow_line None = []
allow_line (Some method) = codes "allow: " ++ method_name method ++ CRLF

-- the status line, the fields and the empty line
unfoldable pub head_text : ℕ → List ℕ → ℕ → Option Method → List ℕ
head_text status kind size allow =
    codes "HTTP/1.1 " ++ decimal status ++ codes " " ++ phrase status ++ CRLF
    ++ codes "content-type: " ++ kind ++ CRLF
    ++ codes "content-length: " ++ decimal size ++ CRLF
    ++ codes "connection: close" ++ CRLF
    ++ allow_line allow ++ CRLF

-- an answer
abbrev pub answer_text : ℕ → List ℕ → Option Method → List ℕ → List ℕ
answer_text status kind allow body = head_text status kind (length body) allow ++ body

-- what an answer to a GET is
abbrev pub answer_bytes : Answer → List ℕ
answer_bytes (Stock v) = answer_text 200 json_type None (compact_text (stock_data v))
answer_bytes (Order v) = answer_text 200 json_type None (compact_text (order_data v))
answer_bytes (Books v) = answer_text 200 json_type None (compact_text (books_data v))
answer_bytes (OpenOrders v) = answer_text 200 json_type None (compact_text (open_orders_data v))
answer_bytes (ItemNames v) = answer_text 200 json_type None (compact_text (item_names_data v))
answer_bytes (Expiring v) = answer_text 200 json_type None (compact_text (expiring_data v))
answer_bytes (Bin v) = answer_text 200 json_type None (compact_text (bin_view_data v))
answer_bytes (Text t) = answer_text 200 text_type None t
answer_bytes (Trace v) = answer_text 200 json_type None (compact_text (trace_data v))
answer_bytes (Picks v) = answer_text 200 json_type None (compact_text (picks_data v))
answer_bytes (Figures v) = answer_text 200 json_type None (compact_text (figures_data v))
