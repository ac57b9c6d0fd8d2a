-- Some answers.
use Rattle.json.specs.Print.{escape_byte}
use Rattle.std.specs.Fmt.{digits}
use Rattle.wire.proofs.Words.{BinUnits, Open, picks_data, figures_data, ◌≡◌, ℕ, ℤ, List, codes, refl, ◌++◌, ◌∷◌, [], false, pos, Some, None, compact_text, Normal, Store, Free, BinLot, OpenOrder, NamedItem, books_data, open_orders_data, item_names_data, bin_view_data, date_of, date_after, date_in_year, reply_text, Returned, Post, head_text, answer_text, json_type, CRLF, cause_row_text, code_text}

pub a_day_is_opened : answer_text 200 json_type None (reply_text 6 (Some (Returned 0)))
    ≡ codes "HTTP/1.1 200 OK" ++ CRLF ++ codes "content-type: application/json" ++ CRLF ++ codes "content-length: 22" ++ CRLF
    ++ codes "connection: close" ++ CRLF ++ CRLF ++ codes "{\"act\":6,\"returned\":0}"
unfolding head_text digits
a_day_is_opened = refl

pub the_other_method_is_named : answer_text 405 json_type (Some Post) (code_text (codes "W07"))
    ≡ codes "HTTP/1.1 405 Method Not Allowed" ++ CRLF ++ codes "content-type: application/json" ++ CRLF ++ codes "content-length: 14" ++ CRLF
    ++ codes "connection: close" ++ CRLF ++ codes "allow: POST" ++ CRLF ++ CRLF ++ codes "{\"code\":\"W07\"}"
unfolding head_text digits
the_other_method_is_named = refl

pub a_row_of_a_file : cause_row_text (codes "G02") 2 ≡ codes "{\"cause\":\"G02\",\"code\":\"W05\",\"row\":2}"
unfolding digits
a_row_of_a_file = refl

abbrev corner_shop : OpenOrder
corner_shop = record { class = Normal; customer = codes "Corner Shop"; order = codes "S-1"; ordered = 12; reserved = 12; shipped = 0; short = 0; staged = 0 }

abbrev harbour_cafe : OpenOrder
harbour_cafe = record { class = Normal; customer = codes "Harbour Cafe"; order = codes "S-2"; ordered = 12; reserved = 12; shipped = 0; short = 0; staged = 0 }

pub two_orders_are_open : compact_text (open_orders_data (record { act = 10; orders = corner_shop ∷ harbour_cafe ∷ []; more = false }))
    ≡ codes "{\"act\":10,\"more\":false,\"orders\":[{\"class\":\"NORMAL\",\"customer\":\"Corner Shop\",\"order\":\"S-1\",\"ordered\":12,\"reserved\":12,\"shipped\":0,\"short\":0,\"staged\":0},{\"class\":\"NORMAL\",\"customer\":\"Harbour Cafe\",\"order\":\"S-2\",\"ordered\":12,\"reserved\":12,\"shipped\":0,\"short\":0,\"staged\":0}]}"
unfolding digits escape_byte
two_orders_are_open = refl

abbrev oat_drink : NamedItem
oat_drink = record { item = record { gtin = codes "09506000134352"; name = codes "Oat drink" }; least = 0 }

pub an_item_by_its_name : compact_text (item_names_data (record { act = 10; items = oat_drink ∷ []; more = false }))
    ≡ codes "{\"act\":10,\"items\":[{\"gtin\":\"09506000134352\",\"least\":0,\"name\":\"Oat drink\"}],\"more\":false}"
unfolding digits escape_byte
an_item_by_its_name = refl

-- 20577 days after the first of January 1970 is the 4th of May 2026
pub the_books : compact_text (books_data (record { act = 10; day = pos 20577 })) ≡ codes "{\"act\":10,\"day\":\"2026-05-04\",\"schema\":4}"
unfolding digits escape_byte date_of date_after date_in_year
the_books = refl

abbrev in_bin : List ℕ → ℤ → ℕ → BinLot
in_bin lot expiry qty = record { item = oat_drink.item; lot = lot; expiry = expiry; qty = qty; status = Free }

-- the 10th and the 31st of May and the 30th of June 2026
pub three_lots_in_a_bin : compact_text (bin_view_data (record { act = 10; bin = codes "A-01"; kind = Store; lots = in_bin (codes "L0") (pos 20583) 5 ∷ in_bin (codes "L2") (pos 20604) 10 ∷ in_bin (codes "L1") (pos 20634) 10 ∷ []; more = false }))
    ≡ codes "{\"act\":10,\"bin\":\"A-01\",\"kind\":\"STORE\",\"lots\":[{\"expiry\":\"2026-05-10\",\"gtin\":\"09506000134352\",\"lot\":\"L0\",\"name\":\"Oat drink\",\"qty\":5,\"status\":\"FREE\"},{\"expiry\":\"2026-05-31\",\"gtin\":\"09506000134352\",\"lot\":\"L2\",\"name\":\"Oat drink\",\"qty\":10,\"status\":\"FREE\"},{\"expiry\":\"2026-06-30\",\"gtin\":\"09506000134352\",\"lot\":\"L1\",\"name\":\"Oat drink\",\"qty\":10,\"status\":\"FREE\"}],\"more\":false}"
unfolding digits escape_byte date_of date_after date_in_year
three_lots_in_a_bin = refl

abbrev from_bin : List ℕ → ℕ → BinUnits
from_bin bin qty = record { bin = bin; qty = qty }

-- a lot that lies in two bins, and a line of which all is short
pub a_pick_list_of_two_lines : compact_text (picks_data (record {
  customer = codes "Corner Shop";
  lines = record {
    item = record { gtin = codes "04012345000016"; name = codes "Rye bread" };
    least = 30;
    ordered = 4;
    shipped = 0;
    short = 4;
    staged = 0;
    take = [];
  }
      ∷ record {
        item = oat_drink.item;
        least = 0;
        ordered = 12;
        shipped = 1;
        short = 0;
        staged = 4;
        take = record { lot = codes "L2"; expiry = pos 20604; qty = 7; bins = from_bin (codes "A-01") 6 ∷ from_bin (codes "A-02") 4 ∷ [] } ∷ [];
      }
      ∷ [];
  order = codes "S-1";
  state = Open;
}))
    ≡ codes "{\"customer\":\"Corner Shop\",\"lines\":[{\"gtin\":\"04012345000016\",\"least\":30,\"name\":\"Rye bread\",\"ordered\":4,\"shipped\":0,\"short\":4,\"staged\":0,\"take\":[]},{\"gtin\":\"09506000134352\",\"least\":0,\"name\":\"Oat drink\",\"ordered\":12,\"shipped\":1,\"short\":0,\"staged\":4,\"take\":[{\"bins\":[{\"bin\":\"A-01\",\"qty\":6},{\"bin\":\"A-02\",\"qty\":4}],\"expiry\":\"2026-05-31\",\"lot\":\"L2\",\"qty\":7}]}],\"order\":\"S-1\",\"state\":\"OPEN\"}"
unfolding digits escape_byte date_of date_after date_in_year
a_pick_list_of_two_lines = refl

pub the_figures : compact_text (figures_data (record {
  act = 48210;
  day = pos 20577;
  lots = record { expired = 1; held = 2; recalled = 3 };
  open_orders = record { orders = 14; short = 4; staged = 5; urgent = 6 };
  units = record { house = 7800; returns = 90 };
}))
    ≡ codes "{\"act\":48210,\"day\":\"2026-05-04\",\"lots\":{\"expired\":1,\"held\":2,\"recalled\":3},\"open\":{\"orders\":14,\"short\":4,\"staged\":5,\"urgent\":6},\"units\":{\"house\":7800,\"returns\":90}}"
unfolding digits escape_byte date_of date_after date_in_year
the_figures = refl
