-- The line of a log for a request that was answered, as `GET /stock/09506000134352 200 143`.
use Rattle.std.specs.Prelude.{◌==◌, ℕ, List, [], ◌∷◌, ◌++◌, length, take, drop, map, Bool, nat_lt, if◌then◌else◌, Option, Some, None, option_map, codes, decimal}
use Rattle.std.specs.Option.{option_map_or}

-- words are parted by spaces and controls
abbrev pub is_gap : ℕ → Bool
is_gap c = nat_lt c 33

abbrev pub without_gap : List ℕ → List ℕ
without_gap [] = []
without_gap (c ∷ cs) = if is_gap c then without_gap cs else c ∷ cs

-- what stands before the next gap, and the gap with what follows; nothing where no gap has come yet
abbrev pub cut_word : List ℕ → Option (List ℕ × List ℕ)
cut_word [] = None
cut_word (c ∷ cs) = if is_gap c then Some ([], c ∷ cs) else option_map (λ cut. (c ∷ cut.0, cut.1)) (cut_word cs)

-- the next word, once it has come whole, and what follows
abbrev pub next_word : List ℕ → Option (List ℕ × List ℕ)
next_word text = cut_word (without_gap text)

-- a byte of a word: visible ASCII as it is, and any other as `?`
abbrev pub shown_byte : ℕ → ℕ
shown_byte c = if nat_lt c 127 then c else 63

-- so many bytes of a word are shown at most
abbrev pub WORD_MAX : ℕ
WORD_MAX = 200

abbrev pub shown_word : List ℕ → List ℕ
shown_word word = map shown_byte (take WORD_MAX word)

-- the three digits behind `HTTP/1.1 `, and `-` where no byte was sent
abbrev pub status_shown : List ℕ → List ℕ
status_shown bytes = if length bytes == 0 then codes "-" else take 3 (drop 9 bytes)

-- the method, the target, the status of the answer, and how many bytes it has
abbrev pub line_with : (method target bytes : List ℕ) → List ℕ
line_with method target bytes =
    shown_word method ++ codes " " ++ shown_word target ++ codes " " ++ status_shown bytes ++ codes " " ++ decimal (length bytes) ++ codes "\n"

-- a text begins with its method and its target; nothing where they have not come whole
abbrev pub line_behind : (method rest bytes : List ℕ) → List ℕ
line_behind method rest bytes = option_map_or (λ cut. line_with method cut.0 bytes) (next_word rest) []

abbrev pub log_line : (text bytes : List ℕ) → List ℕ
log_line text bytes = option_map_or (λ cut. line_behind cut.0 cut.1 bytes) (next_word text) []
