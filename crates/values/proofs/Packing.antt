-- Texts as numbers: they compare as the texts do, and give them back.
use Rattle.std.proofs.Common.{◌≡◌, ℕ, ◌+◌, ◌-◌, ◌*◌, ◌<◌, ◌≤◌, zero, suc, List, [], ◌∷◌, ◌++◌, length, take, drop, replicate, refl, ap, sym, subst, ◌∙◌, arith, length-drop, length-take}
use Rattle.std.specs.Prelude.{reverse, slice_index}
use Rattle.std.specs.Int.{w32, w64, to_be_bytes, from_be_bytes}
use Rattle.std.specs.declared.cmp.Ordering.{Ordering}
use Rattle.std.specs.declared.cmp.Ordering.TheVariants.{Less, Equal, Greater}
use Rattle.std.specs.Ordering.{nat_cmp, ordering_then, MatchOrdering}
use Rattle.std.specs.Cmp.Lexicographic.{slice_cmp}
use Rattle.std.proofs.lemmas.Cmp.{ranked}
use Rattle.std.proofs.lemmas.Grind.{same_number_lists}
use Rattle.std.proofs.lemmas.List.{get_or-replicate, length-replicate, take-replicate, drop_all, append-nil, get_or_append_left, get_or-append_right, get_or_past, get_or-reverse, get_or-take, length-reverse}
use Rattle.std.proofs.lemmas.Nat.{be_bytes_4, be_bytes_8}
use Rattle.values.specs.Packed.{spelt, packed, text_of, IsPacked, at_the_end}
use Rattle.values.specs.declared.text_key.Packed.{Packed}

-- ---- numbers in their order

is_less : (x y : ℕ) (r : Ordering) → MatchOrdering r (x < y) (x ≡ y) (y < x) → x < y → r ≡ Less
is_less x y Less h l = refl
is_less x y Equal h l = let e : x ≡ y = h in absurd (omega arith)
is_less x y Greater h l = let e : y < x = h in absurd (omega arith)

is_greater : (x y : ℕ) (r : Ordering) → MatchOrdering r (x < y) (x ≡ y) (y < x) → y < x → r ≡ Greater
is_greater x y Less h l = let e : x < y = h in absurd (omega arith)
is_greater x y Equal h l = let e : x ≡ y = h in absurd (omega arith)
is_greater x y Greater h l = refl

is_equal : (x y : ℕ) (r : Ordering) → MatchOrdering r (x < y) (x ≡ y) (y < x) → x ≡ y → r ≡ Equal
is_equal x y Less h l = let e : x < y = h in absurd (omega arith)
is_equal x y Equal h l = refl
is_equal x y Greater h l = let e : y < x = h in absurd (omega arith)

below : (x y : ℕ) → x < y → nat_cmp x y ≡ Less
below x y = is_less x y (nat_cmp x y) (ranked x y (nat_cmp x y) refl)

above : (x y : ℕ) → y < x → nat_cmp x y ≡ Greater
above x y = is_greater x y (nat_cmp x y) (ranked x y (nat_cmp x y) refl)

same : (x y : ℕ) → x ≡ y → nat_cmp x y ≡ Equal
same x y = is_equal x y (nat_cmp x y) (ranked x y (nat_cmp x y) refl)

then_equal : (r : Ordering) → ordering_then r Equal ≡ r
then_equal Less = refl
then_equal Equal = refl
then_equal Greater = refl

then_then : (p q r : Ordering) → ordering_then (ordering_then p q) r ≡ ordering_then p (ordering_then q r)
then_then Less q r = refl
then_then Equal q r = refl
then_then Greater q r = refl

-- a digit more
digit : (a b x y : ℕ) → x < 256 → y < 256 → nat_cmp (a * 256 + x) (b * 256 + y) ≡ ordering_then (nat_cmp a b) (nat_cmp x y)
digit a b x y p q = by (nat_cmp a b) (ranked a b (nat_cmp a b) refl)
  where
    low : a ≡ b → (r : Ordering) → MatchOrdering r (x < y) (x ≡ y) (y < x) → nat_cmp (a * 256 + x) (b * 256 + y) ≡ r
    low e Less l = let h : x < y = l in below (a * 256 + x) (b * 256 + y) (omega arith)
    low e Equal l = let h : x ≡ y = l in same (a * 256 + x) (b * 256 + y) (omega arith)
    low e Greater l = let h : y < x = l in above (a * 256 + x) (b * 256 + y) (omega arith)

    by : (r : Ordering) → MatchOrdering r (a < b) (a ≡ b) (b < a) → nat_cmp (a * 256 + x) (b * 256 + y) ≡ ordering_then r (nat_cmp x y)
    by Less l = let h : a < b = l in below (a * 256 + x) (b * 256 + y) (omega arith)
    by Equal l = low l (nat_cmp x y) (ranked x y (nat_cmp x y) refl)
    by Greater l = let h : b < a = l in above (a * 256 + x) (b * 256 + y) (omega arith)

one_more : (m n : ℕ) → nat_cmp (suc m) (suc n) ≡ nat_cmp m n
one_more m n = by (nat_cmp m n) (ranked m n (nat_cmp m n) refl)
  where
    by : (r : Ordering) → MatchOrdering r (m < n) (m ≡ n) (n < m) → nat_cmp (suc m) (suc n) ≡ r
    by Less l = let h : m < n = l in below (suc m) (suc n) (omega arith)
    by Equal l = let h : m ≡ n = l in same (suc m) (suc n) (omega arith)
    by Greater l = let h : n < m = l in above (suc m) (suc n) (omega arith)

-- ---- bytes of two texts, one after another

-- n of them from place i on
abbrev ranks : List ℕ → List ℕ → ℕ → ℕ → Ordering
ranks s t zero i = Equal
ranks s t (suc n) i = ordering_then (nat_cmp (slice_index s i) (slice_index t i)) (ranks s t n (suc i))

module _ (s t : List ℕ) where
  parted : (m n k i j : ℕ) → k ≡ m + n → j ≡ i + m → ranks s t k i ≡ ordering_then (ranks s t m i) (ranks s t n j)
  parted zero n k i j e f = let g : k ≡ n = omega arith in let h : i ≡ j = omega arith in λ z. ranks s t (g z) (h z)
  parted (suc m) n zero i j e f = absurd (omega arith)
  parted (suc m) n (suc k) i j e f =
      let x = nat_cmp (slice_index s i) (slice_index t i) in
      ap (ordering_then x) (parted m n k (suc i) j (omega arith) (omega arith)) ∙ sym (then_then x (ranks s t m (suc i)) (ranks s t n j))

  module _ (bs : (k : ℕ) → slice_index s k < 256) (bt : (k : ℕ) → slice_index t k < 256) where
    spelt_ranks : (n a b i : ℕ) → nat_cmp (spelt s a n i) (spelt t b n i) ≡ ordering_then (nat_cmp a b) (ranks s t n i)
    spelt_ranks zero a b i = sym (then_equal (nat_cmp a b))
    spelt_ranks (suc n) a b i =
        let x = slice_index s i in
        let y = slice_index t i in
        spelt_ranks n (a * 256 + x) (b * 256 + y) (suc i)
        ∙ ap (λ r. ordering_then r (ranks s t n (suc i))) (digit a b x y (bs i) (bt i))
        ∙ then_then (nat_cmp a b) (nat_cmp x y) (ranks s t n (suc i))

-- what is compared with nothing
level : (n i : ℕ) → ranks [] [] n i ≡ Equal
level zero i = refl
level (suc n) i = level n (suc i)

none_above : (x : ℕ) → ordering_then (nat_cmp 0 x) Less ≡ Less
none_above x = by (nat_cmp 0 x) (ranked 0 x (nat_cmp 0 x) refl)
  where
    by : (r : Ordering) → MatchOrdering r (0 < x) (0 ≡ x) (x < 0) → ordering_then r Less ≡ Less
    by Less l = refl
    by Equal l = refl
    by Greater l = let h : x < 0 = l in absurd (omega arith)

none_below : (x : ℕ) → ordering_then (nat_cmp x 0) Greater ≡ Greater
none_below x = by (nat_cmp x 0) (ranked x 0 (nat_cmp x 0) refl)
  where
    by : (r : Ordering) → MatchOrdering r (x < 0) (x ≡ 0) (0 < x) → ordering_then r Greater ≡ Greater
    by Less l = let h : x < 0 = l in absurd (omega arith)
    by Equal l = refl
    by Greater l = refl

all_below : (t : List ℕ) (n i : ℕ) → ordering_then (ranks [] t n i) Less ≡ Less
all_below t zero i = refl
all_below t (suc n) i =
    let x = slice_index t i in
    then_then (nat_cmp 0 x) (ranks [] t n (suc i)) Less ∙ ap (ordering_then (nat_cmp 0 x)) (all_below t n (suc i)) ∙ none_above x

all_above : (s : List ℕ) (n i : ℕ) → ordering_then (ranks s [] n i) Greater ≡ Greater
all_above s zero i = refl
all_above s (suc n) i =
    let x = slice_index s i in
    then_then (nat_cmp x 0) (ranks s [] n (suc i)) Greater ∙ ap (ordering_then (nat_cmp x 0)) (all_above s n (suc i)) ∙ none_below x

shifted : (a b : ℕ) (s t : List ℕ) (n i : ℕ) → ranks (a ∷ s) (b ∷ t) n (suc i) ≡ ranks s t n i
shifted a b s t zero i = refl
shifted a b s t (suc n) i = ap (ordering_then (nat_cmp (slice_index s i) (slice_index t i))) (shifted a b s t n (suc i))

-- the bytes, with zeros behind them, and then the lengths
ordered : (n : ℕ) (s t : List ℕ) → length s ≤ n → length t ≤ n → slice_cmp nat_cmp s t ≡ ordering_then (ranks s t n 0) (nat_cmp (length s) (length t))
ordered n [] [] p q = sym (ap (λ r. ordering_then r (nat_cmp 0 0)) (level n 0))
ordered n [] (b ∷ t) p q = sym (ap (ordering_then (ranks [] (b ∷ t) n 0)) (below 0 (suc (length t)) (omega arith)) ∙ all_below (b ∷ t) n 0)
ordered n (a ∷ s) [] p q = sym (ap (ordering_then (ranks (a ∷ s) [] n 0)) (above (suc (length s)) 0 (omega arith)) ∙ all_above (a ∷ s) n 0)
ordered zero (a ∷ s) (b ∷ t) p q = absurd (omega arith)
ordered (suc n) (a ∷ s) (b ∷ t) p q =
    let x = nat_cmp a b in
    ap (ordering_then x) (ordered n s t (omega arith) (omega arith) ∙ (λ z. ordering_then (sym (shifted a b s t n 0) z) (sym (one_more (length s) (length t)) z)))
    ∙ sym (then_then x (ranks (a ∷ s) (b ∷ t) n 1) (nat_cmp (suc (length s)) (suc (length t))))

-- ---- texts by their numbers

abbrev packed_cmp : Packed → Packed → Ordering
packed_cmp p q = ordering_then (nat_cmp p.first q.first) (ordering_then (nat_cmp p.second q.second) (ordering_then (nat_cmp p.last q.last) (nat_cmp p.len q.len)))

compared : (s t : List ℕ) → length s ≤ 20 → length t ≤ 20 → ((k : ℕ) → slice_index s k < 256) → ((k : ℕ) → slice_index t k < 256) → packed_cmp (packed s) (packed t) ≡ slice_cmp nat_cmp s t
compared s t few few' narrow narrow' =
    let word : (n i : ℕ) → nat_cmp (spelt s 0 n i) (spelt t 0 n i) ≡ ranks s t n i = λ n i. spelt_ranks s t narrow narrow' n 0 0 i in
    let x = ranks s t 8 0 in
    let y = ranks s t 8 8 in
    let w = ranks s t 4 16 in
    let n = nat_cmp (length s) (length t) in
    let cut : ranks s t 20 0 ≡ ordering_then x (ordering_then y w) =
    parted s t 8 12 20 0 8 refl refl ∙ ap (ordering_then x) (parted s t 8 4 12 8 16 refl refl) in
    (λ z. ordering_then (word 8 0 z) (ordering_then (word 8 8 z) (ordering_then (word 4 16 z) n)))
    ∙ ap (ordering_then x) (sym (then_then y w n))
    ∙ sym (then_then x (ordering_then y w) n)
    ∙ ap (λ r. ordering_then r n) (sym cut)
    ∙ sym (ordered 20 s t few few')

pub by_numbers : (p q : Packed) → IsPacked p → IsPacked q → packed_cmp p q ≡ slice_cmp nat_cmp (text_of p) (text_of q)
by_numbers p q a b =
    let few : length (text_of p) ≤ 20 = omega (arith, a.fits, ap (λ (r : Packed). r.len) a.back) in
    let few' : length (text_of q) ≤ 20 = omega (arith, b.fits, ap (λ (r : Packed). r.len) b.back) in
    (λ z. packed_cmp (sym a.back z) (sym b.back z)) ∙ compared (text_of p) (text_of q) few few' a.narrow b.narrow

-- ---- and back

pub filled : (text own : List ℕ) → length text ≤ 20 → own ≡ text
    → take (20 - length text) (replicate 20 0) ++ (own ++ drop (20 - (20 - length text)) (drop (20 - length text) (replicate 20 0))) ≡ at_the_end 20 text
filled text own fits is =
    let all : List ℕ = replicate 20 0 in
    let front : take (20 - length text) all ≡ replicate (20 - length text) 0 = take-replicate {X = ℕ} (20 - length text) 20 0 (omega arith) in
    let none : drop (20 - (20 - length text)) (drop (20 - length text) all) ≡ [] =
    drop_all (20 - (20 - length text)) (drop (20 - length text) all) (omega (arith, length-drop (20 - length text) all, length-replicate {A = ℕ} 20 0)) in
    (λ z. front z ++ (is z ++ none z)) ∙ ap (λ l. replicate (20 - length text) 0 ++ l) (append-nil text)

module _ (text bytes : List ℕ) (fits : length text ≤ 20) (is : bytes ≡ at_the_end 20 text) (narrow : (k : ℕ) → slice_index text k < 256) where
  abbrev zeros : List ℕ
  zeros = replicate (20 - length text) 0

  long : length zeros ≡ 20 - length text
  long = length-replicate {A = ℕ} (20 - length text) 0

  -- a byte from the end of the array is one of the text turned round
  behind : (k : ℕ) → k < 20 → length text ≤ k → slice_index (zeros ++ text) (19 - k) ≡ slice_index (reverse text) k
  behind k l h =
      get_or_append_left zeros text 0 (19 - k) (omega (arith, long))
      ∙ get_or-replicate {A = ℕ} (20 - length text) (19 - k) 0 0 (omega arith)
      ∙ sym (get_or_past (reverse text) k 0 (omega (arith, length-reverse text)))

  within : (k : ℕ) → k < length text → slice_index (zeros ++ text) (19 - k) ≡ slice_index (reverse text) k
  within k h =
      let e : 19 - k - (20 - length text) ≡ length text - 1 - k = omega arith in
      get_or-append_right zeros text (20 - length text) (19 - k) 0 long (omega arith) ∙ ap (λ j. slice_index text j) e ∙ sym (get_or-reverse text k 0 h)

  at : (k : ℕ) → k < 20 → slice_index bytes (19 - k) ≡ slice_index (reverse text) k
  at k l = ap (λ b. slice_index b (19 - k)) is ∙ by (nat_cmp k (length text)) (ranked k (length text) (nat_cmp k (length text)) refl)
    where
      by : (r : Ordering) → MatchOrdering r (k < length text) (k ≡ length text) (length text < k) → slice_index (zeros ++ text) (19 - k) ≡ slice_index (reverse text) k
      by Less m = within k m
      by Equal m = let h : k ≡ length text = m in behind k l (omega arith)
      by Greater m = let h : length text < k = m in behind k l (omega arith)

  narrow_turned : (k : ℕ) → slice_index (reverse text) k < 256
  narrow_turned k = by (nat_cmp k (length text)) (ranked k (length text) (nat_cmp k (length text)) refl)
    where
      past : length text ≤ k → slice_index (reverse text) k < 256
      past h = omega (arith, get_or_past (reverse text) k 0 (omega (arith, length-reverse text)))

      by : (r : Ordering) → MatchOrdering r (k < length text) (k ≡ length text) (length text < k) → slice_index (reverse text) k < 256
      by Less m = let h : k < length text = m in omega (arith, get_or-reverse text k 0 h, narrow (length text - 1 - k))
      by Equal m = let h : k ≡ length text = m in past (omega arith)
      by Greater m = let h : length text < k = m in past (omega arith)

  -- n bytes of the array, from place j down
  abbrev down : ℕ → ℕ → List ℕ
  down j zero = []
  down j (suc n) = slice_index bytes j ∷ down (j - 1) n

  down_is : (n j k : ℕ) → k < n → slice_index (down j n) k ≡ slice_index bytes (j - k)
  down_is zero j k l = absurd (omega arith)
  down_is (suc n) j zero l = ap (slice_index bytes) (omega arith)
  down_is (suc n) j (suc k) l = down_is n (j - 1) k (omega arith) ∙ ap (slice_index bytes) (omega arith)

  length-down : (n j : ℕ) → length (down j n) ≡ n
  length-down zero j = refl
  length-down (suc n) j = ap suc (length-down n (j - 1))

  narrow_down : (n j : ℕ) → j < 20 → (k : ℕ) → slice_index (down j n) k < 256
  narrow_down zero j l k = omega arith
  narrow_down (suc n) j l zero =
      let e : 19 - (19 - j) ≡ j = omega arith in
      omega (arith, ap (slice_index bytes) e, at (19 - j) (omega arith), narrow_turned (19 - j))
  narrow_down (suc n) j l (suc k) = narrow_down n (j - 1) (omega arith) k

  given_back : take (length text) (down 19 20) ≡ reverse text
  given_back =
      let all : length (take (length text) (down 19 20)) ≡ length (reverse text) =
      omega (arith, length-take (length text) (down 19 20), length-down 20 19, length-reverse text) in
      same_number_lists (take (length text) (down 19 20)) (reverse text) all
      (λ k l. get_or-take (length text) (down 19 20) k 0 (omega (arith, all, length-reverse text))
      ∙ down_is 20 19 k (omega (arith, all, length-reverse text))
      ∙ at k (omega (arith, all, length-reverse text)))

  module _ (f g h : ℕ) (f_is : f ≡ from_be_bytes w64 (down 19 8)) (g_is : g ≡ from_be_bytes w64 (down 11 8)) (h_is : h ≡ from_be_bytes w32 (down 3 4)) where
    abbrev numbers : Packed
    numbers = record { first = f; second = g; last = h; len = length text }

    pub text_back : text_of numbers ≡ reverse text
    text_back =
        let first : to_be_bytes w64 f ≡ down 19 8 = be_bytes_8 (down 19 8) f refl (narrow_down 8 19 (omega arith)) f_is in
        let second : to_be_bytes w64 g ≡ down 11 8 = be_bytes_8 (down 11 8) g refl (narrow_down 8 11 (omega arith)) g_is in
        let last : to_be_bytes w32 h ≡ down 3 4 = be_bytes_4 (down 3 4) h refl (narrow_down 4 3 (omega arith)) h_is in
        (λ z. take (length text) (first z ++ second z ++ last z)) ∙ given_back

    pub is_packed : IsPacked numbers
    is_packed =
        let first : spelt (reverse text) 0 8 0 ≡ f =
        omega (arith, f_is, at 0 (omega arith), at 1 (omega arith), at 2 (omega arith), at 3 (omega arith), at 4 (omega arith), at 5 (omega arith), at 6 (omega arith), at 7 (omega arith)) in
        let second : spelt (reverse text) 0 8 8 ≡ g =
        omega (arith, g_is, at 8 (omega arith), at 9 (omega arith), at 10 (omega arith), at 11 (omega arith), at 12 (omega arith), at 13 (omega arith), at 14 (omega arith), at 15 (omega arith)) in
        let last : spelt (reverse text) 0 4 16 ≡ h = omega (arith, h_is, at 16 (omega arith), at 17 (omega arith), at 18 (omega arith), at 19 (omega arith)) in
        record {
          fits = fits;
          narrow = λ k. subst (λ (t : List ℕ). slice_index t k < 256) (sym text_back) (narrow_turned k);
          back = ap packed text_back ∙ (λ z. record { first = first z; second = second z; last = last z; len = length-reverse text z });
        }
