-- Bookings of some orders stand by number, and their demands are told by what each order wants.
use borrow.Author.Tests.{lt-ltb}
use Rattle.machine.proofs.Words.{◌≡◌, ℕ, ◌+◌, ◌<◌, true, false, List, [], ◌∷◌, ◌++◌, refl, ap, sym, ◌∙◌, subst, arith, ◌==◌, ◌||◌, if◌then◌else◌, filter, map, flat_map, reverse, nat_lt, list_any, equal_texts, reverse-append, same_text, OrderLine, total, plan_total, Demand, AllAfter, IsRising, at_rank, Act, Posting, Placed, Booking, booking_of, lines_of_item, demand_of, names_item_twice}
use Rattle.machine.proofs.Tests.{or_none}
use Rattle.machine.proofs.histories.Falling.{AllBelow, AreFalling}
use Rattle.machine.proofs.histories.Orders.{AllSingle}

-- Falling along the newest first, rising along the reverse

abbrev AllLower : ℕ → List Booking → Type 0
AllLower n [] = Unit {0}
AllLower n (b ∷ bs) = (b.act < n) × AllLower n bs

abbrev AreLower : List Booking → Type 0
AreLower [] = Unit {0}
AreLower (b ∷ bs) = AllLower b.act bs × AreLower bs

lower_append : (n : ℕ) (bs cs : List Booking) → AllLower n bs → AllLower n cs → AllLower n (bs ++ cs)
lower_append n [] cs h k = k
lower_append n (b ∷ bs) cs h k = (h.0, lower_append n bs cs h.1 k)

-- a line of the item is the only one
pub none_more : (g : List ℕ) (l : OrderLine) (ls : List OrderLine) → same_text g l.gtin ≡ true → list_any (λ m. same_text l.gtin m.gtin) ls ≡ false → filter (λ m. same_text g m.gtin) ls ≡ []
none_more g l [] e h = refl
none_more g l (m ∷ ms) e h =
    let same : g ≡ l.gtin = equal_texts g l.gtin (sym e) in
    elim (same_text l.gtin m.gtin) as (λ b. same_text l.gtin m.gtin ≡ b → b || list_any (λ m. same_text l.gtin m.gtin) ms ≡ false → (if same_text g m.gtin then m ∷ filter (λ m. same_text g m.gtin) ms else filter (λ m. same_text g m.gtin) ms) ≡ []) [
      | true ↦ λ t f. cc
      | false ↦ λ t f.
          ap (λ b. if b then m ∷ filter (λ m. same_text g m.gtin) ms else filter (λ m. same_text g m.gtin) ms) (ap (λ (x : List ℕ). same_text x m.gtin) same ∙ t) ∙ none_more g l ms e f
    ] refl h

module _ (g : List ℕ) (p : Placed) (more : List Booking) where
  lower_lines : (n : ℕ) (ls : List OrderLine) → p.act < n → AllLower n (map (booking_of p) (filter (λ l. same_text g l.gtin) ls))
  lower_lines n [] h = tt
  lower_lines n (l ∷ ls) h =
      elim (same_text g l.gtin) as (λ b. AllLower n (map (booking_of p) (if b then l ∷ filter (λ l. same_text g l.gtin) ls else filter (λ l. same_text g l.gtin) ls))) [
        | true ↦ (h, lower_lines n ls h)
        | false ↦ lower_lines n ls h
      ]

  lines_lower : (ls : List OrderLine) → names_item_twice ls ≡ false → AllLower p.act more → AreLower more → AreLower (map (booking_of p) (filter (λ l. same_text g l.gtin) ls) ++ more)
  lines_lower [] e h k = k
  lines_lower (l ∷ ls) e h k =
      let two = or_none (list_any (λ m. same_text l.gtin m.gtin) ls) (names_item_twice ls) e in
      elim (same_text g l.gtin) as (λ b. same_text g l.gtin ≡ b → AreLower (map (booking_of p) (if b then l ∷ filter (λ l. same_text g l.gtin) ls else filter (λ l. same_text g l.gtin) ls) ++ more)) [
        | true ↦ λ t. subst (λ (xs : List OrderLine). AreLower (map (booking_of p) (l ∷ xs) ++ more)) (sym (none_more g l ls t two.0)) (h, k)
        | false ↦ λ t. lines_lower ls two.1 h k
      ] refl

all_lower : (g : List ℕ) (n : ℕ) (os : List Placed) → AllBelow (λ (p : Placed). p.act) n os → AllLower n (flat_map (lines_of_item g) os)
all_lower g n [] h = tt
all_lower g n (p ∷ os) h = lower_append n (lines_of_item g p) (flat_map (lines_of_item g) os) (lower_lines g p [] n p.lines h.0) (all_lower g n os h.1)

pub are_lower : (g : List ℕ) (os : List Placed) → AllSingle os → AreFalling (λ (p : Placed). p.act) os → AreLower (flat_map (lines_of_item g) os)
are_lower g [] s h = tt
are_lower g (p ∷ os) s h = lines_lower g p (flat_map (lines_of_item g) os) p.lines s.0 (all_lower g p.act os h.0) (are_lower g os s.1 h.1)

-- Demands

abbrev pub RisingDemands : List Demand → Type 0
RisingDemands ds = IsRising nat_lt (λ a b. a == b) (λ d. d.booking) (λ d. d.need) ds

abbrev pub AfterDemands : ℕ → List Demand → Type 0
AfterDemands n ds = AllAfter nat_lt (λ a b. a == b) (λ d. d.booking) (λ d. d.need) n ds

abbrev pub wanted_by : ℕ → List Demand → ℕ
wanted_by n ds = at_rank nat_lt (λ a b. a == b) (λ d. d.booking) (λ d. d.need) n ds

after_append : (n : ℕ) (ds : List Demand) (d : Demand) → AfterDemands n ds → nat_lt n d.booking ≡ true → AfterDemands n (ds ++ d ∷ [])
after_append n [] d h e = (e, tt)
after_append n (c ∷ ds) d h e = (h.0, after_append n ds d h.1 e)

abbrev AllEarlier : ℕ → List Demand → Type 0
AllEarlier n [] = Unit {0}
AllEarlier n (d ∷ ds) = (d.booking < n) × AllEarlier n ds

earlier_append : (n : ℕ) (ds es : List Demand) → AllEarlier n ds → AllEarlier n es → AllEarlier n (ds ++ es)
earlier_append n [] es h k = k
earlier_append n (d ∷ ds) es h k = (h.0, earlier_append n ds es h.1 k)

rising_append : (ds : List Demand) (d : Demand) → RisingDemands ds → AllEarlier d.booking ds → RisingDemands (ds ++ d ∷ [])
rising_append [] d h k = (tt, tt)
rising_append (c ∷ ds) d h k = (after_append c.booking ds d h.0 (lt-ltb c.booking d.booking k.0), rising_append ds d h.1 k.1)

pub map_append : (f : Booking → Demand) (bs cs : List Booking) → map f (bs ++ cs) ≡ map f bs ++ map f cs
map_append f [] cs = refl
map_append f (b ∷ bs) cs = ap (λ ds. f b ∷ ds) (map_append f bs cs)

module _ (acts : List Act) (ps : List Posting) where
  abbrev pub turned : List Booking → List Demand
  turned bs = map (demand_of acts ps) (reverse bs)

  pub turned_cons : (b : Booking) (bs : List Booking) → turned (b ∷ bs) ≡ turned bs ++ demand_of acts ps b ∷ []
  turned_cons b bs = ap (map (demand_of acts ps)) (reverse-append (b ∷ []) bs) ∙ map_append (demand_of acts ps) (reverse bs) (b ∷ [])

  earlier_turned : (n : ℕ) (bs : List Booking) → AllLower n bs → AllEarlier n (turned bs)
  earlier_turned n [] h = tt
  earlier_turned n (b ∷ bs) h = subst (AllEarlier n) (sym (turned_cons b bs)) (earlier_append n (turned bs) (demand_of acts ps b ∷ []) (earlier_turned n bs h.1) (h.0, tt))

  pub rising_turned : (bs : List Booking) → AreLower bs → RisingDemands (turned bs)
  rising_turned [] h = tt
  rising_turned (b ∷ bs) h = subst RisingDemands (sym (turned_cons b bs)) (rising_append (turned bs) (demand_of acts ps b) (rising_turned bs h.1) (earlier_turned b.act bs h.0))

  pub total_append : (f : Demand → ℕ) (ds es : List Demand) → plan_total f (ds ++ es) ≡ plan_total f ds + plan_total f es
  total_append f [] es = omega arith
  total_append f (d ∷ ds) es = omega (arith, total_append f ds es)

  pub total_turned : (f : Demand → ℕ) (bs : List Booking) → plan_total f (turned bs) ≡ total (λ b. f (demand_of acts ps b)) bs
  total_turned f [] = refl
  total_turned f (b ∷ bs) = ap (plan_total f) (turned_cons b bs) ∙ omega (arith, total_append f (turned bs) (demand_of acts ps b ∷ []), total_turned f bs)

total_over : (f : Booking → ℕ) (bs cs : List Booking) → total f (bs ++ cs) ≡ total f bs + total f cs
total_over f [] cs = omega arith
total_over f (b ∷ bs) cs = omega (arith, total_over f bs cs)

pub total_flat : (f : Booking → ℕ) (g : List ℕ) (os : List Placed) → total f (flat_map (lines_of_item g) os) ≡ total (λ p. total f (lines_of_item g p)) os
total_flat f g [] = refl
total_flat f g (p ∷ os) = omega (arith, total_over f (lines_of_item g p) (flat_map (lines_of_item g) os), total_flat f g os)
