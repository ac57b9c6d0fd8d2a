-- Lines of an order that are put with all their units shipped: the order is filled.
use Rattle.slices.proofs.Words.{◌≡◌, ℕ, ◌+◌, ◌<◌, ◌++◌, length, take, get_or, take_more, map_more, Bool, true, false, ◌&&◌, ◌||◌, ◌==◌, List, [], ◌∷◌, map, refl, ap, sym, subst, ◌∙◌, if◌then◌else◌, find, option_map, Option, Some, None, is_some, AllByRecursion, list_all, list_any, bytes_eq, and_both, eqb-true, any_found, Tables, LineRow, LineKey, same_line, line_key, same_bytes, AreOwn, lines, lines_laws, filled_line, lines_filled, AreLinesOfOrder, with_row, each_written, is_filled, FillsLines}
use Rattle.slices.proofs.RowsTold.{rows_read}

pub filled_is : (line put : LineRow) → is_filled line put ≡ true → put ≡ filled_line line
filled_is line put h =
    let three = and_both ((bytes_eq put.order line.order && bytes_eq put.gtin line.gtin) && (put.ordered == line.ordered)) (put.shipped == line.ordered) h in
    let two = and_both (bytes_eq put.order line.order && bytes_eq put.gtin line.gtin) (put.ordered == line.ordered) three.0 in
    let one = and_both (bytes_eq put.order line.order) (bytes_eq put.gtin line.gtin) two.0 in
    λ i. record { order = same_bytes put.order line.order one.0 i; gtin = same_bytes put.gtin line.gtin one.1 i; ordered = eqb-true put.ordered line.ordered two.1 i; shipped = eqb-true put.shipped line.ordered three.1 i }

-- one line more
pub filled_more : (lines put : List LineRow) (at : ℕ) (line row : LineRow) → at < length lines → at < length put → line ≡ get_or lines at line → row ≡ get_or put at row → is_filled line row ≡ true → take at put ≡ map filled_line (take at lines)
    → take (at + 1) put ≡ map filled_line (take (at + 1) lines)
filled_more lines put at line row low low_too is_line is_row filled so_far =
    take_more put at row low_too
    ∙ (λ i. so_far i ++ (sym is_row ∙ filled_is line row filled ∙ ap filled_line is_line) i ∷ [])
    ∙ sym (map_more filled_line lines at line low)

-- the line under the key of this one is this one, once it is filled
abbrev IsOwn : Tables → LineRow → Type 0
IsOwn t r = option_map filled_line (t.line r.order r.gtin) ≡ Some (filled_line r)

abbrev with_filled : LineRow → Tables → Tables
with_filled r t = with_row lines (filled_line r) t

stays_own : (t : Tables) (r s : LineRow) → IsOwn t r → IsOwn t s → IsOwn (with_filled r t) s
stays_own t r s own_r own_s =
    elim (same_line (line_key s) (line_key r)) as (λ b. same_line (line_key s) (line_key r) ≡ b → option_map filled_line (if b then Some (filled_line r) else t.line s.order s.gtin) ≡ Some (filled_line s)) [
      | true ↦ λ e.
          let same : line_key s ≡ line_key r = lines_laws.one_key (line_key s) (line_key r) e in
          sym own_r ∙ ap (λ (k : LineKey). option_map filled_line (lines.look t k)) (sym same) ∙ own_s
      | false ↦ λ e. own_s
    ] refl

all_stay : (t : Tables) (r : LineRow) → IsOwn t r → (rows : List LineRow) → AllByRecursion (IsOwn t) rows → AllByRecursion (IsOwn (with_filled r t)) rows
all_stay t r own_r [] own = tt
all_stay t r own_r (s ∷ rows) own = (stays_own t r s own_r own.0, all_stay t r own_r rows own.1)

-- what is put under a key is the line there, filled
all_put : (rows : List LineRow) (t : Tables) → AllByRecursion (IsOwn t) rows → (k : LineKey)
    → lines.look (each_written (with_row lines) (map filled_line rows) t) k ≡ (if list_any (λ r. same_line k (line_key r)) rows then option_map filled_line (lines.look t k) else lines.look t k)
all_put [] t own k = refl
all_put (r ∷ rows) t own k =
    all_put rows (with_filled r t) (all_stay t r own.0 rows own.1) k
    ∙ elim (same_line k (line_key r)) as (λ b. same_line k (line_key r) ≡ b → (if list_any (λ r. same_line k (line_key r)) rows then option_map filled_line (if b then Some (filled_line r) else lines.look t k) else (if b then Some (filled_line r) else lines.look t k))
    ≡ (if b || list_any (λ r. same_line k (line_key r)) rows then option_map filled_line (lines.look t k) else lines.look t k)) [
      | true ↦ λ e.
          let mine : Some (filled_line r) ≡ option_map filled_line (lines.look t k) = sym own.0 ∙ ap (λ (q : LineKey). option_map filled_line (lines.look t q)) (sym (lines_laws.one_key k (line_key r) e)) in
          elim (list_any (λ r. same_line k (line_key r)) rows) as (λ c. (if c then Some (filled_line r) else Some (filled_line r)) ≡ option_map filled_line (lines.look t k)) [ true ↦ mine | false ↦ mine ]
      | false ↦ λ e. refl
    ] refl

each_own : (t : Tables) (wanted : LineKey → Bool) (rows : List LineRow) → AreOwn line_key wanted (lines.look t) rows → AllByRecursion (IsOwn t) rows
each_own t wanted [] h = tt
each_own t wanted (r ∷ rows) h = (ap (option_map filled_line) h.1, each_own t wanted rows h.2)

-- no line of the order has the key of another
none_other : (name : List ℕ) (k : LineKey) → bytes_eq name k.0 ≡ false → (rows : List LineRow) → list_all (λ r. bytes_eq name r.order) rows ≡ true → list_any (λ r. same_line k (line_key r)) rows ≡ false
none_other name k e [] all = refl
none_other name k e (r ∷ rows) all =
    let two = and_both (bytes_eq name r.order) (list_all (λ r. bytes_eq name r.order) rows) all in
    elim (same_line k (line_key r)) as (λ b. same_line k (line_key r) ≡ b → b || list_any (λ r. same_line k (line_key r)) rows ≡ false) [
      | true ↦ λ f. absurd (let at : bytes_eq name k.0 ≡ true = ap (λ (q : LineKey). bytes_eq name q.0) (lines_laws.one_key k (line_key r) f) ∙ two.0 in cc)
      | false ↦ λ f. none_other name k e rows two.1
    ] refl

pub fills_lines : (name : List ℕ) (t : Tables) (rows : List LineRow) → AreLinesOfOrder name t rows → FillsLines name (map filled_line rows) t
fills_lines name t rows are k =
    all_put rows t (each_own t (λ q. bytes_eq name q.0) rows (rows_read same_line line_key lines_laws.one_key lines_laws.itself (λ q. bytes_eq name q.0) (lines.look t) rows are).own) k
    ∙ elim (bytes_eq name k.0) as (λ b. bytes_eq name k.0 ≡ b → (if list_any (λ r. same_line k (line_key r)) rows then option_map filled_line (lines.look t k) else lines.look t k) ≡ (if b then option_map filled_line (lines.look t k) else lines.look t k)) [
      | true ↦ λ e. there (lines.look t k) (list_any (λ r. same_line k (line_key r)) rows) (sym (any_found (λ r. same_line k (line_key r)) rows) ∙ ap is_some (are.found k e))
      | false ↦ λ e. ap (λ c. if c then option_map filled_line (lines.look t k) else lines.look t k) (none_other name k e rows are.only)
    ] refl
  where
    there : (x : Option LineRow) (any : Bool) → any ≡ is_some x → (if any then option_map filled_line x else x) ≡ option_map filled_line x
    there None any e = elim any as (λ c. (if c then option_map filled_line None else None) ≡ option_map filled_line None) [ true ↦ refl | false ↦ refl ]
    there (Some r) any e = ap (λ c. if c then option_map filled_line (Some r) else Some r) e
