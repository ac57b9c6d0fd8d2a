-- What was read of a file.
use Rattle.acts_files.proofs.Words.{◌≡◌, ℕ, ◌+◌, ◌-◌, ◌<◌, ◌≤◌, ◌≢◌, List, [], ◌∷◌, ◌++◌, get_or, append-nil, append_assoc, length, length-append, length-drop, take, take-append-drop, drop, inl, inr, sym, ap, subst, ◌∙◌, arith, min, take-append_seam, get_or-append_seam, cases_lt, drop_all, ext_get_or, take-append-le, at_from_reads, at_reads, front_reads, Holds, Bears, IsLine, Begins, IsPartOf}

-- bytes that a file has at a place are those behind it
pub stand : (c bytes : List ℕ) (at : ℕ) → Holds c at bytes → drop at c ≡ bytes ++ drop (at + length bytes) c
stand c bytes at h = at_from_reads 0 c bytes at h.within h.each

pub stand_back : (c bytes more : List ℕ) (at : ℕ) → at ≤ length c → drop at c ≡ bytes ++ more → Holds c at bytes
stand_back c bytes more at low is =
    let long = ap length is ∙ length-append bytes more in
    record { within = omega (arith, low, long, length-drop at c); each = at_reads 0 c bytes at more is }

-- where other bytes were read, these do not stand there
pub other : (c found bytes : List ℕ) (at : ℕ) → length found ≡ length bytes → Holds c at found → ¬ (found ≡ bytes) → ¬ Holds c at bytes
other c found bytes at long read unlike holds =
    unlike (ext_get_or 0 found bytes long (λ i low. sym (read.each i low) ∙ holds.each i (omega (arith, low, long))))

-- all that stands behind a place
pub behind : (c tail : List ℕ) (at : ℕ) → at + length tail ≡ length c → Holds c at tail → drop at c ≡ tail
behind c tail at whole holds = stand c tail at holds ∙ ap (λ l. tail ++ l) (drop_all (at + length tail) c (omega (arith, whole))) ∙ append-nil tail

-- what begins with a number goes on with it
pub bears_more : (text head rest : List ℕ) → Begins head rest → Bears text head → Bears text rest
bears_more text head rest more bears = (bears.0 ++ more.0, more.1 ∙ ap (λ l. l ++ more.0) bears.1 ∙ append_assoc text _ more.0)

-- The first bytes behind a place, as many as a line may have at most, or all that there are.
module _ (n : ℕ) (c head : List ℕ) (at size : ℕ) (whole : size ≡ length c) (low : at ≤ size) (long : length head ≡ min (size - at) 8_192) (holds : Holds c at head) where
  pub head_begins : Begins head (drop at c)
  head_begins = (drop (at + length head) c, stand c head at holds)

  all_of_it : length head < 8_192 → drop at c ≡ head
  all_of_it short = behind c head at (omega (arith, short, long, low, whole)) holds

  pub part_behind : IsPartOf n head → IsPartOf n (drop at c)
  part_behind part = subst (IsPartOf n) (sym (all_of_it part.short)) part

  pub no_part_behind : ¬ IsPartOf n head → ¬ IsPartOf n (drop at c)
  no_part_behind none part =
      let behind_long = length-drop at c in
      let short = part.short in
      none (subst (IsPartOf n) (all_of_it (omega (arith, behind_long, short, long, low, whole))) part)

  pub head_taken : head ≡ take 8_192 (drop at c)
  head_taken = elim (cases_lt (length head) 8_192) [
    | inl short ↦
        let all = drop_all 8_192 head (omega (arith, short)) in
        sym (ap (take 8_192) (all_of_it short) ∙ sym (append-nil (take 8_192 head)) ∙ ap (λ l. take 8_192 head ++ l) (sym all) ∙ take-append-drop 8_192 head)
    | inr full ↦
        let is : length head ≡ 8_192 = omega (arith, full, long) in
        sym (ap (λ k. take k (drop at c)) (sym is) ∙ ap (take (length head)) (stand c head at holds) ∙ take-append_seam head (drop (at + length head) c))
  ]

-- ---- the first line

-- bytes that a file has first begin with its first line
pub first_taken : (c head line more : List ℕ) → Holds c 0 head → c ≡ line ++ more → length line ≤ length head → take (length line) head ≡ line
first_taken c head line more holds is low =
    sym (take-append-le (length line) head (drop (0 + length head) c) low) ∙ ap (take (length line)) (sym (stand c head 0 holds) ∙ is) ∙ take-append_seam line more

pub first_begins : (c head line more : List ℕ) → Holds c 0 head → c ≡ line ++ more → length line ≤ length head → head ≡ line ++ drop (length line) head
first_begins c head line more holds is low =
    sym (take-append-drop (length line) head) ∙ ap (λ l. l ++ drop (length line) head) (first_taken c head line more holds is low)

-- a line ends with the first line feed
module _ (bytes line more : List ℕ) (is : bytes ≡ line ++ more) (whole : IsLine line) where
  long : length line ≡ length whole.body + 1
  long = ap length whole.is ∙ length-append whole.body (10 ∷ [])

  feed : get_or bytes (length whole.body) 0 ≡ 10
  feed = front_reads 0 bytes line more is (length whole.body) (omega (arith, long)) ∙ ap (λ l. get_or l (length whole.body) 0) whole.is ∙ get_or-append_seam whole.body 10 [] 0

  pub has_end : ((k : ℕ) → k < length bytes → get_or bytes k 0 ≢ 10) → ⊥
  has_end none = let n = ap length is ∙ length-append line more in none (length whole.body) (omega (arith, n, long)) feed
