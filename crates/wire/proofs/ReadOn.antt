-- What is read of a reader and written to a writer.
use Rattle.wire.proofs.Words.{◌≡◌, ◌≢◌, ℕ, ◌+◌, ◌-◌, ◌<◌, true, false, List, [], ◌++◌, length, Option, refl, sym, ap, ◌∙◌, subst, inl, inr, arith, length-append, append-nil, Vec, Consumes, Consumes-trans, IsReading, needs_more, WireFault, Memory, Read, Need, Bad, Request, IsRead, IsTaken, stopped, Taken, More, End, NoRoom}

pub needing_has_memory : (r : Read) → needs_more r ≡ true → r ≢ Bad Memory
needing_has_memory (Need e) h p = cc
needing_has_memory (Bad e) h p = absurd cc
needing_has_memory (Request a) h p = cc

-- a text that has grown is nearer to the bound
pub nearer : (from to : Option (List ℕ)) (old new : List ℕ) (t : Taken) (bound : ℕ) → t ≡ More → IsTaken from to old new t → length old < bound
    → bound - length new < bound - length old
nearer from to old new t bound e h less =
    let taken = subst (IsTaken from to old new) e h in
    let long : length new ≡ length old + length taken.0 = ap length taken.2 ∙ length-append old taken.0 in
    omega (arith, taken.3)

pub taken_on : (first from to : Option (List ℕ)) (old new : List ℕ) (t : Taken) → t ≡ More → Consumes first from old → IsTaken from to old new t → Consumes first to new
taken_on first from to old new t e was h =
    let taken = subst (IsTaken from to old new) e h in
    subst (Consumes first to) (sym taken.2) (Consumes-trans first from to old taken.0 was taken.1)

-- no more is read
module _ (first from to : Option (List ℕ)) (old : List ℕ) (kept : Vec ℕ) where
  pub at_stop : (t : Taken) (r : Read) → t ≢ More → Consumes first from old → (r ≢ Bad Memory → IsReading old r) → IsTaken from to old kept.items t
      → IsRead first to (record { reading = stopped t r; text = kept })
  at_stop More r n was read h = absurd (n refl)
  at_stop End r n was read h = record {
    text = old ++ [];
    taken = Consumes-trans first from to old [] was h.0;
    read = λ has. subst (λ t. IsReading t r) (sym (append-nil old)) (read has);
    whole = inr h.1;
    lost = [];
    parts = ap (λ t. t ++ []) (sym h.2);
    kept = inl refl;
  }
  at_stop NoRoom r n was read h = record {
    text = old ++ h.0;
    taken = Consumes-trans first from to old h.0 was h.1;
    read = λ has. absurd (has refl);
    whole = inl refl;
    lost = h.0;
    parts = ap (λ t. t ++ h.0) (sym h.2);
    kept = inr refl;
  }

-- a reading that needs no more
pub settled : (r : Read) → ((e : WireFault) → r ≡ Need e → ⊥) → needs_more r ≡ false
settled (Need e) n = absurd (n e refl)
settled (Bad e) n = refl
settled (Request a) n = refl
