-- What a reading, answered, is as a step.
use Rattle.std.specs.Fmt.{digits}
use Rattle.house.proofs.Words.{PicksAnswer, FiguresAnswer, ◌≡◌, ◌≢◌, ℕ, List, [], ◌∷◌, ◌++◌, refl, ap, sym, subst, ◌∙◌, inl, inr, ◌⊎◌, ℤ, Contains, codes, Contains-append_left, Contains-push, Ghosts, Trees, state, State, Act, IsHistory, IsReading, Ask, Show, Query, WireFault, Head, Length, Json, Field, Path, Method, TooLarge, Memory, Read, Need, Bad, Request, Connected, AreBooks, LeavesOnly, HoldsBooks, head_text, answer_bytes, Answer, BooksAnswer, OpenOrdersAnswer, ItemNamesAnswer, ExpiringAnswer, BinAnswer, OrderAnswer, StockAnswer, Text, fault_answer, ask_answer, acts_asked, status_of, IsDone, IsUndone, Step, StepsTo, IsOneFurther, LeavesBooks, IsLongIfOk, IsInPlace, IsAskedInPlace, Answered, Short, Long, TraceAnswer}

-- a text that is no request, or for which there was no memory
needed_step : (first : ℤ) (acts : List Act) (text : List ℕ) (e : WireFault) → IsReading text (Need e) → Step first acts text (fault_answer e) acts
needed_step first acts text e h = inl (record { reading = Need e; read = h; answer = refl; acts = refl })

refused_step : (first : ℤ) (acts : List Act) (text : List ℕ) (e : WireFault) → IsReading text (Bad e) → Step first acts text (fault_answer e) acts
refused_step first acts text e h = inl (record { reading = Bad e; read = h; answer = refl; acts = refl })

bad_step : (first : ℤ) (acts : List Act) (text : List ℕ) (e : WireFault) → (Bad e ≢ Bad Memory → IsReading text (Bad e)) → Step first acts text (fault_answer e) acts
bad_step first acts text Memory h = inr (record { answer = refl; acts = refl })
bad_step first acts text Head h = refused_step first acts text Head (h (λ p. cc))
bad_step first acts text Length h = refused_step first acts text Length (h (λ p. cc))
bad_step first acts text Json h = refused_step first acts text Json (h (λ p. cc))
bad_step first acts text Field h = refused_step first acts text Field (h (λ p. cc))
bad_step first acts text Path h = refused_step first acts text Path (h (λ p. cc))
bad_step first acts text (Method m) h = refused_step first acts text (Method m) (h (λ p. cc))
bad_step first acts text TooLarge h = refused_step first acts text TooLarge (h (λ p. cc))

-- more was sent and answered
pub further_more : (first : ℤ) (acts : List Act) (told more : List (List ℕ × List ℕ)) (trees : Trees) → IsOneFurther first acts told trees → IsOneFurther first acts (told ++ more) trees
further_more first acts told more trees one = record {
  text = one.text;
  unanswered = Contains-append_left told more _ one.unanswered;
  bytes = one.bytes;
  next = one.next;
  step = one.step;
  history = one.history;
  books = one.books;
}

pub leaves_more : (first : ℤ) (acts : List Act) (told more : List (List ℕ × List ℕ)) (s : State) → LeavesBooks first acts told s → LeavesBooks first acts (told ++ more) s
leaves_more first acts told more s leaves trees left = elim (leaves trees left) [ inl books ↦ inl books | inr one ↦ inr (further_more first acts told more trees one) ]

-- before the first text
pub leaves_none : (first : ℤ) (acts : List Act) (s : State) → LeavesOnly first acts s → LeavesBooks first acts [] s
leaves_none first acts s leaves trees left = inl (leaves trees left)

module _ {S : Type 0} (g : Ghosts S) (first : ℤ) (acts : List Act) (history : IsHistory first acts) (text : List ℕ) (books : Connected S) where
  stays : (bytes : List ℕ) → Step first acts text bytes acts → HoldsBooks g first acts books → StepsTo g first acts text bytes books books
  stays bytes step holds = record { after = acts; step = step; history = history; holds = holds; kept = λ told leaves. leaves_more first acts told ((text, bytes) ∷ []) (state g books.conn) leaves }

  needed : (e : WireFault) (bytes : List ℕ) → bytes ≡ fault_answer e → HoldsBooks g first acts books → IsReading text (Need e) → StepsTo g first acts text bytes books books
  needed e bytes is holds read = stays bytes (subst (λ b. Step first acts text b acts) (sym is) (needed_step first acts text e read)) holds

  bad : (e : WireFault) (bytes : List ℕ) → bytes ≡ fault_answer e → HoldsBooks g first acts books → (Bad e ≢ Bad Memory → IsReading text (Bad e)) → StepsTo g first acts text bytes books books
  bad e bytes is holds read = stays bytes (subst (λ b. Step first acts text b acts) (sym is) (bad_step first acts text e read)) holds

  pub told_fault : (reading : Read) (e : WireFault) (bytes : List ℕ) → bytes ≡ fault_answer e → HoldsBooks g first acts books
      → (reading ≢ Bad Memory → IsReading text reading) → (reading ≡ Need e) ⊎ (reading ≡ Bad e) → StepsTo g first acts text bytes books books
  told_fault reading e bytes is holds read (inl n) = needed e bytes is holds (subst (IsReading text) n (read (λ p. cc)))
  told_fault reading e bytes is holds read (inr b) = bad e bytes is holds (λ ne. subst (IsReading text) b (read (λ p. ne (sym b ∙ p))))

  -- what a stop leaves after what was done, and after what was not
  kept_done : (old : Connected S) (wanted : List ℕ) (next : List Act) (bytes : List ℕ) → IsDone g first acts old wanted next bytes books → (told : List (List ℕ × List ℕ)) → LeavesBooks first acts told (state g old.conn)
      → LeavesBooks first next (told ++ (text, bytes) ∷ []) (state g books.conn)
  kept_done old wanted next bytes d told leaves trees left = elim (d.kept trees left) [
    | inl books ↦ inl books
    | inr h ↦ subst (λ a. AreBooks first a trees ⊎ IsOneFurther first a (told ++ (text, bytes) ∷ []) trees) (sym h.1) (leaves_more first acts told ((text, bytes) ∷ []) (state g old.conn) leaves trees h.0)
  ]

  kept_undone : (old : Connected S) (bytes wanted : List ℕ) (next : List Act) → Step first acts text wanted next → IsUndone g first acts old next bytes books → (told : List (List ℕ × List ℕ)) → LeavesBooks first acts told (state g old.conn)
      → LeavesBooks first acts (told ++ (text, bytes) ∷ []) (state g books.conn)
  kept_undone old bytes wanted next step u told leaves trees left = elim (u.kept trees left) [
    | inl before ↦ leaves_more first acts told ((text, bytes) ∷ []) (state g old.conn) leaves trees before
    | inr h ↦ inr (record {
      text = text;
      unanswered = subst (λ b. Contains (told ++ (text, bytes) ∷ []) (text, b)) u.answer (Contains-push told (text, bytes));
      bytes = wanted;
      next = next;
      step = step;
      history = h.0;
      books = h.1;
    })
  ]

  pub asked : (old : Connected S) (ask : Ask) (bytes : List ℕ) → IsReading text (Request ask)
      → IsDone g first acts old (ask_answer first acts ask) (acts_asked first acts ask) bytes books ⊎ IsUndone g first acts old (acts_asked first acts ask) bytes books
      → StepsTo g first acts text bytes old books
  asked old ask bytes read (inl d) = record {
    after = acts_asked first acts ask;
    step = inl (record { reading = Request ask; read = read; answer = d.answer; acts = refl });
    history = d.history;
    holds = d.holds;
    kept = kept_done old (ask_answer first acts ask) (acts_asked first acts ask) bytes d;
  }
  asked old ask bytes read (inr u) = record {
    after = acts;
    step = inr (record { answer = u.answer; acts = refl });
    history = history;
    holds = u.holds;
    kept = kept_undone old bytes (ask_answer first acts ask) (acts_asked first acts ask) (inl (record { reading = Request ask; read = read; answer = refl; acts = refl })) u;
  }

-- an answer to what is asked is in place, or the request shows something
pub in_place : (text : List ℕ) (ask : Ask) (answer : Answered) → IsReading text (Request ask) → IsAskedInPlace ask answer → IsInPlace text answer
in_place text ask (Short block) read h = tt
in_place text ask (Long bytes) read h = (h.0, subst (λ a. IsReading text (Request a)) h.1 read, h.2)

pub shown_in_place : (ask : Ask) (query : Query) (answer : Answered) → ask ≡ Show query → IsLongIfOk answer → IsAskedInPlace ask answer
shown_in_place ask query (Short block) is h = tt
shown_in_place ask query (Long bytes) is h = (query, is, h)

-- what is shown has status 200
pub ok_status : (bytes : List ℕ) (answer : Answer) → bytes ≡ answer_bytes answer → status_of bytes ≡ codes "HTTP/1.1 200"
unfolding head_text digits
ok_status bytes (BooksAnswer view) is = ap status_of is
ok_status bytes (OpenOrdersAnswer view) is = ap status_of is
ok_status bytes (ItemNamesAnswer view) is = ap status_of is
ok_status bytes (ExpiringAnswer view) is = ap status_of is
ok_status bytes (BinAnswer view) is = ap status_of is
ok_status bytes (OrderAnswer view) is = ap status_of is
ok_status bytes (StockAnswer view) is = ap status_of is
ok_status bytes (Text text) is = ap status_of is
ok_status bytes (PicksAnswer view) is = ap status_of is
ok_status bytes (FiguresAnswer view) is = ap status_of is
ok_status bytes (TraceAnswer view) is = ap status_of is
