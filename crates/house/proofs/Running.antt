-- Runs over texts.
use Rattle.house.proofs.Words.{◌≡◌, ℕ, ◌+◌, ◌<◌, List, [], ◌∷◌, ◌++◌, length, take, get_or, refl, ap, sym, subst, ◌∙◌, add-one, append_assoc, take-suc, map-append, ℤ, map, zip, Vec, Act, IsHistory, Ghosts, state, Connected, HoldsBooks, Step, Run, StepsTo, RunsTo, LeavesBooks, texts_of, bytes_of, Answered}
use Rattle.house.proofs.Stepping.{leaves_more}

-- a run, and one step more
pub one_more : (first : ℤ) (old : List Act) (texts answers : List (List ℕ)) (mid : List Act) (text bytes : List ℕ) (new : List Act)
    → Run first old texts answers mid → Step first mid text bytes new → Run first old (texts ++ text ∷ []) (answers ++ bytes ∷ []) new
one_more first old [] [] mid text bytes new run step = (new, subst (λ a. Step first a text bytes new) run step, refl)
one_more first old [] (a ∷ answers) mid text bytes new run step = absurd run
one_more first old (t ∷ texts) [] mid text bytes new run step = absurd run
one_more first old (t ∷ texts) (a ∷ answers) mid text bytes new run step =
    (run.0, run.1, one_more first run.0 texts answers mid text bytes new run.2 step)

-- as many answers as texts
pub told_more : (first : ℤ) (old : List Act) (texts answers : List (List ℕ)) (mid : List Act) (text bytes : List ℕ) → Run first old texts answers mid → zip (texts ++ text ∷ []) (answers ++ bytes ∷ []) ≡ zip texts answers ++ (text, bytes) ∷ []
told_more first old [] [] mid text bytes run = refl
told_more first old [] (a ∷ answers) mid text bytes run = absurd run
told_more first old (t ∷ texts) [] mid text bytes run = absurd run
told_more first old (t ∷ texts) (a ∷ answers) mid text bytes run = ap (λ l. (t, a) ∷ l) (told_more first run.0 texts answers mid text bytes run.2)

-- the same of the books
pub run_step : {S : Type 0} (g : Ghosts S) (first : ℤ) (acts : List Act) (texts answers : List (List ℕ)) (was mid new : Connected S) (text bytes : List ℕ) → (r : RunsTo g first acts texts answers was mid)
    → StepsTo g first r.after text bytes mid new → RunsTo g first acts (texts ++ text ∷ []) (answers ++ bytes ∷ []) was new
run_step g first acts texts answers was mid new text bytes r s = record {
  after = s.after;
  run = one_more first acts texts answers r.after text bytes s.after r.run s.step;
  history = s.history;
  holds = s.holds;
  kept = λ told leaves.
      subst (λ l. LeavesBooks first s.after l (state g new.conn))
      (append_assoc told (zip texts answers) ((text, bytes) ∷ []) ∙ ap (λ l. told ++ l) (sym (told_more first acts texts answers r.after text bytes r.run)))
      (s.kept (told ++ zip texts answers) (r.kept told leaves));
}

pub run_on : {S : Type 0} (g : Ghosts S) (first : ℤ) (acts : List Act) (texts answers : List (List ℕ)) (was mid new : Connected S) (text bytes : List ℕ)
    → RunsTo g first acts texts answers was mid → ((a : List Act) → IsHistory first a → HoldsBooks g first a mid → StepsTo g first a text bytes mid new)
    → RunsTo g first acts (texts ++ text ∷ []) (answers ++ bytes ∷ []) was new
run_on g first acts texts answers was mid new text bytes r f = run_step g first acts texts answers was mid new text bytes r (f r.after r.history r.holds)

-- before the first text
pub run_none : {S : Type 0} (g : Ghosts S) (first : ℤ) (acts : List Act) (books : Connected S) → IsHistory first acts → HoldsBooks g first acts books → RunsTo g first acts [] [] books books
run_none g first acts books history holds = record {
  after = acts;
  run = refl;
  history = history;
  holds = holds;
  kept = λ told leaves. leaves_more first acts told [] (state g books.conn) leaves;
}

-- one text more
pub texts_more : {A : Type 0} (requests : List (Vec ℕ A)) (i : ℕ) (x : Vec ℕ A) → i < length requests → x ≡ get_or requests i x
    → texts_of (take (i + 1) requests) ≡ texts_of (take i requests) ++ x.items ∷ []
texts_more requests i x h e =
    let one : take (i + 1) requests ≡ take i requests ++ x ∷ [] = rw add-one (take-suc requests i x h ∙ ap (λ y. take i requests ++ y ∷ []) (sym e)) in
    ap texts_of one ∙ map-append (λ t. t.items) (take i requests) (x ∷ [])

-- and one answer more
pub answers_more : (old new : List Answered) (answer : Answered) → new ≡ old ++ answer ∷ [] → map bytes_of new ≡ map bytes_of old ++ bytes_of answer ∷ []
answers_more old new answer e = ap (map bytes_of) e ∙ map-append bytes_of old (answer ∷ [])
