use Rattle.house.proofs.Words.{◌≡◌, ◌≢◌, ◌≤◌, ℤ, List, length, take, All, codes, map, vec_len, vec_capacity, Act, IsHistory, IsClean, HoldsBooks, AreAsBefore, status_of, books_of, bytes_of, texts_of, RunsTo}
use Rattle.house.proofs.house.House.answer_all.Given as goal

abbrev pub invariant-loop-request : goal.invariant-loop-request
invariant-loop-request g l = record {
  room : length l.requests ≤ vec_capacity l.answers;
  full : vec_len l.answers ≡ l.request-index;
  clean : IsClean g.S.Store (books_of l.self) → IsClean g.S.Store (books_of l.initial.self);
  run : IsClean g.S.Store (books_of l.self) → (first : ℤ) (acts : List Act) → IsHistory first acts → HoldsBooks g.S.Store first acts (books_of l.initial.self)
      → RunsTo g.S.Store first acts (texts_of (take l.request-index l.requests)) (map bytes_of l.answers.items) (books_of l.initial.self) (books_of l.self);
  as_before : IsClean g.S.Store (books_of l.self) → All (λ answer. status_of (bytes_of answer) ≢ codes "HTTP/1.1 200") l.answers.items → AreAsBefore g.S.Store (books_of l.initial.self) (books_of l.self);
}
