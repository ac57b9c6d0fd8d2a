-- What is not answered 200 leaves the tables as before, whatever tables they are.
use Rattle.house.proofs.Words.{◌≢◌, List, ◌∷◌, [], ◌++◌, Result, Ok, Err, OnErr, All, codes, All-contains, Contains-get_or, Contains-append_left, Contains-push, State, tally_text, IsAsBefore, Fault, Reply, RowFault, as_before_then, status_of, told_answer, told_file_answer, bytes_of, Answered}
use Rattle.store.specs.declared.tally.Tally.{Tally}
use Rattle.house.proofs.StepLaws.{ok_status}

pub act_unanswered : (done : Result Reply Fault) (old new : State) → OnErr done (IsAsBefore old new) → status_of (told_answer done) ≢ codes "HTTP/1.1 200" → IsAsBefore old new
act_unanswered (Ok reply) old new left ne = absurd (ne (ok_status reply.text))
act_unanswered (Err fault) old new left ne = left

pub file_unanswered : (done : Result Tally RowFault) (old new : State) → OnErr done (IsAsBefore old new) → status_of (told_file_answer done) ≢ codes "HTTP/1.1 200" → IsAsBefore old new
file_unanswered (Ok tally) old new left ne = absurd (ne (ok_status (tally_text tally.accepted tally.repeated)))
file_unanswered (Err fault) old new left ne = left

-- one answer more
abbrev IsUnanswered : Answered → Type 0
IsUnanswered answer = status_of (bytes_of answer) ≢ codes "HTTP/1.1 200"

pub run_unanswered : (old mid new : State) (answers : List Answered) (answer : Answered) → (All IsUnanswered answers → IsAsBefore old mid) → (IsUnanswered answer → IsAsBefore mid new) → All IsUnanswered (answers ++ answer ∷ [])
    → IsAsBefore old new
run_unanswered old mid new answers answer before last all =
    as_before_then old mid new (before (λ k d lt. All-contains IsUnanswered (answers ++ answer ∷ []) _ all (Contains-append_left answers (answer ∷ []) _ (Contains-get_or answers k d lt))))
    (last (All-contains IsUnanswered (answers ++ answer ∷ []) answer all (Contains-push answers answer)))
