-- What is written to a writer and flushed.
use Rattle.wire.proofs.Words.{ℕ, List, [], Option, sym, append-nil, Result, Ok, Err, Appends, Keeps, Appends-kept, Writes}

-- the whole is a beginning too
pub flushed : {X E : Type 0} (r : Result X E) (old mid new : Option (List ℕ)) (bytes : List ℕ) → Appends old mid bytes → Keeps mid new → Writes r old new bytes
flushed (Ok x) old mid new bytes taken kept = Appends-kept old mid new bytes taken kept
flushed (Err e) old mid new bytes taken kept = record {
  front = bytes;
  rest = [];
  parts = sym (append-nil bytes);
  written = Appends-kept old mid new bytes taken kept;
}
