-- How the text of a statement is read.
use Rattle.books_schema.proofs.Words.{◌≡◌, ℕ, List, [], refl, false, None, Ok, Result, Option, Schema, Command, Returning, misses_table, compiled, and_then, Compiled, CompileError}
use Rattle.sqlite.specs.Listing.{understood}

-- what follows from which command it is
abbrev pub whole_of : ℕ → Result Command CompileError → Result Compiled CompileError
whole_of size command =
    and_then (and_then (and_then command (λ (c : Command). Ok (c, None))) (λ (found : Command × Option Returning). Ok ([], found)))
    (λ (p : List (List ℕ) × (Command × Option Returning)). let c : Compiled = record { command = p.1.0; returning = p.1.1; names = []; formats = p.0; start = 0; end = size; tail = size } in Ok c)

pub understood_as : (schema : Schema) (text : List ℕ) (r : Result Compiled CompileError) → compiled schema text ≡ r → misses_table r ≡ false → understood schema text ≡ r
unfolding understood
understood_as schema text r is found = rw (is, found) refl
