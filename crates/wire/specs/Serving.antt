-- What is read of a reader. `from` and `to` are the bytes that the reader had left, where they are known.
use Rattle.std.specs.Prelude.{◌≡◌, ◌≢◌, ◌⊎◌, ℕ, ◌<◌, List, [], ◌++◌, length, false, Option}
use Rattle.std.specs.Io.KnownBytes.{Consumes, IsAtEnd}
use Rattle.requests.specs.Requests.{IsReading}
use Rattle.requests.specs.Laws.{needs_more}
use Rattle.requests.specs.declared.fault.WireFault.TheVariants.{Memory}
use Rattle.requests.specs.declared.request.Read.{Read}
use Rattle.requests.specs.declared.request.Read.TheVariants.{Bad}
use Rattle.wire.specs.declared.serving.Heard.{Heard}
use Rattle.wire.specs.declared.serving.Taken.{Taken}
use Rattle.wire.specs.declared.serving.Taken.TheVariants.{More, End, NoRoom}

-- what was read has this reading, but where there was no memory
pub record IsRead (from to : Option (List ℕ)) (heard : Heard) : Type 0 where
  pub text : List ℕ
  pub taken : Consumes from to text
  pub read : heard.reading ≢ Bad Memory → IsReading text heard.reading
  pub whole : (needs_more heard.reading ≡ false) ⊎ IsAtEnd to
  -- what was read last is lost only where there was no memory for it
  pub lost : List ℕ
  pub parts : text ≡ heard.text.items ++ lost
  pub kept : (lost ≡ []) ⊎ (heard.reading ≡ Bad Memory)

-- what one read adds to the text
abbrev pub IsTaken : Option (List ℕ) → Option (List ℕ) → List ℕ → List ℕ → Taken → Type 0
IsTaken from to old new More = (bytes : List ℕ) × Consumes from to bytes × (new ≡ old ++ bytes) × (0 < length bytes)
IsTaken from to old new End = Consumes from to [] × IsAtEnd to × (new ≡ old)
IsTaken from to old new NoRoom = (bytes : List ℕ) × Consumes from to bytes × (new ≡ old)

-- the reading where no more is read
abbrev pub stopped : Taken → Read → Read
stopped More reading = reading
stopped End reading = reading
stopped NoRoom reading = Bad Memory
