-- What is true of readings.
use Rattle.std.specs.Prelude.{◌≡◌, ◌++◌, ℕ, List, Bool, true, false}
use Rattle.requests.specs.Requests.{IsReading}
use Rattle.requests.specs.declared.request.Read.{Read}
use Rattle.requests.specs.declared.request.Read.TheVariants.{Need, Bad, Request}

-- a text has one reading
abbrev pub HasOneReading : Type 0
HasOneReading = (text : List ℕ) (a b : Read) → IsReading text a → IsReading text b → a ≡ b

-- more bytes are needed
abbrev pub needs_more : Read → Bool
needs_more (Need e) = true
needs_more (Bad e) = false
needs_more (Request a) = false

-- a reading for which no more bytes are needed stays, whatever bytes follow
abbrev pub IsSettled : Type 0
IsSettled = (text more : List ℕ) (r : Read) → IsReading text r → needs_more r ≡ false → IsReading (text ++ more) r
