-- The subcommand that was read, by its name and by its rows.
use Rattle.std.proofs.Common.{◌≡◌, ◌∙◌, ℕ, List, Option, Some, None, Result, Ok, Err, ap, sym, inl, inr}
use Rattle.std.specs.Prelude.{option_map, IsErrAnd, MatchResult}
use Rattle.std.specs.Box.{box_value}
use Rattle.clap.specs.Matches.{found_of, subcommand_name_of}
use Rattle.clap.specs.Simple.{subcommand_of, subcommand_rows_of}
use Rattle.clap.specs.Walk.{Row, Text, rows_of}
use Rattle.clap.specs.declared.parser.matches.ArgMatches.{ArgMatches}
use Rattle.clap.specs.declared.parser.matches.ArgMatches.TheViews.{out-ArgMatches, out-SubCommand}
use Rattle.clap.specs.declared.parser.matches.Found.{Found}
use Rattle.command_line.specs.Program.{program_app}
use Rattle.command_line.specs.Words.{IsNamed, IsLineOf, IsLineRead}
use Rattle.command_line.specs.declared.words.Line.{Line}

abbrev pair : {B : Type 0} → (B → List ℕ) → (B → List Row) → B → List ℕ × List Row
pair name_of its_rows b = (name_of b, its_rows b)

abbrev second : List ℕ × List Row → List Row
second p = p.1

both : {B : Type 0} (name_of : B → List ℕ) (its_rows : B → List Row) (sub : Option B) (name : List ℕ) (rows : List Row) → Some name ≡ option_map name_of sub
    → Some rows ≡ option_map second (option_map (pair name_of its_rows) sub) → option_map (pair name_of its_rows) sub ≡ Some (name, rows)
both name_of its_rows None name rows named given = absurd (let it = named in cc)
both name_of its_rows (Some b) name rows named given =
    let n : name ≡ name_of b = cc in
    let r : rows ≡ its_rows b = cc in
    let whole : List ℕ × List Row = (name, rows) in
    let same : pair name_of its_rows b ≡ whole = sym (ap (λ x. (x, rows)) n ∙ ap (λ y. (name_of b, y)) r) in
    ap Some same

pub is_line : (read : ArgMatches) (found : Found) (name given : List ℕ) (line : Line) → given ≡ name → Some given ≡ subcommand_name_of read → Some (rows_of found) ≡ option_map second (subcommand_rows_of read)
    → IsNamed name found line → IsLineOf read line
is_line read found name given line is named rows h = inr (name, found, both (λ b. (out-SubCommand (box_value b)).name.now) (λ b. rows_of (found_of (out-SubCommand (box_value b)).matches)) (out-ArgMatches read).subcommand name (rows_of found) (ap Some (sym is) ∙ named) rows, h)

-- what was read is what the words say
pub line_read : (read : ArgMatches) (words : List Text) (line : Line) → subcommand_rows_of read ≡ subcommand_of program_app words → IsLineOf read line → IsLineRead words line
line_read read words line same (inl unknown) = inl unknown
line_read read words line same (inr it) = inr (it.0, it.1, sym same ∙ it.2, it.3)

-- what holds of an error holds of what the call comes to
pub fails_so : {T E : Type 0} (N : T → Type 0) (P Q : E → Type 0) (result : Result T E) → ((e : E) → P e → Q e) → IsErrAnd result P → MatchResult result N Q
fails_so N P Q (Ok done) follows h = absurd h
fails_so N P Q (Err e) follows h = follows e h
