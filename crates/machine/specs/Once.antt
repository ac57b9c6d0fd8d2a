-- A key acts once: what a request does, the first time and when it comes again.
use Rattle.std.specs.Prelude.{◌≡◌, ℕ, ◌+◌, Bool, if◌then◌else◌, List, [], ◌∷◌, Option, Some, None, ℤ, IsTrue}
use Rattle.machine.specs.Words.{same_text, key_text, spelling, Key, Refusal, KeyUsed, Command}
use Rattle.label.specs.Days.{is_business_day}
use Rattle.commands.specs.Sound.{is_sound, is_sound_key}
pub use Rattle.commands.specs.Keys.{is_key_of}
use Rattle.machine.specs.Acts.{Act}
use Rattle.machine.specs.Verdict.{verdict}
use Rattle.machine.specs.Replies.{reply}

-- one text is one key
abbrev pub same_key : Key → Key → Bool
same_key k j = same_text (key_text k) (key_text j)

-- one spelling is one command
abbrev pub same_command : Command → Command → Bool
same_command c d = same_text (spelling c) (spelling d)

-- an act at its own place in the list
pub record Earlier : Type 0 where
  pub act : Act
  pub before : List Act

-- the act that bears the key
abbrev pub bearer : Key → List Act → Option Earlier
bearer key [] = None
bearer key (act ∷ before) = if same_key key act.key then Some (record { act = act; before = before }) else bearer key before

-- what comes of a request
pub data Outcome : Type 0 where
  Accepted : (text : List ℕ) → Outcome
  Repeated : (text : List ℕ) → Outcome
  Refused : (why : Refusal) → Outcome

-- a new key is judged by the rules
abbrev pub judged : ℤ → Act → List Act → Option Refusal → Outcome
judged first act acts None = Accepted (reply first act acts)
judged first act acts (Some why) = Refused why

-- a key that an earlier act bears gets that act's reply, if the command is the same
abbrev pub told_again : ℤ → Act → List Act → Option Earlier → Outcome
told_again first act acts None = judged first act acts (verdict first acts act.command)
told_again first act acts (Some e) = if same_command act.command e.act.command then Repeated (reply first e.act e.before) else Refused KeyUsed

-- what comes of a request after the acts
abbrev pub outcome : ℤ → List Act → Act → Outcome
outcome first acts act = told_again first act acts (bearer act.key acts)

abbrev pub appended : Act → List Act → Outcome → List Act
appended act acts (Accepted text) = act ∷ acts
appended act acts (Repeated text) = acts
appended act acts (Refused why) = acts

-- an accepted command is appended to the acts; a refused or repeated one leaves them
abbrev pub acts_after : ℤ → List Act → Act → List Act
acts_after first acts act = appended act acts (outcome first acts act)

-- the key is of the command's kind, and every value of the two keeps its rule
pub record IsSoundRequest (act : Act) : Type 0 where
  pub kind : IsTrue (is_key_of act.key act.command)
  pub key : IsTrue (is_sound_key act.key)
  pub command : IsTrue (is_sound act.command)

-- the act was accepted after those before it, under a new key
pub record IsAccepted (first : ℤ) (act : Act) (before : List Act) : Type 0 where
  pub passes : verdict first before act.command ≡ None
  pub fresh : bearer act.key before ≡ None
  pub sound : IsSoundRequest act

-- the acts are those of some run from a business day: each was accepted where it stands
abbrev pub IsHistory : ℤ → List Act → Type 0
IsHistory first [] = IsTrue (is_business_day first)
IsHistory first (act ∷ before) = IsHistory first before × IsAccepted first act before

-- The rows of a goods-in file, stepped in order: all or none
pub data FileOutcome : Type 0 where
  Taken : (accepted repeated : ℕ) → FileOutcome
  RefusedRow : (row : ℕ) (why : Refusal) → FileOutcome

-- what the rows before this one have come to
pub record Tally : Type 0 where
  pub accepted : ℕ
  pub repeated : ℕ
  pub acts : List Act
  pub refused : Option (ℕ × Refusal)

-- a row after those rows; once one is refused, the others are not looked at
abbrev pub tallied : Tally → Act → Outcome → Tally
tallied t act (Accepted text) = record { accepted = t.accepted + 1; repeated = t.repeated; acts = act ∷ t.acts; refused = None }
tallied t act (Repeated text) = record { accepted = t.accepted; repeated = t.repeated + 1; acts = t.acts; refused = None }
tallied t act (Refused why) = record { accepted = t.accepted; repeated = t.repeated; acts = t.acts; refused = Some (t.accepted + t.repeated + 1, why) }

abbrev pub unless_refused : Option (ℕ × Refusal) → Tally → Tally → Tally
unless_refused None t next = next
unless_refused (Some r) t next = t

abbrev pub all_tallied : ℤ → Tally → List Act → Tally
all_tallied first t [] = t
all_tallied first t (row ∷ rows) = all_tallied first (unless_refused t.refused t (tallied t row (outcome first t.acts row))) rows

abbrev pub file_outcome_of : Tally → Option (ℕ × Refusal) → FileOutcome
file_outcome_of t None = Taken t.accepted t.repeated
file_outcome_of t (Some r) = RefusedRow r.0 r.1

abbrev pub tally : ℤ → List Act → List Act → Tally
tally first acts rows = all_tallied first (record { accepted = 0; repeated = 0; acts = acts; refused = None }) rows

-- what comes of a file: how many rows were accepted and how many repeated, or the first refused row
abbrev pub file_outcome : ℤ → List Act → List Act → FileOutcome
file_outcome first acts rows = let t = tally first acts rows in file_outcome_of t t.refused

abbrev pub acts_if_taken : List Act → Tally → Option (ℕ × Refusal) → List Act
acts_if_taken acts t None = t.acts
acts_if_taken acts t (Some r) = acts

-- if one row is refused, none is appended
abbrev pub acts_after_file : ℤ → List Act → List Act → List Act
acts_after_file first acts rows = let t = tally first acts rows in acts_if_taken acts t t.refused
