-- The fields of a line.
use Rattle.std.specs.Prelude.{◌≡◌, ◌-◌, ◌<◌, ◌^◌, ℕ, ℤ, ◌==◌, if◌then◌else◌, List, [], ◌∷◌, length, map, take, Option, Some, None, option_map}
use Rattle.applies.specs.Words.{key_text, spelling, Act, IsSoundRequest, history_line}
use Rattle.commands.specs.declared.key.Key.{Key}
use Rattle.commands.specs.declared.command.Command.{Command}

-- what stands before the first tab, and behind it
abbrev pub cut_at_tab : List ℕ → Option (List ℕ × List ℕ)
cut_at_tab [] = None
cut_at_tab (c ∷ cs) = if c == 9 then Some ([], cs) else option_map (λ cut. (c ∷ cut.0, cut.1)) (cut_at_tab cs)

-- what stands behind the first tab
abbrev pub behind_tab : Option (List ℕ × List ℕ) → Option (List ℕ × List ℕ)
behind_tab None = None
behind_tab (Some cut) = cut_at_tab cut.1

-- all but the last byte
abbrev pub without_last : List ℕ → List ℕ
without_last text = take (length text - 1) text

-- the third field, and what stands between it and the line feed
abbrev pub key_and_spelling : List ℕ → Option (List ℕ × List ℕ)
key_and_spelling line = option_map (λ cut. (cut.0, without_last cut.1)) (behind_tab (behind_tab (cut_at_tab line)))

-- each tab is a line feed
abbrev pub untabbed : List ℕ → List ℕ
untabbed text = map (λ b. if b == 9 then 10 else b) text

-- the text of the key of an act, and its spelling with tabs, are read as the act
abbrev pub ReadsFields : (key spelled : List ℕ) → Option (Key × Command) → Type 0
ReadsFields key spelled found = (act : Act) → IsSoundRequest act → key ≡ key_text act.key → untabbed spelled ≡ spelling act.command → found ≡ Some (act.key, act.command)

-- the line of an act is read as it
abbrev pub Reads : List ℕ → Option (Key × Command) → Type 0
Reads line found = (number : ℕ) (day : ℤ) (act : Act) → number < 2 ^ 64 → IsSoundRequest act → line ≡ history_line number day (key_text act.key) (spelling act.command) → found ≡ Some (act.key, act.command)
