-- The bin RETURNS is a HOLD bin throughout each history: no command can make a bin of that name.
use Rattle.machine.proofs.Words.{◌≡◌, ℕ, true, false, List, [], ◌∷◌, ◌++◌, refl, ap, sym, ◌∙◌, if◌then◌else◌, Some, None, find, is_some, ℤ, cons_option, same_text, NewBin, Command, Bin, Act, gathered, next_number, RETURNS, bin_in, bins, bin_named, has_bin, returns_bin, verdict, IsHistory}
use Rattle.machine.proofs.Tests.{same_text_refl, same_text_is}
use Rattle.machine.proofs.histories.Accepted.{bin_accepted}

returns_after : (first : ℤ) (before : List Act) (c : Command) → verdict first before c ≡ None → bin_named before RETURNS ≡ Some returns_bin
    → find (λ (x : NewBin). same_text RETURNS x.bin) (cons_option (bin_in (next_number before) c) (gathered bin_in before) ++ returns_bin ∷ []) ≡ Some returns_bin
returns_after first before (Bin b) ok h =
    elim (same_text RETURNS b.bin) as (λ t. same_text RETURNS b.bin ≡ t → (if t then Some b else find (λ (x : NewBin). same_text RETURNS x.bin) (bins before)) ≡ Some returns_bin) [
      | true ↦ λ t.
          let known : true ≡ false = sym (ap is_some h) ∙ ap (λ (x : List ℕ). has_bin before x) (same_text_is RETURNS b.bin t) ∙ (bin_accepted first before b ok).new in
          cc
      | false ↦ λ t. h
    ] refl
returns_after first before _ ok h = h

pub returns_named : (first : ℤ) (acts : List Act) → IsHistory first acts → bin_named acts RETURNS ≡ Some returns_bin
returns_named first [] h = ap (λ t. if t then Some returns_bin else None) (same_text_refl RETURNS)
returns_named first (act ∷ before) h = returns_after first before act.command h.1.passes (returns_named first before h.0)
