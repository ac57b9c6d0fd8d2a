-- Tokens that are added one after another.
use Rattle.wire.proofs.Words.{◌≡◌, ℕ, List, [], ◌∷◌, ◌++◌, map, flat_map, Ok, Err, Result, OnOk, refl, sym, ap, ◌∙◌, append_assoc, Token, print, items_tokens, Written, Data, items_of, items_outline, compact_text, print-outline, Adds, data_tokens}
use Rattle.json.specs.Written.{Writes}

-- a token of the writer
pub adds_one : {E : Type 0} (r : Result (Unit {0}) E) (old new : Written) (t : Token) → Writes r old new t → OnOk r (Adds old new (t ∷ []))
adds_one (Ok u) old new t h = record { tokens = h.ok; before = h.room.0 }
adds_one (Err e) old new t h = tt

pub one_added : {E : Type 0} (u : Unit {0}) (old new : Written) (t : Token) → Writes {E = E} (Ok u) old new t → Adds old new (t ∷ [])
one_added u old new t h = record { tokens = h.ok; before = h.room.0 }

-- tokens, and then others
pub adds_then : (old mid new : Written) (ts us : List Token) → Adds old mid ts → Adds mid new us → Adds old new (ts ++ us)
adds_then old mid new ts us first later = record {
  tokens = later.tokens ∙ ap (λ l. l ++ us) first.tokens ∙ append_assoc old.tokens ts us;
  before = later.before ∙ first.before;
}

pub adds_last : {E : Type 0} (r : Result (Unit {0}) E) (old mid new : Written) (ts us : List Token) → Adds old mid ts → OnOk r (Adds mid new us) → OnOk r (Adds old new (ts ++ us))
adds_last (Ok u) old mid new ts us first later = adds_then old mid new ts us first later
adds_last (Err e) old mid new ts us first later = tt

-- a list: its items one after another, and its end
pub list_tokens : {X : Type 0} (f : X → Data) (xs : List X) → items_tokens (items_outline (items_of (map f xs))) ≡ flat_map (λ x. data_tokens (f x)) xs ++ Token.end_array ∷ []
list_tokens f [] = refl
list_tokens f (x ∷ xs) =
    ap (λ l. data_tokens (f x) ++ l) (list_tokens f xs) ∙ sym (append_assoc (data_tokens (f x)) (flat_map (λ x. data_tokens (f x)) xs) (Token.end_array ∷ []))

-- the bytes of a value whose tokens were all that was written
pub written_is : (d : Data) (w : Written) (new : Written) (items : List ℕ) → w.tokens ≡ [] → w.before ≡ [] → Adds w new (data_tokens d) → items ≡ new.before ++ print new.tokens → items ≡ compact_text d
written_is d w new items none empty adds is =
    is ∙ ap (λ l. l ++ print new.tokens) (adds.before ∙ empty) ∙ ap print (adds.tokens ∙ ap (λ l. l ++ data_tokens d) none) ∙ print-outline d
