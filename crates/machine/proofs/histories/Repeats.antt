-- Requests that repeat an accepted one: they leave the acts, and get the reply of the one that was accepted.
use Rattle.machine.proofs.Words.{◌≡◌, ℕ, true, false, ◌&&◌, List, [], ◌∷◌, ◌++◌, refl, ap, sym, ◌∙◌, ◌||◌, if◌then◌else◌, ℤ, Option, Some, None, list_any, same_text, key_text, Key, Refusal, KeyUsed, Act, verdict, reply, Earlier, bearer, Outcome, Accepted, Repeated, Refused, judged, told_again, outcome, appended, acts_after, same_command, same_key, acts_after_all, repeats, once_each, RepeatsActOnce, WasAccepted, RepeatsGetTheFirstReply}
use Rattle.machine.proofs.Tests.{and_both, same_text_is}

-- A request that repeats leaves the acts

unchanged_if_borne : (first : ℤ) (act : Act) (acts : List Act) (e : Earlier) → appended act acts (told_again first act acts (Some e)) ≡ acts
unchanged_if_borne first act acts e =
    elim (same_command act.command e.act.command) as (λ b. appended act acts (if b then Repeated (reply first e.act e.before) else Refused KeyUsed) ≡ acts) [ true ↦ refl | false ↦ refl ]

-- of a list whose first act bears the key or not
repeat_leaves_in : (first : ℤ) (act : Act) (all acts : List Act) → list_any (repeats act) acts ≡ true → appended act all (told_again first act all (bearer act.key acts)) ≡ all
repeat_leaves_in first act all [] e = cc
repeat_leaves_in first act all (b ∷ before) e =
    elim (same_key act.key b.key) as (λ k. (k && same_command act.command b.command) || list_any (repeats act) before ≡ true
    → appended act all (told_again first act all (if k then Some (record { act = b; before = before }) else bearer act.key before)) ≡ all) [
      | true ↦ λ h. unchanged_if_borne first act all (record { act = b; before = before })
      | false ↦ λ h. repeat_leaves_in first act all before h
    ] e

pub repeat_leaves : (first : ℤ) (acts : List Act) (act : Act) → list_any (repeats act) acts ≡ true → acts_after first acts act ≡ acts
repeat_leaves first acts act e = repeat_leaves_in first act acts acts e

-- leaving out the entries that repeat gives the same acts
once_each_same : (first : ℤ) (acts requests : List Act) → acts_after_all first acts (once_each first acts requests) ≡ acts_after_all first acts requests
once_each_same first acts [] = refl
once_each_same first acts (a ∷ rest) =
    elim (list_any (repeats a) acts) as (λ b. list_any (repeats a) acts ≡ b
    → acts_after_all first acts (if b then once_each first acts rest else a ∷ once_each first (acts_after first acts a) rest) ≡ acts_after_all first (acts_after first acts a) rest) [
      | true ↦ λ e. once_each_same first acts rest ∙ ap (λ xs. acts_after_all first xs rest) (sym (repeat_leaves first acts a e))
      | false ↦ λ e. once_each_same first (acts_after first acts a) rest
    ] refl

pub repeats_act_once : RepeatsActOnce
repeats_act_once first requests = once_each_same first [] requests

-- Acts under new keys

abbrev AreFresh : List Act → Type 0
AreFresh [] = Unit {0}
AreFresh (act ∷ before) = (bearer act.key before ≡ None) × AreFresh before

fresh_judged : (first : ℤ) (act : Act) (acts : List Act) → bearer act.key acts ≡ None → AreFresh acts → (v : Option Refusal) → AreFresh (appended act acts (judged first act acts v))
fresh_judged first act acts e h None = (e, h)
fresh_judged first act acts e h (Some why) = h

fresh_told : (first : ℤ) (act : Act) (acts : List Act) → AreFresh acts → (e : Option Earlier) → bearer act.key acts ≡ e → AreFresh (appended act acts (told_again first act acts e))
fresh_told first act acts h None e = fresh_judged first act acts e h (verdict first acts act.command)
fresh_told first act acts h (Some b) e = elim (same_command act.command b.act.command) as (λ t. AreFresh (appended act acts (if t then Repeated (reply first b.act b.before) else Refused KeyUsed))) [ true ↦ h | false ↦ h ]

fresh_after_all : (first : ℤ) (acts requests : List Act) → AreFresh acts → AreFresh (acts_after_all first acts requests)
fresh_after_all first acts [] h = h
fresh_after_all first acts (r ∷ rest) h = fresh_after_all first (acts_after first acts r) rest (fresh_told first r acts h (bearer r.key acts) refl)

-- The act that bears the key has the command

same_bearer : (k j : Key) → key_text k ≡ key_text j → (acts : List Act) → bearer k acts ≡ bearer j acts
same_bearer k j e [] = refl
same_bearer k j e (act ∷ before) = λ i. if same_text (e i) (key_text act.key) then Some (record { act = act; before = before }) else same_bearer k j e before i

none_repeats : (r : Act) (acts : List Act) → bearer r.key acts ≡ None → list_any (repeats r) acts ≡ false
none_repeats r [] e = refl
none_repeats r (b ∷ before) e =
    elim (same_key r.key b.key) as (λ k. (if k then Some (record { act = b; before = before }) else bearer r.key before) ≡ None → (k && same_command r.command b.command) || list_any (repeats r) before ≡ false) [
      | true ↦ λ h. cc
      | false ↦ λ h. none_repeats r before h
    ] e

record Bears (r : Act) (acts : List Act) : Type 0 where
  earlier : Earlier
  found : bearer r.key acts ≡ Some earlier
  same : repeats r earlier.act ≡ true

bears : (r : Act) (acts : List Act) → AreFresh acts → list_any (repeats r) acts ≡ true → Bears r acts
bears r [] h e = cc
bears r (b ∷ before) h e =
    elim (same_key r.key b.key) as (λ k. same_key r.key b.key ≡ k → (k && same_command r.command b.command) || list_any (repeats r) before ≡ true → Bears r (b ∷ before)) [
      | true ↦ λ k f. elim (same_command r.command b.command) as (λ c. same_command r.command b.command ≡ c → c || list_any (repeats r) before ≡ true → Bears r (b ∷ before)) [
        | true ↦ λ c g. record { earlier = record { act = b; before = before }; found = ap (λ t. if t then Some (record { act = b; before = before }) else bearer r.key before) k; same = λ i. k i && c i }
        | false ↦ λ c g.
            let none : list_any (repeats r) before ≡ false = none_repeats r before (same_bearer r.key b.key (same_text_is (key_text r.key) (key_text b.key) k) before ∙ h.0) in
            cc
      ] refl f
      | false ↦ λ k f.
          let rest = bears r before h.1 f in
          record { earlier = rest.earlier; found = ap (λ t. if t then Some (record { act = b; before = before }) else bearer r.key before) k ∙ rest.found; same = rest.same }
    ] refl e

-- It was accepted where it stood among the requests

accepted_text : (first : ℤ) (act : Act) (acts : List Act) (text : List ℕ) → outcome first acts act ≡ Accepted text → text ≡ reply first act acts
accepted_text first act acts text e = by_bearer (bearer act.key acts) e
  where
    by_verdict : (v : Option Refusal) → judged first act acts v ≡ Accepted text → text ≡ reply first act acts
    by_verdict None f = cc
    by_verdict (Some why) f = cc

    by_bearer : (b : Option Earlier) → told_again first act acts b ≡ Accepted text → text ≡ reply first act acts
    by_bearer None f = by_verdict (verdict first acts act.command) f
    by_bearer (Some b) f =
        elim (same_command act.command b.act.command) as (λ t. (if t then Repeated (reply first b.act b.before) else Refused KeyUsed) ≡ Accepted text → text ≡ reply first act acts) [ true ↦ λ g. cc | false ↦ λ g. cc ] f

-- the requests up to it, and those behind it
record Stood (first : ℤ) (start requests : List Act) (e : Earlier) : Type 0 where
  before : List Act
  behind : List Act
  place : requests ≡ before ++ e.act ∷ behind
  acts : acts_after_all first start before ≡ e.before
  told : outcome first e.before e.act ≡ Accepted (reply first e.act e.before)

data Found (first : ℤ) (key : Key) (start requests : List Act) (e : Earlier) : Type 0 where
  AtStart : bearer key start ≡ Some e → Found first key start requests e
  Later : Stood first start requests e → Found first key start requests e

found_now : (first : ℤ) (key : Key) (r : Act) (start rest : List Act) (e : Earlier) (o : Outcome) → outcome first start r ≡ o → bearer key (appended r start o) ≡ Some e → Found first key start (r ∷ rest) e
found_now first key r start rest e (Repeated text) was f = AtStart f
found_now first key r start rest e (Refused why) was f = AtStart f
found_now first key r start rest e (Accepted text) was f =
    elim (same_key key r.key) as (λ k. (if k then Some (record { act = r; before = start }) else bearer key start) ≡ Some e → Found first key start (r ∷ rest) e) [
      | true ↦ λ g.
          let own : record { act = r; before = start } ≡ e = some_earlier _ _ g in
          at_once own
      | false ↦ λ g. AtStart g
    ] f
  where
    some_earlier : (a b : Earlier) → ◌≡◌ {A = Option Earlier} (Some a) (Some b) → a ≡ b
    some_earlier a b g = cc

    told_reply : outcome first start r ≡ Accepted (reply first r start)
    told_reply = was ∙ ap Accepted (accepted_text first r start text was)

    at_once : ◌≡◌ {A = Earlier} (record { act = r; before = start }) e → Found first key start (r ∷ rest) e
    at_once own = Later (record {
      before = [];
      behind = rest;
      place = λ i. (own i).act ∷ rest;
      acts = ap (λ (x : Earlier). x.before) own;
      told = (λ i. outcome first (sym own i).before (sym own i).act) ∙ told_reply ∙ (λ i. Accepted (reply first (own i).act (own i).before));
    })

found : (first : ℤ) (key : Key) (start requests : List Act) (e : Earlier) → bearer key (acts_after_all first start requests) ≡ Some e → Found first key start requests e
found first key start [] e f = AtStart f
found first key start (r ∷ rest) e f = one_more (found first key (acts_after first start r) rest e f)
  where
    one_more : Found first key (acts_after first start r) rest e → Found first key start (r ∷ rest) e
    one_more (AtStart g) = found_now first key r start rest e (outcome first start r) refl g
    one_more (Later s) = Later (record { before = r ∷ s.before; behind = s.behind; place = ap (λ xs. r ∷ xs) s.place; acts = s.acts; told = s.told })

module _ (first : ℤ) (earlier : List Act) (request : Act) (again : list_any (repeats request) (acts_after_all first [] earlier) ≡ true) where
  abbrev acts : List Act
  acts = acts_after_all first [] earlier

  abbrev e : Bears request acts
  e = bears request acts (fresh_after_all first [] earlier tt) again

  repeated_now : outcome first acts request ≡ Repeated (reply first e.earlier.act e.earlier.before)
  repeated_now =
      let two = and_both (same_key request.key e.earlier.act.key) (same_command request.command e.earlier.act.command) e.same in
      ap (told_again first request acts) e.found ∙ ap (λ b. if b then Repeated (reply first e.earlier.act e.earlier.before) else Refused KeyUsed) two.1

  was_accepted : Found first request.key [] earlier e.earlier → WasAccepted first earlier request (reply first e.earlier.act e.earlier.before)
  was_accepted (AtStart f) = cc
  was_accepted (Later s) = record {
    before = s.before;
    same = e.earlier.act;
    behind = s.behind;
    place = s.place;
    repeated = e.same;
    told = ap (λ xs. outcome first xs e.earlier.act) s.acts ∙ s.told;
  }

pub repeats_get_the_first_reply : RepeatsGetTheFirstReply
repeats_get_the_first_reply first earlier request again =
    let b = bears request (acts_after_all first [] earlier) (fresh_after_all first [] earlier tt) again in
    (reply first b.earlier.act b.earlier.before, was_accepted first earlier request again (found first request.key [] earlier b.earlier b.found), repeated_now first earlier request again)
