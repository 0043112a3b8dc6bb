-- A request that waits gets what follows from the fewest items with which what it awaits is there.
use Rattle.std.proofs.Common.{◌≡◌, ◌≢◌, ℕ, ◌+◌, ◌≤◌, ◌&&◌, ◌||◌, List, [], ◌∷◌, ◌++◌, Bool, true, false, cond, Option, None, Some, refl, ap, ap₂, sym, subst, ◌∙◌, append-nil, append_assoc, arith, is_none, length, length-append, nat_le, nat_lt, option_and_then, slice_get, if◌then◌else◌}
use Rattle.std.proofs.lemmas.Bool.Decides.{nat_tests}
use Rattle.std.specs.Option.{option_or}
use Rattle.ll_item.specs.declared.item.Item.{Item}
use Rattle.ll_settings.specs.Settings.{Configuration}
use Rattle.ll_verdict.proofs.HintLemmas.{awaited-missing}
use Rattle.ll_verdict.proofs.ListLemmas.{Each, each-append, each-at, each-map}
use Rattle.ll_verdict.proofs.NewerLemmas.{folded-longer}
use Rattle.ll_verdict.proofs.StepLemmas.{Earlier, along, at, decided-snoc, ends, held-earlier, held-snoc, items-snoc}
use Rattle.ll_verdict.specs.Accepted.{refusal}
use Rattle.ll_verdict.specs.Events.{Event, Publish, Ask, Collect, Close, Clock, Step, asks, items, taken, time}
use Rattle.ll_verdict.specs.Verdict.{Pending, at_once, closes, comes_after, deadline, decided, held, held_by, hold_by, is_close, is_there, reply, reply_at_step, reply_by, reply_with, waiting, wanted_of}
use Rattle.ll_verdict.specs.declared.reply.Reply.{Reply}
use Rattle.ll_verdict.specs.declared.reply.Settled.{Settled}
use Rattle.ll_verdict.specs.declared.reply.Settled.TheVariants.{Timeout}
use Rattle.ll_verdict.specs.declared.wanted.Wanted.{Wanted}

-- with its last item the beginning of a list has what is awaited, and not before
pub record IsLeast (c : Configuration) (list : List Item) (a : Wanted) (x : Settled) : Type 0 where
  pub front : List Item
  pub last : Item
  pub rest : List Item
  pub place : list ≡ (front ++ last ∷ []) ++ rest
  pub missing : is_there c front a ≡ false
  pub there : is_there c (front ++ last ∷ []) a ≡ true
  pub is : x ≡ reply_with c (front ++ last ∷ []) a

pub least-more : (c : Configuration) (list more all : List Item) (a : Wanted) (x : Settled) → all ≡ list ++ more → IsLeast c list a x → IsLeast c all a x
least-more c list more all a x e l = record {
  front = l.front;
  last = l.last;
  rest = l.rest ++ more;
  place = e ∙ ap (λ xs. xs ++ more) l.place ∙ append_assoc (l.front ++ l.last ∷ []) l.rest more;
  missing = l.missing;
  there = l.there;
  is = l.is;
}

-- ---- the item that settles

false-true : {A : Type 0} (b : Bool) → b ≡ false → b ≡ true → A
false-true b e f = absurd (cc)

least-by : (c : Configuration) (list : List Item) (i : Item) (taken : Bool) (a : Wanted) (x : Settled)
    → is_there c list a ≡ false → is_there c (if taken then list ++ i ∷ [] else list) a ≡ true → x ≡ reply_with c (if taken then list ++ i ∷ [] else list) a
    → IsLeast c (if taken then list ++ i ∷ [] else list) a x
least-by c list i true a x missing there is = record {
  front = list;
  last = i;
  rest = [];
  place = sym (append-nil (list ++ i ∷ []));
  missing = missing;
  there = there;
  is = is;
}
least-by c list i false a x missing there is = false-true (is_there c list a) missing there

least-now : (c : Configuration) (list : List Item) (e : Event) (a : Wanted) (x : Settled) → is_there c list a ≡ false → is_there c (taken c list e) a ≡ true
    → x ≡ reply_with c (taken c list e) a → IsLeast c (taken c list e) a x
least-now c list (Publish i) a x missing there is = least-by c list i (is_none (refusal c list i)) a x missing there is
least-now c list (Ask want) a x missing there is = false-true (is_there c list a) missing there
least-now c list (Collect ticket) a x missing there is = false-true (is_there c list a) missing there
least-now c list (Close ticket) a x missing there is = false-true (is_there c list a) missing there
least-now c list (Clock ms) a x missing there is = false-true (is_there c list a) missing there

-- ---- what is known of a request after some events

abbrev IsKnownBy : Configuration → List Event → Pending → Option Step → Type 0
IsKnownBy c es r None = is_there c (items c es) r.wanted ≡ false
IsKnownBy c es r (Some s) = (x : Settled) → reply_at_step c r s ≡ Some x → x ≢ Timeout → IsLeast c (items c es) r.wanted x

-- while it isn't decided, what it awaits isn't there; then it has the reply of the least items
abbrev IsKnown : Configuration → List Event → Pending → Type 0
IsKnown c es r = IsKnownBy c es r (decided c es r)

-- ---- one more event

-- a step after the request that doesn't end it
still_missing : (after there late close : Bool) → after ≡ true → ((after && (there || late)) || (after && close)) ≡ false → there ≡ false
still_missing true true late close e h = absurd (cc)
still_missing true false late close e h = refl
still_missing false there late close e h = absurd (cc)

-- a reply other than Timeout is that of items with which what is awaited is there
given : (close there : Bool) (g x : Settled) → (if close then None else Some (if there then g else Timeout)) ≡ Some x → x ≢ Timeout → there ≡ true
given true there g x h other = absurd (cc)
given false true g x h other = refl
given false false g x h other = absurd (other cc)

some-is : (close : Bool) (g x : Settled) → (if close then None else Some g) ≡ Some x → x ≡ g
some-is true g x h = absurd (cc)
some-is false g x h = cc

module _ (c : Configuration) (es : List Event) (e : Event) where
  ended-now : (r : Pending) → is_there c (items c es) r.wanted ≡ false → IsKnownBy c (es ++ e ∷ []) r (Some (at es e))
  ended-now r missing x is other =
      let there = given (closes r (at es e)) (is_there c (items c (es ++ e ∷ [])) r.wanted) _ x is other in
      let now = items-snoc c es e in
      subst (λ list. IsLeast c list r.wanted x) (sym now)
      (least-now c (items c es) e r.wanted x missing (ap (λ list. is_there c list r.wanted) (sym now) ∙ there)
      (some-is (closes r (at es e)) (reply_with c (items c (es ++ e ∷ [])) r.wanted) x is ∙ ap (λ list. reply_with c list r.wanted) now))

  going-by : (r : Pending) (b : Bool) → Earlier es r → is_there c (items c es) r.wanted ≡ false → ends c r (at es e) ≡ b
      → IsKnownBy c (es ++ e ∷ []) r (cond b (Some (at es e)) None)
  going-by r true lt missing h = ended-now r missing
  going-by r false lt missing h =
      let after : nat_lt (length r.before) (length es) ≡ true = grind (arith, nat_tests, lt) in
      still_missing (comes_after r (at es e)) (is_there c (items c (es ++ e ∷ [])) r.wanted) (nat_le (deadline c r) (time (es ++ e ∷ []))) (is_close r.ticket e) after h

  known-by : (r : Pending) (d : Option Step) → Earlier es r → IsKnownBy c es r d
      → IsKnownBy c (es ++ e ∷ []) r (option_or d (cond (ends c r (at es e)) (Some (at es e)) None))
  known-by r (Some s) lt known = λ x is other.
      let p = folded-longer c (e ∷ []) (items c es) in
      least-more c (items c es) p.0 (items c (es ++ e ∷ [])) r.wanted x (items-snoc c es e ∙ p.1) (known x is other)
  known-by r None lt known = going-by r (ends c r (at es e)) lt known refl

  known-still : (r : Pending) → Earlier es r × IsKnown c es r → IsKnown c (es ++ e ∷ []) r
  known-still r h = subst (IsKnownBy c (es ++ e ∷ []) r) (sym (decided-snoc c es e r)) (known-by r (decided c es r) h.0 h.1)

-- ---- a request that comes

-- no event up to the request itself decides it
unborn : (c : Configuration) (r : Pending) (es : List Event) → length es ≤ length r.before + 1 → decided c es r ≡ None
unborn c r es = along (λ es. length es ≤ length r.before + 1 → decided c es r ≡ None) (λ _. refl)
    (λ es e h le.
    let short : length es + 1 ≤ length r.before + 1 = omega (arith, length-append es (e ∷ []), le) in
    let early : nat_lt (length r.before) (length es) ≡ false = grind (arith, nat_tests, short) in
    decided-snoc c es e r ∙ ap₂ (λ d b. option_or d (cond ((b && (is_there c (items c (es ++ e ∷ [])) r.wanted || nat_le (deadline c r) (time (es ++ e ∷ [])))) || (b && is_close r.ticket e)) (Some (at es e)) None)) (h (omega (arith, short))) early) es

known-new : (c : Configuration) (es : List Event) (e : Event) (n ticket : ℕ) (o : Option Wanted) (reply : Option Reply) → items c (es ++ e ∷ []) ≡ items c es
    → reply_by c n (items c es) o ≡ reply → Each (IsKnown c (es ++ e ∷ [])) (held_by reply ticket es o)
known-new c es e n ticket (Some a) None same h =
    let r : Pending = record { ticket = ticket; wanted = a; before = es } in
    let none = unborn c r (es ++ e ∷ []) (omega (arith, length-append es (e ∷ []))) in
    (subst (IsKnownBy c (es ++ e ∷ []) r) (sym none) (ap (λ list. is_there c list a) same ∙ awaited-missing c n (items c es) a h), tt)
known-new c es e n ticket None None same h = tt
known-new c es e n ticket o (Some reply) same h = tt

-- ---- all requests

both-each : {X : Type 0} (P Q : X → Type 0) (xs : List X) → Each P xs → Each Q xs → Each (λ x. P x × Q x) xs
both-each P Q [] h k = tt
both-each P Q (x ∷ xs) h k = ((h.0, k.0), both-each P Q xs h.1 k.1)

old-known : (c : Configuration) (es : List Event) (e : Event) → Each (IsKnown c es) (held c es) → Each (IsKnown c (es ++ e ∷ [])) (held c es)
old-known c es e h =
    each-map (λ r. Earlier es r × IsKnown c es r) (IsKnown c (es ++ e ∷ [])) (known-still c es e) (held c es)
    (both-each (Earlier es) (IsKnown c es) (held c es) (held-earlier c es) h)

hold-known : (c : Configuration) (es : List Event) (e : Event) → Each (IsKnown c es) (held c es) → Each (IsKnown c (es ++ e ∷ [])) (hold_by c (held c es) es e)
hold-known c es (Publish i) h = old-known c es (Publish i) h
hold-known c es (Ask want) h =
    let rs = held c es in
    each-append (IsKnown c (es ++ Ask want ∷ [])) rs (held_by (at_once c rs es want) (asks es + 1) es (wanted_of c want)) (old-known c es (Ask want) h)
    (known-new c es (Ask want) (waiting c es rs) (asks es + 1) (wanted_of c want) (at_once c rs es want) (items-snoc c es (Ask want)) refl)
hold-known c es (Collect ticket) h = old-known c es (Collect ticket) h
hold-known c es (Close ticket) h = old-known c es (Close ticket) h
hold-known c es (Clock ms) h = old-known c es (Clock ms) h

all-known : (c : Configuration) (es : List Event) → Each (IsKnown c es) (held c es)
all-known c es = along (λ es. Each (IsKnown c es) (held c es)) tt
    (λ es e h. subst (Each (IsKnown c (es ++ e ∷ []))) (sym (held-snoc c es e)) (hold-known c es e h)) es

by-decision : (c : Configuration) (es : List Event) (r : Pending) (x : Settled) (d : Option Step) → IsKnownBy c es r d
    → option_and_then (reply_at_step c r) d ≡ Some x → x ≢ Timeout → IsLeast c (items c es) r.wanted x
by-decision c es r x None known is other = absurd (cc)
by-decision c es r x (Some s) known is other = known x is other

-- what a request gets that had to wait and isn't timed out
pub got-least : (c : Configuration) (es : List Event) (place : ℕ) (r : Pending) (x : Settled) → slice_get (held c es) place ≡ Some r
    → reply c es r ≡ Some x → x ≢ Timeout → IsLeast c (items c es) r.wanted x
got-least c es place r x waits is other =
    by-decision c es r x (decided c es r) (each-at (IsKnown c es) (held c es) place r (all-known c es) waits) is other
