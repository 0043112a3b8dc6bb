-- What one more event changes of the folds over all events.
use Rattle.std.proofs.Common.{◌≡◌, ℕ, ◌+◌, ◌<◌, List, [], ◌∷◌, ◌++◌, Bool, true, false, ◌||◌, cond, Option, Some, None, refl, ap, ◌∙◌, sym, subst, fold, find, length, length-append, append_assoc, append-nil, arith}
use Rattle.std.specs.List.{list_any}
use Rattle.std.specs.Option.{option_or}
use Rattle.std.proofs.lemmas.List.Sums.{fold-append}
use Rattle.std.proofs.lemmas.List.Folds.{find-append, list_any-append}
use Rattle.ll_settings.specs.Settings.{Configuration}
use Rattle.ll_verdict.specs.Events.{Event, Publish, Ask, Collect, Close, Clock, Step, steps_from, steps, items, time, asks, taken, later, counted}
use Rattle.ll_verdict.specs.State.{leaves, gone}
use Rattle.ll_verdict.specs.declared.wanted.Wanted.{Wanted}
use Rattle.ll_verdict.specs.declared.reply.Reply.{Reply}
use Rattle.ll_verdict.specs.Verdict.{Pending, held, held_by, hold, hold_by, decided, settles, closes, at_once, wanted_of}
use Rattle.ll_verdict.proofs.ListLemmas.{Each, each-append, each-map}

abbrev pub at : List Event → Event → Step
at es e = record { before = es; event = e }

pub steps_from-snoc : (b es : List Event) (e : Event) → steps_from b (es ++ e ∷ []) ≡ steps_from b es ++ at (b ++ es) e ∷ []
steps_from-snoc b [] e = ap (λ x. at x e ∷ []) (sym (append-nil b))
steps_from-snoc b (d ∷ es) e =
    ap (λ t. at b d ∷ t) (steps_from-snoc (b ++ d ∷ []) es e
    ∙ ap (λ x. steps_from (b ++ d ∷ []) es ++ at x e ∷ []) (append_assoc b (d ∷ []) es))

pub steps-snoc : (es : List Event) (e : Event) → steps (es ++ e ∷ []) ≡ steps es ++ at es e ∷ []
steps-snoc es e = steps_from-snoc [] es e

-- what holds of no events, and of one more, holds of all
along_from : (P : List Event → Type 0) → ((es : List Event) (e : Event) → P es → P (es ++ e ∷ [])) → (b es : List Event) → P b → P (b ++ es)
along_from P more b [] h = subst P (sym (append-nil b)) h
along_from P more b (e ∷ es) h = subst P (append_assoc b (e ∷ []) es) (along_from P more (b ++ e ∷ []) es (more b e h))

pub along : (P : List Event → Type 0) → P [] → ((es : List Event) (e : Event) → P es → P (es ++ e ∷ [])) → (es : List Event) → P es
along P none more es = along_from P more [] es none

pub items-snoc : (c : Configuration) (es : List Event) (e : Event) → items c (es ++ e ∷ []) ≡ taken c (items c es) e
items-snoc c es e = fold-append (taken c) [] es (e ∷ [])

pub time-snoc : (es : List Event) (e : Event) → time (es ++ e ∷ []) ≡ later (time es) e
time-snoc es e = fold-append later 0 es (e ∷ [])

pub asks-snoc : (es : List Event) (e : Event) → asks (es ++ e ∷ []) ≡ counted (asks es) e
asks-snoc es e = fold-append counted 0 es (e ∷ [])

pub held-snoc : (c : Configuration) (es : List Event) (e : Event) → held c (es ++ e ∷ []) ≡ hold_by c (held c es) es e
held-snoc c es e = ap (fold (hold c) []) (steps-snoc es e) ∙ fold-append (hold c) [] (steps es) (at es e ∷ [])

abbrev pub ends : Configuration → Pending → Step → Bool
ends c r s = settles c r s || closes r s

pub decided-snoc : (c : Configuration) (es : List Event) (e : Event) (r : Pending)
    → decided c (es ++ e ∷ []) r ≡ option_or (decided c es r) (cond (ends c r (at es e)) (Some (at es e)) None)
decided-snoc c es e r = ap (find (ends c r)) (steps-snoc es e) ∙ find-append (ends c r) (steps es) (at es e ∷ [])

pub or_false : (b : Bool) → (b || false) ≡ b
or_false true = refl
or_false false = refl

pub gone-snoc : (c : Configuration) (es : List Event) (e : Event) (r : Pending) → gone c (es ++ e ∷ []) r ≡ (gone c es r || leaves c r (at es e))
gone-snoc c es e r =
    ap (list_any (leaves c r)) (steps-snoc es e) ∙ list_any-append (leaves c r) (steps es) (at es e ∷ [])
    ∙ ap (λ b. gone c es r || b) (or_false (leaves c r (at es e)))

-- a request that had to wait was made before
abbrev pub Earlier : List Event → Pending → Type 0
Earlier es r = length r.before < length es

longer : (es : List Event) (e : Event) → length es < length (es ++ e ∷ [])
longer es e = omega (arith, length-append es (e ∷ []))

kept_earlier : (es : List Event) (e : Event) (rs : List Pending) → Each (Earlier es) rs → Each (Earlier (es ++ e ∷ [])) rs
kept_earlier es e rs h = each-map (Earlier es) (Earlier (es ++ e ∷ [])) (λ r lt. omega (arith, longer es e)) rs h

added_earlier : (o : Option Reply) (t : ℕ) (es : List Event) (e : Event) (a : Option Wanted) → Each (Earlier (es ++ e ∷ [])) (held_by o t es a)
added_earlier None t es e (Some a) = (longer es e, tt)
added_earlier None t es e None = tt
added_earlier (Some reply) t es e a = tt

hold_earlier : (c : Configuration) (es : List Event) (e : Event) (rs : List Pending) → Each (Earlier es) rs → Each (Earlier (es ++ e ∷ [])) (hold_by c rs es e)
hold_earlier c es (Publish item) rs h = kept_earlier es (Publish item) rs h
hold_earlier c es (Ask w) rs h =
    each-append (Earlier (es ++ Ask w ∷ [])) rs (held_by (at_once c rs es w) (asks es + 1) es (wanted_of c w)) (kept_earlier es (Ask w) rs h)
    (added_earlier (at_once c rs es w) (asks es + 1) es (Ask w) (wanted_of c w))
hold_earlier c es (Collect t) rs h = kept_earlier es (Collect t) rs h
hold_earlier c es (Close t) rs h = kept_earlier es (Close t) rs h
hold_earlier c es (Clock ms) rs h = kept_earlier es (Clock ms) rs h

pub held-earlier : (c : Configuration) (es : List Event) → Each (Earlier es) (held c es)
held-earlier c es = along (λ es. Each (Earlier es) (held c es)) tt
    (λ es e h. subst (Each (Earlier (es ++ e ∷ []))) (sym (held-snoc c es e)) (hold_earlier c es e (held c es) h)) es
