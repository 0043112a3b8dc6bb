-- What a channel has accepted, a new channel accepts again, whatever the bytes are.
use Rattle.std.proofs.Common.{◌≡◌, ℕ, ◌+◌, ◌<◌, ◌≤◌, List, [], ◌∷◌, ◌++◌, false, Option, None, Some, refl, ap, ap₂, sym, subst, ◌∙◌, append-nil, append_assoc, arith, fold, is_none, length, length-append, map, suc, take, zero, if◌then◌else◌}
use Rattle.std.proofs.lemmas.Bool.Decides.{nat_tests}
use Rattle.std.proofs.lemmas.List.{map-append}
use Rattle.std.proofs.lemmas.List.Elements.{All-nil, All-pop, All-push}
use Rattle.std.specs.List.{All}
use Rattle.ll_entry.proofs.ItemBlanks.{refusal-blank}
use Rattle.ll_entry.proofs.WritableProof.{item-writable}
use Rattle.ll_item.specs.Items.{blank}
use Rattle.ll_item.specs.declared.item.Item.{Item}
use Rattle.ll_rendition.specs.Refusal.{first_refusal}
use Rattle.ll_rendition.specs.declared.fault.PublishFault.{PublishFault}
use Rattle.ll_settings.specs.Settings.{Configuration, limit_broken}
use Rattle.ll_verdict.proofs.StepLemmas.{along, items-snoc}
use Rattle.ll_verdict.specs.Accepted.{refusal}
use Rattle.ll_verdict.specs.Events.{Event, Publish, Ask, Collect, Close, Clock, items, taken}
use Rattle.ll_verdict.specs.Full.{event_end, full_by, is_full, refusal_after}
use Rattle.ll_spool_laws.specs.Laws.{IsHeld, IsSpooled}

-- ---- items that are accepted one after another

-- each of these items is accepted after those before it
abbrev pub AreAccepted : Configuration → List Item → List Item → Type 0
AreAccepted c before [] = Unit {0}
AreAccepted c before (i ∷ more) = (refusal c before i ≡ None) × AreAccepted c (before ++ i ∷ []) more

accepted-snoc : (c : Configuration) (before list : List Item) (i : Item) → AreAccepted c before list → refusal c (before ++ list) i ≡ None
    → AreAccepted c before (list ++ i ∷ [])
accepted-snoc c before [] i h none = (ap (λ xs. refusal c xs i) (sym (append-nil before)) ∙ none, tt)
accepted-snoc c before (x ∷ list) i h none =
    (h.0, accepted-snoc c (before ++ x ∷ []) list i h.1 (ap (λ xs. refusal c xs i) (append_assoc before (x ∷ []) list) ∙ none))

by-refusal : (c : Configuration) (list : List Item) (i : Item) (o : Option PublishFault) → refusal c list i ≡ o → AreAccepted c [] list
    → AreAccepted c [] (if is_none o then list ++ i ∷ [] else list)
by-refusal c list i None e h = accepted-snoc c [] list i h e
by-refusal c list i (Some reason) e h = h

one-taken : (c : Configuration) (list : List Item) (e : Event) → AreAccepted c [] list → AreAccepted c [] (taken c list e)
one-taken c list (Publish i) h = by-refusal c list i (refusal c list i) refl h
one-taken c list (Ask want) h = h
one-taken c list (Collect ticket) h = h
one-taken c list (Close ticket) h = h
one-taken c list (Clock ms) h = h

pub are-accepted : (c : Configuration) (events : List Event) → AreAccepted c [] (items c events)
are-accepted c = along (λ es. AreAccepted c [] (items c es)) tt
    (λ es e h. subst (AreAccepted c []) (sym (items-snoc c es e)) (one-taken c (items c es) e h))

pub first-accepted : (c : Configuration) (before list : List Item) (n : ℕ) → AreAccepted c before list → AreAccepted c before (take n list)
first-accepted c before list zero h = tt
first-accepted c before [] (suc n) h = tt
first-accepted c before (i ∷ list) (suc n) h = (h.0, first-accepted c (before ++ i ∷ []) list n h.1)

-- ---- other bytes

same-refusal : (c : Configuration) (before other : List Item) (i j : Item) → map blank other ≡ map blank before → blank j ≡ blank i
    → refusal c other j ≡ refusal c before i
same-refusal c before other i j e f = sym (refusal-blank c other j) ∙ ap₂ (refusal c) e f ∙ refusal-blank c before i

longer : (before other : List Item) (i j : Item) → map blank other ≡ map blank before → blank j ≡ blank i
    → map blank (other ++ j ∷ []) ≡ map blank (before ++ i ∷ [])
longer before other i j e f =
    map-append blank other (j ∷ []) ∙ ap₂ (λ xs x. xs ++ x ∷ []) e f ∙ sym (map-append blank before (i ∷ []))

pub accepted-others : (c : Configuration) (before other list restored : List Item) → map blank other ≡ map blank before → map blank restored ≡ map blank list
    → AreAccepted c before list → AreAccepted c other restored
accepted-others c before other [] [] e f h = tt
accepted-others c before other [] (j ∷ restored) e f h = absurd (cc)
accepted-others c before other (i ∷ list) [] e f h = absurd (cc)
accepted-others c before other (i ∷ list) (j ∷ restored) e f h =
    let first : blank j ≡ blank i = cc in
    let more : map blank restored ≡ map blank list = cc in
    (same-refusal c before other i j e first ∙ h.0, accepted-others c (before ++ i ∷ []) (other ++ j ∷ []) list restored (longer before other i j e first) more h.1)

-- ---- a new channel

taken-one : (c : Configuration) (before : List Item) (i : Item) → refusal c before i ≡ None → taken c before (Publish i) ≡ before ++ i ∷ []
taken-one c before i h = ap (λ o. if is_none o then before ++ i ∷ [] else before) h

pub accepted-all : (c : Configuration) (before list : List Item) → AreAccepted c before list → fold (taken c) before (map Publish list) ≡ before ++ list
accepted-all c before [] h = sym (append-nil before)
accepted-all c before (i ∷ list) h =
    ap (λ xs. fold (taken c) xs (map Publish list)) (taken-one c before i h.0) ∙ accepted-all c (before ++ i ∷ []) list h.1 ∙ append_assoc before (i ∷ []) list

-- ---- lines of accepted items

not-full : (n : ℕ) → n < event_end → is_full n ≡ false
not-full n h = grind (arith, nat_tests)

none-after : (c : Configuration) (es : List Event) (i : Item) → length es < event_end → refusal c (items c es) i ≡ None → refusal_after c es i ≡ None
none-after c es i few none = ap₂ (λ o b. first_refusal o (full_by b)) none (not-full (length es) few)

module _ (c : Configuration) (limits : limit_broken c ≡ None) where
  one-spooled : (es : List Event) (i : Item) → length es < event_end → refusal c (items c es) i ≡ None → IsHeld i → IsSpooled c i
  one-spooled es i few none h = (item-writable c es i limits (none-after c es i few none) h.0, h.1)

  spooled-by : (es : List Event) (i : Item) (o : Option PublishFault) → refusal c (items c es) i ≡ o → length es < event_end
      → (All IsHeld (items c es) → All (IsSpooled c) (items c es))
      → All IsHeld (if is_none o then items c es ++ i ∷ [] else items c es) → All (IsSpooled c) (if is_none o then items c es ++ i ∷ [] else items c es)
  spooled-by es i None e few before h =
      let p = All-pop IsHeld (items c es ++ i ∷ []) (items c es) (Some i) refl h in
      All-push (IsSpooled c) (items c es) i (before p.0) (one-spooled es i few e p.1)
  spooled-by es i (Some reason) e few before h = before h

  spooled-next : (es : List Event) (e : Event) → length es < event_end → (All IsHeld (items c es) → All (IsSpooled c) (items c es))
      → All IsHeld (taken c (items c es) e) → All (IsSpooled c) (taken c (items c es) e)
  spooled-next es (Publish i) few before h = spooled-by es i (refusal c (items c es) i) refl few before h
  spooled-next es (Ask want) few before h = before h
  spooled-next es (Collect ticket) few before h = before h
  spooled-next es (Close ticket) few before h = before h
  spooled-next es (Clock ms) few before h = before h

  -- the lines of a channel's items, if these are as a program has them
  pub are-spooled : (events : List Event) → length events ≤ event_end → All IsHeld (items c events) → All (IsSpooled c) (items c events)
  are-spooled = along (λ es. length es ≤ event_end → All IsHeld (items c es) → All (IsSpooled c) (items c es)) (λ few h. All-nil (IsSpooled c))
      (λ es e before few h.
      let less : length es + 1 ≤ event_end = omega (arith, few, length-append es (e ∷ [])) in
      subst (All (IsSpooled c)) (sym (items-snoc c es e))
      (spooled-next es e (omega (arith, less)) (before (omega (arith, less))) (subst (All IsHeld) (items-snoc c es e) h)))
