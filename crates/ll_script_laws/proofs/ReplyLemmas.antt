-- What a request gets is the playlist that it asks for, of its own moment or of a later one.
use Rattle.std.proofs.Common.{◌≡◌, ℕ, ◌+◌, ◌<◌, ◌&&◌, ◌||◌, List, [], ◌∷◌, ◌++◌, Bool, true, false, Option, Some, None, length, length-append, refl, ap, sym, subst, ◌∙◌, append-nil, append_assoc, arith, bytes_eq, not, nat_lt, if◌then◌else◌, option_map, option_and_then}
use Rattle.std.proofs.lemmas.Bool.Decides.{nat_tests}
use Rattle.std.proofs.lemmas.List.Quantifiers.{position-Some}
use Rattle.ll_directive.specs.Files.{is_playlist}
use Rattle.ll_directive.specs.Targets.{WantValue}
use Rattle.ll_settings.specs.Settings.{rendition_named, Configuration}
use Rattle.ll_item.specs.declared.item.Item.{Item}
use Rattle.ll_pieces.specs.View.{Paged}
use Rattle.ll_verdict.specs.Events.{Event, Publish, Ask, Collect, Close, Clock, Step, asks, items, until}
use Rattle.ll_verdict.specs.Verdict.{Pending, at_once, closes, comes_after, decided, far, held, held_by, hold_by, is_busy, is_close, is_hinted, is_there, media_now, media_of, media_or, media_or_none, page_of, playlist_now, reply, reply_at_step, reply_by, reply_of, settles, waiting, wanted_at, wanted_of}
use Rattle.ll_verdict.specs.declared.reply.Reply.{Reply}
use Rattle.ll_verdict.specs.declared.reply.Reply.TheVariants.{Busy, TooFar}
use Rattle.ll_verdict.specs.declared.reply.Reply.TheVariants as now
use Rattle.ll_verdict.specs.declared.reply.Settled.TheVariants.{Text, Timeout}
use Rattle.ll_verdict.specs.declared.reply.Settled.TheVariants as settled
use Rattle.ll_verdict.specs.declared.wanted.Wanted.{Wanted}
use Rattle.ll_verdict.proofs.LawProofs.{first_state}
use Rattle.ll_verdict.proofs.ListLemmas.{Each, each-append, each-at, each-map}
use Rattle.ll_verdict.proofs.StepLemmas.{along, held-snoc}
use Rattle.ll_window.specs.Segments.{own}
use Rattle.ll_script_laws.specs.Laws.{AtOnceLaw, IsWanted, LaterLaw, VerdictLaw}
use Rattle.ll_script_laws.specs.Verdicts.{later_by}
use Rattle.std.specs.Option.{option_or}
use Rattle.ll_verdict.specs.declared.reply.Settled.{Settled}

-- what is wanted is of a rendition of the channel
wanted-at : (c : Configuration) (want : WantValue) (a : Wanted) (o : Option ℕ) → rendition_named c want.rendition ≡ o → option_map (wanted_at want) o ≡ Some a
    → a.rendition < length c.renditions
wanted-at c want a None e h = cc
wanted-at c want a (Some i) e h =
    let is : wanted_at want i ≡ a = cc in
    subst (λ (a : Wanted). a.rendition < length c.renditions) is (position-Some (bytes_eq want.rendition) c.renditions i [] e).0

one-of : (c : Configuration) (want : WantValue) (a : Wanted) → wanted_of c want ≡ Some a → a.rendition < length c.renditions
one-of c want a h = wanted-at c want a (rendition_named c want.rendition) refl h

-- ---- at once

text_by : (x y z : Bool) (p page : Paged) → (if x then Some (now.Text p) else if y then Some TooFar else if z then Some Busy else None) ≡ Some (now.Text page) → page ≡ p
text_by true y z p page h = cc
text_by false true z p page h = cc
text_by false false true p page h = cc
text_by false false false p page h = cc

media_by : (n : ℕ) (a : Wanted) (o : Option (List ℕ)) (x y : Bool) (p page : Paged)
    → media_or n a o (if x then Some now.NotFound else if y then Some Busy else None) ≡ Some (now.Text page) → page ≡ p
media_by n a (Some bytes) x y p page h = cc
media_by n a None true y p page h = cc
media_by n a None false true p page h = cc
media_by n a None false false p page h = cc

text_now : (c : Configuration) (n : ℕ) (list : List Item) (a : Wanted) (page : Paged) (b : Bool)
    → (if b then playlist_now c n list a else media_now c n list a) ≡ Some (now.Text page) → page ≡ page_of c list a
text_now c n list a page true h = text_by (is_there c list a) (far c (own a.rendition list) a.awaited) (is_busy n) (page_of c list a) page h
text_now c n list a page false h =
    media_by (length list) a (media_of c list a) (not (is_hinted c (own a.rendition list) a.awaited)) (is_busy n) (page_of c list a) page h

text_of : (c : Configuration) (n : ℕ) (events : List Event) (want : WantValue) (page : Paged) (o : Option Wanted) → wanted_of c want ≡ o
    → reply_by c n (items c events) o ≡ Some (now.Text page) → (a : Wanted) × (o ≡ Some a) × IsWanted c events a page
text_of c n events want page None e h = cc
text_of c n events want page (Some a) e h = (
  a,
  refl,
  record {
    rendition = one-of c want a e;
    is = text_now c n (items c events) a page (is_playlist a.what) h;
  },
)

pub at-once : AtOnceLaw
at-once c earlier events want page h = text_of c (waiting c events earlier) events want page (wanted_of c want) refl h

-- ---- later

-- a request that had to wait is an event of the channel
abbrev pub IsAsked : Configuration → List Event → Pending → Type 0
IsAsked c es r =
    (want : WantValue) × (rest : List Event) × (es ≡ r.before ++ Ask want ∷ rest) × (wanted_of c want ≡ Some r.wanted) × (r.ticket ≡ asks r.before + 1)

still_asked : (c : Configuration) (es : List Event) (e : Event) (r : Pending) → IsAsked c es r → IsAsked c (es ++ e ∷ []) r
still_asked c es e r h = (h.0, h.1 ++ e ∷ [], ap (λ xs. xs ++ e ∷ []) h.2 ∙ append_assoc r.before (Ask h.0 ∷ h.1) (e ∷ []), h.3, h.4)

kept_asked : (c : Configuration) (es : List Event) (e : Event) (rs : List Pending) → Each (IsAsked c es) rs → Each (IsAsked c (es ++ e ∷ [])) rs
kept_asked c es e rs h = each-map (IsAsked c es) (IsAsked c (es ++ e ∷ [])) (still_asked c es e) rs h

added_asked : (c : Configuration) (es : List Event) (want : WantValue) (reply : Option Reply) (o : Option Wanted) → wanted_of c want ≡ o
    → Each (IsAsked c (es ++ Ask want ∷ [])) (held_by reply (asks es + 1) es o)
added_asked c es want None (Some a) e = ((want, [], refl, e, refl), tt)
added_asked c es want None None e = tt
added_asked c es want (Some reply) o e = tt

hold_asked : (c : Configuration) (es : List Event) (e : Event) (rs : List Pending) → Each (IsAsked c es) rs → Each (IsAsked c (es ++ e ∷ [])) (hold_by c rs es e)
hold_asked c es (Publish item) rs h = kept_asked c es (Publish item) rs h
hold_asked c es (Ask want) rs h =
    each-append (IsAsked c (es ++ Ask want ∷ [])) rs (held_by (at_once c rs es want) (asks es + 1) es (wanted_of c want)) (kept_asked c es (Ask want) rs h)
    (added_asked c es want (at_once c rs es want) (wanted_of c want) refl)
hold_asked c es (Collect ticket) rs h = kept_asked c es (Collect ticket) rs h
hold_asked c es (Close ticket) rs h = kept_asked c es (Close ticket) rs h
hold_asked c es (Clock ms) rs h = kept_asked c es (Clock ms) rs h

pub held_asked : (c : Configuration) (es : List Event) → Each (IsAsked c es) (held c es)
held_asked c es = along (λ es. Each (IsAsked c es) (held c es)) tt
    (λ es e h. subst (Each (IsAsked c (es ++ e ∷ []))) (sym (held-snoc c es e)) (hold_asked c es e (held c es) h)) es

-- a prefix that is longer than what stands before an event has that event
front-has : (before front : List Event) (e : Event) (rest later : List Event) → before ++ e ∷ rest ≡ front ++ later → length before < length front
    → (between : List Event) × (front ≡ before ++ e ∷ between)
front-has before [] e rest later h lt = absurd (omega arith)
front-has [] (f ∷ front) e rest later h lt = let is : e ≡ f = cc in (front, ap (λ x. x ∷ front) (sym is))
front-has (b ∷ before) (f ∷ front) e rest later h lt =
    let is : b ≡ f = cc in
    let tails : before ++ e ∷ rest ≡ front ++ later = cc in
    let p = front-has before front e rest later tails (omega arith) in
    (p.0, ap (λ x. x ∷ front) (sym is) ∙ ap (λ xs. b ∷ xs) p.1)

-- what decides a request comes after it
after_by : (x y z : Bool) → (x && y || x && z) ≡ true → x ≡ true
after_by true y z h = refl
after_by false y z h = cc

comes-after : (c : Configuration) (r : Pending) (s : Step) → (settles c r s || closes r s) ≡ true → length r.before < length (until s)
comes-after c r s h =
    let after : nat_lt (length r.before) (length s.before) ≡ true = after_by (comes_after r s) _ (is_close r.ticket s.event) h in
    let lt : length r.before < length s.before = grind (arith, nat_tests) in
    omega (arith, length-append s.before (s.event ∷ []))

settled_by : (x y z : Bool) (n : ℕ) (a : Wanted) (o : Option (List ℕ)) (p page : Paged)
    → (if x then None else Some (if y then (if z then Text p else media_or_none n a o) else Timeout)) ≡ Some (Text page) → page ≡ p
settled_by true y z n a o p page h = cc
settled_by false true true n a o p page h = cc
settled_by false true false n a (Some bytes) p page h = cc
settled_by false true false n a None p page h = cc
settled_by false false z n a o p page h = cc

by_decision : (c : Configuration) (events : List Event) (r : Pending) (page : Paged) (o : Option Step) → decided c events r ≡ o → IsAsked c events r
    → option_and_then (reply_at_step c r) o ≡ Some (Text page)
    → (want : WantValue) × (between : List Event) × (later : List Event) × (events ≡ (r.before ++ Ask want ∷ between) ++ later)
    × (wanted_of c want ≡ Some r.wanted) × IsWanted c (r.before ++ Ask want ∷ between) r.wanted page
by_decision c events r page None e asked h = cc
by_decision c events r page (Some s) e asked h =
    let f = first_state c events r s e in
    let p = front-has r.before (until s) (Ask asked.0) asked.1 f.rest (sym asked.2 ∙ f.place) (comes-after c r s f.decides) in
    let same : page ≡ page_of c (items c (until s)) r.wanted =
    settled_by (closes r s) (is_there c (items c (until s)) r.wanted) (is_playlist r.wanted.what) (length (items c (until s))) r.wanted
    (media_of c (items c (until s)) r.wanted) (page_of c (items c (until s)) r.wanted) page h in (
      asked.0,
      p.0,
      f.rest,
      f.place ∙ ap (λ xs. xs ++ f.rest) p.1,
      asked.3,
      record {
        rendition = one-of c asked.0 r.wanted asked.3;
        is = same ∙ ap (λ es. page_of c (items c es) r.wanted) p.1;
      },
    )

pub later : LaterLaw
later c events place r page h e =
    by_decision c events r page (decided c events r) refl (each-at (IsAsked c events) (held c events) place r (held_asked c events) h) e

-- ---- a verdict

text-settled : (page : Paged) (o : Option Settled) → option_map reply_of o ≡ Some (now.Text page) → o ≡ Some (Text page)
text-settled page None h = cc
text-settled page (Some (Text p)) h = cc
text-settled page (Some (settled.Media piece)) h = cc
text-settled page (Some settled.NotFound) h = cc
text-settled page (Some Timeout) h = cc

pub verdicts : VerdictLaw
verdicts c before rest want page h = by (at_once c (held c before) before want) (wanted_of c want) refl refl h
  where
    by : (o : Option Reply) (w : Option Wanted) → at_once c (held c before) before want ≡ o → wanted_of c want ≡ w
        → option_or o (later_by c (before ++ Ask want ∷ rest) before w) ≡ Some (now.Text page)
        → (a : Wanted) × (since : List Event) × (after : List Event) × (before ++ Ask want ∷ rest ≡ (before ++ since) ++ after) × (wanted_of c want ≡ Some a)
        × IsWanted c (before ++ since) a page
    by (Some x) w e f h =
        let t = at-once c (held c before) before want page (e ∙ h) in (
          t.0,
          [],
          Ask want ∷ rest,
          ap (λ l. l ++ Ask want ∷ rest) (sym (append-nil before)),
          t.1,
          subst (λ es. IsWanted c es t.0 page) (sym (append-nil before)) t.2,
        )
    by None None e f h = cc
    by None (Some a) e f h =
        let r : Pending = record { ticket = asks before + 1; wanted = a; before = before } in
        let events = before ++ Ask want ∷ rest in
        let t = by_decision c events r page (decided c events r) refl (want, rest, refl, f, refl) (text-settled page (reply c events r) h) in
        (a, Ask t.0 ∷ t.1, t.2, t.3, f, t.5)
