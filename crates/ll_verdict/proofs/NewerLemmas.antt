-- What a held request gets in time is newer than its asking: what it awaits wasn't there when it was asked, and is there now, so items
-- came in between.
use Rattle.std.proofs.Common.{◌≡◌, ℕ, ◌+◌, ◌≤◌, ◌<◌, ◌&&◌, ◌||◌, List, [], ◌∷◌, ◌++◌, Bool, true, false, Option, Some, None, length, length-append, refl, ap, sym, subst, ◌∙◌, append_assoc, append-nil, arith, nat_le, nat_lt, if◌then◌else◌, option_and_then, fold, is_none, slice_get}
use Rattle.std.proofs.lemmas.Bool.Decides.{nat_tests}
use Rattle.std.proofs.lemmas.List.Sums.{fold-append}
use Rattle.ll_settings.specs.Settings.{Configuration}
use Rattle.ll_item.specs.declared.item.Item.{Item}
use Rattle.ll_pieces.specs.View.{Paged}
use Rattle.ll_window.specs.Segments.{own}
use Rattle.ll_verdict.specs.Accepted.{refusal}
use Rattle.ll_verdict.specs.Events.{Event, Publish, Ask, Collect, Close, Clock, Step, asks, items, taken, until}
use Rattle.ll_directive.specs.Files.{is_playlist}
use Rattle.ll_verdict.specs.Laws.{NewerMediaLaw, NewerTextLaw}
use Rattle.ll_verdict.specs.Verdict.{Pending, at_once, closes, comes_after, decided, given, held, held_by, hold_by, is_close, is_there, media_of, media_or_none, page_of, piece_of, reply, reply_at_step, reply_by, settles, waiting, wanted_of}
use Rattle.ll_verdict.specs.declared.piece.MediaReply.{MediaReply}
use Rattle.ll_verdict.specs.declared.reply.Reply.{Reply}
use Rattle.ll_verdict.specs.declared.reply.Settled.{Settled}
use Rattle.ll_verdict.specs.declared.reply.Settled.TheVariants.{Text, Timeout}
use Rattle.ll_verdict.specs.declared.reply.Settled.TheVariants as settled
use Rattle.ll_verdict.specs.declared.wanted.Wanted.{Wanted}
use Rattle.ll_verdict.proofs.HintLemmas.{awaited-missing}
use Rattle.ll_verdict.proofs.LawProofs.{first_state}
use Rattle.ll_verdict.proofs.ListLemmas.{Each, each-append, each-at, each-map}
use Rattle.ll_verdict.proofs.StepLemmas.{along, held-snoc}

-- what a request that has waited until then gets after these items
abbrev given_after : Configuration → List Item → Wanted → Settled
given_after c items a = given (length items) a (page_of c items a) (media_of c items a)

-- ---- a request that has to wait

-- it was asked at some time of the channel, when what it awaits wasn't there
abbrev IsAsked : Configuration → List Event → Pending → Type 0
IsAsked c es r = (after : List Event) × (es ≡ r.before ++ after) × (is_there c (items c r.before) r.wanted ≡ false)

still_asked : (c : Configuration) (es : List Event) (e : Event) (r : Pending) → IsAsked c es r → IsAsked c (es ++ e ∷ []) r
still_asked c es e r h = (h.0 ++ e ∷ [], ap (λ xs. xs ++ e ∷ []) h.1 ∙ append_assoc r.before h.0 (e ∷ []), h.2)

kept_asked : (c : Configuration) (es : List Event) (e : Event) (rs : List Pending) → Each (IsAsked c es) rs → Each (IsAsked c (es ++ e ∷ [])) rs
kept_asked c es e rs h = each-map (IsAsked c es) (IsAsked c (es ++ e ∷ [])) (still_asked c es e) rs h

added_asked : (c : Configuration) (es : List Event) (e : Event) (n ticket : ℕ) (o : Option Wanted) (reply : Option Reply) → reply_by c n (items c es) o ≡ reply
    → Each (IsAsked c (es ++ e ∷ [])) (held_by reply ticket es o)
added_asked c es e n ticket (Some a) None h = ((e ∷ [], refl, awaited-missing c n (items c es) a h), tt)
added_asked c es e n ticket None None h = tt
added_asked c es e n ticket o (Some reply) h = tt

hold_asked : (c : Configuration) (es : List Event) (e : Event) (rs : List Pending) → Each (IsAsked c es) rs → Each (IsAsked c (es ++ e ∷ [])) (hold_by c rs es e)
hold_asked c es (Publish item) rs h = kept_asked c es (Publish item) rs h
hold_asked c es (Ask want) rs h =
    each-append (IsAsked c (es ++ Ask want ∷ [])) rs (held_by (at_once c rs es want) (asks es + 1) es (wanted_of c want)) (kept_asked c es (Ask want) rs h)
    (added_asked c es (Ask want) (waiting c es rs) (asks es + 1) (wanted_of c want) (at_once c rs es want) refl)
hold_asked c es (Collect ticket) rs h = kept_asked c es (Collect ticket) rs h
hold_asked c es (Close ticket) rs h = kept_asked c es (Close ticket) rs h
hold_asked c es (Clock ms) rs h = kept_asked c es (Clock ms) rs h

held_asked : (c : Configuration) (es : List Event) → Each (IsAsked c es) (held c es)
held_asked c es = along (λ es. Each (IsAsked c es) (held c es)) tt
    (λ es e h. subst (Each (IsAsked c (es ++ e ∷ []))) (sym (held-snoc c es e)) (hold_asked c es e (held c es) h)) es

-- ---- items that were accepted stay, and others come after them

taken-by_longer : (list : List Item) (i : Item) (b : Bool) → (more : List Item) × ((if b then list ++ i ∷ [] else list) ≡ list ++ more)
taken-by_longer list i true = (i ∷ [], refl)
taken-by_longer list i false = ([], sym (append-nil list))

taken-longer : (c : Configuration) (list : List Item) (e : Event) → (more : List Item) × (taken c list e ≡ list ++ more)
taken-longer c list (Publish i) = taken-by_longer list i (is_none (refusal c list i))
taken-longer c list (Ask want) = ([], sym (append-nil list))
taken-longer c list (Collect ticket) = ([], sym (append-nil list))
taken-longer c list (Close ticket) = ([], sym (append-nil list))
taken-longer c list (Clock ms) = ([], sym (append-nil list))

pub folded-longer : (c : Configuration) (es : List Event) (list : List Item) → (more : List Item) × (fold (taken c) list es ≡ list ++ more)
folded-longer c [] list = ([], sym (append-nil list))
folded-longer c (e ∷ es) list =
    let p = taken-longer c list e in
    let q = folded-longer c es (taken c list e) in
    (p.0 ++ q.0, q.1 ∙ ap (λ xs. xs ++ q.0) p.1 ∙ append_assoc list p.0 q.0)

-- if a test fails of some items, and passes once others follow them, some do follow
more_by : (test : List Item → Bool) (list more all : List Item) → all ≡ list ++ more → test list ≡ false → test all ≡ true → length list < length all
more_by test list [] all e missing found =
    let same : all ≡ list = e ∙ append-nil list in
    cc
more_by test list (i ∷ more) all e missing found = omega (arith, ap length e, length-append list (i ∷ more))

-- if what is awaited is there only at the second of two moments of a channel, items came in between
came_between : (c : Configuration) (before since : List Event) (a : Wanted) → is_there c (items c before) a ≡ false
    → is_there c (items c (before ++ since)) a ≡ true → length (items c before) < length (items c (before ++ since))
came_between c before since a missing found =
    let q = folded-longer c since (items c before) in
    more_by (λ list. is_there c list a) (items c before) q.0 (items c (before ++ since)) (fold-append (taken c) [] before since ∙ q.1) missing found

-- ---- the playlist that it gets

-- of two prefixes of one list, the longer one begins with the other
front-has : (before front after rest : List Event) → before ++ after ≡ front ++ rest → length before ≤ length front
    → (since : List Event) × (front ≡ before ++ since)
front-has [] front after rest h le = (front, refl)
front-has (b ∷ before) [] after rest h le = absurd (omega arith)
front-has (b ∷ before) (f ∷ front) after rest h le =
    let is : b ≡ f = cc in
    let tails : before ++ after ≡ front ++ rest = cc in
    let p = front-has before front after rest tails (omega arith) in
    (p.0, ap (λ x. x ∷ front) (sym is) ∙ ap (λ xs. b ∷ xs) p.1)

-- what decides a request comes after it
after_by : (x y z : Bool) → (x && y || x && z) ≡ true → x ≡ true
after_by true y z h = refl
after_by false y z h = cc

comes-after : (c : Configuration) (r : Pending) (s : Step) → (settles c r s || closes r s) ≡ true → length r.before ≤ length (until s)
comes-after c r s h =
    let after : nat_lt (length r.before) (length s.before) ≡ true = after_by (comes_after r s) _ (is_close r.ticket s.event) h in
    let lt : length r.before < length s.before = grind (arith, nat_tests) in
    omega (arith, length-append s.before (s.event ∷ []))

-- what is given is what is there
given_by : (x y : Bool) (g s : Settled) → (if x then None else Some (if y then g else Timeout)) ≡ Some s → (s ≡ Timeout → ⊥) → (s ≡ g) × (y ≡ true)
given_by true y g s h other = cc
given_by false true g s h other = (cc, refl)
given_by false false g s h other = absurd (other cc)

-- what a request gets that had to wait and whose time isn't over, at a moment that begins with what was before it
record IsGiven (c : Configuration) (events : List Event) (r : Pending) (s : Settled) : Type 0 where
  since : List Event
  rest : List Event
  place : events ≡ (r.before ++ since) ++ rest
  is : s ≡ given_after c (items c (r.before ++ since)) r.wanted
  there : is_there c (items c (r.before ++ since)) r.wanted ≡ true
  newer : length (items c r.before) < length (items c (r.before ++ since))

given-from : (c : Configuration) (events : List Event) (r : Pending) (s : Settled) (front since rest : List Event) → events ≡ front ++ rest → front ≡ r.before ++ since
    → is_there c (items c r.before) r.wanted ≡ false → s ≡ given_after c (items c front) r.wanted → is_there c (items c front) r.wanted ≡ true → IsGiven c events r s
given-from c events r s front since rest place begins missing is there =
    let found : is_there c (items c (r.before ++ since)) r.wanted ≡ true = ap (λ es. is_there c (items c es) r.wanted) (sym begins) ∙ there in
    record {
      since = since;
      rest = rest;
      place = place ∙ ap (λ es. es ++ rest) begins;
      is = is ∙ ap (λ es. given_after c (items c es) r.wanted) begins;
      there = found;
      newer = came_between c r.before since r.wanted missing found;
    }

by_decision : (c : Configuration) (events : List Event) (r : Pending) (s : Settled) (o : Option Step) → decided c events r ≡ o → IsAsked c events r
    → option_and_then (reply_at_step c r) o ≡ Some s → (s ≡ Timeout → ⊥) → IsGiven c events r s
by_decision c events r s None e asked h other = cc
by_decision c events r s (Some step) e asked h other =
    let f = first_state c events r step e in
    let p = front-has r.before (until step) asked.0 f.rest (sym asked.1 ∙ f.place) (comes-after c r step f.decides) in
    let is = given_by (closes r step) (is_there c (items c (until step)) r.wanted) (given_after c (items c (until step)) r.wanted) s h other in
    given-from c events r s (until step) p.0 f.rest f.place p.1 asked.2 is.0 is.1

got : (c : Configuration) (events : List Event) (place : ℕ) (r : Pending) (s : Settled) → slice_get (held c events) place ≡ Some r
    → reply c events r ≡ Some s → (s ≡ Timeout → ⊥) → IsGiven c events r s
got c events place r s h e other = by_decision c events r s (decided c events r) refl (each-at (IsAsked c events) (held c events) place r (held_asked c events) h) e other

-- a text is that of a playlist
text_by : (b : Bool) (n : ℕ) (a : Wanted) (p page : Paged) (o : Option (List ℕ)) → Text page ≡ (if b then Text p else media_or_none n a o) → page ≡ p
text_by true n a p page o h = cc
text_by false n a p page (Some bytes) h = cc
text_by false n a p page None h = cc

pub newer_text : NewerTextLaw
newer_text c events place r page h e =
    let g = got c events place r (Text page) h e (λ x. cc) in
    let its = items c (r.before ++ g.since) in
    let shown = text_by (is_playlist r.wanted.what) (length its) r.wanted (page_of c its r.wanted) page (media_of c its r.wanted) g.is in
    record {
      since = g.since;
      rest = g.rest;
      place = g.place;
      shown = shown;
      there = g.there;
      newer = subst (λ n. length (items c r.before) < n) (ap (λ (p : Paged). p.seen.count) (sym shown)) g.newer;
    }

-- media is that of a file of media
media_by : (b : Bool) (n : ℕ) (a : Wanted) (p : Paged) (piece : MediaReply) (o : Option (List ℕ)) → settled.Media piece ≡ (if b then Text p else media_or_none n a o)
    → (o ≡ Some piece.bytes) × (piece ≡ piece_of n a piece.bytes)
media_by true n a p piece o h = cc
media_by false n a p piece (Some bytes) h =
    let is : piece ≡ piece_of n a bytes = cc in
    let same : bytes ≡ piece.bytes = ap (λ (x : MediaReply). x.bytes) (sym is) in
    (ap Some same, is ∙ ap (piece_of n a) same)
media_by false n a p piece None h = cc

pub newer_media : NewerMediaLaw
newer_media c events place r piece h e =
    let g = got c events place r (settled.Media piece) h e (λ x. cc) in
    let its = items c (r.before ++ g.since) in
    let is = media_by (is_playlist r.wanted.what) (length its) r.wanted (page_of c its r.wanted) piece (media_of c its r.wanted) g.is in
    record {
      since = g.since;
      rest = g.rest;
      place = g.place;
      shown = is.1;
      there = is.0;
      newer = subst (λ n. length (items c r.before) < n) (ap (λ (p : MediaReply). p.number) (sym is.1)) g.newer;
    }
