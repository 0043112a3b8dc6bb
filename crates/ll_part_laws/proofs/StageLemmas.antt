-- One more element of a stream.
use Rattle.std.proofs.Common.{◌≡◌, ◌≢◌, ℕ, ◌+◌, ◌-◌, ◌<◌, ◌≤◌, ◌^◌, Bool, true, false, not, List, [], ◌∷◌, ◌++◌, length, take, drop, nat_lt, if◌then◌else◌, Option, Some, None, Ok, refl, ap, sym, subst, ◌∙◌, min, max, append_assoc, append-nil, length-append, arith, inl}
use Rattle.std.proofs.lemmas.List.{take-append-drop}
use Rattle.std.proofs.lemmas.List.Elements.{All-append, All-cons, All-drop, All-head, All-nil, All-tail, All-take}
use Rattle.std.proofs.lemmas.List.Folds.{concat-append}
use Rattle.std.specs.List.{All, concat}
use Rattle.std.specs.Option.{unwrap_or}
use Rattle.ll_mp4.specs.Elements.{element_of}
use Rattle.ll_mp4.specs.Movies.{MovieValue}
use Rattle.ll_mp4.specs.declared.element.Element.TheVariants as element
use Rattle.ll_mp4.specs.declared.fault.StreamFault.{StreamFault}
use Rattle.ll_mp4.specs.declared.fault.StreamFault.TheVariants.{TooLarge, TooLong}
use Rattle.ll_mp4.specs.declared.timing.Timing.{Timing}
use borrow.Author.Tests.{ltb-false}
use Rattle.ll_parts.proofs.OtherLemmas.{one_more}
use Rattle.ll_runs.proofs.TimeLemmas.{counted_less}
use Rattle.ll_parts.specs.Joined.{Joining, Taken, begun, beside, end_of, first_time, first_times, followed, group_of, heading_of, heard, held_of, on_stage, over, parting, refusal, refusal_beside, size_of, Step, step_of, with_part}
use Rattle.ll_parts.specs.Others.{bytes_of}
use Rattle.ll_parts.specs.Prompt.{parted}
use Rattle.ll_runs.specs.Refusals.{is_long, refusal_at, refusal_by, refusal_of}
use Rattle.ll_runs.specs.Times.{at_tick, cut_before, ends_run, goes_back, is_counted, joined_to, lasts, next_at, place_of, said_to, size_limit, time_of, times_after}
use Rattle.ll_parts.specs.declared.heading.Heading.{Heading}
use Rattle.ll_runs.specs.declared.lengths.Lengths.{Lengths}
use Rattle.ll_parts.specs.declared.others.Other.{Other}
use Rattle.ll_parts.specs.declared.pieces.Piece.TheVariants.{Begin}
use Rattle.ll_parts.specs.declared.stage.Held.{Held}
use Rattle.ll_parts.specs.declared.stage.Stage.{Stage}
use Rattle.ll_parts.specs.declared.stage.Stage.TheVariants.{Silent, Under, Prompt}
use Rattle.ll_runs.specs.declared.times.Next.{Next}
use Rattle.ll_runs.specs.declared.times.Next.TheVariants.{Over, Back, At}
use Rattle.ll_runs.specs.declared.times.Times.{Times}
use Rattle.ll_part_laws.proofs.ComesLemmas.{Comes, comes-append, comes-none, comes-one}
use Rattle.ll_part_laws.proofs.CutLemmas.{IsPlaced}
use Rattle.ll_part_laws.proofs.JoinLemmas.{Open, fragment_at}
use Rattle.ll_part_laws.proofs.StepLemmas.{IsAhead, OverTold, StepTold, next-step, over-step}
use Rattle.ll_part_laws.specs.Laws.{IsBeside, IsFragment, IsFrom, IsOver, Place, at_end}
use Rattle.ll_part_laws.specs.Made.{Lost, Movie}

-- ---- units beside

abbrev pub other_units : List Other → List (List ℕ)
other_units [] = []
other_units (other ∷ later) = other.bytes ∷ other_units later

abbrev pub AreBeside : Option MovieValue → List Other → Type 0
AreBeside movie others = All (λ (o : Other). IsBeside movie o.bytes) others

besides : (movie : Option MovieValue) (others : List Other) → AreBeside movie others → All (IsBeside movie) (other_units others)
besides movie [] are = All-nil (IsBeside movie)
besides movie (o ∷ later) are =
    All-cons (IsBeside movie) o.bytes (other_units later) (All-head (λ (o : Other). IsBeside movie o.bytes) o later are)
    (besides movie later (All-tail (λ (o : Other). IsBeside movie o.bytes) o later are))

units-append : (xs ys : List Other) → other_units (xs ++ ys) ≡ other_units xs ++ other_units ys
units-append [] ys = refl
units-append (x ∷ xs) ys = ap (λ later. x.bytes ∷ later) (units-append xs ys)

units-split : (n : ℕ) (xs : List Other) → other_units (take n xs) ++ other_units (drop n xs) ≡ other_units xs
units-split n xs = sym (units-append (take n xs) (drop n xs)) ∙ ap other_units (take-append-drop n xs)

units-joined : (xs : List Other) → concat (other_units xs) ≡ bytes_of xs
units-joined [] = refl
units-joined (x ∷ xs) = ap (λ later. x.bytes ++ later) (units-joined xs)

-- ---- what a stage holds

-- a fragment that is held, of these units with the part under way
pub record HeldTold (l : Lengths) (h : Heading) (p : Place) (held : Held) (t : Times) (under : List ℕ) (units : List (List ℕ)) : Type 0 where
  pub some : 0 < length held.bytes
  pub small : length held.bytes + length (bytes_of held.since) ≤ size_limit
  pub counted : is_counted h.scale (t.position + held.ticks) ≡ true
  pub carried : List (List ℕ)
  pub lead : List (List ℕ)
  pub unit : List ℕ
  pub own : concat lead ++ unit ≡ held.bytes
  pub timing : Timing
  pub read : element_of p.movie unit ≡ Ok (element.Fragment timing)
  pub sync : held.sync ≡ timing.sync
  pub ticks : held.ticks ≡ timing.ticks
  pub before : All (IsBeside p.movie) lead
  pub since : AreBeside p.movie held.since
  pub opened : Open l h p t under carried timing.time
  pub whole : carried ++ (lead ++ unit ∷ other_units held.since) ≡ units

pub record SilentTold (h : Heading) (end : ℕ) (p : Place) (lead : List ℕ) (units : List (List ℕ)) : Type 0 where
  pub heading : h ≡ p.heading
  pub jump : p.jump ≡ None
  pub before : p.before ≡ None
  pub run : p.run ≡ 0
  pub end_is : p.end ≡ end
  pub reached : p.reached ≡ end
  pub beside : All (IsBeside p.movie) units
  pub own : concat units ≡ lead

-- if parts wait, no fragment is a part by itself
abbrev pub StageTold : Lengths → Heading → ℕ → Place → Stage → List (List ℕ) → Type 0
StageTold l h end p (Silent lead) units = SilentTold h end p lead units
StageTold l h end p (Under held t under) units = HeldTold l h p held t under units
StageTold l h end p (Prompt lead t) units = ⊥

-- the pieces that an element completes, and the stage after it, have these units; `movie` was the last
pub record TakenTold (l : Lengths) (p : Place) (movie : Option MovieValue) (units : List (List ℕ)) (taken : Taken) : Type 0 where
  pub same : taken.after.lengths ≡ l
  pub place : Place
  pub movie_is : place.movie ≡ movie
  pub said : List (List ℕ)
  pub later : List (List ℕ)
  pub comes : Comes l p taken.pieces said place
  pub stage : StageTold l taken.after.heading taken.after.end place taken.after.stage later
  pub whole : said ++ later ≡ units

-- ---- units, one after another

three : (a b c d : List (List ℕ)) → a ++ (b ++ (c ++ d)) ≡ (a ++ (b ++ c)) ++ d
three a b c d = sym (append_assoc a (b ++ c) d ∙ ap (λ x. a ++ x) (append_assoc b c d))

regroup : (said onward carried lead : List (List ℕ)) (unit : List ℕ) (stays leaves new since : List (List ℕ)) → said ++ onward ≡ carried ++ (lead ++ unit ∷ stays) → stays ++ leaves ≡ since
    → said ++ (onward ++ (leaves ++ new)) ≡ (carried ++ (lead ++ unit ∷ since)) ++ new
regroup said onward carried lead unit stays leaves new since e f =
    sym (append_assoc said onward (leaves ++ new)) ∙ ap (λ x. x ++ (leaves ++ new)) e ∙ sym (append_assoc (carried ++ (lead ++ unit ∷ stays)) leaves new)
    ∙ ap (λ x. x ++ new) (sym (three carried lead (unit ∷ stays) leaves)) ∙ ap (λ x. (carried ++ (lead ++ unit ∷ x)) ++ new) f

-- the bytes of a fragment with others
with-others : (lead : List (List ℕ)) (unit : List ℕ) (others : List Other) (held : List ℕ) → concat lead ++ unit ≡ held → concat (lead ++ unit ∷ other_units others) ≡ held ++ bytes_of others
with-others lead unit others held e =
    concat-append lead (unit ∷ other_units others) ∙ ap (λ x. concat lead ++ (unit ++ x)) (units-joined others) ∙ sym (append_assoc (concat lead) unit (bytes_of others))
    ∙ ap (λ x. x ++ bytes_of others) e

more-some : (xs ys : List ℕ) → 0 < length xs → 0 < length (xs ++ ys)
more-some xs ys some = let e = length-append xs ys in omega (arith, e, some)

after-some : (xs ys : List ℕ) → 0 < length ys → 0 < length (xs ++ ys)
after-some xs ys some = let e = length-append xs ys in omega (arith, e, some)

-- ---- what isn't refused is counted

by-none : (b : Bool) (other : Option StreamFault) → refusal_by b other ≡ None → other ≡ None
by-none true other e = absurd (cc)
by-none false other e = e

of-none : (scale end size : ℕ) → refusal_of scale end size ≡ None → is_counted scale end ≡ true
of-none scale end size e = by_test (is_counted scale end) e
  where
    by_test : (b : Bool) → (if◌then◌else◌ {A = Option StreamFault} (not b) (Some TooLong) (if nat_lt size_limit size then Some TooLarge else None)) ≡ None → b ≡ true
    by_test true e = refl
    by_test false e = absurd (cc)

of-small : (scale end size : ℕ) → refusal_of scale end size ≡ None → size ≤ size_limit
of-small scale end size e = ltb-false size_limit size (by_test (is_counted scale end) (nat_lt size_limit size) e)
  where
    by_test : (b c : Bool) → (if◌then◌else◌ {A = Option StreamFault} (not b) (Some TooLong) (if c then Some TooLarge else None)) ≡ None → c ≡ false
    by_test true false e = refl
    by_test true true e = absurd (cc)
    by_test false c e = absurd (cc)

-- if parts wait, the first fragment of a movie is held
silent-none : (j : Joining) (lead : List ℕ) (size : ℕ) (timing : Timing) → j.lengths.ahead ≡ true → refusal j (Silent lead) size timing ≡ None
    → refusal_by (is_long j.lengths j.heading.scale true timing.ticks) (refusal_of j.heading.scale (first_time timing.time + timing.ticks) (length lead + size)) ≡ None
unfolding refusal
silent-none j lead size timing waits e =
    subst
    (λ b.
    (if◌then◌else◌ {A = Option StreamFault} b
    (refusal_by (is_long j.lengths j.heading.scale true timing.ticks) (refusal_of j.heading.scale (first_time timing.time + timing.ticks) (length lead + size)))
    (refusal_at j.lengths j.heading.scale (first_times j timing) timing.ticks (length lead + size)))
    ≡ None)
    waits e

silent-small : (j : Joining) (lead : List ℕ) (size : ℕ) (timing : Timing) → j.lengths.ahead ≡ true → refusal j (Silent lead) size timing ≡ None → length lead + size ≤ size_limit
silent-small j lead size timing waits e =
    of-small j.heading.scale (first_time timing.time + timing.ticks) (length lead + size)
    (by-none (is_long j.lengths j.heading.scale true timing.ticks) (refusal_of j.heading.scale (first_time timing.time + timing.ticks) (length lead + size))
    (silent-none j lead size timing waits e))

under-small : (j : Joining) (held : Held) (t : Times) (under : List ℕ) (size : ℕ) (timing : Timing) → refusal j (Under held t under) size timing ≡ None
    → length (bytes_of (drop (parting j.lengths j.heading.scale held t timing.time).count held.since)) + size ≤ size_limit
unfolding refusal
under-small j held t under size timing e =
    of-small j.heading.scale (place_of (parting j.lengths j.heading.scale held t timing.time).next + timing.ticks) (length (bytes_of (drop (parting j.lengths j.heading.scale held t timing.time).count held.since)) + size)
    (by-none (is_long j.lengths j.heading.scale (parting j.lengths j.heading.scale held t timing.time).ends timing.ticks)
    (refusal_of j.heading.scale (place_of (parting j.lengths j.heading.scale held t timing.time).next + timing.ticks) (length (bytes_of (drop (parting j.lengths j.heading.scale held t timing.time).count held.since)) + size)) e)

-- what goes with a fragment is small too, and the first of it
pub beside-small : (stage : Stage) (size : ℕ) → refusal_beside stage size ≡ None → size_of stage + size ≤ size_limit
beside-small stage size e = ltb-false size_limit (size_of stage + size) (by_test (nat_lt size_limit (size_of stage + size)) e)
  where
    by_test : (b : Bool) → (if◌then◌else◌ {A = Option StreamFault} b (Some TooLarge) None) ≡ None → b ≡ false
    by_test false e = refl
    by_test true e = absurd (cc)

others-append : (xs ys : List Other) → bytes_of (xs ++ ys) ≡ bytes_of xs ++ bytes_of ys
others-append [] ys = refl
others-append (x ∷ xs) ys = ap (λ later. x.bytes ++ later) (others-append xs ys) ∙ sym (append_assoc x.bytes (bytes_of xs) (bytes_of ys))

first-light : (n : ℕ) (held : List ℕ) (since : List Other) → length held + length (bytes_of since) ≤ size_limit → length (held ++ bytes_of (take n since)) ≤ size_limit
first-light n held since few =
    from (length (held ++ bytes_of (take n since))) (length held) (length (bytes_of (take n since))) (length (bytes_of (drop n since))) (length (bytes_of since)) size_limit
    (length-append held (bytes_of (take n since)))
    (sym (length-append (bytes_of (take n since)) (bytes_of (drop n since)))
    ∙ ap (λ (bytes : List ℕ). length bytes) (sym (others-append (take n since) (drop n since)) ∙ ap bytes_of (take-append-drop n since))) few
  where
    from : (all a b c d limit : ℕ) → all ≡ a + b → b + c ≡ d → a + d ≤ limit → all ≤ limit
    from all a b c d limit e f g = omega (arith, e, f, g)

all-light : (held : List ℕ) (since : List Other) → length held + length (bytes_of since) ≤ size_limit → length (held ++ bytes_of since) ≤ size_limit
all-light held since few = subst (λ n. n ≤ size_limit) (sym (length-append held (bytes_of since))) few

silent-counted : (j : Joining) (lead : List ℕ) (size : ℕ) (timing : Timing) → j.lengths.ahead ≡ true → refusal j (Silent lead) size timing ≡ None
    → is_counted j.heading.scale (first_time timing.time + timing.ticks) ≡ true
silent-counted j lead size timing waits e =
    of-none j.heading.scale (first_time timing.time + timing.ticks) (length lead + size)
    (by-none (is_long j.lengths j.heading.scale true timing.ticks) (refusal_of j.heading.scale (first_time timing.time + timing.ticks) (length lead + size))
    (silent-none j lead size timing waits e))

under-counted : (j : Joining) (held : Held) (t : Times) (under : List ℕ) (size : ℕ) (timing : Timing) → refusal j (Under held t under) size timing ≡ None
    → is_counted j.heading.scale (place_of (parting j.lengths j.heading.scale held t timing.time).next + timing.ticks) ≡ true
unfolding refusal
under-counted j held t under size timing e =
    of-none j.heading.scale (place_of (parting j.lengths j.heading.scale held t timing.time).next + timing.ticks) (length (bytes_of (drop (parting j.lengths j.heading.scale held t timing.time).count held.since)) + size)
    (by-none (is_long j.lengths j.heading.scale (parting j.lengths j.heading.scale held t timing.time).ends timing.ticks)
    (refusal_of j.heading.scale (place_of (parting j.lengths j.heading.scale held t timing.time).next + timing.ticks) (length (bytes_of (drop (parting j.lengths j.heading.scale held t timing.time).count held.since)) + size)) e)

placed : (scale ticks : ℕ) (next : Next) → is_counted scale (place_of next + ticks) ≡ true → IsPlaced scale next
placed scale ticks Over e = tt
placed scale ticks (Back tick) e = tt
placed scale ticks (At tick) e = counted_less scale tick ticks e

-- ---- the next fragment is at a place, and no earlier

position-same : (t : Times) (end : ℕ) (ends : Bool) (next : Next) → next ≢ Over → (times_after t end ends next).position ≡ place_of next
position-same t end ends Over not = absurd (not refl)
position-same t end ends (Back tick) not = refl
position-same t end true (At tick) not = refl
position-same t end false (At tick) not = refl

step-position : (l : Lengths) (h : Heading) (t : Times) (under : List ℕ) (held : Held) (others : List Other) (next : Next) → next ≢ Over
    → (step_of l h t under (group_of held others) next).onward.times.position ≡ place_of next
step-position l h t under held others next not =
    position-same
    (joined_to
    (cut_before l t (length under) (at_tick h.scale t t.position) (lasts l h.scale t held.ticks (said_to h.scale t held.ticks next)) held.sync (length (held.bytes ++ bytes_of others))) t
    (length under) (at_tick h.scale t t.position) (lasts l h.scale t held.ticks (said_to h.scale t held.ticks next)) held.sync)
    (min (at_tick h.scale t t.position + lasts l h.scale t held.ticks (said_to h.scale t held.ticks next)) (2 ^ 64 - 1)) (ends_run l (said_to h.scale t held.ticks next) next) next not

by-not-over : (b : Bool) (time place : ℕ) → (if◌then◌else◌ {A = Next} b (Back time) (At place)) ≢ Over
by-not-over true time place e = absurd (cc)
by-not-over false time place e = absurd (cc)

not-over : (l : Lengths) (scale position time : ℕ) → next_at l scale position time ≢ Over
not-over l scale position time = by-not-over (goes_back l scale position time) time (max position time)

ahead : (l : Lengths) (scale : ℕ) (t : Times) (ticks : ℕ) (told : Option ℕ) → IsAhead l scale t.position ticks told (next_at l scale t.position (time_of t ticks told))
ahead l scale t ticks told = by_test (goes_back l scale t.position (time_of t ticks told)) refl
  where
    by_test : (b : Bool) → goes_back l scale t.position (time_of t ticks told) ≡ b
        → IsAhead l scale t.position ticks told (if◌then◌else◌ {A = Next} b (Back (time_of t ticks told)) (At (max t.position (time_of t ticks told))))
    by_test true e = (e, refl)
    by_test false e = (refl, e)

first-same : (told : Option ℕ) → first_time told ≡ unwrap_or told 0
first-same None = refl
first-same (Some time) = refl

-- ---- one more fragment

new-small : (lead bytes : List ℕ) → length lead + length bytes ≤ size_limit → length (lead ++ bytes) + length (bytes_of []) ≤ size_limit
new-small lead bytes few = let e = length-append lead bytes in omega (arith, e, few)

-- the step that the next fragment makes
abbrev step_at : Joining → Held → Times → List ℕ → Timing → Step
step_at j held t under timing = step_of j.lengths j.heading t under (group_of held (take (parting j.lengths j.heading.scale held t timing.time).count held.since)) (parting j.lengths j.heading.scale held t timing.time).next

module _ (j : Joining) (place : Place) (held : Held) (t : Times) (under : List ℕ) (units : List (List ℕ)) (told : HeldTold j.lengths j.heading place held t under units) where
  -- a fragment with the first of those that came since
  held-is : (n lasts : ℕ)
      → IsFragment place.movie (fragment_at told.lead told.unit (other_units (take n held.since)) told.timing.time held.ticks t lasts held.sync)
  held-is n lasts = record {
    timing = told.timing;
    read = told.read;
    sync = told.sync;
    told = refl;
    ticks = told.ticks;
    lead = told.before;
    rest = besides place.movie (take n held.since) (All-take (λ (o : Other). IsBeside place.movie o.bytes) n held.since told.since);
  }

  all-is : (lasts : ℕ) → IsFragment place.movie (fragment_at told.lead told.unit (other_units held.since) told.timing.time held.ticks t lasts held.sync)
  all-is lasts = record { timing = told.timing; read = told.read; sync = told.sync; told = refl; ticks = told.ticks; lead = told.before; rest = besides place.movie held.since told.since }

  module _ (bytes : List ℕ) (timing : Timing) (some : 0 < length bytes)
      (light : length (bytes_of (drop (parting j.lengths j.heading.scale held t timing.time).count held.since)) + length bytes ≤ size_limit) (not : (parting j.lengths j.heading.scale held t timing.time).next ≢ Over) (front : IsAhead j.lengths j.heading.scale t.position held.ticks timing.time (parting j.lengths j.heading.scale held t timing.time).next)
      (next_counted : is_counted j.heading.scale (place_of (parting j.lengths j.heading.scale held t timing.time).next + timing.ticks) ≡ true) (read : element_of place.movie bytes ≡ Ok (element.Fragment timing)) where
    abbrev step_now : Step
    step_now = step_at j held t under timing

    at-place : step_now.onward.times.position ≡ place_of (parting j.lengths j.heading.scale held t timing.time).next
    at-place = step-position j.lengths j.heading t under held (take (parting j.lengths j.heading.scale held t timing.time).count held.since) (parting j.lengths j.heading.scale held t timing.time).next not

    next-held : (q : Place) (carried : List (List ℕ)) → q.movie ≡ place.movie → Open j.lengths j.heading q step_now.onward.times step_now.onward.bytes carried timing.time
        → HeldTold j.lengths j.heading q (held_of (bytes_of (drop (parting j.lengths j.heading.scale held t timing.time).count held.since)) bytes timing) step_now.onward.times step_now.onward.bytes
        (carried ++ (other_units (drop (parting j.lengths j.heading.scale held t timing.time).count held.since) ++ bytes ∷ []))
    next-held q carried movie opened = record {
      some = after-some (bytes_of (drop (parting j.lengths j.heading.scale held t timing.time).count held.since)) bytes some;
      small = new-small (bytes_of (drop (parting j.lengths j.heading.scale held t timing.time).count held.since)) bytes light;
      counted = subst (λ position. is_counted j.heading.scale (position + timing.ticks) ≡ true) (sym at-place) next_counted;
      carried = carried;
      lead = other_units (drop (parting j.lengths j.heading.scale held t timing.time).count held.since);
      unit = bytes;
      own = ap (λ lead. lead ++ bytes) (units-joined (drop (parting j.lengths j.heading.scale held t timing.time).count held.since));
      timing = timing;
      read = subst (λ movie. element_of movie bytes ≡ Ok (element.Fragment timing)) (sym movie) read;
      sync = refl;
      ticks = refl;
      before =
          subst (λ movie. All (IsBeside movie) (other_units (drop (parting j.lengths j.heading.scale held t timing.time).count held.since))) (sym movie)
          (besides place.movie (drop (parting j.lengths j.heading.scale held t timing.time).count held.since) (All-drop (λ (o : Other). IsBeside place.movie o.bytes) (parting j.lengths j.heading.scale held t timing.time).count held.since told.since));
      since = All-nil (λ (o : Other). IsBeside q.movie o.bytes);
      opened = opened;
      whole = refl;
    }

    taken-by : StepTold j.lengths j.heading place (told.carried ++ (told.lead ++ told.unit ∷ other_units (take (parting j.lengths j.heading.scale held t timing.time).count held.since))) timing.time step_now
        → TakenTold j.lengths place place.movie (units ++ bytes ∷ []) (followed j held t under bytes timing (parting j.lengths j.heading.scale held t timing.time))
    taken-by s = record {
      same = refl;
      place = s.place;
      movie_is = s.movie;
      said = s.said;
      later = s.carried ++ (other_units (drop (parting j.lengths j.heading.scale held t timing.time).count held.since) ++ bytes ∷ []);
      comes = s.comes;
      stage = next-held s.place s.carried s.movie s.opened;
      whole =
          regroup s.said s.carried told.carried told.lead told.unit (other_units (take (parting j.lengths j.heading.scale held t timing.time).count held.since)) (other_units (drop (parting j.lengths j.heading.scale held t timing.time).count held.since)) (bytes ∷ []) (other_units held.since) s.whole
          (units-split (parting j.lengths j.heading.scale held t timing.time).count held.since)
          ∙ ap (λ units. units ++ bytes ∷ []) told.whole;
    }

    followed-told : TakenTold j.lengths place place.movie (units ++ bytes ∷ []) (followed j held t under bytes timing (parting j.lengths j.heading.scale held t timing.time))
    followed-told =
        taken-by
        (next-step j.lengths j.heading place t under told.carried held (take (parting j.lengths j.heading.scale held t timing.time).count held.since) told.lead told.unit (other_units (take (parting j.lengths j.heading.scale held t timing.time).count held.since)) told.timing.time told.opened
        (more-some held.bytes (bytes_of (take (parting j.lengths j.heading.scale held t timing.time).count held.since)) told.some) (first-light (parting j.lengths j.heading.scale held t timing.time).count held.bytes held.since told.small) (with-others told.lead told.unit (take (parting j.lengths j.heading.scale held t timing.time).count held.since) held.bytes told.own) (held-is (parting j.lengths j.heading.scale held t timing.time).count) told.counted
        (parting j.lengths j.heading.scale held t timing.time).next timing.time (placed j.heading.scale timing.ticks (parting j.lengths j.heading.scale held t timing.time).next next_counted) front not)

  held-over : OverTold j.lengths place (over j (Under held t under)) units (end_of j (Under held t under))
  held-over =
      subst (λ units. OverTold j.lengths place (over j (Under held t under)) units (end_of j (Under held t under))) told.whole
      (over-step j.lengths j.heading place t under told.carried held held.since told.lead told.unit (other_units held.since) told.timing.time told.opened
      (more-some held.bytes (bytes_of held.since) told.some) (all-light held.bytes held.since told.small) (with-others told.lead told.unit held.since held.bytes told.own) all-is told.counted)

-- the first fragment of a movie is held
silent-heard : (j : Joining) (lead bytes : List ℕ) (timing : Timing) → j.lengths.ahead ≡ true
    → heard j (Silent lead) bytes timing ≡ record { pieces = []; after = on_stage j (Under (held_of lead bytes timing) (first_times j timing) []) }
silent-heard j lead bytes timing waits =
    ap
    (λ b.
    if◌then◌else◌ {A = Taken} b (record { pieces = []; after = on_stage j (Under (held_of lead bytes timing) (first_times j timing) []) })
    (with_part j [] (parted j.lengths j.heading (first_times j timing) (lead ++ bytes) timing)))
    waits

pub heard-told : (j : Joining) (place : Place) (stage : Stage) (units : List (List ℕ)) (bytes : List ℕ) (timing : Timing) → j.lengths.ahead ≡ true → 0 < length bytes
    → StageTold j.lengths j.heading j.end place stage units → refusal j stage (length bytes) timing ≡ None → element_of place.movie bytes ≡ Ok (element.Fragment timing)
    → TakenTold j.lengths place place.movie (units ++ bytes ∷ []) (heard j stage bytes timing)
heard-told j place (Silent lead) units bytes timing waits some told fine read =
    subst (λ taken. TakenTold j.lengths place place.movie (units ++ bytes ∷ []) taken) (sym (silent-heard j lead bytes timing waits)) (record {
      same = refl;
      place = place;
      movie_is = refl;
      said = [];
      later = units ++ bytes ∷ [];
      comes = comes-none j.lengths place;
      stage = record {
        some = after-some lead bytes some;
        small = new-small lead bytes (silent-small j lead (length bytes) timing waits fine);
        counted = silent-counted j lead (length bytes) timing waits fine;
        carried = [];
        lead = units;
        unit = bytes;
        own = ap (λ lead. lead ++ bytes) told.own;
        timing = timing;
        read = read;
        sync = refl;
        ticks = refl;
        before = told.beside;
        since = All-nil (λ (o : Other). IsBeside place.movie o.bytes);
        opened =
            inl (refl, refl, record { heading = told.heading; before = told.before; run = told.run; start = refl; segment = refl; base = refl; jump = subst (λ jump. IsFrom jump (first_time timing.time) timing.time (first_time timing.time)) (sym told.jump) (first-same timing.time, refl); end = sym told.end_is });
        whole = refl;
      };
      whole = refl;
    })
heard-told j place (Under held t under) units bytes timing waits some told fine read =
    followed-told j place held t under units told bytes timing some (under-small j held t under (length bytes) timing fine)
    (not-over j.lengths j.heading.scale t.position (time_of t held.ticks timing.time)) (ahead j.lengths j.heading.scale t held.ticks timing.time)
    (under-counted j held t under (length bytes) timing fine) read
heard-told j place (Prompt lead t) units bytes timing waits some told fine read = absurd told

-- ---- the end of a movie

pub stage-over : (j : Joining) (place : Place) (stage : Stage) (units : List (List ℕ)) → StageTold j.lengths j.heading j.end place stage units
    → OverTold j.lengths place (over j stage) units (end_of j stage)
stage-over j place (Silent lead) units told = record {
  place = place;
  comes = comes-one j.lengths place (Lost units) (told.before, told.jump, told.beside);
  movie = refl;
  between = subst (IsOver place.jump) (sym told.before) told.jump;
  reached = told.reached;
}
stage-over j place (Under held t under) units told = held-over j place held t under units told
stage-over j place (Prompt lead t) units told = absurd told

-- ---- another movie

pub begun-told : (j : Joining) (place : Place) (units : List (List ℕ)) (section : List ℕ) (movie : MovieValue) → StageTold j.lengths j.heading j.end place j.stage units
    → ((q : Place) → q.movie ≡ place.movie → element_of q.movie section ≡ Ok (element.Movie movie)) → TakenTold j.lengths place (Some movie) (units ++ section ∷ []) (begun j section movie)
begun-told j place units section movie told read = by_over (stage-over j place j.stage units told)
  where
    by_over : OverTold j.lengths place (over j j.stage) units (end_of j j.stage) → TakenTold j.lengths place (Some movie) (units ++ section ∷ []) (begun j section movie)
    by_over o = record {
      same = refl;
      place = at_end (Some movie) (heading_of section movie) None o.place.reached;
      movie_is = refl;
      said = units ++ section ∷ [];
      later = [];
      comes =
          comes-append j.lengths place o.place (at_end (Some movie) (heading_of section movie) None o.place.reached) (over j j.stage) (Begin section ∷ []) units (section ∷ []) o.comes
          (comes-one j.lengths o.place (Movie section movie) (o.between, read o.place o.movie));
      stage = record {
        heading = refl;
        jump = refl;
        before = refl;
        run = refl;
        end_is = o.reached;
        reached = o.reached;
        beside = All-nil (IsBeside (Some movie));
        own = refl;
      };
      whole = append-nil (units ++ section ∷ []);
    }

-- ---- a unit beside

pub beside-told : (l : Lengths) (h : Heading) (end : ℕ) (place : Place) (stage : Stage) (units : List (List ℕ)) (other : Other) → IsBeside place.movie other.bytes
    → size_of stage + length other.bytes ≤ size_limit → StageTold l h end place stage units → StageTold l h end place (beside stage other) (units ++ other.bytes ∷ [])
beside-told l h end place (Silent lead) units other is few told = record {
  heading = told.heading;
  jump = told.jump;
  before = told.before;
  run = told.run;
  end_is = told.end_is;
  reached = told.reached;
  beside = All-append (IsBeside place.movie) units (other.bytes ∷ []) told.beside (All-cons (IsBeside place.movie) other.bytes [] is (All-nil (IsBeside place.movie)));
  own = concat-append units (other.bytes ∷ []) ∙ ap (λ x. concat units ++ x) (append-nil other.bytes) ∙ ap (λ lead. lead ++ other.bytes) told.own;
}
beside-told l h end place (Prompt lead t) units other is few told = absurd told
beside-told l h end place (Under held t under) units other is few told = record {
  some = told.some;
  small = with_other (length held.bytes) (length (bytes_of held.since)) (length other.bytes) (length (bytes_of (held.since ++ other ∷ []))) size_limit (one_more held.since other) few;
  counted = told.counted;
  carried = told.carried;
  lead = told.lead;
  unit = told.unit;
  own = told.own;
  timing = told.timing;
  read = told.read;
  sync = told.sync;
  ticks = told.ticks;
  before = told.before;
  since =
      All-append (λ (o : Other). IsBeside place.movie o.bytes) held.since (other ∷ []) told.since
      (All-cons (λ (o : Other). IsBeside place.movie o.bytes) other [] is (All-nil (λ (o : Other). IsBeside place.movie o.bytes)));
  opened = told.opened;
  whole =
      ap (λ since. told.carried ++ (told.lead ++ told.unit ∷ since)) (units-append held.since (other ∷ []))
      ∙ three told.carried told.lead (told.unit ∷ other_units held.since) (other.bytes ∷ []) ∙ ap (λ units. units ++ other.bytes ∷ []) told.whole;
}
  where
    with_other : (a b c d limit : ℕ) → d ≡ b + c → a + b + c ≤ limit → a + d ≤ limit
    with_other a b c d limit e f = omega (arith, e, f)
