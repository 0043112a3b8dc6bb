-- The durations of parts.
use Rattle.std.specs.Prelude.{⊤}
use Rattle.std.proofs.Common.{◌≡◌, ℕ, drop, fold, not, take, Result, Ok, Err, ◌+◌, ◌-◌, ◌^◌, ◌<◌, ◌≤◌, ◌==◌, ◌≢◌, ◌&&◌, ◌||◌, Bool, true, false, List, [], ◌∷◌, ◌++◌, length, length-append, nat_lt, nat_le, if◌then◌else◌, Option, Some, None, refl, ap, sym, subst, ◌∙◌, min, max, arith}
use borrow.Author.Tests.{le-leb, leb-true, ltb-false}
use native.Mathlib.Nat.{zero-div}
use Rattle.std.proofs.lemmas.List.Elements.{All-append, All-cons, All-nil}
use Rattle.std.specs.List.{All}
use Rattle.ll_mp4.specs.Elements.{element_of}
use Rattle.ll_mp4.specs.DecodeTimes.{decode_time_of}
use Rattle.ll_mp4.specs.Movies.{MovieValue}
use Rattle.ll_mp4.specs.Numbers.{◌>>=◌}
use Rattle.ll_mp4.specs.Streams.{fed, told}
use Rattle.ll_mp4.specs.declared.element.Element.{Element}
use Rattle.ll_mp4.specs.declared.element.Element.TheVariants.{Movie, Fragment, Beside}
use Rattle.ll_mp4.specs.declared.fault.StreamFault.{StreamFault}
use Rattle.ll_mp4.specs.declared.fault.StreamFault.TheVariants.{TooLarge, TooLong}
use Rattle.ll_mp4.specs.declared.timing.DecodeTime.{DecodeTime}
use Rattle.ll_mp4.specs.declared.timing.Timing.{Timing}
use Rattle.ll_parts.specs.Joined.{Joining, Taken, begun, beside, first_time, first_times, followed, group_of, heard, held_of, on_stage, over, parting, refusal, refusal_beside, said_after, said_before, step_of, with_group, with_part}
use Rattle.ll_runs.specs.Refusals.{is_long, refusal_at, refusal_by, refusal_of}
use Rattle.ll_parts.specs.Laws.{IsShort, PartsFit}
use Rattle.ll_parts.specs.Others.{bytes_of}
use Rattle.ll_parts.specs.Pieces.{ending, part_of}
use Rattle.ll_parts.specs.Prompt.{finish, parted, said_between}
use Rattle.ll_runs.specs.Prompt.{ends_before, is_open, is_past, next_after, part_end, part_lasts, times_at}
use Rattle.ll_parts.specs.Stream.{Brought, Progress, Stream, advanced, advanced_by, advanced_from, all_pieces, begun_cutter, brought, brought_by, ended_by, unless, with_beside, with_element}
use Rattle.ll_runs.specs.Times.{at_tick, by_samples, cut_before, cut_by, duration_to, ends_run, goes_back, next_at, time_of, ends_segment, joined_to, last_micro, lasts, is_counted, may_end, micros, or_part, rendition_end, said_to, since_origin, size_limit, times_after, times_from}
use Rattle.ll_parts.specs.declared.heading.Heading.{Heading}
use Rattle.ll_parts.specs.declared.others.Other.{Other}
use Rattle.ll_parts.specs.declared.pieces.Piece.{Piece}
use Rattle.ll_parts.specs.declared.pieces.Piece.TheVariants.{Begin, Init, Finish, Break}
use Rattle.ll_parts.specs.declared.stage.Group.{Group}
use Rattle.ll_parts.specs.declared.stage.Held.{Held}
use Rattle.ll_parts.specs.declared.stage.Parting.{Parting}
use Rattle.ll_parts.specs.declared.stage.Stage.{Stage}
use Rattle.ll_parts.specs.declared.stage.Stage.TheVariants.{Silent, Under, Prompt}
use Rattle.ll_runs.specs.declared.lengths.Lengths.{Lengths}
use Rattle.ll_runs.specs.declared.times.Cut.{Cut}
use Rattle.ll_runs.specs.declared.times.Cut.TheVariants as cut
use Rattle.ll_runs.specs.declared.times.Next.{Next}
use Rattle.ll_runs.specs.declared.times.Next.TheVariants.{Over, Back, At}
use Rattle.ll_runs.specs.declared.times.Times.{Times}

-- ---- a fragment lasts no longer than a part

or-fits : (l : Lengths) (before : ℕ) → or_part l before ≤ l.part
or-fits l before = by_none (before == 0)
  where
    by_none : (b : Bool) → (if◌then◌else◌ {A = ℕ} b l.part (min before l.part)) ≤ l.part
    by_none true = omega arith
    by_none false = omega arith

pub lasts-fits : (l : Lengths) (scale : ℕ) (t : Times) (ticks said : ℕ) → lasts l scale t ticks said ≤ l.part
lasts-fits l scale t ticks said = by_said (nat_le said l.part) refl
  where
    by_said : (b : Bool) → nat_le said l.part ≡ b → (if◌then◌else◌ {A = ℕ} b said (min (or_part l t.before) (by_samples scale t ticks))) ≤ l.part
    by_said true e = leb-true said l.part e
    by_said false e = let few = or-fits l t.before in omega (arith, few)

-- ---- one that joins a part leaves it no longer than a part is allowed to be

pub or-right : (a b : Bool) → (a || b) ≡ false → b ≡ false
or-right false b e = e
or-right true b e = absurd (cc)

or-left : (a b : Bool) → (a || b) ≡ false → a ≡ false
or-left false b e = refl
or-left true b e = e

and-false : (a b : Bool) → (a && b) ≡ false → a ≡ true → b ≡ false
and-false true b e h = e
and-false false b e h = absurd (cc)

pub joins-fits : (l : Lengths) (t : Times) (size begin lasts : ℕ) (sync : Bool) (more : ℕ) → cut_before l t size begin lasts sync more ≡ cut.Joins
    → begin - t.start ≤ l.part → (size ≡ 0 → begin ≤ t.start) → lasts ≤ l.part → begin + lasts - t.start ≤ l.part
joins-fits l t size begin lasts sync more joins so_far empty few =
    by_end (may_end t size begin more) (ends_segment l (begin - t.segment) lasts sync) (nat_lt l.part (begin + lasts - t.start) || nat_lt size_limit (size + more)) refl refl joins
  where
    early : begin ≤ t.start → begin + lasts - t.start ≤ l.part
    early h = omega (arith, h, few)

    no_end : (b : Bool) → nat_lt 0 size ≡ b → (b && (nat_lt t.start begin || nat_lt size_limit (size + more))) ≡ false → begin ≤ t.start
    no_end false e h = empty (let none = ltb-false 0 size e in omega (arith, none))
    no_end true e h = ltb-false t.start begin (or-left (nat_lt t.start begin) (nat_lt size_limit (size + more)) h)

    by_end : (may segment part : Bool) → may_end t size begin more ≡ may → (nat_lt l.part (begin + lasts - t.start) || nat_lt size_limit (size + more)) ≡ part
        → cut_by may segment part ≡ cut.Joins → begin + lasts - t.start ≤ l.part
    by_end false segment part e f h = early (no_end (nat_lt 0 size) refl e)
    by_end true true part e f h = absurd (cc)
    by_end true false true e f h = absurd (cc)
    by_end true false false e f h = ltb-false l.part (begin + lasts - t.start) (or-left (nat_lt l.part (begin + lasts - t.start)) (nat_lt size_limit (size + more)) f)

-- ---- one step: before it and after it the part under way is no longer, and one without bytes begins with the fragment

abbrev pub Inside : Lengths → ℕ → Times → ℕ → Type 0
Inside l scale t size = (at_tick scale t t.position - t.start ≤ l.part) × (size ≡ 0 → at_tick scale t t.position ≤ t.start)

fresh-tick : (scale tick end origin : ℕ) → at_tick scale (times_from tick end origin) tick ≡ 0
fresh-tick scale tick end origin = let none : tick - tick ≡ 0 = omega arith in ap (micros scale) none ∙ zero-div scale

pub fresh-inside : (l : Lengths) (scale tick end origin size : ℕ) → Inside l scale (times_from tick end origin) size
fresh-inside l scale tick end origin size =
    let none = fresh-tick scale tick end origin in (omega (arith, none), λ e. omega (arith, none))

before-short : (l : Lengths) (h : Heading) (t : Times) (under : List ℕ) (begin : ℕ) (c : Cut) → begin - t.start ≤ l.part → All (IsShort l) (said_before h t under begin c)
before-short l h t under begin cut.Joins few = All-nil (IsShort l)
before-short l h t under begin cut.Part few = All-cons (IsShort l) (part_of h t under (duration_to t begin) false) [] (omega (arith, few)) (All-nil (IsShort l))
before-short l h t under begin cut.Segment few = All-cons (IsShort l) (part_of h t under (duration_to t begin) true) [] (omega (arith, few)) (All-nil (IsShort l))

ending-short : (l : Lengths) (h : Heading) (t : Times) (next : Next) → All (IsShort l) (ending h t next)
ending-short l h t Over = All-nil (IsShort l)
ending-short l h t (Back tick) = All-cons (IsShort l) (Break None) (Init h.section ∷ []) tt (All-cons (IsShort l) (Init h.section) [] tt (All-nil (IsShort l)))
ending-short l h t (At tick) =
    All-cons (IsShort l) (Break (Some (since_origin h.scale t tick))) (Init h.section ∷ []) tt (All-cons (IsShort l) (Init h.section) [] tt (All-nil (IsShort l)))

after-short : (l : Lengths) (h : Heading) (t : Times) (under : List ℕ) (end : ℕ) (ends : Bool) (next : Next) → end - t.start ≤ l.part
    → All (IsShort l) (said_after h t under end ends next)
after-short l h t under end false next few = All-nil (IsShort l)
after-short l h t under end true next few =
    All-cons (IsShort l) (part_of h t under (duration_to t end) true) (ending h t next) (omega (arith, few)) (ending-short l h t next)

base-same : (c : Cut) (t : Times) (size begin lasts : ℕ) (sync : Bool) → (joined_to c t size begin lasts sync).base ≡ t.base
base-same cut.Joins t size begin lasts sync = refl
base-same cut.Part t size begin lasts sync = refl
base-same cut.Segment t size begin lasts sync = refl

more-some : (xs ys : List ℕ) → 0 < length xs → 0 < length (xs ++ ys)
more-some xs ys some = let e = length-append xs ys in omega (arith, e, some)

after-some : (xs ys : List ℕ) → 0 < length ys → 0 < length (xs ++ ys)
after-some xs ys some = let e = length-append xs ys in omega (arith, e, some)

group-some : (c : Cut) (under bytes : List ℕ) → 0 < length bytes → 0 < length (with_group c under bytes)
group-some cut.Joins under bytes some = after-some under bytes some
group-some cut.Part under bytes some = some
group-some cut.Segment under bytes some = some

module _ (l : Lengths) (h : Heading) (t : Times) (under : List ℕ) (group : Group) (inside : Inside l h.scale t (length under)) where
  abbrev begin : ℕ
  begin = at_tick h.scale t t.position

  module _ (next : Next) where
    abbrev said : ℕ
    said = said_to h.scale t group.ticks next

    abbrev long : ℕ
    long = lasts l h.scale t group.ticks said

    abbrev end_cut : Cut
    end_cut = cut_before l t (length under) begin long group.sync (length group.bytes)

    abbrev times : Times
    times = joined_to end_cut t (length under) begin long group.sync

    few : long ≤ l.part
    few = lasts-fits l h.scale t group.ticks said

    end-by : (c : Cut) → end_cut ≡ c → begin + long - (joined_to c t (length under) begin long group.sync).start ≤ l.part
    end-by cut.Joins e = joins-fits l t (length under) begin long group.sync (length group.bytes) e inside.0 inside.1 few
    end-by cut.Part e = let f = few in omega (arith, f)
    end-by cut.Segment e = let f = few in omega (arith, f)

    end-fits : begin + long - times.start ≤ l.part
    end-fits = end-by end_cut refl

    pub step-short : All (IsShort l) (step_of l h t under group next).pieces
    step-short =
        let fits = end-fits in
        All-append (IsShort l) (said_before h t under begin end_cut) (said_after h times (with_group end_cut under group.bytes) (min (begin + long) (2 ^ 64 - 1)) (ends_run l said next) next)
        (before-short l h t under begin end_cut inside.0)
        (after-short l h times (with_group end_cut under group.bytes) (min (begin + long) (2 ^ 64 - 1)) (ends_run l said next) next (omega (arith, fits)))

  -- the next fragment is inside too
  at-inside : (tick : ℕ) (b : Bool) → nat_lt l.part (said (At tick)) ≡ b → 0 < length group.bytes
      → Inside l h.scale (times_after (times (At tick)) (min (begin + long (At tick)) (2 ^ 64 - 1)) b (At tick)) (length (if◌then◌else◌ {A = List ℕ} b [] (with_group (end_cut (At tick)) under group.bytes)))
  at-inside tick true e some = fresh-inside l h.scale tick (rendition_end (times (At tick)) (min (begin + long (At tick)) (2 ^ 64 - 1))) (times (At tick)).origin 0
  at-inside tick false e some =
      let fits = end-fits (At tick) in
      let whole : long (At tick) ≡ said (At tick) = ap (λ b. if◌then◌else◌ {A = ℕ} b (said (At tick)) (min (or_part l t.before) (by_samples h.scale t group.ticks))) (not-more (said (At tick)) e) in
      let base = base-same (end_cut (At tick)) t (length under) begin (long (At tick)) group.sync in
      let same : at_tick h.scale (record (times (At tick)) { position = tick }) tick ≡ at_tick h.scale t tick = ap (λ base. micros h.scale (tick - base)) base in
      let more = group-some (end_cut (At tick)) under group.bytes some in
      (omega (arith, fits, whole, same), λ none. absurd (omega (arith, none, more)))
    where
      not-more : (n : ℕ) → nat_lt l.part n ≡ false → nat_le n l.part ≡ true
      not-more n f = le-leb n l.part (ltb-false l.part n f)

  pub step-inside : (next : Next) → 0 < length group.bytes → next ≢ Over
      → Inside l h.scale (step_of l h t under group next).onward.times (length (step_of l h t under group next).onward.bytes)
  step-inside Over some not = absurd (not refl)
  step-inside (Back tick) some not = fresh-inside l h.scale tick (rendition_end (times (Back tick)) (min (begin + long (Back tick)) (2 ^ 64 - 1))) tick 0
  step-inside (At tick) some not = at-inside tick (nat_lt l.part (said (At tick))) refl some

-- ---- one more fragment

abbrev pub StageFits : Lengths → ℕ → Stage → Type 0
StageFits l scale (Silent lead) = ⊤
StageFits l scale (Under held t under) = (0 < length held.bytes) × Inside l scale t (length under)
StageFits l scale (Prompt lead t) = ⊤

-- the pieces are short, and so is the part under way
abbrev pub TakenFits : Lengths → Taken → Type 0
TakenFits l taken = (taken.after.lengths ≡ l) × All (IsShort l) taken.pieces × StageFits l taken.after.heading.scale taken.after.stage

by-not-over : (b : Bool) (time place : ℕ) → (if◌then◌else◌ {A = Next} b (Back time) (At place)) ≢ Over
by-not-over true time place e = absurd (cc)
by-not-over false time place e = absurd (cc)

not-over : (l : Lengths) (scale position time : ℕ) → next_at l scale position time ≢ Over
not-over l scale position time = by-not-over (goes_back l scale position time) time (max position time)

followed-fits : (j : Joining) (held : Held) (t : Times) (under bytes : List ℕ) (timing : Timing) (p : Parting) → 0 < length bytes → p.next ≢ Over
    → StageFits j.lengths j.heading.scale (Under held t under) → TakenFits j.lengths (followed j held t under bytes timing p)
followed-fits j held t under bytes timing p some not (full, inside) =
    let group = group_of held (take p.count held.since) in (
      refl,
      step-short j.lengths j.heading t under group inside p.next,
      (
        after-some (bytes_of (drop p.count held.since)) bytes some,
        step-inside j.lengths j.heading t under group inside p.next (more-some held.bytes (bytes_of (take p.count held.since)) full) not,
      ),
    )

-- ---- one that is a part

finish-short : (l : Lengths) (t : Times) → All (IsShort l) (finish t)
finish-short l t = by_open (is_open t)
  where
    by_open : (b : Bool) → All (IsShort l) (if◌then◌else◌ {A = List Piece} b (Finish ∷ []) [])
    by_open true = All-cons (IsShort l) Finish [] tt (All-nil (IsShort l))
    by_open false = All-nil (IsShort l)

between-short : (l : Lengths) (h : Heading) (t : Times) (next : Next) → All (IsShort l) (said_between h t next)
between-short l h t next = by_end (ends_before t next)
  where
    by_end : (b : Bool) → All (IsShort l) (if◌then◌else◌ {A = List Piece} b (finish t ++ ending h t next) [])
    by_end true = All-append (IsShort l) (finish t) (ending h t next) (finish-short l t) (ending-short l h t next)
    by_end false = All-nil (IsShort l)

pub not-long : (b : Bool) (other : Option StreamFault) → (if◌then◌else◌ {A = Option StreamFault} b (Some TooLong) other) ≡ None → b ≡ false
not-long true other e = absurd (cc)
not-long false other e = refl

with-part-fits : (j : Joining) (before : List Piece) (t : Times) (bytes : List ℕ) (timing : Timing) (size : ℕ) → All (IsShort j.lengths) before
    → refusal_at j.lengths j.heading.scale t timing.ticks size ≡ None → TakenFits j.lengths (with_part j before (parted j.lengths j.heading t bytes timing))
with-part-fits j before t bytes timing size short none =
    let part = parted j.lengths j.heading t bytes timing in
    let lasts = part_lasts j.heading.scale t timing.ticks in
    let uncounted = not (is_counted j.heading.scale (t.position + timing.ticks)) in
    let none_long = not-long (uncounted || is_past j.lengths t lasts) (if nat_lt size_limit size then Some TooLarge else None) none in
    let few = ltb-false j.lengths.part lasts (or-left (nat_lt j.lengths.part lasts) (nat_lt last_micro (part_end t lasts)) (or-right uncounted (is_past j.lengths t lasts) none_long)) in (
      refl,
      All-append (IsShort j.lengths) before (part.piece ∷ []) short (All-cons (IsShort j.lengths) part.piece [] (omega (arith, few)) (All-nil (IsShort j.lengths))),
      tt,
    )

heard-fits : (j : Joining) (stage : Stage) (bytes : List ℕ) (timing : Timing) → 0 < length bytes → refusal j stage (length bytes) timing ≡ None
    → StageFits j.lengths j.heading.scale stage → TakenFits j.lengths (heard j stage bytes timing)
unfolding refusal
heard-fits j (Silent lead) bytes timing some none fits = by_ahead j.lengths.ahead none
  where
    by_ahead : (b : Bool)
        → (
        if◌then◌else◌ {A = Option StreamFault} b
        (refusal_by (is_long j.lengths j.heading.scale true timing.ticks) (refusal_of j.heading.scale (first_time timing.time + timing.ticks) (length lead + length bytes)))
        (refusal_at j.lengths j.heading.scale (first_times j timing) timing.ticks (length lead + length bytes))
        )
        ≡ None
        → TakenFits j.lengths (
        if◌then◌else◌ {A = Taken} b (record { pieces = []; after = on_stage j (Under (held_of lead bytes timing) (first_times j timing) []) })
        (with_part j [] (parted j.lengths j.heading (first_times j timing) (lead ++ bytes) timing))
        )
    by_ahead true e =
        (refl, All-nil (IsShort j.lengths), (after-some lead bytes some, fresh-inside j.lengths j.heading.scale (first_time timing.time) j.end (first_time timing.time) 0))
    by_ahead false e = with-part-fits j [] (first_times j timing) (lead ++ bytes) timing (length lead + length bytes) (All-nil (IsShort j.lengths)) e
heard-fits j (Under held t under) bytes timing some none fits =
    followed-fits j held t under bytes timing (parting j.lengths j.heading.scale held t timing.time) some
    (not-over j.lengths j.heading.scale t.position (time_of t held.ticks timing.time)) fits
heard-fits j (Prompt lead t) bytes timing some none fits =
    let next = next_after j.lengths j.heading.scale t timing.time in
    with-part-fits j (said_between j.heading t next) (times_at t next) (lead ++ bytes) timing (length lead + length bytes)
    (between-short j.lengths j.heading t next) none

over-fits : (j : Joining) (stage : Stage) → StageFits j.lengths j.heading.scale stage → All (IsShort j.lengths) (over j stage)
over-fits j (Silent lead) fits = All-nil (IsShort j.lengths)
over-fits j (Under held t under) (full, inside) = step-short j.lengths j.heading t under (group_of held held.since) inside Over
over-fits j (Prompt lead t) fits = finish-short j.lengths t

begun-fits : (j : Joining) (section : List ℕ) (movie : MovieValue) → StageFits j.lengths j.heading.scale j.stage → TakenFits j.lengths (begun j section movie)
begun-fits j section movie fits = (
  refl,
  All-append (IsShort j.lengths) (over j j.stage) (Begin section ∷ []) (over-fits j j.stage fits)
      (All-cons (IsShort j.lengths) (Begin section) [] tt (All-nil (IsShort j.lengths))),
  tt,
)

beside-fits : (l : Lengths) (scale : ℕ) (stage : Stage) (other : Other) → StageFits l scale stage → StageFits l scale (beside stage other)
beside-fits l scale (Silent lead) other fits = tt
beside-fits l scale (Under held t under) other fits = fits
beside-fits l scale (Prompt lead t) other fits = tt

-- ---- one more unit

abbrev pub BroughtFits : Joining → Result Brought StreamFault → Type 0
BroughtFits j (Ok brought) = TakenFits j.lengths (record { pieces = brought.pieces; after = brought.after.joining })
BroughtFits j (Err fault) = ⊤

unless-fits : (j : Joining) (fault : Option StreamFault) (b : Brought) → (fault ≡ None → BroughtFits j (Ok b)) → BroughtFits j (unless fault b)
unless-fits j (Some fault) b fits = tt
unless-fits j None b fits = fits refl

with-beside-fits : (s : Stream) (unit : List ℕ) (decode_time : Option DecodeTime) → StageFits s.joining.lengths s.joining.heading.scale s.joining.stage
    → BroughtFits s.joining (with_beside s unit decode_time)
with-beside-fits s unit decode_time fits =
    let other : Other = record { bytes = unit; decode_time = decode_time } in
    unless-fits s.joining (refusal_beside s.joining.stage (length unit)) (record { pieces = []; after = record s { joining = on_stage s.joining (beside s.joining.stage other) } })
    (λ _. (refl, All-nil (IsShort s.joining.lengths), beside-fits s.joining.lengths s.joining.heading.scale s.joining.stage other fits))

element-fits : (s : Stream) (unit : List ℕ) (element : Result Element StreamFault) → 0 < length unit → StageFits s.joining.lengths s.joining.heading.scale s.joining.stage
    → BroughtFits s.joining (element >>= with_element s unit)
element-fits s unit (Err fault) some fits = tt
element-fits s unit (Ok (Movie movie)) some fits = begun-fits s.joining unit movie fits
element-fits s unit (Ok (Fragment timing)) some fits =
    unless-fits s.joining (refusal s.joining s.joining.stage (length unit) timing) (brought_by s.movie (heard s.joining s.joining.stage unit timing))
    (λ none. heard-fits s.joining s.joining.stage unit timing some none fits)
element-fits s unit (Ok (Beside decode_time)) some fits = with-beside-fits s unit decode_time fits

-- no bytes aren't a fragment
none-fits : (s : Stream) (movie : Option MovieValue) → StageFits s.joining.lengths s.joining.heading.scale s.joining.stage
    → BroughtFits s.joining (element_of movie [] >>= with_element s [])
none-fits s None fits = tt
none-fits s (Some movie) fits = with-beside-fits s [] (decode_time_of movie []) fits

brought-fits : (s : Stream) (unit : List ℕ) → StageFits s.joining.lengths s.joining.heading.scale s.joining.stage → BroughtFits s.joining (brought s unit)
brought-fits s [] fits = none-fits s s.movie fits
brought-fits s (byte ∷ unit) fits = element-fits s (byte ∷ unit) (element_of s.movie (byte ∷ unit)) (omega (arith)) fits

-- ---- all units

abbrev pub ProgressFits : Lengths → Progress → Type 0
ProgressFits l p = TakenFits l (record { pieces = p.pieces; after = p.stream.joining })

abbrev own : Progress → Lengths
own p = p.stream.joining.lengths

to-own : (l : Lengths) (p : Progress) → ProgressFits l p → ProgressFits (own p) p
to-own l p fits = subst (λ l. ProgressFits l p) (sym fits.0) fits

all-own : (p : Progress) → ProgressFits (own p) p → All (IsShort (own p)) (all_pieces p)
all-own p (same, short, fits) =
    All-append (IsShort (own p)) p.pieces (over p.stream.joining p.stream.joining.stage) short (over-fits p.stream.joining p.stream.joining.stage fits)

all-fits : (l : Lengths) (p : Progress) → ProgressFits l p → All (IsShort l) (all_pieces p)
all-fits l p fits = subst (λ l. All (IsShort l) (all_pieces p)) fits.0 (all-own p (to-own l p fits))

by-own : (p : Progress) (b : Result Brought StreamFault) → ProgressFits (own p) p → BroughtFits p.stream.joining b → ProgressFits (own p) (advanced_by p b)
by-own p (Err fault) fits brought = (refl, all-own p fits, tt)
by-own p (Ok b) (same, short, fits) (kept, brings, after) = (kept, All-append (IsShort (own p)) p.pieces b.pieces short brings, after)

from-fits : (l : Lengths) (p : Progress) (unit : List ℕ) (fault : Option StreamFault) → ProgressFits l p → ProgressFits l (advanced_from p unit fault)
from-fits l p unit (Some fault) fits = fits
from-fits l p unit None fits =
    let mine = to-own l p fits in
    subst (λ l. ProgressFits l (advanced_by p (brought p.stream unit))) fits.0 (by-own p (brought p.stream unit) mine (brought-fits p.stream unit mine.2))

fold-fits : (l : Lengths) (p : Progress) (units : List (List ℕ)) → ProgressFits l p → ProgressFits l (fold advanced p units)
fold-fits l p [] fits = fits
fold-fits l p (unit ∷ units) fits = fold-fits l (advanced p unit) units (from-fits l p unit p.fault fits)

ended-fits : (l : Lengths) (p : Progress) (fault end : Option StreamFault) → ProgressFits l p → All (IsShort l) (ended_by p fault end).pieces
ended-fits l p (Some fault) end fits = fits.1
ended-fits l p None end fits = all-fits l p fits

pub parts_fit : PartsFit
parts_fit l end input =
    let start = (begun_cutter l end).progress in
    let units = (told (fed (begun_cutter l end).left input)).units in
    let last = fold advanced start units in
    ended-fits l last last.fault (told (fed (begun_cutter l end).left input)).fault (fold-fits l start units (refl, All-nil (IsShort l), tt))
