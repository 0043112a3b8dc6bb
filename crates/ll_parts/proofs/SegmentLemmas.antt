-- The durations of segments, if each fragment is a part.
use Rattle.std.specs.Prelude.{⊤}
use Rattle.std.proofs.Common.{◌≡◌, ℕ, fold, Result, Ok, Err, ◌+◌, ◌-◌, ◌<◌, ◌≤◌, ◌≢◌, ◌||◌, Bool, true, false, List, [], ◌∷◌, ◌++◌, length, nat_lt, nat_le, not, if◌then◌else◌, Option, Some, None, refl, ap, sym, subst, ◌∙◌, arith}
use borrow.Author.Tests.{ltb-true, ltb-false, leb-true}
use Rattle.std.specs.Option.{unwrap_or}
use Rattle.ll_mp4.specs.Elements.{element_of}
use Rattle.ll_mp4.specs.Movies.{MovieValue}
use Rattle.ll_mp4.specs.Numbers.{◌>>=◌}
use Rattle.ll_mp4.specs.Streams.{fed, told}
use Rattle.ll_mp4.specs.declared.element.Element.{Element}
use Rattle.ll_mp4.specs.declared.element.Element.TheVariants.{Movie, Fragment, Beside}
use Rattle.ll_mp4.specs.declared.fault.StreamFault.{StreamFault}
use Rattle.ll_mp4.specs.declared.fault.StreamFault.TheVariants.{TooLarge}
use Rattle.ll_mp4.specs.declared.timing.DecodeTime.{DecodeTime}
use Rattle.ll_mp4.specs.declared.timing.Timing.{Timing}
use Rattle.ll_parts.proofs.PartLemmas.{not-long, or-right}
use Rattle.ll_parts.specs.Joined.{Joining, Taken, begun, beside, first_time, first_times, heard, held_of, on_stage, over, refusal, refusal_beside, with_part}
use Rattle.ll_runs.specs.Refusals.{is_long, refusal_at, refusal_by, refusal_of}
use Rattle.ll_parts.specs.Laws.{AreAllowed, IsAllowed, SegmentsFit, open_after}
use Rattle.ll_parts.specs.Pieces.{ending, part_of}
use Rattle.ll_parts.specs.Prompt.{Parted, finish, parted, said_between}
use Rattle.ll_runs.specs.Prompt.{comes_at, end_of_parts, finishes, is_open, is_past, leaves_gap, next_after, part_end, part_lasts, times_at}
use Rattle.ll_parts.specs.Stream.{Brought, Progress, Stream, advanced, advanced_by, advanced_from, all_pieces, begun_cutter, brought, brought_by, ended_by, unless, with_beside, with_element}
use Rattle.ll_runs.specs.Times.{goes_back, is_counted, last_micro, size_limit, times_from}
use Rattle.ll_parts.specs.declared.heading.Heading.{Heading}
use Rattle.ll_runs.specs.declared.lengths.Lengths.{Lengths}
use Rattle.ll_parts.specs.declared.others.Other.{Other}
use Rattle.ll_parts.specs.declared.pieces.Piece.{Piece}
use Rattle.ll_parts.specs.declared.pieces.Piece.TheVariants.{Begin, Init, Finish}
use Rattle.ll_parts.specs.declared.stage.Stage.{Stage}
use Rattle.ll_parts.specs.declared.stage.Stage.TheVariants.{Silent, Under, Prompt}
use Rattle.ll_runs.specs.declared.times.Next.{Next}
use Rattle.ll_runs.specs.declared.times.Next.TheVariants.{Over, Back, At}
use Rattle.ll_runs.specs.declared.times.Times.{Times}

-- ---- pieces after which a segment can be open

-- from a segment of one duration to one of another
abbrev Goes : ℕ → ℕ → List Piece → ℕ → Type 0
Goes most n [] m = n ≡ m
Goes most n (piece ∷ pieces) m = IsAllowed most n piece × Goes most (open_after n piece) pieces m

goes-on : (most n : ℕ) (xs ys : List Piece) (m k : ℕ) → Goes most n xs m → Goes most m ys k → Goes most n (xs ++ ys) k
goes-on most n [] ys m k a b = subst (λ n. Goes most n ys k) (sym a) b
goes-on most n (x ∷ xs) ys m k (step, rest) b = (step, goes-on most (open_after n x) xs ys m k rest b)

all-go : (most n : ℕ) (xs : List Piece) → Goes most n xs 0 → AreAllowed most n xs
all-go most n [] a = a
all-go most n (x ∷ xs) (step, rest) = (step, all-go most (open_after n x) xs rest)

-- ---- stages

-- the open segment lasts n microseconds, and one more part fits into it
abbrev IsOpen : Lengths → ℕ → Stage → Type 0
IsOpen l n (Silent lead) = n ≡ 0
IsOpen l n (Under held t under) = ⊥
IsOpen l n (Prompt lead t) = (t.start ≡ t.segment + n) × (n + l.part ≤ l.most)

finish-goes : (l : Lengths) (n : ℕ) (t : Times) → t.start ≡ t.segment + n → Goes l.most n (finish t) 0
finish-goes l n t e = by_open (is_open t) refl
  where
    by_open : (b : Bool) → is_open t ≡ b → Goes l.most n (if◌then◌else◌ {A = List Piece} b (Finish ∷ []) []) 0
    by_open true f = (let some = ltb-true t.segment t.start f in omega (arith, some, e), refl)
    by_open false f = let none = ltb-false t.segment t.start f in omega (arith, none, e)

ending-goes : (most : ℕ) (h : Heading) (t : Times) (next : Next) → Goes most 0 (ending h t next) 0
ending-goes most h t Over = refl
ending-goes most h t (Back tick) = (refl, (refl, refl))
ending-goes most h t (At tick) = (refl, (refl, refl))

-- the pieces before a fragment, and what is open after them
abbrev Between : Lengths → ℕ → Heading → Times → Next → Type 0
Between l n h t next = (m : ℕ) × Goes l.most n (said_between h t next) m × ((times_at t next).start ≡ (times_at t next).segment + m) × (m + l.part ≤ l.most)

module _ (l : Lengths) (n : ℕ) (h : Heading) (t : Times) (few : l.part ≤ l.most) (e : t.start ≡ t.segment + n) (fits : n + l.part ≤ l.most) where
  ends : (next : Next) → Goes l.most n (finish t ++ ending h t next) 0
  ends next = goes-on l.most n (finish t) (ending h t next) 0 0 (finish-goes l n t e) (ending-goes l.most h t next)

  at-tick : (tick : ℕ) (b : Bool) → (m : ℕ)
      × Goes l.most n (if◌then◌else◌ {A = List Piece} b (finish t ++ ending h t (At tick)) []) m
      × ((if◌then◌else◌ {A = Times} b (times_from tick (end_of_parts t) t.origin) t).start ≡ (if◌then◌else◌ {A = Times} b (times_from tick (end_of_parts t) t.origin) t).segment + m)
      × (m + l.part ≤ l.most)
  at-tick tick true = (0, ends (At tick), refl, omega (arith, few))
  at-tick tick false = (n, refl, e, fits)

  between-goes : (place scale time : ℕ) → Between l n h t (comes_at l scale place time)
  between-goes place scale time = by_back (goes_back l scale place time)
    where
      by_back : (b : Bool) → Between l n h t (if◌then◌else◌ {A = Next} b (Back time) (At (if leaves_gap l scale place time then time else place)))
      by_back true = (0, ends (Back time), refl, omega (arith, few))
      by_back false = at-tick (if leaves_gap l scale place time then time else place) (nat_lt t.position (if leaves_gap l scale place time then time else place))

-- ---- a part

or-none : (a b : Bool) → (a || b) ≡ false → (a ≡ false) × (b ≡ false)
or-none false b e = (refl, e)
or-none true b e = absurd (cc)

-- the pieces of a fragment, and what is open after them
abbrev TakenGoes : Lengths → ℕ → Taken → Type 0
TakenGoes l n taken = (m : ℕ) × (taken.after.lengths ≡ l) × Goes l.most n taken.pieces m × IsOpen l m taken.after.stage

module _ (j : Joining) (t : Times) (bytes : List ℕ) (timing : Timing) where
  abbrev lasts : ℕ
  lasts = part_lasts j.heading.scale t timing.ticks

  abbrev piece : Bool → Piece
  piece b = part_of j.heading (record t { independent = timing.sync }) bytes lasts b

  -- whether the part finishes its segment or not
  abbrev parted_if : Bool → Parted
  parted_if b = record {
    piece = piece b;
    times = record t { independent = timing.sync; position = t.position + timing.ticks; start = part_end t lasts; segment = if b then part_end t lasts else t.segment };
  }

  by-full : (n m : ℕ) (before : List Piece) (b : Bool) → finishes j.lengths t lasts ≡ b → lasts ≤ j.lengths.part → j.lengths.part ≤ j.lengths.most
      → Goes j.lengths.most n before m → t.start ≡ t.segment + m → m + j.lengths.part ≤ j.lengths.most
      → TakenGoes j.lengths n (with_part j before (parted_if b))
  by-full n m before true f short few goes e fits =
      (0, refl, goes-on j.lengths.most n before (piece true ∷ []) m 0 goes (omega (arith, short, fits), refl), (omega arith, omega (arith, few)))
  by-full n m before false f short few goes e fits =
      let far = part_end t lasts - t.segment in
      let last = ltb-false j.lengths.most (far + j.lengths.part) (or-none (nat_le j.lengths.segment far) (nat_lt j.lengths.most (far + j.lengths.part)) f).1 in (
        m + lasts,
        refl,
        goes-on j.lengths.most n before (piece false ∷ []) m (m + lasts) goes (omega (arith, short, fits), refl),
        (omega (arith, e), omega (arith, e, last)),
      )

  part-goes : (n m size : ℕ) (before : List Piece) → j.lengths.part ≤ j.lengths.most → Goes j.lengths.most n before m → t.start ≡ t.segment + m
      → m + j.lengths.part ≤ j.lengths.most → refusal_at j.lengths j.heading.scale t timing.ticks size ≡ None
      → TakenGoes j.lengths n (with_part j before (parted j.lengths j.heading t bytes timing))
  part-goes n m size before few goes e fits none =
      let uncounted = not (is_counted j.heading.scale (t.position + timing.ticks)) in
      let none_long = not-long (uncounted || is_past j.lengths t lasts) (if nat_lt size_limit size then Some TooLarge else None) none in
      let past = or-right uncounted (is_past j.lengths t lasts) none_long in
      let short = ltb-false j.lengths.part lasts (or-none (nat_lt j.lengths.part lasts) (nat_lt last_micro (part_end t lasts)) past).0 in
      by-full n m before (finishes j.lengths t lasts) refl short few goes e fits

-- ---- one more fragment

abbrev IsPrompt : Lengths → Type 0
IsPrompt l = (l.ahead ≡ false) × (l.part ≤ l.most)

heard-goes : (j : Joining) (n : ℕ) (stage : Stage) (bytes : List ℕ) (timing : Timing) → IsPrompt j.lengths → refusal j stage (length bytes) timing ≡ None
    → IsOpen j.lengths n stage → TakenGoes j.lengths n (heard j stage bytes timing)
unfolding refusal
heard-goes j n (Silent lead) bytes timing (ahead, few) none opened = by_ahead j.lengths.ahead ahead none
  where
    by_ahead : (b : Bool) → b ≡ false
        → (
        if◌then◌else◌ {A = Option StreamFault} b
        (refusal_by (is_long j.lengths j.heading.scale true timing.ticks) (refusal_of j.heading.scale (first_time timing.time + timing.ticks) (length lead + length bytes)))
        (refusal_at j.lengths j.heading.scale (first_times j timing) timing.ticks (length lead + length bytes))
        )
        ≡ None
        → TakenGoes j.lengths n (
        if◌then◌else◌ {A = Taken} b (record { pieces = []; after = on_stage j (Under (held_of lead bytes timing) (first_times j timing) []) })
        (with_part j [] (parted j.lengths j.heading (first_times j timing) (lead ++ bytes) timing))
        )
    by_ahead true f e = absurd (cc)
    by_ahead false f e = part-goes j (first_times j timing) (lead ++ bytes) timing n 0 (length lead + length bytes) [] few opened refl (omega (arith, few)) e
heard-goes j n (Under held t under) bytes timing prompt none opened = absurd opened
heard-goes j n (Prompt lead t) bytes timing (ahead, few) none (e, fits) =
    let next = next_after j.lengths j.heading.scale t timing.time in
    let b : Between j.lengths n j.heading t next = between-goes j.lengths n j.heading t few e fits t.position j.heading.scale (unwrap_or timing.time t.position) in
    part-goes j (times_at t next) (lead ++ bytes) timing n b.0 (length lead + length bytes) (said_between j.heading t next) few b.1 b.2 b.3 none

over-goes : (j : Joining) (n : ℕ) (stage : Stage) → IsOpen j.lengths n stage → Goes j.lengths.most n (over j stage) 0
over-goes j n (Silent lead) opened = opened
over-goes j n (Under held t under) opened = absurd opened
over-goes j n (Prompt lead t) (e, fits) = finish-goes j.lengths n t e

begun-goes : (j : Joining) (n : ℕ) (section : List ℕ) (movie : MovieValue) → IsOpen j.lengths n j.stage → TakenGoes j.lengths n (begun j section movie)
begun-goes j n section movie opened =
    (0, refl, goes-on j.lengths.most n (over j j.stage) (Begin section ∷ []) 0 0 (over-goes j n j.stage opened) (refl, refl), refl)

beside-opened : (l : Lengths) (n : ℕ) (stage : Stage) (other : Other) → IsOpen l n stage → IsOpen l n (beside stage other)
beside-opened l n (Silent lead) other opened = opened
beside-opened l n (Under held t under) other opened = opened
beside-opened l n (Prompt lead t) other opened = opened

-- ---- one more unit

abbrev BroughtGoes : Joining → ℕ → Result Brought StreamFault → Type 0
BroughtGoes j n (Ok brought) = TakenGoes j.lengths n (record { pieces = brought.pieces; after = brought.after.joining })
BroughtGoes j n (Err fault) = ⊤

unless-goes : (j : Joining) (n : ℕ) (fault : Option StreamFault) (b : Brought) → (fault ≡ None → BroughtGoes j n (Ok b)) → BroughtGoes j n (unless fault b)
unless-goes j n (Some fault) b goes = tt
unless-goes j n None b goes = goes refl

beside-goes : (s : Stream) (n : ℕ) (unit : List ℕ) (decode_time : Option DecodeTime) → IsOpen s.joining.lengths n s.joining.stage
    → BroughtGoes s.joining n (with_beside s unit decode_time)
beside-goes s n unit decode_time opened =
    let other : Other = record { bytes = unit; decode_time = decode_time } in
    unless-goes s.joining n (refusal_beside s.joining.stage (length unit))
    (record { pieces = []; after = record s { joining = on_stage s.joining (beside s.joining.stage other) } })
    (λ _. (n, refl, refl, beside-opened s.joining.lengths n s.joining.stage other opened))

element-goes : (s : Stream) (n : ℕ) (unit : List ℕ) (element : Result Element StreamFault) → IsPrompt s.joining.lengths → IsOpen s.joining.lengths n s.joining.stage
    → BroughtGoes s.joining n (element >>= with_element s unit)
element-goes s n unit (Err fault) prompt opened = tt
element-goes s n unit (Ok (Movie movie)) prompt opened = begun-goes s.joining n unit movie opened
element-goes s n unit (Ok (Fragment timing)) prompt opened =
    unless-goes s.joining n (refusal s.joining s.joining.stage (length unit) timing) (brought_by s.movie (heard s.joining s.joining.stage unit timing))
    (λ none. heard-goes s.joining n s.joining.stage unit timing prompt none opened)
element-goes s n unit (Ok (Beside decode_time)) prompt opened = beside-goes s n unit decode_time opened

-- ---- all units

abbrev ProgressGoes : Lengths → Progress → Type 0
ProgressGoes l p = TakenGoes l 0 (record { pieces = p.pieces; after = p.stream.joining })

abbrev own : Progress → Lengths
own p = p.stream.joining.lengths

to-own : (l : Lengths) (p : Progress) → ProgressGoes l p → ProgressGoes (own p) p
to-own l p goes = subst (λ l. ProgressGoes l p) (sym goes.1) goes

all-own : (p : Progress) → ProgressGoes (own p) p → Goes (own p).most 0 (all_pieces p) 0
all-own p (n, same, goes, opened) =
    goes-on (own p).most 0 p.pieces (over p.stream.joining p.stream.joining.stage) n 0 goes (over-goes p.stream.joining n p.stream.joining.stage opened)

all-goes : (l : Lengths) (p : Progress) → ProgressGoes l p → Goes l.most 0 (all_pieces p) 0
all-goes l p goes = subst (λ l. Goes l.most 0 (all_pieces p) 0) goes.1 (all-own p (to-own l p goes))

-- after a fault nothing is open
abbrev Whole : Lengths → List Piece → Option StreamFault → Type 0
Whole l pieces None = ⊤
Whole l pieces (Some fault) = Goes l.most 0 pieces 0

abbrev Stands : Lengths → Progress → Type 0
Stands l p = ProgressGoes l p × Whole l p.pieces p.fault

by-own : (p : Progress) (b : Result Brought StreamFault) → ProgressGoes (own p) p → ((n : ℕ) → IsOpen (own p) n p.stream.joining.stage → BroughtGoes p.stream.joining n b)
    → Stands (own p) (advanced_by p b)
by-own p (Err fault) goes brought = let all = all-own p goes in ((0, refl, all, refl), all)
by-own p (Ok b) (n, same, goes, opened) brought =
    let more = brought n opened in ((more.0, more.1, goes-on (own p).most 0 p.pieces b.pieces n more.0 goes more.2, more.3), tt)

from-stands : (l : Lengths) (p : Progress) (unit : List ℕ) (fault : Option StreamFault) → IsPrompt l → Stands l p → Stands l (advanced_from p unit fault)
from-stands l p unit (Some fault) prompt stands = stands
from-stands l p unit None prompt (goes, whole) =
    let mine = to-own l p goes in
    let still : IsPrompt (own p) = subst IsPrompt (sym goes.1) prompt in
    subst (λ l. Stands l (advanced_by p (brought p.stream unit))) goes.1
    (by-own p (brought p.stream unit) mine (λ n opened. element-goes p.stream n unit (element_of p.stream.movie unit) still opened))

fold-stands : (l : Lengths) (p : Progress) (units : List (List ℕ)) → IsPrompt l → Stands l p → Stands l (fold advanced p units)
fold-stands l p [] prompt stands = stands
fold-stands l p (unit ∷ units) prompt stands = fold-stands l (advanced p unit) units prompt (from-stands l p unit p.fault prompt stands)

ended-goes : (l : Lengths) (p : Progress) (fault end : Option StreamFault) → ProgressGoes l p → Whole l p.pieces fault → AreAllowed l.most 0 (ended_by p fault end).pieces
ended-goes l p (Some fault) end goes whole = all-go l.most 0 p.pieces whole
ended-goes l p None end goes whole = all-go l.most 0 (all_pieces p) (all-goes l p goes)

pub segments_fit : SegmentsFit
segments_fit l end input ahead few =
    let start = (begun_cutter l end).progress in
    let units = (told (fed (begun_cutter l end).left input)).units in
    let last = fold advanced start units in
    let stands = fold-stands l start units (ahead, few) ((0, refl, refl, refl), tt) in
    ended-goes l last last.fault (told (fed (begun_cutter l end).left input)).fault stands.0 stands.1
