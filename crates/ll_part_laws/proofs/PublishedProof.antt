-- The durations of published segments follow from those of their fragments.
use Rattle.std.proofs.Common.{◌≡◌, ℕ, ◌+◌, ◌<◌, ◌≤◌, ◌==◌, Bool, true, false, List, [], ◌∷◌, if◌then◌else◌, is_none, Option, Some, None, refl, ap, sym, subst, ◌∙◌, max, arith}
use borrow.Author.Tests.{eqb-true}
use Rattle.std.proofs.lemmas.Bool.{eqb-false}
use Rattle.ll_mp4.specs.Movies.{MovieValue}
use Rattle.ll_parts.specs.Joined.{heading_of}
use Rattle.ll_parts.specs.declared.heading.Heading.{Heading}
use Rattle.ll_runs.specs.declared.lengths.Lengths.{Lengths}
use Rattle.ll_parts.specs.declared.pieces.MediaPart.{MediaPart as Published}
use Rattle.ll_shift.specs.Moved.{moved}
use Rattle.ll_part_laws.proofs.MadeProof.{parts_are_made}
use Rattle.ll_part_laws.specs.Laws.{AreRight, IsCutFrom, IsPart, IsGap, IsOver, Jump, Place, after, after_part, at_end, at_first, is_between, longest, so_far}
use Rattle.ll_part_laws.specs.Made.{Made, Source, Movie, Part, Gap, Lost, bytes_in, fragments, pieces_from, time, time_in}
use Rattle.ll_part_laws.specs.Published.{AreFitting, IsBegun, IsFitting, IsLong, SegmentsFit, Sum, least_of, no_sum, with_part}

abbrev published_part : Made → Published
published_part m = record { bytes = moved m.shift m.scales (bytes_in (fragments m)); duration = max 1 (time m); independent = m.first.sync; finishes = m.finishes }

-- the sum is that of the place
record Tie (p : Place) (begins : Bool) (s : Sum) : Type 0 where
  run : is_none p.before ≡ begins
  ended : is_between p.before ≡ s.ended
  few : p.segment ≤ s.durations
  enough : s.durations ≤ p.segment + s.least

gap-between : (l : Lengths) (before : Option Made) (since : Option ℕ) (tick : ℕ) → IsGap l before since tick → is_between before ≡ true
gap-between l None since tick gap = absurd gap
gap-between l (Some m) since tick gap = gap.0

over-between : (jump : Option Jump) (before : Option Made) → IsOver jump before → is_between before ≡ true
over-between jump None over = refl
over-between jump (Some m) over = over.0

tie-first : (movie : Option MovieValue) (h : Heading) (jump : Option Jump) (end : ℕ) → Tie (at_end movie h jump end) true no_sum
tie-first movie h jump end = record { run = refl; ended = refl; few = omega arith; enough = omega arith }

-- a published part lasts as long as its fragments, or one microsecond
least-more : (time : ℕ) → max 1 time ≤ time + (if max 1 time == 1 then 1 else 0)
least-more time = by_test (max 1 time == 1) refl
  where
    by_test : (b : Bool) → (max 1 time == 1) ≡ b → max 1 time ≤ time + (if◌then◌else◌ {A = ℕ} b 1 0)
    by_test true e = let one = eqb-true (max 1 time) 1 e in omega (arith, one)
    by_test false e = let other = eqb-false (max 1 time) 1 e in omega (arith, other)

module _ (l : Lengths) (p : Place) (begins : Bool) (s : Sum) (m : Made) (tie : Tie p begins s) (is : IsPart l p m) where
  abbrev part : Published
  part = published_part m

  not-begins : p.before ≡ None → begins ≡ false → ⊥
  not-begins none e = true-false (sym (ap (λ (before : Option Made). is_none before) none) ∙ tie.run ∙ e)
    where
      true-false : true ≡ false → ⊥
      true-false f = absurd (cc)

  longer : (most segment lasts more durations : ℕ) → most < segment + lasts → segment ≤ durations → most < durations + max 1 (lasts + more)
  longer most segment lasts more durations e f = omega (arith, e, f)

  begun : IsBegun l begins s part
  begun e ended sync = by_before p.before refl is.cut_from
    where
      by_before : (before : Option Made) → p.before ≡ before → IsCutFrom l p.segment before m.first → l.most < s.durations + max 1 (time m)
      by_before None f cut = absurd (not-begins f e)
      by_before (Some q) f cut =
          longer l.most p.segment m.first.lasts (time_in m.more) s.durations (cut.forced (sym (ap is_between f) ∙ tie.ended ∙ ended) sync) tie.few

  long : IsLong l begins s part
  long e ended short = by_before p.before refl is.cut_from
    where
      less : (a b c : ℕ) → a ≤ b → b < c → a < c
      less a b c e f = omega (arith, e, f)

      by_before : (before : Option Made) → p.before ≡ before → IsCutFrom l p.segment before m.first → l.most < s.durations + max 1 (time m)
      by_before None f cut = absurd (not-begins f e)
      by_before (Some q) f cut =
          longer l.most p.segment m.first.lasts (time_in m.more) s.durations
          (cut.long (sym (ap is_between f) ∙ tie.ended ∙ ended) (less p.segment s.durations l.segment tie.few short)) tie.few

  -- the sum with the part
  abbrev segment_with : Bool → ℕ
  segment_with between = (if between then 0 else p.segment) + time m

  abbrev durations_with : Bool → ℕ
  durations_with ended = if ended then max 1 (time m) else s.durations + max 1 (time m)

  abbrev least_with : Bool → ℕ
  least_with ended = if ended then least_of part else s.least + least_of part

  sum-enough : (ended : Bool) → durations_with ended ≤ segment_with ended + least_with ended
  sum-enough true = from (max 1 (time m)) (time m) (least_of part) (least-more (time m))
    where
      from : (duration time least : ℕ) → duration ≤ time + least → duration ≤ 0 + time + least
      from duration time least e = omega (arith, e)
  sum-enough false = from s.durations p.segment s.least (max 1 (time m)) (time m) (least_of part) tie.enough (least-more (time m))
    where
      from : (a b c duration time least : ℕ) → a ≤ b + c → duration ≤ time + least → a + duration ≤ b + time + (c + least)
      from a b c duration time least e f = omega (arith, e, f)

  sum-few : (ended : Bool) → segment_with ended ≤ durations_with ended
  sum-few true = from (time m)
    where
      from : (time : ℕ) → 0 + time ≤ max 1 time
      from time = omega arith
  sum-few false = from p.segment s.durations (time m) tie.few
    where
      from : (a b time : ℕ) → a ≤ b → a + time ≤ b + max 1 time
      from a b time e = omega (arith, e)

  few-with : so_far p + time m ≤ durations_with s.ended
  few-with = subst (λ ended. segment_with ended ≤ durations_with s.ended) (sym tie.ended) (sum-few s.ended)

  enough-with : durations_with s.ended ≤ so_far p + time m + least_with s.ended
  enough-with = subst (λ ended. durations_with s.ended ≤ segment_with ended + least_with s.ended) (sym tie.ended) (sum-enough s.ended)

  fitting : IsFitting l (with_part s part)
  fitting = from (durations_with s.ended) (so_far p + time m) (least_with s.ended) (longest l + l.part) enough-with is.nearly
    where
      from : (a b c d : ℕ) → a ≤ b + c → b ≤ d → a ≤ d + c
      from a b c d e f = omega (arith, e, f)

  tie-with : Tie (after_part p m) false (with_part s part)
  tie-with = record { run = refl; ended = refl; few = few-with; enough = enough-with }

all-fitting : (l : Lengths) (p : Place) (begins : Bool) (s : Sum) (sources : List Source) → Tie p begins s → AreRight l p sources → AreFitting l begins s (pieces_from sources)
all-fitting l p begins s [] tie right = sym tie.ended ∙ over-between p.jump p.before right
all-fitting l p begins s (Movie section movie ∷ later) tie (is, right) = (
  sym tie.ended ∙ over-between p.jump p.before is.0,
  all-fitting l (at_end (Some movie) (heading_of section movie) None p.reached) true no_sum later (tie-first (Some movie) (heading_of section movie) None p.reached) right,
)
all-fitting l p begins s (Part m ∷ later) tie (is, right) = (
  begun l p begins s m tie is,
  long l p begins s m tie is,
  fitting l p begins s m tie is,
  all-fitting l (after_part p m) false (with_part s (published_part m)) later (tie-with l p begins s m tie is) right,
)
all-fitting l p begins s (Gap since tick section ∷ later) tie (is, right) =
    let q = after p (Gap since tick section) in
    (sym tie.ended ∙ gap-between l p.before since tick is.0, all-fitting l q true no_sum later (tie-first q.movie q.heading q.jump q.end) right)
all-fitting l p begins s (Lost units ∷ later) tie (is, right) = all-fitting l p begins s later tie right

pub segments_fit : SegmentsFit
segments_fit l end input waits =
    let made = parts_are_made l end input waits in
    subst (AreFitting l true no_sum) (sym made.1.pieces) (all-fitting l (at_first end) true no_sum made.0 (tie-first (at_first end).movie (at_first end).heading (at_first end).jump end) made.1.right)
