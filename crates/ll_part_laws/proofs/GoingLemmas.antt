-- The part of a run that is under way, and how it is published.
use Rattle.std.proofs.Common.{◌≡◌, ℕ, ◌+◌, ◌-◌, ◌<◌, ◌≤◌, Bool, true, List, [], ◌∷◌, ◌++◌, length, refl, ap, sym, subst, ◌∙◌, max, append_assoc, append-nil, arith}
use Rattle.std.specs.List.{All}
use Rattle.ll_parts.specs.Pieces.{part_of, shift_of}
use Rattle.ll_runs.specs.Times.{duration_to, micros, size_limit}
use Rattle.ll_parts.specs.declared.heading.Heading.{Heading}
use Rattle.ll_runs.specs.declared.lengths.Lengths.{Lengths}
use Rattle.ll_parts.specs.declared.pieces.Piece.{Piece}
use Rattle.ll_parts.specs.declared.pieces.Piece.TheVariants.{Media}
use Rattle.ll_runs.specs.declared.times.Times.{Times}
use Rattle.ll_shift.specs.Moved.{moved}
use Rattle.ll_shift.specs.declared.shift.Shift.{Shift}
use Rattle.ll_part_laws.proofs.ComesLemmas.{Comes, comes-as, comes-one}
use Rattle.ll_part_laws.specs.Laws.{AreEarly, AreNext, AreOnTime, IsNext, IsCutFrom, IsFragment, IsOfRun, IsPart, Place, after_part, longest, so_far}
use Rattle.ll_part_laws.specs.Made.{Fragment, Made, Part, bytes_in, bytes_of, last_in, part_from, time_in, units, units_in}

-- ---- one more fragment of a list

pub time-more : (fs : List Fragment) (f : Fragment) → time_in (fs ++ f ∷ []) ≡ time_in fs + f.lasts
time-more [] f = omega arith
time-more (g ∷ fs) f = let e = time-more fs f in omega (arith, e)

pub bytes-more : (fs : List Fragment) (f : Fragment) → bytes_in (fs ++ f ∷ []) ≡ bytes_in fs ++ bytes_of f
bytes-more [] f = append-nil (bytes_of f)
bytes-more (g ∷ fs) f = ap (λ later. bytes_of g ++ later) (bytes-more fs f) ∙ sym (append_assoc (bytes_of g) (bytes_in fs) (bytes_of f))

pub units-more : (fs : List Fragment) (f : Fragment) → units_in (fs ++ f ∷ []) ≡ units_in fs ++ units f
units-more [] f = append-nil (units f)
units-more (g ∷ fs) f = ap (λ later. units g ++ later) (units-more fs f) ∙ sym (append_assoc (units g) (units_in fs) (units f))

pub last-more : (f : Fragment) (fs : List Fragment) (next : Fragment) → last_in f (fs ++ next ∷ []) ≡ next
last-more f [] next = refl
last-more f (g ∷ fs) next = last-more g fs next

pub next-more : (l : Lengths) (s : Shift) (f : Fragment) (fs : List Fragment) (next : Fragment) → AreNext l s f fs → IsNext l s (last_in f fs) next → AreNext l s f (fs ++ next ∷ [])
next-more l s f [] next are e = (e, tt)
next-more l s f (g ∷ fs) next (first, later) e = (first, next-more l s g fs next later e)

pub on-time-more : (s : Shift) (begin : ℕ) (fs : List Fragment) (f : Fragment) → AreOnTime s begin fs → begin + time_in fs ≡ micros s.scale (f.tick - s.base)
    → AreOnTime s begin (fs ++ f ∷ [])
on-time-more s begin [] f on e = (none begin ∙ e, tt)
  where
    none : (n : ℕ) → n ≡ n + 0
    none n = omega arith
on-time-more s begin (g ∷ fs) f (first, later) e = (first, on-time-more s (begin + g.lasts) fs f later (sum begin g.lasts (time_in fs) ∙ e))
  where
    sum : (a b c : ℕ) → a + b + c ≡ a + (b + c)
    sum a b c = omega arith

pub early-more : (l : Lengths) (segment part : ℕ) (fs : List Fragment) (f : Fragment) → AreEarly l segment part fs
    → (0 < part + time_in fs → f.sync ≡ true → segment + (part + time_in fs) < l.segment) → AreEarly l segment part (fs ++ f ∷ [])
early-more l segment part [] f are e = (subst (λ n. 0 < n → f.sync ≡ true → segment + n < l.segment) (none part) e, tt)
  where
    none : (n : ℕ) → n + 0 ≡ n
    none n = omega arith
early-more l segment part (g ∷ fs) f (first, later) e =
    (first, early-more l segment (part + g.lasts) fs f later (subst (λ n. 0 < n → f.sync ≡ true → segment + n < l.segment) (sum part g.lasts (time_in fs)) e))
  where
    sum : (a b c : ℕ) → a + (b + c) ≡ a + b + c
    sum a b c = omega arith

-- ---- the part under way

-- The part under way has these fragments and bytes, and lasts to microsecond `to` of the run.
pub record Going (l : Lengths) (h : Heading) (p : Place) (t : Times) (under : List ℕ) (first : Fragment) (more : List Fragment) (to : ℕ) : Type 0 where
  pub heading : h ≡ p.heading
  pub told : All (IsFragment p.movie) (first ∷ more)
  pub bytes : bytes_in (first ∷ more) ≡ under
  pub some : 0 < length under
  pub small : length under ≤ size_limit
  pub start : t.start ≡ p.run
  pub up_to : to ≡ p.run + time_in (first ∷ more)
  pub segment : t.segment + so_far p ≡ p.run
  pub end : t.end ≡ p.end
  pub sync : t.independent ≡ first.sync
  pub cut_from : IsCutFrom l p.segment p.before first
  pub fits : 0 < first.lasts → so_far p + time_in (first ∷ more) ≤ longest l
  pub nearly : so_far p + time_in (first ∷ more) ≤ longest l + l.part
  pub ticks : AreNext l (shift_of h.scale t) first more
  pub short : time_in (first ∷ more) ≤ l.part
  pub early : AreEarly l (so_far p) first.lasts more
  pub begins : so_far p + first.lasts ≤ longest l
  pub on_time : AreOnTime (shift_of h.scale t) p.run (first ∷ more)
  pub of_run : IsOfRun p.jump p.before t.origin (shift_of h.scale t) first

abbrev pub made : Heading → Times → Fragment → List Fragment → Bool → Made
made h t first more finishes = record { first = first; more = more; shift = shift_of h.scale t; scales = h.scales; origin = t.origin; finishes = finishes }

abbrev piece_of : Heading → Times → Bool → List ℕ → ℕ → Bool → Piece
piece_of h t finishes bytes duration independent = Media (record {
  bytes = moved (shift_of h.scale t) h.scales bytes;
  duration = duration;
  independent = independent;
  finishes = finishes;
})

-- the part as it is published
module _ (l : Lengths) (h : Heading) (p : Place) (t : Times) (under : List ℕ) (first : Fragment) (more : List Fragment) (to : ℕ) (g : Going l h p t under first more to) where
  pub lasts-to : duration_to t to ≡ max 1 (time_in (first ∷ more))
  lasts-to = from t.start p.run to (time_in (first ∷ more)) g.start g.up_to
    where
      from : (start run to time : ℕ) → start ≡ run → to ≡ run + time → max 1 (to - start) ≡ max 1 time
      from start run to time e f = omega (arith, e, f)

  part-same : (finishes : Bool) → part_of h t under (duration_to t to) finishes ≡ part_from (made h t first more finishes)
  part-same finishes =
      ap (λ bytes. piece_of h t finishes bytes (duration_to t to) t.independent) (sym g.bytes)
      ∙ ap (λ duration. piece_of h t finishes (bytes_in (first ∷ more)) duration t.independent) lasts-to
      ∙ ap (λ sync. piece_of h t finishes (bytes_in (first ∷ more)) (max 1 (time_in (first ∷ more))) sync) g.sync

  part-right : (finishes : Bool) → IsPart l p (made h t first more finishes)
  part-right finishes = record { told = g.told; scale = ap (λ (h : Heading). h.scale) g.heading; scales = ap (λ (h : Heading). h.scales) g.heading; small = subst (λ under. length under ≤ size_limit) (sym g.bytes) g.small; begins = g.begins; fits = g.fits; nearly = g.nearly; ticks = g.ticks; short = g.short; early = g.early; cut_from = g.cut_from; on_time = g.on_time; of_run = g.of_run; goes_on = g.end }

  pub part-comes : (finishes : Bool) → Comes l p (part_of h t under (duration_to t to) finishes ∷ []) (units_in (first ∷ more)) (after_part p (made h t first more finishes))
  part-comes finishes =
      comes-as l p (after_part p (made h t first more finishes)) (part_from (made h t first more finishes) ∷ []) (part_of h t under (duration_to t to) finishes ∷ [])
      (units_in (first ∷ more)) (units_in (first ∷ more)) (ap (λ piece. piece ∷ []) (sym (part-same finishes))) refl
      (comes-one l p (Part (made h t first more finishes)) (part-right finishes))
