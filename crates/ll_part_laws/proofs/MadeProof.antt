-- The sources of all pieces of a stream.
use Rattle.std.specs.Prelude.{⊤}
use Rattle.std.proofs.Common.{◌≡◌, ℕ, ◌<◌, true, List, [], ◌∷◌, ◌++◌, length, fold, is_some, Option, Some, None, Result, Ok, Err, refl, ap, sym, subst, ◌∙◌, append_assoc, arith, ◌⊎◌, inl, inr}
use Rattle.std.proofs.lemmas.List.Elements.{All-nil}
use Rattle.ll_mp4.specs.Elements.{element_of}
use Rattle.ll_mp4.specs.DecodeTimes.{decode_time_of}
use Rattle.ll_mp4.specs.Movies.{MovieValue}
use Rattle.ll_mp4.specs.Numbers.{◌>>=◌}
use Rattle.ll_mp4.specs.Streams.{Told as ToldUnits, fed, told}
use Rattle.ll_mp4.specs.declared.element.Element.{Element}
use Rattle.ll_mp4.specs.declared.element.Element.TheVariants.{Movie, Fragment, Beside}
use Rattle.ll_mp4.specs.declared.fault.StreamFault.{StreamFault}
use Rattle.ll_mp4.specs.declared.timing.DecodeTime.{DecodeTime}
use Rattle.ll_mp4.specs.declared.timing.Timing.{Timing}
use Rattle.ll_parts.specs.Joined.{beside, end_of, heard, on_stage, over, refusal, refusal_beside}
use Rattle.ll_parts.specs.Stream.{Brought, Progress, Stream, advanced, advanced_by, advanced_from, all_pieces, begun_cutter, brought, brought_by, ended_by, unless, with_beside, with_element}
use Rattle.ll_runs.specs.declared.lengths.Lengths.{Lengths}
use Rattle.ll_parts.specs.declared.others.Other.{Other}
use Rattle.ll_parts.specs.declared.pieces.Piece.{Piece}
use Rattle.ll_part_laws.proofs.ComesLemmas.{Comes, comes-append, comes-as, comes-none, right-all}
use Rattle.ll_part_laws.proofs.StageLemmas.{StageTold, TakenTold, begun-told, beside-small, beside-told, heard-told, stage-over}
use Rattle.ll_part_laws.proofs.StepLemmas.{OverTold}
use Rattle.ll_part_laws.specs.Laws.{AreSources, IsBeside, IsOver, PartsAreMade, Place, at_first}

-- ---- one more unit

abbrev BroughtTold : Lengths → Place → List (List ℕ) → Result Brought StreamFault → Type 0
BroughtTold l p units (Ok b) = TakenTold l p b.after.movie units (record { pieces = b.pieces; after = b.after.joining })
BroughtTold l p units (Err fault) = ⊤

-- a stream is at this place, with units that aren't in a source yet
pub record Stands (s : Stream) (p : Place) (units : List (List ℕ)) : Type 0 where
  pub movie : p.movie ≡ s.movie
  pub stage : StageTold s.joining.lengths s.joining.heading s.joining.end p s.joining.stage units
  pub waits : s.joining.lengths.ahead ≡ true

unless-told : (l : Lengths) (p : Place) (units : List (List ℕ)) (fault : Option StreamFault) (b : Brought) → (fault ≡ None → BroughtTold l p units (Ok b)) → BroughtTold l p units (unless fault b)
unless-told l p units (Some fault) b told = tt
unless-told l p units None b told = told refl

module _ (s : Stream) (p : Place) (units : List (List ℕ)) (stands : Stands s p units) where
  abbrev BroughtWith : List ℕ → Result Brought StreamFault → Type 0
  BroughtWith unit b = BroughtTold s.joining.lengths p (units ++ unit ∷ []) b

  as-known : (unit : List ℕ) (r : Result Element StreamFault) → element_of s.movie unit ≡ r → element_of p.movie unit ≡ r
  as-known unit r e = ap (λ movie. element_of movie unit) stands.movie ∙ e

  with-beside-told : (unit : List ℕ) (decode_time : Option DecodeTime) → element_of s.movie unit ≡ Ok (Beside decode_time) → BroughtWith unit (with_beside s unit decode_time)
  with-beside-told unit decode_time e =
      let other : Other = record { bytes = unit; decode_time = decode_time } in
      unless-told s.joining.lengths p (units ++ unit ∷ []) (refusal_beside s.joining.stage (length unit))
      (record { pieces = []; after = record s { joining = on_stage s.joining (beside s.joining.stage other) } })
      (λ fine. record {
        same = refl;
        place = p;
        movie_is = stands.movie;
        said = [];
        later = units ++ unit ∷ [];
        comes = comes-none s.joining.lengths p;
        stage = beside-told s.joining.lengths s.joining.heading s.joining.end p s.joining.stage units other (decode_time, as-known unit (Ok (Beside decode_time)) e)
            (beside-small s.joining.stage (length unit) fine) stands.stage;
        whole = refl;
      })

  fragment-told : (unit : List ℕ) (timing : Timing) → 0 < length unit → element_of s.movie unit ≡ Ok (Fragment timing) → BroughtWith unit (with_element s unit (Fragment timing))
  fragment-told unit timing some e =
      unless-told s.joining.lengths p (units ++ unit ∷ []) (refusal s.joining s.joining.stage (length unit) timing) (brought_by s.movie (heard s.joining s.joining.stage unit timing))
      (λ fine.
      subst (λ movie. TakenTold s.joining.lengths p movie (units ++ unit ∷ []) (heard s.joining s.joining.stage unit timing)) stands.movie
      (heard-told s.joining p s.joining.stage units unit timing stands.waits some stands.stage fine (as-known unit (Ok (Fragment timing)) e)))

  element-told : (unit : List ℕ) (element : Result Element StreamFault) → 0 < length unit → element_of s.movie unit ≡ element → BroughtWith unit (element >>= with_element s unit)
  element-told unit (Err fault) some e = tt
  element-told unit (Ok (Movie movie)) some e =
      begun-told s.joining p units unit movie stands.stage (λ q same. ap (λ movie. element_of movie unit) (same ∙ stands.movie) ∙ e)
  element-told unit (Ok (Fragment timing)) some e = fragment-told unit timing some e
  element-told unit (Ok (Beside decode_time)) some e = with-beside-told unit decode_time e

  -- no bytes aren't a fragment
  none-told : (movie : Option MovieValue) → s.movie ≡ movie → BroughtWith [] (element_of movie [] >>= with_element s [])
  none-told None e = tt
  none-told (Some movie) e = with-beside-told [] (decode_time_of movie []) (ap (λ movie. element_of movie []) e)

  brought-told : (unit : List ℕ) → BroughtWith unit (brought s unit)
  brought-told [] = none-told s.movie refl
  brought-told (byte ∷ unit) = element-told (byte ∷ unit) (element_of s.movie (byte ∷ unit)) (omega (arith)) refl

-- ---- all units

-- pieces up to a place at which nothing is under way
record Done (l : Lengths) (start : Place) (units : List (List ℕ)) (pieces : List Piece) : Type 0 where
  place : Place
  comes : Comes l start pieces units place
  between : IsOver place.jump place.before

abbrev Live : Lengths → Place → List (List ℕ) → Progress → Type 0
Live l start units p = TakenTold l start p.stream.movie units (record { pieces = p.pieces; after = p.stream.joining })

abbrev ToldBy : Lengths → Place → List (List ℕ) → Progress → Option StreamFault → Type 0
ToldBy l start units p None = Live l start units p
ToldBy l start units p (Some fault) = Done l start units p.pieces

abbrev Told : Lengths → Place → List (List ℕ) → Progress → Type 0
Told l start units p = ToldBy l start units p p.fault

abbrev own : Progress → Lengths
own p = p.stream.joining.lengths

to-own : (l : Lengths) (start : Place) (units : List (List ℕ)) (p : Progress) → Live l start units p → Live (own p) start units p
to-own l start units p live = subst (λ l. Live l start units p) (sym live.same) live

own-done : (start : Place) (units : List (List ℕ)) (p : Progress) → Live (own p) start units p → Done (own p) start units (all_pieces p)
own-done start units p live = by_over (stage-over p.stream.joining live.place p.stream.joining.stage live.later live.stage)
  where
    by_over : OverTold (own p) live.place (over p.stream.joining p.stream.joining.stage) live.later (end_of p.stream.joining p.stream.joining.stage) → Done (own p) start units (all_pieces p)
    by_over o = record {
      place = o.place;
      comes =
          comes-as (own p) start o.place (all_pieces p) (all_pieces p) (live.said ++ live.later) units refl live.whole
          (comes-append (own p) start live.place o.place p.pieces (over p.stream.joining p.stream.joining.stage) live.said live.later live.comes o.comes);
      between = o.between;
    }

all-done : (l : Lengths) (start : Place) (units : List (List ℕ)) (p : Progress) → Live l start units p → Done l start units (all_pieces p)
all-done l start units p live = subst (λ l. Done l start units (all_pieces p)) live.same (own-done start units p (to-own l start units p live))

-- the sources with a unit that is accepted, or before one that is refused
abbrev OneTold : Lengths → Place → List (List ℕ) → List ℕ → Progress → Type 0
OneTold l start units unit q = Told l start (units ++ unit ∷ []) q ⊎ ((is_some q.fault ≡ true) × Told l start units q)

by-own : (start : Place) (units : List (List ℕ)) (unit : List ℕ) (p : Progress) (b : Result Brought StreamFault) (live : Live (own p) start units p)
    → BroughtTold (own p) live.place (live.later ++ unit ∷ []) b → OneTold (own p) start units unit (advanced_by p b)
by-own start units unit p (Err fault) live told = inr (refl, own-done start units p live)
by-own start units unit p (Ok b) live told = inl (record {
  same = told.same;
  place = told.place;
  movie_is = told.movie_is;
  said = live.said ++ told.said;
  later = told.later;
  comes = comes-append (own p) start live.place told.place p.pieces b.pieces live.said told.said live.comes told.comes;
  stage = told.stage;
  whole =
      append_assoc live.said told.said told.later ∙ ap (λ x. live.said ++ x) told.whole
      ∙ sym (append_assoc live.said live.later (unit ∷ [])) ∙ ap (λ x. x ++ unit ∷ []) live.whole;
})

from-told : (l : Lengths) (waits : l.ahead ≡ true) (start : Place) (units : List (List ℕ)) (unit : List ℕ) (p : Progress) (fault : Option StreamFault) → p.fault ≡ fault → ToldBy l start units p fault
    → OneTold l start units unit (advanced_from p unit fault)
from-told l waits start units unit p (Some fault) e done = inr (ap is_some e, subst (λ fault. ToldBy l start units p fault) (sym e) done)
from-told l waits start units unit p None e live =
    let mine = to-own l start units p live in
    subst (λ l. OneTold l start units unit (advanced_by p (brought p.stream unit))) live.same
    (by-own start units unit p (brought p.stream unit) mine (brought-told p.stream mine.place mine.later (record { movie = mine.movie_is; stage = mine.stage; waits = subst (λ (l : Lengths). l.ahead ≡ true) (sym live.same) waits }) unit))

-- a fault stays
from-fault : (p : Progress) (unit : List ℕ) (fault : Option StreamFault) → is_some fault ≡ true → advanced_from p unit fault ≡ p
from-fault p unit (Some fault) e = refl
from-fault p unit None e = absurd (cc)

all-fault : (p : Progress) (units : List (List ℕ)) → is_some p.fault ≡ true → fold advanced p units ≡ p
all-fault p [] e = refl
all-fault p (unit ∷ units) e = ap (λ q. fold advanced q units) (from-fault p unit p.fault e) ∙ all-fault p units e

-- the accepted units, and the others
record Folded (l : Lengths) (start : Place) (before : List (List ℕ)) (p : Progress) (units : List (List ℕ)) : Type 0 where
  taken : List (List ℕ)
  refused : List (List ℕ)
  whole : taken ++ refused ≡ before ++ units
  none : (fold advanced p units).fault ≡ None → refused ≡ []
  told : Told l start taken (fold advanced p units)

no-fault : (q p : Progress) (refused : List (List ℕ)) → q ≡ p → is_some p.fault ≡ true → q.fault ≡ None → refused ≡ []
no-fault q p refused same some none = absurd (both p.fault (sym (ap (λ (q : Progress). q.fault) same) ∙ none) some)
  where
    both : (fault : Option StreamFault) → fault ≡ None → is_some fault ≡ true → ⊥
    both (Some fault) e f = absurd (cc)
    both None e f = absurd (cc)

with-one : (l : Lengths) (start : Place) (before : List (List ℕ)) (unit : List ℕ) (p q : Progress) (units : List (List ℕ)) → advanced p unit ≡ q → OneTold l start before unit q
    → (Told l start (before ++ unit ∷ []) q → Folded l start (before ++ unit ∷ []) q units) → Folded l start before p (unit ∷ units)
with-one l start before unit p q units e (inl told) again = by_later (again told)
  where
    by_later : Folded l start (before ++ unit ∷ []) q units → Folded l start before p (unit ∷ units)
    by_later f = record {
      taken = f.taken;
      refused = f.refused;
      whole = f.whole ∙ append_assoc before (unit ∷ []) units;
      none = subst (λ (q : Progress). (fold advanced q units).fault ≡ None → f.refused ≡ []) (sym e) f.none;
      told = subst (λ (q : Progress). Told l start f.taken (fold advanced q units)) (sym e) f.told;
    }
with-one l start before unit p q units e (inr (some, told)) again = record {
  taken = before;
  refused = unit ∷ units;
  whole = refl;
  none = no-fault (fold advanced p (unit ∷ units)) q (unit ∷ units) still some;
  told = subst (λ (q : Progress). Told l start before q) (sym still) told;
}
  where
    still : fold advanced p (unit ∷ units) ≡ q
    still = ap (λ q. fold advanced q units) e ∙ all-fault q units some

fold-told : (l : Lengths) (waits : l.ahead ≡ true) (start : Place) (before : List (List ℕ)) (p : Progress) (units : List (List ℕ)) → Told l start before p → Folded l start before p units
fold-told l waits start before p [] told = record { taken = before; refused = []; whole = refl; none = λ e. refl; told = told }
fold-told l waits start before p (unit ∷ units) told =
    with-one l start before unit p (advanced p unit) units refl (from-told l waits start before unit p p.fault refl told)
    (λ later. fold-told l waits start (before ++ unit ∷ []) (advanced p unit) units later)

-- ---- the end

ended-done : (l : Lengths) (start : Place) (units : List (List ℕ)) (p : Progress) (fault end : Option StreamFault) → ToldBy l start units p fault
    → Done l start units (ended_by p fault end).pieces
ended-done l start units p (Some fault) end done = done
ended-done l start units p None end live = all-done l start units p live

ended-none : (p : Progress) (fault end : Option StreamFault) → (ended_by p fault end).fault ≡ None → fault ≡ None
ended-none p (Some fault) end e = e
ended-none p None end e = refl

module _ (l : Lengths) (end : ℕ) (input : List ℕ) (waits : l.ahead ≡ true) where
  abbrev start : Progress
  start = (begun_cutter l end).progress

  abbrev all : ToldUnits
  all = told (fed (begun_cutter l end).left input)

  abbrev last : Progress
  last = fold advanced start all.units

  first-told : Told l (at_first end) [] start
  first-told = record {
    same = refl;
    place = at_first end;
    movie_is = refl;
    said = [];
    later = [];
    comes = comes-none l (at_first end);
    stage = record { heading = refl; jump = refl; before = refl; run = refl; end_is = refl; reached = refl; beside = All-nil (IsBeside None); own = refl };
    whole = refl;
  }

  folded : Folded l (at_first end) [] start all.units
  folded = fold-told l waits (at_first end) [] start all.units first-told

  done : Done l (at_first end) folded.taken (ended_by last last.fault all.fault).pieces
  done = ended-done l (at_first end) folded.taken last last.fault all.fault folded.told

  all-made : AreSources l end input done.comes.sources
  all-made = record {
    pieces = done.comes.pieces;
    right = right-all l (at_first end) done.place done.comes.sources done.comes.right done.between;
    refused = folded.refused;
    units = ap (λ taken. taken ++ folded.refused) (sym done.comes.units_are) ∙ folded.whole;
    whole = λ e. folded.none (ended-none last last.fault all.fault e);
  }

pub parts_are_made : PartsAreMade
parts_are_made l end input waits = ((done l end input waits).comes.sources, all-made l end input waits)
