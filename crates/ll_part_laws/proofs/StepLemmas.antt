-- A fragment whose successor is known.
use Rattle.std.proofs.Common.{◌≡◌, ◌≢◌, ℕ, ◌+◌, ◌-◌, ◌*◌, ◌<◌, ◌≤◌, ◌^◌, Bool, true, false, List, [], ◌∷◌, ◌++◌, length, nat_lt, nat_le, if◌then◌else◌, Option, Some, None, refl, ap, sym, subst, ◌∙◌, min, max, append_assoc, append-nil, arith, inl, inr}
use Rattle.std.specs.Prelude.{⊤}
use Rattle.std.specs.List.{concat}
use Rattle.std.specs.Option.{unwrap_or}
use Rattle.std.proofs.lemmas.Bool.{leb-false}
use borrow.Author.Tests.{leb-true, ltb-true, le-leb, ltb-false}
use Rattle.ll_parts.proofs.PartLemmas.{lasts-fits}
use Rattle.ll_runs.proofs.TimeLemmas.{micros_grow}
use Rattle.ll_parts.specs.Joined.{Step, group_of, said_before, step_joined, step_of, with_group}
use Rattle.ll_parts.specs.Pieces.{part_of}
use Rattle.ll_parts.specs.Others.{bytes_of}
use Rattle.ll_runs.specs.Times.{at_tick, by_samples, cut_before, duration_to, ends_run, goes_back, is_counted, joined_to, last_micro, lasts, micros, or_part, rendition_end, said_to, since_origin, size_limit, times_from}
use Rattle.ll_parts.specs.declared.heading.Heading.{Heading}
use Rattle.ll_runs.specs.declared.lengths.Lengths.{Lengths}
use Rattle.ll_parts.specs.declared.pieces.Piece.{Piece}
use Rattle.ll_parts.specs.declared.pieces.Piece.TheVariants.{Init, Break}
use Rattle.ll_parts.specs.declared.others.Other.{Other}
use Rattle.ll_parts.specs.declared.stage.Held.{Held}
use Rattle.ll_runs.specs.declared.times.Cut.{Cut}
use Rattle.ll_runs.specs.declared.times.Cut.TheVariants as cut
use Rattle.ll_runs.specs.declared.times.Next.{Next}
use Rattle.ll_runs.specs.declared.times.Next.TheVariants.{Over, Back, At}
use Rattle.ll_runs.specs.declared.times.Times.{Times}
use Rattle.ll_part_laws.proofs.ComesLemmas.{Comes, comes-append, comes-as, comes-one}
use Rattle.ll_part_laws.proofs.CutLemmas.{IsPlaced, ends-counted, lasts-cut, lasts-samples}
use Rattle.ll_part_laws.proofs.GoingLemmas.{Going, lasts-to, made, part-comes}
use Rattle.ll_part_laws.proofs.JoinLemmas.{Follows, Fresh, Joining, Open, fragment_at, open-joined}
use Rattle.ll_part_laws.specs.Laws.{IsDue, IsFragment, Place, origin_after, samples_end, after_part, at_end, IsLast, IsOver}
use Rattle.ll_part_laws.specs.Made.{Fragment, Made, Gap, time_in, units, units_in}

-- ---- the times of a part that goes on, or ends

going-at : (l : Lengths) (h : Heading) (p : Place) (t : Times) (under : List ℕ) (first : Fragment) (more : List Fragment) (to position place : ℕ) → Going l h p t under first more to → to ≡ place
    → Going l h p (record t { position = position }) under first more place
going-at l h p t under first more to position place g e = record {
  heading = g.heading;
  told = g.told;
  bytes = g.bytes;
  small = g.small;
  some = g.some;
  start = g.start;
  up_to = sym e ∙ g.up_to;
  segment = g.segment;
  end = g.end;
  sync = g.sync;
  cut_from = g.cut_from;
  fits = g.fits;
  nearly = g.nearly;
  ticks = g.ticks;
  short = g.short;
  early = g.early;
  begins = g.begins;
  on_time = g.on_time;
  of_run = g.of_run;
}

reached-same : (l : Lengths) (h : Heading) (p : Place) (t : Times) (under : List ℕ) (first : Fragment) (more : List Fragment) (to : ℕ) → Going l h p t under first more to
    → rendition_end t to ≡ (after_part p (made h t first more true)).reached
reached-same l h p t under first more to g =
    ap (λ n. min n (2 ^ 64 - 1)) (sum t.end p.end t.start p.run (duration_to t to) (max 1 (time_in (first ∷ more))) g.end g.start (lasts-to l h p t under first more to g))
  where
    sum : (a b c d e f : ℕ) → a ≡ b → c ≡ d → e ≡ f → a + c + e ≡ b + d + f
    sum a b c d e f x y z = omega (arith, x, y, z)

base-same : (c : Cut) (t : Times) (size begin lasts : ℕ) (sync : Bool) → (joined_to c t size begin lasts sync).base ≡ t.base
base-same cut.Joins t size begin lasts sync = refl
base-same cut.Part t size begin lasts sync = refl
base-same cut.Segment t size begin lasts sync = refl

-- a tick that is later than the one before is the decode time itself
told-later : (scale base position time tick part : ℕ) → tick ≡ max position time → part < micros scale (tick - base) - micros scale (position - base) → tick ≡ time
told-later scale base position time tick part e far = by_test (nat_le time position) refl
  where
    by_test : (b : Bool) → nat_le time position ≡ b → tick ≡ time
    by_test true f =
        let few = leb-true time position f in
        let same : tick ≡ position = omega (arith, e, few) in
        absurd (none (micros scale (position - base)) part (subst (λ tick. part < micros scale (tick - base) - micros scale (position - base)) same far))
      where
        none : (n part : ℕ) → part < n - n → ⊥
        none n part less = omega (arith, less)
    by_test false f = let more = leb-false time position f in omega (arith, e, more)

-- ---- the pieces of a step

pub record StepTold (l : Lengths) (h : Heading) (p : Place) (units : List (List ℕ)) (told : Option ℕ) (s : Step) : Type 0 where
  pub place : Place
  pub movie : place.movie ≡ p.movie
  pub said : List (List ℕ)
  pub carried : List (List ℕ)
  pub comes : Comes l p s.pieces said place
  pub opened : Open l h place s.onward.times s.onward.bytes carried told
  pub whole : said ++ carried ≡ units

-- the pieces of the last step of a movie
pub record OverTold (l : Lengths) (p : Place) (pieces : List Piece) (units : List (List ℕ)) (end : ℕ) : Type 0 where
  pub place : Place
  pub comes : Comes l p pieces units place
  pub movie : place.movie ≡ p.movie
  pub between : IsOver place.jump place.before
  pub reached : place.reached ≡ end

module _ (l : Lengths) (h : Heading) (p : Place) (t : Times) (under : List ℕ) (long : ℕ) (sync : Bool) (bytes : List ℕ) (held : List (List ℕ)) (f : Fragment) (c : Cut)
    (j : Joining l h p t under long sync bytes held f c) where
  abbrev begin : ℕ
  begin = at_tick h.scale t t.position

  abbrev times : Times
  times = joined_to c t (length under) begin long sync

  abbrev with_it : List ℕ
  with_it = with_group c under bytes

  abbrev before : List Piece
  before = said_before h t under begin c

  abbrev last_made : Made
  last_made = made h times j.first j.more true

  abbrev last : Place
  last = after_part j.place last_made

  abbrev gap_pieces : Option ℕ → List Piece
  gap_pieces since = Break since ∷ Init h.section ∷ []

  abbrev gap_place : Option ℕ → ℕ → Place
  gap_place since tick = at_end j.place.movie j.place.heading (Some (record { tick = tick; next = samples_end (Some last_made); origin = origin_after since tick (Some last_made) })) last.reached

  abbrev last_part : Piece
  last_part = part_of h times with_it (duration_to times (begin + long)) true

  last-comes : Comes l p (before ++ last_part ∷ []) (held ++ units f) last
  last-comes =
      comes-as l p last (before ++ last_part ∷ []) (before ++ last_part ∷ []) (j.said ++ units_in (j.first ∷ j.more)) (held ++ units f) refl j.whole
      (comes-append l p j.place last before (last_part ∷ []) j.said (units_in (j.first ∷ j.more)) j.comes (part-comes l h j.place times with_it j.first j.more (begin + long) j.going true))

  abbrev is_brief : Type 0
  is_brief = f.lasts ≤ micros h.scale (f.tick + f.ticks - t.base) - micros h.scale (f.tick - t.base)

  last-is : is_brief → IsLast last_made
  last-is brief =
      subst (λ (last : Fragment). last.lasts ≤ micros h.scale (last.tick + last.ticks - times.base) - micros h.scale (last.tick - times.base)) (sym j.last)
      (subst (λ base. f.lasts ≤ micros h.scale (f.tick + f.ticks - base) - micros h.scale (f.tick - base)) (sym (base-same c t (length under) begin long sync)) brief)

  over-told : is_brief → OverTold l p (before ++ last_part ∷ []) (held ++ units f) (rendition_end times (begin + long))
  over-told brief = record {
    place = last;
    comes = last-comes;
    movie = j.movie;
    between = (refl, last-is brief);
    reached = sym (reached-same l h j.place times with_it j.first j.more (begin + long) j.going);
  }

  gap-comes : (since : Option ℕ) (tick : ℕ) → is_brief → IsDue l last_made since tick → Comes l p (before ++ (last_part ∷ gap_pieces since)) (held ++ units f) (gap_place since tick)
  gap-comes since tick brief due =
      comes-as l p (gap_place since tick) ((before ++ last_part ∷ []) ++ gap_pieces since) (before ++ (last_part ∷ gap_pieces since)) ((held ++ units f) ++ []) (held ++ units f)
      (append_assoc before (last_part ∷ []) (gap_pieces since)) (append-nil (held ++ units f))
      (comes-append l p last (gap_place since tick) (before ++ last_part ∷ []) (gap_pieces since) (held ++ units f) [] last-comes
      (comes-one l last (Gap since tick h.section) ((refl, last-is brief, due), ap (λ (h : Heading). h.section) j.going.heading)))

  fresh : (since : Option ℕ) (tick origin : ℕ) (told : Option ℕ) → origin ≡ origin_after since tick (Some last_made) → tick ≡ unwrap_or told (f.tick + f.ticks)
      → Fresh h (gap_place since tick) (times_from tick (rendition_end times (begin + long)) origin) told
  fresh since tick origin told e is_told = record {
    heading = j.going.heading;
    before = refl;
    run = refl;
    start = refl;
    segment = refl;
    base = refl;
    jump = (refl, subst (λ (last : Fragment). tick ≡ unwrap_or told (last.tick + last.ticks)) (sym j.last) is_told, e);
    end = reached-same l h j.place times with_it j.first j.more (begin + long) j.going;
  }

  back-told : (tick : ℕ) (told : Option ℕ) → is_brief → goes_back l h.scale f.tick tick ≡ true → tick ≡ unwrap_or told (f.tick + f.ticks)
      → StepTold l h p (held ++ units f) told (step_joined h before times with_it (begin + long) true (Back tick))
  back-told tick told brief back is_told = record {
    place = gap_place None tick;
    movie = j.movie;
    said = held ++ units f;
    carried = [];
    comes =
        gap-comes None tick brief
        (subst (λ (last : Fragment). l.part * h.scale < (last.tick - tick) * 1000000) (sym j.last) (ltb-true (l.part * h.scale) ((f.tick - tick) * 1000000) back));
    opened = inl (refl, refl, fresh None tick tick told refl is_told);
    whole = append-nil (held ++ units f);
  }

  ends-told : (tick : ℕ) (told : Option ℕ) → is_brief → l.part < micros h.scale (tick - t.base) - micros h.scale (f.tick - t.base) → tick ≡ max f.tick (unwrap_or told (f.tick + f.ticks))
      → StepTold l h p (held ++ units f) told (step_joined h before times with_it (begin + long) true (At tick))
  ends-told tick told brief far is_told = record {
    place = gap_place (Some (since_origin h.scale times tick)) tick;
    movie = j.movie;
    said = held ++ units f;
    carried = [];
    comes =
        gap-comes (Some (since_origin h.scale times tick)) tick brief (
          subst (λ (last : Fragment). l.part < micros h.scale (tick - times.base) - micros h.scale (last.tick - times.base)) (sym j.last)
              (subst (λ base. l.part < micros h.scale (tick - base) - micros h.scale (f.tick - base)) (sym (base-same c t (length under) begin long sync)) far),
          refl,
        );
    opened =
        inl (refl, refl, fresh (Some (since_origin h.scale times tick)) tick times.origin told refl (told-later h.scale t.base f.tick (unwrap_or told (f.tick + f.ticks)) tick l.part is_told far));
    whole = append-nil (held ++ units f);
  }

  goes-told : (tick : ℕ) (told : Option ℕ) → begin + long ≡ at_tick h.scale (record times { position = tick }) tick → tick ≡ max f.tick (unwrap_or told (f.tick + f.ticks))
      → (f.tick - unwrap_or told (f.tick + f.ticks)) * 1000000 ≤ l.part * h.scale
      → StepTold l h p (held ++ units f) told (step_joined h before times with_it (begin + long) false (At tick))
  goes-told tick told e is_told near = record {
    place = j.place;
    movie = j.movie;
    said = j.said;
    carried = units_in (j.first ∷ j.more);
    comes = comes-as l p j.place before (before ++ []) j.said j.said (sym (append-nil before)) refl j.comes;
    opened =
        inr (
          j.first,
          j.more,
          refl,
          subst (λ (last : Fragment). Follows l h.scale (record times { position = tick }) last told) (sym j.last) (is_told, near),
          going-at l h j.place times with_it j.first j.more (begin + long) tick (at_tick h.scale (record times { position = tick }) tick) j.going e,
        );
    whole = j.whole;
  }

-- ---- a step

-- the next one, with this decode time, goes back or begins no earlier
abbrev pub IsAhead : Lengths → ℕ → ℕ → ℕ → Option ℕ → Next → Type 0
IsAhead l scale position ticks told Over = ⊤
IsAhead l scale position ticks told (Back tick) = (goes_back l scale position tick ≡ true) × (tick ≡ unwrap_or told (position + ticks))
IsAhead l scale position ticks told (At tick) =
    (tick ≡ max position (unwrap_or told (position + ticks))) × (goes_back l scale position (unwrap_or told (position + ticks)) ≡ false)

at-most : (n : ℕ) → n ≤ last_micro → min n (2 ^ 64 - 1) ≡ n
at-most n few = omega (arith, few)

module _ (l : Lengths) (h : Heading) (p : Place) (t : Times) (under : List ℕ) (carried : List (List ℕ)) (holding : Held) (others : List Other) (lead : List (List ℕ)) (unit : List ℕ) (rest : List (List ℕ)) (told : Option ℕ)
    (o : Open l h p t under carried told) (some : 0 < length (holding.bytes ++ bytes_of others)) (light : length (holding.bytes ++ bytes_of others) ≤ size_limit) (are : concat (lead ++ unit ∷ rest) ≡ (holding.bytes ++ bytes_of others))
    (is : (lasts : ℕ) → IsFragment p.movie (fragment_at lead unit rest told holding.ticks t lasts holding.sync))
    (counted : is_counted h.scale (t.position + holding.ticks) ≡ true) where
  abbrev own_units : List (List ℕ)
  own_units = lead ++ unit ∷ rest

  abbrev start : ℕ
  start = at_tick h.scale t t.position

  module _ (next : Next) where
    abbrev said_next : ℕ
    said_next = said_to h.scale t holding.ticks next

    abbrev lasting : ℕ
    lasting = lasts l h.scale t holding.ticks said_next

    abbrev fragment_is : Fragment
    fragment_is = fragment_at lead unit rest told holding.ticks t lasting holding.sync

    abbrev cut_is : Cut
    cut_is = cut_before l t (length under) start lasting holding.sync (length (holding.bytes ++ bytes_of others))

    joined-next : Joining l h p t under lasting holding.sync (holding.bytes ++ bytes_of others) carried fragment_is cut_is
    joined-next =
        open-joined l h p t under carried lasting holding.sync (holding.bytes ++ bytes_of others) lead unit rest told holding.ticks (lasts-fits l h.scale t holding.ticks said_next) some light are (is lasting) o

    end-same : IsPlaced h.scale next → start + lasting ≡ min (start + lasting) (2 ^ 64 - 1)
    end-same placed = sym (at-most (start + lasting) (ends-counted l h.scale t holding.ticks next counted placed))

    abbrev step_to : ℕ → Step
    step_to end = step_joined h (said_before h t under start cut_is) (joined_to cut_is t (length under) start lasting holding.sync) (with_group cut_is under (holding.bytes ++ bytes_of others)) end (ends_run l said_next next) next

  pub over-step : OverTold l p (step_of l h t under (group_of holding others) Over).pieces (carried ++ own_units) (step_of l h t under (group_of holding others) Over).onward.end
  over-step =
      subst (λ end. OverTold l p (step_to Over end).pieces (carried ++ own_units) (step_to Over end).onward.end) (end-same Over tt)
      (over-told l h p t under (lasting Over) holding.sync (holding.bytes ++ bytes_of others) carried (fragment_is Over) (cut_is Over) (joined-next Over) (lasts-samples l h.scale t holding.ticks))

  module _ (tick : ℕ) (next_told : Option ℕ) (is_told : tick ≡ max t.position (unwrap_or next_told (t.position + holding.ticks)))
      (near : (t.position - unwrap_or next_told (t.position + holding.ticks)) * 1000000 ≤ l.part * h.scale) where
    abbrev times_at : Times
    times_at = joined_to (cut_is (At tick)) t (length under) start (lasting (At tick)) holding.sync

    on-tick : nat_lt l.part (said_next (At tick)) ≡ false → start + lasting (At tick) ≡ at_tick h.scale (record times_at { position = tick }) tick
    on-tick e =
        ap (λ long. start + long) whole ∙ sum start (at_tick h.scale t tick) (micros_grow h.scale (t.position - t.base) (tick - t.base) (less t.position tick t.base (later t.position (unwrap_or next_told (t.position + holding.ticks)) tick is_told)))
        ∙ sym (ap (λ base. micros h.scale (tick - base)) (base-same (cut_is (At tick)) t (length under) start (lasting (At tick)) holding.sync))
      where
        not-more : (n : ℕ) → nat_lt l.part n ≡ false → nat_le n l.part ≡ true
        not-more n f = le-leb n l.part (ltb-false l.part n f)

        whole : lasting (At tick) ≡ said_next (At tick)
        whole = ap (λ b. if◌then◌else◌ {A = ℕ} b (said_next (At tick)) (min (or_part l t.before) (by_samples h.scale t holding.ticks))) (not-more (said_next (At tick)) e)

        sum : (a b : ℕ) → a ≤ b → a + (b - a) ≡ b
        sum a b few = omega (arith, few)

        later : (a b c : ℕ) → c ≡ max a b → a ≤ c
        later a b c e = omega (arith, e)

        less : (a b c : ℕ) → a ≤ b → a - c ≤ b - c
        less a b c few = omega (arith, few)

    at-step : (b : Bool) → nat_lt l.part (said_next (At tick)) ≡ b
        → StepTold l h p (carried ++ own_units) next_told
        (step_joined h (said_before h t under start (cut_is (At tick))) times_at (with_group (cut_is (At tick)) under (holding.bytes ++ bytes_of others)) (start + lasting (At tick)) b (At tick))
    at-step true e = ends-told l h p t under (lasting (At tick)) holding.sync (holding.bytes ++ bytes_of others) carried (fragment_is (At tick)) (cut_is (At tick)) (joined-next (At tick)) tick next_told
        (lasts-cut l h.scale t holding.ticks (said_next (At tick)) (ltb-true l.part (said_next (At tick)) e)) (ltb-true l.part (said_next (At tick)) e) is_told
    at-step false e = goes-told l h p t under (lasting (At tick)) holding.sync (holding.bytes ++ bytes_of others) carried (fragment_is (At tick)) (cut_is (At tick)) (joined-next (At tick)) tick next_told (on-tick e) is_told near

  pub next-step : (next : Next) (next_told : Option ℕ) → IsPlaced h.scale next → IsAhead l h.scale t.position holding.ticks next_told next → next ≢ Over
      → StepTold l h p (carried ++ own_units) next_told (step_of l h t under (group_of holding others) next)
  next-step Over next_told placed ahead not = absurd (not refl)
  next-step (Back tick) next_told placed ahead not =
      subst (λ end. StepTold l h p (carried ++ own_units) next_told (step_to (Back tick) end)) (end-same (Back tick) tt)
      (back-told l h p t under (lasting (Back tick)) holding.sync (holding.bytes ++ bytes_of others) carried (fragment_is (Back tick)) (cut_is (Back tick)) (joined-next (Back tick)) tick next_told
      (lasts-samples l h.scale t holding.ticks) ahead.0 ahead.1)
  next-step (At tick) next_told placed ahead not =
      subst (λ end. StepTold l h p (carried ++ own_units) next_told (step_to (At tick) end)) (end-same (At tick) placed)
      (at-step tick next_told ahead.0
      (ltb-false (l.part * h.scale) ((t.position - unwrap_or next_told (t.position + holding.ticks)) * 1000000) ahead.1) (nat_lt l.part (said_next (At tick))) refl)
