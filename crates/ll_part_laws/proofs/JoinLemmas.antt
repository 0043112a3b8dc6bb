-- One more fragment of a run: whether it joins the part under way, or that part ends before it.
use Rattle.std.proofs.Common.{Option, None, ◌≡◌, ℕ, zero, suc, ◌+◌, ◌-◌, ◌*◌, ◌<◌, ◌≤◌, ◌==◌, Bool, true, false, List, [], ◌∷◌, ◌++◌, length, if◌then◌else◌, None, refl, ap, sym, subst, ◌∙◌, max, append-nil, length-append, arith, ◌⊎◌, inl, inr}
use native.Mathlib.Nat.{zero-div}
use borrow.Author.Tests.{eqb-true}
use Rattle.std.specs.Option.{unwrap_or}
use Rattle.std.specs.List.{All, concat}
use Rattle.std.proofs.lemmas.List.Elements.{All-append, All-cons, All-nil}
use Rattle.ll_parts.proofs.PartLemmas.{joins-fits}
use Rattle.ll_parts.specs.Joined.{said_before, with_group}
use Rattle.ll_parts.specs.Pieces.{shift_of}
use Rattle.ll_runs.specs.Times.{at_tick, cut_before, joined_to, micros, size_limit}
use Rattle.ll_parts.specs.declared.heading.Heading.{Heading}
use Rattle.ll_runs.specs.declared.lengths.Lengths.{Lengths}
use Rattle.ll_runs.specs.declared.times.Cut.{Cut}
use Rattle.ll_runs.specs.declared.times.Cut.TheVariants as cut
use Rattle.ll_runs.specs.declared.times.Times.{Times}
use Rattle.ll_part_laws.proofs.ComesLemmas.{Comes, comes-none}
use Rattle.ll_part_laws.proofs.CutLemmas.{joins-early, joins-small, joins-within, part-early, part-full, part-within, segment-forced, segment-long}
use Rattle.ll_part_laws.specs.Laws.{IsCutFrom, IsFragment, IsFrom, IsOfRun, Place, after_part, is_between, longest, so_far}
use Rattle.ll_part_laws.specs.Made.{Fragment, bytes_in, bytes_of, time_in, last_in, units, units_in}
use Rattle.ll_part_laws.proofs.GoingLemmas.{Going, bytes-more, early-more, last-more, made, next-more, on-time-more, part-comes, time-more, units-more}

-- ---- a fragment joins it, or another part begins with it

-- the fragment at the run's position, with this decode time, comes after another
abbrev pub Follows : Lengths → ℕ → Times → Fragment → Option ℕ → Type 0
Follows l scale t last told =
    (t.position ≡ max last.tick (unwrap_or told (last.tick + last.ticks))) × ((last.tick - unwrap_or told (last.tick + last.ticks)) * 1000000 ≤ l.part * scale)

-- the fragment at the run's position
abbrev pub fragment_at : List (List ℕ) → List ℕ → List (List ℕ) → Option ℕ → ℕ → Times → ℕ → Bool → Fragment
fragment_at lead unit rest told ticks t lasts sync =
    record { lead = lead; unit = unit; rest = rest; told = told; ticks = ticks; tick = t.position; lasts = lasts; sync = sync }

-- It has these bytes, and the part under way before had the units `carried`.
pub record Joining (l : Lengths) (h : Heading) (p : Place) (t : Times) (under : List ℕ) (lasts : ℕ) (sync : Bool) (bytes : List ℕ) (carried : List (List ℕ)) (f : Fragment) (c : Cut) : Type 0 where
  pub place : Place
  pub movie : place.movie ≡ p.movie
  pub first : Fragment
  pub more : List Fragment
  pub last : last_in first more ≡ f
  pub said : List (List ℕ)
  pub comes : Comes l p (said_before h t under (at_tick h.scale t t.position) c) said place
  pub going :
      Going l h place (joined_to c t (length under) (at_tick h.scale t t.position) lasts sync) (with_group c under bytes) first more (at_tick h.scale t t.position + lasts)
  pub whole : said ++ units_in (first ∷ more) ≡ carried ++ units f

not-true : false ≡ true → ⊥
not-true e = absurd (cc)

not-false : true ≡ false → ⊥
not-false e = absurd (cc)

not-none : (size : ℕ) (a b : Bool) → 0 < size → (if size == 0 then a else b) ≡ b
not-none size a b some = by_test (size == 0) refl
  where
    by_test : (test : Bool) → (size == 0) ≡ test → (if◌then◌else◌ {A = Bool} test a b) ≡ b
    by_test true e = let none = eqb-true size 0 e in absurd (omega (arith, none, some))
    by_test false e = refl

module _ (l : Lengths) (h : Heading) (p : Place) (t : Times) (under : List ℕ) (first : Fragment) (more : List Fragment) (lasts : ℕ) (sync : Bool) (bytes : List ℕ)
    (lead : List (List ℕ)) (unit : List ℕ) (rest : List (List ℕ)) (told : Option ℕ) (ticks : ℕ) (g : Going l h p t under first more (at_tick h.scale t t.position)) (few : lasts ≤ l.part) (some : 0 < length bytes) (light : length bytes ≤ size_limit)
    (are : concat (lead ++ unit ∷ rest) ≡ bytes) (is : IsFragment p.movie (fragment_at lead unit rest told ticks t lasts sync))
    (follows : Follows l h.scale t (last_in first more) told) where
  abbrev begin : ℕ
  begin = at_tick h.scale t t.position

  abbrev next : Fragment
  next = fragment_at lead unit rest told ticks t lasts sync

  abbrev carried : List (List ℕ)
  carried = units_in (first ∷ more)

  alone-bytes : bytes_of next ++ [] ≡ bytes
  alone-bytes = append-nil (bytes_of next) ∙ are

  alone-told : All (IsFragment p.movie) (next ∷ [])
  alone-told = All-cons (IsFragment p.movie) next [] is (All-nil (IsFragment p.movie))

  alone-whole : carried ++ (units next ++ []) ≡ carried ++ units next
  alone-whole = ap (λ own. carried ++ own) (append-nil (units next))

  abbrev cut_is : Cut → Type 0
  cut_is c = cut_before l t (length under) begin lasts sync (length bytes) ≡ c

  -- the segment under way at the beginning of the fragment
  in-segment : begin - t.segment ≡ so_far p + time_in (first ∷ more)
  in-segment = from begin t.segment (so_far p) p.run (time_in (first ∷ more)) g.segment g.up_to
    where
      from : (begin segment so_far run time : ℕ) → segment + so_far ≡ run → begin ≡ run + time → begin - segment ≡ so_far + time
      from begin segment so_far run time e f = omega (arith, e, f)

  in-part : begin - t.start ≡ time_in (first ∷ more)
  in-part = from begin t.start p.run (time_in (first ∷ more)) g.start g.up_to
    where
      from : (begin start run time : ℕ) → start ≡ run → begin ≡ run + time → begin - start ≡ time
      from begin start run time e f = omega (arith, e, f)

  -- ---- it joins

  time-with : time_in (first ∷ (more ++ next ∷ [])) ≡ time_in (first ∷ more) + lasts
  time-with = time-more (first ∷ more) next

  within-most : cut_is cut.Joins → 0 < time_in (first ∷ more) → so_far p + (time_in (first ∷ more) + lasts) ≤ longest l
  within-most c later =
      from (begin - t.segment) (so_far p) (time_in (first ∷ more)) lasts l.part l.most in-segment
      (joins-within l t (length under) begin lasts sync (length bytes) c g.some (behind begin t.start p.run (time_in (first ∷ more)) g.start g.up_to later))
    where
      from : (segment so_far time lasts part most : ℕ) → segment ≡ so_far + time → segment + lasts ≤ most → so_far + (time + lasts) ≤ max part most
      from segment so_far time lasts part most e f = omega (arith, e, f)

      behind : (begin start run time : ℕ) → start ≡ run → begin ≡ run + time → 0 < time → start < begin
      behind begin start run time e f some = omega (arith, e, f, some)

  with-fits : cut_is cut.Joins → 0 < first.lasts → so_far p + time_in (first ∷ (more ++ next ∷ [])) ≤ longest l
  with-fits c later =
      subst (λ time. so_far p + time ≤ longest l) (sym time-with) (within-most c (from first.lasts (time_in more) later))
    where
      from : (a b : ℕ) → 0 < a → 0 < a + b
      from a b some = omega (arith, some)

  with-nearly : cut_is cut.Joins → so_far p + time_in (first ∷ (more ++ next ∷ [])) ≤ longest l + l.part
  with-nearly c = subst (λ time. so_far p + time ≤ longest l + l.part) (sym time-with) (by_time (time_in (first ∷ more)) refl)
    where
      none : (so_far first lasts part longest : ℕ) → so_far + first ≤ longest → lasts ≤ part → so_far + (0 + lasts) ≤ longest + part
      none so_far first lasts part longest a b = omega (arith, a, b)

      enough : (sum part longest : ℕ) → sum ≤ longest → sum ≤ longest + part
      enough sum part longest a = omega (arith, a)

      by_time : (time : ℕ) → time_in (first ∷ more) ≡ time → so_far p + (time_in (first ∷ more) + lasts) ≤ longest l + l.part
      by_time zero e = subst (λ time. so_far p + (time + lasts) ≤ longest l + l.part) (sym e) (none (so_far p) first.lasts lasts l.part (longest l) g.begins few)
      by_time (suc n) e = enough (so_far p + (time_in (first ∷ more) + lasts)) l.part (longest l) (within-most c (positive (time_in (first ∷ more)) n e))
        where
          positive : (time n : ℕ) → time ≡ suc n → 0 < time
          positive time n e = omega (arith, e)

  with-short : cut_is cut.Joins → time_in (first ∷ (more ++ next ∷ [])) ≤ l.part
  with-short c =
      from begin t.start p.run (time_in (first ∷ more)) lasts (time_in (first ∷ (more ++ next ∷ []))) l.part g.start g.up_to time-with
      (joins-fits l t (length under) begin lasts sync (length bytes) c (subst (λ time. time ≤ l.part) (sym in-part) g.short) (λ e. absurd (not-empty (length under) e g.some)) few)
    where
      not-empty : (n : ℕ) → n ≡ 0 → 0 < n → ⊥
      not-empty n e some = omega (arith, e, some)

      from : (begin start run time lasts all part : ℕ) → start ≡ run → begin ≡ run + time → all ≡ time + lasts → begin + lasts - start ≤ part → all ≤ part
      from begin start run time lasts all part e f g h = omega (arith, e, f, g, h)

  with-early : cut_is cut.Joins → 0 < time_in (first ∷ more) → sync ≡ true → so_far p + time_in (first ∷ more) < l.segment
  with-early c later is_sync =
      subst (λ n. n < l.segment) in-segment
      (joins-early l t (length under) begin lasts sync (length bytes) c g.some (behind begin t.start p.run (time_in (first ∷ more)) g.start g.up_to later) is_sync)
    where
      behind : (begin start run time : ℕ) → start ≡ run → begin ≡ run + time → 0 < time → start < begin
      behind begin start run time e f some = omega (arith, e, f, some)

  alone-short : time_in (next ∷ []) ≤ l.part
  alone-short = from lasts l.part few
    where
      from : (lasts part : ℕ) → lasts ≤ part → lasts + 0 ≤ part
      from lasts part e = omega (arith, e)

  joins : cut_is cut.Joins → Joining l h p t under lasts sync bytes carried next cut.Joins
  joins c = record {
    place = p;
    movie = refl;
    first = first;
    more = more ++ next ∷ [];
    last = last-more first more next;
    said = [];
    comes = comes-none l p;
    going = record {
      heading = g.heading;
      told = All-append (IsFragment p.movie) (first ∷ more) (next ∷ []) g.told alone-told;
      bytes = bytes-more (first ∷ more) next ∙ ap (λ under. under ++ bytes_of next) g.bytes ∙ ap (λ bytes. under ++ bytes) are;
      small = subst (λ n. n ≤ size_limit) (sym (length-append under bytes)) (joins-small l t (length under) begin lasts sync (length bytes) c g.some);
      some = longer (length (under ++ bytes)) (length under) (length bytes) (length-append under bytes) some;
      start = g.start;
      up_to = sum begin p.run (time_in (first ∷ more)) lasts (time_in (first ∷ (more ++ next ∷ []))) g.up_to time-with;
      segment = g.segment;
      end = g.end;
      sync = not-none (length under) sync t.independent g.some ∙ g.sync;
      cut_from = g.cut_from;
      fits = with-fits c;
      nearly = with-nearly c;
      ticks = next-more l (shift_of h.scale t) first more next g.ticks follows;
      short = with-short c;
      early = early-more l (so_far p) first.lasts more next g.early (with-early c);
      begins = g.begins;
      on_time = on-time-more (shift_of h.scale t) p.run (first ∷ more) next g.on_time (sym g.up_to);
      of_run = g.of_run;
    };
    whole = units-more (first ∷ more) next;
  }
    where
      longer : (all a b : ℕ) → all ≡ a + b → 0 < b → 0 < all
      longer all a b e some = omega (arith, e, some)

      sum : (begin run time lasts all : ℕ) → begin ≡ run + time → all ≡ time + lasts → begin + lasts ≡ run + all
      sum begin run time lasts all e f = omega (arith, e, f)

  -- ---- another part begins

  alone : (begin lasts : ℕ) → begin + lasts ≡ begin + (lasts + 0)
  alone begin lasts = omega arith

  one : (n : ℕ) → n ≡ n + 0
  one n = omega arith

  parts : cut_is cut.Part → Joining l h p t under lasts sync bytes carried next cut.Part
  parts c = record {
    place = after_part p (made h t first more false);
    movie = refl;
    first = next;
    more = [];
    last = refl;
    said = carried;
    comes = part-comes l h p t under first more begin g false;
    going = record {
      heading = g.heading;
      told = alone-told;
      bytes = alone-bytes;
      small = light;
      some = some;
      start = g.up_to;
      up_to = ap (λ begin. begin + lasts) g.up_to ∙ alone (p.run + time_in (first ∷ more)) lasts;
      segment = sum t.segment (so_far p) p.run (time_in (first ∷ more)) g.segment;
      end = g.end;
      sync = refl;
      cut_from = record { tick = follows; full = full; early = λ e is_sync. subst (λ n. n < l.segment) in-segment (part-early l t (length under) begin lasts sync (length bytes) c is_sync); forced = λ e. absurd (not-true e); long = λ e. absurd (not-true e) };
      fits = λ some. fits;
      ticks = tt;
      short = alone-short;
      early = tt;
      nearly = enough (so_far p + time_in (first ∷ more) + (lasts + 0)) l.part (longest l) fits;
      begins = from (begin - t.segment) (so_far p) (time_in (first ∷ more)) lasts l.part l.most in-segment (part-within l t (length under) begin lasts sync (length bytes) c);
      on_time = (sym g.up_to, tt);
      of_run = (refl, refl);
    };
    whole = alone-whole;
  }
    where
      sum : (segment so_far run time : ℕ) → segment + so_far ≡ run → segment + (so_far + time) ≡ run + time
      sum segment so_far run time e = omega (arith, e)

      from : (segment so_far time lasts part most : ℕ) → segment ≡ so_far + time → segment + lasts ≤ most → so_far + time + lasts ≤ max part most
      from segment so_far time lasts part most e f = omega (arith, e, f)

      with_none : (sum lasts longest : ℕ) → sum + lasts ≤ longest → sum + (lasts + 0) ≤ longest
      with_none sum lasts longest e = omega (arith, e)

      enough : (sum part longest : ℕ) → sum ≤ longest → sum ≤ longest + part
      enough sum part longest a = omega (arith, a)

      fits : so_far p + time_in (first ∷ more) + (lasts + 0) ≤ longest l
      fits =
          with_none (so_far p + time_in (first ∷ more)) lasts (longest l)
          (from (begin - t.segment) (so_far p) (time_in (first ∷ more)) lasts l.part l.most in-segment (part-within l t (length under) begin lasts sync (length bytes) c))

      over : (begin lasts start time part : ℕ) → begin - start ≡ time → start ≤ begin → part < begin + lasts - start → part < time + lasts
      over begin lasts start time part e f g = omega (arith, e, f, g)

      behind : (begin start run time : ℕ) → start ≡ run → begin ≡ run + time → start ≤ begin
      behind begin start run time e f = omega (arith, e, f)

      full : false ≡ false → length (bytes_in (first ∷ more)) + length (bytes_of next) ≤ size_limit → l.part < time_in (first ∷ more) + lasts
      full e few =
          over begin lasts t.start (time_in (first ∷ more)) l.part in-part (behind begin t.start p.run (time_in (first ∷ more)) g.start g.up_to)
          (part-full l t (length under) begin lasts sync (length bytes) c (subst (λ under. length under + length bytes ≤ size_limit) g.bytes
          (subst (λ bytes. length (bytes_in (first ∷ more)) + length bytes ≤ size_limit) are few)))

  segments : cut_is cut.Segment → Joining l h p t under lasts sync bytes carried next cut.Segment
  segments c = record {
    place = after_part p (made h t first more true);
    movie = refl;
    first = next;
    more = [];
    last = refl;
    said = carried;
    comes = part-comes l h p t under first more begin g true;
    going = record {
      heading = g.heading;
      told = alone-told;
      bytes = alone-bytes;
      small = light;
      some = some;
      start = g.up_to;
      up_to = ap (λ begin. begin + lasts) g.up_to ∙ alone (p.run + time_in (first ∷ more)) lasts;
      segment = sym (one begin) ∙ g.up_to;
      end = g.end;
      sync = refl;
      cut_from = record {
        tick = follows;
        full = λ e. absurd (not-false e);
        early = λ e. absurd (not-false e);
        forced = λ e none. over (begin - t.segment) (so_far p) (time_in (first ∷ more)) lasts l.most in-segment (segment-forced l t (length under) begin lasts sync (length bytes) c none);
        long =
            λ e short. over (begin - t.segment) (so_far p) (time_in (first ∷ more)) lasts l.most in-segment
            (segment-long l t (length under) begin lasts sync (length bytes) c (subst (λ so_far. so_far < l.segment) (sym in-segment) short));
      };
      fits = λ some. alone-fits lasts l.part l.most few;
      ticks = tt;
      short = alone-short;
      early = tt;
      nearly = alone-nearly lasts l.part l.most few;
      begins = alone-begins lasts l.part l.most few;
      on_time = (sym g.up_to, tt);
      of_run = (refl, refl);
    };
    whole = alone-whole;
  }
    where
      over : (segment so_far time lasts most : ℕ) → segment ≡ so_far + time → most < segment + lasts → most < so_far + time + lasts
      over segment so_far time lasts most e f = omega (arith, e, f)

      alone-fits : (lasts part most : ℕ) → lasts ≤ part → 0 + (lasts + 0) ≤ max part most
      alone-fits lasts part most e = omega (arith, e)

      alone-begins : (lasts part most : ℕ) → lasts ≤ part → 0 + lasts ≤ max part most
      alone-begins lasts part most e = omega (arith, e)

      alone-nearly : (lasts part most : ℕ) → lasts ≤ part → 0 + (lasts + 0) ≤ max part most + part
      alone-nearly lasts part most e = omega (arith, e)

  joined-by : (c : Cut) → cut_is c → Joining l h p t under lasts sync bytes carried next c
  joined-by cut.Joins e = joins e
  joined-by cut.Part e = parts e
  joined-by cut.Segment e = segments e

  pub joined : Joining l h p t under lasts sync bytes carried next (cut_before l t (length under) begin lasts sync (length bytes))
  joined = joined-by (cut_before l t (length under) begin lasts sync (length bytes)) refl

-- ---- the first fragment of a run

-- the run begins there
pub record Fresh (h : Heading) (p : Place) (t : Times) (told : Option ℕ) : Type 0 where
  pub heading : h ≡ p.heading
  pub before : p.before ≡ None
  pub run : p.run ≡ 0
  pub start : t.start ≡ 0
  pub segment : t.segment ≡ 0
  pub base : t.base ≡ t.position
  pub jump : IsFrom p.jump t.position told t.origin
  pub end : t.end ≡ p.end

module _ (l : Lengths) (h : Heading) (p : Place) (t : Times) (lasts : ℕ) (sync : Bool) (bytes : List ℕ) (lead : List (List ℕ)) (unit : List ℕ) (rest : List (List ℕ)) (told : Option ℕ) (ticks : ℕ) (f : Fresh h p t told) (few : lasts ≤ l.part)
    (some : 0 < length bytes) (light : length bytes ≤ size_limit) (are : concat (lead ++ unit ∷ rest) ≡ bytes)
    (is : IsFragment p.movie (fragment_at lead unit rest told ticks t lasts sync)) where
  abbrev starts : Fragment
  starts = fragment_at lead unit rest told ticks t lasts sync

  abbrev fresh_begin : ℕ
  fresh_begin = at_tick h.scale t t.position

  begins-first : fresh_begin ≡ 0
  begins-first = ap (micros h.scale) (none t.position t.base f.base) ∙ zero-div h.scale
    where
      none : (position base : ℕ) → base ≡ position → position - base ≡ 0
      none position base e = omega (arith, e)

  none-so-far : so_far p ≡ 0
  none-so-far = ap (λ before. if◌then◌else◌ {A = ℕ} (is_between before) 0 p.segment) f.before

  pub joined-first : Joining l h p t [] lasts sync bytes [] starts (cut_before l t 0 fresh_begin lasts sync (length bytes))
  joined-first = record {
    place = p;
    movie = refl;
    first = starts;
    more = [];
    last = refl;
    said = [];
    comes = comes-none l p;
    going = record {
      heading = f.heading;
      told = All-cons (IsFragment p.movie) starts [] is (All-nil (IsFragment p.movie));
      bytes = append-nil (bytes_of starts) ∙ are;
      small = light;
      some = some;
      start = f.start ∙ sym f.run;
      up_to = sum fresh_begin p.run lasts begins-first f.run;
      segment = sum2 t.segment (so_far p) p.run f.segment none-so-far f.run;
      end = f.end;
      sync = refl;
      cut_from = subst (λ before. IsCutFrom l p.segment before starts) (sym f.before) tt;
      fits = λ some. alone-fits (so_far p) lasts l.part l.most none-so-far few;
      ticks = tt;
      short = alone-first-short lasts l.part few;
      early = tt;
      nearly = alone-nearly (so_far p) lasts l.part l.most none-so-far few;
      begins = alone-begins (so_far p) lasts l.part l.most none-so-far few;
      on_time = (f.run ∙ sym begins-first, tt);
      of_run = subst (λ before. IsOfRun p.jump before t.origin (shift_of h.scale t) starts) (sym f.before) (f.base, f.jump);
    };
    whole = append-nil (units starts);
  }
    where
      sum : (begin run lasts : ℕ) → begin ≡ 0 → run ≡ 0 → begin + lasts ≡ run + (lasts + 0)
      sum begin run lasts e f = omega (arith, e, f)

      alone-first-short : (lasts part : ℕ) → lasts ≤ part → lasts + 0 ≤ part
      alone-first-short lasts part e = omega (arith, e)

      sum2 : (segment so_far run : ℕ) → segment ≡ 0 → so_far ≡ 0 → run ≡ 0 → segment + so_far ≡ run
      sum2 segment so_far run a b c = omega (arith, a, b, c)

      alone-fits : (so_far lasts part most : ℕ) → so_far ≡ 0 → lasts ≤ part → so_far + (lasts + 0) ≤ max part most
      alone-fits so_far lasts part most z e = omega (arith, z, e)

      alone-begins : (so_far lasts part most : ℕ) → so_far ≡ 0 → lasts ≤ part → so_far + lasts ≤ max part most
      alone-begins so_far lasts part most z e = omega (arith, z, e)

      alone-nearly : (so_far lasts part most : ℕ) → so_far ≡ 0 → lasts ≤ part → so_far + (lasts + 0) ≤ max part most + part
      alone-nearly so_far lasts part most z e = omega (arith, z, e)

-- ---- either

-- the run begins, or a part of it is under way
abbrev pub Open : Lengths → Heading → Place → Times → List ℕ → List (List ℕ) → Option ℕ → Type 0
Open l h p t under carried told =
    ((under ≡ []) × (carried ≡ []) × Fresh h p t told)
    ⊎ ((first : Fragment) × (more : List Fragment) × (carried ≡ units_in (first ∷ more)) × Follows l h.scale t (last_in first more) told × Going l h p t under first more (at_tick h.scale t t.position))

module _ (l : Lengths) (h : Heading) (p : Place) (t : Times) (under : List ℕ) (carried : List (List ℕ)) (lasts : ℕ) (sync : Bool) (bytes : List ℕ) (lead : List (List ℕ)) (unit : List ℕ)
    (rest : List (List ℕ)) (told : Option ℕ) (ticks : ℕ) (few : lasts ≤ l.part) (some : 0 < length bytes) (light : length bytes ≤ size_limit) (are : concat (lead ++ unit ∷ rest) ≡ bytes)
    (is : IsFragment p.movie (fragment_at lead unit rest told ticks t lasts sync)) where
  abbrev joined_with : List ℕ → List (List ℕ) → Type 0
  joined_with under carried =
      Joining l h p t under lasts sync bytes carried (fragment_at lead unit rest told ticks t lasts sync) (cut_before l t (length under) (at_tick h.scale t t.position) lasts sync (length bytes))

  pub open-joined : Open l h p t under carried told → joined_with under carried
  open-joined (inl (e, c, f)) =
      subst (λ under. joined_with under carried) (sym e) (subst (joined_with []) (sym c) (joined-first l h p t lasts sync bytes lead unit rest told ticks f few some light are is))
  open-joined (inr (first, more, c, follows, g)) = subst (joined_with under) (sym c) (joined l h p t under first more lasts sync bytes lead unit rest told ticks g few some light are is follows)
