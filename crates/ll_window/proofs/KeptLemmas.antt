-- A window as it is kept, one part more.
use Rattle.std.proofs.Common.{◌≡◌, Option, Some, ℕ, ◌+◌, ◌*◌, ◌^◌, ◌≤◌, List, [], ◌∷◌, ◌++◌, Bool, true, false, cond, length, ◌==◌, ◌<◌, None, nat_le, nat_lt, refl, ap, ap₂, sym, subst, ◌∙◌, arith}
use Rattle.std.proofs.lemmas.Bool.Decides.{nat_tests}
use Rattle.ll_attr.specs.YearEnd.{last_micro}
use Rattle.ll_settings.specs.Settings.{Configuration, number_end}
use Rattle.ll_window.specs.declared.finished.Finished.{Finished}
use Rattle.ll_item.specs.declared.part.Part.{Part}
use Rattle.ll_window.specs.declared.part_position.PartPosition.{PartPosition}
use Rattle.ll_window.specs.declared.progress.Progress.{Progress}
use Rattle.ll_window.specs.declared.segment.Segment.{Segment}
use Rattle.ll_window.specs.Compact.{Compact, next_start_by, opens_by}
use Rattle.ll_window.specs.Hidden.{AreHidden}
use Rattle.ll_window.specs.Kept.{AreTimed, IsKept, grown, after, spare}
use Rattle.ll_window.specs.Refusal.{break_refusal, finish_refusal, part_refusal, time_refusal}
use Rattle.ll_window.specs.Rows.{Row, restarted, row, one_if, is_broken, lasting, broken_in}
use Rattle.ll_window.specs.Segments.{duration}
use Rattle.ll_window.specs.Step.{after_segment, grown_by, joined, next_place, relisted, with_end, with_finish, with_part_by}
use Rattle.ll_window.specs.Window.{window_limit, near_limit, gone, window, listed}
use Rattle.ll_window.proofs.HideLemmas.{near-within}
use Rattle.ll_item.specs.Told.{finished_last, first_of}
use Rattle.ll_window.proofs.SplitLemmas.{duration-last}
use Rattle.ll_window.proofs.StepLemmas.{duration-snoc}
use Rattle.ll_window.proofs.SuffixLemmas.{suffix}
use Rattle.ll_window.proofs.WindowLemmas.{broken-append, broken-cons, broken-listed, gone-window-again, lasting-append, lasting-cons, lasting-listed, listed-window-again, shown-segment}

-- the value of a window that keeps these
abbrev pub told : Configuration → List Row → List Part → ℕ → Progress → Compact
told c rs ps left p = record {
  settings = c;
  window = rs;
  open_parts = ps;
  next_number = p.next_number;
  maps = p.maps;
  open_time = p.open_time;
  end_time = p.end_time;
  pending = p.pending;
  restart = p.restart;
  discontinuity = left;
  last = p.last;
  ended = p.ended;
}

abbrev pub kept : Configuration → Finished → List Part → Progress → Compact
kept c f ps p = told c f.rows.items ps f.discontinuity p

-- one more part of the open segment
pub told_open : (c : Configuration) (f : Finished) (ps qs : List Part) (p q : Progress) (t : ℕ) (part : Part) (place : PartPosition) (k : Compact) → kept c f ps p ≡ k
    → t ≡ opens_by k.open_parts k.restart k.open_time → place ≡ next_place k → qs ≡ ps ++ part ∷ [] → q ≡ grown p t part.duration place → kept c f qs q ≡ grown_by k part
told_open c f ps qs p q t part place k is opens here more grows =
    ap₂ (λ xs x. kept c f xs x) more (grows ∙ ap₂ (λ o x. grown p o part.duration x) (opens ∙ ap (λ x. opens_by x.open_parts x.restart x.open_time) (sym is)) (here ∙ ap next_place (sym is))) ∙ ap (λ x. grown_by x part) is

-- the open segment with these parts
abbrev closing : List Part → Progress → Row
closing qs q = row q.next_number q.maps q.open_time qs

-- the open segment is one of the window
closed_with : (c : Configuration) (w : ℕ) (f g : Finished) (qs os : List Part) (q : Progress) (s : Segment) → w ≡ c.window
    → os ≡ [] → s ≡ (closing qs q).segment → g.rows.items ≡ window (w * 1000000) (f.rows.items ++ closing qs q ∷ [])
    → g.discontinuity ≡ f.discontinuity + broken_in (gone (w * 1000000) (f.rows.items ++ closing qs q ∷ []))
    → kept c g os (after q s) ≡ joined (kept c f qs q)
closed_with c w f g qs os q s wide none same items left =
    let r = closing qs q in
    ap₂ (λ xs x. told c g.rows.items xs g.discontinuity (after q x)) none same
    ∙ ap₂ (λ rs n. told c rs [] n (after q r.segment))
    (items ∙ ap (λ v. window (v * 1000000) (f.rows.items ++ r ∷ [])) wide)
    (left ∙ ap (λ v. f.discontinuity + broken_in (gone (v * 1000000) (f.rows.items ++ r ∷ []))) wide)

-- what was listed before it was finished makes no difference
finished_again : (k : Compact) → after_segment k ≡ after_segment (relisted k)
finished_again k =
    let r = row k.next_number k.maps k.open_time k.open_parts in
    let e = lasting-cons r [] in
    let least = window_limit k.settings in
    let near = near_limit k.settings in
    ap₂ (λ v n. record (after_segment k) { window = v; discontinuity = k.discontinuity + n })
    (listed-window-again least near (duration k.open_parts) k.window r (omega (arith, e)))
    (gone-window-again least near (duration k.open_parts) k.window r (omega (arith, e)))

abbrev pub ending : Progress → Progress
ending p = record p { ended = true }

-- the end, if a segment is open
open_by : (c : Configuration) (f : Finished) (ps : List Part) (p : Progress) → (ps ≡ [] → ⊥)
    → after_segment (kept c f ps (ending p)) ≡ with_end (kept c f ps p)
open_by c f [] p some = absurd (some refl)
open_by c f (x ∷ xs) p some = refl

pub limits : (c : Configuration) (n lasts ends micros : ℕ) → part_refusal c n lasts ends micros ≡ None
    → (n ≤ number_end) × (ends + micros ≤ last_micro)
limits c n lasts ends micros e = grind (arith, nat_tests, e)

timed-later : (rs : List Row) (time later : ℕ) → time ≤ later → AreTimed rs time → AreTimed rs later
timed-later [] time later le h = tt
timed-later (r ∷ rs) time later le h = (omega (arith, le, h.0), timed-later rs time later le h.1)

timed-snoc : (rs : List Row) (time : ℕ) (q : Row) → q.segment.time ≡ time → AreTimed rs time → AreTimed (rs ++ q ∷ []) (time + q.segment.duration)
timed-snoc [] time q e h = (omega (arith, e), tt)
timed-snoc (r ∷ rs) time q e h =
    let a = lasting-append rs (q ∷ []) in
    let b = lasting-cons q [] in
    (omega (arith, a, b, h.0), timed-snoc rs time q e h.1)

timed_by : (least time : ℕ) (r : Row) (rs : List Row) (b : Bool) → AreTimed (r ∷ rs) time → AreTimed (window least rs) time
    → AreTimed (cond b (window least rs) (r ∷ rs)) time
timed_by least time r rs true h rest = rest
timed_by least time r rs false h rest = h

timed-window : (least time : ℕ) (rs : List Row) → AreTimed rs time → AreTimed (window least rs) time
timed-window least time [] h = tt
timed-window least time (r ∷ rs) h = timed_by least time r rs (nat_le least (lasting rs)) h (timed-window least time rs h.1)

timed-listed : (near tail time : ℕ) (rs : List Row) → AreTimed rs time → AreTimed (listed near tail rs) time
timed-listed near tail time [] h = tt
timed-listed near tail time (r ∷ rs) h =
    let b = nat_lt (lasting rs + tail) near in
    let e = ap (λ s. s.time) (shown-segment b r) in
    let f = ap (λ s. s.duration) (shown-segment b r) in
    let l = lasting-listed near tail rs in
    (omega (arith, e, f, l, h.0), timed-listed near tail time rs h.1)

-- the next part begins where the open segment ends with it
pub opens-next-start : (ps : List Part) (o : Option ℕ) (time : ℕ) → opens_by ps o time + duration ps ≡ next_start_by ps o time
opens-next-start [] o time = omega arith
opens-next-start (p ∷ ps) o time = refl

restarted_zero : (o : Option ℕ) (time dur : ℕ) → dur ≡ 0 → restarted o (time + dur) ≡ restarted o time
restarted_zero None time dur e = omega (arith, e)
restarted_zero (Some ms) time dur e = refl

opens-later : (ps : List Part) (o : Option ℕ) (time dur : ℕ) → dur ≡ duration ps → time + dur ≤ restarted o (time + dur) → time ≤ opens_by ps o time
opens-later [] o time dur e le = let z = restarted_zero o time dur e in omega (arith, e, le, z)
opens-later (p ∷ ps) o time dur e le = omega arith

spare-snoc : (ps : List Part) (p : Part) → spare (ps ++ p ∷ []) ≡ 0
spare-snoc [] p = refl
spare-snoc (q ∷ ps) p = refl

pub kept_open : (c : Configuration) (f : Finished) (ps qs : List Part) (p : Progress) (t : ℕ) (part : Part) (place : PartPosition) → IsKept c f ps p
    → t ≡ opens_by ps p.restart p.open_time
    → part_refusal c p.next_number (duration ps) (next_start_by ps p.restart p.open_time) part.duration ≡ None → qs ≡ ps ++ part ∷ [] → IsKept c f qs (grown p t part.duration place)
kept_open c f ps qs p t part place k opens allowed more =
    let d = duration-snoc ps part in
    let e = ap duration more in
    let l = limits c p.next_number (duration ps) (next_start_by ps p.restart p.open_time) part.duration allowed in
    let n = ap spare more in
    let m = spare-snoc ps part in
    let o = opens-next-start ps p.restart p.open_time in
    let late = opens-later ps p.restart p.open_time p.open_duration k.lasts k.forward in
    record {
      sum = k.sum;
      lasts = omega (arith, d, e, k.lasts);
      ends = omega (arith, k.ends, late, opens);
      timed = timed-later f.rows.items p.open_time t (omega (arith, late, opens)) k.timed;
      within = omega (arith, k.within, late, opens);
      breaks = k.breaks;
      few_maps = k.few_maps;
      numbers = omega (arith, l.0, n, m);
      times = omega (arith, l.1, o, opens, k.lasts);
      forward = omega arith;
      hidden = k.hidden;
      far = λ some. let e = k.far some in omega (arith, e);
    }

at_most_one : (b : Bool) → one_if b ≤ 1
at_most_one true = omega arith
at_most_one false = omega arith

-- what is kept stays so when the open segment is finished
pub kept_closed : (c : Configuration) (w : ℕ) (f g : Finished) (qs os : List Part) (q : Progress) (s : Segment) → IsKept c f qs q → q.next_number ≤ number_end
    → os ≡ [] → s ≡ (closing qs q).segment → g.rows.items ≡ window (w * 1000000) (f.rows.items ++ closing qs q ∷ [])
    → g.discontinuity ≡ f.discontinuity + broken_in (gone (w * 1000000) (f.rows.items ++ closing qs q ∷ []))
    → g.lasting ≡ lasting g.rows.items → AreHidden g → (0 < g.far → (0 < f.far) × (g.near_lasting ≡ f.near_lasting + q.open_duration))
    → IsKept c g os (after q s)
kept_closed c w f g qs os q s k low none same items left sum hides goes_far =
    let r = closing qs q in
    let least = w * 1000000 in
    let xs = f.rows.items ++ r ∷ [] in
    let m = ap (λ x. x.map_number) same in
    let lasts = ap (λ x. x.duration) same in
    let whole = suffix least xs in
    let a = lasting-append (gone least xs) (window least xs) in
    let b = ap lasting whole in
    let e = lasting-append f.rows.items (r ∷ []) in
    let o = lasting-cons r [] in
    let u = broken-append (gone least xs) (window least xs) in
    let v = ap broken_in whole in
    let x = broken-append f.rows.items (r ∷ []) in
    let y = broken-cons r [] in
    let i = ap lasting items in
    let j = ap broken_in items in
    let t : AreTimed xs (q.open_time + r.segment.duration) = timed-snoc f.rows.items q.open_time r refl k.timed in
    let few = at_most_one (is_broken qs) in
    let n = ap spare none in
    let whole_end : q.open_time + s.duration + 0 ≡ q.open_time + q.open_duration = omega (arith, lasts, k.lasts) in
    let same_end = ap (restarted q.restart) whole_end in
    record {
      sum = sum;
      lasts = ap duration (sym none);
      ends = omega (arith, lasts, k.ends, k.lasts);
      timed = subst (λ rs. AreTimed rs (q.open_time + s.duration)) (sym items)
          (subst (λ n. AreTimed (window least xs) (q.open_time + n)) (sym lasts) (timed-window least (q.open_time + r.segment.duration) xs t));
      within = omega (arith, a, b, e, o, i, lasts, k.within);
      breaks = omega (arith, u, v, x, y, j, m, left, k.breaks);
      few_maps = omega (arith, m, few, k.few_maps);
      numbers = omega (arith, low, n);
      times = omega (arith, same_end, k.times);
      forward = omega (arith, same_end, whole_end, k.forward);
      hidden = hides;
      far = λ some. let x = goes_far some in let y = k.far x.0 in omega (arith, x.1, y);
    }

-- a segment that is open has a number
pub open_number : (c : Configuration) (f : Finished) (ps : List Part) (p : Progress) → IsKept c f ps p → (ps ≡ [] → ⊥) → p.next_number ≤ number_end
open_number c f [] p k some = absurd (some refl)
open_number c f (x ∷ xs) p k some = let n = k.numbers in omega (arith, n)

-- the two calls that finish a segment, with what they kept by its name

pub kept_finished : (c : Configuration) (w : ℕ) (f g : Finished) (ps qs os : List Part) (p q r : Progress) (t : ℕ) (part : Part) (place : PartPosition) (s : Segment) → IsKept c f ps p
    → t ≡ opens_by ps p.restart p.open_time
    → part_refusal c p.next_number (duration ps) (next_start_by ps p.restart p.open_time) part.duration ≡ None → qs ≡ ps ++ part ∷ [] → q ≡ grown p t part.duration place → r ≡ after q s
    → os ≡ [] → s ≡ (closing qs q).segment → g.rows.items ≡ window (w * 1000000) (f.rows.items ++ closing qs q ∷ [])
    → g.discontinuity ≡ f.discontinuity + broken_in (gone (w * 1000000) (f.rows.items ++ closing qs q ∷ []))
    → g.lasting ≡ lasting g.rows.items → AreHidden g → (0 < g.far → (0 < f.far) × (g.near_lasting ≡ f.near_lasting + q.open_duration)) → IsKept c g os r
kept_finished c w f g ps qs os p q r t part place s k opens allowed more grows goes none same items left sum hides goes_far =
    let l = limits c p.next_number (duration ps) (next_start_by ps p.restart p.open_time) part.duration allowed in
    let n = ap (λ (x : Progress). x.next_number) grows in
    subst (λ x. IsKept c g os x) (sym goes)
    (kept_closed c w f g qs os q s (subst (λ x. IsKept c f qs x) (sym grows) (kept_open c f ps qs p t part place k opens allowed more)) (omega (arith, l.0, n)) none same items left sum hides goes_far)

pub told_finished : (c : Configuration) (w : ℕ) (f g : Finished) (ps qs os : List Part) (p q r : Progress) (t : ℕ) (part : Part) (place : PartPosition) (s : Segment) (k : Compact) → kept c f ps p ≡ k
    → w ≡ c.window → t ≡ opens_by k.open_parts k.restart k.open_time → place ≡ next_place k → qs ≡ ps ++ part ∷ [] → q ≡ grown p t part.duration place → r ≡ after q s
    → os ≡ [] → s ≡ (closing qs q).segment → g.rows.items ≡ window (w * 1000000) (f.rows.items ++ closing qs q ∷ [])
    → g.discontinuity ≡ f.discontinuity + broken_in (gone (w * 1000000) (f.rows.items ++ closing qs q ∷ []))
    → relisted (kept c g os r) ≡ with_part_by true k part
told_finished c w f g ps qs os p q r t part place s k is wide opens here more grows goes none same items left =
    ap relisted
    (ap (λ x. kept c g os x) goes
    ∙ closed_with c w f g qs os q s wide none same items left
    ∙ ap joined (told_open c f ps qs p q t part place k is opens here more grows))
    ∙ finished_again (grown_by k part)

ending_kept : (c : Configuration) (f : Finished) (ps : List Part) (p : Progress) → IsKept c f ps p → IsKept c f ps (ending p)
ending_kept c f ps p k = record {
  sum = k.sum;
  lasts = k.lasts;
  ends = k.ends;
  timed = k.timed;
  within = k.within;
  breaks = k.breaks;
  few_maps = k.few_maps;
  numbers = k.numbers;
  times = k.times;
  forward = k.forward;
  hidden = k.hidden;
  far = k.far;
}

pub kept_ended : (c : Configuration) (w : ℕ) (f g : Finished) (ps os : List Part) (p r : Progress) (s : Segment) → IsKept c f ps p → (ps ≡ [] → ⊥)
    → r ≡ after (ending p) s → os ≡ [] → s ≡ (closing ps (ending p)).segment
    → g.rows.items ≡ window (w * 1000000) (f.rows.items ++ closing ps (ending p) ∷ [])
    → g.discontinuity ≡ f.discontinuity + broken_in (gone (w * 1000000) (f.rows.items ++ closing ps (ending p) ∷ []))
    → g.lasting ≡ lasting g.rows.items → AreHidden g → (0 < g.far → (0 < f.far) × (g.near_lasting ≡ f.near_lasting + p.open_duration)) → IsKept c g os r
kept_ended c w f g ps os p r s k some goes none same items left sum hides goes_far =
    subst (λ x. IsKept c g os x) (sym goes)
    (kept_closed c w f g ps os (ending p) s (ending_kept c f ps p k) (open_number c f ps p k some) none same items left sum hides goes_far)

pub told_ended : (c : Configuration) (w : ℕ) (f g : Finished) (ps os : List Part) (p r : Progress) (s : Segment) (k : Compact) → kept c f ps p ≡ k → w ≡ c.window
    → (ps ≡ [] → ⊥) → r ≡ after (ending p) s → os ≡ [] → s ≡ (closing ps (ending p)).segment
    → g.rows.items ≡ window (w * 1000000) (f.rows.items ++ closing ps (ending p) ∷ [])
    → g.discontinuity ≡ f.discontinuity + broken_in (gone (w * 1000000) (f.rows.items ++ closing ps (ending p) ∷ []))
    → relisted (kept c g os r) ≡ with_end k
told_ended c w f g ps os p r s k is wide some goes none same items left =
    ap relisted (ap (λ x. kept c g os x) goes ∙ closed_with c w f g ps os (ending p) s wide none same items left) ∙ open_by c f ps p some ∙ ap with_end is

-- the parts that playlists no longer list are dropped

pub short : (c : Configuration) (f : Finished) (ps : List Part) (p : Progress) → IsKept c f ps p → f.near_lasting + p.open_duration < 2 ^ 64
short c f ps p k = let n = near-within f k.hidden in omega (arith, n, k.within, k.forward, k.times)

pub kept_relisted : (c : Configuration) (t : ℕ) (f g : Finished) (ps : List Part) (p : Progress) → t ≡ c.target → IsKept c f ps p
    → g.rows.items ≡ listed (3 * (t * 1000000)) p.open_duration f.rows.items → AreHidden g → (0 < g.far → 3 * (t * 1000000) ≤ g.near_lasting + p.open_duration)
    → (g.lasting ≡ f.lasting) × (g.discontinuity ≡ f.discontinuity) → IsKept c g ps p
kept_relisted c t f g ps p from k items hides goes_far same =
    let near = 3 * (t * 1000000) in
    let l = ap lasting items in
    let m = lasting-listed near p.open_duration f.rows.items in
    let b = ap broken_in items in
    let n = broken-listed near p.open_duration f.rows.items in
    record {
      sum = omega (arith, l, m, same.0, k.sum);
      lasts = k.lasts;
      ends = k.ends;
      timed = subst (λ rs. AreTimed rs p.open_time) (sym items) (timed-listed near p.open_duration p.open_time f.rows.items k.timed);
      within = omega (arith, l, m, k.within);
      breaks = omega (arith, b, n, same.1, k.breaks);
      few_maps = k.few_maps;
      numbers = k.numbers;
      times = k.times;
      forward = k.forward;
      hidden = hides;
      far = λ some. let e = goes_far some in omega (arith, e, from);
    }

pub is_open : (ps : List Part) (b : Bool) → b ≡ (length ps == 0) → b ≡ false → ps ≡ [] → ⊥
is_open [] b e h none = absurd (grind (arith, nat_tests))
is_open (p ∷ ps) b e h none = absurd (grind (arith, none))

-- the open segment, whose last part finishes it

pub kept_last : (c : Configuration) (w : ℕ) (f g : Finished) (ps qs os : List Part) (p r : Progress) (s : Segment) → IsKept c f ps p → (ps ≡ [] → ⊥) → qs ≡ finished_last ps
    → r ≡ after p s → os ≡ [] → s ≡ (closing qs p).segment
    → g.rows.items ≡ window (w * 1000000) (f.rows.items ++ closing qs p ∷ [])
    → g.discontinuity ≡ f.discontinuity + broken_in (gone (w * 1000000) (f.rows.items ++ closing qs p ∷ []))
    → g.lasting ≡ lasting g.rows.items → AreHidden g → (0 < g.far → (0 < f.far) × (g.near_lasting ≡ f.near_lasting + p.open_duration)) → IsKept c g os r
kept_last c w f g ps qs os p r s k some last goes none same items left sum hides goes_far =
    subst (λ x. IsKept c g os x) (sym goes)
    (kept_closed c w f g qs os p s (lasts_kept k) (open_number c f ps p k some) none same items left sum hides goes_far)
  where
    spare_open : (ps : List Part) → (ps ≡ [] → ⊥) → qs ≡ finished_last ps → p.next_number ≤ number_end + spare ps → p.next_number ≤ number_end + spare qs
    spare_open [] some last n = absurd (some refl)
    spare_open (x ∷ []) some last n = let e = ap spare last in omega (arith, n, e)
    spare_open (x ∷ y ∷ ys) some last n = let e = ap spare last in omega (arith, n, e)

    lasts_kept : IsKept c f ps p → IsKept c f qs p
    lasts_kept k = record {
      sum = k.sum;
      lasts = k.lasts ∙ sym (ap duration last ∙ duration-last ps);
      ends = k.ends;
      timed = k.timed;
      within = k.within;
      breaks = k.breaks;
      few_maps = k.few_maps;
      numbers = spare_open ps some last k.numbers;
      times = k.times;
      forward = k.forward;
      hidden = k.hidden;
      far = k.far;
    }

last_by : (c : Configuration) (f : Finished) (ps : List Part) (p : Progress) → (ps ≡ [] → ⊥) → after_segment (kept c f (finished_last ps) p) ≡ with_finish (kept c f ps p)
last_by c f [] p some = absurd (some refl)
last_by c f (x ∷ xs) p some = refl

pub told_last : (c : Configuration) (w : ℕ) (f g : Finished) (ps qs os : List Part) (p r : Progress) (s : Segment) (k : Compact) → kept c f ps p ≡ k → w ≡ c.window
    → (ps ≡ [] → ⊥) → qs ≡ finished_last ps → r ≡ after p s → os ≡ [] → s ≡ (closing qs p).segment
    → g.rows.items ≡ window (w * 1000000) (f.rows.items ++ closing qs p ∷ [])
    → g.discontinuity ≡ f.discontinuity + broken_in (gone (w * 1000000) (f.rows.items ++ closing qs p ∷ []))
    → relisted (kept c g os r) ≡ with_finish k
told_last c w f g ps qs os p r s k is wide some last goes none same items left =
    ap relisted (ap (λ x. kept c g os x) goes ∙ closed_with c w f g qs os p s wide none same items left)
    ∙ ap (λ xs. after_segment (kept c f xs p)) last ∙ last_by c f ps p some ∙ ap with_finish is

-- a break is pending
pub kept_break : (c : Configuration) (f : Finished) (ps : List Part) (p : Progress) (o : Option ℕ) → IsKept c f ps p → break_refusal ps (next_start_by ps p.restart p.open_time) o ≡ None
    → IsKept c f ps (record p { pending = true; restart = first_of o p.restart })
kept_break c f ps p None k allowed = record {
  sum = k.sum;
  lasts = k.lasts;
  ends = k.ends;
  timed = k.timed;
  within = k.within;
  breaks = k.breaks;
  few_maps = k.few_maps;
  numbers = k.numbers;
  times = k.times;
  forward = k.forward;
  hidden = k.hidden;
  far = k.far;
}
kept_break c f [] p (Some ms) k allowed =
    let z = restarted_zero p.restart p.open_time p.open_duration k.lasts in
    let l = within ms (restarted p.restart p.open_time) allowed in
    record {
      sum = k.sum;
      lasts = k.lasts;
      ends = k.ends;
      timed = k.timed;
      within = k.within;
      breaks = k.breaks;
      few_maps = k.few_maps;
      numbers = k.numbers;
      times = omega (arith, l.1);
      forward = omega (arith, l.0, z, k.forward);
      hidden = k.hidden;
      far = k.far;
    }
  where
    within : (ms begins : ℕ) → time_refusal begins (Some ms) ≡ None → (begins ≤ ms * 1000) × (ms * 1000 ≤ last_micro)
    within ms begins e = grind (arith, nat_tests, e)
kept_break c f (x ∷ xs) p (Some ms) k allowed = absurd (grind (arith, allowed))

pub open_some : (ps : List Part) → finish_refusal ps ≡ None → ps ≡ [] → ⊥
open_some [] e none = absurd (grind (arith, e))
open_some (p ∷ ps) e none = absurd (grind (arith, none))
