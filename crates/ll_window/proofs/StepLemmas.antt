-- What is kept of a list of items with one more is a step from what is kept of the list.
use Rattle.std.proofs.Common.{◌≡◌, ℕ, ◌+◌, ◌*◌, ◌≤◌, List, [], ◌∷◌, ◌++◌, Bool, true, false, refl, ap, ap₂, ◌∙◌, sym, length, arith, length-append, append-nil, Option, Some, None}
use Rattle.std.proofs.lemmas.List.Sums.{fold-append, sum_by-append}
use Rattle.ll_item.specs.Items.{is_about_ranges}
use Rattle.ll_settings.specs.Settings.{Configuration}
use Rattle.ll_item.specs.declared.item.Item.{Item}
use Rattle.ll_item.specs.declared.item.Item.TheVariants as item
use Rattle.ll_item.specs.declared.part.Part.{Part}
use Rattle.ll_window.specs.declared.fault.WindowFault.{WindowFault}
use Rattle.ll_window.specs.declared.part_position.PartPosition.{PartPosition}
use Rattle.ll_window.specs.Numbers.{numbered_parts, last_place}
use Rattle.ll_window.specs.Compact.{Compact, compact, opens_by}
use Rattle.ll_window.specs.Rows.{Row, begun, row, rows, time_after, one_if, is_broken, broken_in}
use Rattle.ll_window.specs.Segments.{Split, split, finished_by, unfinished_by, ended, duration}
use Rattle.ll_window.specs.Step.{with_finish, with_item, with_open, with_part_by, after_segment, with_end, next_place}
use Rattle.ll_window.specs.Refusal.{refusal, refusal_before_end, refusal_by, refusal_going_on, refusal_after}
use Rattle.ll_item.specs.Told.{Told, finished_last, kept_part, start, step, told}
use Rattle.ll_window.specs.Window.{window_limit, near_limit, gone, window, listed}
use Rattle.ll_window.proofs.NumberLemmas.{last-snoc}
use Rattle.ll_window.proofs.SplitLemmas.{added_by, begun-last, closed-last, duration-last, place-last, split-last, split-snoc, with_last}
use Rattle.ll_window.proofs.WindowLemmas.{broken-append, lasting-cons, broken-cons, listed-again, listed-window-snoc, gone-window-snoc}

same_row : (n k m l t u : ℕ) (g : List Part) → n ≡ k → m ≡ l → t ≡ u → row n m t g ≡ row k l u g
same_row n k m l t u g e f h = ap (λ x. row x m t g) e ∙ ap (λ x. row k x t g) f ∙ ap (λ x. row k l x g) h

pub rows-snoc : (n m t : ℕ) (gs : List (List Part)) (g : List Part)
    → rows n m t (gs ++ g ∷ []) ≡ rows n m t gs ++ row (n + length gs) (m + broken_in (rows n m t gs)) (begun (time_after t gs) g) g ∷ []
rows-snoc n m t [] g = ap (λ r. r ∷ []) (same_row n (n + 0) m (m + 0) _ _ g (omega arith) (omega arith) refl)
rows-snoc n m t (h ∷ gs) g =
    let u = begun t h in
    let more = rows (n + 1) (m + one_if (is_broken h)) (u + duration h) gs in
    let b = broken-cons (row n m u h) more in
    ap (λ rs. row n m u h ∷ rs)
    (rows-snoc (n + 1) (m + one_if (is_broken h)) (u + duration h) gs g
    ∙ ap (λ r. more ++ r ∷ [])
    (same_row (n + 1 + length gs) (n + length (h ∷ gs)) (m + one_if (is_broken h) + broken_in more) (m + broken_in (row n m u h ∷ more)) _ _ g
    (omega arith) (omega (arith, b)) refl))

-- when the segments end, with one more
pub time-snoc : (t : ℕ) (gs : List (List Part)) (g : List Part) → time_after t (gs ++ g ∷ []) ≡ begun (time_after t gs) g + duration g
time-snoc t [] g = refl
time-snoc t (h ∷ gs) g = time-snoc (begun t h + duration h) gs g

pub duration-snoc : (ps : List Part) (p : Part) → duration (ps ++ p ∷ []) ≡ duration ps + p.duration
duration-snoc ps p = let e = sum_by-append (λ (q : Part). q.duration) ps (p ∷ []) in omega (arith, e)

-- what is kept of these rows of segments, if the open one begins at this time
abbrev told_rows : Configuration → List Row → List Part → ℕ → ℕ → ℕ → Bool → Option ℕ → Option PartPosition → Bool → Compact
told_rows c rs ps next opens time pending restart last e = record {
  settings = c;
  window = listed (near_limit c) (duration ps) (window (window_limit c) rs);
  open_parts = ps;
  next_number = next;
  maps = broken_in rs;
  open_time = opens;
  end_time = time;
  pending = pending;
  restart = restart;
  discontinuity = broken_in (gone (window_limit c) rs);
  last = last;
  ended = e;
}

abbrev rows_of : Configuration → List (List Part) → List Row
rows_of c gs = rows c.first 0 (c.start * 1000) gs

abbrev time_of : Configuration → List (List Part) → ℕ
time_of c gs = time_after (c.start * 1000) gs

-- what is kept of parts in segments that end at a time
abbrev kept : Configuration → Bool → Split → ℕ → Bool → Option ℕ → Option PartPosition → Compact
kept c e s time pending restart last =
    told_rows c (rows_of c (finished_by e s)) (unfinished_by e s) (c.first + length (finished_by e s))
    (begun (time_of c (finished_by e s)) (unfinished_by e s)) time pending restart last e

-- the open segment is finished
told-segment : (c : Configuration) (rs : List Row) (ps : List Part) (next opens time : ℕ) (pending : Bool) (restart : Option ℕ) (last : Option PartPosition) (e : Bool)
    → told_rows c (rs ++ row next (broken_in rs) opens ps ∷ []) [] (next + 1) (opens + duration ps) time pending restart last e
    ≡ after_segment (told_rows c rs ps next opens time pending restart last e)
told-segment c rs ps next opens time pending restart last e =
    let r = row next (broken_in rs) opens ps in
    let a = broken-append rs (r ∷ []) in
    let o = broken-cons r [] in
    let d = lasting-cons r [] in
    let whole : List Row → ℕ → ℕ → Compact =
    λ v left maps. record (told_rows c rs [] (next + 1) (opens + duration ps) time pending restart last e) { window = v; discontinuity = left; maps = maps } in
    ap (λ maps. whole (listed (near_limit c) 0 (window (window_limit c) (rs ++ r ∷ []))) (broken_in (gone (window_limit c) (rs ++ r ∷ []))) maps)
    (omega (arith, a, o))
    ∙ ap₂ (λ v left. whole v left (broken_in rs + one_if (is_broken ps)))
    (listed-window-snoc (window_limit c) (near_limit c) (duration ps) rs r (omega (arith, d)))
    (gone-window-snoc (window_limit c) (near_limit c) (duration ps) rs r (omega (arith, d)))

-- parts that were listed with less after them
pub again : (near a b : ℕ) (rs : List Row) → a ≤ b → listed near b rs ≡ listed near b (listed near a rs)
again near a b rs le =
    ap (listed near b) (sym (append-nil rs)) ∙ sym (listed-again near a b rs [] (omega (arith, le))) ∙ ap (listed near b) (append-nil (listed near a rs))

-- the segment that goes on after these segments
added-row : (c : Configuration) (gs : List (List Part)) (g : List Part)
    → rows_of c (gs ++ g ∷ []) ≡ rows_of c gs ++ row (c.first + length gs) (broken_in (rows_of c gs)) (begun (time_of c gs) g) g ∷ []
added-row c gs g =
    rows-snoc c.first 0 (c.start * 1000) gs g
    ∙ ap (λ r. rows_of c gs ++ r ∷ []) (same_row _ _ (0 + broken_in (rows_of c gs)) (broken_in (rows_of c gs)) _ _ g refl (omega arith) refl)

next_number : (c : Configuration) (gs : List (List Part)) (g : List Part) → c.first + length (gs ++ g ∷ []) ≡ c.first + length gs + 1
next_number c gs g = let n = length-append gs (g ∷ []) in omega (arith, n)

-- segments of which the last was open
kept-closed : (c : Configuration) (gs : List (List Part)) (ps : List Part) (time : ℕ) (pending : Bool) (restart : Option ℕ) (last : Option PartPosition) (e : Bool)
    → told_rows c (rows_of c (gs ++ ps ∷ [])) [] (c.first + length (gs ++ ps ∷ [])) (time_of c (gs ++ ps ∷ [])) time pending restart last e
    ≡ after_segment (told_rows c (rows_of c gs) ps (c.first + length gs) (begun (time_of c gs) ps) time pending restart last e)
kept-closed c gs ps time pending restart last e =
    ap₂ (λ rs next. told_rows c rs [] next (time_of c (gs ++ ps ∷ [])) time pending restart last e) (added-row c gs ps) (next_number c gs ps)
    ∙ ap (λ t. told_rows c (rows_of c gs ++ row (c.first + length gs) (broken_in (rows_of c gs)) (begun (time_of c gs) ps) ps ∷ []) [] (c.first + length gs + 1) t time pending restart last e)
    (time-snoc (c.start * 1000) gs ps)
    ∙ told-segment c (rows_of c gs) ps (c.first + length gs) (begun (time_of c gs) ps) time pending restart last e

opens : (t : ℕ) (ps : List Part) (p : Part) → begun t (ps ++ p ∷ []) ≡ opens_by ps p.restart (begun t ps)
opens t [] p = refl
opens t (q ∷ ps) p = refl

kept-open : (c : Configuration) (s : Split) (time : ℕ) (pending : Bool) (restart : Option ℕ) (old : Option PartPosition) (p : Part) → p.restart ≡ restart
    → kept c false (added_by false s p) (time + p.duration) false None (Some (next_place (kept c false s time pending restart old)))
    ≡ with_open (kept c false s time pending restart old) p
kept-open c s time pending restart old p own =
    let d = duration-snoc s.unfinished p in
    ap₂ (λ v t. record (with_open (kept c false s time pending restart old) p) { window = v; open_time = t })
    (again (near_limit c) (duration s.unfinished) (duration (s.unfinished ++ p ∷ [])) (window (window_limit c) (rows_of c s.finished)) (omega (arith, d)))
    (opens (time_of c s.finished) s.unfinished p ∙ ap (λ r. opens_by s.unfinished r (begun (time_of c s.finished) s.unfinished)) own)

kept-added : (c : Configuration) (b : Bool) (s : Split) (time : ℕ) (pending : Bool) (restart : Option ℕ) (old : Option PartPosition) (p : Part) → p.restart ≡ restart
    → kept c false (added_by b s p) (time + p.duration) false None (Some (next_place (kept c false s time pending restart old)))
    ≡ with_part_by b (kept c false s time pending restart old) p
kept-added c true s time pending restart old p own =
    kept-closed c s.finished (s.unfinished ++ p ∷ []) (time + p.duration) false None (Some (next_place (kept c false s time pending restart old))) false
    ∙ ap after_segment (kept-open c s time pending restart old p own)
kept-added c false s time pending restart old p own = kept-open c s time pending restart old p own

-- the end closes the open segment
kept-ended : (c : Configuration) (gs : List (List Part)) (ps : List Part) (time : ℕ) (pending : Bool) (restart : Option ℕ) (last : Option PartPosition)
    → kept c true (record { finished = gs; unfinished = ps }) time pending restart last ≡ with_end (kept c false (record { finished = gs; unfinished = ps }) time pending restart last)
kept-ended c gs [] time pending restart last = ap (λ xs. told_rows c (rows_of c xs) [] (c.first + length xs) (time_of c xs) time pending restart last true) (append-nil gs)
kept-ended c gs (p ∷ ps) time pending restart last = kept-closed c gs (p ∷ ps) time pending restart last true

-- the open segment, whose last part finishes it
kept-finished : (c : Configuration) (gs : List (List Part)) (ps : List Part) (time : ℕ) (pending : Bool) (restart : Option ℕ) (last : Option PartPosition)
    → kept c false (with_last (record { finished = gs; unfinished = ps })) time pending restart last ≡ with_finish (kept c false (record { finished = gs; unfinished = ps }) time pending restart last)
kept-finished c gs [] time pending restart last = ap (λ xs. told_rows c (rows_of c xs) [] (c.first + length xs) (time_of c xs) time pending restart last false) (append-nil gs)
kept-finished c gs (p ∷ ps) time pending restart last =
    ap (λ g. told_rows c (rows_of c (gs ++ g)) [] (c.first + length (gs ++ g)) (time_of c (gs ++ g)) time pending restart last false) (closed-last p ps)
    ∙ kept-closed c gs (finished_last (p ∷ ps)) time pending restart last false
    ∙ ap₂ (λ t d. after_segment (record (told_rows c (rows_of c gs) (finished_last (p ∷ ps)) (c.first + length gs) t time pending restart last false) { window = listed (near_limit c) d (window (window_limit c) (rows_of c gs)) }))
    (begun-last (time_of c gs) (p ∷ ps)) (duration-last (p ∷ ps))

abbrev last_of : Configuration → List Part → Option PartPosition
last_of c ps = last_place (numbered_parts c.first 0 ps)

-- what is kept of the state after some items
abbrev pub kept_of : Configuration → Told → Compact
kept_of c t = kept c t.ended (split t.parts) t.end_time t.pending t.restart (last_of c t.parts)

-- a date range changes nothing of it
silent_step : (c : Configuration) (t : Told) (i : Item) → is_about_ranges i ≡ true → kept_of c (step t i) ≡ kept_of c t
silent_step c t (item.Part part) h = absurd (grind (arith, h))
silent_step c t (item.Finish r) h = absurd (grind (arith, h))
silent_step c t (item.Break r ms) h = absurd (grind (arith, h))
silent_step c t (item.Init r media) h = absurd (grind (arith, h))
silent_step c t (item.End r) h = absurd (grind (arith, h))
silent_step c t (item.Range r id attributes) h = refl
silent_step c t (item.Unrange r id) h = refl

pub silent : (c : Configuration) (items : List Item) (i : Item) → is_about_ranges i ≡ true → compact c (items ++ i ∷ []) ≡ compact c items
silent c items i h = ap (kept_of c) (fold-append step start items (i ∷ [])) ∙ silent_step c (told items) i h

one_more : (c : Configuration) (t : Told) (i : Item) → t.ended ≡ false → kept_of c (step t i) ≡ with_item (kept_of c t) i
one_more c t (item.Part part) h =
    let d = part.duration in
    let p : Part = kept_part t.pending t.restart part in
    ap (λ e. kept c e (split (t.parts ++ p ∷ [])) (t.end_time + d) false None (last_of c (t.parts ++ p ∷ []))) h
    ∙ ap₂ (λ s last. kept c false s (t.end_time + d) false None last) (split-snoc t.parts p) (last-snoc c.first t.parts p)
    ∙ kept-added c part.finish (split t.parts) t.end_time t.pending t.restart (last_of c t.parts) p refl
    ∙ ap (λ e. with_item (kept c e (split t.parts) t.end_time t.pending t.restart (last_of c t.parts)) (item.Part part)) (sym h)
one_more c t (item.Finish r) h =
    ap (λ e. kept c e (split (finished_last t.parts)) t.end_time t.pending t.restart (last_of c (finished_last t.parts))) h
    ∙ ap₂ (λ s last. kept c false s t.end_time t.pending t.restart last) (split-last t.parts) (place-last c.first 0 t.parts)
    ∙ kept-finished c (split t.parts).finished (split t.parts).unfinished t.end_time t.pending t.restart (last_of c t.parts)
    ∙ ap (λ e. with_finish (kept c e (split t.parts) t.end_time t.pending t.restart (last_of c t.parts))) (sym h)
one_more c t (item.Break r ms) h = refl
one_more c t (item.Init r media) h = refl
one_more c t (item.End r) h =
    kept-ended c (split t.parts).finished (split t.parts).unfinished t.end_time t.pending t.restart (last_of c t.parts)
    ∙ ap (λ e. with_end (kept c e (split t.parts) t.end_time t.pending t.restart (last_of c t.parts))) (sym h)
one_more c t (item.Range r id attributes) h = refl
one_more c t (item.Unrange r id) h = refl

pub compact-snoc : (c : Configuration) (items : List Item) (i : Item) → ended items ≡ false → compact c (items ++ i ∷ []) ≡ with_item (compact c items) i
compact-snoc c items i h = ap (kept_of c) (fold-append step start items (i ∷ [])) ∙ one_more c (told items) i h

-- the rule that refuses an item follows from what is kept
refusal-going : (c : Configuration) (items : List Item) (i : Item) → refusal_before_end c items i ≡ refusal_going_on (compact c items) i
refusal-going c items (item.Part part) = refl
refusal-going c items (item.Finish r) = refl
refusal-going c items (item.Break r ms) = refl
refusal-going c items (item.Init r media) = refl
refusal-going c items (item.End r) = refl
refusal-going c items (item.Range r id attributes) = refl
refusal-going c items (item.Unrange r id) = refl

pub refusal_told : (k : Compact) (items : List Item) (i : Item) (f : Option WindowFault) → f ≡ refusal_after k i → k ≡ compact k.settings items
    → refusal k.settings items i ≡ f
refusal_told k items i f e reached =
    ap (λ o. refusal_by (ended items) o) (refusal-going k.settings items i) ∙ ap (λ x. refusal_after x i) (sym reached) ∙ sym e

not_ended : (b : Bool) (o : Option WindowFault) → None ≡ refusal_by b o → b ≡ false
not_ended true o e = absurd (grind (arith, e))
not_ended false o e = refl

-- what is kept of these items goes on to what is kept of them and one more
pub goes-on : (old new : Compact) (items : List Item) (i : Item) → refusal_after old i ≡ None → new ≡ with_item old i → old ≡ compact old.settings items
    → new ≡ compact old.settings (items ++ i ∷ [])
goes-on old new items i allowed step reached =
    step ∙ ap (λ k. with_item k i) reached
    ∙ sym (compact-snoc old.settings items i (sym (ap (λ k. k.ended) reached) ∙ not_ended old.ended (refusal_going_on old i) (sym allowed)))
