-- The parts of a rendition with more after them: its segments go on, and none that lasts no longer than the limit with all
-- after it is skipped.
use Rattle.std.proofs.Common.{◌≡◌, ℕ, ◌+◌, ◌≤◌, arith, List, [], ◌∷◌, ◌++◌, Bool, true, false, sum_by, refl, ap, sym, ◌∙◌}
use Rattle.std.proofs.lemmas.List.Sums.{sum_by-append}
use Rattle.ll_item.specs.declared.part.Part.{Part}
use Rattle.ll_window.specs.Rows.{begun, row, rows, one_if, is_broken, lasting}
use Rattle.ll_window.specs.Segments.{Split, split, put_by, finished_by, unfinished_by, closed, duration}
use Rattle.ll_window.specs.Window.{skipped_in}
use Rattle.ll_window.proofs.WindowLemmas.{lasting-cons}
use Rattle.ll_window.proofs.SkipLemmas.{skipped-none}

-- how long segments last together
abbrev pub total : List (List Part) → ℕ
total gs = sum_by duration gs

pub total-cons : (g : List Part) (gs : List (List Part)) → total (g ∷ gs) ≡ duration g + total gs
total-cons g gs = let a = sum_by-append duration (g ∷ []) gs in grind (arith, a)

pub total-append : (gs hs : List (List Part)) → total (gs ++ hs) ≡ total gs + total hs
total-append gs hs = sum_by-append duration gs hs

lasting-rows : (n m t : ℕ) (gs : List (List Part)) → lasting (rows n m t gs) ≡ total gs
lasting-rows n m t [] = refl
lasting-rows n m t (g ∷ gs) =
    lasting-cons (row n m (begun t g) g) (rows (n + 1) (m + one_if (is_broken g)) (begun t g + duration g) gs)
    ∙ ap (λ l. duration g + l) (lasting-rows (n + 1) (m + one_if (is_broken g)) (begun t g + duration g) gs)
    ∙ sym (total-cons g gs)

-- where the first isn't skipped, none is
none-rows : (limit tail n m t : ℕ) (g : List Part) (gs : List (List Part)) → total gs + tail ≤ limit → skipped_in limit tail (rows n m t (g ∷ gs)) ≡ 0
none-rows limit tail n m t g gs le =
    let l = lasting-rows (n + 1) (m + one_if (is_broken g)) (begun t g + duration g) gs in
    skipped-none limit tail (row n m (begun t g) g) (rows (n + 1) (m + one_if (is_broken g)) (begun t g + duration g) gs) (omega (arith, l))

abbrev onto : Bool → Part → Split → Split
onto a q s = put_by a q s.finished s.unfinished

-- what these parts and then what is after them split into
abbrev pub after : List (List Part) → Split → Split
after gs s = record { finished = gs ++ s.finished; unfinished = s.unfinished }

put_after : (b : Bool) (p : Part) (gs : List (List Part)) (u qs : List Part) → p.finish ≡ b
    → put_by b p (gs ++ (split (u ++ qs)).finished) (split (u ++ qs)).unfinished ≡ after (put_by b p gs u).finished (split ((put_by b p gs u).unfinished ++ qs))
put_after true p gs u qs e = refl
put_after false p [] u qs e = sym (ap (λ b. put_by b p (split (u ++ qs)).finished (split (u ++ qs)).unfinished) e)
put_after false p (g ∷ gs) u qs e = refl

-- the segments of a longer list begin with those of the shorter
pub split-append : (ps qs : List Part) → split (ps ++ qs) ≡ after (split ps).finished (split ((split ps).unfinished ++ qs))
split-append [] qs = refl
split-append (p ∷ ps) qs =
    ap (onto p.finish p) (split-append ps qs) ∙ put_after p.finish p (split ps).finished (split ps).unfinished qs refl

-- none of these parts finishes a segment
abbrev pub Going : List Part → Type 0
Going [] = Unit
Going (p ∷ ps) = (p.finish ≡ false) × Going ps

going_by : (b : Bool) (p : Part) (gs : List (List Part)) (ps : List Part) → p.finish ≡ b → Going ps → Going (put_by b p gs ps).unfinished
going_by true p gs ps e h = h
going_by false p [] ps e h = (e, h)
going_by false p (g ∷ gs) ps e h = h

pub going-unfinished : (ps : List Part) → Going (split ps).unfinished
going-unfinished [] = tt
going-unfinished (p ∷ ps) = going_by p.finish p (split ps).finished (split ps).unfinished refl (going-unfinished ps)

pub duration-cons : (p : Part) (ps : List Part) → duration (p ∷ ps) ≡ p.duration + duration ps
duration-cons p ps = let a = sum_by-append (λ (p : Part). p.duration) (p ∷ []) ps in grind (arith, a)

pub duration-append : (ps qs : List Part) → duration (ps ++ qs) ≡ duration ps + duration qs
duration-append ps qs = sum_by-append (λ (p : Part). p.duration) ps qs

-- how long a split lasts
abbrev pub whole : Split → ℕ
whole s = total s.finished + duration s.unfinished

whole_by : (b : Bool) (p : Part) (gs : List (List Part)) (ps : List Part) → whole (put_by b p gs ps) ≡ p.duration + (total gs + duration ps)
whole_by true p gs ps = let a = total-cons (p ∷ []) gs in let b = duration-cons p [] in grind (arith, a, b)
whole_by false p [] ps = let a = duration-cons p ps in grind (arith, a)
whole_by false p (g ∷ gs) ps = let a = total-cons (p ∷ g) gs in let b = total-cons g gs in let d = duration-cons p g in grind (arith, a, b, d)

pub whole-split : (ps : List Part) → whole (split ps) ≡ duration ps
whole-split [] = refl
whole-split (p ∷ ps) =
    whole_by p.finish p (split ps).finished (split ps).unfinished ∙ ap (λ n. p.duration + n) (whole-split ps) ∙ sym (duration-cons p ps)

pub total-closed : (ps : List Part) → total (closed ps) ≡ duration ps
total-closed [] = refl
total-closed (p ∷ ps) = let a = total-cons (p ∷ ps) [] in grind (arith, a)

-- parts that finish nothing before a split
abbrev joined : List Part → List (List Part) → List Part → Split
joined u [] v = record { finished = []; unfinished = u ++ v }
joined u (g ∷ gs) v = record { finished = (u ++ g) ∷ gs; unfinished = v }

joined_none : (gs : List (List Part)) (v : List Part) → record { finished = gs; unfinished = v } ≡ joined [] gs v
joined_none [] v = refl
joined_none (g ∷ gs) v = refl

joined_one : (p : Part) (u : List Part) (gs : List (List Part)) (v : List Part)
    → put_by false p (joined u gs v).finished (joined u gs v).unfinished ≡ joined (p ∷ u) gs v
joined_one p u [] v = refl
joined_one p u (g ∷ gs) v = refl

split-joined : (u qs : List Part) → Going u → split (u ++ qs) ≡ joined u (split qs).finished (split qs).unfinished
split-joined [] qs h = joined_none (split qs).finished (split qs).unfinished
split-joined (p ∷ u) qs h =
    ap (λ (s : Split). put_by p.finish p s.finished s.unfinished) (split-joined u qs h.1)
    ∙ ap (λ b. put_by b p (joined u (split qs).finished (split qs).unfinished).finished (joined u (split qs).finished (split qs).unfinished).unfinished) h.0
    ∙ joined_one p u (split qs).finished (split qs).unfinished

none_closed : (limit tail n m t : ℕ) (ps : List Part) → tail ≤ limit → skipped_in limit tail (rows n m t (closed ps)) ≡ 0
none_closed limit tail n m t [] le = refl
none_closed limit tail n m t (p ∷ ps) le = none-rows limit tail n m t (p ∷ ps) [] (omega arith)

none_joined : (limit n m t : ℕ) (e : Bool) (u : List Part) (gs : List (List Part)) (v : List Part) → whole (joined u gs v) ≤ duration u + limit
    → skipped_in limit (duration (unfinished_by e (joined u gs v))) (rows n m t (finished_by e (joined u gs v))) ≡ 0
none_joined limit n m t false u [] v le = refl
none_joined limit n m t false u (g ∷ gs) v le =
    none-rows limit (duration v) n m t (u ++ g) gs (let a = total-cons (u ++ g) gs in let b = duration-append u g in omega arith)
none_joined limit n m t true u [] v le = none_closed limit 0 n m t (u ++ v) (omega arith)
none_joined limit n m t true u (g ∷ gs) v le =
    none-rows limit 0 n m t (u ++ g) (gs ++ closed v)
    (let a = total-cons (u ++ g) gs in let b = duration-append u g in let d = total-append gs (closed v) in let f = total-closed v in omega arith)

-- no segment is skipped that the parts after u complete, where they last no longer than the limit
pub none-later : (limit n m t : ℕ) (e : Bool) (u qs : List Part) → Going u → duration (u ++ qs) ≤ duration u + limit
    → skipped_in limit (duration (unfinished_by e (split (u ++ qs)))) (rows n m t (finished_by e (split (u ++ qs)))) ≡ 0
none-later limit n m t e u qs h le =
    rw (split-joined u qs h) (none_joined limit n m t e u (split qs).finished (split qs).unfinished
    (let a = whole-split (u ++ qs) in let b = (rw (split-joined u qs h) at a) in omega arith))

whole-finished : (e : Bool) (s : Split) → total (finished_by e s) + duration (unfinished_by e s) ≡ whole s
whole-finished true s = let a = total-append s.finished (closed s.unfinished) in let b = total-closed s.unfinished in omega (arith, a, b)
whole-finished false s = refl

-- no segment is skipped that one more finish ends, nor one that the parts after it make, where these last no longer than the limit
pub none-finished : (limit n m t : ℕ) (e : Bool) (u qs : List Part) → duration qs ≤ limit
    → skipped_in limit (duration (unfinished_by e (split qs))) (rows n m t (closed u ++ finished_by e (split qs))) ≡ 0
none-finished limit n m t e [] qs le = none-later limit n m t e [] qs tt (omega (arith, le))
none-finished limit n m t e (p ∷ u) qs le =
    none-rows limit (duration (unfinished_by e (split qs))) n m t (p ∷ u) (finished_by e (split qs))
    (let a = whole-finished e (split qs) in let b = whole-split qs in omega (arith, a, b, le))
