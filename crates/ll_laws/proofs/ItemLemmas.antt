-- The items of one rendition with more after them: nothing follows an end, and later segments are the earlier ones and more.
use Rattle.std.proofs.Common.{◌≡◌, ℕ, ◌+◌, ◌≤◌, ◌==◌, List, [], ◌∷◌, ◌++◌, Bool, true, false, cond, fold, append-nil, append_assoc, None, refl, ap, sym, ◌∙◌, arith}
use Rattle.std.proofs.lemmas.Bool.Decides.{nat_tests}
use Rattle.std.proofs.lemmas.List.Elements.{filter-append}
use Rattle.std.proofs.lemmas.List.Sums.{fold-append}
use Rattle.ll_item.specs.Items.{rendition_of}
use Rattle.ll_settings.specs.Settings.{Configuration}
use Rattle.ll_item.specs.declared.item.Item.{Item}
use Rattle.ll_item.specs.declared.item.Item.TheVariants as item
use Rattle.ll_item.specs.declared.part.Part.{Part}
use Rattle.ll_window.specs.Refusal.{refusal, refusal_by, refusal_before_end}
use Rattle.ll_window.specs.Rows.{rows}
use Rattle.ll_item.specs.Told.{end_time, Told, finished_last, kept_part, start, step, told}
use Rattle.ll_window.specs.Segments.{own, parts, ended, Split, split, finished_by, unfinished_by, closed, segments, open_segment, duration}
use Rattle.ll_window.specs.Window.{skipped_in}
use Rattle.ll_window.proofs.SplitLemmas.{duration-last, last-snoc, split-last}
use Rattle.ll_window.proofs.StepLemmas.{duration-snoc}
use Rattle.ll_laws.specs.Published.{AreAccepted}
use Rattle.ll_laws.proofs.SplitLemmas.{split-append, after, duration-append, none-finished, none-later, going-unfinished}

-- each of these items of one rendition may follow those before it
abbrev pub AreInOrder : Configuration → List Item → List Item → Type 0
AreInOrder c before [] = Unit
AreInOrder c before (i ∷ items) = (refusal c before i ≡ None) × AreInOrder c (before ++ i ∷ []) items

pub own_one : (r : ℕ) (before : List Item) (i : Item) (b : Bool) → (rendition_of i == r) ≡ b → own r (before ++ i ∷ []) ≡ own r before ++ cond b (i ∷ []) []
own_one r before i b e = filter-append (λ i. rendition_of i == r) before (i ∷ []) ∙ ap (λ t. own r before ++ cond t (i ∷ []) []) e

pub same : (m n : ℕ) → (m == n) ≡ true → m ≡ n
same m n e = grind (arith, nat_tests)

in_order_by : (c : Configuration) (r : ℕ) (before items : List Item) (i : Item) (b : Bool) → (rendition_of i == r) ≡ b
    → refusal c (own (rendition_of i) before) i ≡ None
    → AreInOrder c (own r (before ++ i ∷ [])) (own r items) → AreInOrder c (own r before) (cond b (i ∷ own r items) (own r items))
in_order_by c r before items i true e h more =
    (rw (same (rendition_of i) r e) at h, rw (own_one r before i true e) at more)
in_order_by c r before items i false e h more = rw (own_one r before i false e ∙ append-nil (own r before)) at more

in_order-own : (c : Configuration) (r : ℕ) (before items : List Item) → AreAccepted c before items → AreInOrder c (own r before) (own r items)
in_order-own c r before [] h = tt
in_order-own c r before (i ∷ items) h =
    in_order_by c r before items i (rendition_of i == r) refl h.0 (in_order-own c r (before ++ i ∷ []) items h.1)

accepted-after : (c : Configuration) (before xs ys : List Item) → AreAccepted c before (xs ++ ys) → AreAccepted c (before ++ xs) ys
accepted-after c before [] ys h = rw (append-nil before) h
accepted-after c before (x ∷ xs) ys h = rw (append_assoc before (x ∷ []) xs) at (accepted-after c (before ++ x ∷ []) xs ys h.1)

-- of all accepted items, those of one rendition that stand after these
pub in-order : (c : Configuration) (r : ℕ) (items more : List Item) → AreAccepted c [] (items ++ more) → AreInOrder c (own r items) (own r more)
in-order c r items more h = in_order-own c r items more (accepted-after c [] items more h)

-- all parts together last until `end_time`
lasts_on : (t : Told) (ys : List Item) → t.end_time ≡ duration t.parts → (fold step t ys).end_time ≡ duration (fold step t ys).parts
lasts_on t [] e = e
lasts_on t (item.Part p ∷ ys) e =
    let d = duration-snoc t.parts (kept_part t.pending t.restart p) in
    lasts_on (step t (item.Part p)) ys (omega (arith, d, e))
lasts_on t (item.Finish q ∷ ys) e = lasts_on (step t (item.Finish q)) ys (e ∙ sym (duration-last t.parts))
lasts_on t (item.Break q time ∷ ys) e = lasts_on (step t (item.Break q time)) ys e
lasts_on t (item.Init q media ∷ ys) e = lasts_on (step t (item.Init q media)) ys e
lasts_on t (item.End q ∷ ys) e = lasts_on (step t (item.End q)) ys e
lasts_on t (item.Range q id attributes ∷ ys) e = lasts_on (step t (item.Range q id attributes)) ys e
lasts_on t (item.Unrange q id ∷ ys) e = lasts_on (step t (item.Unrange q id)) ys e

pub lasts : (items : List Item) → end_time items ≡ duration (parts items)
lasts items = lasts_on start items refl

-- these parts, of which the last finishes its segment, or as they are
abbrev pub marked : Bool → List Part → List Part
marked true ps = finished_last ps
marked false ps = ps

-- later parts are the earlier ones and more; a finish may have marked the last of the earlier ones
record HasMore (earlier later : List Part) : Type 0 where
  pub closes : Bool
  pub more : List Part
  pub longer : later ≡ marked closes earlier ++ more

and_part : (b : Bool) (ps : List Part) (p : Part) (more later : List Part) → later ≡ marked b (ps ++ p ∷ []) ++ more → HasMore ps later
and_part false ps p more later e = record { closes = false; more = p ∷ more; longer = e ∙ append_assoc ps (p ∷ []) more }
and_part true ps p more later e =
    let last : Part = record p { finish = true } in
    record { closes = false; more = last ∷ more; longer = e ∙ ap (λ xs. xs ++ more) (last-snoc ps p) ∙ append_assoc ps (last ∷ []) more }

last-twice : (ps : List Part) → finished_last (finished_last ps) ≡ finished_last ps
last-twice [] = refl
last-twice (p ∷ []) = refl
last-twice (p ∷ q ∷ []) = refl
last-twice (p ∷ q ∷ r ∷ more) = ap (λ xs. p ∷ xs) (last-twice (q ∷ r ∷ more))

and_finish : (b : Bool) (ps more later : List Part) → later ≡ marked b (finished_last ps) ++ more → HasMore ps later
and_finish false ps more later e = record { closes = true; more = more; longer = e }
and_finish true ps more later e = record { closes = true; more = more; longer = e ∙ ap (λ xs. xs ++ more) (last-twice ps) }

more_parts : (t : Told) (ys : List Item) → HasMore t.parts (fold step t ys).parts
more_parts t [] = record { closes = false; more = []; longer = sym (append-nil t.parts) }
more_parts t (item.Part p ∷ ys) =
    let h = more_parts (step t (item.Part p)) ys in
    and_part h.closes t.parts (kept_part t.pending t.restart p) h.more (fold step t (item.Part p ∷ ys)).parts h.longer
more_parts t (item.Finish q ∷ ys) =
    let h = more_parts (step t (item.Finish q)) ys in
    and_finish h.closes t.parts h.more (fold step t (item.Finish q ∷ ys)).parts h.longer
more_parts t (item.Break q time ∷ ys) = more_parts (step t (item.Break q time)) ys
more_parts t (item.Init q media ∷ ys) = more_parts (step t (item.Init q media)) ys
more_parts t (item.End q ∷ ys) = more_parts (step t (item.End q)) ys
more_parts t (item.Range q id attributes ∷ ys) = more_parts (step t (item.Range q id attributes)) ys
more_parts t (item.Unrange q id ∷ ys) = more_parts (step t (item.Unrange q id)) ys

-- later segments are the earlier ones and more, of which none is skipped, whatever their numbers and times
pub record IsLater (limit : ℕ) (before after : List Item) : Type 0 where
  pub more : List (List Part)
  pub longer : segments after ≡ segments before ++ more
  pub none : (n m t : ℕ) → skipped_in limit (duration (open_segment after)) (rows n m t more) ≡ 0

finished_after : (e : Bool) (gs : List (List Part)) (s : Split) → finished_by e (after gs s) ≡ gs ++ finished_by e s
finished_after true gs s = append_assoc gs s.finished (closed s.unfinished)
finished_after false gs s = refl

unfinished_after : (e : Bool) (gs : List (List Part)) (s : Split) → unfinished_by e (after gs s) ≡ unfinished_by e s
unfinished_after true gs s = refl
unfinished_after false gs s = refl

nothing_after : (c : Configuration) (xs ys : List Item) → ended xs ≡ true → AreInOrder c xs ys → ys ≡ []
nothing_after c xs [] e h = refl
nothing_after c xs (y ∷ ys) e h =
    let k = sym (ap (λ b. refusal_by b (refusal_before_end c xs y)) e) ∙ h.0 in absurd (grind (arith, k))

later_by : (c : Configuration) (limit : ℕ) (xs ys : List Item) (b : Bool) → ended xs ≡ b → AreInOrder c xs ys → end_time (xs ++ ys) ≤ end_time xs + limit
    → IsLater limit xs (xs ++ ys)
later_by c limit xs ys true e h le =
    rw (nothing_after c xs ys e h) (rw (append-nil xs) (record { more = []; longer = sym (append-nil (segments xs)); none = λ n m t. refl }))
later_by c limit xs ys false e in_order le = by h.closes (ap (λ (t : Told). t.parts) (fold-append step start xs ys) ∙ h.longer)
  where
    ps : List Part
    ps = parts xs

    h : HasMore ps (fold step (told xs) ys).parts
    h = more_parts (told xs) ys

    qs : List Part
    qs = h.more

    u : List Part
    u = (split ps).unfinished

    f : Bool
    f = ended (xs ++ ys)

    by : (closes : Bool) → parts (xs ++ ys) ≡ marked closes ps ++ qs → IsLater limit xs (xs ++ ys)
    by false all = record {
      more = finished_by f (split (u ++ qs));
      longer = ap (λ ps. finished_by f (split ps)) all ∙ ap (finished_by f) (split-append ps qs) ∙ finished_after f (split ps).finished (split (u ++ qs))
          ∙ ap (λ b. finished_by b (split ps) ++ finished_by f (split (u ++ qs))) (sym e);
      none = λ n m t. ap (λ ps. skipped_in limit (duration (unfinished_by f (split ps))) (rows n m t (finished_by f (split (u ++ qs))))) all
          ∙ ap (λ (s : Split). skipped_in limit (duration (unfinished_by f s)) (rows n m t (finished_by f (split (u ++ qs))))) (split-append ps qs)
          ∙ ap (λ ps. skipped_in limit (duration ps) (rows n m t (finished_by f (split (u ++ qs))))) (unfinished_after f (split ps).finished (split (u ++ qs)))
          ∙ none-later limit n m t f u qs (going-unfinished ps)
          (let a = duration-append u qs in let b = duration-append ps qs in let d = ap duration all in let x = lasts xs in let y = lasts (xs ++ ys) in omega arith);
    }
    -- a finish ends the segment that was open, and the parts after it make others
    by true all =
        let gs = (split ps).finished in
        let last = closed (finished_last u) in
        let cut : split (parts (xs ++ ys)) ≡ after (gs ++ last) (split qs) =
        ap split all ∙ split-append (finished_last ps) qs ∙ ap (λ (s : Split). after s.finished (split (s.unfinished ++ qs))) (split-last ps) in
        record {
          more = last ++ finished_by f (split qs);
          longer = ap (finished_by f) cut ∙ finished_after f (gs ++ last) (split qs) ∙ append_assoc gs last (finished_by f (split qs))
              ∙ ap (λ b. finished_by b (split ps) ++ (last ++ finished_by f (split qs))) (sym e);
          none = λ n m t. ap (λ (s : Split). skipped_in limit (duration (unfinished_by f s)) (rows n m t (last ++ finished_by f (split qs)))) cut
              ∙ ap (λ ps. skipped_in limit (duration ps) (rows n m t (last ++ finished_by f (split qs)))) (unfinished_after f (gs ++ last) (split qs))
              ∙ none-finished limit n m t f (finished_last u) qs
              (let a = duration-append (finished_last ps) qs in let b = duration-last ps in let d = ap duration all in let x = lasts xs in let y = lasts (xs ++ ys) in omega arith);
        }

pub is-later : (c : Configuration) (limit : ℕ) (xs ys : List Item) → AreInOrder c xs ys → end_time (xs ++ ys) ≤ end_time xs + limit → IsLater limit xs (xs ++ ys)
is-later c limit xs ys h le = later_by c limit xs ys (ended xs) refl h le
