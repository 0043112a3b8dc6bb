-- What is there follows from the position of the last part, and from the number of finished segments.
use Rattle.std.proofs.Common.{◌≡◌, ℕ, ◌+◌, ◌≤◌, ◌&&◌, ◌||◌, List, [], ◌∷◌, ◌++◌, Bool, true, false, cond, length, nat_le, nat_lt, refl, ap, ap₂, sym, subst, ◌*◌, ◌∙◌, arith, Option, Some, None, length-append}
use Rattle.std.proofs.lemmas.Bool.Decides.{nat_tests}
use Rattle.std.proofs.lemmas.List.Folds.{list_any-append}
use Rattle.std.proofs.lemmas.List.Sums.{fold-append}
use Rattle.std.specs.List.{list_any}
use Rattle.ll_item.specs.Items.{is_about_ranges}
use Rattle.ll_settings.specs.Settings.{Configuration}
use Rattle.ll_item.specs.declared.item.Item.{Item}
use Rattle.ll_item.specs.declared.item.Item.TheVariants as item
use Rattle.ll_item.specs.declared.part.Part.{Part}
use Rattle.ll_window.specs.declared.part_position.PartPosition.{PartPosition}
use Rattle.ll_window.specs.Compact.{Compact, compact}
use Rattle.ll_window.specs.Numbers.{NumberedPart, numbered_parts, last_place, placed}
use Rattle.ll_window.specs.Rows.{Row, begun, rows, one_if, is_broken}
use Rattle.ll_window.specs.Segments.{Split, split, closed, finished_by, unfinished_by, segments, duration}
use Rattle.ll_item.specs.Told.{Told, finished_last, kept_part, start, step, told}
use Rattle.ll_window.specs.Wants.{place_of, reaches, holds_part, holds_segment, WantsLaw}
use Rattle.ll_window.proofs.NumberLemmas.{laid, by_places, laid-by}
use Rattle.ll_window.proofs.SplitLemmas.{added_by, many-closed, place-last, split-last, split-snoc, with_last}

-- the parts, by the last of them

abbrev held : ℕ → ℕ → List NumberedPart → Bool
held msn part xs = list_any (λ p. reaches msn part (place_of p)) xs

abbrev pub held_by : ℕ → ℕ → Option PartPosition → Bool
held_by msn part None = false
held_by msn part (Some last) = reaches msn part last

abbrev place : ℕ → ℕ → PartPosition
place number index = record { number = number; index = index }

abbrev numbered : ℕ → ℕ → Part → NumberedPart
numbered number index p = record { number = number; index = index; part = p }

-- a part that comes after one that reaches does so too
later : (t u more : Bool) → (t ≡ true → u ≡ true) → (t || (u || more)) ≡ (u || more)
later true true more h = refl
later true false more h = absurd (grind (arith, h))
later false u more h = refl

one : (m p n i : ℕ) (x : Part) (b : Bool) → held m p (numbered n i x ∷ cond b [] []) ≡ held_by m p (last_place (numbered n i x ∷ cond b [] []))
one m p n i x true = grind (arith)
one m p n i x false = grind (arith)

two : (m p n i : ℕ) (x y : Part) (ys : List Part) (b : Bool)
    → held m p (numbered_parts (n + 1) 0 (y ∷ ys)) ≡ held_by m p (last_place (numbered_parts (n + 1) 0 (y ∷ ys)))
    → held m p (numbered_parts n (i + 1) (y ∷ ys)) ≡ held_by m p (last_place (numbered_parts n (i + 1) (y ∷ ys)))
    → held m p (numbered n i x ∷ cond b (numbered_parts (n + 1) 0 (y ∷ ys)) (numbered_parts n (i + 1) (y ∷ ys)))
    ≡ held_by m p (last_place (numbered n i x ∷ cond b (numbered_parts (n + 1) 0 (y ∷ ys)) (numbered_parts n (i + 1) (y ∷ ys))))
two m p n i x y ys true e f = later (reaches m p (place n i)) (reaches m p (place (n + 1) 0)) _ (λ t. grind (arith, nat_tests, t)) ∙ e
two m p n i x y ys false e f = later (reaches m p (place n i)) (reaches m p (place n (i + 1))) _ (λ t. grind (arith, nat_tests, t)) ∙ f

by_last : (m p n i : ℕ) (ps : List Part) → held m p (numbered_parts n i ps) ≡ held_by m p (last_place (numbered_parts n i ps))
by_last m p n i [] = refl
by_last m p n i (x ∷ []) = one m p n i x x.finish
by_last m p n i (x ∷ y ∷ ys) = two m p n i x y ys x.finish (by_last m p (n + 1) 0 (y ∷ ys)) (by_last m p n (i + 1) (y ∷ ys))

pub part_told : (k : Compact) (items : List Item) (m p : ℕ) → k ≡ compact k.settings items → held_by m p k.last ≡ holds_part k.settings items m p
part_told k items m p reached = ap (λ (x : Compact). held_by m p x.last) reached ∙ sym (by_last m p k.settings.first 0 (told items).parts)

-- the finished segments, by how many they are

by_count : (m n maps time : ℕ) (gs : List (List Part))
    → list_any (λ (r : Row). nat_le m r.segment.number) (rows n maps time gs) ≡ (nat_lt n (n + length gs) && nat_lt m (n + length gs))
by_count m n maps time [] = grind (arith, nat_tests)
by_count m n maps time (g ∷ gs) =
    let rest = by_count m (n + 1) (maps + one_if (is_broken g)) (begun time g + duration g) gs in
    ap (λ b. nat_le m n || b) rest ∙ grind (arith, nat_tests)

pub segment_told : (k : Compact) (items : List Item) (m : ℕ) → k ≡ compact k.settings items
    → (nat_lt k.settings.first k.next_number && nat_lt m k.next_number) ≡ holds_segment k.settings items m
segment_told k items m reached =
    ap (λ (x : Compact). nat_lt k.settings.first x.next_number && nat_lt m x.next_number) reached
    ∙ sym (by_count m k.settings.first 0 (k.settings.start * 1000) (segments items))

-- what is there stays there

held_step : (b t more rest more' rest' : Bool) → (more ≡ true → more' ≡ true) → (rest ≡ true → rest' ≡ true)
    → (t || cond b more rest) ≡ true → (t || cond b more' rest') ≡ true
held_step b true more rest more' rest' f g e = refl
held_step true false more rest more' rest' f g e = f e
held_step false false more rest more' rest' f g e = g e

held_any : (m p : ℕ) (x : NumberedPart) (xs ys : List NumberedPart) (b : Bool)
    → held m p (x ∷ cond b xs ys) ≡ (reaches m p (place_of x) || cond b (held m p xs) (held m p ys))
held_any m p x xs ys true = refl
held_any m p x xs ys false = refl

held-append : (m p n i : ℕ) (ps qs : List Part) → held m p (numbered_parts n i ps) ≡ true → held m p (numbered_parts n i (ps ++ qs)) ≡ true
held-append m p n i [] qs e = absurd (grind (arith, e))
held-append m p n i (x ∷ ps) qs e =
    held_any m p (numbered n i x) _ _ x.finish
    ∙ held_step x.finish _ _ _ _ _ (held-append m p (n + 1) 0 ps qs) (held-append m p n (i + 1) ps qs) (sym (held_any m p (numbered n i x) _ _ x.finish) ∙ e)

part_stays : (m p n : ℕ) (t : Told) (i : Item) → held m p (numbered_parts n 0 t.parts) ≡ true → held m p (numbered_parts n 0 (step t i).parts) ≡ true
part_stays m p n t (item.Part part) e = held-append m p n 0 t.parts _ e
part_stays m p n t (item.Finish r) e =
    by_last m p n 0 (finished_last t.parts) ∙ ap (held_by m p) (place-last n 0 t.parts) ∙ sym (by_last m p n 0 t.parts) ∙ e
part_stays m p n t (item.Break r ms) e = e
part_stays m p n t (item.Init r media) e = e
part_stays m p n t (item.End r) e = e
part_stays m p n t (item.Range r id attributes) e = e
part_stays m p n t (item.Unrange r id) e = e

parts_stay : (c : Configuration) (items : List Item) (i : Item) (m p : ℕ) → holds_part c items m p ≡ true → holds_part c (items ++ i ∷ []) m p ≡ true
parts_stay c items i m p e =
    ap (λ (t : Told). held m p (numbered_parts c.first 0 t.parts)) (fold-append step start items (i ∷ []))
    ∙ part_stays m p c.first (told items) i e

-- how many segments are finished
abbrev count : Told → ℕ
count t = length (finished_by t.ended (split t.parts))

at_most_one : (ps : List Part) → length (closed ps) ≤ 1
at_most_one [] = omega arith
at_most_one (p ∷ ps) = omega arith

some_closed : (ps : List Part) (p : Part) → length (closed (ps ++ p ∷ [])) ≡ 1
some_closed [] p = refl
some_closed (q ∷ ps) p = refl

no_fewer_by : (e b : Bool) (s : Split) (p : Part) → length (finished_by e s) ≤ length (finished_by e (added_by b s p))
no_fewer_by true true s p =
    omega (arith, length-append s.finished (closed s.unfinished), at_most_one s.unfinished, length-append (s.finished ++ (s.unfinished ++ p ∷ []) ∷ []) [], length-append s.finished ((s.unfinished ++ p ∷ []) ∷ []))
no_fewer_by true false s p =
    omega (arith, length-append s.finished (closed s.unfinished), at_most_one s.unfinished, length-append s.finished (closed (s.unfinished ++ p ∷ [])), some_closed s.unfinished p)
no_fewer_by false true s p = omega (arith, length-append s.finished ((s.unfinished ++ p ∷ []) ∷ []))
no_fewer_by false false s p = omega arith

ended_more : (e : Bool) (s : Split) → length (finished_by e s) ≤ length (finished_by true s)
ended_more true s = omega arith
ended_more false s = omega (arith, length-append s.finished (closed s.unfinished))

last_more : (e : Bool) (s : Split) → length (finished_by e s) ≤ length (finished_by e (with_last s))
last_more true s =
    let m = many-closed s.unfinished in
    omega (arith, m, length-append s.finished (closed s.unfinished), length-append s.finished (closed (finished_last s.unfinished)), length-append (s.finished ++ closed (finished_last s.unfinished)) [])
last_more false s = omega (arith, length-append s.finished (closed (finished_last s.unfinished)))

no_fewer : (t : Told) (i : Item) → count t ≤ count (step t i)
no_fewer t (item.Part part) =
    let p : Part = kept_part t.pending t.restart part in
    let more = no_fewer_by t.ended part.finish (split t.parts) p in
    let e = ap (λ s. length (finished_by t.ended s)) (split-snoc t.parts p) in omega (arith, more, e)
no_fewer t (item.Finish r) =
    let more = last_more t.ended (split t.parts) in
    let e = ap (λ s. length (finished_by t.ended s)) (split-last t.parts) in omega (arith, more, e)
no_fewer t (item.Break r ms) = omega arith
no_fewer t (item.Init r media) = omega arith
no_fewer t (item.End r) = ended_more t.ended (split t.parts)
no_fewer t (item.Range r id attributes) = omega arith
no_fewer t (item.Unrange r id) = omega arith

more_segments : (m n a b : ℕ) → a ≤ b → (nat_lt n (n + a) && nat_lt m (n + a)) ≡ true → (nat_lt n (n + b) && nat_lt m (n + b)) ≡ true
more_segments m n a b le e = grind (arith, nat_tests)

segments_stay : (c : Configuration) (items : List Item) (i : Item) (m : ℕ) → holds_segment c items m ≡ true → holds_segment c (items ++ i ∷ []) m ≡ true
segments_stay c items i m e =
    let f = ap count (fold-append step start items (i ∷ [])) in
    let more = no_fewer (told items) i in
    by_count m c.first 0 (c.start * 1000) (segments (items ++ i ∷ []))
    ∙ more_segments m c.first (count (told items)) (count (told (items ++ i ∷ []))) (omega (arith, f, more))
    (sym (by_count m c.first 0 (c.start * 1000) (segments items)) ∙ e)

-- date ranges

abbrev both : Configuration → ℕ → ℕ → Told → Bool × Bool
both c m p t = (
  held m p (numbered_parts c.first 0 t.parts),
  list_any (λ (r : Row). nat_le m r.segment.number) (rows c.first 0 (c.start * 1000) (finished_by t.ended (split t.parts))),
)

silent_step : (c : Configuration) (m p : ℕ) (t : Told) (i : Item) → is_about_ranges i ≡ true → both c m p (step t i) ≡ both c m p t
silent_step c m p t (item.Part part) h = absurd (grind (arith, h))
silent_step c m p t (item.Finish r) h = absurd (grind (arith, h))
silent_step c m p t (item.Break r ms) h = absurd (grind (arith, h))
silent_step c m p t (item.Init r media) h = absurd (grind (arith, h))
silent_step c m p t (item.End r) h = absurd (grind (arith, h))
silent_step c m p t (item.Range r id attributes) h = refl
silent_step c m p t (item.Unrange r id) h = refl

silent : (c : Configuration) (items : List Item) (i : Item) (m p : ℕ) → is_about_ranges i ≡ true → both c m p (told (items ++ i ∷ [])) ≡ both c m p (told items)
silent c items i m p h = ap (both c m p) (fold-append step start items (i ∷ [])) ∙ silent_step c m p (told items) i h

-- an index past the end of a segment

abbrev alike : ℕ → ℕ → List NumberedPart → Type 0
alike m p xs = held m p xs ≡ held (m + 1) 0 xs

alike-append : (m p : ℕ) (xs ys : List NumberedPart) → alike m p xs → alike m p ys → alike m p (xs ++ ys)
alike-append m p xs ys e f =
    list_any-append (λ x. reaches m p (place_of x)) xs ys
    ∙ ap₂ (λ a b. a || b) e f
    ∙ sym (list_any-append (λ x. reaches (m + 1) 0 (place_of x)) xs ys)

-- the parts of another segment
alike-other : (m p n i : ℕ) (ps : List Part) → (n ≡ m → ⊥) → alike m p (placed n i ps)
alike-other m p n i [] h = refl
alike-other m p n i (x ∷ ps) h = ap₂ (λ a b. a || b) (grind (arith, nat_tests, h)) (alike-other m p n (i + 1) ps h)

-- those of its own, none of which has the index
alike-own : (m p i : ℕ) (ps : List Part) → i + length ps ≤ p → alike m p (placed m i ps)
alike-own m p i [] h = refl
alike-own m p i (x ∷ ps) h = ap₂ (λ a b. a || b) (grind (arith, nat_tests)) (alike-own m p (i + 1) ps (omega (arith, h)))

alike-after : (m p n : ℕ) (gs : List (List Part)) (rest : List Part) → m + 1 ≤ n → alike m p (laid n 0 gs rest)
alike-after m p n [] rest h = alike-other m p n 0 rest (λ e. omega (arith, e, h))
alike-after m p n (g ∷ gs) rest h =
    alike-append m p (placed n 0 g) _ (alike-other m p n 0 g (λ e. omega (arith, e, h))) (alike-after m p (n + 1) gs rest (omega (arith, h)))

alike-laid : (p n m : ℕ) (before after : List (List Part)) (g rest : List Part) → length g ≤ p → m ≡ n + length before
    → alike m p (laid n 0 (before ++ g ∷ after) rest)
alike-laid p n m [] after g rest h e =
    let same : m ≡ n = omega (arith, e) in
    alike-append m p (placed n 0 g) _ (subst (λ x. alike m p (placed x 0 g)) same (alike-own m p 0 g (omega (arith, h)))) (alike-after m p (n + 1) after rest (omega (arith, same)))
alike-laid p n m (b ∷ before) after g rest h e =
    alike-append m p (placed n 0 b) _ (alike-other m p n 0 b (λ f. omega (arith, e, f))) (alike-laid p (n + 1) m before after g rest h (omega (arith, e)))

past_the_end : (c : Configuration) (items : List Item) (before after : List (List Part)) (g : List Part) (p : ℕ) → segments items ≡ before ++ g ∷ after → length g ≤ p
    → holds_part c items (c.first + length before) p ≡ holds_part c items (c.first + length before + 1) 0
past_the_end c items before after g p e h =
    let t = told items in
    let m = c.first + length before in
    let all : numbered_parts c.first 0 t.parts ≡ laid c.first 0 (before ++ g ∷ after) (unfinished_by t.ended (split t.parts)) =
    by_places c.first 0 t.parts ∙ sym (laid-by t.ended c.first (split t.parts)) ∙ ap (λ gs. laid c.first 0 gs (unfinished_by t.ended (split t.parts))) e in
    subst (alike m p) (sym all) (alike-laid p c.first m before after g (unfinished_by t.ended (split t.parts)) h refl)

pub wants-law : WantsLaw
wants-law = record {
  parts_stay = parts_stay;
  segments_stay = segments_stay;
  ranges = λ c items i m p h. (let e = silent c items i m p h in (ap (λ b. b.0) e, ap (λ b. b.1) e));
  past_the_end = past_the_end;
}
