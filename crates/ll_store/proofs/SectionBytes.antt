-- The sections that are kept with one more item.
use Rattle.std.proofs.Common.{◌≡◌, ℕ, ◌+◌, ◌≤◌, ◌==◌, Bool, true, false, not, cond, List, [], ◌∷◌, ◌++◌, filter, nat_le, refl, ap, sym, subst, true≢false, ◌∙◌, append_assoc, arith}
use Rattle.std.proofs.lemmas.Bool.Decides.{nat_tests}
use Rattle.std.proofs.lemmas.List.{append-nil}
use Rattle.std.proofs.lemmas.List.Elements.{filter-append}
use Rattle.ll_settings.specs.Settings.{Configuration}
use Rattle.ll_item.specs.Told.{finished_last, kept_part}
use Rattle.ll_item.specs.declared.item.Item.{Item}
use Rattle.ll_item.specs.declared.item.Item.TheVariants as item
use Rattle.ll_item.specs.declared.part.Part.{Part}
use Rattle.ll_window.proofs.StepLemmas.{compact-snoc}
use Rattle.ll_window.proofs.WindowLemmas.{broken-cons, shown-segment}
use Rattle.ll_window.specs.Compact.{Compact, breaks_next, compact, first_broken, first_map, map_now}
use Rattle.ll_window.specs.Rows.{Row, broken_in, is_broken, lasting, one_if, row}
use Rattle.ll_window.specs.Segments.{duration, ended}
use Rattle.ll_window.specs.Step.{after_segment, ended_by, finished_by, grown_by, joined, with_item, with_open, with_part_by}
use Rattle.ll_window.specs.declared.segment.Segment.{Segment}
use Rattle.ll_window.specs.Window.{gone, listed, near_limit, window, window_limit}
use Rattle.ll_store.specs.Media.{store}
use Rattle.ll_store.specs.declared.segment.Section.{Section}
use Rattle.ll_store.specs.Sections.{and_section, kept_sections, sections, sections_from, with_section}
use Rattle.ll_store.specs.Step.{brought_by, grown}

-- ---- all that were set

from-snoc : (c : Configuration) (before : List Item) (set : List Section) (items : List Item) (i : Item)
    → sections_from c before set (items ++ i ∷ []) ≡ and_section (compact c (before ++ items)) (sections_from c before set items) i
from-snoc c before set [] i = ap (λ is. and_section (compact c is) set i) (sym (append-nil before))
from-snoc c before set (j ∷ items) i =
    from-snoc c (before ++ j ∷ []) (and_section (compact c before) set j) items i
    ∙ ap (λ is. and_section (compact c is) (sections_from c before set (j ∷ items)) i) (append_assoc before (j ∷ []) items)

pub sections-snoc : (c : Configuration) (items : List Item) (i : Item) → sections c (items ++ i ∷ []) ≡ and_section (compact c items) (sections c items) i
sections-snoc c items i = from-snoc c [] [] items i

-- ---- which of them is in force first

head-listed : (near tail : ℕ) (rs : List Row) (other : Bool) → first_broken (listed near tail rs) other ≡ first_broken rs other
head-listed near tail [] other = refl
head-listed near tail (r ∷ rs) other = ap (λ (s : Segment). s.broken) (shown-segment _ r)

-- the first one stays so, or counts among those that have left
head_by : (b : Bool) (least : ℕ) (r : Row) (rs : List Row) (other : Bool)
    → one_if r.segment.broken ≤ broken_in (cond b (r ∷ gone least rs) []) + one_if (first_broken (cond b (window least rs) (r ∷ rs)) other)
head_by true least r rs other = omega (arith, broken-cons r (gone least rs))
head_by false least r rs other = omega arith

head-stays : (least : ℕ) (rs : List Row) (s : Row) (other : Bool) → one_if (first_broken rs s.segment.broken)
    ≤ broken_in (gone least (rs ++ s ∷ [])) + one_if (first_broken (window least (rs ++ s ∷ [])) other)
head-stays least [] s other = head_by (nat_le least (lasting [])) least s [] other
head-stays least (r ∷ rs) s other = head_by (nat_le least (lasting (rs ++ s ∷ []))) least r (rs ++ s ∷ []) other

with_parts : (ps : List Part) (pending : Bool) → (ps ≡ [] → ⊥) → breaks_next ps pending ≡ is_broken ps
with_parts [] pending some = absurd (some refl)
with_parts (p ∷ ps) pending some = refl

after-later : (k : Compact) → (k.open_parts ≡ [] → ⊥) → first_map k ≤ first_map (after_segment k)
after-later k some =
    let j = joined k in
    let same = head-listed (near_limit k.settings) (duration j.open_parts) j.window k.pending in
    let its : first_map k ≡ k.discontinuity + one_if (first_broken k.window (is_broken k.open_parts)) =
    ap (λ b. k.discontinuity + one_if (first_broken k.window b)) (with_parts k.open_parts k.pending some) in
    let stays = head-stays (window_limit k.settings) k.window (row k.next_number k.maps k.open_time k.open_parts) k.pending in
    subst (λ b. first_map k ≤ j.discontinuity + one_if b) (sym same) (omega (arith, its, stays))

open_by : (ps : List Part) (p : Part) (rs : List Row) (pending : Bool) → p.after_break ≡ pending
    → one_if (first_broken rs (breaks_next ps pending)) ≤ one_if (first_broken rs (breaks_next (ps ++ p ∷ []) false))
open_by [] p [] pending e = let same = ap one_if e in omega (arith, same)
open_by (q ∷ ps) p [] pending e = omega arith
open_by ps p (r ∷ rs) pending e = omega arith

open-later : (k : Compact) (p : Part) → p.after_break ≡ k.pending → first_map k ≤ first_map (with_open k p)
open-later k p e =
    let g = grown_by k p in
    let same = head-listed (near_limit k.settings) (duration g.open_parts) k.window (breaks_next g.open_parts false) in
    subst (λ b. first_map k ≤ k.discontinuity + one_if b) (sym same) (omega (arith, open_by k.open_parts p k.window k.pending e))

one_more : (ps : List Part) (p : Part) → ps ++ p ∷ [] ≡ [] → ⊥
one_more [] p e = absurd (cc)
one_more (q ∷ ps) p e = absurd (cc)

by_finish : (f : Bool) (k : Compact) (p : Part) → p.after_break ≡ k.pending → first_map k ≤ first_map (with_part_by f k p)
by_finish true k p e = omega (arith, open-later k p e, after-later (with_open k p) (one_more k.open_parts p))
by_finish false k p e = open-later k p e

none_cons : (p : Part) (ps : List Part) → p ∷ ps ≡ [] → ⊥
none_cons p ps e = absurd (cc)

by_end : (ps : List Part) (k : Compact) → k.open_parts ≡ ps → first_map k ≤ first_map (ended_by ps k)
by_end [] k is = omega arith
by_end (p ∷ ps) k is = after-later (record k { ended = true }) (λ none. none_cons p ps (sym is ∙ none))

same_broken : (p : Part) (ps : List Part) (b : Bool) → breaks_next (finished_last (p ∷ ps)) b ≡ breaks_next (p ∷ ps) b
same_broken p [] b = refl
same_broken p (q ∷ ps) b = refl

some_last : (p : Part) (ps : List Part) → finished_last (p ∷ ps) ≡ [] → ⊥
some_last p [] e = absurd (cc)
some_last p (q ∷ ps) e = absurd (cc)

by_last : (ps : List Part) (k : Compact) → k.open_parts ≡ ps → first_map k ≤ first_map (finished_by ps k)
by_last [] k is = omega arith
by_last (p ∷ ps) k is =
    let same : first_map k ≡ first_map (record k { open_parts = finished_last (p ∷ ps) }) =
    ap (λ (os : List Part). first_map (record k { open_parts = os })) is ∙ ap (λ b. k.discontinuity + one_if (first_broken k.window b)) (sym (same_broken p ps k.pending)) in
    omega (arith, same, after-later (record k { open_parts = finished_last (p ∷ ps) }) (some_last p ps))

-- a break only adds to it
broken_now : (rs : List Row) (ps : List Part) (pending : Bool) (n : ℕ) → n + one_if (first_broken rs (breaks_next ps pending)) ≤ n + one_if (first_broken rs (breaks_next ps true))
broken_now [] [] true n = omega arith
broken_now [] [] false n = omega arith
broken_now [] (p ∷ ps) pending n = omega arith
broken_now (r ∷ rs) ps pending n = omega arith

later : (k : Compact) (i : Item) → first_map k ≤ first_map (with_item k i)
later k (item.Part part) = by_finish part.finish k (kept_part k.pending k.restart part) refl
later k (item.Finish r) = by_last k.open_parts k refl
later k (item.End r) = by_end k.open_parts k refl
later k (item.Init r media) = omega arith
later k (item.Break r time) = broken_now k.window k.open_parts k.pending k.discontinuity
later k (item.Range r id attributes) = omega arith
later k (item.Unrange r id) = omega arith

-- ---- what is kept

absorbed : (b d : Bool) (s : Section) (xs ys : List Section) → (d ≡ true → b ≡ true) → xs ≡ ys → cond b (cond d (s ∷ xs) xs) xs ≡ cond d (s ∷ ys) ys
absorbed true true s xs ys h e = ap (λ l. s ∷ l) e
absorbed true false s xs ys h e = e
absorbed false true s xs ys h e = absurd (true≢false (sym (h refl)))
absorbed false false s xs ys h e = e

more : (a b n : ℕ) → a ≤ b → nat_le b n ≡ true → nat_le a n ≡ true
more a b n le h = grind (arith, nat_tests)

filter_by : {A : Type 0} (p : A → Bool) (b : Bool) (x : A) (xs : List A) → filter p (cond b (x ∷ xs) xs) ≡ cond b (cond (p x) (x ∷ filter p xs) (filter p xs)) (filter p xs)
filter_by p true x xs = refl
filter_by p false x xs = refl

kept-again : (k k2 : Compact) (set : List Section) → first_map k ≤ first_map k2 → kept_sections k2 (kept_sections k set) ≡ kept_sections k2 set
kept-again k k2 [] le = refl
kept-again k k2 (s ∷ set) le =
    filter_by (λ (s : Section). nat_le (first_map k2) s.number) (nat_le (first_map k) s.number) s (kept_sections k set)
    ∙ absorbed (nat_le (first_map k) s.number) (nat_le (first_map k2) s.number) s (kept_sections k2 (kept_sections k set)) (kept_sections k2 set)
    (more (first_map k) (first_map k2) s.number le) (kept-again k k2 set le)

-- those of another number
abbrev others : ℕ → List Section → List Section
others n set = filter (λ (s : Section). not (s.number == n)) set

others_by : (b d o : Bool) (s : Section) (xs ys : List Section) → (d ≡ true → b ≡ true) → xs ≡ ys
    → cond b (cond o (cond d (s ∷ xs) xs) xs) xs ≡ cond o (cond d (s ∷ ys) ys) ys
others_by true true true s xs ys h e = ap (λ l. s ∷ l) e
others_by true false true s xs ys h e = e
others_by true d false s xs ys h e = e
others_by false true o s xs ys h e = absurd (true≢false (sym (h refl)))
others_by false false true s xs ys h e = e
others_by false false false s xs ys h e = e

two_by : {A : Type 0} (p q : A → Bool) (b : Bool) (x : A) (xs : List A)
    → filter p (filter q (cond b (x ∷ xs) xs))
    ≡ cond b (cond (q x) (cond (p x) (x ∷ filter p (filter q xs)) (filter p (filter q xs))) (filter p (filter q xs))) (filter p (filter q xs))
two_by p q true x xs = filter_by p (q x) x (filter q xs)
two_by p q false x xs = refl

others-again : (k k2 : Compact) (n : ℕ) (set : List Section) → first_map k ≤ first_map k2
    → kept_sections k2 (others n (kept_sections k set)) ≡ kept_sections k2 (others n set)
others-again k k2 n [] le = refl
others-again k k2 n (s ∷ set) le =
    let kept = λ (s : Section). nat_le (first_map k2) s.number in
    let other = λ (s : Section). not (s.number == n) in
    two_by kept other (nat_le (first_map k) s.number) s (kept_sections k set)
    ∙ others_by (nat_le (first_map k) s.number) (nat_le (first_map k2) s.number) (not (s.number == n)) s
    (kept_sections k2 (others n (kept_sections k set))) (kept_sections k2 (others n set))
    (more (first_map k) (first_map k2) s.number le) (others-again k k2 n set le)
    ∙ sym (filter_by kept (not (s.number == n)) s (others n set))

with-again : (k k2 : Compact) (n : ℕ) (bytes : List ℕ) (set : List Section) → first_map k ≤ first_map k2
    → kept_sections k2 (with_section n bytes set) ≡ kept_sections k2 (with_section n bytes (kept_sections k set))
with-again k k2 n bytes set le =
    let new = (record { number = n; bytes = bytes }) ∷ [] in
    let kept = λ (s : Section). nat_le (first_map k2) s.number in
    filter-append kept (others n set) new
    ∙ ap (λ l. l ++ filter kept new) (sym (others-again k k2 n set le))
    ∙ sym (filter-append kept (others n (kept_sections k set)) new)

section_by : (c : Configuration) (items : List Item) (k2 : Compact) (i : Item) → first_map (compact c items) ≤ first_map k2
    → kept_sections k2 (and_section (compact c items) (sections c items) i) ≡ kept_sections k2 (grown (map_now (compact c items)) (store c items) (brought_by i)).sections
section_by c items k2 (item.Init r media) le = with-again (compact c items) k2 (map_now (compact c items)) media (sections c items) le
section_by c items k2 (item.Part part) le = sym (kept-again (compact c items) k2 (sections c items) le)
section_by c items k2 (item.Finish r) le = sym (kept-again (compact c items) k2 (sections c items) le)
section_by c items k2 (item.Break r time) le = sym (kept-again (compact c items) k2 (sections c items) le)
section_by c items k2 (item.End r) le = sym (kept-again (compact c items) k2 (sections c items) le)
section_by c items k2 (item.Range r id attributes) le = sym (kept-again (compact c items) k2 (sections c items) le)
section_by c items k2 (item.Unrange r id) le = sym (kept-again (compact c items) k2 (sections c items) le)

pub section-step : (c : Configuration) (items : List Item) (i : Item) → ended items ≡ false
    → kept_sections (compact c (items ++ i ∷ [])) (sections c (items ++ i ∷ []))
    ≡ kept_sections (compact c (items ++ i ∷ [])) (grown (map_now (compact c items)) (store c items) (brought_by i)).sections
section-step c items i going =
    let k2 = compact c (items ++ i ∷ []) in
    let le : first_map (compact c items) ≤ first_map k2 =
    subst (λ k. first_map (compact c items) ≤ first_map k) (sym (compact-snoc c items i going)) (later (compact c items) i) in
    ap (kept_sections k2) (sections-snoc c items i) ∙ section_by c items k2 i le
