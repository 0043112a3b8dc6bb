-- An item releases exactly the requests for what is there with it and wasn't before. First for the items of one rendition, by what is kept of them;
-- then for a request; then for all open requests, none of which was due before.
use Rattle.std.proofs.Common.{◌≡◌, ◌≢◌, ℕ, ◌+◌, ◌≤◌, ◌==◌, List, [], ◌∷◌, ◌++◌, Bool, true, false, ◌&&◌, ◌||◌, cond, nat_le, nat_lt, Option, Some, None, is_none, refl, ap, ap₂, ◌∙◌, sym, true≢false, map, length, arith}
use Rattle.std.proofs.lemmas.Bool.Decides.{nat_tests}
use Rattle.ll_item.specs.Items.{rendition_of}
use Rattle.ll_settings.specs.Settings.{Configuration}
use Rattle.ll_item.specs.declared.item.Item.{Item}
use Rattle.ll_item.specs.declared.item.Item.TheVariants as item
use Rattle.ll_directive.specs.declared.want.Awaited.{Awaited}
use Rattle.ll_directive.specs.declared.want.Awaited.TheVariants.{Nothing, Segment, Part}
use Rattle.ll_page.proofs.RenditionLemmas.{own-same, own-other}
use Rattle.ll_item.specs.declared.part.Part as part
use Rattle.ll_window.specs.Compact.{Compact, compact}
use Rattle.ll_window.specs.Segments.{own, ended}
use Rattle.ll_item.specs.Told.{kept_part}
use Rattle.ll_window.specs.Step.{ended_by, finished_by, with_item, with_part_by}
use Rattle.ll_window.proofs.StepLemmas.{compact-snoc}
use Rattle.ll_window.proofs.WantLemmas.{held_by, part_told, segment_told}
use Rattle.ll_verdict.specs.State.{settle}
use Rattle.ll_verdict.specs.Verdict.{given, holds, is_there, media_of, page_of, reply_with}
use Rattle.ll_verdict.specs.declared.entry.Entry.{Entry}
use Rattle.ll_verdict.specs.declared.entry.Slot.{Slot}
use Rattle.ll_verdict.specs.declared.reply.Settled.{Settled}
use Rattle.ll_verdict.specs.declared.reply.Settled.TheVariants.{Timeout}
use Rattle.ll_verdict.specs.declared.wanted.Wanted.{Wanted}
use Rattle.ll_verdict.proofs.ListLemmas.{Each}
use Rattle.ll_book.specs.Release.{Supply, frees, given_if, given_in, part_comes, segment_comes}
use Rattle.ll_book.specs.declared.release.Release.{Release}
use Rattle.ll_book.specs.declared.release.Release.TheVariants as release
use Rattle.ll_book.specs.Releases.{finish_release, first_release, second_release, segment_if}
use Rattle.ll_room.specs.Freed.{freed}
use Rattle.ll_room.proofs.IdleLemmas.{Idle}

-- one rendition

-- a finish makes the open segment available, if there is one
abbrev pub finishes : List part.Part → Awaited → ℕ → Bool
finishes [] awaited number = false
finishes (p ∷ ps) awaited number = segment_comes awaited number

-- what an item makes available, by what is kept before it
abbrev pub brings : Compact → Item → Awaited → Bool
brings k (item.Part p) awaited = part_comes awaited k.next_number (length k.open_parts) || (p.finish && segment_comes awaited k.next_number)
brings k (item.Finish r) awaited = finishes k.open_parts awaited k.next_number
brings k (item.Break r time) awaited = false
brings k (item.Init r media) awaited = false
brings k (item.End r) awaited = true
brings k (item.Range r id attributes) awaited = false
brings k (item.Unrange r id) awaited = false

-- what is awaited is there, by what is kept
abbrev held_in : Compact → Awaited → Bool
held_in k Nothing = true
held_in k (Segment msn) = nat_lt k.settings.first k.next_number && nat_lt msn k.next_number
held_in k (Part msn index) = held_by msn index k.last

held-told : (c : Configuration) (items : List Item) (a : Awaited) → holds c items a ≡ held_in (compact c items) a
held-told c items Nothing = refl
held-told c items (Segment msn) = sym (segment_told (compact c items) items msn refl)
held-told c items (Part msn index) = sym (part_told (compact c items) items msn index refl)

or_false : (b : Bool) → (b || false) ≡ b
or_false true = refl
or_false false = refl

or_true : (b : Bool) → (b || true) ≡ true
or_true true = refl
or_true false = refl

ended_end : (ps : List part.Part) (k : Compact) → (ended_by ps k).ended ≡ true
ended_end [] k = refl
ended_end (p ∷ ps) k = refl

neither : (a b : Bool) → a ≡ false → b ≡ false → (a || b) ≡ false
neither a b e f = ap₂ (λ x y. x || y) e f

part_brings : (k : Compact) (f : Bool) (msn index : ℕ) → k.ended ≡ false
    → (held_by msn index (Some (record { number = k.next_number; index = length k.open_parts })) || k.ended)
    ≡ ((nat_lt msn k.next_number || ((msn == k.next_number) && nat_le index (length k.open_parts))) || (f && false))
part_brings k true msn index e = ap (λ b. (nat_lt msn k.next_number || ((msn == k.next_number) && nat_le index (length k.open_parts))) || b) e
part_brings k false msn index e = ap (λ b. (nat_lt msn k.next_number || ((msn == k.next_number) && nat_le index (length k.open_parts))) || b) e

segment_done : (k : Compact) (msn : ℕ) → k.settings.first ≤ k.next_number → k.ended ≡ false
    → ((nat_lt k.settings.first (k.next_number + 1) && nat_lt msn (k.next_number + 1)) || k.ended) ≡ nat_le msn k.next_number
segment_done k msn le e =
    ap (λ b. (nat_lt k.settings.first (k.next_number + 1) && nat_lt msn (k.next_number + 1)) || b) e
    ∙ or_false (nat_lt k.settings.first (k.next_number + 1) && nat_lt msn (k.next_number + 1)) ∙ grind (arith, nat_tests)

finish_step : (ps : List part.Part) (k : Compact) (a : Awaited) → k.settings.first ≤ k.next_number → k.ended ≡ false → held_in k a ≡ false
    → (held_in (finished_by ps k) a || (finished_by ps k).ended) ≡ finishes ps a k.next_number
finish_step [] k a le e h = neither (held_in k a) k.ended h e
finish_step (p ∷ ps) k Nothing le e h = absurd (true≢false h)
finish_step (p ∷ ps) k (Segment msn) le e h = segment_done k msn le e
finish_step (p ∷ ps) k (Part msn index) le e h = neither (held_in k (Part msn index)) k.ended h e

part_step : (f : Bool) (k : Compact) (p : part.Part) (a : Awaited) → k.settings.first ≤ k.next_number → k.ended ≡ false → held_in k a ≡ false
    → (held_in (with_part_by f k p) a || (with_part_by f k p).ended)
    ≡ (part_comes a k.next_number (length k.open_parts) || (f && segment_comes a k.next_number))
part_step f k p Nothing le e h = absurd (true≢false h)
part_step true k p (Segment msn) le e h = segment_done k msn le e
part_step false k p (Segment msn) le e h = neither (held_in k (Segment msn)) k.ended h e
part_step true k p (Part msn index) le e h = part_brings k true msn index e
part_step false k p (Part msn index) le e h = part_brings k false msn index e

step : (k : Compact) (i : Item) (a : Awaited) → k.settings.first ≤ k.next_number → k.ended ≡ false → held_in k a ≡ false
    → (held_in (with_item k i) a || (with_item k i).ended) ≡ brings k i a
step k (item.Part p) a le e h = part_step p.finish k (kept_part k.pending k.restart p) a le e h
step k (item.Finish r) a le e h = finish_step k.open_parts k a le e h
step k (item.Break r time) Nothing le e h = absurd (true≢false h)
step k (item.Init r media) Nothing le e h = absurd (true≢false h)
step k (item.Break r time) (Segment msn) le e h = neither (held_in k (Segment msn)) k.ended h e
step k (item.Init r media) (Segment msn) le e h = neither (held_in k (Segment msn)) k.ended h e
step k (item.Break r time) (Part msn index) le e h = neither (held_in k (Part msn index)) k.ended h e
step k (item.Init r media) (Part msn index) le e h = neither (held_in k (Part msn index)) k.ended h e
step k (item.End r) a le e h = ap (λ b. held_in (with_item k (item.End r)) a || b) (ended_end k.open_parts k) ∙ or_true (held_in (with_item k (item.End r)) a)
step k (item.Range r id attributes) a le e h = neither (held_in k a) k.ended h e
step k (item.Unrange r id) a le e h = neither (held_in k a) k.ended h e

own_brought : (c : Configuration) (items : List Item) (i : Item) (a : Awaited) → ended items ≡ false → holds c items a ≡ false
    → (holds c (items ++ i ∷ []) a || ended (items ++ i ∷ [])) ≡ brings (compact c items) i a
own_brought c items i a e h =
    let next : compact c (items ++ i ∷ []) ≡ with_item (compact c items) i = compact-snoc c items i e in
    ap₂ (λ x y. x || y) (held-told c (items ++ i ∷ []) a ∙ ap (λ k. held_in k a) next) (ap (λ (k : Compact). k.ended) next)
    ∙ step (compact c items) i a (omega arith) e (sym (held-told c items a) ∙ h)

-- a request

not_first : (a b : Bool) → (a || b) ≡ false → a ≡ false
not_first true b h = h
not_first false b h = refl

pub there_by : (c : Configuration) (items : List Item) (i : Item) (w : Wanted) (same : Bool) → (w.rendition == rendition_of i) ≡ same
    → ended (own (rendition_of i) items) ≡ false → is_there c items w ≡ false
    → is_there c (items ++ i ∷ []) w ≡ (same && brings (compact c (own (rendition_of i) items)) i w.awaited)
unfolding is_there
there_by c items i w true e going h =
    let here : w.rendition ≡ rendition_of i = grind (arith, nat_tests, e) in
    let before : (holds c (own (rendition_of i) items) w.awaited || ended (own (rendition_of i) items)) ≡ false =
    ap (λ r. holds c (own r items) w.awaited || ended (own r items)) (sym here) ∙ h in
    ap (λ r. holds c (own r (items ++ i ∷ [])) w.awaited || ended (own r (items ++ i ∷ []))) here
    ∙ ap (λ xs. holds c xs w.awaited || ended xs) (own-same (rendition_of i) items i refl)
    ∙ own_brought c (own (rendition_of i) items) i w.awaited going (not_first (holds c (own (rendition_of i) items) w.awaited) _ before)
there_by c items i w false e going h =
    let other : rendition_of i ≢ w.rendition = λ f. (let yes : (w.rendition == rendition_of i) ≡ true = grind (arith, nat_tests, f) in true≢false (sym yes ∙ e)) in
    ap (λ xs. holds c xs w.awaited || ended xs) (own-other w.rendition items i other) ∙ h

abbrev pub frees_opt : Option Release → Wanted → Bool
frees_opt None w = false
frees_opt (Some which) w = frees which w

and_false : (b : Bool) → (b && false) ≡ false
and_false true = refl
and_false false = refl

and_true : (b : Bool) → (b && true) ≡ b
and_true true = refl
and_true false = refl

split_true : (a x y : Bool) → ((a && x) || (a && y)) ≡ (a && (x || (true && y)))
split_true true x y = refl
split_true false x y = refl

split_false : (a x y : Bool) → ((a && x) || false) ≡ (a && (x || (false && y)))
split_false true x y = refl
split_false false x y = refl

both_finish : (ps : List part.Part) (r n : ℕ) (w : Wanted)
    → (frees_opt (finish_release ps r n) w || false) ≡ ((w.rendition == r) && finishes ps w.awaited n)
both_finish [] r n w = sym (and_false (w.rendition == r))
both_finish (p ∷ ps) r n w = or_false ((w.rendition == r) && segment_comes w.awaited n)

both_part : (f : Bool) (k : Compact) (r : ℕ) (w : Wanted)
    → (frees_opt (Some (release.Part r k.next_number (length k.open_parts))) w || frees_opt (segment_if f r k.next_number) w)
    ≡ ((w.rendition == r) && (part_comes w.awaited k.next_number (length k.open_parts) || (f && segment_comes w.awaited k.next_number)))
both_part true k r w = split_true (w.rendition == r) (part_comes w.awaited k.next_number (length k.open_parts)) (segment_comes w.awaited k.next_number)
both_part false k r w = split_false (w.rendition == r) (part_comes w.awaited k.next_number (length k.open_parts)) (segment_comes w.awaited k.next_number)

-- the two releases of an item free what it makes available
both : (k : Compact) (i : Item) (w : Wanted)
    → (frees_opt (first_release k i) w || frees_opt (second_release k i) w) ≡ ((w.rendition == rendition_of i) && brings k i w.awaited)
both k (item.Part p) w = both_part p.finish k p.rendition w
both k (item.Finish r) w = both_finish k.open_parts r k.next_number w
both k (item.Break r time) w = sym (and_false (w.rendition == r))
both k (item.Init r media) w = sym (and_false (w.rendition == r))
both k (item.End r) w = or_false (w.rendition == r) ∙ sym (and_true (w.rendition == r))
both k (item.Range r id attributes) w = sym (and_false (w.rendition == r))
both k (item.Unrange r id) w = sym (and_false (w.rendition == r))

-- an open request

abbrev slot : Entry → Option Settled → Slot
slot e o = record { entry = e; settled = o }

freed-waiting : (supply : Supply) (which : Option Release) (e : Entry) (f : Bool) → frees_opt which e.wanted ≡ f
    → freed supply which (slot e None) ≡ given_if supply f (slot e None)
freed-waiting supply None e f h = ap (λ b. given_if supply b (slot e None)) h
freed-waiting supply (Some which) e f h = ap (λ b. given_if supply b (slot e None)) h

freed-ready : (supply : Supply) (which : Option Release) (e : Entry) (v : Settled) → freed supply which (slot e (Some v)) ≡ slot e (Some v)
freed-ready supply None e v = refl
freed-ready supply (Some which) e v = refl

waiting-freed : (supply : Supply) (first second : Option Release) (e : Entry) (there late f g : Bool) (v : Settled)
    → frees_opt first e.wanted ≡ f → frees_opt second e.wanted ≡ g → there ≡ (f || g) → late ≡ false
    → (there ≡ true → v ≡ given_in supply e.wanted)
    → slot e (cond (there || late) (Some (cond there v Timeout)) None) ≡ freed supply second (freed supply first (slot e None))
waiting-freed supply first second e there late true g v d h is early p =
    ap₂ (λ t q. slot e (cond (t || late) (Some (cond t q Timeout)) None)) is (p is)
    ∙ sym (ap (freed supply second) (freed-waiting supply first e true d) ∙ freed-ready supply second e (given_in supply e.wanted))
waiting-freed supply first second e there late false true v d h is early p =
    ap₂ (λ t q. slot e (cond (t || late) (Some (cond t q Timeout)) None)) is (p is)
    ∙ sym (ap (freed supply second) (freed-waiting supply first e false d) ∙ freed-waiting supply second e true h)
waiting-freed supply first second e there late false false v d h is early p =
    ap₂ (λ t l. slot e (cond (t || l) (Some (cond t v Timeout)) None)) is early
    ∙ sym (ap (freed supply second) (freed-waiting supply first e false d) ∙ freed-waiting supply second e false h)

-- a request that waits and is not due
undue : (a b : Bool) (v : Settled) → cond (a || b) (Some v) None ≡ None → (a ≡ false) × (b ≡ false)
undue true b v h = absurd (true≢false (sym (ap is_none h)))
undue false true v h = absurd (true≢false (sym (ap is_none h)))
undue false false v h = (refl, refl)

-- what an item makes available to a request of its rendition is what the request gets
abbrev pub Gives : Configuration → List Item → Item → Supply → Wanted → Type 0
Gives c items i supply w = w.rendition ≡ rendition_of i → brings (compact c (own (rendition_of i) items)) i w.awaited ≡ true
    → given (length (items ++ i ∷ [])) w (page_of c (items ++ i ∷ []) w) (media_of c (items ++ i ∷ []) w) ≡ given_in supply w

freed_by : (c : Configuration) (items : List Item) (now : ℕ) (i : Item) (supply : Supply) (e : Entry) (o : Option Settled)
    → ended (own (rendition_of i) items) ≡ false
    → (o ≡ None → Gives c items i supply e.wanted)
    → Idle c items now (slot e o)
    → settle c (items ++ i ∷ []) now (slot e o)
    ≡ freed supply (second_release (compact c (own (rendition_of i) items)) i) (freed supply (first_release (compact c (own (rendition_of i) items)) i) (slot e o))
freed_by c items now i supply e (Some v) going p h =
    let k = compact c (own (rendition_of i) items) in
    sym (ap (freed supply (second_release k i)) (freed-ready supply (first_release k i) e v) ∙ freed-ready supply (second_release k i) e v)
freed_by c items now i supply e None going p h =
    let k = compact c (own (rendition_of i) items) in
    let w = e.wanted in
    let not_due = undue (is_there c items w) (nat_le e.deadline now) (reply_with c items w) (ap (λ (s : Slot). s.settled) h) in
    let brought = there_by c items i w (w.rendition == rendition_of i) refl going not_due.0 in
    waiting-freed supply (first_release k i) (second_release k i) e (is_there c (items ++ i ∷ []) w) (nat_le e.deadline now)
    (frees_opt (first_release k i) w) (frees_opt (second_release k i) w) (given (length (items ++ i ∷ [])) w (page_of c (items ++ i ∷ []) w) (media_of c (items ++ i ∷ []) w))
    refl refl (brought ∙ sym (both k i w)) not_due.1
    (λ t. let parts = its_rendition (w.rendition) (rendition_of i) (brings k i w.awaited) (sym brought ∙ t) in p refl parts.0 parts.1)
  where
    its_rendition : (r q : ℕ) (b : Bool) → ((r == q) && b) ≡ true → (r ≡ q) × (b ≡ true)
    its_rendition r q b h = by_test (r == q) b refl h
      where
        by_test : (x b : Bool) → (r == q) ≡ x → (x && b) ≡ true → (r ≡ q) × (b ≡ true)
        by_test true b e h = (grind (arith, nat_tests, e), h)
        by_test false b e h = absurd (true≢false (sym h))

-- an open request that waits gets what the item makes available to it
abbrev pub Given : Configuration → List Item → Item → Supply → Slot → Type 0
Given c items i supply s = s.settled ≡ None → Gives c items i supply s.entry.wanted

pub each_freed : (c : Configuration) (items : List Item) (now : ℕ) (i : Item) (supply : Supply) (ss : List Slot)
    → ended (own (rendition_of i) items) ≡ false
    → Each (Given c items i supply) ss
    → Each (Idle c items now) ss
    → map (settle c (items ++ i ∷ []) now) ss
    ≡ map (freed supply (second_release (compact c (own (rendition_of i) items)) i)) (map (freed supply (first_release (compact c (own (rendition_of i) items)) i)) ss)
each_freed c items now i supply [] going p h = refl
each_freed c items now i supply (s ∷ ss) going p h =
    ap₂ (λ x xs. x ∷ xs) (freed_by c items now i supply s.entry s.settled going p.0 h.0) (each_freed c items now i supply ss going p.1 h.1)
