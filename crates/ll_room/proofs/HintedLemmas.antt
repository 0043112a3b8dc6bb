-- A waiting request for media waits for the next part of its rendition or for one that can't come any more; and what it gets from an item is that
-- part's bytes, or none.
use Rattle.std.proofs.Common.{◌≡◌, ◌≢◌, ℕ, ◌+◌, ◌≤◌, ◌==◌, List, [], ◌∷◌, ◌++◌, Bool, true, false, ◌&&◌, ◌||◌, cond, nat_le, nat_lt, Option, Some, None, is_none, filter, map, length, refl, ap, ap₂, sym, subst, ◌∙◌, true≢false, arith, option_map}
use Rattle.std.proofs.lemmas.Bool.Decides.{nat_tests}
use Rattle.ll_directive.specs.Files.{is_playlist}
use Rattle.ll_directive.specs.Targets.{WantValue, awaits}
use Rattle.ll_directive.specs.declared.want.Awaited.{Awaited}
use Rattle.ll_directive.specs.declared.want.Awaited.TheVariants.{Nothing, Segment, Part}
use Rattle.ll_item.specs.Items.{rendition_of}
use Rattle.ll_settings.specs.Settings.{rendition_named, Configuration}
use Rattle.ll_item.specs.declared.item.Item.{Item}
use Rattle.ll_item.specs.declared.item.Item.TheVariants as item
use Rattle.ll_page.proofs.RenditionLemmas.{own-same, own-other}
use Rattle.ll_store.proofs.NextPart.{came, never}
use Rattle.ll_item.specs.declared.part.Part as part
use Rattle.ll_store.specs.Media.{media}
use Rattle.ll_item.specs.declared.what.What.{What}
use Rattle.ll_item.specs.declared.what.What.TheVariants as what
use Rattle.ll_window.proofs.StepLemmas.{compact-snoc}
use Rattle.ll_window.specs.Compact.{Compact, compact}
use Rattle.ll_window.specs.Segments.{ended, open_segment, own, segments}
use Rattle.ll_window.specs.Step.{finished_by, with_item}
use Rattle.ll_window.specs.Wants.{holds_part}
use Rattle.ll_verdict.proofs.HintLemmas.{hinted-is, hinted-missing, unfound}
use Rattle.ll_verdict.proofs.ListLemmas.{Each, each-append}
use Rattle.ll_verdict.proofs.StateLemmas.{state-snoc}
use Rattle.ll_verdict.proofs.StepLemmas.{along}
use Rattle.ll_verdict.specs.Accepted.{refusal}
use Rattle.ll_verdict.specs.Events.{Event, Publish, Ask, Collect, Close, Clock, items, later, taken, time}
use Rattle.ll_verdict.specs.State.{State, answer_of, new_slots, next, settle, slot_by, state_of, stays, waiting_in}
use Rattle.ll_verdict.specs.Verdict.{holds, is_busy, is_hinted, is_there, media_now, media_of, playlist_now, reply_by, reply_with, wanted_at, wanted_of}
use Rattle.ll_verdict.specs.declared.entry.Slot.{Slot}
use Rattle.ll_verdict.specs.declared.reply.Reply.{Reply}
use Rattle.ll_verdict.specs.declared.reply.Settled.{Settled}
use Rattle.ll_verdict.specs.declared.wanted.Wanted.{Wanted}
use Rattle.ll_book.specs.Release.{bytes_for, part_comes, segment_comes}
use Rattle.ll_book.specs.Releases.{part_of}
use Rattle.ll_room.proofs.FreedLemmas.{brings, finishes, there_by}

-- whether the next part of these items of a rendition is the awaited one or comes after it
abbrev pub comes_next : Configuration → List Item → Awaited → Bool
comes_next c own a = part_comes a (c.first + length (segments own)) (length (open_segment own))

-- It waits for the next part, or for one that can't come any more; the next part is that or comes after it. It is for what it waits for.
abbrev pub IsForNext : Configuration → List Item → Wanted → Type 0
IsForNext c items w = (is_there c items w ≡ false) × ((comes_next c (own w.rendition items) w.awaited ≡ true) × (w.awaited ≡ awaits w.what))

-- an open request that waits for media does so
abbrev pub Hinted : Configuration → List Item → Slot → Type 0
Hinted c items s = s.settled ≡ None → is_playlist s.entry.wanted.what ≡ false → IsForNext c items s.entry.wanted

-- ---- the next part goes on

-- the same by what is kept
abbrev comes_in : Compact → Awaited → Bool
comes_in k a = part_comes a k.next_number (length k.open_parts)

earlier : (m p n l : ℕ) → (nat_lt m n || (m == n && nat_le p l)) ≡ true → (nat_lt m (n + 1) || (m == n + 1 && nat_le p 0)) ≡ true
earlier m p n l h = grind (arith, nat_tests, h)

finish-goes : (ps : List part.Part) (k : Compact) (a : Awaited) → comes_in k a ≡ true → comes_in (finished_by ps k) a ≡ true
finish-goes [] k a h = h
finish-goes (q ∷ ps) k Nothing h = absurd (true≢false (sym h))
finish-goes (q ∷ ps) k (Segment msn) h = absurd (true≢false (sym h))
finish-goes (q ∷ ps) k (Part m p) h = earlier m p k.next_number (length k.open_parts) h

-- an item that isn't what it waits for leaves it to the next part
next-goes : (k : Compact) (i : Item) (a : Awaited) → comes_in k a ≡ true → brings k i a ≡ false → comes_in (with_item k i) a ≡ true
next-goes k (item.Part p) a h none = absurd (true≢false (sym (ap (λ x. x || (p.finish && segment_comes a k.next_number)) h) ∙ none))
next-goes k (item.Finish r) a h none = finish-goes k.open_parts k a h
next-goes k (item.End r) a h none = absurd (true≢false none)
next-goes k (item.Break r time) a h none = h
next-goes k (item.Init r media) a h none = h
next-goes k (item.Range r id attributes) a h none = h
next-goes k (item.Unrange r id) a h none = h

-- if it isn't there, its rendition goes on
goes-on : (a b : Bool) → (a || b) ≡ false → (a ≡ false) × (b ≡ false)
goes-on true b h = absurd (true≢false h)
goes-on false b h = (refl, h)

open-still : (c : Configuration) (items : List Item) (w : Wanted) → is_there c items w ≡ false
    → (holds c (own w.rendition items) w.awaited ≡ false) × (ended (own w.rendition items) ≡ false)
unfolding is_there
open-still c items w h = goes-on (holds c (own w.rendition items) w.awaited) (ended (own w.rendition items)) h

item-stays : (c : Configuration) (items : List Item) (i : Item) (w : Wanted) (same : Bool) → (w.rendition == rendition_of i) ≡ same
    → is_there c items w ≡ false → comes_next c (own w.rendition items) w.awaited ≡ true → is_there c (items ++ i ∷ []) w ≡ false
    → comes_next c (own w.rendition (items ++ i ∷ [])) w.awaited ≡ true
item-stays c items i w true e missing h gone =
    let here : w.rendition ≡ rendition_of i = grind (arith, nat_tests, e) in
    let its = own (rendition_of i) items in
    let comes : comes_in (compact c its) w.awaited ≡ true = ap (λ r. comes_next c (own r items) w.awaited) (sym here) ∙ h in
    let going : ended its ≡ false = ap (λ r. ended (own r items)) (sym here) ∙ (open-still c items w missing).1 in
    let none : brings (compact c its) i w.awaited ≡ false = sym (there_by c items i w true e going missing) ∙ gone in
    ap (λ r. comes_next c (own r (items ++ i ∷ [])) w.awaited) here
    ∙ ap (λ xs. comes_next c xs w.awaited) (own-same (rendition_of i) items i refl)
    ∙ ap (λ k. comes_in k w.awaited) (compact-snoc c its i going)
    ∙ next-goes (compact c its) i w.awaited comes none
item-stays c items i w false e missing h gone =
    let other : rendition_of i ≢ w.rendition = λ f. (let same : (w.rendition == rendition_of i) ≡ true = grind (arith, nat_tests, f) in true≢false (sym same ∙ e)) in
    ap (λ xs. comes_next c xs w.awaited) (own-other w.rendition items i other) ∙ h

-- what the next part makes available stays so, until it is there
abbrev Stays : Configuration → List Item → List Item → Type 0
Stays c old new = (w : Wanted) → is_there c old w ≡ false → comes_next c (own w.rendition old) w.awaited ≡ true → is_there c new w ≡ false
    → comes_next c (own w.rendition new) w.awaited ≡ true

publish-stays : (c : Configuration) (items : List Item) (i : Item) (b : Bool) → Stays c items (cond b (items ++ i ∷ []) items)
publish-stays c items i true = λ w. item-stays c items i w (w.rendition == rendition_of i) refl
publish-stays c items i false = λ w missing h gone. h

taken-stays : (c : Configuration) (items : List Item) (e : Event) → Stays c items (taken c items e)
taken-stays c items (Publish i) = publish-stays c items i (is_none (refusal c items i))
taken-stays c items (Ask want) = λ w missing h gone. h
taken-stays c items (Collect ticket) = λ w missing h gone. h
taken-stays c items (Close ticket) = λ w missing h gone. h
taken-stays c items (Clock ms) = λ w missing h gone. h

-- ---- all open requests

-- what waits still waited before, and isn't there
waits-still : (o : Option Settled) (there late : Bool) (v : Settled) → cond (is_none o && (there || late)) (Some v) o ≡ None → (o ≡ None) × (there ≡ false)
waits-still (Some x) there late v h = absurd (true≢false (sym (ap is_none h)))
waits-still None true late v h = absurd (true≢false (sym (ap is_none h)))
waits-still None false true v h = absurd (true≢false (sym (ap is_none h)))
waits-still None false false v h = (refl, refl)

settled-hinted : (c : Configuration) (old new : List Item) (now : ℕ) (s : Slot) → Stays c old new → Hinted c old s → Hinted c new (settle c new now s)
settled-hinted c old new now s goes h waiting media =
    let w = s.entry.wanted in
    let p = waits-still s.settled (is_there c new w) (nat_le s.entry.deadline now) (reply_with c new w) waiting in
    let before = h p.0 media in
    (p.1, (goes w before.0 before.1.0 p.1, before.1.1))

each-by : (c : Configuration) (old new : List Item) (now : ℕ) (s : Slot) (ss : List Slot) (b : Bool) → Stays c old new → Hinted c old s
    → Each (Hinted c new) (map (settle c new now) ss) → Each (Hinted c new) (map (settle c new now) (cond b (s ∷ ss) ss))
each-by c old new now s ss true goes h rest = (settled-hinted c old new now s goes h, rest)
each-by c old new now s ss false goes h rest = rest

each-settled : (c : Configuration) (old new : List Item) (now : ℕ) (e : Event) (ss : List Slot) → Stays c old new → Each (Hinted c old) ss
    → Each (Hinted c new) (map (settle c new now) (filter (stays e) ss))
each-settled c old new now e [] goes h = tt
each-settled c old new now e (s ∷ ss) goes h = each-by c old new now s (filter (stays e) ss) (stays e s) goes h.0 (each-settled c old new now e ss goes h.1)

-- a new one

plain : (c : Configuration) (want : WantValue) (o : Option ℕ) (a : Wanted) → option_map (wanted_at want) o ≡ Some a → is_playlist a.what ≡ false → a.awaited ≡ awaits a.what
plain c want None a e media = cc
plain c want (Some r) a e media =
    let is : wanted_at want r ≡ a = cc in
    subst (λ (x : Wanted). x.awaited ≡ awaits x.what) is (by_file (is_playlist want.what) refl (ap (λ (x : Wanted). is_playlist x.what) is ∙ media))
  where
    by_file : (b : Bool) → is_playlist want.what ≡ b → is_playlist want.what ≡ false → (wanted_at want r).awaited ≡ awaits want.what
    by_file true e f = absurd (true≢false (sym e ∙ f))
    by_file false e f = rw e refl

unanswered : (c : Configuration) (n : ℕ) (items : List Item) (a : Wanted) (b : Bool) → b ≡ false → (cond b (playlist_now c n items a) (media_now c n items a)) ≡ None
    → is_hinted c (own a.rendition items) a.awaited ≡ true
unanswered c n items a true e h = absurd (true≢false e)
unanswered c n items a false e h = unfound (length items) a (media_of c items a) (is_hinted c (own a.rendition items) a.awaited) (is_busy n) h

-- the next part itself
itself : (n l : ℕ) → (nat_lt n n || (n == n && nat_le l l)) ≡ true
itself n l = grind (arith, nat_tests)

first-next : (c : Configuration) (items : List Item) (w : Wanted) → is_hinted c (own w.rendition items) w.awaited ≡ true → w.awaited ≡ awaits w.what → IsForNext c items w
first-next c items w h file =
    let its = own w.rendition items in
    let is = (hinted-is c its w.awaited h).1 in
    (hinted-missing c items w h, (ap (comes_next c its) is ∙ itself (c.first + length (segments its)) (length (open_segment its)), file))

born : (c : Configuration) (st : State) (n : ℕ) (want : WantValue) (o : Option Reply) (a : Option Wanted) → wanted_of c want ≡ a → reply_by c n st.items a ≡ o
    → Each (Hinted c st.items) (slot_by c o st a)
born c st n want (Some reply) a is h = tt
born c st n want None None is h = tt
born c st n want None (Some a) is h = (
  λ waiting media. first-next c st.items a (unanswered c n st.items a (is_playlist a.what) media h) (plain c want (rendition_named c want.rendition) a is media),
  tt,
)

new-hinted : (c : Configuration) (st : State) (e : Event) → Each (Hinted c (taken c st.items e)) (new_slots c st e)
new-hinted c st (Publish i) = tt
new-hinted c st (Ask want) = born c st (waiting_in st.slots) want (answer_of c st want) (wanted_of c want) refl refl
new-hinted c st (Collect ticket) = tt
new-hinted c st (Close ticket) = tt
new-hinted c st (Clock ms) = tt

abbrev AllHinted : Configuration → State → Type 0
AllHinted c st = Each (Hinted c st.items) st.slots

next-hinted : (c : Configuration) (st : State) (e : Event) → AllHinted c st → AllHinted c (next c st e)
next-hinted c st e h =
    each-append (Hinted c (taken c st.items e)) (map (settle c (taken c st.items e) (later st.time e)) (filter (stays e) st.slots)) (new_slots c st e)
    (each-settled c st.items (taken c st.items e) (later st.time e) e st.slots (taken-stays c st.items e) h) (new-hinted c st e)

pub hinted : (c : Configuration) (es : List Event) → Each (Hinted c (items c es)) (state_of c es).slots
hinted c es = along (λ es. AllHinted c (state_of c es)) tt (λ es e h. subst (AllHinted c) (sym (state-snoc c es e)) (next-hinted c (state_of c es) e h)) es

-- ---- what an item makes available

file-is : (x : What) (m p : ℕ) → awaits x ≡ Part m p → x ≡ what.Part m p
file-is what.Playlist m p e = cc
file-is (what.Segment n) m p e = cc
file-is (what.Init n) m p e = cc
file-is (what.Part n q) m p e = let first : n ≡ m = cc in let second : q ≡ p = cc in ap₂ (λ x y. what.Part x y) first second

-- an awaited part
record IsPart (a : Awaited) : Type 0 where
  number : ℕ
  index : ℕ
  is : a ≡ Part number index

finishes-none : (ps : List part.Part) (m p n : ℕ) → finishes ps (Part m p) n ≡ true → false ≡ true
finishes-none [] m p n h = h
finishes-none (q ∷ ps) m p n h = h

-- what comes next is a part
a-part : (a : Awaited) (n l : ℕ) → part_comes a n l ≡ true → IsPart a
a-part Nothing n l h = absurd (true≢false (sym h))
a-part (Segment msn) n l h = absurd (true≢false (sym h))
a-part (Part m p) n l h = record { number = m; index = p; is = refl }

by_item : (c : Configuration) (its : List Item) (i : Item) (m p : ℕ) → 1 ≤ c.window → ended its ≡ false → holds_part c its m p ≡ false
    → part_comes (Part m p) (c.first + length (segments its)) (length (open_segment its)) ≡ true
    → brings (compact c its) i (Part m p) ≡ true
    → media c (its ++ i ∷ []) (what.Part m p) ≡ bytes_for (part_of (compact c its) i) (what.Part m p)
by_item c its (item.Part its_part) m p low going missing comes brought = came c its its_part m p low going missing comes
by_item c its (item.End r) m p low going missing comes brought = never c its r m p going missing
by_item c its (item.Finish r) m p low going missing comes brought = absurd (true≢false (sym (finishes-none (open_segment its) m p (c.first + length (segments its)) brought)))
by_item c its (item.Break r time) m p low going missing comes brought = absurd (true≢false (sym brought))
by_item c its (item.Init r media) m p low going missing comes brought = absurd (true≢false (sym brought))
by_item c its (item.Range r id attributes) m p low going missing comes brought = absurd (true≢false (sym brought))
by_item c its (item.Unrange r id) m p low going missing comes brought = absurd (true≢false (sym brought))

pub media-brought : (c : Configuration) (items : List Item) (i : Item) (w : Wanted) → 1 ≤ c.window → w.rendition ≡ rendition_of i → IsForNext c items w
    → brings (compact c (own (rendition_of i) items)) i w.awaited ≡ true
    → media_of c (items ++ i ∷ []) w ≡ bytes_for (part_of (compact c (own (rendition_of i) items)) i) w.what
media-brought c items i w low here next brought =
    let its = own w.rendition items in
    let still = open-still c items w next.0 in
    let it = a-part w.awaited (c.first + length (segments its)) (length (open_segment its)) next.1.0 in
    let file : w.what ≡ what.Part it.number it.index = file-is w.what it.number it.index (sym next.1.1 ∙ it.is) in
    let missing : holds_part c its it.number it.index ≡ false = ap (holds c its) (sym it.is) ∙ still.0 in
    let comes : part_comes (Part it.number it.index) (c.first + length (segments its)) (length (open_segment its)) ≡ true = ap (comes_next c its) (sym it.is) ∙ next.1.0 in
    let brought_here : brings (compact c its) i (Part it.number it.index) ≡ true =
    ap₂ (λ r a. brings (compact c (own r items)) i a) here (sym it.is) ∙ brought in
    ap₂ (λ xs x. media c xs x) (own-same w.rendition items i (sym here)) file
    ∙ by_item c its i it.number it.index low still.1 missing comes brought_here
    ∙ ap₂ (λ r x. bytes_for (part_of (compact c (own r items)) i) x) here (sym file)
