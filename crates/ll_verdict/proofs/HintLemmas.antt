-- The part that the Preload Hint names isn't there yet.
use Rattle.std.proofs.Common.{◌≡◌, ℕ, ◌+◌, ◌≤◌, ◌<◌, ◌==◌, ◌&&◌, ◌||◌, List, [], ◌∷◌, ◌++◌, Bool, true, false, not, nat_le, nat_lt, Option, Some, None, length, refl, ap, ap₂, sym, ◌∙◌, arith, if◌then◌else◌}
use Rattle.std.specs.List.{list_any}
use Rattle.std.proofs.lemmas.Bool.Decides.{nat_tests}
use Rattle.std.proofs.lemmas.List.Folds.{list_any-append}
use Rattle.ll_directive.specs.Files.{is_playlist}
use Rattle.ll_directive.specs.declared.want.Awaited.{Awaited}
use Rattle.ll_directive.specs.declared.want.Awaited.TheVariants.{Nothing, Segment, Part}
use Rattle.ll_settings.specs.Settings.{Configuration}
use Rattle.ll_item.specs.Told.{told}
use Rattle.ll_item.specs.declared.item.Item.{Item}
use Rattle.ll_item.specs.declared.part.Part as part
use Rattle.ll_pieces.specs.View.{Paged}
use Rattle.ll_window.proofs.NumberLemmas.{by_places, laid}
use Rattle.ll_window.specs.Numbers.{NumberedPart, numbered_parts, placed}
use Rattle.ll_window.specs.Segments.{ended, finished_by, open_segment, own, parts, segments, split, unfinished_by}
use Rattle.ll_window.specs.Wants.{holds_part, place_of, reaches}
use Rattle.ll_verdict.specs.Verdict.{far, holds, is_busy, is_hinted, is_there, media_now, media_of, media_or, page_of, playlist_now, reply_now}
use Rattle.ll_verdict.specs.declared.reply.Reply.{Reply}
use Rattle.ll_verdict.specs.declared.reply.Reply.TheVariants.{Busy, NotFound, TooFar}
use Rattle.ll_verdict.specs.declared.reply.Reply.TheVariants as now
use Rattle.ll_verdict.specs.declared.wanted.Wanted.{Wanted}

abbrev reached : ℕ → ℕ → List NumberedPart → Bool
reached m p xs = list_any (λ x. reaches m p (place_of x)) xs

both_false : (a b : Bool) → a ≡ false → b ≡ false → (a || b) ≡ false
both_false a b e f = ap₂ (λ x y. x || y) e f

past : (m p n i : ℕ) → n < m → (nat_lt m n || (m == n && nat_le p i)) ≡ false
past m p n i h = grind (arith, nat_tests)

below : (m p i : ℕ) → i < p → (nat_lt m m || (m == m && nat_le p i)) ≡ false
below m p i h = grind (arith, nat_tests)

-- the parts of an earlier segment, and those of its own, none of which has the index
earlier : (m p n i : ℕ) (ps : List part.Part) → n < m → reached m p (placed n i ps) ≡ false
earlier m p n i [] h = refl
earlier m p n i (x ∷ ps) h = both_false _ _ (past m p n i h) (earlier m p n (i + 1) ps h)

before : (m p i : ℕ) (ps : List part.Part) → i + length ps ≤ p → reached m p (placed m i ps) ≡ false
before m p i [] h = refl
before m p i (x ∷ ps) h = both_false _ _ (below m p i (omega (arith, h))) (before m p (i + 1) ps (omega (arith, h)))

-- none of the parts of some segments and of the open one reaches the next part of that
none-reached : (n i p : ℕ) (gs : List (List part.Part)) (rest : List part.Part) → i + length rest ≤ p → length rest ≤ p
    → reached (n + length gs) p (laid n i gs rest) ≡ false
none-reached n i p [] rest h k = ap (λ m. reached m p (placed n i rest)) (omega arith) ∙ before n p i rest h
none-reached n i p (g ∷ gs) rest h k =
    let m : n + length (g ∷ gs) ≡ n + 1 + length gs = omega arith in
    list_any-append (λ x. reaches (n + length (g ∷ gs)) p (place_of x)) (placed n i g) (laid (n + 1) 0 gs rest)
    ∙ both_false _ _ (earlier (n + length (g ∷ gs)) p n i g (omega arith))
    (ap (λ m. reached m p (laid (n + 1) 0 gs rest)) m ∙ none-reached (n + 1) 0 p gs rest (omega (arith, k)) k)

pub next-missing : (c : Configuration) (items : List Item) → ended items ≡ false
    → holds_part c items (c.first + length (segments items)) (length (open_segment items)) ≡ false
next-missing c items going =
    let s = split (parts items) in
    let finished : segments items ≡ s.finished = ap (λ b. finished_by b s) going in
    let unfinished : open_segment items ≡ s.unfinished = ap (λ b. unfinished_by b s) going in
    ap₂ (λ gs us. holds_part c items (c.first + length gs) (length us)) finished unfinished
    ∙ ap (reached (c.first + length s.finished) (length s.unfinished)) (by_places c.first 0 (parts items))
    ∙ none-reached c.first 0 (length s.unfinished) s.finished s.unfinished (omega arith) (omega arith)

-- ---- a request that waits

hint_is : (e x y : Bool) → (not e && (x && y)) ≡ true → (e ≡ false) × ((x ≡ true) × (y ≡ true))
hint_is true x y h = cc
hint_is false true true h = (refl, (refl, refl))
hint_is false true false h = cc
hint_is false false y h = cc

-- what a hint is for
pub hinted-is : (c : Configuration) (own : List Item) (a : Awaited) → is_hinted c own a ≡ true
    → (ended own ≡ false) × (a ≡ Part (c.first + length (segments own)) (length (open_segment own)))
hinted-is c own Nothing h = cc
hinted-is c own (Segment msn) h = cc
hinted-is c own (Part msn index) h =
    let p = hint_is (ended own) (msn == c.first + length (segments own)) (index == length (open_segment own)) h in
    let number : msn ≡ c.first + length (segments own) = (let e = p.1.0 in grind (arith, nat_tests, e)) in
    let place : index ≡ length (open_segment own) = (let e = p.1.1 in grind (arith, nat_tests, e)) in
    (p.0, ap₂ (λ m i. Part m i) number place)

pub hinted-missing : (c : Configuration) (items : List Item) (a : Wanted) → is_hinted c (own a.rendition items) a.awaited ≡ true → is_there c items a ≡ false
unfolding is_there
hinted-missing c items a h =
    let its = own a.rendition items in
    let p = hinted-is c its a.awaited h in
    ap₂ (λ x y. holds c its x || y) p.1 p.0 ∙ ap (λ x. x || false) (next-missing c its p.0)

-- if what is awaited is there, the playlist is given at once
unanswered : (x y z : Bool) (p : Paged) → (if x then Some (now.Text p) else if y then Some TooFar else if z then Some Busy else None) ≡ None → x ≡ false
unanswered true y z p h = cc
unanswered false y z p h = refl

-- of media that isn't there only the part of the hint is waited for
pub unfound : (count : ℕ) (a : Wanted) (o : Option (List ℕ)) (hinted busy : Bool)
    → media_or count a o (if not hinted then Some NotFound else if busy then Some Busy else None) ≡ None → hinted ≡ true
unfound count a (Some bytes) hinted busy h = cc
unfound count a None true busy h = refl
unfound count a None false busy h = cc

by_file : (c : Configuration) (n : ℕ) (items : List Item) (a : Wanted) (b : Bool) → (if b then playlist_now c n items a else media_now c n items a) ≡ None → is_there c items a ≡ false
by_file c n items a true h = unanswered (is_there c items a) (far c (own a.rendition items) a.awaited) (is_busy n) (page_of c items a) h
by_file c n items a false h =
    hinted-missing c items a (unfound (length items) a (media_of c items a) (is_hinted c (own a.rendition items) a.awaited) (is_busy n) h)

-- what a request has to wait for isn't there
pub awaited-missing : (c : Configuration) (n : ℕ) (items : List Item) (a : Wanted) → reply_now c n items a ≡ None → is_there c items a ≡ false
awaited-missing c n items a h = by_file c n items a (is_playlist a.what) h
