-- Only times change: box by box, a moved box is read as one that is the same but for its times.
use Rattle.std.proofs.Common.{◌≡◌, ℕ, ◌+◌, ◌^◌, ◌<◌, ◌≤◌, ◌==◌, ◌&&◌, ◌||◌, not, List, [], ◌∷◌, ◌++◌, Bool, true, false, Option, Some, None, refl, ap, sym, ◌∙◌, length, nat_lt, slice_index, if◌then◌else◌, length-append, append_assoc, arith}
use Rattle.std.proofs.lemmas.Bool.{and_parts, eqb-true, not-true}
use Rattle.std.specs.List.{flat_map}
use borrow.Author.Tests.{ltb-false}
use Rattle.byteorder.specs.Endian.{big_number}
use Rattle.ll_mp4.specs.Numbers.{has}
use Rattle.ll_mp4.specs.declared.kind.Kind.TheVariants.{Moof, Traf, Trun, Tfdt, Sidx, Mfra, Prft, Emsg}
use Rattle.ll_mp4.specs.declared.track.TimeScale.{TimeScale}
use Rattle.ll_shift.specs.Laws.{AreBytes}
use Rattle.ll_shift.specs.Moved.{counts_from_moof, has_offset, is, later, moof_growth, moved_box, moved_boxes, moved_emsg, moved_in_moof, moved_in_traf, moved_in_turn, moved_moof, moved_prft, moved_traf, scale_by, scale_in, traf_growth, word_at}
use Rattle.ll_shift.specs.Pieces.{Box, each, grown, pieces, resized, whole}
use Rattle.ll_shift.specs.Plain.{OnlyTimesChange, plain_box, plain_event, plain_in_moof, plain_in_traf, tagged, without_offset, without_time}
use Rattle.ll_shift.specs.Times.{field_at, growth, moved_time, target_by, timed, timed_by}
use Rattle.ll_shift.specs.declared.field.Field.{Field}
use Rattle.ll_shift.specs.declared.shift.Shift.{Shift}
use Rattle.ll_shift.proofs.FormedLemmas.{AllFormed, Formed, all_formed}
use Rattle.ll_shift.proofs.LengthLemmas.{Fits, Made, field_fits, moof_made, offset_by, offset_length, resized_length, target_length, traf_made}
use Rattle.ll_shift.proofs.ParseLemmas.{front_remade, remade, rest_stays}
use Rattle.ll_shift.proofs.PieceLemmas.{each_more}
use Rattle.ll_shift.proofs.PlainLemmas.{event_again, moved_content, offset_again, time_again}

-- ---- one box

-- a moved box is read as a box that is the same but for its times
abbrev Step : (Box → List ℕ) → Box → List ℕ → Type 0
Step plain b made = (rest : List ℕ) → each plain (made ++ rest) ≡ plain b ++ each plain rest

-- what is made of a box has another content, and states its size
abbrev Exact : Box → List ℕ → List ℕ → Type 0
Exact b content made = made ≡ resized b.header (length b.header + length content) ++ content

step-remade : (plain : Box → List ℕ) (b : Box) (content made : List ℕ) → Formed b → Exact b content made → length made < 2 ^ 32
    → plain (remade b content) ≡ plain b → Step plain b made
step-remade plain b content made f e few same rest =
    let size = length b.header + length content in
    let h = resized_length b.header size f.least in
    let a = length-append (resized b.header size) content in
    let m : length made ≡ length (resized b.header size ++ content) = ap length e in
    ap (λ x. each plain (x ++ rest)) e
    ∙ each_more plain (((remade b content).header ++ content) ++ rest) (record { box = remade b content; after = rest })
    (front_remade b content rest f.shape h (omega (arith, few, m, a, h)))
    ∙ ap (λ x. x ++ each plain rest) same

exact-whole : (b : Box) → Formed b → Exact b b.content (whole b)
exact-whole b f =
    let none : length b.header + length b.content + 0 ≡ length b.header + length b.content = omega arith in
    ap (λ h. h ++ b.content) (sym f.same ∙ ap (resized b.header) none)

exact-grown : (b : Box) (more : ℕ) (content : List ℕ) → length content ≡ length b.content + more → Exact b content (grown b more ++ content)
exact-grown b more content e =
    let n : length b.header + length b.content + more ≡ length b.header + length content = omega (arith, e) in
    ap (λ s. resized b.header s ++ content) n

step-whole : (plain : Box → List ℕ) (b : Box) → Formed b → length (whole b) < 2 ^ 32 → plain (remade b b.content) ≡ plain b → Step plain b (whole b)
step-whole plain b f few same = step-remade plain b b.content (whole b) f (exact-whole b f) few same

-- a box that grows, whose content was made of its own
grown-content : (b : Box) (more : ℕ) (content : List ℕ) → Formed b → length (grown b more ++ content) ≡ length (whole b) + more
    → length content ≡ length b.content + more
grown-content b more content f e =
    let a = length-append (grown b more) content in
    let h = resized_length b.header (length b.header + length b.content + more) f.least in
    let w = length-append b.header b.content in
    omega (arith, e, a, h, w)

fewer : (b : Box) (more : ℕ) (content : List ℕ) → length (grown b more ++ content) < 2 ^ 32 → length content < 2 ^ 32
fewer b more content few = let a = length-append (grown b more) content in omega (arith, a, few)

-- ---- boxes with a time

exact-timed : (shift : Shift) (scale place : ℕ) (b : Box) (o : Option Field) → 1 ≤ place → Formed b → Fits place b.content o
    → Exact b (moved_content place b.content (target_by shift scale o)) (timed_by place (target_by shift scale o) b)
exact-timed shift scale place b None l f fits = exact-whole b f
exact-timed shift scale place b (Some field) l f fits =
    let t = moved_time shift scale field.time in
    exact-grown b (growth (target_by shift scale (Some field))) (moved_content place b.content (target_by shift scale (Some field)))
    (target_length place t field.is_long (not (nat_lt t (2 ^ 32))) b.content l fits)

step-timed : (plain : Box → List ℕ) (shift : Shift) (scale : Option ℕ) (place : ℕ) (b : Box) → 1 ≤ place → Formed b → length (timed shift scale place b) < 2 ^ 32
    → plain (remade b b.content) ≡ plain b
    → ((k : ℕ) → plain (remade b (moved_content place b.content (target_by shift k (field_at place b.content)))) ≡ plain b)
    → Step plain b (timed shift scale place b)
step-timed plain shift None place b l f few still same = step-whole plain b f few still
step-timed plain shift (Some k) place b l f few still same =
    step-remade plain b (moved_content place b.content (target_by shift k (field_at place b.content))) (timed shift (Some k) place b) f
    (exact-timed shift k place b (field_at place b.content) l f (field_fits place b.content)) few (same k)

-- ---- all boxes of some bytes

few-front : (one others : List ℕ) → length (one ++ others) < 2 ^ 32 → length one < 2 ^ 32
few-front one others few = let a = length-append one others in omega (arith, a, few)

few-back : (one others : List ℕ) → length (one ++ others) < 2 ^ 32 → length others < 2 ^ 32
few-back one others few = let a = length-append one others in omega (arith, a, few)

joined : (one others rest : List ℕ) → length ((one ++ others) ++ rest) < 2 ^ 32 → length (one ++ (others ++ rest)) < 2 ^ 32
joined one others rest few =
    let a = length-append (one ++ others) rest in
    let b = length-append one others in
    let c = length-append one (others ++ rest) in
    let d = length-append others rest in
    omega (arith, a, b, c, d, few)

and-step : (plain : Box → List ℕ) (b : Box) (made others rest last : List ℕ) → Step plain b made → each plain (others ++ rest) ≡ last ++ each plain rest
    → each plain ((made ++ others) ++ rest) ≡ (plain b ++ last) ++ each plain rest
and-step plain b made others rest last step later =
    ap (each plain) (append_assoc made others rest) ∙ step (others ++ rest) ∙ ap (λ l. plain b ++ l) later ∙ sym (append_assoc (plain b) last (each plain rest))

each-steps : (plain make : Box → List ℕ) (boxes : List Box) (rest : List ℕ) → AllFormed boxes → length (flat_map make boxes ++ rest) < 2 ^ 32
    → ((b : Box) → Formed b → length (make b) < 2 ^ 32 → Step plain b (make b))
    → each plain (flat_map make boxes ++ rest) ≡ flat_map plain boxes ++ each plain rest
each-steps plain make [] rest all few step = refl
each-steps plain make (b ∷ boxes) rest all few step =
    let both = joined (make b) (flat_map make boxes) rest few in
    and-step plain b (make b) (flat_map make boxes) rest (flat_map plain boxes)
    (step b all.0 (few-front (make b) (flat_map make boxes ++ rest) both))
    (each-steps plain make boxes rest all.1 (few-back (make b) (flat_map make boxes ++ rest) both) step)

each-plain : (plain make : Box → List ℕ) (bytes : List ℕ) → AreBytes bytes → length (each make bytes) < 2 ^ 32
    → ((b : Box) → Formed b → length (make b) < 2 ^ 32 → Step plain b (make b)) → each plain (each make bytes) ≡ each plain bytes
each-plain plain make bytes h few step =
    each-steps plain make (pieces bytes).boxes (pieces bytes).rest (all_formed bytes h) few step
    ∙ ap (λ r. flat_map plain (pieces bytes).boxes ++ r) (rest_stays plain bytes)

-- ---- by cases

same-both : {A : Type 0} (t : Bool) (x y v w : A) → (t ≡ true → x ≡ v) → (t ≡ false → y ≡ w) → (if t then x else y) ≡ (if t then v else w)
same-both true x y v w e f = e refl
same-both false x y v w e f = f refl

-- a test's cases, with what is known of a length
step-cases : (plain : Box → List ℕ) (b : Box) (t : Bool) (x y : List ℕ) → length (if t then x else y) < 2 ^ 32
    → (t ≡ true → length x < 2 ^ 32 → Step plain b x) → (t ≡ false → length y < 2 ^ 32 → Step plain b y) → Step plain b (if t then x else y)
step-cases plain b true x y few p q = p refl few
step-cases plain b false x y few p q = q refl few

not-both : (t : Bool) → t ≡ false → t ≡ true → ⊥
not-both t f e = absurd (cc)

-- ---- a track's fragment

later-step : (plain : Box → List ℕ) (more : ℕ) (b : Box) → Formed b → length (later more b) < 2 ^ 32 → plain (remade b b.content) ≡ plain b
    → (without_offset (offset_by more b.content) ≡ without_offset b.content → plain (remade b (offset_by more b.content)) ≡ plain b) → Step plain b (later more b)
later-step plain more b f few still same =
    step-cases plain b (has_offset b.content) (b.header ++ offset_by more b.content) (whole b) few
    (λ k l. step-remade plain b (offset_by more b.content) (b.header ++ offset_by more b.content) f (exact k) l (same (offset_again more b.content (full k) k)))
    (λ k l. step-whole plain b f l still)
  where
    full : has_offset b.content ≡ true → nat_lt (length b.content) 12 ≡ false
    full k = not-true (nat_lt (length b.content) 12) (and_parts (not (nat_lt (length b.content) 12)) (has (big_number 4 b.content) 0x000001) k).0

    exact : has_offset b.content ≡ true → Exact b (offset_by more b.content) (b.header ++ offset_by more b.content)
    exact k =
        let l = offset_length more b.content (ltb-false (length b.content) 12 (full k)) in
        ap (λ h. h ++ offset_by more b.content) (sym f.same) ∙ exact-grown b 0 (offset_by more b.content) l

in-traf-step : (shift : Shift) (scale : Option ℕ) (more : ℕ) (b : Box) → Formed b → length (moved_in_traf shift scale more b) < 2 ^ 32
    → Step plain_in_traf b (moved_in_traf shift scale more b)
in-traf-step shift scale more b f few =
    step-cases plain_in_traf b (is Tfdt b) (timed shift scale 4 b) (if is Trun b then later more b else whole b) few
    (λ k l. step-timed plain_in_traf shift scale 4 b (omega arith) f l refl
    (λ n. ap (tagged b) (same-both (is Tfdt b) _ _ _ _ (λ e. time_again shift n 4 b.content (omega arith)) (λ e. absurd (not-both (is Tfdt b) e k)))))
    (λ k l. step-cases plain_in_traf b (is Trun b) (later more b) (whole b) l
    (λ j m. later-step plain_in_traf more b f m refl
    (λ same. ap (tagged b) (same-both (is Tfdt b) _ _ _ _ (λ e. absurd (not-both (is Tfdt b) k e))
    (λ e. same-both (is Trun b) _ _ _ _ (λ x. same) (λ x. absurd (not-both (is Trun b) x j))))))
    (λ j m. step-whole plain_in_traf b f m refl))

traf-step : (shift : Shift) (scales : List TimeScale) (more : ℕ) (b : Box) → Formed b → is Traf b ≡ true → length (moved_traf shift scales more b) < 2 ^ 32
    → Step plain_in_moof b (moved_traf shift scales more b)
traf-step shift scales more b f k few =
    let scale = scale_in scales b.content in
    let grow = traf_growth shift scales b.content in
    let content = each (moved_in_traf shift scale more) b.content in
    let size = grown-content b grow content f (Made.size (traf_made shift scales more b f)) in
    step-remade plain_in_moof b content (moved_traf shift scales more b) f (exact-grown b grow content size) few
    (ap (tagged b) (same-both (is Traf b) _ _ _ _
    (λ e. each-plain plain_in_traf (moved_in_traf shift scale more) b.content f.bytes (fewer b grow content few) (λ x g l. in-traf-step shift scale more x g l))
    (λ e. absurd (not-both (is Traf b) e k))))

-- ---- a fragment

in-moof-step : (shift : Shift) (scales : List TimeScale) (more : ℕ) (first : Bool) (b : Box) → Formed b → length (moved_in_moof shift scales more first b) < 2 ^ 32
    → Step plain_in_moof b (moved_in_moof shift scales more first b)
in-moof-step shift scales more first b f few =
    let here = if counts_from_moof first b.content then more else 0 in
    step-cases plain_in_moof b (is Traf b) (moved_traf shift scales here b) (whole b) few
    (λ k l. traf-step shift scales here b f k l)
    (λ k l. step-whole plain_in_moof b f l (ap (tagged b) (same-both (is Traf b) _ _ _ _ (λ e. refl) (λ e. refl))))

turn-steps : (shift : Shift) (scales : List TimeScale) (more : ℕ) (first : Bool) (boxes : List Box) (rest : List ℕ) → AllFormed boxes
    → length (moved_in_turn shift scales more first boxes ++ rest) < 2 ^ 32
    → each plain_in_moof (moved_in_turn shift scales more first boxes ++ rest) ≡ flat_map plain_in_moof boxes ++ each plain_in_moof rest
turn-steps shift scales more first [] rest all few = refl
turn-steps shift scales more first (b ∷ boxes) rest all few =
    let made = moved_in_moof shift scales more first b in
    let next = first && not (is Traf b) in
    let others = moved_in_turn shift scales more next boxes in
    let both = joined made others rest few in
    and-step plain_in_moof b made others rest (flat_map plain_in_moof boxes) (in-moof-step shift scales more first b all.0 (few-front made (others ++ rest) both))
    (turn-steps shift scales more next boxes rest all.1 (few-back made (others ++ rest) both))

boxes-plain : (shift : Shift) (scales : List TimeScale) (more : ℕ) (moof : List ℕ) → AreBytes moof → length (moved_boxes shift scales more true moof) < 2 ^ 32
    → each plain_in_moof (moved_boxes shift scales more true moof) ≡ each plain_in_moof moof
boxes-plain shift scales more moof h few =
    turn-steps shift scales more true (pieces moof).boxes (pieces moof).rest (all_formed moof h) few
    ∙ ap (λ r. flat_map plain_in_moof (pieces moof).boxes ++ r) (rest_stays plain_in_moof moof)

-- ---- boxes at the top

-- what is kept of a box at the top
abbrev stands : Box → List ℕ → List ℕ
stands b content =
    if is Moof b then each plain_in_moof content
    else if is Prft b then without_time 16 content
    else if is Emsg b then plain_event content
    else content

-- one that is kept
kept : (b : Box) (content : List ℕ) → stands b content ≡ stands b b.content → plain_box (remade b content) ≡ plain_box b
kept b content e = ap (λ l. if is Sidx b || is Mfra b then [] else tagged b l) e

moof-step : (shift : Shift) (scales : List TimeScale) (b : Box) → Formed b → is Moof b ≡ true → length (moved_moof shift scales b) < 2 ^ 32
    → Step plain_box b (moved_moof shift scales b)
moof-step shift scales b f k few =
    let grow = moof_growth shift scales b.content in
    let content = moved_boxes shift scales grow true b.content in
    let size = grown-content b grow content f (Made.size (moof_made shift scales b f)) in
    step-remade plain_box b content (moved_moof shift scales b) f (exact-grown b grow content size) few
    (kept b content (same-both (is Moof b) _ _ _ _ (λ e. boxes-plain shift scales grow b.content f.bytes (fewer b grow content few)) (λ e. absurd (not-both (is Moof b) e k))))

prft-stands : (b : Box) (content : List ℕ) → is Moof b ≡ false → is Prft b ≡ true → without_time 16 content ≡ without_time 16 b.content
    → stands b content ≡ stands b b.content
prft-stands b content k j same =
    same-both (is Moof b) (each plain_in_moof content) _ (each plain_in_moof b.content) _ (λ e. absurd (not-both (is Moof b) k e))
    (λ e. same-both (is Prft b) (without_time 16 content) (if is Emsg b then plain_event content else content) (without_time 16 b.content)
    (if is Emsg b then plain_event b.content else b.content) (λ x. same) (λ x. absurd (not-both (is Prft b) x j)))

prft-step : (shift : Shift) (scales : List TimeScale) (b : Box) → Formed b → is Moof b ≡ false → is Prft b ≡ true → length (moved_prft shift scales b) < 2 ^ 32
    → Step plain_box b (moved_prft shift scales b)
prft-step shift scales b f k j few =
    step-timed plain_box shift (scale_by scales (word_at 4 b.content)) 16 b (omega arith) f few refl
    (λ n. let content = moved_content 16 b.content (target_by shift n (field_at 16 b.content)) in
    kept b content (prft-stands b content k j (time_again shift n 16 b.content (omega arith))))

emsg-stands : (b : Box) (content : List ℕ) → is Moof b ≡ false → is Prft b ≡ false → is Emsg b ≡ true → plain_event content ≡ plain_event b.content
    → stands b content ≡ stands b b.content
emsg-stands b content k j i same =
    same-both (is Moof b) (each plain_in_moof content) _ (each plain_in_moof b.content) _ (λ e. absurd (not-both (is Moof b) k e))
    (λ e. same-both (is Prft b) (without_time 16 content) (if is Emsg b then plain_event content else content) (without_time 16 b.content)
    (if is Emsg b then plain_event b.content else b.content) (λ x. absurd (not-both (is Prft b) j x))
    (λ x. same-both (is Emsg b) (plain_event content) content (plain_event b.content) b.content (λ y. same) (λ y. absurd (not-both (is Emsg b) y i))))

emsg-step : (shift : Shift) (b : Box) → Formed b → is Moof b ≡ false → is Prft b ≡ false → is Emsg b ≡ true → length (moved_emsg shift b) < 2 ^ 32
    → Step plain_box b (moved_emsg shift b)
emsg-step shift b f k j i few =
    step-cases plain_box b (slice_index b.content 0 == 1) (timed shift (word_at 4 b.content) 8 b) (whole b) few
    (λ one l. step-timed plain_box shift (word_at 4 b.content) 8 b (omega arith) f l refl
    (λ n. let content = moved_content 8 b.content (target_by shift n (field_at 8 b.content)) in
    kept b content (emsg-stands b content k j i (event_again shift n b.content (eqb-true (slice_index b.content 0) 1 one)))))
    (λ one l. step-whole plain_box b f l refl)

box-step : (shift : Shift) (scales : List TimeScale) (b : Box) → Formed b → length (moved_box shift scales b) < 2 ^ 32 → Step plain_box b (moved_box shift scales b)
box-step shift scales b f few =
    step-cases plain_box b (is Sidx b || is Mfra b) []
    (if is Moof b then moved_moof shift scales b else if is Prft b then moved_prft shift scales b else if is Emsg b then moved_emsg shift b else whole b) few
    (λ out l rest. sym (ap (λ t. (if t then [] else tagged b (stands b b.content)) ++ each plain_box rest) out))
    (λ out l. step-cases plain_box b (is Moof b) (moved_moof shift scales b)
    (if is Prft b then moved_prft shift scales b else if is Emsg b then moved_emsg shift b else whole b) l
    (λ k m. moof-step shift scales b f k m)
    (λ k m. step-cases plain_box b (is Prft b) (moved_prft shift scales b) (if is Emsg b then moved_emsg shift b else whole b) m
    (λ j n. prft-step shift scales b f k j n)
    (λ j n. step-cases plain_box b (is Emsg b) (moved_emsg shift b) (whole b) n
    (λ i o. emsg-step shift b f k j i o)
    (λ i o. step-whole plain_box b f o refl))))

pub only_times_change : OnlyTimesChange
only_times_change shift scales bytes h few =
    each-plain plain_box (moved_box shift scales) bytes h few (λ b f l. box-step shift scales b f l)
