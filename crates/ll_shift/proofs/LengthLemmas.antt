-- The lengths of moved boxes.
use Rattle.std.proofs.Common.{◌≡◌, ℕ, ◌+◌, ◌-◌, ◌^◌, ◌≤◌, ◌==◌, ◌&&◌, ◌||◌, not, List, [], ◌∷◌, ◌++◌, Bool, true, false, Option, Some, None, refl, ap, subst, sym, ◌∙◌, length, take, drop, nat_lt, slice_index, if◌then◌else◌, length-append, length-drop, arith}
use Rattle.std.proofs.lemmas.Bool.{eqb-true}
use Rattle.std.proofs.lemmas.List.{length-take-le}
use Rattle.std.specs.List.{flat_map}
use borrow.Author.Tests.{ltb-false}
use Rattle.byteorder.specs.Endian.{big_bytes, big_number}
use Rattle.byteorder.specs.Numbers.{length-bytes_high_first}
use Rattle.ll_mp4.specs.declared.kind.Kind.TheVariants.{Moof, Traf, Trun, Tfdt, Sidx, Mfra, Prft, Emsg}
use Rattle.ll_mp4.specs.declared.track.TimeScale.{TimeScale}
use Rattle.ll_shift.specs.Laws.{Every, SizesAreTold, Told}
use Rattle.ll_shift.specs.Moved.{box_growth, counts_from_moof, growth_in_moof, has_offset, is, later, moof_growth, moved_box, moved_boxes, moved_emsg, moved_in_moof, moved_in_traf, moved_in_turn, moved_moof, moved_prft, moved_traf, scale_by, scale_in, total, traf_growth, word_at}
use Rattle.ll_shift.specs.Pieces.{Box, each, grown, pieces, resized, whole}
use Rattle.ll_shift.specs.Times.{field_at, field_by, growth, moved_time, target_at, target_by, timed, timed_by, width, with_target}
use Rattle.ll_shift.specs.declared.field.Field.{Field}
use Rattle.ll_shift.specs.declared.shift.Shift.{Shift}
use Rattle.ll_shift.proofs.FormedLemmas.{AllFormed, Formed, all_formed, each_whole}

-- ---- headers

pub resized_length : (header : List ℕ) (size : ℕ) → 8 ≤ length header → length (resized header size) ≡ length header
resized_length header size l = by_length (length header == 16) refl
  where
    by_length : (b : Bool) → (length header == 16) ≡ b
        → length (if b then take 8 header ++ big_bytes 8 size else big_bytes 4 size ++ drop 4 header) ≡ length header
    by_length true k =
        let a = length-append (take 8 header) (big_bytes 8 size) in
        let t = length-take-le 8 header l in
        let n = length-bytes_high_first 8 size in
        let e = eqb-true (length header) 16 k in
        omega (arith, a, t, n, e)
    by_length false k =
        let a = length-append (big_bytes 4 size) (drop 4 header) in
        let n = length-bytes_high_first 4 size in
        let d = length-drop 4 header in
        omega (arith, a, n, d, l)

-- ---- boxes with a time

-- the field that is there has all its bytes
abbrev pub Fits : ℕ → List ℕ → Option Field → Type 0
Fits place content None = 0 ≤ 0
Fits place content (Some field) = place + width field.is_long ≤ length content

pub field_fits : (place : ℕ) (content : List ℕ) → Fits place content (field_at place content)
field_fits place content = by_length (nat_lt (length content) (place + 4)) refl
  where
    by_full : (b : Bool) → nat_lt (length content) (place + 8) ≡ b
        → Fits place content (if b then None else Some (record { is_long = true; time = big_number 8 (drop place content) }))
    by_full true k = omega arith
    by_full false k = ltb-false (length content) (place + 8) k

    by_one : (b : Bool)
        → Fits place content
        (if b then (if nat_lt (length content) (place + 8) then None else Some (record { is_long = true; time = big_number 8 (drop place content) })) else None)
    by_one true = by_full (nat_lt (length content) (place + 8)) refl
    by_one false = omega arith

    by_zero : (b : Bool) → place + 4 ≤ length content
        → Fits place content
        (if b then Some (record { is_long = false; time = big_number 4 (drop place content) })
        else if slice_index content 0 == 1 then (if nat_lt (length content) (place + 8) then None else Some (record { is_long = true; time = big_number 8 (drop place content) }))
        else None)
    by_zero true full = full
    by_zero false full = by_one (slice_index content 0 == 1)

    by_length : (b : Bool) → nat_lt (length content) (place + 4) ≡ b → Fits place content (if b then None else field_by (slice_index content 0) place content)
    by_length true k = omega arith
    by_length false k = by_zero (slice_index content 0 == 0) (ltb-false (length content) (place + 4) k)

spliced : (place old new version time : ℕ) (content : List ℕ) → 1 ≤ place → place + old ≤ length content
    → length (version ∷ take (place - 1) (drop 1 content) ++ (big_bytes new time ++ drop (place + old) content)) + old ≡ length content + new
spliced place old new version time content l full =
    let d = length-drop 1 content in
    let t = length-take-le (place - 1) (drop 1 content) (omega (arith, d, full, l)) in
    let r = length-drop (place + old) content in
    let n = length-bytes_high_first new time in
    let a = length-append (big_bytes new time) (drop (place + old) content) in
    let b = length-append (take (place - 1) (drop 1 content)) (big_bytes new time ++ drop (place + old) content) in
    omega (arith, t, r, n, a, b, full, l)

-- the content with the field that is written
pub target_length : (place time : ℕ) (was wide : Bool) (content : List ℕ) → 1 ≤ place → place + width was ≤ length content
    → length (with_target place (record { was_long = was; is_long = was || wide; time = time }) content)
    ≡ length content + growth (Some (record { was_long = was; is_long = was || wide; time = time }))
target_length place time true wide content l full = let s = spliced place 8 8 1 time content l full in omega (arith, s)
target_length place time false true content l full = let s = spliced place 4 8 1 time content l full in omega (arith, s)
target_length place time false false content l full = let s = spliced place 4 4 0 time content l full in omega (arith, s)

-- a box that is made states its size, and is longer by this number of bytes
pub record Made (b : Box) (more : ℕ) (made : List ℕ) : Type 0 where
  pub told : Told b made
  pub size : length made ≡ length (whole b) + more

pub whole_made : (b : Box) → Formed b → Made b 0 (whole b)
whole_made b f =
    let none : length b.header + length b.content + 0 ≡ length b.header + length b.content = omega arith in
    record {
      told = (b.content, ap (λ h. h ++ b.content) (sym f.same ∙ ap (resized b.header) none));
      size = omega arith;
    }

pub content_made : (b : Box) (more : ℕ) (content : List ℕ) → Formed b → length content ≡ length b.content + more → Made b more (grown b more ++ content)
content_made b more content f e =
    let n : length b.header + length b.content + more ≡ length b.header + length content = omega (arith, e) in
    let a = length-append (grown b more) content in
    let h = resized_length b.header (length b.header + length b.content + more) f.least in
    let w = length-append b.header b.content in
    record {
      told = (content, ap (λ s. resized b.header s ++ content) n);
      size = omega (arith, a, h, w, e);
    }

timed-by-made : (shift : Shift) (scale place : ℕ) (b : Box) (o : Option Field) → 1 ≤ place → Formed b → Fits place b.content o
    → Made b (growth (target_by shift scale o)) (timed_by place (target_by shift scale o) b)
timed-by-made shift scale place b None l f fits = whole_made b f
timed-by-made shift scale place b (Some field) l f fits =
    let t = moved_time shift scale field.time in
    content_made b (growth (target_by shift scale (Some field))) (with_target place (record { was_long = field.is_long; is_long = field.is_long || not (nat_lt t (2 ^ 32)); time = t }) b.content) f
    (target_length place t field.is_long (not (nat_lt t (2 ^ 32))) b.content l fits)

pub timed_made : (shift : Shift) (scale : Option ℕ) (place : ℕ) (b : Box) → 1 ≤ place → Formed b
    → Made b (growth (target_at shift scale place b.content)) (timed shift scale place b)
timed_made shift None place b l f = whole_made b f
timed_made shift (Some scale) place b l f = timed-by-made shift scale place b (field_at place b.content) l f (field_fits place b.content)

-- ---- what is made of boxes

-- boxes of which each grows by its number of bytes
made-length : (make : Box → List ℕ) (count : Box → ℕ) (boxes : List Box) → AllFormed boxes → ((b : Box) → Formed b → length (make b) ≡ length (whole b) + count b)
    → length (flat_map make boxes) ≡ length (flat_map whole boxes) + total count boxes
made-length make count [] all each-one = refl
made-length make count (b ∷ boxes) all each-one =
    let x = each-one b all.0 in
    let y = made-length make count boxes all.1 each-one in
    let m = length-append (make b) (flat_map make boxes) in
    let w = length-append (whole b) (flat_map whole boxes) in
    omega (arith, x, y, m, w)

rest-length : (made : List ℕ) (count : ℕ) (bytes : List ℕ) → length made ≡ length (flat_map whole (pieces bytes).boxes) + count
    → length (made ++ (pieces bytes).rest) ≡ length bytes + count
rest-length made count bytes e =
    let m = length-append made (pieces bytes).rest in
    let w = length-append (flat_map whole (pieces bytes).boxes) (pieces bytes).rest in
    let s : length (each whole bytes) ≡ length bytes = ap length (each_whole bytes) in
    omega (arith, e, m, w, s)

-- ---- by cases

pub cond-at : {A B : Type 0} (b : Bool) (x y : A) (n m : B) (P : A → B → Type 0) → P x n → P y m → P (if b then x else y) (if b then n else m)
cond-at true x y n m P p q = p
cond-at false x y n m P p q = q

pub cond-one : {A : Type 0} (b : Bool) (x y : A) (P : A → Type 0) → P x → P y → P (if b then x else y)
cond-one true x y P p q = p
cond-one false x y P p q = q

-- ---- a track's fragment

-- a run's content with another offset
abbrev pub offset_by : ℕ → List ℕ → List ℕ
offset_by more content = take 8 content ++ (big_bytes 4 (big_number 4 (drop 8 content) + more) ++ drop 12 content)

pub offset_length : (more : ℕ) (content : List ℕ) → 12 ≤ length content → length (offset_by more content) ≡ length content + 0
offset_length more content l =
    let n = big_number 4 (drop 8 content) + more in
    let c = length-append (take 8 content) (big_bytes 4 n ++ drop 12 content) in
    let d = length-append (big_bytes 4 n) (drop 12 content) in
    let t = length-take-le 8 content (omega (arith, l)) in
    let m = length-bytes_high_first 4 n in
    let r = length-drop 12 content in
    omega (arith, l, c, d, t, m, r)

pub later_made : (more : ℕ) (b : Box) → Formed b → Made b 0 (later more b)
later_made more b f = by_offset (nat_lt (length b.content) 12) refl
  where
    by_flag : (t : Bool) → nat_lt (length b.content) 12 ≡ false → Made b 0 (if t then b.header ++ offset_by more b.content else whole b)
    by_flag true k =
        subst (λ h. Made b 0 (h ++ offset_by more b.content)) f.same
        (content_made b 0 (offset_by more b.content) f (offset_length more b.content (ltb-false (length b.content) 12 k)))
    by_flag false k = whole_made b f

    by_offset : (t : Bool) → nat_lt (length b.content) 12 ≡ t → Made b 0 (later more b)
    by_offset true k = rw k (whole_made b f)
    by_offset false k = by_flag (has_offset b.content) k

pub in_traf_made : (shift : Shift) (scale : Option ℕ) (more : ℕ) (b : Box) → Formed b → Made b (box_growth shift scale b) (moved_in_traf shift scale more b)
in_traf_made shift scale more b f =
    cond-at (is Tfdt b) (timed shift scale 4 b) (if is Trun b then later more b else whole b) (growth (target_at shift scale 4 b.content)) 0
    (λ made n. Made b n made) (timed_made shift scale 4 b (omega arith) f)
    (cond-one (is Trun b) (later more b) (whole b) (λ made. Made b 0 made) (later_made more b f) (whole_made b f))

pub traf_made : (shift : Shift) (scales : List TimeScale) (more : ℕ) (b : Box) → Formed b
    → Made b (traf_growth shift scales b.content) (moved_traf shift scales more b)
traf_made shift scales more b f =
    let scale = scale_in scales b.content in
    content_made b (traf_growth shift scales b.content) (each (moved_in_traf shift scale more) b.content) f
    (rest-length (flat_map (moved_in_traf shift scale more) (pieces b.content).boxes) (traf_growth shift scales b.content) b.content
    (made-length (moved_in_traf shift scale more) (box_growth shift scale) (pieces b.content).boxes (all_formed b.content f.bytes)
    (λ x g. Made.size (in_traf_made shift scale more x g))))

-- ---- a fragment

pub in_moof_made : (shift : Shift) (scales : List TimeScale) (more : ℕ) (first : Bool) (b : Box) → Formed b
    → Made b (growth_in_moof shift scales b) (moved_in_moof shift scales more first b)
in_moof_made shift scales more first b f =
    let here = if counts_from_moof first b.content then more else 0 in
    cond-at (is Traf b) (moved_traf shift scales here b) (whole b) (traf_growth shift scales b.content) 0
    (λ made n. Made b n made) (traf_made shift scales here b f) (whole_made b f)

turn-length : (shift : Shift) (scales : List TimeScale) (more : ℕ) (first : Bool) (boxes : List Box) → AllFormed boxes
    → length (moved_in_turn shift scales more first boxes) ≡ length (flat_map whole boxes) + total (growth_in_moof shift scales) boxes
turn-length shift scales more first [] all = refl
turn-length shift scales more first (b ∷ boxes) all =
    let x = Made.size (in_moof_made shift scales more first b all.0) in
    let y = turn-length shift scales more (first && not (is Traf b)) boxes all.1 in
    let m = length-append (moved_in_moof shift scales more first b) (moved_in_turn shift scales more (first && not (is Traf b)) boxes) in
    let w = length-append (whole b) (flat_map whole boxes) in
    omega (arith, x, y, m, w)

pub moof_made : (shift : Shift) (scales : List TimeScale) (b : Box) → Formed b → Made b (moof_growth shift scales b.content) (moved_moof shift scales b)
moof_made shift scales b f =
    let more = moof_growth shift scales b.content in
    content_made b more (moved_boxes shift scales more true b.content) f
    (rest-length (moved_in_turn shift scales more true (pieces b.content).boxes) more b.content
    (turn-length shift scales more true (pieces b.content).boxes (all_formed b.content f.bytes)))

-- ---- all boxes

box-told : (shift : Shift) (scales : List TimeScale) (b : Box) → Formed b → (is Sidx b || is Mfra b) ≡ false → Told b (moved_box shift scales b)
box-told shift scales b f kept = by_index (is Sidx b || is Mfra b) kept
  where
    others : List ℕ
    others =
        if is Moof b then moved_moof shift scales b else if is Prft b then moved_prft shift scales b else if is Emsg b then moved_emsg shift b else whole b

    others-told : Told b others
    others-told =
        cond-one (is Moof b) (moved_moof shift scales b) (if is Prft b then moved_prft shift scales b else if is Emsg b then moved_emsg shift b else whole b) (Told b)
        (Made.told (moof_made shift scales b f))
        (cond-one (is Prft b) (moved_prft shift scales b) (if is Emsg b then moved_emsg shift b else whole b) (Told b)
        (Made.told (timed_made shift (scale_by scales (word_at 4 b.content)) 16 b (omega arith) f))
        (cond-one (is Emsg b) (moved_emsg shift b) (whole b) (Told b)
        (cond-one (slice_index b.content 0 == 1) (timed shift (word_at 4 b.content) 8 b) (whole b) (Told b)
        (Made.told (timed_made shift (word_at 4 b.content) 8 b (omega arith) f)) (Made.told (whole_made b f)))
        (Made.told (whole_made b f))))

    by_index : (t : Bool) → t ≡ false → Told b (if t then [] else others)
    by_index true k = absurd (cc)
    by_index false k = others-told

every-told : (P : Box → Type 0) (boxes : List Box) → AllFormed boxes → ((b : Box) → Formed b → P b) → Every P boxes
every-told P [] all each-one = tt
every-told P (b ∷ boxes) all each-one = (each-one b all.0, every-told P boxes all.1 each-one)

pub sizes_are_told : SizesAreTold
sizes_are_told = record {
  at_top = λ shift scales bytes h. every-told (λ b. (is Sidx b || is Mfra b) ≡ false → Told b (moved_box shift scales b)) (pieces bytes).boxes (all_formed bytes h)
      (λ b f. box-told shift scales b f);
  in_moof = λ shift scales more first moof h. every-told (λ b. Told b (moved_in_moof shift scales more first b)) (pieces moof).boxes (all_formed moof h)
      (λ b f. Made.told (in_moof_made shift scales more first b f));
  in_traf = λ shift scale more traf h. every-told (λ b. Told b (moved_in_traf shift scale more b)) (pieces traf).boxes (all_formed traf h)
      (λ b f. Made.told (in_traf_made shift scale more b f));
}
