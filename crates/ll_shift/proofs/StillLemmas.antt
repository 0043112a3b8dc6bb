-- A shift from 0 to 0 changes nothing but that indexes are left out.
use Rattle.std.proofs.Common.{◌≡◌, ℕ, zero, suc, ◌+◌, ◌-◌, ◌*◌, ◌/◌, ◌^◌, ◌<◌, ◌≤◌, ◌==◌, ◌&&◌, ◌||◌, not, List, [], ◌∷◌, ◌++◌, Bool, true, false, Option, Some, None, refl, ap, ap₂, sym, ◌∙◌, length, take, drop, min, nat_lt, slice_index, if◌then◌else◌, arith}
use Rattle.std.proofs.Math.Nat.{zero-div, zero-mul}
use Rattle.std.proofs.lemmas.Bool.{eqb-true}
use Rattle.std.proofs.lemmas.List.Elements.{All-drop}
use Rattle.std.specs.List.{flat_map}
use borrow.Author.Tests.{ltb-false, lt-ltb}
use Rattle.byteorder.specs.Endian.{big_bytes, big_number}
use Rattle.ll_mp4.specs.declared.kind.Kind.TheVariants.{Moof, Traf, Trun, Tfdt, Sidx, Mfra, Prft, Emsg}
use Rattle.ll_mp4.specs.declared.track.TimeScale.{TimeScale}
use Rattle.ll_shift.specs.Laws.{AreBytes, NothingMoves}
use Rattle.ll_shift.specs.Moved.{box_growth, counts_from_moof, growth_in_moof, has_offset, is, later, moof_growth, moved_boxes, moved_box, moved_emsg, moved_in_moof, moved_in_traf, moved_in_turn, moved_moof, moved_prft, moved_traf, scale_by, scale_in, traf_growth, word_at}
use Rattle.ll_shift.specs.Pieces.{Box, grown, pieces, whole}
use Rattle.ll_shift.specs.Times.{field_at, field_by, growth, moved_time, target, target_at, target_by, timed, timed_by, with_target}
use Rattle.ll_shift.specs.declared.field.Target.{Target}
use Rattle.ll_shift.specs.declared.shift.Shift.{Shift}
use Rattle.ll_shift.proofs.ByteLemmas.{number_fits, written_again}
use Rattle.ll_shift.proofs.FormedLemmas.{AllFormed, Formed, all_formed, each_same, each_whole, total_none}

-- a shift from 0 to 0
record Still (shift : Shift) : Type 0 where
  from : shift.base ≡ 0
  to : shift.end ≡ 0

-- ---- times

base-still : (base scale other : ℕ) → base ≡ 0 → (if scale == 0 then 0 else base * other / scale) ≡ 0
base-still base scale other e = by_scale (scale == 0)
  where
    by_scale : (b : Bool) → (if b then 0 else base * other / scale) ≡ 0
    by_scale true = refl
    by_scale false = ap (λ n. n * other / scale) e ∙ ap (λ n. n / scale) (zero-mul other) ∙ zero-div scale

time-still : (shift : Shift) (scale time : ℕ) → Still shift → time < 2 ^ 64 → moved_time shift scale time ≡ time
time-still shift scale time s l =
    let b = base-still shift.base shift.scale scale s.from in
    let e : shift.end * scale / 1000000 ≡ 0 = ap (λ n. n * scale / 1000000) s.to ∙ ap (λ n. n / 1000000) (zero-mul scale) ∙ zero-div 1000000 in
    ap₂ (λ x y. min (time + x - y) (2 ^ 64 - 1)) e b ∙ omega (arith, l)

-- ---- fields

-- what is written in a content's place
abbrev written : ℕ → Option Target → List ℕ → List ℕ
written place None content = content
written place (Some t) content = with_target place t content

record Keeps (place : ℕ) (content : List ℕ) (o : Option Target) : Type 0 where
  size : growth o ≡ 0
  same : written place o content ≡ content

-- a version in front of bytes that has them
with-version : (place version : ℕ) (content rest : List ℕ) → 1 ≤ place → 1 ≤ length content → slice_index content 0 ≡ version
    → take place content ++ rest ≡ content → version ∷ take (place - 1) (drop 1 content) ++ rest ≡ content
with-version zero version content rest l m e same = absurd (omega (arith, l))
with-version (suc p) version [] rest l m e same = absurd (omega (arith, m))
with-version (suc p) version (x ∷ xs) rest l m e same =
    let n : suc p - 1 ≡ p = omega arith in ap₂ (λ v k. v ∷ take k xs ++ rest) (sym e) n ∙ same

short-keeps : (shift : Shift) (scale place : ℕ) (content : List ℕ) → Still shift → 1 ≤ place → AreBytes content → place + 4 ≤ length content
    → slice_index content 0 ≡ 0 → Keeps place content (target_by shift scale (Some (record { is_long = false; time = big_number 4 (drop place content) })))
short-keeps shift scale place content s l h full e =
    let v = big_number 4 (drop place content) in
    let fits : v < 2 ^ 32 = number_fits 4 (drop place content) (All-drop (λ b. b < 256) place content h) in
    let same = time-still shift scale v s (omega (arith, fits)) in
    let is : target_by shift scale (Some (record { is_long = false; time = v })) ≡ Some (record { was_long = false; is_long = false; time = v }) =
    ap (λ t. Some (target t false)) same ∙ ap (λ b. Some (record { was_long = false; is_long = not b; time = v })) (lt-ltb v (2 ^ 32) fits) in
    record {
      size = ap growth is;
      same =
          ap (λ o. written place o content) is
          ∙ with-version place 0 content (big_bytes 4 v ++ drop (place + 4) content) l (omega (arith, full, l)) e (written_again place 4 content h full);
    }

long-keeps : (shift : Shift) (scale place : ℕ) (content : List ℕ) → Still shift → 1 ≤ place → AreBytes content → place + 8 ≤ length content
    → slice_index content 0 ≡ 1 → Keeps place content (target_by shift scale (Some (record { is_long = true; time = big_number 8 (drop place content) })))
long-keeps shift scale place content s l h full e =
    let v = big_number 8 (drop place content) in
    let fits : v < 2 ^ 64 = number_fits 8 (drop place content) (All-drop (λ b. b < 256) place content h) in
    let is : target_by shift scale (Some (record { is_long = true; time = v })) ≡ Some (record { was_long = true; is_long = true; time = v }) =
    ap (λ t. Some (target t true)) (time-still shift scale v s fits) in
    record {
      size = ap growth is;
      same =
          ap (λ o. written place o content) is
          ∙ with-version place 1 content (big_bytes 8 v ++ drop (place + 8) content) l (omega (arith, full, l)) e (written_again place 8 content h full);
    }

none-keeps : (place : ℕ) (content : List ℕ) → Keeps place content None
none-keeps place content = record { size = refl; same = refl }

field-keeps : (shift : Shift) (scale place : ℕ) (content : List ℕ) → Still shift → 1 ≤ place → AreBytes content
    → Keeps place content (target_by shift scale (field_at place content))
field-keeps shift scale place content s l h = by_length (nat_lt (length content) (place + 4)) refl
  where
    version : ℕ
    version = slice_index content 0

    by_full : (b : Bool) → nat_lt (length content) (place + 8) ≡ b → version ≡ 1
        → Keeps place content
        (target_by shift scale (if b then None else Some (record { is_long = true; time = big_number 8 (drop place content) })))
    by_full true k e = none-keeps place content
    by_full false k e = long-keeps shift scale place content s l h (ltb-false (length content) (place + 8) k) e

    by_one : (b : Bool) → (slice_index content 0 == 1) ≡ b
        → Keeps place content
        (target_by shift scale
        (if b then (if nat_lt (length content) (place + 8) then None else Some (record { is_long = true; time = big_number 8 (drop place content) })) else None))
    by_one true k = by_full (nat_lt (length content) (place + 8)) refl (eqb-true (slice_index content 0) 1 k)
    by_one false k = none-keeps place content

    by_zero : (b : Bool) → (slice_index content 0 == 0) ≡ b → place + 4 ≤ length content
        → Keeps place content
        (target_by shift scale
        (if b then Some (record { is_long = false; time = big_number 4 (drop place content) })
        else if slice_index content 0 == 1 then (if nat_lt (length content) (place + 8) then None else Some (record { is_long = true; time = big_number 8 (drop place content) }))
        else None))
    by_zero true k full = short-keeps shift scale place content s l h full (eqb-true (slice_index content 0) 0 k)
    by_zero false k full = by_one (slice_index content 0 == 1) refl

    by_length : (b : Bool) → nat_lt (length content) (place + 4) ≡ b
        → Keeps place content (target_by shift scale (if b then None else field_by (slice_index content 0) place content))
    by_length true k = none-keeps place content
    by_length false k = by_zero (slice_index content 0 == 0) refl (ltb-false (length content) (place + 4) k)

target-keeps : (shift : Shift) (scale : Option ℕ) (place : ℕ) (content : List ℕ) → Still shift → 1 ≤ place → AreBytes content
    → Keeps place content (target_at shift scale place content)
target-keeps shift None place content s l h = none-keeps place content
target-keeps shift (Some scale) place content s l h = field-keeps shift scale place content s l h

timed-by : (place : ℕ) (b : Box) (o : Option Target) → Formed b → Keeps place b.content o → timed_by place o b ≡ whole b
timed-by place b None f k = refl
timed-by place b (Some t) f k = ap₂ (λ x y. grown b x ++ y) k.size k.same ∙ ap (λ x. x ++ b.content) f.same

timed-still : (shift : Shift) (scale : Option ℕ) (place : ℕ) (b : Box) → Still shift → 1 ≤ place → Formed b → timed shift scale place b ≡ whole b
timed-still shift scale place b s l f = timed-by place b (target_at shift scale place b.content) f (target-keeps shift scale place b.content s l f.bytes)

-- ---- a track's fragment

cond-same : {A : Type 0} (b : Bool) (x y z : A) → x ≡ z → y ≡ z → (if b then x else y) ≡ z
cond-same true x y z e f = e
cond-same false x y z e f = f

later-still : (b : Box) → Formed b → later 0 b ≡ whole b
later-still b f = by_offset (nat_lt (length b.content) 12) refl
  where
    by_flag : (t : Bool) → nat_lt (length b.content) 12 ≡ false
        → (if t then b.header ++ (take 8 b.content ++ (big_bytes 4 (big_number 4 (drop 8 b.content) + 0) ++ drop 12 b.content)) else whole b) ≡ whole b
    by_flag true k =
        let same : big_number 4 (drop 8 b.content) + 0 ≡ big_number 4 (drop 8 b.content) = omega arith in
        ap (λ n. b.header ++ (take 8 b.content ++ (big_bytes 4 n ++ drop 12 b.content))) same
        ∙ ap (λ l. b.header ++ l) (written_again 8 4 b.content f.bytes (ltb-false (length b.content) 12 k))
    by_flag false k = refl

    by_offset : (t : Bool) → nat_lt (length b.content) 12 ≡ t → later 0 b ≡ whole b
    by_offset true k = rw k refl
    by_offset false k = by_flag (has_offset b.content) k

box-growth-still : (shift : Shift) (scale : Option ℕ) (b : Box) → Still shift → Formed b → box_growth shift scale b ≡ 0
box-growth-still shift scale b s f =
    cond-same (is Tfdt b) (growth (target_at shift scale 4 b.content)) 0 0 (Keeps.size (target-keeps shift scale 4 b.content s (omega arith) f.bytes)) refl

traf-growth-still : (shift : Shift) (scales : List TimeScale) (traf : List ℕ) → Still shift → AreBytes traf → traf_growth shift scales traf ≡ 0
traf-growth-still shift scales traf s h =
    total_none (box_growth shift (scale_in scales traf)) (pieces traf).boxes (all_formed traf h) (λ b f. box-growth-still shift (scale_in scales traf) b s f)

in-traf-still : (shift : Shift) (scale : Option ℕ) (b : Box) → Still shift → Formed b → moved_in_traf shift scale 0 b ≡ whole b
in-traf-still shift scale b s f =
    cond-same (is Tfdt b) (timed shift scale 4 b) (if is Trun b then later 0 b else whole b) (whole b) (timed-still shift scale 4 b s (omega arith) f)
    (cond-same (is Trun b) (later 0 b) (whole b) (whole b) (later-still b f) refl)

traf-still : (shift : Shift) (scales : List TimeScale) (b : Box) → Still shift → Formed b → moved_traf shift scales 0 b ≡ whole b
traf-still shift scales b s f =
    ap₂ (λ n l. grown b n ++ l) (traf-growth-still shift scales b.content s f.bytes)
    (each_same (moved_in_traf shift (scale_in scales b.content) 0) whole b.content f.bytes (λ x g. in-traf-still shift (scale_in scales b.content) x s g)
    ∙ each_whole b.content)
    ∙ ap (λ l. l ++ b.content) f.same

-- ---- a fragment

in-moof-still : (shift : Shift) (scales : List TimeScale) (first : Bool) (b : Box) → Still shift → Formed b → moved_in_moof shift scales 0 first b ≡ whole b
in-moof-still shift scales first b s f =
    cond-same (is Traf b) (moved_traf shift scales (if counts_from_moof first b.content then 0 else 0) b) (whole b) (whole b)
    (ap (λ n. moved_traf shift scales n b) (cond-same (counts_from_moof first b.content) 0 0 0 refl refl) ∙ traf-still shift scales b s f) refl

turn-still : (shift : Shift) (scales : List TimeScale) (first : Bool) (boxes : List Box) → Still shift → AllFormed boxes
    → moved_in_turn shift scales 0 first boxes ≡ flat_map whole boxes
turn-still shift scales first [] s all = refl
turn-still shift scales first (b ∷ boxes) s all =
    ap₂ (λ x y. x ++ y) (in-moof-still shift scales first b s all.0) (turn-still shift scales (first && not (is Traf b)) boxes s all.1)

boxes-still : (shift : Shift) (scales : List TimeScale) (moof : List ℕ) → Still shift → AreBytes moof → moved_boxes shift scales 0 true moof ≡ moof
boxes-still shift scales moof s h =
    ap (λ l. l ++ (pieces moof).rest) (turn-still shift scales true (pieces moof).boxes s (all_formed moof h)) ∙ each_whole moof

moof-growth-still : (shift : Shift) (scales : List TimeScale) (moof : List ℕ) → Still shift → AreBytes moof → moof_growth shift scales moof ≡ 0
moof-growth-still shift scales moof s h =
    total_none (growth_in_moof shift scales) (pieces moof).boxes (all_formed moof h)
    (λ b f. cond-same (is Traf b) (traf_growth shift scales b.content) 0 0 (traf-growth-still shift scales b.content s f.bytes) refl)

moof-still : (shift : Shift) (scales : List TimeScale) (b : Box) → Still shift → Formed b → moved_moof shift scales b ≡ whole b
moof-still shift scales b s f =
    ap (λ n. grown b n ++ moved_boxes shift scales n true b.content) (moof-growth-still shift scales b.content s f.bytes)
    ∙ ap₂ (λ x y. x ++ y) f.same (boxes-still shift scales b.content s f.bytes)

-- ---- all boxes

box-still : (shift : Shift) (scales : List TimeScale) (b : Box) → Still shift → Formed b
    → moved_box shift scales b ≡ (if is Sidx b || is Mfra b then [] else whole b)
box-still shift scales b s f =
    ap (λ l. if is Sidx b || is Mfra b then [] else l)
    (cond-same (is Moof b) (moved_moof shift scales b) (if is Prft b then moved_prft shift scales b else if is Emsg b then moved_emsg shift b else whole b)
    (whole b) (moof-still shift scales b s f)
    (cond-same (is Prft b) (moved_prft shift scales b) (if is Emsg b then moved_emsg shift b else whole b) (whole b)
    (timed-still shift (scale_by scales (word_at 4 b.content)) 16 b s (omega arith) f)
    (cond-same (is Emsg b) (moved_emsg shift b) (whole b) (whole b)
    (cond-same (slice_index b.content 0 == 1) (timed shift (word_at 4 b.content) 8 b) (whole b) (whole b)
    (timed-still shift (word_at 4 b.content) 8 b s (omega arith) f) refl) refl)))

pub nothing_moves : NothingMoves
nothing_moves shift scales bytes from to h =
    each_same (moved_box shift scales) (λ b. if is Sidx b || is Mfra b then [] else whole b) bytes h
    (λ b f. box-still shift scales b (record { from = from; to = to }) f)
