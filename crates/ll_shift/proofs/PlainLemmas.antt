-- Only times change in a box.
use Rattle.std.proofs.Common.{◌≡◌, ℕ, ◌+◌, ◌-◌, ◌^◌, ◌≤◌, ◌==◌, ◌&&◌, ◌||◌, not, List, ◌∷◌, ◌++◌, Bool, true, false, Option, Some, None, refl, ap, ap₂, sym, ◌∙◌, length, take, drop, nat_lt, slice_index, if◌then◌else◌, length-append, length-drop, append_assoc, arith}
use Rattle.std.proofs.lemmas.List.{drop_at, length-take-le, take_at}
use Rattle.std.specs.Option.{unwrap_or}
use borrow.Author.Tests.{le-ltb, ltb-false}
use Rattle.byteorder.specs.Endian.{big_bytes, big_number}
use Rattle.byteorder.specs.Numbers.{big_from-take, length-bytes_high_first}
use Rattle.ll_mp4.specs.Numbers.{has}
use Rattle.ll_shift.specs.Moved.{has_offset}
use Rattle.ll_shift.specs.Plain.{plain_event, without_field, without_offset, without_time}
use Rattle.ll_shift.specs.Times.{field_at, field_by, moved_time, target_by, width, with_target}
use Rattle.ll_shift.specs.declared.field.Field.{Field}
use Rattle.ll_shift.specs.declared.field.Target.{Target}
use Rattle.ll_shift.specs.declared.shift.Shift.{Shift}
use Rattle.ll_shift.proofs.LengthLemmas.{Fits, field_fits, offset_by}

-- ---- a field that was written

abbrev written : ℕ → ℕ → ℕ → ℕ → ℕ → List ℕ → List ℕ
written version place new old time content = version ∷ take (place - 1) (drop 1 content) ++ (big_bytes new time ++ drop (place + old) content)

-- the bytes before it and after it
around : (version place new old time : ℕ) (content : List ℕ) → 1 ≤ place → place + old ≤ length content
    → take (place - 1) (drop 1 (written version place new old time content)) ++ drop (place + new) (written version place new old time content)
    ≡ take (place - 1) (drop 1 content) ++ drop (place + old) content
around version place new old time content l full =
    let front = take (place - 1) (drop 1 content) in
    let back = drop (place + old) content in
    let d = length-drop 1 content in
    let t = length-take-le (place - 1) (drop 1 content) (omega (arith, d, full, l)) in
    let n = length-bytes_high_first new time in
    let a = length-append front (big_bytes new time) in
    let w : length (version ∷ (front ++ big_bytes new time)) ≡ place + new = omega (arith, a, t, n, l) in
    let joined : version ∷ (front ++ (big_bytes new time ++ back)) ≡ (version ∷ (front ++ big_bytes new time)) ++ back =
    ap (λ x. version ∷ x) (sym (append_assoc front (big_bytes new time) back)) in
    ap₂ (λ x y. x ++ y) (take_at front (big_bytes new time ++ back) (place - 1) t)
    (ap (drop (place + new)) joined ∙ drop_at (version ∷ (front ++ big_bytes new time)) back (place + new) w)

written-length : (version place new old time : ℕ) (content : List ℕ) → 1 ≤ place → place + old ≤ length content
    → place + new ≤ length (written version place new old time content)
written-length version place new old time content l full =
    let d = length-drop 1 content in
    let t = length-take-le (place - 1) (drop 1 content) (omega (arith, d, full, l)) in
    let n = length-bytes_high_first new time in
    let a = length-append (big_bytes new time) (drop (place + old) content) in
    let b = length-append (take (place - 1) (drop 1 content)) (big_bytes new time ++ drop (place + old) content) in
    omega (arith, t, n, a, b, l)

long-again : (place old time : ℕ) (content : List ℕ) → 1 ≤ place → place + old ≤ length content
    → without_time place (written 1 place 8 old time content) ≡ take (place - 1) (drop 1 content) ++ drop (place + old) content
long-again place old time content l full =
    let w = written 1 place 8 old time content in
    let m = written-length 1 place 8 old time content l full in
    let is : field_at place w ≡ Some (record { is_long = true; time = big_number 8 (drop place w) }) =
    ap (λ t. if t then None else field_by 1 place w) (le-ltb (length w) (place + 4) (omega (arith, m)))
    ∙ ap (λ t. if t then None else Some (record { is_long = true; time = big_number 8 (drop place w) })) (le-ltb (length w) (place + 8) m) in
    ap (without_field place w) is ∙ around 1 place 8 old time content l full

short-again : (place time : ℕ) (content : List ℕ) → 1 ≤ place → place + 4 ≤ length content
    → without_time place (written 0 place 4 4 time content) ≡ take (place - 1) (drop 1 content) ++ drop (place + 4) content
short-again place time content l full =
    let w = written 0 place 4 4 time content in
    let m = written-length 0 place 4 4 time content l full in
    let is : field_at place w ≡ Some (record { is_long = false; time = big_number 4 (drop place w) }) =
    ap (λ t. if t then None else field_by 0 place w) (le-ltb (length w) (place + 4) m) in
    ap (without_field place w) is ∙ around 0 place 4 4 time content l full

target-again : (place time : ℕ) (was wide : Bool) (content : List ℕ) → 1 ≤ place → place + width was ≤ length content
    → without_time place (with_target place (record { was_long = was; is_long = was || wide; time = time }) content)
    ≡ take (place - 1) (drop 1 content) ++ drop (place + width was) content
target-again place time true wide content l full = long-again place 8 time content l full
target-again place time false true content l full = long-again place 4 time content l full
target-again place time false false content l full = short-again place time content l full

-- ---- a moved content

-- a content with its time moved, if it has one
abbrev pub moved_content : ℕ → List ℕ → Option Target → List ℕ
moved_content place content None = content
moved_content place content (Some t) = with_target place t content

again-by : (shift : Shift) (scale place : ℕ) (content : List ℕ) (o : Option Field) → field_at place content ≡ o → 1 ≤ place → Fits place content o
    → without_time place (moved_content place content (target_by shift scale o)) ≡ without_time place content
again-by shift scale place content None e l fits = refl
again-by shift scale place content (Some field) e l fits =
    let time = moved_time shift scale field.time in
    target-again place time field.is_long (not (nat_lt time (2 ^ 32))) content l fits ∙ sym (ap (without_field place content) e)

pub time_again : (shift : Shift) (scale place : ℕ) (content : List ℕ) → 1 ≤ place
    → without_time place (moved_content place content (target_by shift scale (field_at place content))) ≡ without_time place content
time_again shift scale place content l = again-by shift scale place content (field_at place content) refl l (field_fits place content)

-- ---- events: one of version 1 has a time of 64 bits, and stays one

long-by : (place : ℕ) (content : List ℕ) (field : Field) → slice_index content 0 ≡ 1 → field_at place content ≡ Some field → field.is_long ≡ true
long-by place content field one e = by_length (nat_lt (length content) (place + 4)) (ap (λ v. if nat_lt (length content) (place + 4) then None else field_by v place content) (sym one) ∙ e)
  where
    by_full : (b : Bool) → (if b then None else Some (record { is_long = true; time = big_number 8 (drop place content) })) ≡ Some field → field.is_long ≡ true
    by_full true k = absurd (cc)
    by_full false k = sym (ap (λ (o : Option Field). (unwrap_or o field).is_long) k)

    by_length : (b : Bool) → (if b then None else field_by 1 place content) ≡ Some field → field.is_long ≡ true
    by_length true k = absurd (cc)
    by_length false k = by_full (nat_lt (length content) (place + 8)) k

event-by : (shift : Shift) (scale : ℕ) (content : List ℕ) (o : Option Field) → field_at 8 content ≡ o → slice_index content 0 ≡ 1
    → slice_index (moved_content 8 content (target_by shift scale o)) 0 ≡ 1
event-by shift scale content None e one = one
event-by shift scale content (Some field) e one =
    ap (λ long. if long || not (nat_lt (moved_time shift scale field.time) (2 ^ 32)) then 1 else 0) (long-by 8 content field one e)

pub event_again : (shift : Shift) (scale : ℕ) (content : List ℕ) → slice_index content 0 ≡ 1
    → plain_event (moved_content 8 content (target_by shift scale (field_at 8 content))) ≡ plain_event content
event_again shift scale content one =
    let new = moved_content 8 content (target_by shift scale (field_at 8 content)) in
    let first = event-by shift scale content (field_at 8 content) refl one in
    ap (λ v. if v == 1 then without_time 8 new else new) first ∙ time_again shift scale 8 content (omega arith)
    ∙ sym (ap (λ v. if v == 1 then without_time 8 content else content) one)

-- ---- runs

pub offset_again : (more : ℕ) (content : List ℕ) → nat_lt (length content) 12 ≡ false → has_offset content ≡ true
    → without_offset (offset_by more content) ≡ without_offset content
offset_again more content k told =
    let l = ltb-false (length content) 12 k in
    let n = big_number 4 (drop 8 content) + more in
    let front = take 8 content in
    let back = drop 12 content in
    let f = length-take-le 8 content (omega (arith, l)) in
    let b = length-bytes_high_first 4 n in
    let a = length-append front (big_bytes 4 n) in
    let x = length-append (big_bytes 4 n) back in
    let c = length-append front (big_bytes 4 n ++ back) in
    let enough = le-ltb (length (offset_by more content)) 12 (omega (arith, f, b, x, c)) in
    let flags : big_number 4 (offset_by more content) ≡ big_number 4 content =
    sym (big_from-take 0 4 8 (offset_by more content) (omega arith)) ∙ ap (big_number 4) (take_at front (big_bytes 4 n ++ back) 8 f) ∙ big_from-take 0 4 8 content (omega arith) in
    let same : has_offset (offset_by more content) ≡ has_offset content =
    ap₂ (λ t v. not t && has v 0x000001) (enough ∙ sym k) flags in
    ap (λ t. if t then take 8 (offset_by more content) ++ drop 12 (offset_by more content) else offset_by more content) (same ∙ told)
    ∙ ap₂ (λ p q. p ++ q) (take_at front (big_bytes 4 n ++ back) 8 f)
    (ap (drop 12) (sym (append_assoc front (big_bytes 4 n) back)) ∙ drop_at (front ++ big_bytes 4 n) back 12 (omega (arith, a, f, b)))
    ∙ sym (ap (λ t. if t then take 8 content ++ drop 12 content else content) told)
