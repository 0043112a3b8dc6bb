-- What is left, when bytes are dropped as they come.
use Rattle.std.proofs.Common.{◌≡◌, ℕ, zero, suc, ◌+◌, ◌-◌, ◌≤◌, ◌<◌, ◌==◌, List, [], ◌++◌, Bool, true, false, Some, None, Ok, Err, refl, ap, sym, ◌∙◌, length, drop, take, take_all, nat_lt, length-append, length-drop, append_assoc, append-nil, arith}
use borrow.Author.Tests.{ltb-false, ltb-true}
use Rattle.std.specs.List.{copy_within}
use Rattle.std.proofs.lemmas.List.{drop-append-le, drop-drop, drop_all}
use Rattle.std.proofs.lemmas.List.Edits.{take-paste}
use Rattle.std.proofs.Math.Seq.{drop-append-add, drop-nil}
use Rattle.ll_mp4.specs.Boxes.{Front, Header, after, and_then, boxes, front_by, front_of, header_of}
use Rattle.ll_mp4.specs.Lefts.{Left, at_front, dropped, fed, index_size, is_index, size_where, without_index}
use Rattle.ll_mp4.specs.Units.{Unit, Open, unit_of}
use Rattle.ll_mp4.specs.declared.boxes.BoxHead.{BoxHead}
use Rattle.ll_mp4.specs.declared.fault.StreamFault.{StreamFault}
use Rattle.ll_mp4.proofs.BoxLemmas.{AtLeast, header_least, one_more}
use Rattle.ll_mp4.proofs.MoreLemmas.{Same, header-same}
use Rattle.ll_mp4.proofs.UnitLemmas.{short, unit_none}

-- ---- dropping

same-left : (a b : ℕ) (u v : List ℕ) → a ≡ b → u ≡ v → ◌≡◌ {A = Left} (record { skip = a; unread = u }) (record { skip = b; unread = v })
same-left a b u v e f = ap (λ x. record { skip = x; unread = u }) e ∙ ap (λ x. record { skip = b; unread = x }) f

pub dropped-none : (bytes : List ℕ) → dropped 0 bytes ≡ at_front bytes
dropped-none bytes = same-left (0 - length bytes) 0 bytes bytes (omega arith) refl

drop-on : (n : ℕ) (bytes more : List ℕ) → drop (n - length bytes) (drop n bytes ++ more) ≡ drop n (bytes ++ more)
drop-on n bytes more = by_length (nat_lt (length bytes) n) refl
  where
    by_length : (b : Bool) → nat_lt (length bytes) n ≡ b → drop (n - length bytes) (drop n bytes ++ more) ≡ drop n (bytes ++ more)
    by_length true e =
        let l = ltb-true (length bytes) n e in
        let sum : length bytes + (n - length bytes) ≡ n = omega (arith, l) in
        ap (λ x. drop (n - length bytes) (x ++ more)) (drop_all n bytes (omega (arith, l)))
        ∙ sym (drop-append-add bytes more (n - length bytes)) ∙ ap (λ m. drop m (bytes ++ more)) sum
    by_length false e =
        let l = ltb-false (length bytes) n e in
        let none : n - length bytes ≡ 0 = omega (arith, l) in
        ap (λ m. drop m (drop n bytes ++ more)) none ∙ sym (drop-append-le n bytes more l)

-- of bytes that came in two pieces
pub dropped-on : (n : ℕ) (bytes more : List ℕ) → fed (dropped n bytes) more ≡ dropped n (bytes ++ more)
dropped-on n bytes more =
    let a = length-drop n bytes in
    let b = length-append (drop n bytes) more in
    let c = length-append bytes more in
    same-left _ _ _ _ (omega (arith, a, b, c)) (drop-on n bytes more)

pub fed-on : (left : Left) (bytes more : List ℕ) → fed (fed left bytes) more ≡ fed left (bytes ++ more)
fed-on left bytes more = dropped-on left.skip (left.unread ++ bytes) more ∙ ap (dropped left.skip) (append_assoc left.unread bytes more)

-- more of them
dropped-more : (n m : ℕ) (bytes : List ℕ) → n ≤ length bytes → dropped m (drop n bytes) ≡ dropped (n + m) bytes
dropped-more n m bytes l = let a = length-drop n bytes in same-left _ _ _ _ (omega (arith, a, l)) (drop-drop m n bytes)

-- bytes whose first n were given out, once the others are copied to the front and what is left behind them is cut off
pub cut_front : (n m len : ℕ) (bytes : List ℕ) → len ≡ length bytes → n ≤ len → m ≡ len - n → take m (copy_within bytes n len 0) ≡ drop n bytes
cut_front n m len bytes whole l e =
    let rest : length (drop n bytes) ≡ length bytes - n = length-drop n bytes in
    let more : m ≡ 0 + (len - n) = omega (arith, e) in
    ap (λ k. take k (copy_within bytes n len 0)) more
    ∙ take-paste bytes 0 (drop n bytes) (len - n) (omega (arith, whole, l)) (omega (arith, rest, whole))
    ∙ take_all (len - n) (drop n bytes) (omega (arith, rest, whole))

-- ---- `mfra` boxes at the front

-- the bytes of those at the front of bytes with this header
abbrev index_by : List ℕ → Header → ℕ
index_by bytes (Ok None) = 0
index_by bytes (Err fault) = 0
index_by bytes (Ok (Some head)) = size_where (is_index head.kind) (head.size + index_size (boxes (drop head.size bytes)))

abbrev pub index_in : List ℕ → ℕ
index_in bytes = index_size (boxes bytes)

index-from : (bytes : List ℕ) (h : Header) → index_size (and_then (front_by h bytes) (boxes (after (front_by h bytes)))) ≡ index_by bytes h
index-from bytes (Ok None) = refl
index-from bytes (Err fault) = refl
index-from bytes (Ok (Some head)) = by_size (nat_lt (length bytes) head.size) refl
  where
    by_size : (b : Bool) → nat_lt (length bytes) head.size ≡ b
        → index_size (and_then (front_by (Ok (Some head)) bytes) (boxes (after (front_by (Ok (Some head)) bytes)))) ≡ index_by bytes (Ok (Some head))
    by_size true e =
        let l = ltb-true (length bytes) head.size e in
        let sum : head.size ≡ head.size + 0 = omega arith in
        rw e
        (ap (size_where (is_index head.kind)) sum
        ∙ sym (ap (λ bs. size_where (is_index head.kind) (head.size + index_in bs)) (drop_all head.size bytes (omega (arith, l)))))
    by_size false e = rw e refl

pub index_front : (bytes : List ℕ) → index_in bytes ≡ index_by bytes (header_of bytes)
index_front bytes = ap index_size (one_more bytes) ∙ by_length (length bytes == 0) refl
  where
    by_length : (b : Bool) → (length bytes == 0) ≡ b → index_size (and_then (front_of bytes) (boxes (after (front_of bytes)))) ≡ index_by bytes (header_of bytes)
    by_length true e = ap (λ (f : Front). index_size (and_then f (boxes (after f)))) (nothing e) ∙ sym (ap (index_by bytes) (short bytes e))
      where
        nothing : (length bytes == 0) ≡ true → front_of bytes ≡ Rattle.ll_mp4.specs.Boxes.Nothing
        nothing k = rw k refl
    by_length false e = ap (λ (f : Front). index_size (and_then f (boxes (after f)))) (some e) ∙ index-from bytes (header_of bytes)
      where
        some : (length bytes == 0) ≡ false → front_of bytes ≡ front_by (header_of bytes) bytes
        some k = rw k refl

index-is : (bytes : List ℕ) (head : BoxHead) → header_of bytes ≡ Ok (Some head) → is_index head.kind ≡ true
    → index_in bytes ≡ head.size + index_in (drop head.size bytes)
index-is bytes head e k = index_front bytes ∙ ap (index_by bytes) e ∙ ap (λ b. size_where b (head.size + index_in (drop head.size bytes))) k

-- those at the front of bytes are those at the front of more bytes, and those that go on with them
abbrev IndexGoes : List ℕ → List ℕ → Type 0
IndexGoes bytes more = index_in (bytes ++ more) ≡ index_in bytes + index_in (drop (index_in bytes) (bytes ++ more))

goes-none : (bytes more : List ℕ) → index_in bytes ≡ 0 → IndexGoes bytes more
goes-none bytes more e = rw e (omega arith)

goes-box : (bytes more : List ℕ) (head : BoxHead) → header_of bytes ≡ Ok (Some head) → header_of (bytes ++ more) ≡ Ok (Some head)
    → (head.size ≤ length bytes → IndexGoes (drop head.size bytes) more) → IndexGoes bytes more
goes-box bytes more head e f later = by_kind (is_index head.kind) refl
  where
    by_kind : (b : Bool) → is_index head.kind ≡ b → IndexGoes bytes more
    by_kind false k = goes-none bytes more (index_front bytes ∙ ap (index_by bytes) e ∙ rw k refl)
    by_kind true k = by_whole (nat_lt (length bytes) head.size) refl
      where
        before : index_in bytes ≡ head.size + index_in (drop head.size bytes)
        before = index-is bytes head e k

        both : index_in (bytes ++ more) ≡ head.size + index_in (drop head.size (bytes ++ more))
        both = index-is (bytes ++ more) head f k

        by_whole : (b : Bool) → nat_lt (length bytes) head.size ≡ b → IndexGoes bytes more
        by_whole true t =
            let l = ltb-true (length bytes) head.size t in
            let zero-more : index_in (drop head.size bytes) ≡ 0 = ap index_in (drop_all head.size bytes (omega (arith, l))) in
            let is : index_in bytes ≡ head.size = omega (arith, before, zero-more) in
            both ∙ ap (λ n. n + index_in (drop n (bytes ++ more))) (sym is)
        by_whole false t =
            let l = ltb-false (length bytes) head.size t in
            let there = later l in
            let joined : drop head.size (bytes ++ more) ≡ drop head.size bytes ++ more = drop-append-le head.size bytes more l in
            let past : drop (index_in (drop head.size bytes)) (drop head.size bytes ++ more) ≡ drop (index_in bytes) (bytes ++ more) =
            ap (drop (index_in (drop head.size bytes))) (sym joined) ∙ drop-drop (index_in (drop head.size bytes)) head.size (bytes ++ more)
            ∙ ap (λ n. drop n (bytes ++ more)) (sym before) in
            let joined-in = ap index_in joined in
            let past-in = ap index_in past in
            omega (arith, before, both, there, joined-in, past-in)

goes-with : (bytes more : List ℕ) (h : Header) → header_of bytes ≡ h → Same h (header_of (bytes ++ more)) → AtLeast 8 h
    → ((size : ℕ) → 8 ≤ size → size ≤ length bytes → IndexGoes (drop size bytes) more) → IndexGoes bytes more
goes-with bytes more (Ok None) e same least later = goes-none bytes more (index_front bytes ∙ ap (index_by bytes) e)
goes-with bytes more (Err fault) e same least later = goes-none bytes more (index_front bytes ∙ ap (index_by bytes) e)
goes-with bytes more (Ok (Some head)) e same least later = goes-box bytes more head e same (later head.size least)

goes : (n : ℕ) (bytes more : List ℕ) → length bytes ≤ n → IndexGoes bytes more
goes zero bytes more l =
    goes-with bytes more (header_of bytes) refl (header-same bytes more) (header_least bytes) (λ size a b. absurd (omega (arith, l, a, b)))
goes (suc n) bytes more l =
    goes-with bytes more (header_of bytes) refl (header-same bytes more) (header_least bytes) (λ size a b. goes n (drop size bytes) more (fewer size a))
  where
    fewer : (size : ℕ) → 8 ≤ size → length (drop size bytes) ≤ n
    fewer size a = let d = length-drop size bytes in omega (arith, l, a, d)

pub index_goes : (bytes more : List ℕ) → IndexGoes bytes more
index_goes bytes more = goes (length bytes) bytes more (omega arith)

-- ---- what is left without them

-- of bytes of which some are dropped first
without-dropped : (n : ℕ) (bytes : List ℕ) → without_index (dropped n bytes) ≡ dropped (n + index_in (drop n bytes)) bytes
without-dropped n bytes = by_length (nat_lt (length bytes) n) refl
  where
    by_length : (b : Bool) → nat_lt (length bytes) n ≡ b → without_index (dropped n bytes) ≡ dropped (n + index_in (drop n bytes)) bytes
    by_length true e =
        let l = ltb-true (length bytes) n e in
        let all = drop_all n bytes (omega (arith, l)) in
        let d = length-drop n bytes in
        let nothing : index_in (drop n bytes) ≡ 0 = ap index_in all in
        let nothing-more : index_in (drop (n - length bytes) (drop n bytes)) ≡ 0 =
        ap (λ bs. index_in (drop (n - length bytes) bs)) all ∙ ap index_in (drop-nil (n - length bytes)) in
        same-left _ _ _ _ (omega (arith, l, d, nothing, nothing-more))
        (drop_all _ (drop n bytes) (omega (arith, l, d)) ∙ sym (drop_all _ bytes (omega (arith, l))))
    by_length false e =
        let l = ltb-false (length bytes) n e in
        let none : n - length bytes ≡ 0 = omega (arith, l) in
        let same : 0 + index_in (drop n bytes) ≡ index_in (drop n bytes) = omega arith in
        ap (λ m. dropped (m + index_in (drop m (drop n bytes))) (drop n bytes)) none ∙ ap (λ m. dropped m (drop n bytes)) same
        ∙ dropped-more n (index_in (drop n bytes)) bytes l

-- Adding bytes has the same result whether or not the `mfra` boxes are dropped before.
pub without-fed : (left : Left) (more : List ℕ) → without_index (fed (without_index left) more) ≡ without_index (fed left more)
without-fed left more =
    ap without_index (dropped-on m left.unread more) ∙ without-dropped m all ∙ ap (λ n. dropped n all) (same (nat_lt (length left.unread) left.skip) refl)
    ∙ sym (without-dropped left.skip all)
  where
    all : List ℕ
    all = left.unread ++ more

    first : ℕ
    first = index_in (drop left.skip left.unread)

    m : ℕ
    m = left.skip + first

    same : (b : Bool) → nat_lt (length left.unread) left.skip ≡ b → m + index_in (drop m all) ≡ left.skip + index_in (drop left.skip all)
    same true e =
        let l = ltb-true (length left.unread) left.skip e in
        let nothing : first ≡ 0 = ap index_in (drop_all left.skip left.unread (omega (arith, l))) in
        let is : m ≡ left.skip = omega (arith, nothing) in
        ap (λ n. n + index_in (drop n all)) is
    same false e =
        let l = ltb-false (length left.unread) left.skip e in
        let on = index_goes (drop left.skip left.unread) more in
        let joined : drop left.skip all ≡ drop left.skip left.unread ++ more = drop-append-le left.skip left.unread more l in
        let joined-in = ap index_in joined in
        let past = ap index_in (ap (drop first) (sym joined) ∙ drop-drop first left.skip all) in
        omega (arith, on, joined-in, past)

-- with no more bytes
pub without-none : (left : Left) → without_index (fed left []) ≡ without_index left
without-none left = ap (λ bs. without_index (dropped left.skip bs)) (append-nil left.unread) ∙ without-dropped left.skip left.unread

pub without-twice : (left : Left) → without_index (without_index left) ≡ without_index left
without-twice left = sym (without-none (without_index left)) ∙ without-fed left [] ∙ without-none left

-- ---- a unit at the front

-- bytes whose header has come and that have no `mfra` box at the front have none there whatever bytes follow
stays-none : (bytes more : List ℕ) (h : Header) → header_of bytes ≡ h → Same h (header_of (bytes ++ more)) → AtLeast 8 h → index_in bytes ≡ 0
    → (h ≡ Ok None → ⊥) → index_in (bytes ++ more) ≡ 0
stays-none bytes more (Ok None) e same least none whole = absurd (whole refl)
stays-none bytes more (Err fault) e same least none whole = index_front (bytes ++ more) ∙ ap (index_by (bytes ++ more)) same
stays-none bytes more (Ok (Some head)) e same least none whole =
    index_front (bytes ++ more) ∙ ap (index_by (bytes ++ more)) same
    ∙ by_kind (is_index head.kind) (sym (ap (index_by bytes) e) ∙ sym (index_front bytes) ∙ none)
  where
    by_kind : (b : Bool) → size_where b (head.size + index_in (drop head.size bytes)) ≡ 0
        → size_where b (head.size + index_in (drop head.size (bytes ++ more))) ≡ 0
    by_kind true k = absurd (omega (arith, least, k))
    by_kind false k = refl

-- a unit that isn't open
abbrev pub IsShut : Unit → Type 0
IsShut unit = unit ≡ Open → ⊥

no-header : (bytes : List ℕ) → IsShut (unit_of bytes) → header_of bytes ≡ Ok None → ⊥
no-header bytes shut e = shut (unit_none 0 bytes e)

-- after the `mfra` boxes at the front, there are none
cleared-none : (left : Left) → IsShut (unit_of (without_index left).unread) → (without_index left).skip ≡ 0 × index_in (without_index left).unread ≡ 0
cleared-none left shut = by_length (nat_lt (length left.unread) n) refl
  where
    bytes : List ℕ
    bytes = drop left.skip left.unread

    n : ℕ
    n = left.skip + index_in bytes

    by_length : (b : Bool) → nat_lt (length left.unread) n ≡ b → (without_index left).skip ≡ 0 × index_in (without_index left).unread ≡ 0
    by_length true e =
        let l = ltb-true (length left.unread) n e in
        absurd (shut (ap unit_of (drop_all n left.unread (omega (arith, l)))))
    by_length false e =
        let l = ltb-false (length left.unread) n e in
        let none : (without_index left).skip ≡ 0 = omega (arith, l) in
        let on = index_goes bytes [] in
        let same = ap index_in (append-nil bytes) in
        let past = ap index_in (ap (drop (index_in bytes)) (append-nil bytes) ∙ drop-drop (index_in bytes) left.skip left.unread) in
        (none, omega (arith, on, same, past))

-- so the bytes at the front stay there, whatever comes
pub unit-fed : (left : Left) (more : List ℕ) → IsShut (unit_of (without_index left).unread)
    → without_index (fed left more) ≡ at_front ((without_index left).unread ++ more)
unit-fed left more shut =
    sym (without-fed left more) ∙ ap (λ n. without_index (dropped n all)) none.0 ∙ ap without_index (dropped-none all) ∙ ap (λ n. dropped n all) nothing
    ∙ dropped-none all
  where
    bytes : List ℕ
    bytes = (without_index left).unread

    all : List ℕ
    all = bytes ++ more

    none : (without_index left).skip ≡ 0 × index_in bytes ≡ 0
    none = cleared-none left shut

    nothing : 0 + index_in all ≡ 0
    nothing =
        let same = stays-none bytes more (header_of bytes) refl (header-same bytes more) (header_least bytes) none.1 (no-header bytes shut) in
        omega (arith, same)

-- ---- one `mfra` box at the front

-- all of which came, or not
pub index_more : (bytes : List ℕ) (head : BoxHead) → header_of bytes ≡ Ok (Some head) → is_index head.kind ≡ true → head.size ≤ length bytes
    → dropped (index_in bytes) bytes ≡ dropped (index_in (drop head.size bytes)) (drop head.size bytes)
index_more bytes head e k whole =
    ap (λ n. dropped n bytes) (index-is bytes head e k) ∙ sym (dropped-more head.size (index_in (drop head.size bytes)) bytes whole)

pub index_torn : (bytes : List ℕ) (head : BoxHead) → header_of bytes ≡ Ok (Some head) → is_index head.kind ≡ true → length bytes < head.size
    → dropped (index_in bytes) bytes ≡ record { skip = head.size - length bytes; unread = [] }
index_torn bytes head e k part =
    let nothing : index_in (drop head.size bytes) ≡ 0 = ap index_in (drop_all head.size bytes (omega (arith, part))) in
    let is = index-is bytes head e k in
    same-left _ _ _ _ (omega (arith, is, nothing)) (drop_all (index_in bytes) bytes (omega (arith, is, part)))

pub index_other : (bytes : List ℕ) (head : BoxHead) → header_of bytes ≡ Ok (Some head) → is_index head.kind ≡ false → dropped (index_in bytes) bytes ≡ at_front bytes
index_other bytes head e k = ap (λ n. dropped n bytes) (index_front bytes ∙ ap (index_by bytes) e ∙ rw k refl) ∙ dropped-none bytes

pub index_none : (bytes : List ℕ) → header_of bytes ≡ Ok None → dropped (index_in bytes) bytes ≡ at_front bytes
index_none bytes e = ap (λ n. dropped n bytes) (index_front bytes ∙ ap (index_by bytes) e) ∙ dropped-none bytes

pub index_bad : (bytes : List ℕ) (fault : StreamFault) → header_of bytes ≡ Err fault → dropped (index_in bytes) bytes ≡ at_front bytes
index_bad bytes fault e = ap (λ n. dropped n bytes) (index_front bytes ∙ ap (index_by bytes) e) ∙ dropped-none bytes
