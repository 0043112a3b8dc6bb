-- What is at the front of bytes is there whatever bytes follow.
use Rattle.std.proofs.Common.{◌≡◌, ℕ, zero, suc, ◌+◌, ◌-◌, ◌≤◌, ◌<◌, ◌==◌, List, ◌++◌, Bool, true, false, Some, None, Ok, Err, refl, ap, sym, subst, ◌∙◌, length, drop, nat_lt, if◌then◌else◌, length-append, length-drop, arith}
use borrow.Author.Tests.{ltb-false, ltb-true, le-ltb}
use Rattle.std.proofs.lemmas.List.{drop-append-le}
use Rattle.byteorder.specs.Endian.{big_number}
use Rattle.byteorder.specs.Numbers.{big_from-append}
use Rattle.ll_mp4.specs.Boxes.{Header, boxes, header_by, header_of, large_header, sized}
use Rattle.ll_mp4.specs.Units.{Unit, Open, Refused, Closed, is_last, size_limit, unit_from, unit_of}
use Rattle.ll_mp4.specs.declared.boxes.BoxHead.{BoxHead}
use Rattle.ll_mp4.specs.declared.fault.StreamFault.TheVariants.{BadBox}
use Rattle.ll_mp4.proofs.BoxLemmas.{AtLeast, header_least}
use Rattle.ll_mp4.proofs.UnitLemmas.{unit_large, unit_last, unit_more, unit_none, unit_open, unit_wrong}

-- ---- headers

-- a header that has come, or is refused, stays so
abbrev pub Same : Header → Header → Type 0
Same (Ok None) after = 0 ≤ 0
Same (Ok (Some head)) after = after ≡ Ok (Some head)
Same (Err fault) after = after ≡ Err fault

same-is : (h : Header) → Same h h
same-is (Ok None) = omega arith
same-is (Ok (Some head)) = refl
same-is (Err fault) = refl

-- the number at a place that has come whole
number-same : (n place : ℕ) (bytes more : List ℕ) → place + n ≤ length bytes → big_number n (drop place (bytes ++ more)) ≡ big_number n (drop place bytes)
number-same n place bytes more l =
    let d = length-drop place bytes in
    ap (big_number n) (drop-append-le place bytes more (omega (arith, l))) ∙ big_from-append n (drop place bytes) more (omega (arith, d, l))

sized-same : (kind len size other-kind other-size : ℕ) → other-kind ≡ kind → other-size ≡ size → Same (sized kind len size) (sized other-kind len other-size)
sized-same kind len size other-kind other-size k s =
    subst (λ x. Same (sized kind len size) (sized x len other-size)) (sym k)
    (subst (λ x. Same (sized kind len size) (sized kind len x)) (sym s) (same-is (sized kind len size)))

large-same : (bytes more : List ℕ) → Same (large_header bytes) (large_header (bytes ++ more))
large-same bytes more = by_length (nat_lt (length bytes) 16) refl
  where
    by_length : (b : Bool) → nat_lt (length bytes) 16 ≡ b → Same (large_header bytes) (large_header (bytes ++ more))
    by_length true e = subst (λ h. Same h (large_header (bytes ++ more))) (sym (partial e)) (omega arith)
      where
        partial : nat_lt (length bytes) 16 ≡ true → large_header bytes ≡ Ok None
        partial k = rw k refl
    by_length false e =
        let l = ltb-false (length bytes) 16 e in
        let sum = length-append bytes more in
        let full = le-ltb (length (bytes ++ more)) 16 (omega (arith, l, sum)) in
        subst (λ h. Same h (large_header (bytes ++ more))) (sym (whole bytes e))
        (subst (λ h. Same (sized (big_number 4 (drop 4 bytes)) 16 (big_number 8 (drop 8 bytes))) h) (sym (whole (bytes ++ more) full))
        (sized-same (big_number 4 (drop 4 bytes)) 16 (big_number 8 (drop 8 bytes)) (big_number 4 (drop 4 (bytes ++ more))) (big_number 8 (drop 8 (bytes ++ more)))
        (number-same 4 4 bytes more (omega (arith, l))) (number-same 8 8 bytes more (omega (arith, l)))))
      where
        whole : (bs : List ℕ) → nat_lt (length bs) 16 ≡ false → large_header bs ≡ sized (big_number 4 (drop 4 bs)) 16 (big_number 8 (drop 8 bs))
        whole bs k = rw k refl

by-same : (size : ℕ) (bytes more : List ℕ) → 8 ≤ length bytes → Same (header_by size bytes) (header_by size (bytes ++ more))
by-same size bytes more l = by_large (size == 1)
  where
    by_large : (b : Bool)
        → Same (if b then large_header bytes else sized (big_number 4 (drop 4 bytes)) 8 size)
        (if b then large_header (bytes ++ more) else sized (big_number 4 (drop 4 (bytes ++ more))) 8 size)
    by_large true = large-same bytes more
    by_large false =
        sized-same (big_number 4 (drop 4 bytes)) 8 size (big_number 4 (drop 4 (bytes ++ more))) size (number-same 4 4 bytes more (omega (arith, l))) refl

pub header-same : (bytes more : List ℕ) → Same (header_of bytes) (header_of (bytes ++ more))
header-same bytes more = by_length (nat_lt (length bytes) 8) refl
  where
    by_length : (b : Bool) → nat_lt (length bytes) 8 ≡ b → Same (header_of bytes) (header_of (bytes ++ more))
    by_length true e = subst (λ h. Same h (header_of (bytes ++ more))) (sym (partial e)) (omega arith)
      where
        partial : nat_lt (length bytes) 8 ≡ true → header_of bytes ≡ Ok None
        partial k = rw k refl
    by_length false e =
        let l = ltb-false (length bytes) 8 e in
        let sum = length-append bytes more in
        let full = le-ltb (length (bytes ++ more)) 8 (omega (arith, l, sum)) in
        subst (λ h. Same h (header_of (bytes ++ more))) (sym (whole bytes e))
        (subst (λ h. Same (header_by (big_number 4 bytes) bytes) h)
        (sym (whole (bytes ++ more) full ∙ ap (λ n. header_by n (bytes ++ more)) (big_from-append 4 bytes more (omega (arith, l)))))
        (by-same (big_number 4 bytes) bytes more l))
      where
        whole : (bs : List ℕ) → nat_lt (length bs) 8 ≡ false → header_of bs ≡ header_by (big_number 4 bs) bs
        whole bs k = rw k refl

-- ---- units

-- A unit that goes on after `before` bytes stays what it is, whatever bytes follow: if it is closed, it has more than `before` bytes and no
-- more than have come; if it is open, few have come.
abbrev pub Stays : ℕ → ℕ → Unit → Unit → Type 0
Stays before len Open after = before + len ≤ size_limit + 15
Stays before len (Refused fault) after = after ≡ Refused fault
Stays before len (Closed size) after = (after ≡ Closed size) × (before < size) × (size ≤ before + len)

-- one box more
later-stays : (before size len : ℕ) (unit after : Unit) → size ≤ len → Stays (before + size) (len - size) unit after → Stays before len unit after
later-stays before size len Open after l s = omega (arith, l, s)
later-stays before size len (Refused fault) after l s = s
later-stays before size len (Closed n) after l s = (s.0, omega (arith, s.1), omega (arith, l, s.2))

-- headers that haven't come have fewer than 16 bytes
few-partial : (bytes : List ℕ) → header_of bytes ≡ Ok None → length bytes ≤ 15
few-partial bytes = by_length (nat_lt (length bytes) 8) refl
  where
    sized-whole : (kind len size : ℕ) → sized kind len size ≡ Ok None → ⊥
    sized-whole kind len size = by_size (nat_lt size len)
      where
        by_size : (b : Bool) → if◌then◌else◌ {A = Header} b (Err BadBox) (Ok (Some (record { kind = kind; len = len; size = size }))) ≡ Ok None → ⊥
        by_size true e = absurd (cc)
        by_size false e = absurd (cc)

    large-whole : large_header bytes ≡ Ok None → length bytes ≤ 15
    large-whole = by_size (nat_lt (length bytes) 16) refl
      where
        by_size : (b : Bool) → nat_lt (length bytes) 16 ≡ b
            → (if b then Ok None else sized (big_number 4 (drop 4 bytes)) 16 (big_number 8 (drop 8 bytes))) ≡ Ok None → length bytes ≤ 15
        by_size true k e = let l = ltb-true (length bytes) 16 k in omega (arith, l)
        by_size false k e = absurd (sized-whole (big_number 4 (drop 4 bytes)) 16 (big_number 8 (drop 8 bytes)) e)

    by_large : (b : Bool) → (if b then large_header bytes else sized (big_number 4 (drop 4 bytes)) 8 (big_number 4 bytes)) ≡ Ok None → length bytes ≤ 15
    by_large true e = large-whole e
    by_large false e = absurd (sized-whole (big_number 4 (drop 4 bytes)) 8 (big_number 4 bytes) e)

    by_length : (b : Bool) → nat_lt (length bytes) 8 ≡ b → (if b then Ok None else header_by (big_number 4 bytes) bytes) ≡ Ok None → length bytes ≤ 15
    by_length true k e = let l = ltb-true (length bytes) 8 k in omega (arith, l)
    by_length false k e = by_large (big_number 4 bytes == 1) e

both : (before len : ℕ) (u v unit after : Unit) → u ≡ unit → v ≡ after → Stays before len unit after → Stays before len u v
both before len u v unit after e f s = subst (λ x. Stays before len x v) (sym e) (subst (λ x. Stays before len unit x) (sym f) s)

-- the unit that goes on with some bytes, and with more after them
abbrev GoesOn : ℕ → List ℕ → List ℕ → Type 0
GoesOn before bytes more = Stays before (length bytes) (unit_from before (boxes bytes)) (unit_from before (boxes (bytes ++ more)))

goes-head : (before : ℕ) (bytes more : List ℕ) (head : BoxHead) → header_of bytes ≡ Ok (Some head) → header_of (bytes ++ more) ≡ Ok (Some head)
    → (head.size ≤ length bytes → before + head.size ≤ size_limit → GoesOn (before + head.size) (drop head.size bytes) more) → GoesOn before bytes more
goes-head before bytes more head e f later = by_limit (nat_lt size_limit (before + head.size)) refl
  where
    by_last : (b : Bool) → is_last head.kind ≡ b → head.size ≤ length bytes → before + head.size ≤ size_limit → GoesOn before bytes more
    by_last true k whole few =
        let sum = length-append bytes more in
        both before (length bytes) _ _ _ _ (unit_last before bytes head e few whole k) (unit_last before (bytes ++ more) head f few (omega (arith, whole, sum)) k)
        (refl, goes-past, omega (arith, whole))
      where
        goes-past : before < before + head.size
        goes-past = let l = header_least bytes in let m = subst (AtLeast 8) e l in omega (arith, m)
    by_last false k whole few =
        let sum = length-append bytes more in
        let d = length-drop head.size bytes in
        both before (length bytes) _ _ _ _ (unit_more before bytes head e few whole k)
        (unit_more before (bytes ++ more) head f few (omega (arith, whole, sum)) k
        ∙ ap (λ bs. unit_from (before + head.size) (boxes bs)) (drop-append-le head.size bytes more whole))
        (later-stays before head.size (length bytes) _ _ whole
        (subst (λ n. Stays (before + head.size) n (unit_from (before + head.size) (boxes (drop head.size bytes))) (unit_from (before + head.size) (boxes (drop head.size bytes ++ more)))) d
        (later whole few)))

    by_whole : (b : Bool) → nat_lt (length bytes) head.size ≡ b → before + head.size ≤ size_limit → GoesOn before bytes more
    by_whole true k few =
        let part = ltb-true (length bytes) head.size k in
        subst (λ u. Stays before (length bytes) u (unit_from before (boxes (bytes ++ more)))) (sym (unit_open before bytes head e few part)) (omega (arith, part, few))
    by_whole false k few = by_last (is_last head.kind) refl (ltb-false (length bytes) head.size k) few

    by_limit : (b : Bool) → nat_lt size_limit (before + head.size) ≡ b → GoesOn before bytes more
    by_limit true k =
        let many = ltb-true size_limit (before + head.size) k in
        both before (length bytes) _ _ _ _ (unit_large before bytes head e many) (unit_large before (bytes ++ more) head f many) refl
    by_limit false k = by_whole (nat_lt (length bytes) head.size) refl (ltb-false size_limit (before + head.size) k)

goes-with : (before : ℕ) (bytes more : List ℕ) (h : Header) → header_of bytes ≡ h → Same h (header_of (bytes ++ more)) → AtLeast 8 h → before ≤ size_limit
    → ((size : ℕ) → 8 ≤ size → size ≤ length bytes → before + size ≤ size_limit → GoesOn (before + size) (drop size bytes) more) → GoesOn before bytes more
goes-with before bytes more (Ok None) e same least few later =
    let l = few-partial bytes e in
    subst (λ u. Stays before (length bytes) u (unit_from before (boxes (bytes ++ more)))) (sym (unit_none before bytes e)) (omega (arith, l, few))
goes-with before bytes more (Ok (Some head)) e same least few later = goes-head before bytes more head e same (later head.size least)
goes-with before bytes more (Err fault) e same least few later =
    both before (length bytes) _ _ _ _ (unit_wrong before bytes fault e) (unit_wrong before (bytes ++ more) fault same) refl

goes : (n before : ℕ) (bytes more : List ℕ) → length bytes ≤ n → before ≤ size_limit → GoesOn before bytes more
goes zero before bytes more l few =
    goes-with before bytes more (header_of bytes) refl (header-same bytes more) (header_least bytes) few (λ size a b c. absurd (omega (arith, l, a, b)))
goes (suc n) before bytes more l few =
    goes-with before bytes more (header_of bytes) refl (header-same bytes more) (header_least bytes) few
    (λ size a b c. goes n (before + size) (drop size bytes) more (fewer size a) c)
  where
    fewer : (size : ℕ) → 8 ≤ size → length (drop size bytes) ≤ n
    fewer size a = let d = length-drop size bytes in omega (arith, l, a, d)

pub unit_stays : (bytes more : List ℕ) → Stays 0 (length bytes) (unit_of bytes) (unit_of (bytes ++ more))
unit_stays bytes more = goes (length bytes) 0 bytes more (omega arith) (omega arith)
