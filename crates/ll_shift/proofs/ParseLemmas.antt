-- A box that was made is read as one.
use Rattle.std.proofs.Common.{◌≡◌, ℕ, zero, suc, ◌+◌, ◌^◌, ◌<◌, ◌≤◌, ◌==◌, List, ◌++◌, false, Option, Some, None, Ok, refl, ap, ap₂, sym, subst, ◌∙◌, length, take, drop, if◌then◌else◌, length-append, length-drop, append_assoc, arith}
use Rattle.std.proofs.lemmas.Bool.{ne_eqb}
use Rattle.std.proofs.lemmas.List.{drop-append-le, drop-take, drop_at, length-take-le, take_at}
use borrow.Author.Tests.{le-ltb}
use Rattle.byteorder.specs.Endian.{big_bytes, big_number}
use Rattle.byteorder.specs.Numbers.{big_from-append, big_from-take, big_number-reads_back, length-bytes_high_first}
use Rattle.ll_mp4.specs.Boxes.{header_by, header_of, large_header, sized}
use Rattle.ll_mp4.specs.declared.boxes.BoxHead.{BoxHead}
use Rattle.ll_shift.specs.Pieces.{Box, Front, Pieces, after_front, each, front, pieces, resized}
use Rattle.ll_shift.proofs.AppendLemmas.{front_of}
use Rattle.ll_shift.proofs.FormedLemmas.{Shape, ShortHeader, LongHeader, resized_long, resized_short}
use Rattle.ll_shift.proofs.PieceLemmas.{after_fewer, each_done, none_left, pieces_done, pieces_more}

abbrev head-of : Box → ℕ → BoxHead
head-of b size = record { kind = b.kind; len = length b.header; size = size }

whole-size : (kind len size : ℕ) → len ≤ size → sized kind len size ≡ Ok (Some (record { kind = kind; len = len; size = size }))
whole-size kind len size l = rw (le-ltb size len l) refl

header-short : (bytes : List ℕ) (size : ℕ) → 8 ≤ length bytes → big_number 4 bytes ≡ size → 8 ≤ size
    → header_of bytes ≡ Ok (Some (record { kind = big_number 4 (drop 4 bytes); len = 8; size = size }))
header-short bytes size l e least =
    let other : (size == 1) ≡ false = ne_eqb size 1 (λ k. omega (arith, k, least)) in
    rw (le-ltb (length bytes) 8 l)
    (ap (λ n. header_by n bytes) e ∙ ap (λ t. if t then large_header bytes else sized (big_number 4 (drop 4 bytes)) 8 size) other
    ∙ whole-size (big_number 4 (drop 4 bytes)) 8 size least)

header-long : (bytes : List ℕ) (size : ℕ) → 16 ≤ length bytes → big_number 4 bytes ≡ 1 → big_number 8 (drop 8 bytes) ≡ size → 16 ≤ size
    → header_of bytes ≡ Ok (Some (record { kind = big_number 4 (drop 4 bytes); len = 16; size = size }))
header-long bytes size l one e least =
    rw (le-ltb (length bytes) 8 (omega (arith, l)))
    (ap (λ n. header_by n bytes) one
    ∙ rw (le-ltb (length bytes) 16 l)
    (ap (λ n. sized (big_number 4 (drop 4 bytes)) 16 n) e ∙ whole-size (big_number 4 (drop 4 bytes)) 16 size least))

-- a header with a size, before other bytes
header-reads : (b : Box) (size : ℕ) (rest : List ℕ) → Shape b → length b.header ≤ size → size < 2 ^ 32
    → header_of (resized b.header size ++ rest) ≡ Ok (Some (head-of b size))
header-reads b size rest (ShortHeader len kind) l few =
    let tail = drop 4 b.header ++ rest in
    let d = length-drop 4 b.header in
    let n = length-bytes_high_first 4 size in
    let a = length-append (big_bytes 4 size) tail in
    let t = length-append (drop 4 b.header) rest in
    let bytes : resized b.header size ++ rest ≡ big_bytes 4 size ++ tail =
    ap (λ h. h ++ rest) (resized_short b.header size len) ∙ append_assoc (big_bytes 4 size) (drop 4 b.header) rest in
    ap header_of bytes
    ∙ header-short (big_bytes 4 size ++ tail) size (omega (arith, d, n, a, t, len)) (big_number-reads_back 4 size tail (omega (arith, few))) (omega (arith, l, len))
    ∙ ap₂ (λ k m. Ok (Some (record { kind = k; len = m; size = size })))
    (ap (big_number 4) (drop_at (big_bytes 4 size) tail 4 n) ∙ big_from-append 4 (drop 4 b.header) rest (omega (arith, d, len)) ∙ sym kind)
    (sym len)
header-reads b size rest (LongHeader len kind one) l few =
    let tail = big_bytes 8 size ++ rest in
    let h = length-take-le 8 b.header (omega (arith, len)) in
    let n = length-bytes_high_first 8 size in
    let a = length-append (take 8 b.header) tail in
    let t = length-append (big_bytes 8 size) rest in
    let d = length-drop 4 (take 8 b.header) in
    let bytes : resized b.header size ++ rest ≡ take 8 b.header ++ tail =
    ap (λ x. x ++ rest) (resized_long b.header size len) ∙ append_assoc (take 8 b.header) (big_bytes 8 size) rest in
    ap header_of bytes
    ∙ header-long (take 8 b.header ++ tail) size (omega (arith, h, n, a, t))
    (big_from-append 4 (take 8 b.header) tail (omega (arith, h)) ∙ big_from-take 0 4 8 b.header (omega arith) ∙ one)
    (ap (big_number 8) (drop_at (take 8 b.header) tail 8 h) ∙ big_number-reads_back 8 size rest (omega (arith, few)))
    (omega (arith, l, len))
    ∙ ap₂ (λ k m. Ok (Some (record { kind = k; len = m; size = size })))
    (ap (big_number 4) (drop-append-le 4 (take 8 b.header) tail (omega (arith, h)))
    ∙ big_from-append 4 (drop 4 (take 8 b.header)) tail (omega (arith, d, h))
    ∙ ap (big_number 4) (drop-take 4 4 b.header) ∙ big_from-take 0 4 4 (drop 4 b.header) (omega arith) ∙ sym kind)
    (sym len)

-- a box with another content
abbrev pub remade : Box → List ℕ → Box
remade b content = record { kind = b.kind; header = resized b.header (length b.header + length content); content = content }

pub front_remade : (b : Box) (content more : List ℕ) → Shape b → length (remade b content).header ≡ length b.header → length b.header + length content < 2 ^ 32
    → front (((remade b content).header ++ content) ++ more) ≡ Some (record { box = remade b content; after = more })
front_remade b content more shape len few =
    let size = length b.header + length content in
    let header = resized b.header size in
    let made = header ++ content in
    let m = length-append header content in
    let all = length-append made more in
    let exact : length made ≡ size = omega (arith, m, len) in
    let reads : header_of (made ++ more) ≡ Ok (Some (head-of b size)) =
    ap header_of (append_assoc header content more) ∙ header-reads b size (content ++ more) shape (omega arith) few in
    front_of (made ++ more) (head-of b size) reads (omega (arith, all, exact))
    ∙ ap₂ (λ t d. Some (record { box = record { kind = b.kind; header = take (length b.header) t; content = drop (length b.header) t }; after = d }))
    (take_at made more size exact) (drop_at made more size exact)
    ∙ ap₂ (λ x y. Some (record { box = record { kind = b.kind; header = x; content = y }; after = more }))
    (take_at header content (length b.header) len) (drop_at header content (length b.header) len)

-- ---- what is left after all boxes

rest-by : (bytes : List ℕ) (o : Option Front) → front bytes ≡ o → ((f : Front) → front bytes ≡ Some f → front (pieces f.after).rest ≡ None)
    → front (pieces bytes).rest ≡ None
rest-by bytes None e later = ap (λ (p : Pieces). front p.rest) (pieces_done bytes e) ∙ e
rest-by bytes (Some f) e later = ap (λ (p : Pieces). front p.rest) (pieces_more bytes f e) ∙ later f e

rest-all : (n : ℕ) (bytes : List ℕ) → length bytes ≤ n → front (pieces bytes).rest ≡ None
rest-all zero bytes l = ap (λ (p : Pieces). front p.rest) (pieces_done bytes (none_left bytes l)) ∙ none_left bytes l
rest-all (suc n) bytes l =
    rest-by bytes (front bytes) refl (λ f e. rest-all n f.after (subst (λ o. length (after_front o) ≤ n) e (after_fewer n bytes l)))

pub rest_stays : (make : Box → List ℕ) (bytes : List ℕ) → each make (pieces bytes).rest ≡ (pieces bytes).rest
rest_stays make bytes = each_done make (pieces bytes).rest (rest-all (length bytes) bytes (omega arith))
