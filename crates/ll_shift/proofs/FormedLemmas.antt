-- The boxes of some bytes state their sizes, and a header with the same size is the same header.
use Rattle.std.proofs.Common.{◌≡◌, ℕ, zero, suc, ◌+◌, ◌<◌, ◌≤◌, ◌==◌, List, [], ◌∷◌, ◌++◌, Bool, true, false, Option, Some, None, Ok, Err, refl, ap, ap₂, sym, subst, ◌∙◌, length, take, drop, nat_lt, if◌then◌else◌, length-append, length-drop, take-append-drop, arith}
use Rattle.std.proofs.lemmas.Bool.{eqb-true}
use Rattle.std.proofs.lemmas.List.{drop-take, length-take-le, take-take}
use Rattle.std.proofs.lemmas.List.Elements.{All-drop, All-take}
use Rattle.std.specs.List.{flat_map}
use borrow.Author.Tests.{ltb-false}
use Rattle.byteorder.specs.Endian.{big_bytes, big_number}
use Rattle.byteorder.specs.Numbers.{big_from-take}
use Rattle.ll_mp4.specs.Boxes.{Header, header_by, header_of, large_header, sized}
use Rattle.ll_mp4.specs.declared.boxes.BoxHead.{BoxHead}
use Rattle.ll_mp4.specs.declared.fault.StreamFault.TheVariants.{BadBox}
use Rattle.ll_shift.specs.Laws.{AreBytes}
use Rattle.ll_shift.specs.Moved.{total}
use Rattle.ll_shift.specs.Pieces.{Box, Front, Pieces, after_front, each, front, grown, pieces, resized, whole}
use Rattle.ll_shift.proofs.AppendLemmas.{front_at, found_by, front_whole}
use Rattle.ll_shift.proofs.ByteLemmas.{number_bytes}
use Rattle.ll_shift.proofs.PieceLemmas.{after_fewer, each_more, each_done, none_left, pieces_done, pieces_more}

-- ---- a header states its size

data Form (bytes : List ℕ) (head : BoxHead) : Type 0 where
  Short : head.kind ≡ big_number 4 (drop 4 bytes) → head.len ≡ 8 → head.size ≡ big_number 4 bytes → 8 ≤ head.size → Form bytes head
  Long :
      head.kind ≡ big_number 4 (drop 4 bytes) → head.len ≡ 16 → big_number 4 bytes ≡ 1 → head.size ≡ big_number 8 (drop 8 bytes) → 16 ≤ head.size
      → Form bytes head

abbrev head-or : BoxHead → Header → BoxHead
head-or other (Ok (Some head)) = head
head-or other (Ok None) = other
head-or other (Err fault) = other

record Sized (kind len size : ℕ) (head : BoxHead) : Type 0 where
  is : record { kind = kind; len = len; size = size } ≡ head
  least : len ≤ size

sized-is : (kind len size : ℕ) (head : BoxHead) → sized kind len size ≡ Ok (Some head) → Sized kind len size head
sized-is kind len size head = by_size (nat_lt size len) refl
  where
    by_size : (b : Bool) → nat_lt size len ≡ b
        → if◌then◌else◌ {A = Header} b (Err BadBox) (Ok (Some (record { kind = kind; len = len; size = size }))) ≡ Ok (Some head)
        → Sized kind len size head
    by_size true k e = absurd (cc)
    by_size false k e = record { is = ap (head-or (record { kind = kind; len = len; size = size })) e; least = ltb-false size len k }

short-form : (bytes : List ℕ) (head : BoxHead) → sized (big_number 4 (drop 4 bytes)) 8 (big_number 4 bytes) ≡ Ok (Some head) → Form bytes head
short-form bytes head e =
    let s = sized-is (big_number 4 (drop 4 bytes)) 8 (big_number 4 bytes) head e in
    subst (λ h. Form bytes h) s.is (Short refl refl refl s.least)

long-form : (bytes : List ℕ) (head : BoxHead) → big_number 4 bytes ≡ 1 → large_header bytes ≡ Ok (Some head) → Form bytes head
long-form bytes head one = by_length (nat_lt (length bytes) 16)
  where
    by_length : (b : Bool)
        → if◌then◌else◌ {A = Header} b (Ok None) (sized (big_number 4 (drop 4 bytes)) 16 (big_number 8 (drop 8 bytes))) ≡ Ok (Some head) → Form bytes head
    by_length true e = absurd (cc)
    by_length false e =
        let s = sized-is (big_number 4 (drop 4 bytes)) 16 (big_number 8 (drop 8 bytes)) head e in
        subst (λ h. Form bytes h) s.is (Long refl refl one refl s.least)

form-of : (bytes : List ℕ) (head : BoxHead) → header_of bytes ≡ Ok (Some head) → Form bytes head
form-of bytes head = by_length (nat_lt (length bytes) 8)
  where
    by_large : (b : Bool) → (big_number 4 bytes == 1) ≡ b
        → if◌then◌else◌ {A = Header} b (large_header bytes) (sized (big_number 4 (drop 4 bytes)) 8 (big_number 4 bytes)) ≡ Ok (Some head) → Form bytes head
    by_large true k e = long-form bytes head (eqb-true (big_number 4 bytes) 1 k) e
    by_large false k e = short-form bytes head e

    by_length : (b : Bool) → if◌then◌else◌ {A = Header} b (Ok None) (header_by (big_number 4 bytes) bytes) ≡ Ok (Some head) → Form bytes head
    by_length true e = absurd (cc)
    by_length false e = by_large (big_number 4 bytes == 1) refl e

-- ---- the same size again

pub resized_short : (header : List ℕ) (size : ℕ) → length header ≡ 8 → resized header size ≡ big_bytes 4 size ++ drop 4 header
resized_short header size e = ap (λ n. if n == 16 then take 8 header ++ big_bytes 8 size else big_bytes 4 size ++ drop 4 header) e

pub resized_long : (header : List ℕ) (size : ℕ) → length header ≡ 16 → resized header size ≡ take 8 header ++ big_bytes 8 size
resized_long header size e = ap (λ n. if n == 16 then take 8 header ++ big_bytes 8 size else big_bytes 4 size ++ drop 4 header) e

short-same : (bytes : List ℕ) (size : ℕ) → AreBytes bytes → size ≡ big_number 4 bytes → 8 ≤ size → size ≤ length bytes
    → resized (take 8 (take size bytes)) size ≡ take 8 (take size bytes)
short-same bytes size h e least l =
    let t = take-take 8 size bytes least in
    ap (λ x. resized x size) t
    ∙ resized_short (take 8 bytes) size (length-take-le 8 bytes (omega (arith, least, l)))
    ∙ ap (λ x. x ++ drop 4 (take 8 bytes)) (ap (big_bytes 4) e ∙ number_bytes 4 bytes h (omega (arith, least, l)) ∙ sym (take-take 4 8 bytes (omega arith)))
    ∙ take-append-drop 4 (take 8 bytes) ∙ sym t

long-same : (bytes : List ℕ) (size : ℕ) → AreBytes bytes → size ≡ big_number 8 (drop 8 bytes) → 16 ≤ size → size ≤ length bytes
    → resized (take 16 (take size bytes)) size ≡ take 16 (take size bytes)
long-same bytes size h e least l =
    let t = take-take 16 size bytes least in
    let d = length-drop 8 bytes in
    ap (λ x. resized x size) t
    ∙ resized_long (take 16 bytes) size (length-take-le 16 bytes (omega (arith, least, l)))
    ∙ ap (λ x. take 8 (take 16 bytes) ++ x)
    (ap (big_bytes 8) e ∙ number_bytes 8 (drop 8 bytes) (All-drop (λ b. b < 256) 8 bytes h) (omega (arith, least, l, d)) ∙ sym (drop-take 8 8 bytes))
    ∙ take-append-drop 8 (take 16 bytes) ∙ sym t

form-same : (bytes : List ℕ) (head : BoxHead) → AreBytes bytes → head.size ≤ length bytes → Form bytes head
    → resized (take head.len (take head.size bytes)) head.size ≡ take head.len (take head.size bytes)
form-same bytes head h l (Short kind len size least) =
    subst (λ n. resized (take n (take head.size bytes)) head.size ≡ take n (take head.size bytes)) (sym len) (short-same bytes head.size h size least l)
form-same bytes head h l (Long kind len one size least) =
    subst (λ n. resized (take n (take head.size bytes)) head.size ≡ take n (take head.size bytes)) (sym len) (long-same bytes head.size h size least l)

form-least : (bytes : List ℕ) (head : BoxHead) → head.size ≤ length bytes → Form bytes head → 8 ≤ length (take head.len (take head.size bytes))
form-least bytes head l (Short kind len size least) =
    let t = length-take-le head.size bytes l in
    let h = length-take-le head.len (take head.size bytes) (omega (arith, t, len, least)) in
    omega (arith, h, len)
form-least bytes head l (Long kind len one size least) =
    let t = length-take-le head.size bytes l in
    let h = length-take-le head.len (take head.size bytes) (omega (arith, t, len, least)) in
    omega (arith, h, len)

-- ---- boxes

-- a header that has a type, and a size of 32 bits, or one of 64 after it
pub data Shape (b : Box) : Type 0 where
  ShortHeader : length b.header ≡ 8 → b.kind ≡ big_number 4 (drop 4 b.header) → Shape b
  LongHeader : length b.header ≡ 16 → b.kind ≡ big_number 4 (drop 4 b.header) → big_number 4 b.header ≡ 1 → Shape b

shape-of : (bytes : List ℕ) (head : BoxHead) → head.size ≤ length bytes → Form bytes head → Shape (front_at head bytes).box
shape-of bytes head l (Short kind len size least) =
    let header : take head.len (take head.size bytes) ≡ take 8 bytes = ap (λ n. take n (take head.size bytes)) len ∙ take-take 8 head.size bytes least in
    ShortHeader (ap length header ∙ length-take-le 8 bytes (omega (arith, l, least)))
    (kind ∙ sym (big_from-take 0 4 4 (drop 4 bytes) (omega arith)) ∙ ap (big_number 4) (sym (drop-take 4 4 bytes)) ∙ ap (λ h. big_number 4 (drop 4 h)) (sym header))
shape-of bytes head l (Long kind len one size least) =
    let header : take head.len (take head.size bytes) ≡ take 16 bytes = ap (λ n. take n (take head.size bytes)) len ∙ take-take 16 head.size bytes least in
    LongHeader (ap length header ∙ length-take-le 16 bytes (omega (arith, l, least)))
    (kind ∙ sym (big_from-take 0 4 12 (drop 4 bytes) (omega arith)) ∙ ap (big_number 4) (sym (drop-take 4 12 bytes)) ∙ ap (λ h. big_number 4 (drop 4 h)) (sym header))
    (ap (big_number 4) header ∙ big_from-take 0 4 16 bytes (omega arith) ∙ one)

pub record Formed (b : Box) : Type 0 where
  pub shape : Shape b
  pub least : 8 ≤ length b.header
  pub same : grown b 0 ≡ b.header
  pub bytes : AreBytes b.content

formed-at : (bytes : List ℕ) (head : BoxHead) → AreBytes bytes → header_of bytes ≡ Ok (Some head) → head.size ≤ length bytes → Formed (front_at head bytes).box
formed-at bytes head h e l =
    let header = take head.len (take head.size bytes) in
    let content = drop head.len (take head.size bytes) in
    let sum = length-append header content in
    let joined : length (header ++ content) ≡ length (take head.size bytes) = ap length (take-append-drop head.len (take head.size bytes)) in
    let size = length-take-le head.size bytes l in
    let all : length header + length content + 0 ≡ head.size = omega (arith, sum, joined, size) in
    record {
      shape = shape-of bytes head l (form-of bytes head e);
      least = form-least bytes head l (form-of bytes head e);
      same = ap (resized header) all ∙ form-same bytes head h l (form-of bytes head e);
      bytes = All-drop (λ b. b < 256) head.len (take head.size bytes) (All-take (λ b. b < 256) head.size bytes h);
    }

-- the front box and the bytes after it
front-formed : (bytes : List ℕ) (f : Front) → AreBytes bytes → front bytes ≡ Some f → Formed f.box
front-formed bytes f h e =
    let found = found_by (header_of bytes) bytes f e in
    subst (λ (g : Front). Formed g.box) found.same (formed-at bytes found.head h found.is found.full)

after-bytes : (bytes : List ℕ) (f : Front) → AreBytes bytes → front bytes ≡ Some f → AreBytes f.after
after-bytes bytes f h e =
    let found = found_by (header_of bytes) bytes f e in
    subst (λ (g : Front). AreBytes g.after) found.same (All-drop (λ b. b < 256) found.head.size bytes h)

-- ---- all boxes

abbrev pub AllFormed : List Box → Type 0
AllFormed [] = 0 ≤ 0
AllFormed (b ∷ boxes) = Formed b × AllFormed boxes

formed-by : (bytes : List ℕ) (o : Option Front) → front bytes ≡ o → AreBytes bytes
    → ((f : Front) → front bytes ≡ Some f → AreBytes f.after → AllFormed (pieces f.after).boxes) → AllFormed (pieces bytes).boxes
formed-by bytes None e h later = subst (λ (p : Pieces). AllFormed p.boxes) (sym (pieces_done bytes e)) (omega arith)
formed-by bytes (Some f) e h later =
    subst (λ (p : Pieces). AllFormed p.boxes) (sym (pieces_more bytes f e)) (front-formed bytes f h e, later f e (after-bytes bytes f h e))

formed : (n : ℕ) (bytes : List ℕ) → length bytes ≤ n → AreBytes bytes → AllFormed (pieces bytes).boxes
formed zero bytes l h = subst (λ (p : Pieces). AllFormed p.boxes) (sym (pieces_done bytes (none_left bytes l))) (omega arith)
formed (suc n) bytes l h =
    formed-by bytes (front bytes) refl h (λ f e a. formed n f.after (subst (λ o. length (after_front o) ≤ n) e (after_fewer n bytes l)) a)

pub all_formed : (bytes : List ℕ) → AreBytes bytes → AllFormed (pieces bytes).boxes
all_formed bytes h = formed (length bytes) bytes (omega arith) h

-- unchanged boxes are the bytes
whole-by : (bytes : List ℕ) (o : Option Front) → front bytes ≡ o → ((f : Front) → front bytes ≡ Some f → each whole f.after ≡ f.after) → each whole bytes ≡ bytes
whole-by bytes None e later = each_done whole bytes e
whole-by bytes (Some f) e later = each_more whole bytes f e ∙ ap (λ l. whole f.box ++ l) (later f e) ∙ front_whole bytes f e

whole-all : (n : ℕ) (bytes : List ℕ) → length bytes ≤ n → each whole bytes ≡ bytes
whole-all zero bytes l = each_done whole bytes (none_left bytes l)
whole-all (suc n) bytes l =
    whole-by bytes (front bytes) refl (λ f e. whole-all n f.after (subst (λ o. length (after_front o) ≤ n) e (after_fewer n bytes l)))

pub each_whole : (bytes : List ℕ) → each whole bytes ≡ bytes
each_whole bytes = whole-all (length bytes) bytes (omega arith)

-- ---- what is made of boxes that are formed

pub made_same : (f g : Box → List ℕ) (boxes : List Box) → AllFormed boxes → ((b : Box) → Formed b → f b ≡ g b) → flat_map f boxes ≡ flat_map g boxes
made_same f g [] all same = refl
made_same f g (b ∷ boxes) all same = ap₂ (λ x y. x ++ y) (same b all.0) (made_same f g boxes all.1 same)

pub each_same : (f g : Box → List ℕ) (bytes : List ℕ) → AreBytes bytes → ((b : Box) → Formed b → f b ≡ g b) → each f bytes ≡ each g bytes
each_same f g bytes h same = ap (λ l. l ++ (pieces bytes).rest) (made_same f g (pieces bytes).boxes (all_formed bytes h) same)

pub total_none : (f : Box → ℕ) (boxes : List Box) → AllFormed boxes → ((b : Box) → Formed b → f b ≡ 0) → total f boxes ≡ 0
total_none f [] all none = refl
total_none f (b ∷ boxes) all none = let x = none b all.0 in let y = total_none f boxes all.1 none in omega (arith, x, y)
