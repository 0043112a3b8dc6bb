-- The boxes of some bytes are the front one and those of the bytes after it.
use Rattle.std.proofs.Common.{◌≡◌, ℕ, zero, suc, ◌≤◌, ◌==◌, List, [], ◌∷◌, Bool, true, false, Option, Some, None, Ok, Err, refl, ap, sym, ◌∙◌, length, drop, nat_lt, length-drop, arith}
use Rattle.std.proofs.lemmas.Bool.Decides.{nat_tests}
use Rattle.byteorder.specs.Endian.{big_number}
use borrow.Author.Tests.{ltb-false}
use Rattle.ll_mp4.specs.Boxes.{Front, Nothing, Part, Whole, Content, Header, after, and_then, boxes, boxes_by, contents, contents_in, front_by, front_of, header_by, header_of, large_header, sized}
use Rattle.ll_mp4.specs.Found.{found, from_inner, inner}
use Rattle.ll_mp4.specs.Kinds.{code}
use Rattle.ll_mp4.specs.declared.boxes.FoundBox.{FoundBox}
use Rattle.ll_mp4.specs.declared.kind.Kind.{Kind}

-- ---- a box has a byte at least

-- a header without a fault belongs to a box of at least n bytes
abbrev pub AtLeast : ℕ → Header → Type 0
AtLeast n (Ok None) = 0 ≤ 0
AtLeast n (Ok (Some head)) = n ≤ head.size
AtLeast n (Err fault) = 0 ≤ 0

sized-least : (kind len size : ℕ) → AtLeast len (sized kind len size)
sized-least kind len size = by_size (nat_lt size len) refl
  where
    by_size : (b : Bool) → nat_lt size len ≡ b → AtLeast len (sized kind len size)
    by_size true e = rw e (omega arith)
    by_size false e = rw e (ltb-false size len e)

less : (n m : ℕ) (h : Header) → n ≤ m → AtLeast m h → AtLeast n h
less n m (Ok None) l a = a
less n m (Ok (Some head)) l a = omega (arith, l, a)
less n m (Err fault) l a = a

large-least : (bytes : List ℕ) → AtLeast 8 (large_header bytes)
large-least bytes = by_length (nat_lt (length bytes) 16) refl
  where
    by_length : (b : Bool) → nat_lt (length bytes) 16 ≡ b → AtLeast 8 (large_header bytes)
    by_length true e = rw e (omega arith)
    by_length false e = rw e (less 8 16 _ (omega arith) (sized-least (big_number 4 (drop 4 bytes)) 16 (big_number 8 (drop 8 bytes))))

by-least : (size : ℕ) (bytes : List ℕ) → AtLeast 8 (header_by size bytes)
by-least size bytes = by_large (size == 1) refl
  where
    by_large : (b : Bool) → (size == 1) ≡ b → AtLeast 8 (header_by size bytes)
    by_large true e = rw e (large-least bytes)
    by_large false e = rw e (sized-least (big_number 4 (drop 4 bytes)) 8 size)

pub header_least : (bytes : List ℕ) → AtLeast 8 (header_of bytes)
header_least bytes = by_length (nat_lt (length bytes) 8) refl
  where
    by_length : (b : Bool) → nat_lt (length bytes) 8 ≡ b → AtLeast 8 (header_of bytes)
    by_length true e = rw e (omega arith)
    by_length false e = rw e (by-least (big_number 4 bytes) bytes)

-- fewer bytes follow the front box
after-by : (n : ℕ) (bytes : List ℕ) (h : Header) → AtLeast 8 h → length bytes ≤ suc n → length (after (front_by h bytes)) ≤ n
after-by n bytes (Ok None) a l = omega arith
after-by n bytes (Err fault) a l = omega arith
after-by n bytes (Ok (Some head)) a l = by_size (nat_lt (length bytes) head.size) refl
  where
    by_size : (b : Bool) → nat_lt (length bytes) head.size ≡ b → length (after (front_by (Ok (Some head)) bytes)) ≤ n
    by_size true e = rw e (omega arith)
    by_size false e = rw e (let d = length-drop head.size bytes in omega (arith, a, l, d))

pub after-fewer : (n : ℕ) (bytes : List ℕ) → length bytes ≤ suc n → length (after (front_of bytes)) ≤ n
after-fewer n bytes l = by_length (length bytes == 0) refl
  where
    by_length : (b : Bool) → (length bytes == 0) ≡ b → length (after (front_of bytes)) ≤ n
    by_length true e = rw e (omega arith)
    by_length false e = rw e (after-by n bytes (header_of bytes) (header_least bytes) l)

-- ---- one box more

none-left : (bytes : List ℕ) → length bytes ≤ 0 → front_of bytes ≡ Nothing
none-left [] l = refl
none-left (b ∷ bytes) l = absurd (omega (arith, l))

enough : (n m : ℕ) (bytes : List ℕ) → length bytes ≤ n → length bytes ≤ m → boxes_by n bytes ≡ boxes_by m bytes
enough zero zero bytes a b = refl
enough zero (suc m) bytes a b = sym (ap (λ f. and_then f (boxes_by m (after f))) (none-left bytes a))
enough (suc n) zero bytes a b = ap (λ f. and_then f (boxes_by n (after f))) (none-left bytes b)
enough (suc n) (suc m) bytes a b =
    ap (and_then (front_of bytes)) (enough n m (after (front_of bytes)) (after-fewer n bytes a) (after-fewer m bytes b))

pub one_more : (bytes : List ℕ) → boxes bytes ≡ and_then (front_of bytes) (boxes (after (front_of bytes)))
one_more bytes =
    enough (length bytes) (suc (length bytes)) bytes (omega arith) (omega arith)
    ∙ ap (and_then (front_of bytes))
    (enough (length bytes) (length (after (front_of bytes))) (after (front_of bytes)) (after-fewer (length bytes) bytes (omega arith)) (omega arith))

contents-by : (kind : ℕ) (f : Front) → contents kind (and_then f (boxes (after f))) ≡ from_inner kind (inner f)
contents-by kind Nothing = refl
contents-by kind (Part header) = refl
contents-by kind (Whole k size content rest) = refl

-- the contents of a type's boxes, from the front box on
pub contents_front : (kind : ℕ) (bytes : List ℕ) → contents kind (boxes bytes) ≡ from_inner kind (inner (front_of bytes))
contents_front kind bytes = ap (contents kind) (one_more bytes) ∙ contents-by kind (front_of bytes)

pub same_number : (n m : ℕ) → n ≡ m → (n == m) ≡ true
same_number n m e = grind (arith, nat_tests)

-- the front box is one of the type, or it is another
pub found_one : (kind : Kind) (all rest : List ℕ) (o : Option FoundBox) (f : FoundBox) → contents_in kind all ≡ contents_in kind rest
    → found (Ok o) ≡ inner (front_of rest) → o ≡ Some f → f.kind ≡ code kind → contents_in kind all ≡ Content f.content.now (contents_in kind f.rest.now)
found_one kind all rest o f same told is e =
    same ∙ contents_front (code kind) rest ∙ ap (from_inner (code kind)) (sym told) ∙ ap (λ x. from_inner (code kind) (found (Ok x))) is
    ∙ rw (same_number f.kind (code kind) e) refl

pub found_other : (kind : Kind) (all rest : List ℕ) (o : Option FoundBox) (f : FoundBox) → contents_in kind all ≡ contents_in kind rest
    → found (Ok o) ≡ inner (front_of rest) → o ≡ Some f → (f.kind == code kind) ≡ false → contents_in kind all ≡ contents_in kind f.rest.now
found_other kind all rest o f same told is e =
    same ∙ contents_front (code kind) rest ∙ ap (from_inner (code kind)) (sym told) ∙ ap (λ x. from_inner (code kind) (found (Ok x))) is ∙ rw e refl
