-- The boxes of some bytes are the front one and those of the bytes after it.
use Rattle.std.proofs.Common.{◌≡◌, ℕ, zero, suc, ◌+◌, ◌≤◌, ◌==◌, ◌&&◌, not, List, [], ◌∷◌, ◌++◌, Bool, true, false, Some, None, Ok, Err, refl, ap, sym, ◌∙◌, length, drop, nat_lt, length-drop, append_assoc, arith}
use Rattle.std.specs.List.{flat_map}
use Rattle.byteorder.specs.Endian.{big_number}
use borrow.Author.Tests.{ltb-false}
use Rattle.ll_mp4.specs.Boxes.{Header, header_by, header_of, large_header, sized}
use Rattle.ll_mp4.specs.declared.track.TimeScale.{TimeScale}
use Rattle.ll_shift.specs.Moved.{is, moved_boxes, moved_in_moof, moved_in_turn, total}
use Rattle.ll_shift.specs.Pieces.{Box, Front, Pieces, after_front, and_front, each, front, front_by, pieces, pieces_by}
use Rattle.ll_shift.specs.declared.shift.Shift.{Shift}
use Rattle.ll_mp4.specs.declared.kind.Kind.TheVariants.{Traf}

-- ---- a box has a byte at least

-- a header without a fault belongs to a box of at least n bytes
abbrev pub AtLeast : ℕ → Header → Type 0
AtLeast n (Ok None) = 0 ≤ 0
AtLeast n (Ok (Some head)) = n ≤ head.size
AtLeast n (Err fault) = 0 ≤ 0

sized-least : (kind len size : ℕ) → 8 ≤ len → AtLeast 8 (sized kind len size)
sized-least kind len size l = by_size (nat_lt size len) refl
  where
    by_size : (b : Bool) → nat_lt size len ≡ b → AtLeast 8 (sized kind len size)
    by_size true e = rw e (omega arith)
    by_size false e = rw e (let s = ltb-false size len e in omega (arith, s, l))

large-least : (bytes : List ℕ) → AtLeast 8 (large_header bytes)
large-least bytes = by_length (nat_lt (length bytes) 16) refl
  where
    by_length : (b : Bool) → nat_lt (length bytes) 16 ≡ b → AtLeast 8 (large_header bytes)
    by_length true e = rw e (omega arith)
    by_length false e = rw e (sized-least (big_number 4 (drop 4 bytes)) 16 (big_number 8 (drop 8 bytes)) (omega arith))

by-least : (size : ℕ) (bytes : List ℕ) → AtLeast 8 (header_by size bytes)
by-least size bytes = by_large (size == 1) refl
  where
    by_large : (b : Bool) → (size == 1) ≡ b → AtLeast 8 (header_by size bytes)
    by_large true e = rw e (large-least bytes)
    by_large false e = rw e (sized-least (big_number 4 (drop 4 bytes)) 8 size (omega arith))

pub header_least : (bytes : List ℕ) → AtLeast 8 (header_of bytes)
header_least bytes = by_length (nat_lt (length bytes) 8) refl
  where
    by_length : (b : Bool) → nat_lt (length bytes) 8 ≡ b → AtLeast 8 (header_of bytes)
    by_length true e = rw e (omega arith)
    by_length false e = rw e (by-least (big_number 4 bytes) bytes)

-- fewer bytes follow the front box
after-by : (n : ℕ) (bytes : List ℕ) (h : Header) → AtLeast 8 h → length bytes ≤ suc n → length (after_front (front_by h bytes)) ≤ n
after-by n bytes (Ok None) a l = omega arith
after-by n bytes (Err fault) a l = omega arith
after-by n bytes (Ok (Some head)) a l = by_size (nat_lt (length bytes) head.size) refl
  where
    by_size : (b : Bool) → nat_lt (length bytes) head.size ≡ b → length (after_front (front_by (Ok (Some head)) bytes)) ≤ n
    by_size true e = rw e (omega arith)
    by_size false e = rw e (let d = length-drop head.size bytes in omega (arith, a, l, d))

pub after_fewer : (n : ℕ) (bytes : List ℕ) → length bytes ≤ suc n → length (after_front (front bytes)) ≤ n
after_fewer n bytes l = after-by n bytes (header_of bytes) (header_least bytes) l

-- ---- one box more

pub none_left : (bytes : List ℕ) → length bytes ≤ 0 → front bytes ≡ None
none_left [] l = refl
none_left (b ∷ bytes) l = absurd (omega (arith, l))

enough : (n m : ℕ) (bytes : List ℕ) → length bytes ≤ n → length bytes ≤ m → pieces_by n bytes ≡ pieces_by m bytes
enough zero zero bytes a b = refl
enough zero (suc m) bytes a b = sym (ap (λ f. and_front bytes f (pieces_by m (after_front f))) (none_left bytes a))
enough (suc n) zero bytes a b = ap (λ f. and_front bytes f (pieces_by n (after_front f))) (none_left bytes b)
enough (suc n) (suc m) bytes a b =
    ap (and_front bytes (front bytes)) (enough n m (after_front (front bytes)) (after_fewer n bytes a) (after_fewer m bytes b))

one-more : (bytes : List ℕ) → pieces bytes ≡ and_front bytes (front bytes) (pieces (after_front (front bytes)))
one-more bytes =
    enough (length bytes) (suc (length bytes)) bytes (omega arith) (omega arith)
    ∙ ap (and_front bytes (front bytes))
    (enough (length bytes) (length (after_front (front bytes))) (after_front (front bytes)) (after_fewer (length bytes) bytes (omega arith)) (omega arith))

pub pieces_more : (bytes : List ℕ) (f : Front) → front bytes ≡ Some f
    → pieces bytes ≡ record { boxes = f.box ∷ (pieces f.after).boxes; rest = (pieces f.after).rest }
pieces_more bytes f e = one-more bytes ∙ ap (λ o. and_front bytes o (pieces (after_front o))) e

pub pieces_done : (bytes : List ℕ) → front bytes ≡ None → pieces bytes ≡ record { boxes = []; rest = bytes }
pieces_done bytes e = one-more bytes ∙ ap (λ o. and_front bytes o (pieces (after_front o))) e

-- ---- what is made of the boxes

pub each_more : (make : Box → List ℕ) (bytes : List ℕ) (f : Front) → front bytes ≡ Some f → each make bytes ≡ make f.box ++ each make f.after
each_more make bytes f e =
    ap (λ (p : Pieces). flat_map make p.boxes ++ p.rest) (pieces_more bytes f e)
    ∙ append_assoc (make f.box) (flat_map make (pieces f.after).boxes) (pieces f.after).rest

pub each_done : (make : Box → List ℕ) (bytes : List ℕ) → front bytes ≡ None → each make bytes ≡ bytes
each_done make bytes e = ap (λ (p : Pieces). flat_map make p.boxes ++ p.rest) (pieces_done bytes e)

pub total_more : (count : Box → ℕ) (bytes : List ℕ) (f : Front) → front bytes ≡ Some f
    → total count (pieces bytes).boxes ≡ count f.box + total count (pieces f.after).boxes
total_more count bytes f e = ap (λ (p : Pieces). total count p.boxes) (pieces_more bytes f e)

pub total_done : (count : Box → ℕ) (bytes : List ℕ) → front bytes ≡ None → total count (pieces bytes).boxes ≡ 0
total_done count bytes e = ap (λ (p : Pieces). total count p.boxes) (pieces_done bytes e)

pub turn_more : (shift : Shift) (scales : List TimeScale) (more : ℕ) (first : Bool) (bytes : List ℕ) (f : Front) → front bytes ≡ Some f
    → moved_boxes shift scales more first bytes
    ≡ moved_in_moof shift scales more first f.box ++ moved_boxes shift scales more (first && not (is Traf f.box)) f.after
turn_more shift scales more first bytes f e =
    ap (λ (p : Pieces). moved_in_turn shift scales more first p.boxes ++ p.rest) (pieces_more bytes f e)
    ∙ append_assoc (moved_in_moof shift scales more first f.box) (moved_in_turn shift scales more (first && not (is Traf f.box)) (pieces f.after).boxes) (pieces f.after).rest

pub turn_done : (shift : Shift) (scales : List TimeScale) (more : ℕ) (first : Bool) (bytes : List ℕ) → front bytes ≡ None
    → moved_boxes shift scales more first bytes ≡ bytes
turn_done shift scales more first bytes e = ap (λ (p : Pieces). moved_in_turn shift scales more first p.boxes ++ p.rest) (pieces_done bytes e)

-- ---- one step of a loop over boxes

-- the sum so far, and one box more
pub total_step : (count : Box → ℕ) (bytes : List ℕ) (f : Front) (sum here : ℕ) → front bytes ≡ Some f → here ≡ count f.box
    → sum + total count (pieces bytes).boxes ≡ sum + here + total count (pieces f.after).boxes
total_step count bytes f sum here e is_here = let m = total_more count bytes f e in omega (arith, m, is_here)

pub total_end : (count : Box → ℕ) (bytes : List ℕ) (sum : ℕ) → front bytes ≡ None → sum + total count (pieces bytes).boxes ≡ sum
total_end count bytes sum e = let d = total_done count bytes e in omega (arith, d)

-- the bytes written so far, and one box more
pub each_step : (make : Box → List ℕ) (bytes : List ℕ) (f : Front) (out next : List ℕ) → front bytes ≡ Some f → next ≡ out ++ make f.box
    → out ++ each make bytes ≡ next ++ each make f.after
each_step make bytes f out next e is_next =
    ap (λ l. out ++ l) (each_more make bytes f e) ∙ sym (append_assoc out (make f.box) (each make f.after)) ∙ ap (λ l. l ++ each make f.after) (sym is_next)

pub each_end : (make : Box → List ℕ) (bytes out : List ℕ) → front bytes ≡ None → out ++ each make bytes ≡ out ++ bytes
each_end make bytes out e = ap (λ l. out ++ l) (each_done make bytes e)

pub turn_step : (shift : Shift) (scales : List TimeScale) (more : ℕ) (first : Bool) (bytes : List ℕ) (f : Front) (out next : List ℕ) → front bytes ≡ Some f
    → next ≡ out ++ moved_in_moof shift scales more first f.box
    → out ++ moved_boxes shift scales more first bytes ≡ next ++ moved_boxes shift scales more (first && not (is Traf f.box)) f.after
turn_step shift scales more first bytes f out next e is_next =
    ap (λ l. out ++ l) (turn_more shift scales more first bytes f e)
    ∙ sym (append_assoc out (moved_in_moof shift scales more first f.box) (moved_boxes shift scales more (first && not (is Traf f.box)) f.after))
    ∙ ap (λ l. l ++ moved_boxes shift scales more (first && not (is Traf f.box)) f.after) (sym is_next)

pub turn_end : (shift : Shift) (scales : List TimeScale) (more : ℕ) (first : Bool) (bytes out : List ℕ) → front bytes ≡ None
    → out ++ moved_boxes shift scales more first bytes ≡ out ++ bytes
turn_end shift scales more first bytes out e = ap (λ l. out ++ l) (turn_done shift scales more first bytes e)
