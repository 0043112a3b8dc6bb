-- Boxes that came whole are the same boxes whatever bytes follow.
use Rattle.std.proofs.Common.{◌≡◌, ℕ, zero, suc, ◌≤◌, List, [], ◌∷◌, ◌++◌, Bool, true, false, Option, Some, None, Ok, Err, refl, ap, ap₂, sym, subst, ◌∙◌, length, take, drop, nat_lt, if◌then◌else◌, length-append, append_assoc, append-nil, take-append-drop, arith}
use Rattle.std.proofs.lemmas.Grind.{flat_map-append}
use Rattle.std.proofs.lemmas.List.{drop-append-le, take-append-le}
use Rattle.std.specs.List.{flat_map}
use Rattle.std.specs.Option.{unwrap_or}
use borrow.Author.Tests.{ltb-false, le-ltb}
use Rattle.ll_mp4.specs.Boxes.{Header, header_of}
use Rattle.ll_mp4.specs.declared.boxes.BoxHead.{BoxHead}
use Rattle.ll_mp4.proofs.MoreLemmas.{Same, header-same}
use Rattle.ll_shift.specs.Pieces.{Box, Front, Pieces, after_front, each, front, front_by, pieces, whole}
use Rattle.ll_shift.proofs.PieceLemmas.{after_fewer, each_more, none_left, pieces_done, pieces_more}

-- ---- the front box

-- the front box that has this header, and the bytes after it
abbrev pub front_at : BoxHead → List ℕ → Front
front_at head bytes = record {
  box = record { kind = head.kind; header = take head.len (take head.size bytes); content = drop head.len (take head.size bytes) };
  after = drop head.size bytes;
}

abbrev pub and_more : Front → List ℕ → Front
and_more f more = record { box = f.box; after = f.after ++ more }

-- what the front box was found to be
pub record Found (h : Header) (bytes : List ℕ) (f : Front) : Type 0 where
  pub head : BoxHead
  pub is : h ≡ Ok (Some head)
  pub full : head.size ≤ length bytes
  pub same : front_at head bytes ≡ f

pub found_by : (h : Header) (bytes : List ℕ) (f : Front) → front_by h bytes ≡ Some f → Found h bytes f
found_by (Ok None) bytes f e = absurd (cc)
found_by (Err fault) bytes f e = absurd (cc)
found_by (Ok (Some head)) bytes f e = by_size (nat_lt (length bytes) head.size) refl e
  where
    by_size : (b : Bool) → nat_lt (length bytes) head.size ≡ b → (if b then None else Some (front_at head bytes)) ≡ Some f → Found (Ok (Some head)) bytes f
    by_size true k is = absurd (cc)
    by_size false k is = record {
      head = head;
      is = refl;
      full = ltb-false (length bytes) head.size k;
      same = ap (λ o. unwrap_or o (front_at head bytes)) is;
    }

pub front_of : (bytes : List ℕ) (head : BoxHead) → header_of bytes ≡ Ok (Some head) → head.size ≤ length bytes → front bytes ≡ Some (front_at head bytes)
front_of bytes head e l = ap (λ h. front_by h bytes) e ∙ rw (le-ltb (length bytes) head.size l) refl

front-at-more : (head : BoxHead) (bytes more : List ℕ) → head.size ≤ length bytes → front_at head (bytes ++ more) ≡ and_more (front_at head bytes) more
front-at-more head bytes more l =
    ap₂ (λ t d. record { box = record { kind = head.kind; header = take head.len t; content = drop head.len t }; after = d })
    (take-append-le head.size bytes more l) (drop-append-le head.size bytes more l)

-- a box that came whole is the front one whatever bytes follow
pub front_more : (bytes more : List ℕ) (f : Front) → front bytes ≡ Some f → front (bytes ++ more) ≡ Some (and_more f more)
front_more bytes more f e =
    let found = found_by (header_of bytes) bytes f e in
    let same : header_of (bytes ++ more) ≡ Ok (Some found.head) = subst (λ h. Same h (header_of (bytes ++ more))) found.is (header-same bytes more) in
    let sum = length-append bytes more in
    front_of (bytes ++ more) found.head same (omega (arith, found.full, sum))
    ∙ ap Some (front-at-more found.head bytes more found.full ∙ ap (λ g. and_more g more) found.same)

-- the front box and the bytes after it are all bytes
pub front_whole : (bytes : List ℕ) (f : Front) → front bytes ≡ Some f → whole f.box ++ f.after ≡ bytes
front_whole bytes f e =
    let found = found_by (header_of bytes) bytes f e in
    ap (λ (g : Front). whole g.box ++ g.after) (sym found.same)
    ∙ ap (λ t. t ++ drop found.head.size bytes) (take-append-drop found.head.len (take found.head.size bytes))
    ∙ take-append-drop found.head.size bytes

-- ---- all boxes

abbrev Together : List ℕ → List ℕ → Type 0
Together bytes more = pieces (bytes ++ more) ≡ record { boxes = (pieces bytes).boxes ++ (pieces more).boxes; rest = (pieces more).rest }

none-together : (bytes more : List ℕ) → front bytes ≡ None → (pieces bytes).rest ≡ [] → Together bytes more
none-together bytes more e none =
    let empty : bytes ≡ [] = sym (ap (λ (p : Pieces). p.rest) (pieces_done bytes e)) ∙ none in
    ap (λ bs. pieces (bs ++ more)) empty
    ∙ ap (λ (p : Pieces). record { boxes = p.boxes ++ (pieces more).boxes; rest = (pieces more).rest }) (sym (pieces_done bytes e))

some-together : (bytes more : List ℕ) (f : Front) → front bytes ≡ Some f → Together f.after more → Together bytes more
some-together bytes more f e later =
    pieces_more (bytes ++ more) (and_more f more) (front_more bytes more f e)
    ∙ ap (λ (p : Pieces). record { boxes = f.box ∷ p.boxes; rest = p.rest }) later
    ∙ ap (λ (p : Pieces). record { boxes = p.boxes ++ (pieces more).boxes; rest = (pieces more).rest }) (sym (pieces_more bytes f e))

together-by : (bytes more : List ℕ) (o : Option Front) → front bytes ≡ o → (pieces bytes).rest ≡ []
    → ((f : Front) → front bytes ≡ Some f → (pieces f.after).rest ≡ [] → Together f.after more) → Together bytes more
together-by bytes more None e none later = none-together bytes more e none
together-by bytes more (Some f) e none later =
    some-together bytes more f e (later f e (sym (ap (λ (p : Pieces). p.rest) (pieces_more bytes f e)) ∙ none))

together : (n : ℕ) (bytes more : List ℕ) → length bytes ≤ n → (pieces bytes).rest ≡ [] → Together bytes more
together zero bytes more l none = none-together bytes more (none_left bytes l) none
together (suc n) bytes more l none =
    together-by bytes more (front bytes) refl none
    (λ f e rest. together n f.after more (subst (λ o. length (after_front o) ≤ n) e (after_fewer n bytes l)) rest)

pub pieces_append : (bytes more : List ℕ) → (pieces bytes).rest ≡ [] → Together bytes more
pieces_append bytes more none = together (length bytes) bytes more (omega arith) none

-- ---- what is made of the boxes

pub each_append : (make : Box → List ℕ) (bytes more : List ℕ) → (pieces bytes).rest ≡ [] → each make (bytes ++ more) ≡ each make bytes ++ each make more
each_append make bytes more none =
    ap (λ (p : Pieces). flat_map make p.boxes ++ p.rest) (pieces_append bytes more none)
    ∙ ap (λ l. l ++ (pieces more).rest) (flat_map-append make (pieces bytes).boxes (pieces more).boxes)
    ∙ append_assoc (flat_map make (pieces bytes).boxes) (flat_map make (pieces more).boxes) (pieces more).rest
    ∙ ap (λ l. l ++ each make more) (sym (append-nil (flat_map make (pieces bytes).boxes)) ∙ ap (λ r. flat_map make (pieces bytes).boxes ++ r) (sym none))

-- one box that is made into itself, and bytes after it
pub each_front : (make : Box → List ℕ) (bytes more : List ℕ) (b : Box) → front bytes ≡ Some (record { box = b; after = [] }) → make b ≡ whole b
    → each make (bytes ++ more) ≡ bytes ++ each make more
each_front make bytes more b e same =
    each_more make (bytes ++ more) (record { box = b; after = more }) (front_more bytes more (record { box = b; after = [] }) e)
    ∙ ap (λ l. l ++ each make more) (same ∙ sym (append-nil (whole b)) ∙ front_whole bytes (record { box = b; after = [] }) e)
