-- The items that are published have the bytes that are kept of them.
use Rattle.std.proofs.Common.{◌≡◌, inl, inr, ◌≤◌, ◌<◌, ◌+◌, ◌-◌, ℕ, zero, suc, List, [], ◌∷◌, ◌++◌, Option, Some, None, Result, Ok, refl, ap, sym, subst, ◌∙◌, append_assoc, append-nil, arith, flat_map, length, length-append, slice_get, take}
use Rattle.std.proofs.lemmas.Grind.{flat_map-append}
use Rattle.std.proofs.lemmas.List.{take_all, take_more}
use Rattle.std.proofs.lemmas.List.Elements.{All-head, All-nil, All-push, All-same, All-tail, All-weaker}
use Rattle.std.proofs.lemmas.List.Sorted.{All-permutation, IsPermutation-sym}
use Rattle.std.proofs.lemmas.Option.{get_or_from_slice_get, slice_get_within}
use Rattle.std.specs.List.{All}
use Rattle.std.specs.List.Sorted.{IsPermutation}
use Rattle.ll_entry.specs.Leads.{with_end}
use Rattle.ll_item.specs.Items.{media_of}
use Rattle.ll_item.specs.declared.item.Item.{Item}
use Rattle.ll_layout.specs.Held.{Each, IsAt, IsHeld, LayoutValue, stored}
use Rattle.ll_layout.specs.declared.side.Side.{Side}
use Rattle.ll_layout.specs.declared.stored.StoredItem.{StoredItem}
use Rattle.ll_settings.specs.Settings.{Configuration}
use Rattle.ll_spool.proofs.LayoutLemmas.{layouts_same}
use Rattle.ll_spool.proofs.RestoreLemmas.{front-more, front-none, publishing_all, publishing_more, publishing_none}
use Rattle.ll_spool.specs.Files.{AreStored, Files, HasStoredFrom}
use Rattle.ll_spool.specs.Layouts.{layouts_after}
use Rattle.ll_spool.specs.Placed.{HasBytesAt, HasRest, IsCut, IsFollowed, IsGiven, IsGivenTo, IsGiving, IsPublishedFrom, IsRead, IsSurveyed, IsSurveying, placed_from, placed_in}
use Rattle.ll_spool.specs.Restored.{IsSpelledBy, Left, accepted_after, bytes_or_none, in_front, nth_bytes}
use Rattle.ll_spool.specs.Spooled.{item_then, items_from, lines_in, spooled_in}
use Rattle.ll_spool.specs.declared.placed.PlacedItem.{PlacedItem}

-- ---- one rendition after another

pub placed_more : (r at : ℕ) (ls : List LayoutValue) (l : LayoutValue) → at ≡ r + length ls → placed_from r (ls ++ l ∷ []) ≡ placed_from r ls ++ placed_in at (stored l)
placed_more r at [] l e = let here : r ≡ at = omega (arith, e) in append-nil (placed_in r (stored l)) ∙ ap (λ n. placed_in n (stored l)) here
placed_more r at (k ∷ ls) l e =
    ap (λ ps. placed_in r (stored k) ++ ps) (placed_more (r + 1) at ls l (omega (arith, e))) ∙ sym (append_assoc (placed_in r (stored k)) (placed_from (r + 1) ls) (placed_in at (stored l)))

-- ---- the bytes of an item by its number

get-front : (xs ys : List Item) (k : ℕ) → k < length xs → slice_get (xs ++ ys) k ≡ slice_get xs k
get-front [] ys k l = absurd (omega (arith, l))
get-front (x ∷ xs) ys zero l = refl
get-front (x ∷ xs) ys (suc k) l = get-front xs ys k (omega (arith, l))

get-end : (xs ys : List Item) (y : Item) → slice_get (xs ++ y ∷ ys) (length xs) ≡ Some y
get-end [] ys y = refl
get-end (x ∷ xs) ys y = get-end xs ys y

earlier-bytes : (items more : List Item) (n : ℕ) → 1 ≤ n → n ≤ length items → nth_bytes (items ++ more) n ≡ nth_bytes items n
earlier-bytes items more n low high = ap bytes_or_none (get-front items more (n - 1) (omega (arith, low, high)))

last-bytes : (items : List Item) (item : Item) (n : ℕ) → n ≡ length items + 1 → nth_bytes (items ++ item ∷ []) n ≡ media_of item
last-bytes items item n e = let at : n - 1 ≡ length items = omega (arith, e) in ap (λ k. bytes_or_none (slice_get (items ++ item ∷ []) k)) at ∙ ap bytes_or_none (get-end items [] item)

held-by : (f : Side → List ℕ) (of then : ℕ → List ℕ) (s : StoredItem) → then s.count ≡ of s.count → IsHeld f of s → IsHeld f then s
held-by f of then s e h = record { at = subst (IsAt (f s.place.side) s.place.offset) (sym e) h.at; length = h.length ∙ ap length (sym e) }

given-more : (files : Option Files) (items more : List Item) (p : PlacedItem) → IsGiven files items p → IsGiven files (items ++ more) p
given-more None items more p g = tt
given-more (Some files) items more p g =
    let low = g.0 in
    let high = g.1 in
    let long : length (items ++ more) ≡ length items + length more = length-append items more in
    (low, omega (arith, high, long), held-by (files p.rendition) (nth_bytes items) (nth_bytes (items ++ more)) p.stored (earlier-bytes items more p.stored.count low high) g.2)

given-last : (files : Option Files) (items : List Item) (item : Item) (count : ℕ) (p : PlacedItem) → count ≡ length items + 1 → p.stored.count ≡ count
    → HasBytesAt files p.rendition p.stored.place (media_of item) → IsGiven files (items ++ item ∷ []) p
given-last None items item count p number is has = tt
given-last (Some files) items item count p number is has =
    let n = p.stored.count in
    let long : length (items ++ item ∷ []) ≡ length items + 1 = length-append items (item ∷ []) in
    let bytes : nth_bytes (items ++ item ∷ []) n ≡ media_of item = last-bytes items item n (is ∙ number) in (
      omega (arith, number, is),
      omega (arith, number, is, long),
      record { at = subst (IsAt (files p.rendition p.stored.place.side) p.stored.place.offset) (sym bytes) has.0; length = has.1 ∙ ap length (sym bytes) },
    )

given-by : (P : PlacedItem → Type 0) (placed : List PlacedItem) (next : ℕ) (p : PlacedItem) → slice_get placed next ≡ Some p → All P (take next placed) → P p
    → All P (take (next + 1) placed)
given-by P placed next p at all one =
    let few = slice_get_within placed next p at in
    let is = get_or_from_slice_get placed next p p at in
    All-same P (take (next + 1) placed) (take next placed ++ p ∷ []) (take_more placed next p few ∙ ap (λ q. take next placed ++ q ∷ []) is)
    (All-push P (take next placed) p all one)

given-next : (files : Option Files) (items : List Item) (item : Item) (count : ℕ) (placed : List PlacedItem) (next then : ℕ) → count ≡ length items + 1
    → IsRead count item placed next then files → All (IsGiven files (items ++ item ∷ [])) (take next placed) → All (IsGiven files (items ++ item ∷ [])) (take then placed)
given-next files items item count placed next then number (inl same) all = subst (λ n. All (IsGiven files (items ++ item ∷ [])) (take n placed)) (sym same) all
given-next files items item count placed next then number (inr one) all =
    subst (λ n. All (IsGiven files (items ++ item ∷ [])) (take n placed)) (sym one.0)
    (given-by (IsGiven files (items ++ item ∷ [])) placed next one.1.0 one.1.1 all (given-last files items item count one.1.0 number one.1.2 one.1.3))

-- ---- one item after another

pub giving_none : (c : Configuration) (all : List (List ℕ)) (left : Left) (old : Option (List Item)) (placed : List PlacedItem) (files : Option Files) (text : List ℕ)
    → left ≡ record { lines = all; count = 0; text = text } → IsGiving c all left old old placed 0 files
giving_none c all left old placed files text is =
    let p = publishing_none c all left old text is in record { publishing = p; given = All-nil (IsGiven files p.items) }

pub giving_more : (c : Configuration) (all : List (List ℕ)) (left new : Left) (line : List ℕ) (old mid now : Option (List Item)) (item : Item) (count : ℕ)
    (placed : List PlacedItem) (next then : ℕ) (files : Option Files)
    → IsGiving c all left old mid placed next files → left.lines ≡ line ∷ new.lines → new.count ≡ left.count + 1 → count ≡ left.count + 1 → IsSpelledBy c count line item
    → now ≡ accepted_after mid (item ∷ []) → IsRead count item placed next then files → IsGiving c all new old now placed then files
giving_more c all left new line old mid now item count placed next then files g cut number same by published read =
    let before = g.publishing in
    let p = publishing_more c all left new line old mid now item before cut number (subst (λ n. IsSpelledBy c n line item) same by) published in
    let items = before.items in
    let earlier : All (IsGiven files (items ++ item ∷ [])) (take next placed) =
    All-weaker (IsGiven files items) (IsGiven files (items ++ item ∷ [])) (λ q h. given-more files items (item ∷ []) q h) (take next placed) g.given in
    record {
      publishing = p;
      given = given-next files items item count placed next then (same ∙ ap (λ n. n + 1) (sym before.number)) read earlier;
    }

-- all lines were read, and no bytes are left
pub giving_all : (c : Configuration) (all : List (List ℕ)) (left : Left) (old now : Option (List Item)) (placed : List PlacedItem) (next : ℕ) (files : Option Files)
    → IsGiving c all left old now placed next files → left.lines ≡ [] → length placed ≤ next → IsGivenTo c all old now left.count placed files
giving_all c all left old now placed next files g none past =
    let p = publishing_all c all left old now g.publishing none in
    record { published = p; given = All-same (IsGiven files g.publishing.items) placed (take next placed) (sym (take_all next placed past)) g.given }

-- ---- the lines that were read

pub cut_nothing : (text : List ℕ) (left : Left) → left ≡ record { lines = lines_in text; count = 0; text = text } → IsCut text left
cut_nothing text left is = subst (IsCut text) (sym is) (record { done = []; lines = refl; is = refl })

pub cut_line : (text : List ℕ) (left new : Left) (line : List ℕ) → IsCut text left → left.lines ≡ line ∷ new.lines → left.text ≡ with_end line ++ new.text → IsCut text new
cut_line text left new line c lines is = record {
  done = c.done ++ line ∷ [];
  lines = c.lines ∙ ap (λ ls. c.done ++ ls) lines ∙ sym (append_assoc c.done (line ∷ []) new.lines);
  is = c.is ∙ ap (λ t. flat_map with_end c.done ++ t) is ∙ sym (append_assoc (flat_map with_end c.done) (with_end line) new.text)
      ∙ ap (λ t. t ++ new.text) (ap (λ t. flat_map with_end c.done ++ t) (sym (append-nil (with_end line))) ∙ sym (flat_map-append with_end c.done (line ∷ [])));
}

pub cut_all : (text : List ℕ) (left : Left) (n : ℕ) → IsCut text left → left.lines ≡ [] → n ≡ length left.text → HasRest text n
cut_all text left n c none long = record {
  rest = left.text;
  is = c.is ∙ ap (λ ls. flat_map with_end ls ++ left.text) (sym (c.lines ∙ ap (λ ls. c.done ++ ls) none ∙ append-nil c.done));
  long = sym long;
}

-- ---- all renditions

all-split : {X : Type 0} (P : X → Type 0) (xs ys : List X) → All P (xs ++ ys) → Each P xs × All P ys
all-split P [] ys all = (tt, all)
all-split P (x ∷ xs) ys all =
    let more = all-split P xs ys (All-tail P x (xs ++ ys) all) in ((All-head P x (xs ++ ys) all, more.0), more.1)

rendition-held : (files : Files) (items more : List Item) (r : ℕ) (ss : List StoredItem) → Each (IsGiven (Some files) items) (placed_in r ss)
    → Each (IsHeld (files r) (nth_bytes (items ++ more))) ss
rendition-held files items more r [] all = tt
rendition-held files items more r (s ∷ ss) all =
    let g = given-more (Some files) items more (record { rendition = r; stored = s }) all.0 in (g.2, rendition-held files items more r ss all.1)

all-held : (files : Files) (items more : List Item) (r : ℕ) (ls : List LayoutValue) → All (IsGiven (Some files) items) (placed_from r ls)
    → HasStoredFrom r files (nth_bytes (items ++ more)) ls
all-held files items more r [] all = tt
all-held files items more r (l ∷ ls) all =
    let parts = all-split (IsGiven (Some files) items) (placed_in r (stored l)) (placed_from (r + 1) ls) all in
    (rendition-held files items more r (stored l) parts.0, all-held files items more (r + 1) ls parts.1)

stored-by : (files : Option Files) (items more : List Item) (ls : List LayoutValue) → All (IsGiven files items) (placed_from 0 ls) → AreStored (nth_bytes (items ++ more)) ls files
stored-by None items more ls all = tt
stored-by (Some files) items more ls all = all-held files items more 0 ls all

some-ok : (xs ys : List Item) (r : Result (List Item) ℕ) → r ≡ Ok xs → r ≡ Ok ys → xs ≡ ys
some-ok xs ys r e f = cc

pub published_from : (c : Configuration) (text : List ℕ) (old now : Option (List Item)) (count : ℕ) (ls : List LayoutValue) (placed : List PlacedItem) (files : Option Files)
    → IsSurveyed c (lines_in text) ls → IsPermutation (placed_from 0 ls) placed → IsGivenTo c (lines_in text) old now count placed files → IsPublishedFrom c text old now count ls files
published_from c text old now count ls placed files s order g =
    let p = g.published in
    let all = All-permutation (IsGiven files p.items) placed (placed_from 0 ls) (IsPermutation-sym (placed_from 0 ls) placed order) g.given in
    let spelled : s.spelled ≡ p.spelled = some-ok s.spelled p.spelled (items_from c 1 (lines_in text)) s.are p.are in
    record {
      published = p;
      laid = s.laid ∙ ap (layouts_after c) spelled ∙ sym (layouts_same c p.spelled p.items p.same);
      held = λ more. stored-by files p.items more ls all;
    }

-- ---- a survey

pub surveying_none : (c : Configuration) (all : List (List ℕ)) (left : Left) (ls : List LayoutValue) (text : List ℕ) → left ≡ record { lines = all; count = 0; text = text }
    → ls ≡ layouts_after c [] → IsSurveying c all left ls
surveying_none c all left ls text is none =
    subst (λ l. IsSurveying c all l ls) (sym is) (record { spelled = []; are = front-none (items_from c 1 all); number = refl; laid = none })

pub surveying_more : (c : Configuration) (all : List (List ℕ)) (left new : Left) (line : List ℕ) (count : ℕ) (ls ms : List LayoutValue) (s : IsSurveying c all left ls)
    → left.lines ≡ line ∷ new.lines → new.count ≡ left.count + 1 → count ≡ left.count + 1 → IsFollowed c count line s.spelled ms → IsSurveying c all new ms
surveying_more c all left new line count ls ms s cut number same f = record {
  spelled = s.spelled ++ f.item ∷ [];
  are = s.are
      ∙ ap (λ xs. in_front s.spelled (items_from c (left.count + 1) xs)) cut
      ∙ ap (λ o. in_front s.spelled (item_then (left.count + 1) o (items_from c (left.count + 1 + 1) new.lines))) (ap (λ n. spooled_in c n line) (sym same) ∙ f.is)
      ∙ front-more s.spelled (left.count + 1) f.item (items_from c (left.count + 1 + 1) new.lines)
      ∙ ap (λ n. in_front (s.spelled ++ f.item ∷ []) (items_from c (n + 1) new.lines)) (sym number);
  number = length-append s.spelled (f.item ∷ []) ∙ ap (λ n. n + 1) s.number ∙ sym number;
  laid = f.laid;
}

pub surveying_all : (c : Configuration) (all : List (List ℕ)) (left : Left) (ls : List LayoutValue) → IsSurveying c all left ls → left.lines ≡ [] → IsSurveyed c all ls
surveying_all c all left ls s none = record {
  spelled = s.spelled;
  are = s.are ∙ ap (λ xs. in_front s.spelled (items_from c (left.count + 1) xs)) none ∙ ap Ok (append-nil s.spelled);
  laid = s.laid;
}
