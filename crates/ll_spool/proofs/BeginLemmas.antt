-- Files that are cut to the bytes that are needed hold all that they had of these.
use Rattle.std.proofs.Common.{◌≡◌, ◌≢◌, inl, inr, ◌≤◌, ◌<◌, ◌+◌, ◌-◌, ℕ, List, [], ◌∷◌, ◌++◌, Option, Some, None, refl, ap, sym, subst, ◌∙◌, append_assoc, append-nil, arith, flat_map, length, length-append, map, take}
use Rattle.std.proofs.Math.Seq.{take-append-add}
use Rattle.std.specs.Io.KnownBytes.{Appends}
use Rattle.std.specs.Option.{option_map}
use Rattle.std.proofs.lemmas.List.{length-replicate, length-take-le}
use Rattle.ll_entry.specs.Leads.{with_end}
use Rattle.ll_entry.specs.SettingsLine.{settings_line}
use Rattle.ll_item.specs.Media.{zeros}
use Rattle.ll_layout.specs.Held.{Each, Holds, IsAt, IsHeld, LayoutValue, size, size_by, stored}
use Rattle.ll_layout.specs.declared.side.Side.{Side}
use Rattle.ll_layout.specs.declared.side.Side.TheVariants.{A, B}
use Rattle.ll_layout.specs.declared.stored.KeptPart.{KeptPart}
use Rattle.ll_layout.specs.declared.stored.StoredItem.{StoredItem}
use Rattle.ll_layout.specs.declared.stored.StoredSection.{StoredSection}
use Rattle.ll_settings.specs.Settings.{Configuration}
use Rattle.ll_spool.specs.Files.{AreCut, AreCutFrom, AreHeld, AreOthersSame, AreStored, Files, HasStoredFrom, HoldsFrom, IsChanged, IsCutIn, IsInside, cut_to}
use Rattle.ll_spool.specs.Restored.{IsWhole, begun_by, begun_text, whole_text}
use Rattle.ll_spool.specs.Spooled.{lines_in}

-- ---- a file that is cut

take-past : (n : ℕ) (xs ys : List ℕ) → length xs ≤ n → take n (xs ++ ys) ≡ xs ++ take (n - length xs) ys
take-past n xs ys le =
    let same : n ≡ length xs + (n - length xs) = omega (arith, le) in ap (λ k. take k (xs ++ ys)) same ∙ take-append-add xs ys (n - length xs)

at-cut : (n : ℕ) (file : List ℕ) (offset : ℕ) (bytes : List ℕ) → IsAt file offset bytes → offset + length bytes ≤ n → IsAt (cut_to n file) offset bytes
at-cut n file offset bytes a le =
    let front = a.before ++ bytes in
    let long : length front ≡ length a.before + length bytes = length-append a.before bytes in
    let at = a.offset_is in
    let more = a.later ++ zeros n in
    record {
      before = a.before;
      later = take (n - length front) more;
      is = ap (λ f. take n (f ++ zeros n)) (a.is ∙ sym (append_assoc a.before bytes a.later))
          ∙ ap (take n) (append_assoc front a.later (zeros n))
          ∙ take-past n front more (omega (arith, long, at, le))
          ∙ append_assoc a.before bytes (take (n - length front) more);
      offset_is = at;
    }

cut-long : (n : ℕ) (file : List ℕ) → length (cut_to n file) ≡ n
cut-long n file =
    let all : length (file ++ zeros n) ≡ length file + length (zeros n) = length-append file (zeros n) in
    let some : length (zeros n) ≡ n = length-replicate n 0 in
    length-take-le n (file ++ zeros n) (omega (arith, all, some))

-- ---- one rendition

held-cut : (l : LayoutValue) (f g : Side → List ℕ) (of : ℕ → List ℕ) (s : StoredItem) → ((side : Side) → g side ≡ cut_to (size l side) (f side))
    → s.place.offset + s.place.length ≤ size l s.place.side → IsHeld f of s → IsHeld g of s
held-cut l f g of s cut le h =
    let long = h.length in
    record {
      at = subst (λ file. IsAt file s.place.offset (of s.count)) (sym (cut s.place.side))
          (at-cut (size l s.place.side) (f s.place.side) s.place.offset (of s.count) h.at (omega (arith, long, le)));
      length = h.length;
    }

all-cut : (l : LayoutValue) (f g : Side → List ℕ) (of : ℕ → List ℕ) (ss : List StoredItem) → ((side : Side) → g side ≡ cut_to (size l side) (f side))
    → ((side : Side) → Each (λ (s : StoredItem). s.place.side ≡ side → s.place.offset + s.place.length ≤ size l side) ss) → Each (IsHeld f of) ss → Each (IsHeld g of) ss
all-cut l f g of [] cut inside all = tt
all-cut l f g of (s ∷ ss) cut inside all =
    (held-cut l f g of s cut ((inside s.place.side).0 refl) all.0, all-cut l f g of ss cut (λ side. (inside side).1) all.1)

each-split : {X : Type 0} (P : X → Type 0) (xs ys : List X) → Each P (xs ++ ys) → Each P xs × Each P ys
each-split P [] ys all = (tt, all)
each-split P (x ∷ xs) ys all = let more = each-split P xs ys all.1 in ((all.0, more.0), more.1)

each-of : {X Y : Type 0} (P : Y → Type 0) (f : X → Y) (xs : List X) → Each P (map f xs) → Each (λ x. P (f x)) xs
each-of P f [] all = tt
each-of P f (x ∷ xs) all = (all.0, each-of P f xs all.1)

size-here : (at : Side) (l : LayoutValue) → size_by at at l ≡ l.end
size-here A l = refl
size-here B l = refl

holds-cut : (l : LayoutValue) (f g : Side → List ℕ) (of : ℕ → List ℕ) → ((side : Side) → g side ≡ cut_to (size l side) (f side)) → IsInside l
    → Each (IsHeld f of) (stored l) → Holds g of l
holds-cut l f g of cut inside all =
    let P = IsHeld g of in
    let older = map (λ (p : KeptPart). p.stored) l.older in
    let newer = map (λ (p : KeptPart). p.stored) l.newer in
    let sections = map (λ (s : StoredSection). s.stored) l.sections in
    let both = each-split P (older ++ newer) sections (all-cut l f g of (stored l) cut inside all) in
    let parts = each-split P older newer both.0 in
    record {
      older = each-of P (λ (p : KeptPart). p.stored) l.older parts.0;
      newer = each-of P (λ (p : KeptPart). p.stored) l.newer parts.1;
      sections = each-of P (λ (s : StoredSection). s.stored) l.sections both.1;
      end = ap length (cut l.side) ∙ cut-long (size l l.side) (f l.side) ∙ size-here l.side l;
    }

-- ---- all renditions

all-hold : (r : ℕ) (of : ℕ → List ℕ) (old new : Files) (ls : List LayoutValue) → AreCutFrom r ls old new → Each IsInside ls → HasStoredFrom r old of ls
    → HoldsFrom r new of ls
all-hold r of old new [] cut inside all = tt
all-hold r of old new (l ∷ ls) cut inside all = (holds-cut l (old r) (new r) of cut.0 inside.0 all.0, all-hold (r + 1) of old new ls cut.1 inside.1 all.1)

pub begun_held : (of : ℕ → List ℕ) (ls : List LayoutValue) (old new : Option Files) → AreCut ls old new → Each IsInside ls → AreStored of ls old → AreHeld of ls new
begun_held of ls None None cut inside all = tt
begun_held of ls None (Some new) cut inside all = absurd (cc)
begun_held of ls (Some old) None cut inside all = absurd cut
begun_held of ls (Some old) (Some new) cut inside all = all-hold 0 of old new ls cut.0 inside all

-- ---- one rendition after another is cut

pub cut_none : (old : Option Files) → AreCut [] old old
cut_none None = refl
cut_none (Some old) = (tt, λ r le side. refl)

cut-same : (r : ℕ) (ls : List LayoutValue) (old mid new : Files) → ((q : ℕ) → q < r + length ls → (side : Side) → new q side ≡ mid q side) → AreCutFrom r ls old mid
    → AreCutFrom r ls old new
cut-same r [] old mid new same cut = tt
cut-same r (l ∷ ls) old mid new same cut =
    (λ side. same r (omega arith) side ∙ cut.0 side, cut-same (r + 1) ls old mid new (λ q le side. same q (omega (arith, le)) side) cut.1)

cut-last : (r at : ℕ) (ls : List LayoutValue) (l : LayoutValue) (old new : Files) → at ≡ r + length ls → AreCutFrom r ls old new
    → ((side : Side) → new at side ≡ cut_to (size l side) (old at side)) → AreCutFrom r (ls ++ l ∷ []) old new
cut-last r at [] l old new e cut one =
    let here : at ≡ r = omega (arith, e) in (subst (λ q. (side : Side) → new q side ≡ cut_to (size l side) (old q side)) here one, tt)
cut-last r at (k ∷ ls) l old new e cut one = (cut.0, cut-last (r + 1) at ls l old new (omega (arith, e)) cut.1 one)

pub cut_more : (at : ℕ) (ls : List LayoutValue) (l : LayoutValue) (old mid new : Option Files) → at ≡ length ls → AreCut ls old mid → IsCutIn at l mid new
    → AreCut (ls ++ l ∷ []) old new
cut_more at ls l None None new e cut one = one
cut_more at ls l None (Some mid) new e cut one = absurd (cc)
cut_more at ls l (Some old) None new e cut one = absurd cut
cut_more at ls l (Some old) (Some mid) None e cut one = one
cut_more at ls l (Some old) (Some mid) (Some new) e cut one = (
  cut-last 0 at ls l old new (omega (arith, e))
      (cut-same 0 ls old mid new (λ q le side. one.1 q (λ same. absurd (omega (arith, same, le, e))) side) cut.0)
      (λ side. one.0 side ∙ ap (cut_to (size l side)) (cut.1 at (omega (arith, e)) side)),
  λ q le side.
      let long : length (ls ++ l ∷ []) ≡ length ls + 1 = length-append ls (l ∷ []) in
      one.1 q (λ same. absurd (omega (arith, same, le, long, e))) side ∙ cut.1 q (omega (arith, le, long)) side,
)

pub inside_more : (P : LayoutValue → Type 0) (ls : List LayoutValue) (l : LayoutValue) → Each P ls → P l → Each P (ls ++ l ∷ [])
inside_more P [] l all one = (one, tt)
inside_more P (k ∷ ls) l all one = (all.0, inside_more P ls l all.1 one)

both-cut : (r : ℕ) (l : LayoutValue) (a b : ℕ) (old mid new : Files) → a ≡ size l A → b ≡ size l B → (mid r A ≡ cut_to a (old r A)) × AreOthersSame r A old mid
    → (new r B ≡ cut_to b (mid r B)) × AreOthersSame r B mid new → (side : Side) → new r side ≡ cut_to (size l side) (old r side)
both-cut r l a b old mid new ea eb one two A = two.1 r A (inr (λ e. absurd (cc))) ∙ one.0 ∙ ap (λ n. cut_to n (old r A)) ea
both-cut r l a b old mid new ea eb one two B = two.0 ∙ ap (cut_to b) (one.1 r B (inr (λ e. absurd (cc)))) ∙ ap (λ n. cut_to n (old r B)) eb

-- both sides of a rendition
pub cut_sides : (r : ℕ) (l : LayoutValue) (a b : ℕ) (old mid new : Option Files) → a ≡ size l A → b ≡ size l B → IsChanged r A (cut_to a) old mid
    → IsChanged r B (cut_to b) mid new → IsCutIn r l old new
cut_sides r l a b None None new ea eb one two = two
cut_sides r l a b None (Some mid) new ea eb one two = absurd (cc)
cut_sides r l a b (Some old) None new ea eb one two = absurd one
cut_sides r l a b (Some old) (Some mid) None ea eb one two = two
cut_sides r l a b (Some old) (Some mid) (Some new) ea eb one two = (both-cut r l a b old mid new ea eb one two, λ q d side. two.1 q side (inl d) ∙ one.1 q side (inl d))

pub both_inside : (P : Side → Type 0) → P A → P B → (side : Side) → P side
both_inside P a b A = a
both_inside P a b B = b

-- ---- the text

whole-front : (n : ℕ) (front rest : List ℕ) → length front ≡ n → cut_to n (front ++ rest) ≡ front
whole-front n front rest e =
    let none : n - length front ≡ 0 = omega (arith, e) in
    ap (take n) (append_assoc front rest (zeros n)) ∙ take-past n front (rest ++ zeros n) (omega (arith, e))
    ∙ ap (λ k. front ++ take k (rest ++ zeros n)) none ∙ append-nil front

cut_whole : (text : List ℕ) (n : ℕ) → IsWhole text n → cut_to n text ≡ whole_text text
cut_whole text n w = ap (cut_to n) w.is ∙ whole-front n (whole_text text) w.rest w.long

-- a text with lines
begun-lines : (c : Configuration) (lines : List (List ℕ)) → (length (flat_map with_end lines) ≢ 0) → begun_by c lines ≡ flat_map with_end lines
begun-lines c [] some = absurd (some refl)
begun-lines c (line ∷ lines) some = refl

-- and without
begun-none : (c : Configuration) (lines : List (List ℕ)) → length (flat_map with_end lines) ≡ 0 → flat_map with_end lines ++ with_end (settings_line c) ≡ begun_by c lines
begun-none c [] none = refl
begun-none c (line ∷ lines) none =
    let long : length (with_end line ++ flat_map with_end lines) ≡ length (with_end line) + length (flat_map with_end lines) = length-append (with_end line) (flat_map with_end lines) in
    let one : length (with_end line) ≡ length line + 1 = length-append line (10 ∷ []) in
    absurd (omega (arith, long, one, none))

begun_whole : (c : Configuration) (text : List ℕ) (n : ℕ) → IsWhole text n → n ≢ 0 → cut_to n text ≡ begun_text c text
begun_whole c text n w some = cut_whole text n w ∙ sym (begun-lines c (lines_in text) (λ e. some (sym w.long ∙ e)))

begun_empty : (c : Configuration) (text : List ℕ) (n : ℕ) → IsWhole text n → n ≡ 0 → cut_to n text ++ with_end (settings_line c) ≡ begun_text c text
begun_empty c text n w none = ap (λ t. t ++ with_end (settings_line c)) (cut_whole text n w) ∙ begun-none c (lines_in text) (w.long ∙ none)

appended : (front bytes : List ℕ) (mid new : Option (List ℕ)) → mid ≡ Some front → Appends mid new bytes → new ≡ Some (front ++ bytes)
appended front bytes None new e h = absurd (cc)
appended front bytes (Some mid) None e h = absurd h
appended front bytes (Some mid) (Some new) e h = let same : mid ≡ front = cc in ap Some (h ∙ ap (λ t. t ++ bytes) same)

-- the settings line is written
pub settings_begun : (c : Configuration) (text : List ℕ) (n : ℕ) (old mid new : Option (List ℕ)) → old ≡ Some text → IsWhole text n → n ≡ 0 → mid ≡ option_map (cut_to n) old
    → Appends mid new (with_end (settings_line c)) → new ≡ Some (begun_text c text)
settings_begun c text n old mid new is w none cut h =
    appended (cut_to n text) (with_end (settings_line c)) mid new (cut ∙ ap (option_map (cut_to n)) is) h ∙ ap Some (begun_empty c text n w none)

-- or it is there
pub lines_begun : (c : Configuration) (text : List ℕ) (n : ℕ) (old mid : Option (List ℕ)) → old ≡ Some text → IsWhole text n → n ≢ 0 → mid ≡ option_map (cut_to n) old
    → mid ≡ Some (begun_text c text)
lines_begun c text n old mid is w some cut = cut ∙ ap (option_map (cut_to n)) is ∙ ap Some (begun_whole c text n w some)
