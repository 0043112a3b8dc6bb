-- What the files hold after each step of a spool.
use Rattle.std.proofs.Common.{◌≡◌, ◌≢◌, inl, inr, ◌<◌, ◌+◌, ℕ, zero, suc, List, [], ◌∷◌, ◌++◌, Option, Some, None, Result, Ok, Err, OnOk, refl, ap, sym, subst, ◌∙◌, length, append_assoc, append-nil, take, drop, set, slice_get, get_or, arith}
use Rattle.std.proofs.Math.Seq.{drop-append_seam, take-append_seam}
use Rattle.std.proofs.lemmas.Grind.{flat_map-append}
use Rattle.ll_layout.specs.Held.{Each, Holds, IsAt, IsHeld, IsWithin, LayoutValue, other, sections_text, with_file}
use Rattle.ll_layout.specs.declared.side.Side.{Side}
use Rattle.ll_layout.specs.declared.side.Side.TheVariants.{A, B}
use Rattle.ll_layout.specs.declared.stored.KeptPart.{KeptPart}
use Rattle.ll_layout.specs.declared.stored.Extent.{Extent}
use Rattle.ll_layout.specs.declared.stored.StoredSection.{StoredSection}
use Rattle.ll_layout.specs.declared.stored.StoredItem.{StoredItem}
use Rattle.ll_spool.specs.declared.fault.KeepFault.{KeepFault}
use Rattle.ll_spool.specs.Files.{AreHeld, AreOthersSame, AreRestSame, Files, HoldsFrom, IsChanged, IsHeldIn, IsReadAt, IsSourceOf}

-- ---- bytes at a place

at-take : (file : List ℕ) (offset : ℕ) (bytes : List ℕ) → IsAt file offset bytes → take (length bytes) (drop offset file) ≡ bytes
at-take file offset bytes a =
    ap (λ f. take (length bytes) (drop offset f)) a.is
    ∙ ap (λ n. take (length bytes) (drop n (a.before ++ (bytes ++ a.later)))) (sym a.offset_is)
    ∙ ap (take (length bytes)) (drop-append_seam a.before (bytes ++ a.later))
    ∙ take-append_seam bytes a.later

at-one : (file : List ℕ) (offset : ℕ) (x y : List ℕ) → length x ≡ length y → IsAt file offset x → IsAt file offset y → x ≡ y
at-one file offset x y same a b = sym (at-take file offset x a) ∙ ap (λ n. take n (drop offset file)) same ∙ at-take file offset y b

pub same_slice : (n : ℕ) (bytes rest : List ℕ) → n ≡ length bytes → take n (bytes ++ rest) ≡ bytes
same_slice n bytes rest e = ap (λ m. take m (bytes ++ rest)) e ∙ take-append_seam bytes rest

-- what was read is what stands there
pub copied_bytes : (r : ℕ) (side : Side) (place : Extent) (old new : Option Files) (x y : List ℕ) → length x ≡ length y → IsReadAt old r place x → IsReadAt old r place y
    → IsChanged r side (λ file. file ++ x) old new → IsChanged r side (λ file. file ++ y) old new
copied_bytes r side place None new x y same a b h = h
copied_bytes r side place (Some files) new x y same a b h =
    subst (λ z. IsChanged r side (λ file. file ++ z) (Some files) new) (at-one (files r place.side) place.offset x y same a b) h

-- an item's bytes stand at one place alone
pub same_held : (f : Side → List ℕ) (of then : ℕ → List ℕ) (s : StoredItem) → IsHeld f of s → IsHeld f then s → then s.count ≡ of s.count
same_held f of then s a b = at-one (f s.place.side) s.place.offset (then s.count) (of s.count) (sym b.length ∙ a.length) b.at a.at

-- ---- sides

not-other : (side : Side) → other side ≡ side → ⊥
not-other A e = absurd (cc)
not-other B e = absurd (cc)

pub apart : (at side : Side) → at ≡ other side → at ≢ side
apart at side e = λ same. not-other side (sym e ∙ same)

pub twice : (side : Side) → other (other side) ≡ side
twice A = refl
twice B = refl

-- ---- sections are copied

pub copied_none : (r : ℕ) (side : Side) (of : ℕ → List ℕ) (files : Option Files) → IsChanged r side (λ file. file ++ sections_text of []) files files
copied_none r side of None = refl
copied_none r side of (Some files) = (sym (append-nil (files r side)), λ q s d. refl)

text-snoc : (of : ℕ → List ℕ) (ss : List StoredSection) (s : StoredSection) → sections_text of (ss ++ s ∷ []) ≡ sections_text of ss ++ of s.stored.count
text-snoc of ss s = flat_map-append (λ (t : StoredSection). of t.stored.count) ss (s ∷ []) ∙ ap (λ xs. sections_text of ss ++ xs) (append-nil (of s.stored.count))

abbrev some-bytes : ℕ → List ℕ
some-bytes zero = []
some-bytes (suc n) = 0 ∷ some-bytes n

some-length : (n : ℕ) → length (some-bytes n) ≡ n
some-length zero = refl
some-length (suc n) = ap suc (some-length n)

one-more : (of : ℕ → List ℕ) (r : ℕ) (side : Side) (s : StoredSection) (ss : List StoredSection) (old mid : Files) (new : Option Files) → IsHeld (old r) of s.stored
    → s.stored.place.side ≡ other side → (mid r side ≡ old r side ++ sections_text of ss) × AreOthersSame r side old mid
    → IsChanged r side (λ file. file ++ of s.stored.count) (Some mid) new → IsChanged r side (λ file. file ++ sections_text of (ss ++ s ∷ [])) (Some old) new
one-more of r side s ss old mid None held on m h = h
one-more of r side s ss old mid (Some new) held on m h = (
  h.0 ∙ ap (λ f. f ++ of s.stored.count) m.0 ∙ append_assoc (old r side) (sections_text of ss) (of s.stored.count) ∙ ap (λ xs. old r side ++ xs) (sym (text-snoc of ss s)),
  λ q t d. h.1 q t d ∙ m.1 q t d,
)

pub copied_more : (of : ℕ → List ℕ) (r : ℕ) (side : Side) (s : StoredSection) (ss : List StoredSection) (old mid new : Option Files) → IsSourceOf r side of s.stored old
    → IsChanged r side (λ file. file ++ sections_text of ss) old mid
    → ((bytes : List ℕ) → length bytes ≡ s.stored.place.length → IsReadAt mid r s.stored.place bytes → IsChanged r side (λ file. file ++ bytes) mid new)
    → IsChanged r side (λ file. file ++ sections_text of (ss ++ s ∷ [])) old new
copied_more of r side s ss None None new source m copies = copies (some-bytes s.stored.place.length) (some-length s.stored.place.length) tt
copied_more of r side s ss None (Some mid) new source m copies = absurd (cc)
copied_more of r side s ss (Some old) None new source m copies = absurd m
copied_more of r side s ss (Some old) (Some mid) new source m copies =
    let held = source.0 in
    let same : mid r s.stored.place.side ≡ old r s.stored.place.side = m.1 r s.stored.place.side (inr (apart s.stored.place.side side source.1)) in
    one-more of r side s ss old mid new held source.1 m
    (copies (of s.stored.count) (sym held.length) (subst (λ file. IsAt file s.stored.place.offset (of s.stored.count)) (sym same) held.at))

-- the section at a place of those that are there
pub source_at : (P : StoredSection → Type 0) (ss : List StoredSection) (i : ℕ) (d : StoredSection) → i < length ss → Each P ss → P (get_or ss i d)
source_at P [] i d l all = absurd (omega (arith, l))
source_at P (s ∷ ss) zero d l all = all.0
source_at P (s ∷ ss) (suc i) d l all = source_at P ss i d (omega (arith, l)) all.1

-- ---- what is held of one rendition

held-same : (f g : Side → List ℕ) (of : ℕ → List ℕ) → ((at : Side) → g at ≡ f at) → (s : StoredItem) → IsHeld f of s → IsHeld g of s
held-same f g of same s h = record { at = subst (λ file. IsAt file s.place.offset (of s.count)) (sym (same s.place.side)) h.at; length = h.length }

parts-same : (f g : Side → List ℕ) (of : ℕ → List ℕ) → ((at : Side) → g at ≡ f at) → (ps : List KeptPart) → Each (λ (p : KeptPart). IsHeld f of p.stored) ps
    → Each (λ (p : KeptPart). IsHeld g of p.stored) ps
parts-same f g of same [] all = tt
parts-same f g of same (p ∷ ps) all = (held-same f g of same p.stored all.0, parts-same f g of same ps all.1)

sections-same : (f g : Side → List ℕ) (of : ℕ → List ℕ) → ((at : Side) → g at ≡ f at) → (ss : List StoredSection) → Each (λ (s : StoredSection). IsHeld f of s.stored) ss
    → Each (λ (s : StoredSection). IsHeld g of s.stored) ss
sections-same f g of same [] all = tt
sections-same f g of same (s ∷ ss) all = (held-same f g of same s.stored all.0, sections-same f g of same ss all.1)

holds-same : (f g : Side → List ℕ) (of : ℕ → List ℕ) (l : LayoutValue) → ((at : Side) → g at ≡ f at) → Holds f of l → Holds g of l
holds-same f g of l same h = record {
  older = parts-same f g of same l.older h.older;
  newer = parts-same f g of same l.newer h.newer;
  sections = sections-same f g of same l.sections h.sections;
  end = ap length (same l.side) ∙ h.end;
}

-- a file that was changed, and the others
file-by : (f g : Side → List ℕ) (side at : Side) (file : List ℕ) → g side ≡ file → ((s : Side) → s ≢ side → g s ≡ f s) → g at ≡ with_file side file f at
file-by f g A A file is others = is
file-by f g A B file is others = others B (λ e. absurd (cc))
file-by f g B A file is others = others A (λ e. absurd (cc))
file-by f g B B file is others = is

-- ---- a side is turned to

pub turned_held : (of : ℕ → List ℕ) (r : ℕ) (l m : LayoutValue) (old mid new : Option Files) → IsHeldIn r of l old
    → IsChanged r (other l.side) (λ file. []) old mid → IsChanged r (other l.side) (λ file. file ++ sections_text of l.sections) mid new
    → ((files : Side → List ℕ) → Holds files of l → Holds (with_file (other l.side) (sections_text of l.sections) files) of m) → IsHeldIn r of m new
turned_held of r l m None None None held c a turn = tt
turned_held of r l m None None (Some new) held c a turn = absurd (cc)
turned_held of r l m None (Some mid) new held c a turn = absurd (cc)
turned_held of r l m (Some old) None new held c a turn = absurd c
turned_held of r l m (Some old) (Some mid) None held c a turn = absurd a
turned_held of r l m (Some old) (Some mid) (Some new) held c a turn =
    let side = other l.side in
    let text = sections_text of l.sections in
    holds-same (with_file side text (old r)) (new r) of m
    (λ at. file-by (old r) (new r) side at text (a.0 ∙ ap (λ f. f ++ text) c.0) (λ s d. a.1 r s (inr d) ∙ c.1 r s (inr d))) (turn (old r) held)

-- sections are on the side before, which wasn't emptied
sources : (of : ℕ → List ℕ) (r : ℕ) (side : Side) (end : ℕ) (old mid : Files) (ss : List StoredSection) → Each (λ (s : StoredSection). IsWithin side end s.stored) ss
    → Each (λ (s : StoredSection). IsHeld (old r) of s.stored) ss → AreOthersSame r (other side) old mid
    → Each (λ (s : StoredSection). IsSourceOf r (other side) of s.stored (Some mid)) ss
sources of r side end old mid [] within all others = tt
sources of r side end old mid (s ∷ ss) within all others =
    let inside = within.0 in
    let held = all.0 in
    let on : s.stored.place.side ≡ other (other side) = inside.on ∙ sym (twice side) in
    let same : mid r s.stored.place.side ≡ old r s.stored.place.side = others r s.stored.place.side (inr (apart s.stored.place.side (other side) on)) in (
      (record { at = subst (λ file. IsAt file s.stored.place.offset (of s.stored.count)) (sym same) held.at; length = held.length }, on),
      sources of r side end old mid ss within.1 all.1 others,
    )

no-sources : (of : ℕ → List ℕ) (r : ℕ) (side : Side) (ss : List StoredSection) → Each (λ (s : StoredSection). IsSourceOf r side of s.stored None) ss
no-sources of r side [] = tt
no-sources of r side (s ∷ ss) = (tt, no-sources of r side ss)

pub all_sources : (of : ℕ → List ℕ) (r : ℕ) (l : LayoutValue) (old mid : Option Files) → IsHeldIn r of l old → IsChanged r (other l.side) (λ file. []) old mid
    → Each (λ (s : StoredSection). IsWithin l.side l.end s.stored) l.sections → Each (λ (s : StoredSection). IsSourceOf r (other l.side) of s.stored mid) l.sections
all_sources of r l None None held c within = no-sources of r (other l.side) l.sections
all_sources of r l None (Some mid) held c within = absurd (cc)
all_sources of r l (Some old) None held c within = absurd c
all_sources of r l (Some old) (Some mid) held c within = sources of r l.side l.end old mid l.sections within held.sections c.1

-- ---- an item's bytes are appended

pub added_held : (of : ℕ → List ℕ) (r : ℕ) (l m : LayoutValue) (bytes : List ℕ) (old new : Option Files) → IsHeldIn r of l old
    → IsChanged r l.side (λ file. file ++ bytes) old new
    → ((files : Side → List ℕ) → Holds files of l → Holds (with_file l.side (files l.side ++ bytes) files) of m) → IsHeldIn r of m new
added_held of r l m bytes None None held a add = tt
added_held of r l m bytes None (Some new) held a add = absurd (cc)
added_held of r l m bytes (Some old) None held a add = absurd a
added_held of r l m bytes (Some old) (Some new) held a add =
    holds-same (with_file l.side (old r l.side ++ bytes) (old r)) (new r) of m
    (λ at. file-by (old r) (new r) l.side at (old r l.side ++ bytes) a.0 (λ s d. a.1 r s (inr d))) (add (old r) held)

-- ---- the other renditions

pub rest_same : (r : ℕ) (files : Option Files) → AreRestSame r files files
rest_same r None = refl
rest_same r (Some files) = λ q d s. refl

pub changed_rest : (r : ℕ) (side : Side) (change : List ℕ → List ℕ) (old new : Option Files) → IsChanged r side change old new → AreRestSame r old new
changed_rest r side change None new h = h
changed_rest r side change (Some old) None h = h
changed_rest r side change (Some old) (Some new) h = λ q d s. h.1 q s (inl d)

pub rest_then : (r : ℕ) (old mid new : Option Files) → AreRestSame r old mid → AreRestSame r mid new → AreRestSame r old new
rest_then r None None new a b = b
rest_then r None (Some mid) new a b = absurd (cc)
rest_then r (Some old) None new a b = absurd a
rest_then r (Some old) (Some mid) None a b = b
rest_then r (Some old) (Some mid) (Some new) a b = λ q d s. b q d s ∙ a q d s

-- ---- all renditions

holds-later : (n r : ℕ) (of : ℕ → List ℕ) (old new : Files) (ls : List LayoutValue) → r < n → ((q : ℕ) → q ≢ r → (s : Side) → new q s ≡ old q s)
    → HoldsFrom n old of ls → HoldsFrom n new of ls
holds-later n r of old new [] l same h = tt
holds-later n r of old new (k ∷ ls) l same h =
    (holds-same (old n) (new n) of k (same n (λ e. absurd (omega (arith, e, l)))) h.0, holds-later (n + 1) r of old new ls (omega (arith, l)) same h.1)

-- the layout at a place is another
pub holds_set : (n i : ℕ) (of : ℕ → List ℕ) (old new : Files) (ls : List LayoutValue) (l : LayoutValue) → ((q : ℕ) → q ≢ n + i → (s : Side) → new q s ≡ old q s)
    → HoldsFrom n old of ls → Holds (new (n + i)) of l → HoldsFrom n new of (set ls i l)
holds_set n i of old new [] l same h one = tt
holds_set n zero of old new (k ∷ ls) l same h one =
    let here : n + 0 ≡ n = omega arith in
    (subst (λ q. Holds (new q) of l) here one, holds-later (n + 1) n of old new ls (omega arith) (λ q d s. same q (λ e. d (e ∙ here)) s) h.1)
holds_set n (suc i) of old new (k ∷ ls) l same h one =
    let there : n + suc i ≡ n + 1 + i = omega arith in (
      holds-same (old n) (new n) of k (same n (λ e. absurd (omega (arith, e)))) h.0,
      holds_set (n + 1) i of old new ls l (λ q d s. same q (λ e. d (e ∙ there)) s) h.1 (subst (λ q. Holds (new q) of l) there one),
    )

some-one : (k l : LayoutValue) → Some k ≡ Some l → k ≡ l
some-one k l e = cc

-- the layout at a place is held
pub holds_at : (n i : ℕ) (of : ℕ → List ℕ) (files : Files) (ls : List LayoutValue) (l : LayoutValue) → slice_get ls i ≡ Some l → HoldsFrom n files of ls → Holds (files (n + i)) of l
holds_at n i of files [] l is h = absurd (cc)
holds_at n zero of files (k ∷ ls) l is h = let here : n ≡ n + 0 = omega arith in subst (λ q. Holds (files q) of l) here (subst (Holds (files n) of) (some-one k l is) h.0)
holds_at n (suc i) of files (k ∷ ls) l is h = let there : n + 1 + i ≡ n + suc i = omega arith in subst (λ q. Holds (files q) of l) there (holds_at (n + 1) i of files ls l is h.1)

kept-in : (of : ℕ → List ℕ) (i : ℕ) (ls : List LayoutValue) (l m : LayoutValue) (old new : Option Files) → slice_get ls i ≡ Some l → AreHeld of ls old
    → (IsHeldIn i of l old → IsHeldIn i of m new) → AreRestSame i old new → AreHeld of (set ls i m) new
kept-in of i ls l m None None is all one rest = tt
kept-in of i ls l m None (Some new) is all one rest = absurd (cc)
kept-in of i ls l m (Some old) None is all one rest = absurd rest
kept-in of i ls l m (Some old) (Some new) is all one rest =
    let here : 0 + i ≡ i = omega arith in
    holds_set 0 i of old new ls m (λ q d s. rest q (λ e. d (e ∙ sym here)) s) all
    (subst (λ q. Holds (new q) of m) (sym here) (one (subst (λ q. Holds (old q) of l) here (holds_at 0 i of old ls l is all))))

-- the item's bytes were written in its rendition, or a write failed
pub kept_in : (of : ℕ → List ℕ) (i : ℕ) (ls : List LayoutValue) (l m : LayoutValue) (old new : Option Files) (r : Result (Unit {0}) KeepFault) → slice_get ls i ≡ Some l
    → AreHeld of ls old → (IsHeldIn i of l old → OnOk r (IsHeldIn i of m new)) → OnOk r (AreRestSame i old new) → OnOk r (AreHeld of (set ls i m) new)
kept_in of i ls l m old new (Ok done) is all one rest = kept-in of i ls l m old new is all one rest
kept_in of i ls l m old new (Err fault) is all one rest = tt
