-- What stands in the files stays there.
use Rattle.std.proofs.Common.{◌≡◌, ◌≤◌, ◌+◌, ℕ, zero, map, suc, List, [], ◌∷◌, ◌++◌, Bool, true, false, not, ◌==◌, nat_le, refl, ap, sym, subst, ◌∙◌, length, length-append, append_assoc, append-nil, filter, arith}
use Rattle.ll_item.specs.Items.{media_of}
use Rattle.ll_item.specs.declared.item.Item.{Item}
use Rattle.ll_item.specs.declared.item.Item.TheVariants as item
use Rattle.ll_layout.specs.Held.{Each, Holds, IsAt, IsHeld, IsWithin, LayoutValue, file_by, other, sections_size, size, size_before, size_by, stored, sections_text, with_file}
use Rattle.ll_layout.specs.Moves.{IsTidy, added, first_shown, and_part, and_section, but_map, next_stored, newer_from, now_on, placed, shown_from, with_item, with_part, with_section, without_gone}
use Rattle.ll_layout.specs.declared.side.Side.{Side}
use Rattle.ll_layout.specs.declared.side.Side.TheVariants.{A, B}
use Rattle.ll_layout.specs.declared.stored.KeptPart.{KeptPart}
use Rattle.ll_layout.specs.declared.stored.StoredSection.{StoredSection}
use Rattle.ll_layout.specs.declared.stored.StoredItem.{StoredItem}
use Rattle.ll_window.specs.Compact.{Compact, first_map, map_now}

abbrev Files : Type 0
Files = Side → List ℕ

each-append : {A : Type 0} (P : A → Type 0) (xs ys : List A) → Each P xs → Each P ys → Each P (xs ++ ys)
each-append P [] ys a b = b
each-append P (x ∷ xs) ys a b = (a.0, each-append P xs ys a.1 b)

filter-by : {A : Type 0} (P : A → Type 0) (p : A → Bool) (x : A) (xs : List A) (b : Bool) → p x ≡ b → P x → Each P (filter p xs) → Each P (filter p (x ∷ xs))
filter-by P p x xs true e one rest = rw e (one, rest)
filter-by P p x xs false e one rest = rw e rest

each-filter : {A : Type 0} (p : A → Bool) (P : A → Type 0) (xs : List A) → Each P xs → Each P (filter p xs)
each-filter p P [] a = a
each-filter p P (x ∷ xs) a = filter-by P p x xs (p x) refl a.0 (each-filter p P xs a.1)

-- ---- a file that grows

at-appended : (file more : List ℕ) (offset : ℕ) (bytes : List ℕ) → IsAt file offset bytes → IsAt (file ++ more) offset bytes
at-appended file more offset bytes a = record {
  before = a.before;
  later = a.later ++ more;
  is = ap (λ f. f ++ more) a.is ∙ append_assoc a.before (bytes ++ a.later) more ∙ ap (λ xs. a.before ++ xs) (append_assoc bytes a.later more);
  offset_is = a.offset_is;
}

-- what is appended stands at the end
at-end : (file bytes : List ℕ) (end : ℕ) → length file ≡ end → IsAt (file ++ bytes) end bytes
at-end file bytes end h = record { before = file; later = []; is = ap (λ xs. file ++ xs) (sym (append-nil bytes)); offset_is = h }

at-here : (side : Side) (files : Files) (file : List ℕ) → with_file side file files side ≡ file
at-here A files file = refl
at-here B files file = refl

at-by : (files : Files) (side at : Side) (more : List ℕ) (offset : ℕ) (bytes : List ℕ) → IsAt (files at) offset bytes → IsAt (with_file side (files side ++ more) files at) offset bytes
at-by files A A more offset bytes a = at-appended (files A) more offset bytes a
at-by files A B more offset bytes a = a
at-by files B A more offset bytes a = a
at-by files B B more offset bytes a = at-appended (files B) more offset bytes a

end-by : (files : Files) (side : Side) (bytes : List ℕ) (end : ℕ) → length (files side) ≡ end → IsAt (with_file side (files side ++ bytes) files side) end bytes
end-by files side bytes end h = subst (λ file. IsAt file end bytes) (sym (at-here side files (files side ++ bytes))) (at-end (files side) bytes end h)

long-by : (files : Files) (side : Side) (bytes : List ℕ) (end : ℕ) → length (files side) ≡ end → length (with_file side (files side ++ bytes) files side) ≡ end + length bytes
long-by files side bytes end h =
    ap length (at-here side files (files side ++ bytes)) ∙ (let n : length (files side ++ bytes) ≡ length (files side) + length bytes = length-append (files side) bytes in omega (arith, n, h))

held-on : (files : Files) (of : ℕ → List ℕ) (side : Side) (more : List ℕ) (s : StoredItem) → IsHeld files of s → IsHeld (with_file side (files side ++ more) files) of s
held-on files of side more s h = record { at = at-by files side s.place.side more s.place.offset (of s.count) h.at; length = h.length }

parts-on : (files : Files) (of : ℕ → List ℕ) (side : Side) (more : List ℕ) (ps : List KeptPart) → Each (λ (p : KeptPart). IsHeld files of p.stored) ps
    → Each (λ (p : KeptPart). IsHeld (with_file side (files side ++ more) files) of p.stored) ps
parts-on files of side more [] a = a
parts-on files of side more (p ∷ ps) a = (held-on files of side more p.stored a.0, parts-on files of side more ps a.1)

sections-on : (files : Files) (of : ℕ → List ℕ) (side : Side) (more : List ℕ) (ss : List StoredSection) → Each (λ (s : StoredSection). IsHeld files of s.stored) ss
    → Each (λ (s : StoredSection). IsHeld (with_file side (files side ++ more) files) of s.stored) ss
sections-on files of side more [] a = a
sections-on files of side more (s ∷ ss) a =
    (held-on files of side more s.stored a.0, sections-on files of side more ss a.1)

-- all bytes that are kept stand where they did after more are but for how long the file is
record AreHeld (files : Files) (of : ℕ → List ℕ) (l : LayoutValue) : Type 0 where
  older : Each (λ (p : KeptPart). IsHeld files of p.stored) l.older
  newer : Each (λ (p : KeptPart). IsHeld files of p.stored) l.newer
  sections : Each (λ (s : StoredSection). IsHeld files of s.stored) l.sections

all-on : (files : Files) (of : ℕ → List ℕ) (side : Side) (more : List ℕ) (l : LayoutValue) → Holds files of l → AreHeld (with_file side (files side ++ more) files) of l
all-on files of side more l h = record {
  older = parts-on files of side more l.older h.older;
  newer = parts-on files of side more l.newer h.newer;
  sections = sections-on files of side more l.sections h.sections;
}

next-held : (files : Files) (of : ℕ → List ℕ) (count : ℕ) (l : LayoutValue) (bytes : List ℕ) → length (files l.side) ≡ l.end → of count ≡ bytes
    → IsHeld (with_file l.side (files l.side ++ bytes) files) of (next_stored count (length bytes) l)
next-held files of count l bytes h is = record {
  at = subst (IsAt (with_file l.side (files l.side ++ bytes) files l.side) l.end) (sym is) (end-by files l.side bytes l.end h);
  length = ap length (sym is);
}

-- ---- an item

and-part : (P : KeptPart → Type 0) (n : ℕ) (p : KeptPart) (ps : List KeptPart) → Each P ps → P p → Each P (and_part n p ps)
and-part P zero p ps all one = all
and-part P (suc n) p ps all one = each-append P ps (p ∷ []) all (one, tt)

and-section : (P : StoredSection → Type 0) (s : StoredSection) (ss : List StoredSection) → Each P ss → P s → Each P (and_section s ss)
and-section P s ss all one = each-append P (but_map s.map ss) (s ∷ []) (each-filter (λ (t : StoredSection). not (t.map == s.map)) P ss all) (one, tt)

-- the files hold what is kept with an item's bytes appended
pub with-part-holds : (files : Files) (of : ℕ → List ℕ) (number count : ℕ) (bytes : List ℕ) (l : LayoutValue) → Holds files of l → of count ≡ bytes
    → Holds (with_file l.side (files l.side ++ bytes) files) of (with_part number count (length bytes) l)
with-part-holds files of number count bytes l h is =
    let on = all-on files of l.side bytes l h in
    record {
      older = on.older;
      newer = and-part (λ (p : KeptPart). IsHeld (with_file l.side (files l.side ++ bytes) files) of p.stored) (length bytes)
          (record { number = number; stored = next_stored count (length bytes) l }) l.newer on.newer (next-held files of count l bytes h.end is);
      sections = on.sections;
      end = long-by files l.side bytes l.end h.end;
    }

pub with-section-holds : (files : Files) (of : ℕ → List ℕ) (map count : ℕ) (bytes : List ℕ) (l : LayoutValue) → Holds files of l → of count ≡ bytes
    → Holds (with_file l.side (files l.side ++ bytes) files) of (with_section map count (length bytes) l)
with-section-holds files of map count bytes l h is =
    let on = all-on files of l.side bytes l h in
    record {
      older = on.older;
      newer = on.newer;
      sections = and-section (λ (s : StoredSection). IsHeld (with_file l.side (files l.side ++ bytes) files) of s.stored)
          (record { map = map; stored = next_stored count (length bytes) l }) l.sections on.sections (next-held files of count l bytes h.end is);
      end = long-by files l.side bytes l.end h.end;
    }

-- nothing is appended
none-holds : (files : Files) (of : ℕ → List ℕ) (l : LayoutValue) → Holds files of l → Holds (with_file l.side (files l.side ++ []) files) of l
none-holds files of l h =
    let on = all-on files of l.side [] l h in
    record {
      older = on.older;
      newer = on.newer;
      sections = on.sections;
      end = ap length (at-here l.side files (files l.side ++ []) ∙ append-nil (files l.side)) ∙ h.end;
    }

item-holds : (files : Files) (of : ℕ → List ℕ) (count : ℕ) (i : Item) (k : Compact) (l : LayoutValue) → Holds files of l → of count ≡ media_of i
    → Holds (with_file l.side (files l.side ++ media_of i) files) of (with_item count i k l)
item-holds files of count (item.Part part) k l h is = with-part-holds files of k.next_number count part.media l h is
item-holds files of count (item.Init rendition media) k l h is = with-section-holds files of (map_now k) count media l h is
item-holds files of count (item.Finish rendition) k l h is = none-holds files of l h
item-holds files of count (item.Break rendition time) k l h is = none-holds files of l h
item-holds files of count (item.End rendition) k l h is = none-holds files of l h
item-holds files of count (item.Range rendition id attributes) k l h is = none-holds files of l h
item-holds files of count (item.Unrange rendition id) k l h is = none-holds files of l h

-- ---- what is left out

shown-by : (P : KeptPart → Type 0) (first : ℕ) (p : KeptPart) (ps : List KeptPart) (b : Bool) → nat_le first p.number ≡ b → Each P (p ∷ ps) → Each P (shown_from first ps)
    → Each P (shown_from first (p ∷ ps))
shown-by P first p ps true e all rest = rw e all
shown-by P first p ps false e all rest = rw e rest

shown-all : (P : KeptPart → Type 0) (first : ℕ) (ps : List KeptPart) → Each P ps → Each P (shown_from first ps)
shown-all P first [] all = all
shown-all P first (p ∷ ps) all = shown-by P first p ps (nat_le first p.number) refl all (shown-all P first ps all.1)

newer-all : (P : KeptPart → Type 0) (first : ℕ) (older newer : List KeptPart) → Each P newer → Each P (newer_from first older newer)
newer-all P first [] newer all = shown-all P first newer all
newer-all P first (p ∷ ps) newer all = all

gone-holds : (files : Files) (of : ℕ → List ℕ) (l : LayoutValue) → Holds files of l → Holds files of (without_gone l)
gone-holds files of l h =
    let P = λ (p : KeptPart). IsHeld files of p.stored in
    let first = first_shown l.window in
    record {
      older = shown-all P first l.older h.older;
      newer = newer-all P first (shown_from first l.older) l.newer h.newer;
      sections = each-filter (λ (s : StoredSection). nat_le (first_map l.window) s.map) (λ (s : StoredSection). IsHeld files of s.stored) l.sections h.sections;
      end = h.end;
    }

pub added-holds : (files : Files) (of : ℕ → List ℕ) (count : ℕ) (i : Item) (k : Compact) (l : LayoutValue) → Holds files of l → of count ≡ media_of i
    → Holds (with_file l.side (files l.side ++ media_of i) files) of (added count i k l)
added-holds files of count i k l h is =
    let same : Holds files of (record l { window = k }) = record { older = h.older; newer = h.newer; sections = h.sections; end = h.end } in
    gone-holds (with_file l.side (files l.side ++ media_of i) files) of (with_item count i l.window (record l { window = k }))
    (item-holds files of count i l.window (record l { window = k }) same is)

pub gone-tidy : (l : LayoutValue) → IsTidy l.side l.end l.end_before l.older l.newer l.sections
    → IsTidy l.side l.end l.end_before (without_gone l).older (without_gone l).newer (without_gone l).sections
gone-tidy l h =
    let first = first_shown l.window in
    record {
      older_within = shown-all (λ (p : KeptPart). IsWithin (other l.side) l.end_before p.stored) first l.older h.older_within;
      newer_within = newer-all (λ (p : KeptPart). IsWithin l.side l.end p.stored) first (shown_from first l.older) l.newer h.newer_within;
      sections_within = each-filter (λ (s : StoredSection). nat_le (first_map l.window) s.map) (λ (s : StoredSection). IsWithin l.side l.end s.stored) l.sections h.sections_within;
    }

-- ---- the other side

apart : (side : Side) (files : Files) (file : List ℕ) → with_file (other side) file files side ≡ files side
apart A files file = refl
apart B files file = refl

moved : (files : Files) (of : ℕ → List ℕ) (side : Side) (end : ℕ) (file : List ℕ) (s : StoredItem) → IsWithin side end s → IsHeld files of s
    → IsHeld (with_file (other side) file files) of s
moved files of side end file s inside h = record {
  at = subst (λ f. IsAt f s.place.offset (of s.count)) (sym (ap (with_file (other side) file files) inside.on ∙ apart side files file ∙ sym (ap files inside.on))) h.at;
  length = h.length;
}

all-moved : (files : Files) (of : ℕ → List ℕ) (side : Side) (end : ℕ) (file : List ℕ) (ps : List KeptPart) → Each (λ (p : KeptPart). IsWithin side end p.stored) ps
    → Each (λ (p : KeptPart). IsHeld files of p.stored) ps → Each (λ (p : KeptPart). IsHeld (with_file (other side) file files) of p.stored) ps
all-moved files of side end file [] inside all = all
all-moved files of side end file (p ∷ ps) inside all = (moved files of side end file p.stored inside.0 all.0, all-moved files of side end file ps inside.1 all.1)

placed-holds : (files : Files) (of : ℕ → List ℕ) (side : Side) (text before : List ℕ) (offset : ℕ) (ss : List StoredSection)
    → text ≡ before ++ sections_text of ss → length before ≡ offset → Each (λ (s : StoredSection). IsHeld files of s.stored) ss
    → Each (λ (s : StoredSection). IsHeld (with_file side text files) of s.stored) (placed side offset ss)
placed-holds files of side text before offset [] is e all = tt
placed-holds files of side text before offset (s ∷ ss) is e all =
    let bytes = of s.stored.count in
    let at : IsAt (with_file side text files side) offset bytes =
    record { before = before; later = sections_text of ss; is = at-here side files text ∙ is; offset_is = e } in
    let held = all.0 in (
      record { at = at; length = held.length },
      placed-holds files of side text (before ++ bytes) (offset + s.stored.place.length) ss (is ∙ sym (append_assoc before bytes (sections_text of ss)))
          (let n : length (before ++ bytes) ≡ length before + length bytes = length-append before bytes in let size = held.length in omega (arith, n, e, size)) all.1,
    )

text-size : (files : Files) (of : ℕ → List ℕ) (ss : List StoredSection) → Each (λ (s : StoredSection). IsHeld files of s.stored) ss → length (sections_text of ss) ≡ sections_size ss
text-size files of [] all = refl
text-size files of (s ∷ ss) all =
    let held = all.0 in
    let size = held.length in
    let more = text-size files of ss all.1 in
    let n : length (sections_text of (s ∷ ss)) ≡ length (of s.stored.count) + length (sections_text of ss) = length-append (of s.stored.count) (sections_text of ss) in
    omega (arith, n, size, more)

pub turned-holds : (files : Files) (of : ℕ → List ℕ) (l : LayoutValue) → l.older ≡ [] → IsTidy l.side l.end l.end_before l.older l.newer l.sections → Holds files of l
    → Holds (with_file (other l.side) (sections_text of l.sections) files) of (now_on (other l.side) l)
turned-holds files of l none tidy h =
    let side = other l.side in
    let file = sections_text of l.sections in
    record {
      older = all-moved files of l.side l.end file l.newer tidy.newer_within h.newer;
      newer = subst (Each (λ (p : KeptPart). IsHeld (with_file side file files) of p.stored)) (sym none) tt;
      sections = placed-holds files of side (sections_text of l.sections) [] 0 l.sections refl refl h.sections;
      end = ap length (at-here side files file) ∙ text-size files of l.sections h.sections;
    }

placed-within : (side : Side) (end offset : ℕ) (ss : List StoredSection) → offset + sections_size ss ≤ end → Each (λ (s : StoredSection). IsWithin side end s.stored) (placed side offset ss)
placed-within side end offset [] h = tt
placed-within side end offset (s ∷ ss) h =
    (record { on = refl; within = omega (arith, h) }, placed-within side end (offset + s.stored.place.length) ss (omega (arith, h)))

twice : (side : Side) → other (other side) ≡ side
twice A = refl
twice B = refl

pub turned-tidy : (l : LayoutValue) → l.older ≡ [] → IsTidy l.side l.end l.end_before l.older l.newer l.sections
    → IsTidy (other l.side) (sections_size l.sections) l.end l.newer l.older (placed (other l.side) 0 l.sections)
turned-tidy l none tidy = record {
  older_within = subst (λ side. Each (λ (p : KeptPart). IsWithin side l.end p.stored) l.newer) (sym (twice l.side)) tidy.newer_within;
  newer_within = subst (Each (λ (p : KeptPart). IsWithin (other l.side) (sections_size l.sections) p.stored)) (sym none) tt;
  sections_within = placed-within (other l.side) (sections_size l.sections) 0 l.sections (omega arith);
}

-- ---- more bytes on the current side

within-more : (side : Side) (end more : ℕ) (s : StoredItem) → IsWithin side end s → IsWithin side (end + more) s
within-more side end more s h = record { on = h.on; within = let w = h.within in omega (arith, w) }

parts-more : (side : Side) (end more : ℕ) (ps : List KeptPart) → Each (λ (p : KeptPart). IsWithin side end p.stored) ps → Each (λ (p : KeptPart). IsWithin side (end + more) p.stored) ps
parts-more side end more [] all = all
parts-more side end more (p ∷ ps) all = (within-more side end more p.stored all.0, parts-more side end more ps all.1)

sections-more : (side : Side) (end more : ℕ) (ss : List StoredSection) → Each (λ (s : StoredSection). IsWithin side end s.stored) ss → Each (λ (s : StoredSection). IsWithin side (end + more) s.stored) ss
sections-more side end more [] all = all
sections-more side end more (s ∷ ss) all = (within-more side end more s.stored all.0, sections-more side end more ss all.1)

pub part-tidy : (number count size : ℕ) (l : LayoutValue) → IsTidy l.side l.end l.end_before l.older l.newer l.sections
    → IsTidy l.side (l.end + size) l.end_before l.older (and_part size (record { number = number; stored = next_stored count size l }) l.newer) l.sections
part-tidy number count size l h = record {
  older_within = h.older_within;
  newer_within = and-part (λ (p : KeptPart). IsWithin l.side (l.end + size) p.stored) size (record { number = number; stored = next_stored count size l }) l.newer
      (parts-more l.side l.end size l.newer h.newer_within) (record { on = refl; within = omega arith });
  sections_within = sections-more l.side l.end size l.sections h.sections_within;
}

pub section-tidy : (map count size : ℕ) (l : LayoutValue) → IsTidy l.side l.end l.end_before l.older l.newer l.sections
    → IsTidy l.side (l.end + size) l.end_before l.older l.newer (and_section (record { map = map; stored = next_stored count size l }) l.sections)
section-tidy map count size l h = record {
  older_within = h.older_within;
  newer_within = parts-more l.side l.end size l.newer h.newer_within;
  sections_within = and-section (λ (s : StoredSection). IsWithin l.side (l.end + size) s.stored) (record { map = map; stored = next_stored count size l })
      l.sections (sections-more l.side l.end size l.sections h.sections_within) (record { on = refl; within = omega arith });
}

pub fewer-tidy : (map : ℕ) (side : Side) (end end_before : ℕ) (older newer : List KeptPart) (ss : List StoredSection) → IsTidy side end end_before older newer ss
    → IsTidy side end end_before older newer (but_map map ss)
fewer-tidy map side end end_before older newer ss h = record {
  older_within = h.older_within;
  newer_within = h.newer_within;
  sections_within = each-filter (λ (s : StoredSection). not (s.map == map)) (λ (s : StoredSection). IsWithin side end s.stored) ss h.sections_within;
}

-- ---- how many bytes of a side are needed

each-map : {A B : Type 0} (P : B → Type 0) (f : A → B) (xs : List A) → Each (λ x. P (f x)) xs → Each P (map f xs)
each-map P f [] all = tt
each-map P f (x ∷ xs) all = (all.0, each-map P f xs all.1)

size-now : (at side : Side) (l : LayoutValue) → side ≡ at → size_by at side l ≡ l.end
size-now A A l e = refl
size-now A B l e = absurd (cc)
size-now B A l e = absurd (cc)
size-now B B l e = refl

size-other : (at side : Side) (l : LayoutValue) → side ≡ other at → size_by at side l ≡ size_before l.older l.end_before
size-other A A l e = absurd (cc)
size-other A B l e = refl
size-other B A l e = refl
size-other B B l e = absurd (cc)

-- a side's bytes end where the first `n` of them do
abbrev IsInside : Side → ℕ → StoredItem → Type 0
IsInside side n s = s.place.side ≡ side → s.place.offset + s.place.length ≤ n

inside-by : (side at : Side) (n end : ℕ) (s : StoredItem) → (side ≡ at → n ≡ end) → IsWithin at end s → IsInside side n s
inside-by side at n end s same w = λ here. let e = same (sym here ∙ w.on) in let within = w.within in omega (arith, e, within)

parts-inside : (side at : Side) (n end : ℕ) (ps : List KeptPart) → (side ≡ at → n ≡ end) → Each (λ (p : KeptPart). IsWithin at end p.stored) ps
    → Each (λ (p : KeptPart). IsInside side n p.stored) ps
parts-inside side at n end [] same all = tt
parts-inside side at n end (p ∷ ps) same all = (inside-by side at n end p.stored same all.0, parts-inside side at n end ps same all.1)

sections-inside : (side at : Side) (n end : ℕ) (ss : List StoredSection) → (side ≡ at → n ≡ end) → Each (λ (s : StoredSection). IsWithin at end s.stored) ss
    → Each (λ (s : StoredSection). IsInside side n s.stored) ss
sections-inside side at n end [] same all = tt
sections-inside side at n end (s ∷ ss) same all = (inside-by side at n end s.stored same all.0, sections-inside side at n end ss same all.1)

older-inside : (side : Side) (l : LayoutValue) (ps : List KeptPart) → l.older ≡ ps → Each (λ (p : KeptPart). IsWithin (other l.side) l.end_before p.stored) ps
    → Each (λ (p : KeptPart). IsInside side (size l side) p.stored) ps
older-inside side l [] is all = tt
older-inside side l (p ∷ ps) is all =
    parts-inside side (other l.side) (size l side) l.end_before (p ∷ ps) (λ e. size-other l.side side l e ∙ ap (λ qs. size_before qs l.end_before) is) all

-- all bytes of a side that are kept are among those that it needs
pub all-inside : (side : Side) (l : LayoutValue) → IsTidy l.side l.end l.end_before l.older l.newer l.sections
    → Each (λ (s : StoredItem). s.place.side ≡ side → s.place.offset + s.place.length ≤ size l side) (stored l)
all-inside side l tidy =
    let P = IsInside side (size l side) in
    let older = map (λ (p : KeptPart). p.stored) l.older in
    let newer = map (λ (p : KeptPart). p.stored) l.newer in
    let sections = map (λ (s : StoredSection). s.stored) l.sections in
    each-append P (older ++ newer) sections
    (each-append P older newer (each-map P (λ (p : KeptPart). p.stored) l.older (older-inside side l l.older refl tidy.older_within))
    (each-map P (λ (p : KeptPart). p.stored) l.newer (parts-inside side l.side (size l side) l.end l.newer (size-now l.side side l) tidy.newer_within)))
    (each-map P (λ (s : StoredSection). s.stored) l.sections (sections-inside side l.side (size l side) l.end l.sections (size-now l.side side l) tidy.sections_within))
