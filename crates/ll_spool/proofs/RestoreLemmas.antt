-- One item after another of a spool's text is published.
use Rattle.std.proofs.Common.{◌≡◌, ℕ, ◌+◌, ◌-◌, arith, flat_map, length, List, [], ◌∷◌, ◌++◌, true, cond, Option, Some, None, Result, Ok, Err, refl, ap, sym, subst, ◌∙◌, append-nil, append_assoc, length-append, map, bytes_eq, Bool, false, not}
use Rattle.std.proofs.lemmas.List.{map-append}
use Rattle.ll_entry.specs.Leads.{with_end}
use Rattle.ll_entry.specs.SettingsLine.{settings_line}
use Rattle.ll_item.specs.Items.{blank}
use Rattle.ll_layout.specs.Held.{LayoutValue}
use Rattle.ll_settings.specs.Settings.{Configuration}
use Rattle.ll_item.specs.declared.item.Item.{Item}
use Rattle.ll_spool.specs.Files.{AreStored, Files, HasStoredFrom}
use Rattle.ll_spool.specs.Layouts.{layouts_after, layouts_from}
use Rattle.ll_spool.specs.Placed.{HasRest, IsPublishedFrom}
use Rattle.ll_spool.specs.Restored.{IsPublished, IsPublishing, IsRestored, IsRestoredFrom, IsSpelledBy, IsWhole, Left, accepted_after, in_front, nth_bytes, whole_text}
use Rattle.ll_spool.specs.Spooled.{item_then, items_from, items_of, lines_in}

accepted-none : (old : Option (List Item)) → old ≡ accepted_after old []
accepted-none None = refl
accepted-none (Some items) = ap Some (sym (append-nil items))

pub accepted-more : (old : Option (List Item)) (items more : List Item) → accepted_after (accepted_after old items) more ≡ accepted_after old (items ++ more)
accepted-more None items more = refl
accepted-more (Some before) items more = ap Some (append_assoc before items more)

pub front-none : (r : Result (List Item) ℕ) → r ≡ in_front [] r
front-none (Ok items) = refl
front-none (Err line) = refl

pub front-more : (spelled : List Item) (n : ℕ) (read : Item) (r : Result (List Item) ℕ) → in_front spelled (item_then n (Some read) r) ≡ in_front (spelled ++ read ∷ []) r
front-more spelled n read (Ok items) = ap Ok (sym (append_assoc spelled (read ∷ []) items))
front-more spelled n read (Err line) = refl

pub publishing_none : (c : Configuration) (all : List (List ℕ)) (left : Left) (old : Option (List Item)) (text : List ℕ)
    → left ≡ record { lines = all; count = 0; text = text } → IsPublishing c all left old old
publishing_none c all left old text is = subst (λ l. IsPublishing c all l old old) (sym is) (record {
  spelled = [];
  are = front-none (items_from c 1 all);
  items = [];
  same = refl;
  published = accepted-none old;
  number = refl;
})

abbrev pub publishing_more : (c : Configuration) (all : List (List ℕ)) (left new : Left) (line : List ℕ) (old mid now : Option (List Item)) (item : Item)
    → IsPublishing c all left old mid → left.lines ≡ line ∷ new.lines → new.count ≡ left.count + 1 → IsSpelledBy c (left.count + 1) line item
    → now ≡ accepted_after mid (item ∷ []) → IsPublishing c all new old now
publishing_more c all left new line old mid now item p cut count by published = record {
  spelled = p.spelled ++ by.spelled ∷ [];
  are = p.are
      ∙ ap (λ ls. in_front p.spelled (items_from c (left.count + 1) ls)) cut
      ∙ ap (λ o. in_front p.spelled (item_then (left.count + 1) o (items_from c (left.count + 1 + 1) new.lines))) by.is
      ∙ front-more p.spelled (left.count + 1) by.spelled (items_from c (left.count + 1 + 1) new.lines)
      ∙ ap (λ n. in_front (p.spelled ++ by.spelled ∷ []) (items_from c (n + 1) new.lines)) (sym count);
  items = p.items ++ item ∷ [];
  same = map-append blank p.items (item ∷ []) ∙ ap (λ l. l ++ blank item ∷ []) p.same ∙ ap (λ b. map blank p.spelled ++ b ∷ []) by.same
      ∙ sym (map-append blank p.spelled (by.spelled ∷ []));
  published = published ∙ ap (λ o. accepted_after o (item ∷ [])) p.published ∙ accepted-more old p.items (item ∷ []);
  number = length-append p.items (item ∷ []) ∙ ap (λ n. n + 1) p.number ∙ sym count;
}

abbrev pub publishing_all : (c : Configuration) (all : List (List ℕ)) (left : Left) (old now : Option (List Item)) → IsPublishing c all left old now → left.lines ≡ []
    → IsPublished (items_from c 1 all) old now left.count
publishing_all c all left old now p none = record {
  spelled = p.spelled;
  are = p.are ∙ ap (λ ls. in_front p.spelled (items_from c (left.count + 1) ls)) none ∙ ap Ok (append-nil p.spelled);
  items = p.items;
  same = p.same;
  published = p.published;
  number = p.number;
}

-- a text whose first line is that of the settings
abbrev restored_items : (c : Configuration) (text first lines : List ℕ) (old now : Option (List Item)) (count : ℕ) → lines_in text ≡ first ∷ lines_in lines
    → bytes_eq first (settings_line c) ≡ true → IsPublished (items_from c 1 (lines_in lines)) old now count → IsRestored c text old now count
restored_items c text first lines old now count cut same p = record {
  spelled = p.spelled;
  are = ap (items_of c) cut ∙ ap (λ b. cond b (items_from c 1 (lines_in lines)) (Err 1)) same ∙ p.are;
  items = p.items;
  same = p.same;
  published = p.published;
  number = p.number;
}

same-by : (same differs : Bool) → differs ≡ not same → differs ≡ false → same ≡ true
same-by true differs e f = refl
same-by false differs e f = absurd (cc)

-- a text whose first line doesn't differ from that of the settings
pub restored_same : (c : Configuration) (text first lines line : List ℕ) (old now : Option (List Item)) (count : ℕ) (ls : List LayoutValue) (files : Option Files)
    → lines_in text ≡ first ∷ lines_in lines → line ≡ settings_line c → (differs : Bool) → differs ≡ not (bytes_eq first line) → differs ≡ false
    → IsPublishedFrom c lines old now count ls files → IsRestoredFrom c text old now count ls files
restored_same c text first lines line old now count ls files cut is differs e f p = record {
  restored = restored_items c text first lines old now count cut (ap (bytes_eq first) (sym is) ∙ same-by (bytes_eq first line) differs e f) p.published;
  laid = p.laid;
  held = p.held;
}

-- of a channel without items nothing is kept
none-from : (c : Configuration) (r : ℕ) (names : List (List ℕ)) (files : Files) (of : ℕ → List ℕ) → HasStoredFrom r files of (layouts_from c r names [])
none-from c r [] files of = tt
none-from c r (name ∷ names) files of = (tt, none-from c (r + 1) names files of)

none-stored : (c : Configuration) (files : Option Files) (of : ℕ → List ℕ) → AreStored of (layouts_after c []) files
none-stored c None of = tt
none-stored c (Some files) of = none-from c 0 c.renditions files of

-- a text without a whole line
pub restored_nothing : (c : Configuration) (text : List ℕ) (old : Option (List Item)) (ls : List LayoutValue) (files : Option Files) → lines_in text ≡ []
    → ls ≡ layouts_after c [] → IsRestoredFrom c text old old 0 ls files
restored_nothing c text old ls files none laid = record {
  restored = record {
    spelled = [];
    are = ap (items_of c) none;
    items = [];
    same = refl;
    published = accepted-none old;
    number = refl;
  };
  laid = laid;
  held = λ more. subst (λ ks. AreStored (nth_bytes more) ks files) (sym laid) (none-stored c files (nth_bytes more));
}

-- ---- the whole lines

pub whole_nothing : (text : List ℕ) → lines_in text ≡ [] → IsWhole text 0
whole_nothing text none = record { rest = text; is = ap (λ ls. flat_map with_end ls ++ text) (sym none); long = ap (λ ls. length (flat_map with_end ls)) none }

pub whole_lines : (text first lines : List ℕ) (left n : ℕ) → lines_in text ≡ first ∷ lines_in lines → text ≡ with_end first ++ lines → HasRest lines left → n ≡ length text - left
    → IsWhole text n
whole_lines text first lines left n cut is h size =
    let whole : whole_text text ≡ with_end first ++ whole_text lines = ap (flat_map with_end) cut in
    let both : text ≡ whole_text text ++ h.rest =
    is ∙ ap (λ t. with_end first ++ t) h.is ∙ sym (append_assoc (with_end first) (whole_text lines) h.rest) ∙ ap (λ t. t ++ h.rest) (sym whole) in
    let long : length text ≡ length (whole_text text) + length h.rest = ap length both ∙ length-append (whole_text text) h.rest in
    let some = h.long in
    record { rest = h.rest; is = both; long = omega (arith, long, some, size) }
