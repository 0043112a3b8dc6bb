-- Each of a channel's renditions is found by its name, and names hold no space, comma or end of a line.
use Rattle.std.proofs.Common.{◌≡◌, ℕ, zero, suc, ◌<◌, ◌==◌, ◌&&◌, not, Bool, true, false, cond, List, [], ◌∷◌, length, get_or, refl, sym, arith, nat_le, nat_lt, bytes_eq, Option, Some, None, Ok}
use Rattle.std.proofs.lemmas.Bool.{and_parts, and_from, or_parts, lt-ltb}
use Rattle.std.proofs.lemmas.List.Sums.{position_or_len_is}
use Rattle.std.proofs.lemmas.Slice.Eq.{bytes_eq-Decides}
use Rattle.std.specs.List.{list_all, position, position_or_len}
use Rattle.ll_format.specs.Words.{is_line_byte, is_one_line}
use Rattle.ll_format.proofs.FormatLaws.{lacks}
use Rattle.ll_format.proofs.WordLaws.{inside_from, lacks_from}
use Rattle.ll_item.specs.Items.{named}
use Rattle.ll_settings.specs.Settings.{rendition_named, Configuration, names_in}
use Rattle.ll_settings.specs.Names.{is_name, is_name_byte, is_among, are_names}
use Rattle.ll_item.specs.ItemLines.{name_of}
use Rattle.ll_entry.specs.SettingsLine.{names_text}
use Rattle.ll_entry.proofs.Cuts.{cut_again, all-joined, IsWord}

-- the bytes of a name

name_bytes : (name : List ℕ) → is_name name ≡ true → list_all is_name_byte name ≡ true
name_bytes name h = (and_parts (nat_le 1 (length name) && nat_le (length name) 32) (list_all is_name_byte name) h).1

name_lacks : (c : ℕ) (name : List ℕ) → is_name_byte c ≡ false → is_name name ≡ true → lacks c name ≡ true
name_lacks c name none h = lacks_from is_name_byte c name none (name_bytes name h)

pub name-word : (name : List ℕ) → is_name name ≡ true → IsWord name
name-word name h = record { spaceless = name_lacks 32 name refl h; one_line = inside_from is_name_byte name refl refl (name_bytes name h) }

-- names, one by one

apart : (a b c : Bool) → (a && not b && c) ≡ true → (a ≡ true) × (b ≡ false) × (c ≡ true)
apart true true c h = cc
apart true false c h = (refl, refl, h)
apart false b c h = cc

first_apart : (name : List ℕ) (more : List (List ℕ)) → are_names (name ∷ more) ≡ true
    → (is_name name ≡ true) × (is_among more name ≡ false) × (are_names more ≡ true)
first_apart name more h = apart (is_name name) (is_among more name) (are_names more) h

pub name_at : (names : List (List ℕ)) (r : ℕ) → are_names names ≡ true → r < length names → is_name (get_or names r []) ≡ true
name_at [] r h inside = absurd (omega arith)
name_at (name ∷ more) zero h inside = (first_apart name more h).0
name_at (name ∷ more) (suc r) h inside = name_at more r (first_apart name more h).2 (omega arith)

other_at : (name : List ℕ) (more : List (List ℕ)) (r : ℕ) → is_among more name ≡ false → r < length more → bytes_eq name (get_or more r []) ≡ false
other_at name [] r h inside = absurd (omega arith)
other_at name (next ∷ more) zero h inside = (or_parts (bytes_eq name next) (is_among more name) h).0
other_at name (next ∷ more) (suc r) h inside = other_at name more r (or_parts (bytes_eq name next) (is_among more name) h).1 (omega arith)

either_way : (a b : List ℕ) (t : Bool) → bytes_eq b a ≡ t → bytes_eq a b ≡ false → t ≡ false
either_way a b true e h = let same = (bytes_eq-Decides a b).1 (sym ((bytes_eq-Decides b a).0 e)) in cc
either_way a b false e h = refl

-- no name stands before its own place
none_before : (names : List (List ℕ)) (r k : ℕ) → are_names names ≡ true → r < length names → k < r → bytes_eq (get_or names r []) (get_or names k []) ≡ false
none_before [] r k h inside before = absurd (omega arith)
none_before (name ∷ more) zero k h inside before = absurd (omega arith)
none_before (name ∷ more) (suc r) zero h inside before =
    either_way name (get_or more r []) (bytes_eq (get_or more r []) name) refl (other_at name more r (first_apart name more h).1 (omega arith))
none_before (name ∷ more) (suc r) (suc k) h inside before = none_before more r k (first_apart name more h).2 (omega arith) (omega arith)

place_by : (names : List (List ℕ)) (r n : ℕ) → n ≡ r → r < length names
    → (let o : Option ℕ = cond (nat_lt n (length names)) (Some n) None in o) ≡ Some r
place_by names r n is inside = rw is (rw (lt-ltb r (length names) inside) refl)

place : (names : List (List ℕ)) (r : ℕ) → are_names names ≡ true → r < length names → position (bytes_eq (get_or names r [])) names ≡ Some r
place names r h inside =
    let name = get_or names r [] in
    let same = (bytes_eq-Decides name name).1 refl in
    place_by names r (position_or_len (bytes_eq name) names)
    (position_or_len_is (bytes_eq name) names r [] (omega arith) (λ k before. none_before names r k h inside before) (λ within. same)) inside

found_by : (c : Configuration) (name : List ℕ) (r : ℕ) → is_name name ≡ true → rendition_named c name ≡ Some r → named c name ≡ Ok r
found_by c name r h e = rw (h, e) refl

-- the rendition of this name is the one of this index
pub named_back : (c : Configuration) (r : ℕ) → are_names c.renditions ≡ true → r < length c.renditions → named c (name_of c r) ≡ Ok r
named_back c r h inside =
    found_by c (name_of c r) r (name_at c.renditions r h inside) (place c.renditions r h inside)

-- names, joined by commas

each_lacks : (c : ℕ) (names : List (List ℕ)) → is_name_byte c ≡ false → are_names names ≡ true → list_all (lacks c) names ≡ true
each_lacks c [] none h = refl
each_lacks c (name ∷ more) none h =
    let p = first_apart name more h in and_from (lacks c name) (list_all (lacks c) more) (name_lacks c name none p.0) (each_lacks c more none p.2)

pub names_back : (names : List (List ℕ)) → are_names names ≡ true → 0 < length names → names_in (names_text names) ≡ names
names_back [] h some = absurd (omega arith)
names_back (name ∷ more) h some = cut_again 44 name more refl (each_lacks 44 (name ∷ more) refl h)

each_line : (names : List (List ℕ)) → are_names names ≡ true → list_all is_one_line names ≡ true
each_line [] h = refl
each_line (name ∷ more) h =
    let p = first_apart name more h in and_from (is_one_line name) (list_all is_one_line more) (name-word name p.0).one_line (each_line more p.2)

pub names-word : (names : List (List ℕ)) → are_names names ≡ true → IsWord (names_text names)
names-word names h = record {
  spaceless = all-joined (λ b. not (b == 32)) 44 names refl (each_lacks 32 names refl h);
  one_line = all-joined is_line_byte 44 names refl (each_line names h);
}
