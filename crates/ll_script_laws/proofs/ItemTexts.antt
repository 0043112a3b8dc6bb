-- What is read of a line in UTF-8 has its texts in UTF-8, and attribute lists that are read again as they are spelled.
use Rattle.std.proofs.Common.{◌≡◌, ◌≢◌, ℕ, ◌+◌, ◌<◌, ◌==◌, Bool, true, false, List, [], ◌∷◌, ◌++◌, Option, Some, None, Result, Ok, Err, length, length-append, refl, sym, subst, arith, codes, bytes_eq, get_or, if◌then◌else◌}
use Rattle.std.proofs.lemmas.Str.{IsCharBoundary-after_ascii, IsCharBoundary-before_ascii, IsUtf8-drop, IsUtf8-take, is_utf8-from_IsUtf8}
use Rattle.std.proofs.Math.Seq.{drop-append-add, get_or-append_seam, take-append_seam}
use Rattle.std.specs.Str.{IsUtf8, is_utf8}
use Rattle.ll_attr.specs.Attributes.{attributes_in, attribute_spelling, spelling, value_spelling}
use Rattle.ll_attr.specs.Numbers.{number_in}
use Rattle.ll_attr.specs.Words.{words, joined}
use Rattle.ll_attr.specs.declared.attributes.Attribute.{Attribute}
use Rattle.ll_attr.specs.declared.attributes.AttrFault.{AttrFault}
use Rattle.ll_attr.specs.declared.attributes.AttrValue.{AttrValue}
use Rattle.ll_attr.specs.declared.attributes.AttrValue.TheVariants.{Quoted, Bare}
use Rattle.ll_attr.proofs.Joined.{joined_words}
use Rattle.ll_attr.proofs.Spelled.{read_again, written_again}
use Rattle.ll_attr.proofs.Tails.{left_read}
use Rattle.ll_item.specs.Items.{alone_in, bare_of, break_at, break_in, end_at, finish_at, flags_in, init_at, item_in, item_of, named, part_at, part_by, part_in, range_at, range_in, range_of, range_with, time_in, timed_break, unrange_at, unrange_in}
use Rattle.ll_settings.specs.Settings.{Configuration}
use Rattle.ll_item.specs.declared.item.Item.{Item}
use Rattle.ll_item.specs.declared.item.Item.TheVariants.{Part, Init, Finish, Break, End, Range, Unrange}
use Rattle.ll_item.specs.declared.item.ItemFault.{ItemFault}
use Rattle.ll_item.specs.declared.item.ItemFault.TheVariants.{BadAttribute, BadLine}
use Rattle.ll_laws.specs.Published.{IsSpelled}

-- what the texts of an item are like that was read; a date range may lack all attributes but its ID, until it is refused
abbrev pub IsRead : Item → Type 0
IsRead (Range rendition id attributes) = (is_utf8 id ≡ true) × (attributes ≢ [] → IsSpelled attributes)
IsRead (Unrange rendition id) = is_utf8 id ≡ true
IsRead (Part part) = Unit
IsRead (Init rendition media) = Unit
IsRead (Finish rendition) = Unit
IsRead (Break rendition time) = Unit
IsRead (End rendition) = Unit

-- what stands before an ASCII byte and what stands after it
apart : (xs : List ℕ) (c : ℕ) (ys : List ℕ) → c < 128 → IsUtf8 (xs ++ (c ∷ ys)) → IsUtf8 xs × IsUtf8 ys
apart xs c ys low u =
    let all = xs ++ (c ∷ ys) in
    let within : length xs < length all = omega (arith, length-append xs (c ∷ ys)) in
    let ascii : get_or all (length xs) 0 < 128 = omega (arith, get_or-append_seam xs c ys 0, low) in
    let end = IsUtf8-drop all (length xs + 1) u (IsCharBoundary-after_ascii all (length xs) u within ascii) in (
      subst IsUtf8 (take-append_seam xs (c ∷ ys)) (IsUtf8-take all (length xs) u (IsCharBoundary-before_ascii all (length xs) within ascii)),
      subst IsUtf8 (drop-append-add xs (c ∷ ys) 1) end,
    )

-- what stands after the second word of a line
after_two : (kind name first : List ℕ) (more : List (List ℕ)) → IsUtf8 (joined (kind ∷ name ∷ first ∷ more)) → IsUtf8 (joined (first ∷ more))
after_two kind name first more u =
    (apart name 32 (joined (first ∷ more)) (omega arith) (apart kind 32 (joined (name ∷ first ∷ more)) (omega arith) u).1).1

-- ---- attribute lists

id_utf8 : (name id : List ℕ) → IsUtf8 (name ++ (codes "=" ++ value_spelling (Quoted id))) → IsUtf8 id
id_utf8 name id u =
    let value = (apart name 61 (34 ∷ (id ++ 34 ∷ [])) (omega arith) u).1 in
    (apart id 34 [] (omega arith) (apart [] 34 (id ++ 34 ∷ []) (omega arith) value).1).0

first_utf8 : (a : Attribute) (more : List Attribute) → IsUtf8 (spelling (a ∷ more)) → IsUtf8 (attribute_spelling a)
first_utf8 a [] u = u
first_utf8 a (b ∷ more) u = (apart (attribute_spelling a) 44 (spelling (b ∷ more)) (omega arith) u).0

spelled : (a : Attribute) (more : List Attribute) (text : List ℕ) → IsUtf8 text → attributes_in text ≡ Ok (a ∷ more) → more ≢ [] → IsSpelled more
spelled a [] text u h some = absurd (some refl)
spelled a (b ∷ more) text u h some = record {
  read = left_read (a ∷ b ∷ more) (b ∷ more) (λ any. read_again text (a ∷ b ∷ more) h) refl some;
  utf8 = is_utf8-from_IsUtf8 (spelling (b ∷ more)) (apart (attribute_spelling a) 44 (spelling (b ∷ more)) (omega arith) (subst IsUtf8 (sym (written_again text (a ∷ b ∷ more) h)) u)).1;
}

same : {X : Type 0} (P : X → Type 0) (x y : X) → (let o : Result X ItemFault = Ok x in o) ≡ Ok y → P x → P y
same P x y h p = let e : x ≡ y = cc in subst P e p

by_name : (b : Bool) (i j : Item) → (if b then Ok i else Err BadAttribute) ≡ Ok j → IsRead i → IsRead j
by_name true i j h read = same IsRead i j h read
by_name false i j h read = cc

by_value : (r : ℕ) (a : Attribute) (v : AttrValue) (more : List Attribute) (i : Item) → a.value ≡ v → IsUtf8 (attribute_spelling a) → (more ≢ [] → IsSpelled more)
    → range_with r a.name v more ≡ Ok i → IsRead i
by_value r a (Bare text) more i e u s h = cc
by_value r a (Quoted id) more i e u s h =
    by_name (bytes_eq a.name (codes "ID")) (Range r id more) i h
    (is_utf8-from_IsUtf8 id (id_utf8 a.name id (subst (λ v. IsUtf8 (a.name ++ (codes "=" ++ value_spelling v))) e u)), s)

range_read : (r : ℕ) (text : List ℕ) (list : Result (List Attribute) AttrFault) (i : Item) → IsUtf8 text → attributes_in text ≡ list → range_of r list ≡ Ok i → IsRead i
range_read r text (Err fault) i u e h = cc
range_read r text (Ok []) i u e h = cc
range_read r text (Ok (a ∷ more)) i u e h =
    by_value r a a.value more i refl (first_utf8 a more (subst IsUtf8 (sym (written_again text (a ∷ more) e)) u)) (spelled a more text u e) h

-- ---- the kinds of items

part_read : (n : Result ℕ ItemFault) (d : ℕ) (f : Bool × Bool) (media : List ℕ) (i : Item) → part_at n d f media ≡ Ok i → IsRead i
part_read (Err fault) d f media i h = cc
part_read (Ok r) d f media i h = same IsRead (Part (record { rendition = r; duration = d; independent = f.0; finish = f.1; media = media })) i h tt

part_by-read : (c : Configuration) (name : List ℕ) (d : Option ℕ) (f : Option (Bool × Bool)) (media : List ℕ) (i : Item) → part_by c name d f media ≡ Ok i → IsRead i
part_by-read c name None f media i h = cc
part_by-read c name (Some d) None media i h = cc
part_by-read c name (Some d) (Some f) media i h = part_read (named c name) d f media i h

part_in-read : (c : Configuration) (rest : List (List ℕ)) (media : List ℕ) (i : Item) → part_in c rest media ≡ Ok i → IsRead i
part_in-read c (name ∷ duration ∷ flags ∷ []) media i h = part_by-read c name (number_in 20 duration) (flags_in flags) media i h
part_in-read c other media i h = cc

init-read : (n : Result ℕ ItemFault) (media : List ℕ) (i : Item) → init_at n media ≡ Ok i → IsRead i
init-read (Err fault) media i h = cc
init-read (Ok r) media i h = same IsRead (Init r media) i h tt

finish-read : (n : Result ℕ ItemFault) (i : Item) → finish_at n ≡ Ok i → IsRead i
finish-read (Err fault) i h = cc
finish-read (Ok r) i h = same IsRead (Finish r) i h tt

break-read : (n : Result ℕ ItemFault) (time : Option ℕ) (i : Item) → break_at n time ≡ Ok i → IsRead i
break-read (Err fault) time i h = cc
break-read (Ok r) time i h = same IsRead (Break r time) i h tt

timed-read : (c : Configuration) (name : List ℕ) (time : Option ℕ) (i : Item) → timed_break c name time ≡ Ok i → IsRead i
timed-read c name None i h = cc
timed-read c name (Some ms) i h = break-read (named c name) (Some ms) i h

break_in-read : (c : Configuration) (rest : List (List ℕ)) (i : Item) → break_in c rest ≡ Ok i → IsRead i
break_in-read c (name ∷ []) i h = break-read (named c name) None i h
break_in-read c (name ∷ time ∷ []) i h = timed-read c name (time_in time) i h
break_in-read c other i h = cc

end-read : (n : Result ℕ ItemFault) (i : Item) → end_at n ≡ Ok i → IsRead i
end-read (Err fault) i h = cc
end-read (Ok r) i h = same IsRead (End r) i h tt

range_at-read : (n : Result ℕ ItemFault) (text : List ℕ) (i : Item) → IsUtf8 text → range_at n text ≡ Ok i → IsRead i
range_at-read (Err fault) text i u h = cc
range_at-read (Ok r) text i u h = range_read r text (attributes_in text) i u refl h

range_in-read : (c : Configuration) (kind : List ℕ) (rest : List (List ℕ)) (i : Item) → IsUtf8 (joined (kind ∷ rest)) → range_in c rest ≡ Ok i → IsRead i
range_in-read c kind (name ∷ first ∷ more) i u h = range_at-read (named c name) (joined (first ∷ more)) i (after_two kind name first more u) h
range_in-read c kind other i u h = cc

unrange_at-read : (n : Result ℕ ItemFault) (id : List ℕ) (i : Item) → IsUtf8 id → unrange_at n id ≡ Ok i → IsRead i
unrange_at-read (Err fault) id i u h = cc
unrange_at-read (Ok r) id i u h = same IsRead (Unrange r id) i h (is_utf8-from_IsUtf8 id u)

unrange_in-read : (c : Configuration) (kind : List ℕ) (rest : List (List ℕ)) (i : Item) → IsUtf8 (joined (kind ∷ rest)) → unrange_in c rest ≡ Ok i → IsRead i
unrange_in-read c kind (name ∷ first ∷ more) i u h = unrange_at-read (named c name) (joined (first ∷ more)) i (after_two kind name first more u) h
unrange_in-read c kind other i u h = cc

by_kind : {X : Type 0} (b1 b2 b3 b4 b5 : Bool) (r1 r2 r3 r4 r5 : Result Item ItemFault) (i : Item)
    → (r1 ≡ Ok i → X) → (r2 ≡ Ok i → X) → (r3 ≡ Ok i → X) → (r4 ≡ Ok i → X) → (r5 ≡ Ok i → X)
    → (if b1 then r1 else if b2 then r2 else if b3 then r3 else if b4 then r4 else if b5 then r5 else Err BadLine) ≡ Ok i → X
by_kind true b2 b3 b4 b5 r1 r2 r3 r4 r5 i f1 f2 f3 f4 f5 h = f1 h
by_kind false true b3 b4 b5 r1 r2 r3 r4 r5 i f1 f2 f3 f4 f5 h = f2 h
by_kind false false true b4 b5 r1 r2 r3 r4 r5 i f1 f2 f3 f4 f5 h = f3 h
by_kind false false false true b5 r1 r2 r3 r4 r5 i f1 f2 f3 f4 f5 h = f4 h
by_kind false false false false true r1 r2 r3 r4 r5 i f1 f2 f3 f4 f5 h = f5 h
by_kind false false false false false r1 r2 r3 r4 r5 i f1 f2 f3 f4 f5 h = cc

bare-read : (c : Configuration) (kind : List ℕ) (rest : List (List ℕ)) (i : Item) → IsUtf8 (joined (kind ∷ rest)) → bare_of c kind rest ≡ Ok i → IsRead i
bare-read c kind rest i u h =
    by_kind (bytes_eq kind (codes "break")) (bytes_eq kind (codes "finish")) (bytes_eq kind (codes "range")) (bytes_eq kind (codes "unrange")) (bytes_eq kind (codes "end"))
    (break_in c rest) (finish_at (alone_in c rest)) (range_in c rest) (unrange_in c rest) (end_at (alone_in c rest)) i
    (break_in-read c rest i) (finish-read (alone_in c rest) i) (range_in-read c kind rest i u) (unrange_in-read c kind rest i u) (end-read (alone_in c rest) i) h

by_bytes : {X : Type 0} (b1 b2 b3 : Bool) (r1 r2 r3 : Result Item ItemFault) (i : Item) → (r1 ≡ Ok i → X) → (r2 ≡ Ok i → X) → (r3 ≡ Ok i → X)
    → (if b1 then r1 else if b2 then r2 else if b3 then r3 else Err BadLine) ≡ Ok i → X
by_bytes true b2 b3 r1 r2 r3 i f1 f2 f3 h = f1 h
by_bytes false true b3 r1 r2 r3 i f1 f2 f3 h = f2 h
by_bytes false false true r1 r2 r3 i f1 f2 f3 h = f3 h
by_bytes false false false r1 r2 r3 i f1 f2 f3 h = cc

of_words : (c : Configuration) (ws : List (List ℕ)) (media : List ℕ) (i : Item) → IsUtf8 (joined ws) → item_of c ws media ≡ Ok i → IsRead i
of_words c [] media i u h = cc
of_words c (kind ∷ rest) media i u h =
    by_bytes (bytes_eq kind (codes "part")) (bytes_eq kind (codes "init")) (length media == 0) (part_in c rest media) (init_at (alone_in c rest) media) (bare_of c kind rest) i
    (part_in-read c rest media i) (init-read (alone_in c rest) media i) (bare-read c kind rest i u) h

-- the item of a line in UTF-8
pub item-read : (c : Configuration) (line media : List ℕ) (i : Item) → IsUtf8 line → item_in c line media ≡ Ok i → IsRead i
item-read c line media i u h = of_words c (words line) media i (subst IsUtf8 (sym (joined_words line)) u) h
