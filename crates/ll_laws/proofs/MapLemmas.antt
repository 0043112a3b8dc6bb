-- The map that is in force at a segment of a playlist is the segment's own, which its number names.
use Rattle.std.proofs.Common.{◌≡◌, ℕ, suc, ◌+◌, List, [], ◌∷◌, ◌++◌, Bool, true, false, nat_le, nat_lt, cond, map, take, drop, Some, None, refl, ap, ◌∙◌, arith}
use Rattle.std.proofs.lemmas.List.{take-append-drop}
use Rattle.ll_item.specs.declared.part.Part.{Part}
use Rattle.ll_window.specs.Rows.{begun, Row, rows, one_if, is_broken, lasting}
use Rattle.ll_window.specs.Segments.{duration}
use Rattle.ll_window.specs.Window.{window, listed, shown_by}
use Rattle.ll_line.specs.Playlist.{Finished}
use Rattle.ll_pieces.specs.Segments.{finished_of, printed}
use Rattle.ll_line.specs.Uris.{map_uri}
use Rattle.ll_apply.specs.Applied.{in_force, mapped, unless_broken, without_parts, with_map}

-- each of these has the number of the map of the one before it, or of one more where it is broken
abbrev pub AreCounted : ℕ → List Row → Type 0
AreCounted maps [] = Unit
AreCounted maps (r ∷ rs) = (r.segment.map_number ≡ maps + one_if r.segment.broken) × AreCounted r.segment.map_number rs

-- the segments with their maps
abbrev pub led : List Row → List Finished
led rs = map (finished_of true) rs

-- which rows are so counted

pub counted-rows : (number maps time : ℕ) (gs : List (List Part)) → AreCounted maps (rows number maps time gs)
counted-rows number maps time [] = tt
counted-rows number maps time (g ∷ gs) = (refl, counted-rows (number + 1) (maps + one_if (is_broken g)) (begun time g + duration g) gs)

counted_by : (b : Bool) (least maps : ℕ) (r : Row) (rs : List Row) → AreCounted maps (r ∷ rs) → (m : ℕ) × AreCounted m (window least rs)
    → (m : ℕ) × AreCounted m (cond b (window least rs) (r ∷ rs))
counted_by true least maps r rs h k = k
counted_by false least maps r rs h k = (maps, h)

pub counted-window : (least maps : ℕ) (rs : List Row) → AreCounted maps rs → (m : ℕ) × AreCounted m (window least rs)
counted-window least maps [] h = (maps, tt)
counted-window least maps (r ∷ rs) h =
    counted_by (nat_le least (lasting rs)) least maps r rs h (counted-window least r.segment.map_number rs h.1)

counted_shown : (b : Bool) (maps : ℕ) (r : Row) (ss : List Row) → r.segment.map_number ≡ maps + one_if r.segment.broken → AreCounted r.segment.map_number ss
    → AreCounted maps (shown_by b r ∷ ss)
counted_shown true maps r ss e h = (e, h)
counted_shown false maps r ss e h = (e, h)

pub counted-listed : (near tail maps : ℕ) (rs : List Row) → AreCounted maps rs → AreCounted maps (listed near tail rs)
counted-listed near tail maps [] h = tt
counted-listed near tail maps (r ∷ rs) h =
    counted_shown (nat_lt (lasting rs + tail) near) maps r (listed near tail rs) h.0 (counted-listed near tail r.segment.map_number rs h.1)

-- maps in force

force_by : (b : Bool) (maps n k t d : ℕ) (ps : List Part) (xs ys : List Finished) → k ≡ maps + one_if b → in_force (Some (map_uri k)) xs ≡ ys
    → in_force (Some (map_uri maps)) (finished_of false (record { segment = record { number = n; broken = b; map_number = k; time = t; duration = d }; parts = ps }) ∷ xs)
    ≡ finished_of true (record { segment = record { number = n; broken = b; map_number = k; time = t; duration = d }; parts = ps }) ∷ ys
force_by true maps n k t d ps xs ys e h =
    ap (λ zs. finished_of true (record { segment = record { number = n; broken = true; map_number = k; time = t; duration = d }; parts = ps }) ∷ zs) h
force_by false maps n k t d ps xs ys e h =
    let r : Row = record { segment = record { number = n; broken = false; map_number = k; time = t; duration = d }; parts = ps } in
    let same : maps ≡ k = omega arith in
    ap (λ m. with_map (Some (map_uri m)) (finished_of false r) ∷ in_force (Some (map_uri m)) xs) same ∙ ap (λ zs. finished_of true r ∷ zs) h

force_more : (maps : ℕ) (rs : List Row) → AreCounted maps rs → in_force (Some (map_uri maps)) (printed false rs) ≡ led rs
force_more maps [] h = refl
force_more maps (r ∷ rs) h =
    force_by r.segment.broken maps r.segment.number r.segment.map_number r.segment.time r.segment.duration r.parts (printed false rs) (led rs) h.0
    (force_more r.segment.map_number rs h.1)

force_on : (maps : ℕ) (rs ss : List Row) → AreCounted maps (rs ++ ss) → in_force (Some (map_uri maps)) (led rs ++ printed false ss) ≡ led (rs ++ ss)
force_on maps [] ss h = force_more maps ss h
force_on maps (r ∷ rs) ss h = ap (λ xs. finished_of true r ∷ xs) (force_on r.segment.map_number rs ss h.1)

-- the map in force at each segment of a full playlist is its own
pub in_force-printed : (maps : ℕ) (rs : List Row) → AreCounted maps rs → in_force None (printed true rs) ≡ led rs
in_force-printed maps [] h = refl
in_force-printed maps (r ∷ rs) h = ap (λ xs. finished_of true r ∷ xs) (force_more r.segment.map_number rs h.1)

-- and so it is where the first segments have their maps
pub in_force-after : (maps k : ℕ) (rs : List Row) → AreCounted maps rs → in_force None (led (take (suc k) rs) ++ printed false (drop (suc k) rs)) ≡ led rs
in_force-after maps k [] h = refl
in_force-after maps k (r ∷ rs) h =
    let whole = take-append-drop k rs in
    ap (λ xs. finished_of true r ∷ xs) (force_on r.segment.map_number (take k rs) (drop k rs) (rw whole h.1) ∙ ap led whole)

unled_by : (b : Bool) (n k t d : ℕ) (ps : List Part)
    → unless_broken b (finished_of true (record { segment = record { number = n; broken = b; map_number = k; time = t; duration = d }; parts = ps }))
    ≡ finished_of false (record { segment = record { number = n; broken = b; map_number = k; time = t; duration = d }; parts = ps })
unled_by true n k t d ps = refl
unled_by false n k t d ps = refl

unled : (rs : List Row) → map (λ t. unless_broken t.block.broken t) (led rs) ≡ printed false rs
unled [] = refl
unled (r ∷ rs) =
    ap (λ x. x ∷ map (λ t. unless_broken t.block.broken t) (led rs))
    (unled_by r.segment.broken r.segment.number r.segment.map_number r.segment.time r.segment.duration r.parts)
    ∙ ap (λ xs. finished_of false r ∷ xs) (unled rs)

-- MAP lines by the rule are those of the full playlist
pub mapped-led : (rs : List Row) → mapped (led rs) ≡ printed true rs
mapped-led [] = refl
mapped-led (r ∷ rs) = ap (λ xs. finished_of true r ∷ xs) (unled rs)

pub without_parts-led : (rs : List Row) → map without_parts (led rs) ≡ led (map (shown_by false) rs)
without_parts-led [] = refl
without_parts-led (r ∷ rs) = ap (λ xs. finished_of true (shown_by false r) ∷ xs) (without_parts-led rs)
