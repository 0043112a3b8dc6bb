-- A delta update, applied to a full playlist: its numbers are those of the window's rows, and no skipped one is missing.
use Rattle.std.proofs.Common.{◌≡◌, ℕ, zero, suc, ◌+◌, ◌-◌, ◌*◌, ◌≤◌, ◌<◌, List, [], ◌∷◌, ◌++◌, Bool, true, false, nat_lt, drop, length, refl, ap, ◌∙◌, arith}
use Rattle.std.proofs.lemmas.List.{length-drop}
use Rattle.ll_settings.specs.Settings.{Configuration}
use Rattle.ll_item.specs.declared.item.Item.{Item}
use Rattle.ll_item.specs.declared.part.Part.{Part}
use Rattle.ll_window.specs.Compact.{Compact, compact, all_rows}
use Rattle.ll_window.specs.Rows.{begun, Row, row, rows, one_if, is_broken, lasting}
use Rattle.ll_window.specs.Segments.{own, segments, open_segment, duration}
use Rattle.ll_window.specs.Window.{window_limit, near_limit, window, listed, shown_by}
use Rattle.ll_window.proofs.WindowLemmas.{length_listed}
use Rattle.ll_rendition.specs.declared.rendition.Rendition.{Rendition}
use Rattle.ll_pieces.specs.Segments.{printed}
use Rattle.ll_page.specs.Full.{sequence_of}
use Rattle.ll_pieces.specs.View.{renditions_from, at_place}
use Rattle.ll_rendition.specs.Kept.{kept}
use Rattle.ll_laws.proofs.RowLemmas.{left, left-le, window-drop}

pub length-rows : (n m t : ℕ) (gs : List (List Part)) → length (rows n m t gs) ≡ length gs
length-rows n m t [] = refl
length-rows n m t (g ∷ gs) = ap suc (length-rows (n + 1) (m + one_if (is_broken g)) (begun t g + duration g) gs)

pub length-printed : (leads : Bool) (rs : List Row) → length (printed leads rs) ≡ length rs
length-printed leads [] = refl
length-printed leads (r ∷ rs) = ap suc (length-printed false rs)

-- rows of more segments are the earlier rows and more
pub record GoesOn (n m t : ℕ) (gs hs : List (List Part)) : Type 0 where
  pub number : ℕ
  pub maps : ℕ
  pub time : ℕ
  pub whole : rows n m t (gs ++ hs) ≡ rows n m t gs ++ rows number maps time hs

pub rows-append : (n m t : ℕ) (gs hs : List (List Part)) → GoesOn n m t gs hs
rows-append n m t [] hs = record { number = n; maps = m; time = t; whole = refl }
rows-append n m t (g ∷ gs) hs =
    let more = rows-append (n + 1) (m + one_if (is_broken g)) (begun t g + duration g) gs hs in
    record { number = more.number; maps = more.maps; time = more.time; whole = ap (λ rs. row n m (begun t g) g ∷ rs) more.whole }

number_shown : (b : Bool) (n m t : ℕ) (g : List Part) → (shown_by b (row n m t g)).segment.number ≡ n + 0
number_shown true n m t g = omega arith
number_shown false n m t g = omega arith

-- the number of the first of these rows, or of the next
number_first : (k : Compact) (near tail n m t w : ℕ) (gs : List (List Part)) → w ≤ length gs → k.next_number ≡ n + length gs
    → sequence_of k (listed near tail (drop w (rows n m t gs))) ≡ n + w
number_first k near tail n m t zero [] le e = e
number_first k near tail n m t zero (g ∷ gs) le e =
    number_shown (nat_lt (lasting (rows (n + 1) (m + one_if (is_broken g)) (begun t g + duration g) gs) + tail) near) n m (begun t g) g
number_first k near tail n m t (suc w) [] le e = absurd (omega arith)
number_first k near tail n m t (suc w) (g ∷ gs) le e =
    let rest = number_first k near tail (n + 1) (m + one_if (is_broken g)) (begun t g + duration g) w gs (omega arith) (omega (arith, e)) in
    omega (arith, rest)

-- how many segments of a rendition have left the window
abbrev pub left_of : Configuration → List Item → ℕ
left_of c items = left (window_limit c) (all_rows c items)

pub sequence-is : (c : Configuration) (items : List Item) → sequence_of (compact c items) (compact c items).window ≡ c.first + left_of c items
sequence-is c items =
    let l = left-le (window_limit c) (all_rows c items) in
    let n = length-rows c.first 0 (c.start * 1000) (segments items) in
    ap (λ rs. sequence_of (compact c items) (listed (near_limit c) (duration (open_segment items)) rs)) (window-drop (window_limit c) (all_rows c items))
    ∙ number_first (compact c items) (near_limit c) (duration (open_segment items)) c.first 0 (c.start * 1000) (left_of c items) (segments items) (omega (arith, l, n)) refl

pub length-is : (c : Configuration) (items : List Item) → length (printed true (compact c items).window) ≡ length (all_rows c items) - left_of c items
length-is c items =
    length-printed true (compact c items).window
    ∙ length_listed (near_limit c) (duration (open_segment items)) (window (window_limit c) (all_rows c items))
    ∙ ap length (window-drop (window_limit c) (all_rows c items))
    ∙ length-drop (left_of c items) (all_rows c items)

-- what is kept of the rendition that is asked for

at_place_is : (c : Configuration) (items : List Item) (none : Rendition) (k r : ℕ) (names : List (List ℕ)) → r < length names
    → at_place none (renditions_from c items k names) r ≡ kept c (own (k + r) items)
at_place_is c items none k r [] lt = absurd (omega arith)
at_place_is c items none k zero (name ∷ names) lt = ap (λ n. kept c (own n items)) (same k)
  where
    same : (k : ℕ) → k ≡ k + 0
    same k = omega arith
at_place_is c items none k (suc r) (name ∷ names) lt =
    at_place_is c items none (k + 1) r names (omega arith) ∙ ap (λ n. kept c (own n items)) (same k r)
  where
    same : (k r : ℕ) → k + 1 + r ≡ k + suc r
    same k r = omega arith

pub asked-is : (c : Configuration) (items : List Item) (r : ℕ) → r < length c.renditions
    → at_place (kept c []) (renditions_from c items 0 c.renditions) r ≡ kept c (own r items)
asked-is c items r lt = at_place_is c items (kept c []) 0 r c.renditions lt ∙ ap (λ n. kept c (own n items)) (same r)
  where
    same : (r : ℕ) → 0 + r ≡ r
    same r = omega arith
