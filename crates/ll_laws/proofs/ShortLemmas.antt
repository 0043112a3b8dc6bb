-- No segment, and no part of one, lasts longer than all parts together; and there are no more breaks than segments.
use Rattle.std.proofs.Common.{ℕ, ◌+◌, ◌*◌, ◌≤◌, List, [], ◌∷◌, Bool, true, false, cond, nat_le, nat_lt, length, ap, arith}
use Rattle.std.proofs.lemmas.List.{length-append}
use Rattle.ll_settings.specs.Settings.{Configuration}
use Rattle.ll_item.specs.declared.item.Item.{Item}
use Rattle.ll_item.specs.declared.part.Part.{Part}
use Rattle.ll_window.specs.Compact.{compact, all_rows}
use Rattle.ll_window.specs.Rows.{begun, Row, rows, one_if, is_broken, lasting, broken_in}
use Rattle.ll_item.specs.Told.{end_time}
use Rattle.ll_window.specs.Segments.{Split, split, closed, finished_by, unfinished_by, parts, segments, open_segment, duration, ended}
use Rattle.ll_window.specs.Window.{window_limit, near_limit, gone, window, listed, shown_by}
use Rattle.ll_window.proofs.SuffixLemmas.{suffix}
use Rattle.ll_window.proofs.WindowLemmas.{broken-cons, length_listed}
use Rattle.ll_read.specs.Readable.{Each}
use Rattle.ll_laws.proofs.ItemLemmas.{lasts}
use Rattle.ll_laws.proofs.PlaylistLemmas.{length-rows, left_of}
use Rattle.ll_laws.proofs.RowLemmas.{left-le, one_at_most}
use Rattle.ll_laws.proofs.SplitLemmas.{total, total-cons, total-append, total-closed, whole-split}

-- it lasts no longer than this, and neither do its listed parts
abbrev pub IsShort : ℕ → Row → Type 0
IsShort most r = (r.segment.duration ≤ most) × (duration r.parts ≤ most)

rows-short : (most n m t : ℕ) (gs : List (List Part)) → total gs ≤ most → Each (IsShort most) (rows n m t gs)
rows-short most n m t [] le = tt
rows-short most n m t (g ∷ gs) le =
    let e = total-cons g gs in
    ((omega (arith, e), omega (arith, e)), rows-short most (n + 1) (m + one_if (is_broken g)) (begun t g + duration g) gs (omega (arith, e)))

finished_short : (b : Bool) (s : Split) (most : ℕ) → total s.finished + duration s.unfinished ≤ most → total (finished_by b s) ≤ most
finished_short true s most le = let a = total-append s.finished (closed s.unfinished) in let b = total-closed s.unfinished in omega (arith, a, b)
finished_short false s most le = omega arith

unfinished_short : (b : Bool) (s : Split) (most : ℕ) → total s.finished + duration s.unfinished ≤ most → duration (unfinished_by b s) ≤ most
unfinished_short true s most le = omega arith
unfinished_short false s most le = omega arith

window_by : (most least : ℕ) (r : Row) (rs : List Row) (b : Bool) → Each (IsShort most) (r ∷ rs) → Each (IsShort most) (window least rs)
    → Each (IsShort most) (cond b (window least rs) (r ∷ rs))
window_by most least r rs true h k = k
window_by most least r rs false h k = h

window-short : (most least : ℕ) (rs : List Row) → Each (IsShort most) rs → Each (IsShort most) (window least rs)
window-short most least [] h = tt
window-short most least (r ∷ rs) h = window_by most least r rs (nat_le least (lasting rs)) h (window-short most least rs h.1)

shown_short : (most : ℕ) (b : Bool) (r : Row) → IsShort most r → IsShort most (shown_by b r)
shown_short most true r h = h
shown_short most false r h = (h.0, omega arith)

listed-short : (most near tail : ℕ) (rs : List Row) → Each (IsShort most) rs → Each (IsShort most) (listed near tail rs)
listed-short most near tail [] h = tt
listed-short most near tail (r ∷ rs) h = (shown_short most (nat_lt (lasting rs + tail) near) r h.0, listed-short most near tail rs h.1)

pub short-window : (c : Configuration) (items : List Item) → Each (IsShort (end_time items)) (compact c items).window
short-window c items =
    let e = whole-split (parts items) in
    let l = lasts items in
    let low = finished_short (ended items) (split (parts items)) (end_time items) (omega (arith, e, l)) in
    listed-short (end_time items) (near_limit c) (duration (open_segment items)) (window (window_limit c) (all_rows c items))
    (window-short (end_time items) (window_limit c) (all_rows c items) (rows-short (end_time items) c.first 0 (c.start * 1000) (segments items) low))

pub short-open : (items : List Item) → duration (open_segment items) ≤ end_time items
short-open items =
    let e = whole-split (parts items) in let l = lasts items in unfinished_short (ended items) (split (parts items)) (end_time items) (omega (arith, e, l))

-- breaks

few_broken : (rs : List Row) → broken_in rs ≤ length rs
few_broken [] = omega arith
few_broken (r ∷ rs) =
    let a = broken-cons r rs in let b = one_at_most r.segment.broken in let d = few_broken rs in omega (arith, a, b, d)

-- segments that have left the window are no more than all
pub few-left : (c : Configuration) (items : List Item) → left_of c items ≤ length (segments items)
few-left c items =
    let l = left-le (window_limit c) (all_rows c items) in
    let n = length-rows c.first 0 (c.start * 1000) (segments items) in
    omega (arith, l, n)

-- nor are breaks before the window
pub few-breaks : (c : Configuration) (items : List Item) → broken_in (gone (window_limit c) (all_rows c items)) ≤ length (segments items)
few-breaks c items =
    let b = few_broken (gone (window_limit c) (all_rows c items)) in let l = few-left c items in omega (arith, b, l)

-- nor does the window have more segments
pub few-window : (c : Configuration) (items : List Item) → length (compact c items).window ≤ length (segments items)
few-window c items =
    let w = length_listed (near_limit c) (duration (open_segment items)) (window (window_limit c) (all_rows c items)) in
    let l = length-append (gone (window_limit c) (all_rows c items)) (window (window_limit c) (all_rows c items)) in
    let e = ap length (suffix (window_limit c) (all_rows c items)) in
    let n = length-rows c.first 0 (c.start * 1000) (segments items) in
    omega (arith, w, l, e, n)
