-- The date ranges of an update that skips some, applied to those of an earlier playlist, are those of the update's own moment.
use Rattle.std.proofs.Common.{◌≡◌, ℕ, ◌+◌, ◌≤◌, true, false, List, [], ◌∷◌, ◌++◌, map, filter, Some, refl, ap, sym, subst, ◌∙◌, arith}
use Rattle.std.proofs.lemmas.Bool.Decides.{nat_tests}
use Rattle.std.proofs.lemmas.List.{map-append}
use Rattle.ll_settings.specs.Settings.{Configuration, skip_limit}
use Rattle.ll_item.specs.declared.item.Item.{Item}
use Rattle.ll_item.specs.Told.{end_time, Listed, told}
use Rattle.ll_range.specs.Announced.{announced, is_recent, is_skipped, left_at, recent_at}
use Rattle.ll_range.proofs.Entries.{map-filter}
use Rattle.ll_range.proofs.OrderLemmas.{in-order, skipped-first}
use Rattle.ll_line.specs.Line.{DateRangeLine}
use Rattle.ll_page.specs.Full.{range_line}
use Rattle.ll_apply.specs.Applied.{is_one_of, stays, ranges_by}
use Rattle.ll_read.specs.Readable.{Each}
use Rattle.ll_laws.proofs.AnnouncedLemmas.{AreTold, is-free}
use Rattle.ll_laws.proofs.ApartLemmas.{ids, own-ids}
use Rattle.ll_laws.proofs.ChangeLemmas.{changed, each-one}
use Rattle.ll_laws.proofs.EachLemmas.{each-with}
use Rattle.ll_laws.proofs.FilterLemmas.{filter-twice}
use Rattle.ll_laws.proofs.MergeLemmas.{is_fresh, parted, stays_by, kept-skipped}
use Rattle.ll_laws.proofs.RemovalLemmas.{removal_ids, was_lately, lately-sooner, lately-ids}

young_fresh : (limit now time : ℕ) (x : Listed) → now ≤ time + limit → time ≤ x.added → is_skipped limit now x ≡ false
young_fresh limit now time x le h = grind (arith, nat_tests)

line_ids : (xs : List Listed) → map (λ (d : DateRangeLine). d.id) (map range_line xs) ≡ ids xs
line_ids [] = refl
line_ids (x ∷ xs) = ap (λ js. x.id ∷ js) (line_ids xs)

-- the lines of what is kept, and then those of the update
kept_lines : (removed : List (List ℕ)) (base own : List Listed)
    → ranges_by (Some removed) (map range_line base) (map range_line own) ≡ map range_line (filter (stays_by removed (ids own)) base ++ own)
kept_lines removed base own =
    ap (λ xs. xs ++ map range_line own) (sym (map-filter range_line (stays removed (map range_line own)) base))
    ∙ ap (λ js. map range_line (filter (stays_by removed js) base) ++ map range_line own) (line_ids own)
    ∙ sym (map-append range_line (filter (stays_by removed (ids own)) base) own)

-- the ids of the recent removals after these items
abbrev pub removed_after : Configuration → List Item → List (List ℕ)
removed_after c items = removal_ids (recent_at (end_time items) (announced c items))

-- the date ranges that an update after these items doesn't skip
abbrev pub left_after : Configuration → List Item → List Listed
left_after c items = left_at (end_time items) (announced c items)

removed_lately : (c : Configuration) (items : List Item) (id : List ℕ)
    → is_one_of id (removed_after c items) ≡ was_lately (skip_limit c) (end_time items) id (told items).removals
removed_lately c items id =
    ap (λ rs. is_one_of id (removal_ids rs)) (filter-twice (is_recent (skip_limit c) (end_time items)) (told items).removals)
    ∙ lately-ids (skip_limit c) (end_time items) id (told items).removals

merged : (c : Configuration) (xs ys : List Item) → AreTold c [] (xs ++ ys) → end_time (xs ++ ys) ≤ end_time xs + skip_limit c
    → filter (stays_by (removed_after c (xs ++ ys)) (ids (left_after c (xs ++ ys)))) (told xs).listed ++ left_after c (xs ++ ys) ≡ (told (xs ++ ys)).listed
merged c xs ys told_all le =
    let zs = xs ++ ys in
    let now = end_time zs in
    let limit = skip_limit c in
    let base = (told xs).listed in
    let all = (told zs).listed in
    let removed = removed_after c zs in
    let h = changed xs ys in
    let f = is-free c zs told_all in
    let left = skipped-first c zs now in
    let free : Each (λ (x : Listed). is_one_of x.id removed ≡ false) all =
    each-with (λ (x : Listed). was_lately limit now x.id (told zs).removals ≡ false) (λ (x : Listed). is_one_of x.id removed ≡ false)
    (λ x e. removed_lately c zs x.id ∙ e) all f.free in
    let same = h.listed in
    let own = own-ids (is_fresh limit now) all f.apart in
    let k = kept-skipped (is_skipped limit now) h.gone removed base h.new
    (λ id e. removed_lately c zs id
    ∙ lately-sooner limit now 0 (end_time xs) id (told zs).removals (omega (arith, le))
    (each-one (λ id. was_lately 0 (end_time xs) id (told zs).removals ≡ true) id h.gone h.removed e))
    (subst (Each (λ (x : Listed). is_one_of x.id removed ≡ false)) same free)
    (subst (λ ds. Each (λ (x : Listed). is_one_of x.id (ids (filter (is_fresh limit now) ds)) ≡ is_fresh limit now x) ds) same own)
    (each-with (λ (x : Listed). end_time xs ≤ x.added) (λ x. is_skipped limit now x ≡ false)
    (λ x low. young_fresh limit now (end_time xs) x le low) h.new h.young) in
    ap (λ own. filter (stays_by removed (ids own)) base ++ own) left
    ∙ ap (λ ds. filter (stays_by removed (ids (filter (is_fresh limit now) ds))) base ++ filter (is_fresh limit now) all) same
    ∙ ap (λ ds. ds ++ filter (is_fresh limit now) all) (k ∙ ap (filter (is_skipped limit now)) (sym same))
    ∙ parted limit now all (in-order zs).listed

-- where the parts after the earlier list last no longer than the limit
pub ranges-law : (c : Configuration) (xs ys : List Item) → AreTold c [] (xs ++ ys) → end_time (xs ++ ys) ≤ end_time xs + skip_limit c
    → ranges_by (Some (removed_after c (xs ++ ys))) (map range_line (told xs).listed) (map range_line (left_after c (xs ++ ys)))
    ≡ map range_line (told (xs ++ ys)).listed
ranges-law c xs ys told_all le =
    kept_lines (removed_after c (xs ++ ys)) (told xs).listed (left_after c (xs ++ ys)) ∙ ap (map range_line) (merged c xs ys told_all le)
