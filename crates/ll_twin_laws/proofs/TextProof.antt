-- The texts of a rendition follow from what is kept of its items, and from the last parts of all renditions.
use Rattle.std.proofs.Common.{◌≡◌, ℕ, zero, suc, ◌+◌, ◌==◌, List, [], ◌∷◌, ◌++◌, Option, None, Some, not, drop, map, flat_map, Bool, false, refl, ap, ap₂, sym, ◌∙◌, arith}
use Rattle.std.proofs.lemmas.List.Elements.{filter-append}
use Rattle.ll_item.specs.declared.item.Item.{Item}
use Rattle.ll_item.specs.declared.skip_kind.SkipKind.{SkipKind}
use Rattle.ll_line.specs.Line.{DateRange, Line, Report, RenditionReport}
use Rattle.ll_line.specs.Playlist.{Playlist}
use Rattle.ll_line.specs.Spelling.{head_lines, last_line, lines_of, open_lines, segment_lines, skip_lines, spelling}
use Rattle.ll_page.specs.Delta.{delta_by, ids_removed, ranges_left, skip_of}
use Rattle.ll_page.specs.Full.{playlist_of, range_line, report_by, reports_from, reports_of}
use Rattle.ll_pieces.specs.Segments.{printed}
use Rattle.ll_page.specs.Page.{text_in}
use Rattle.ll_pieces.specs.View.{Seen, asked, at_place, renditions, renditions_from, seen}
use Rattle.ll_rendition.specs.Kept.{kept}
use Rattle.ll_rendition.specs.declared.rendition.Rendition.{Rendition}
use Rattle.ll_settings.specs.Settings.{Configuration}
use Rattle.ll_store.specs.Media.{media}
use Rattle.ll_window.specs.Compact.{skip_count}
use Rattle.ll_window.specs.Segments.{own}
use Rattle.ll_window.specs.declared.part_position.PartPosition.{PartPosition}
use Rattle.ll_twin_laws.specs.Laws.{ReportsLaw, TwinMediaLaw, TwinTextLaw, is_report, playlist_in, unreported}

-- ---- a playlist, by its reports and by what is kept of its rendition

abbrev delta_with : SkipKind → ℕ → Configuration → List Report → Rendition → Playlist
delta_with kind zero c reports k = playlist_of c reports k
delta_with kind (suc n) c reports k = record (playlist_of c reports k) {
  ranges = map range_line (ranges_left kind k);
  skipped = skip_of (ids_removed kind k) (suc n);
  segments = printed false (drop (suc n) k.window.window);
}

abbrev pub playlist_with : Option SkipKind → Configuration → List Report → Rendition → Playlist
playlist_with None c reports k = playlist_of c reports k
playlist_with (Some kind) c reports k = delta_with kind (skip_count k.window) c reports k

delta_is : (kind : SkipKind) (n : ℕ) (v : Seen) → delta_by kind n v ≡ delta_with kind n v.settings (reports_of v) (asked v)
delta_is kind zero v = refl
delta_is kind (suc n) v = refl

pub playlist_is : (form : Option SkipKind) (v : Seen) → playlist_in form v ≡ playlist_with form v.settings (reports_of v) (asked v)
playlist_is None v = refl
playlist_is (Some kind) v = delta_is kind (skip_count (asked v).window) v

pub text_is : (form : Option SkipKind) (v : Seen) → text_in form v ≡ spelling (playlist_in form v)
text_is None v = refl
text_is (Some kind) v = refl

-- ---- what is kept of the rendition

place_same : (c : Configuration) (none : Rendition) (items others : List Item) (k place : ℕ) (names : List (List ℕ))
    → own (k + place) items ≡ own (k + place) others
    → at_place none (renditions_from c items k names) place ≡ at_place none (renditions_from c others k names) place
place_same c none items others k place [] h = refl
place_same c none items others k zero (name ∷ names) h =
    let is : k + 0 ≡ k = omega arith in
    ap (kept c) (ap (λ q. own q items) (sym is) ∙ h ∙ ap (λ q. own q others) is)
place_same c none items others k (suc place) (name ∷ names) h =
    let is : k + suc place ≡ k + 1 + place = omega arith in
    place_same c none items others (k + 1) place names (ap (λ q. own q items) (sym is) ∙ h ∙ ap (λ q. own q others) is)

pub asked_same : (c : Configuration) (items others : List Item) (r : ℕ) → own r items ≡ own r others → asked (seen c items r) ≡ asked (seen c others r)
asked_same c items others r h =
    let is : 0 + r ≡ r = omega arith in
    place_same c (kept c []) items others 0 r c.renditions (ap (λ q. own q items) is ∙ h ∙ ap (λ q. own q others) (sym is))

-- ---- the reports

abbrev last_of : Rendition → Option PartPosition
last_of k = k.window.last

reports_same : (asked rendition : ℕ) (names : List (List ℕ)) (ks js : List Rendition) → map last_of ks ≡ map last_of js
    → reports_from asked rendition names ks ≡ reports_from asked rendition names js
reports_same asked rendition names [] [] h = refl
reports_same asked rendition names [] (j ∷ js) h = absurd (cc)
reports_same asked rendition names (k ∷ ks) [] h = absurd (cc)
reports_same asked rendition [] (k ∷ ks) (j ∷ js) h = refl
reports_same asked rendition (name ∷ names) (k ∷ ks) (j ∷ js) h =
    let first : last_of k ≡ last_of j = cc in
    let more : map last_of ks ≡ map last_of js = cc in
    ap₂ (λ last later. report_by (rendition == asked) name last ++ later) first (reports_same asked (rendition + 1) names ks js more)

pub twin-text : TwinTextLaw
twin-text c items others r form same last =
    let v = seen c items r in
    let w = seen c others r in
    let alike : playlist_in form v ≡ playlist_in form w =
    playlist_is form v
    ∙ ap₂ (playlist_with form c) (reports_same r 0 c.renditions (renditions c items) (renditions c others) last) (asked_same c items others r same)
    ∙ sym (playlist_is form w) in
    text_is form v ∙ ap spelling alike ∙ sym (text_is form w)

pub twin-media : TwinMediaLaw
twin-media c items others r what same = ap (λ xs. media c xs what) same

-- ---- lines without reports

abbrev told_line : Line → Bool
told_line line = not (is_report line)

after_both : (xs ys zs : List Line) → unreported ys ≡ unreported zs → unreported (xs ++ ys) ≡ unreported (xs ++ zs)
after_both xs ys zs h =
    filter-append told_line xs ys ∙ ap (λ more. unreported xs ++ more) h ∙ sym (filter-append told_line xs zs)

no_reports : (reports : List Report) (more : List Line) → unreported (map RenditionReport reports ++ more) ≡ unreported more
no_reports [] more = refl
no_reports (report ∷ reports) more = no_reports reports more

without_reports : (p : Playlist) → unreported (lines_of p) ≡ unreported (lines_of (record p { reports = [] }))
without_reports p =
    let reports = map RenditionReport p.reports in
    let last = last_line p.hint ∷ [] in
    let tail = open_lines p.open_block ++ last in
    let segments = flat_map segment_lines p.segments in
    let ranges = map DateRange p.ranges in
    after_both (head_lines p) (ranges ++ (skip_lines p.skipped ++ (segments ++ (open_lines p.open_block ++ (reports ++ last))))) (ranges ++ (skip_lines p.skipped ++ (segments ++ tail)))
    (after_both ranges (skip_lines p.skipped ++ (segments ++ (open_lines p.open_block ++ (reports ++ last)))) (skip_lines p.skipped ++ (segments ++ tail))
    (after_both (skip_lines p.skipped) (segments ++ (open_lines p.open_block ++ (reports ++ last))) (segments ++ tail)
    (after_both segments (open_lines p.open_block ++ (reports ++ last)) tail
    (after_both (open_lines p.open_block) (reports ++ last) last (no_reports p.reports last)))))

no_delta_reports : (kind : SkipKind) (n : ℕ) (c : Configuration) (reports : List Report) (k : Rendition)
    → unreported (lines_of (delta_with kind n c reports k)) ≡ unreported (lines_of (delta_with kind n c [] k))
no_delta_reports kind zero c reports k = without_reports (playlist_of c reports k)
no_delta_reports kind (suc n) c reports k = without_reports (delta_with kind (suc n) c reports k)

no_playlist_reports : (form : Option SkipKind) (c : Configuration) (reports : List Report) (k : Rendition)
    → unreported (lines_of (playlist_with form c reports k)) ≡ unreported (lines_of (playlist_with form c [] k))
no_playlist_reports None c reports k = without_reports (playlist_of c reports k)
no_playlist_reports (Some kind) c reports k = no_delta_reports kind (skip_count k.window) c reports k

pub reports-alone : ReportsLaw
reports-alone c items others r form same =
    let v = seen c items r in
    let w = seen c others r in
    record {
      text = text_is form v;
      same = ap (λ p. unreported (lines_of p)) (playlist_is form v)
          ∙ no_playlist_reports form c (reports_of v) (asked v)
          ∙ ap (λ k. unreported (lines_of (playlist_with form c [] k))) (asked_same c items others r same)
          ∙ sym (no_playlist_reports form c (reports_of w) (asked w))
          ∙ ap (λ p. unreported (lines_of p)) (sym (playlist_is form w));
    }
