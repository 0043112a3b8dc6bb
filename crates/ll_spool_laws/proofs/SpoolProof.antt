-- One line after another is read, and what is left of one is passed over.
use Rattle.std.proofs.Common.{◌≡◌, ℕ, ◌+◌, ◌-◌, ◌<◌, ◌≤◌, List, [], ◌∷◌, ◌++◌, Bool, true, false, cond, None, Some, Ok, Err, refl, ap, sym, ◌∙◌, append-nil, append_assoc, arith, length, length-append, map, nat_lt, take}
use Rattle.std.proofs.lemmas.List.Elements.{All-head, All-tail, All-take}
use Rattle.std.proofs.lemmas.Slice.Eq.{bytes_eq-Decides}
use Rattle.std.specs.List.{All}
use Rattle.ll_entry.proofs.SettingsBack.{settings_back}
use Rattle.ll_entry.specs.Leads.{with_end}
use Rattle.ll_entry.specs.SettingsLine.{settings_line}
use Rattle.ll_format.specs.Words.{is_one_line}
use Rattle.ll_item.specs.ItemLines.{published_line}
use Rattle.ll_item.specs.Items.{blank}
use Rattle.ll_item.specs.declared.item.Item.{Item}
use Rattle.ll_settings.specs.Settings.{Configuration, limit_broken}
use Rattle.ll_spool.specs.Spooled.{item_then, items_from, items_of, lines_in, numbered, spool_in, spool_text, spooled_lines}
use Rattle.ll_spool_laws.proofs.CutLemmas.{cut-lines, take-short, less-by, least-by}
use Rattle.ll_spool_laws.proofs.LineLemmas.{item-line, item-read, lines-first, lines-none}
use Rattle.ll_spool_laws.proofs.TextLemmas.{take-past}
use Rattle.ll_spool_laws.specs.Laws.{AreWhole, CutLaw, IsSpooled, SpoolLaw}

module _ (c : Configuration) (limits : limit_broken c ≡ None) where
  items-read : (n : ℕ) (items : List Item) (rest : List ℕ) → All (IsSpooled c) items → is_one_line rest ≡ true
      → items_from c n (lines_in (spooled_lines c n items ++ rest)) ≡ Ok (map blank items)
  items-read n [] rest h one = ap (items_from c n) (lines-none rest one)
  items-read n (i ∷ items) rest h one =
      let line = numbered n ++ published_line c i in
      let more = spooled_lines c (n + 1) items in
      let first = All-head (IsSpooled c) i items h in
      ap (λ t. items_from c n (lines_in t)) (append_assoc (with_end line) more rest)
      ∙ ap (items_from c n) (lines-first line (more ++ rest) (item-line c limits n i first))
      ∙ ap (λ o. item_then n o (items_from c (n + 1) (lines_in (more ++ rest)))) (item-read c limits n i first)
      ∙ ap (item_then n (Some (blank i))) (items-read (n + 1) items rest (All-tail (IsSpooled c) i items h) one)

  -- a spool's text, and what is left of a line
  text-read : (items : List Item) (rest : List ℕ) → All (IsSpooled c) items → is_one_line rest ≡ true → spool_in c (spool_text c items ++ rest) ≡ Ok (map blank items)
  text-read items rest h one =
      let first = settings_line c in
      let more = spooled_lines c 1 items in
      ap (spool_in c) (append_assoc (with_end first) more rest)
      ∙ ap (items_of c) (lines-first first (more ++ rest) (settings_back c limits).1)
      ∙ ap (λ b. cond b (items_from c 1 (lines_in (more ++ rest))) (Err 1)) ((bytes_eq-Decides first first).1 refl)
      ∙ items-read 1 items rest h one

  -- the settings line isn't whole
  cut-first : (items : List Item) (count : ℕ) → count < length (with_end (settings_line c))
      → (n : ℕ) × AreWhole c items count n × (spool_in c (take count (spool_text c items)) ≡ Ok (map blank (take n items)))
  cut-first items count less =
      let t = take-short count (settings_line c) (spooled_lines c 1 items) less (settings_back c limits).1 in (
        0,
        record {
          some = omega arith;
          all = λ k le among.
              let long = length-append (with_end (settings_line c)) (spooled_lines c 1 (take k items)) in absurd (omega (arith, among, long, less));
          only = λ some. absurd (omega (arith, some));
        },
        ap (spool_in c) t.0 ∙ ap (items_of c) (lines-none (take count (settings_line c)) t.1),
      )

  cut-later : (items : List Item) (count : ℕ) → length (with_end (settings_line c)) ≤ count → All (IsSpooled c) items
      → (n : ℕ) × AreWhole c items count n × (spool_in c (take count (spool_text c items)) ≡ Ok (map blank (take n items)))
  cut-later items count fits h =
      let first = with_end (settings_line c) in
      let r = cut-lines c limits 1 items (count - length first) h in
      let long : (k : ℕ) → length (spool_text c (take k items)) ≡ length first + length (spooled_lines c 1 (take k items)) = λ k. length-append first (spooled_lines c 1 (take k items)) in (
        r.kept,
        record {
          some = r.some;
          all = λ k le among. r.all k le (omega (arith, among, long k, fits));
          only = λ some. omega (arith, r.only, long r.kept, fits);
        },
        ap (spool_in c) (
            take-past count first (spooled_lines c 1 items) fits ∙ ap (λ t. first ++ t) r.text
            ∙ sym (append_assoc first (spooled_lines c 1 (take r.kept items)) r.rest)
            ) ∙ text-read (take r.kept items) r.rest (All-take (IsSpooled c) r.kept items h) r.unended,
      )

  cut-by : (items : List Item) (count : ℕ) (less : Bool) → nat_lt count (length (with_end (settings_line c))) ≡ less → All (IsSpooled c) items
      → (n : ℕ) × AreWhole c items count n × (spool_in c (take count (spool_text c items)) ≡ Ok (map blank (take n items)))
  cut-by items count true e h = cut-first items count (less-by count (length (with_end (settings_line c))) true e refl)
  cut-by items count false e h = cut-later items count (least-by count (length (with_end (settings_line c))) false e refl) h

pub spool : SpoolLaw
spool c items limits h = ap (spool_in c) (sym (append-nil (spool_text c items))) ∙ text-read c limits items [] h refl

pub cut : CutLaw
cut c items count limits h = cut-by c limits items count (nat_lt count (length (with_end (settings_line c)))) refl h
