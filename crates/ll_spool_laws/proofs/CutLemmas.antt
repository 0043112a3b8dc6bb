-- The first bytes of the lines of items: the lines of the first items, and what is left of one.
use Rattle.std.proofs.Common.{◌≡◌, ℕ, ◌+◌, ◌-◌, ◌<◌, ◌≤◌, zero, suc, List, [], ◌∷◌, ◌++◌, Bool, true, false, None, refl, ap, sym, ◌∙◌, append_assoc, arith, length, length-append, nat_lt, take}
use Rattle.std.proofs.lemmas.Bool.Decides.{nat_tests}
use Rattle.std.proofs.lemmas.List.{take-append-le, take_all}
use Rattle.std.proofs.lemmas.List.Elements.{All-head, All-tail}
use Rattle.std.specs.List.{All}
use Rattle.ll_entry.specs.Leads.{with_end}
use Rattle.ll_format.specs.Words.{is_one_line}
use Rattle.ll_item.specs.ItemLines.{published_line}
use Rattle.ll_item.specs.declared.item.Item.{Item}
use Rattle.ll_settings.specs.Settings.{Configuration, limit_broken}
use Rattle.ll_spool.specs.Spooled.{numbered, spooled_line, spooled_lines}
use Rattle.ll_spool_laws.proofs.LineLemmas.{item-line}
use Rattle.ll_spool_laws.proofs.TextLemmas.{take-line, take-past}
use Rattle.ll_spool_laws.specs.Laws.{IsSpooled}

-- the lines of the first items are whole, and the others aren't
pub record IsCut (c : Configuration) (n : ℕ) (items : List Item) (count : ℕ) : Type 0 where
  pub kept : ℕ
  pub rest : List ℕ
  pub unended : is_one_line rest ≡ true
  pub text : take count (spooled_lines c n items) ≡ spooled_lines c n (take kept items) ++ rest
  pub some : kept ≤ length items
  pub all : (k : ℕ) → k ≤ length items → length (spooled_lines c n (take k items)) ≤ count → k ≤ kept
  pub only : length (spooled_lines c n (take kept items)) ≤ count

-- ---- a line that isn't whole

pub take-short : (count : ℕ) (line rest : List ℕ) → count < length (with_end line) → is_one_line line ≡ true
    → (take count (with_end line ++ rest) ≡ take count line) × (is_one_line (take count line) ≡ true)
take-short count line rest less h =
    let long = length-append line (10 ∷ []) in
    let le : count ≤ length (with_end line) = omega (arith, less) in
    let within : count ≤ length line = omega (arith, less, long) in
    (take-append-le count (with_end line) rest le ∙ take-append-le count line (10 ∷ []) within, take-line count line h)

none-short : (c : Configuration) (n : ℕ) (i : Item) (items : List Item) (count : ℕ) → count < length (spooled_line c n i)
    → (k : ℕ) → k ≤ length (i ∷ items) → length (spooled_lines c n (take k (i ∷ items))) ≤ count → k ≤ 0
none-short c n i items count less zero le among = omega arith
none-short c n i items count less (suc k) le among =
    let long = length-append (spooled_line c n i) (spooled_lines c (n + 1) (take k items)) in absurd (omega (arith, less, among, long))

-- ---- a line that is whole

more-long : (c : Configuration) (n : ℕ) (i : Item) (items : List Item) (count kept : ℕ) → length (spooled_line c n i) ≤ count
    → ((k : ℕ) → k ≤ length items → length (spooled_lines c (n + 1) (take k items)) ≤ count - length (spooled_line c n i) → k ≤ kept)
    → (k : ℕ) → k ≤ length (i ∷ items) → length (spooled_lines c n (take k (i ∷ items))) ≤ count → k ≤ suc kept
more-long c n i items count kept fits all zero le among = omega arith
more-long c n i items count kept fits all (suc k) le among =
    let long = length-append (spooled_line c n i) (spooled_lines c (n + 1) (take k items)) in
    let less : k ≤ kept = all k (omega (arith, le)) (omega (arith, among, long, fits)) in omega (arith, less)

pub less-by : (a b : ℕ) (x : Bool) → nat_lt a b ≡ x → x ≡ true → a < b
less-by a b x e h = grind (arith, nat_tests, e, h)

pub least-by : (a b : ℕ) (x : Bool) → nat_lt a b ≡ x → x ≡ false → b ≤ a
least-by a b x e h = grind (arith, nat_tests, e, h)

module _ (c : Configuration) (limits : limit_broken c ≡ None) where
  cut-short : (n : ℕ) (i : Item) (items : List Item) (count : ℕ) → count < length (spooled_line c n i) → IsSpooled c i → IsCut c n (i ∷ items) count
  cut-short n i items count less h =
      let line = numbered n ++ published_line c i in
      let t = take-short count line (spooled_lines c (n + 1) items) less (item-line c limits n i h) in
      record {
        kept = 0;
        rest = take count line;
        unended = t.1;
        text = t.0;
        some = omega arith;
        all = none-short c n i items count less;
        only = omega arith;
      }

  cut-long : (n : ℕ) (i : Item) (items : List Item) (count : ℕ) → length (spooled_line c n i) ≤ count
      → IsCut c (n + 1) items (count - length (spooled_line c n i)) → IsCut c n (i ∷ items) count
  cut-long n i items count fits r =
      let line = spooled_line c n i in
      let long = length-append line (spooled_lines c (n + 1) (take r.kept items)) in
      record {
        kept = suc r.kept;
        rest = r.rest;
        unended = r.unended;
        text = take-past count line (spooled_lines c (n + 1) items) fits ∙ ap (λ t. line ++ t) r.text
            ∙ sym (append_assoc line (spooled_lines c (n + 1) (take r.kept items)) r.rest);
        some = omega (arith, r.some);
        all = more-long c n i items count r.kept fits r.all;
        only = omega (arith, long, r.only, fits);
      }

  cut-by : (n : ℕ) (i : Item) (items : List Item) (count : ℕ) (less : Bool) → nat_lt count (length (spooled_line c n i)) ≡ less → IsSpooled c i
      → IsCut c (n + 1) items (count - length (spooled_line c n i)) → IsCut c n (i ∷ items) count
  cut-by n i items count true e h r = cut-short n i items count (less-by count (length (spooled_line c n i)) true e refl) h
  cut-by n i items count false e h r = cut-long n i items count (least-by count (length (spooled_line c n i)) false e refl) r

  pub cut-lines : (n : ℕ) (items : List Item) (count : ℕ) → All (IsSpooled c) items → IsCut c n items count
  cut-lines n [] count h = record {
    kept = 0;
    rest = [];
    unended = refl;
    text = take_all count [] (omega arith);
    some = omega arith;
    all = λ k le among. le;
    only = omega arith;
  }
  cut-lines n (i ∷ items) count h =
      cut-by n i items count (nat_lt count (length (spooled_line c n i))) refl (All-head (IsSpooled c) i items h)
      (cut-lines (n + 1) items (count - length (spooled_line c n i)) (All-tail (IsSpooled c) i items h))
