-- The line of an item in a spool is one line, and is read as the item.
use Rattle.std.proofs.Common.{◌≡◌, ℕ, List, [], ◌∷◌, ◌++◌, true, Some, None, refl, ap, ◌∙◌, append_assoc, codes, decimal}
use Rattle.std.proofs.lemmas.Str.{IsUtf8-append}
use Rattle.ll_entry.proofs.Cuts.{uncut}
use Rattle.ll_entry.proofs.EntryLines.{read_again}
use Rattle.ll_entry.proofs.LeadLemmas.{cut-line}
use Rattle.ll_entry.specs.Leads.{with_end}
use Rattle.ll_entry.specs.declared.entry.Recorded.TheVariants.{Publish}
use Rattle.ll_format.proofs.FormatLaws.{inside_both, key_again}
use Rattle.ll_format.proofs.WordLaws.{lacks_from}
use Rattle.ll_format.specs.Words.{is_line_byte, is_one_line}
use Rattle.ll_item.specs.ItemLines.{published_line}
use Rattle.ll_item.specs.Items.{blank}
use Rattle.ll_item.specs.declared.item.Item.{Item}
use Rattle.ll_settings.specs.Settings.{Configuration, limit_broken}
use Rattle.ll_spool.proofs.LineLemmas.{lines-cons, spooled-some}
use Rattle.ll_spool.specs.Spooled.{lines_in, numbered, published_by, spooled_in, whole}
use Rattle.ll_spool_laws.proofs.TextLemmas.{digits-line}
use Rattle.ll_spool_laws.proofs.Utf8Lemmas.{line-utf8, number-utf8}
use Rattle.ll_spool_laws.specs.Laws.{IsSpooled}

-- ---- lines of a text

pub lines-first : (line rest : List ℕ) → is_one_line line ≡ true → lines_in (with_end line ++ rest) ≡ line ∷ lines_in rest
lines-first line rest h =
    ap lines_in (append_assoc line (10 ∷ []) rest) ∙ ap whole (cut-line line rest h) ∙ lines-cons line rest

pub lines-none : (text : List ℕ) → is_one_line text ≡ true → lines_in text ≡ []
lines-none text h = ap whole (uncut 10 text (lacks_from is_line_byte 10 text refl h))

-- ---- the number of an item

number-line : (n : ℕ) → is_one_line (numbered n) ≡ true
number-line n = inside_both (decimal n) (codes " ") (digits-line n) refl

-- ---- the line of an item, without its end

module _ (c : Configuration) (limits : limit_broken c ≡ None) (n : ℕ) (i : Item) (h : IsSpooled c i) where
  pub item-line : is_one_line (numbered n ++ published_line c i) ≡ true
  item-line = inside_both (numbered n) (published_line c i) (number-line n) (read_again c (Publish i) limits h.0).1

  pub item-read : spooled_in c n (numbered n ++ published_line c i) ≡ Some (blank i)
  item-read =
      spooled-some c n (numbered n ++ published_line c i) (numbered n ++ published_line c i) (numbered n) (published_line c i) (blank i) refl
      (IsUtf8-append (numbered n) (published_line c i) (number-utf8 n) (line-utf8 c limits i h.0 h.1)) refl
      (key_again (numbered n) (published_line c i)) (ap published_by (read_again c (Publish i) limits h.0).0)
