-- Where the first line of a text ends, and which item a line spells.
use Rattle.std.proofs.Common.{◌≡◌, ◌++◌, append_assoc, ℕ, ◌+◌, ◌-◌, ◌<◌, ◌==◌, List, [], ◌∷◌, Bool, true, false, cond, Option, Some, None, Result, Ok, Err, IfOk, IsErrOf, OnErr, refl, ap, subst, sym, ◌∙◌, length, get_or, take, drop, option_and_then, arith}
use Rattle.std.proofs.lemmas.Bool.Decides.{nat_tests}
use Rattle.std.proofs.lemmas.List.{drop_more, take-append-drop, take_rest}
use Rattle.std.proofs.lemmas.List.Elements.{All-from_get_or}
use Rattle.std.proofs.lemmas.List.Splits.{slice_split_first, slice_split_none}
use Rattle.std.proofs.lemmas.List.Sums.{position_or_len_is}
use Rattle.std.proofs.KnownBytes.{Appends-nil}
use Rattle.std.specs.Io.KnownBytes.{Appends}
use Rattle.std.specs.List.{position_or_len}
use Rattle.ll_device.specs.Written.{AppendsPrefix}
use Rattle.std.proofs.lemmas.Str.{IsUtf8-from_is_utf8, is_utf8-from_IsUtf8}
use Rattle.std.specs.Str.{IsUtf8, is_utf8}
use Rattle.memchr.specs.Find.{IsFirstByte, is_byte}
use Rattle.ll_attr.proofs.Joined.{some_piece}
use Rattle.ll_attr.specs.Words.{after, pieces_at}
use Rattle.ll_entry.specs.Leads.{with_end}
use Rattle.ll_settings.specs.Settings.{Configuration}
use Rattle.ll_item.specs.declared.item.Item.{Item}
use Rattle.ll_spool.specs.declared.fault.RestoreFault.{RestoreFault}
use Rattle.ll_spool.specs.declared.fault.RestoreFault.TheVariants as fault
use Rattle.ll_spool.specs.Spooled.{lines_in, numbered, published_in, spooled_in, whole}

abbrev is_lf : ℕ → Bool
is_lf b = b == 10

lf-is : (b : ℕ) → is_lf b ≡ true → b ≡ 10
lf-is b h = grind (arith, nat_tests)

not_true : (b : Bool) → ¬ (b ≡ true) → b ≡ false
not_true true h = absurd (h refl)
not_true false h = refl

-- a line that has its end, before the others
pub lines-cons : (line rest : List ℕ) → whole (line ∷ pieces_at 10 rest) ≡ line ∷ lines_in rest
lines-cons line rest =
    let (first, more, are) = some_piece 10 rest in ap (λ ps. whole (line ∷ ps)) are ∙ ap (λ ps. line ∷ whole ps) (sym are)

pub cut-some : (bytes : List ℕ) (end : ℕ) → IsFirstByte (is_byte 10) bytes (Some end)
    → lines_in bytes ≡ take end bytes ∷ lines_in (take (length bytes - (end + 1)) (drop (end + 1) bytes))
cut-some bytes end h =
    let first = h.0 in
    let at : position_or_len is_lf bytes ≡ end =
    position_or_len_is is_lf bytes end 0 (omega (arith, first.high)) (λ k l. not_true (is_lf (get_or bytes k 0)) (first.before k (omega arith) l)) (λ _. h.1) in
    let within : position_or_len is_lf bytes < length bytes = omega (arith, at, first.high) in
    ap whole (slice_split_first is_lf bytes 0 within)
    ∙ ap (λ n. whole (take n bytes ∷ pieces_at 10 (drop (n + 1) bytes))) at
    ∙ lines-cons (take end bytes) (drop (end + 1) bytes)
    ∙ ap (λ rest. take end bytes ∷ lines_in rest) (sym (take_rest bytes (end + 1)))

-- the line, its end, and what follows
pub cut-text : (bytes : List ℕ) (end : ℕ) → IsFirstByte (is_byte 10) bytes (Some end) → bytes ≡ with_end (take end bytes) ++ take (length bytes - (end + 1)) (drop (end + 1) bytes)
cut-text bytes end h =
    let first = h.0 in
    let within : end < length bytes = omega (arith, first.high) in
    let lf : get_or bytes end 0 ≡ 10 = lf-is (get_or bytes end 0) h.1 in
    sym (take-append-drop end bytes)
    ∙ ap (λ t. take end bytes ++ t) (drop_more bytes end 0 within ∙ ap (λ b. b ∷ drop (end + 1) bytes) lf)
    ∙ sym (append_assoc (take end bytes) (10 ∷ []) (drop (end + 1) bytes))
    ∙ ap (λ rest. with_end (take end bytes) ++ rest) (sym (take_rest bytes (end + 1)))

pub cut-none : (bytes : List ℕ) → IsFirstByte (is_byte 10) bytes None → lines_in bytes ≡ []
cut-none bytes h =
    ap whole (slice_split_none is_lf bytes (All-from_get_or (λ b. is_lf b ≡ false) bytes 0 (λ i l. not_true (is_lf (get_or bytes i 0)) (h i (omega arith) l))))

-- ---- the item of a line

module _ (c : Configuration) (n : ℕ) (line : List ℕ) where
  pub spooled-raw : ¬ (IsUtf8 line) → spooled_in c n line ≡ None
  spooled-raw raw =
      ap (λ b. cond b (option_and_then (published_in c) (after (numbered n) line)) None) (not_true (is_utf8 line) (λ e. raw (IsUtf8-from_is_utf8 line e)))

  pub spooled-some : (text number rest : List ℕ) (item : Item) → text ≡ line → IsUtf8 line → number ≡ numbered n → after number text ≡ Some rest
      → published_in c rest ≡ Some item → spooled_in c n line ≡ Some item
  spooled-some text number rest item same u is found read =
      ap (λ b. cond b (option_and_then (published_in c) (after (numbered n) line)) None) (is_utf8-from_IsUtf8 line u)
      ∙ ap (λ w. option_and_then (published_in c) (after w line)) (sym is)
      ∙ ap (λ t. option_and_then (published_in c) (after number t)) (sym same)
      ∙ ap (option_and_then (published_in c)) found
      ∙ read

  pub spooled-ok : (text number rest : List ℕ) (read : Result Item RestoreFault) → text ≡ line → IsUtf8 line → number ≡ numbered n → after number text ≡ Some rest
      → IfOk read (λ item. published_in c rest ≡ Some item) → IfOk read (λ item. spooled_in c n line ≡ Some item)
  spooled-ok text number rest (Ok item) same u is found read = spooled-some text number rest item same u is found read
  spooled-ok text number rest (Err fault) same u is found read = tt

-- the fault that a function returns is that of a line
abbrev no-item : RestoreFault → Result Item RestoreFault
no-item found = Err found

pub bad-line : (number wanted : ℕ) (found : RestoreFault) → found ≡ fault.Line wanted → IsErrOf (no-item found) (fault.Line number) → number ≡ wanted
bad-line number wanted found is e = let same : no-item (fault.Line wanted) ≡ no-item (fault.Line number) = ap no-item (sym is) ∙ e in cc

-- nothing was written
pub uncut : (old new : Option (List ℕ)) (text : List ℕ) → new ≡ old → AppendsPrefix old new text
uncut old new text e = ([], text, refl, subst (λ (x : Option (List ℕ)). Appends old x []) (sym e) (Appends-nil old))

-- a prefix of a line was written, if a call failed, to files that were the same
pub recut : {T E : Type 0} (r : Result T E) (old mid new : Option (List ℕ)) (text line : List ℕ) → mid ≡ old → text ≡ line → AppendsPrefix mid new text
    → OnErr r (AppendsPrefix old new line)
recut (Ok v) old mid new text line same is cut = tt
recut (Err e) old mid new text line same is cut =
    subst (λ (t : List ℕ). AppendsPrefix old new t) is (subst (λ (m : Option (List ℕ)). AppendsPrefix m new text) same cut)
