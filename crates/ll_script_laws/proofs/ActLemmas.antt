-- What a line makes happen: settings within their limits are declared, and items are offered as they were read.
use Rattle.std.proofs.Common.{◌≡◌, ℕ, ◌+◌, ◌<◌, ◌≤◌, ◌==◌, ◌&&◌, Bool, true, false, List, ◌∷◌, ◌++◌, Option, Some, None, Result, Ok, Err, length, length-append, refl, ap, sym, ◌∙◌, subst, arith, get_or, nat_le, nat_lt, take, if◌then◌else◌}
use Rattle.std.proofs.lemmas.Bool.Decides.{nat_tests}
use Rattle.std.proofs.Math.Seq.{get_or-append_seam}
use Rattle.std.proofs.lemmas.List.{drop_all, take-append-le, take_all}
use Rattle.std.proofs.lemmas.List.Sums.{passes_at_first}
use Rattle.std.proofs.lemmas.Str.{IsCharBoundary-after_ascii, IsCharBoundary-before_ascii, IsUtf8-drop, IsUtf8-from_is_utf8, IsUtf8-nil, IsUtf8-take}
use Rattle.std.specs.List.{after_first, before_first, list_any, position_or_len}
use Rattle.std.specs.Str.{IsUtf8, is_utf8}
use Rattle.ll_attr.specs.Words.{words}
use Rattle.ll_item.specs.Items.{item_in, named}
use Rattle.ll_settings.specs.Settings.{Configuration, IsWithin}
use Rattle.ll_item.specs.declared.item.Item.{Item}
use Rattle.ll_item.specs.declared.item.ItemFault.{ItemFault}
use Rattle.ll_item.proofs.LastWord.{IsLine, told-line}
use Rattle.ll_item.specs.Announced.{lacks_length, told_bytes}
use Rattle.ll_item.specs.Media.{media_limit}
use Rattle.ll_publish.specs.Line as said
use Rattle.ll_publish.specs.Lines.{asked_in, asking, line_by}
use Rattle.ll_publish.specs.declared.refusal.Refusal.TheVariants as refused
use Rattle.ll_settings.specs.Channels.{channel_of_name}
use Rattle.ll_script.specs.Lines.{acts, at_by, at_in, bytes_spelled, item_act, item_before, item_with, offer, offer_by, offer_to, offer_within, starved, without_bytes}
use Rattle.ll_script.specs.declared.act.Act.{Act}
use Rattle.ll_script.specs.declared.act.Act.TheVariants.{Declare, Offer, At, Refuse, Ask, Answer, Close, Clock, RefuseClock, Bytes, Drop}
use Rattle.ll_script_laws.proofs.ItemTexts.{IsRead, item-read}
use Rattle.ll_script_laws.proofs.LineLemmas.{All, OfEach, acts-of}

-- an act's settings are within their limits, and its item was read from a line
abbrev pub IsSound : Act → Type 0
IsSound (Declare settings) = IsWithin settings
IsSound (Offer place item) = IsRead item
IsSound (At place rendition) = Unit
IsSound (Refuse reason) = Unit
IsSound (Ask id place want) = Unit
IsSound (Answer id reason) = Unit
IsSound (Close id) = Unit
IsSound (Clock place ms) = Unit
IsSound RefuseClock = Unit
IsSound (Bytes n piece) = Unit
IsSound (Drop n) = Unit

-- an act stays sound if its item or request is out of memory
pub starved-sound : (a : Act) → IsSound a → IsSound (starved a)
starved-sound (Declare settings) s = s
starved-sound (Offer place item) s = tt
starved-sound (At place rendition) s = tt
starved-sound (Refuse reason) s = tt
starved-sound (Ask id place want) s = tt
starved-sound (Answer id reason) s = tt
starved-sound (Close id) s = tt
starved-sound (Clock place ms) s = tt
starved-sound RefuseClock s = tt
starved-sound (Bytes n piece) s = tt
starved-sound (Drop n) s = tt

abbrev pub AreSound : Option (List Act) → Type 0
AreSound list = All IsSound list

-- ---- publishers

-- what stands after the first space
after_utf8 : (text : List ℕ) (x : Bool) → nat_lt (position_or_len (λ b. b == 32) text) (length text) ≡ x → IsUtf8 text → IsUtf8 (after_first (λ b. b == 32) text)
after_utf8 text true e u =
    let inside : position_or_len (λ b. b == 32) text < length text = grind (arith, nat_tests) in
    let space = passes_at_first (λ b. b == 32) text 0 inside in
    let low : get_or text (position_or_len (λ b. b == 32) text) 0 < 128 = grind (arith, nat_tests) in
    IsUtf8-drop text (position_or_len (λ b. b == 32) text + 1) u (IsCharBoundary-after_ascii text (position_or_len (λ b. b == 32) text) u inside low)
after_utf8 text false e u =
    let past : length text ≤ position_or_len (λ b. b == 32) text + 1 = grind (arith, nat_tests) in
    subst IsUtf8 (sym (drop_all (position_or_len (λ b. b == 32) text + 1) text past)) IsUtf8-nil

item_act-sound : (place : ℕ) (r : Result Item ItemFault) → ((i : Item) → r ≡ Ok i → IsRead i) → IsSound (item_act place r)
item_act-sound place (Ok i) f = f i refl
item_act-sound place (Err fault) f = tt

offer_to-sound : (o : Option (ℕ × Configuration)) (item : List ℕ × List ℕ) → IsUtf8 item.0 → IsSound (offer_to o item)
offer_to-sound None item u = tt
offer_to-sound (Some channel) item u = item_act-sound channel.0 (item_in channel.1 item.0 item.1) (λ i h. item-read channel.1 item.0 item.1 i u h)

offer_within-sound : (o : Option (ℕ × Configuration)) (item : List ℕ × List ℕ) → IsUtf8 item.0 → IsSound (offer_within o item)
offer_within-sound o item u = by_many (nat_le (length item.1) media_limit)
  where
    by_many : (b : Bool) → IsSound (if b then offer_to o item else Refuse refused.MediaTooLong)
    by_many true = offer_to-sound o item u
    by_many false = tt

at_by-sound : (place : ℕ) (r : Result ℕ ItemFault) → IsSound (at_by place r)
at_by-sound place (Ok rendition) = tt
at_by-sound place (Err fault) = tt

at_in-sound : (o : Option (ℕ × Configuration)) (rendition : List ℕ) → IsSound (at_in o rendition)
at_in-sound None rendition = tt
at_in-sound (Some channel) rendition = at_by-sound channel.0 (named channel.1 rendition)

-- an item's line without its bytes is UTF-8, as it stands before a space
before_space : (line item word : List ℕ) → line ≡ item ++ 32 ∷ word → IsUtf8 line → IsUtf8 item
before_space line item word e u =
    let long = ap length e ∙ length-append item (32 ∷ word) in
    let here : get_or line (length item) 0 ≡ 32 = ap (λ l. get_or l (length item) 0) e ∙ get_or-append_seam item 32 word 0 in
    let front : take (length item) line ≡ item = ap (take (length item)) e ∙ take-append-le (length item) item (32 ∷ word) (omega arith) ∙ take_all (length item) item (omega arith) in
    subst IsUtf8 front (IsUtf8-take line (length item) u (IsCharBoundary-before_ascii line (length item) (omega (arith, long)) (omega (arith, here))))

item_before-utf8 : (line : List ℕ) (o : Option (List ℕ × List ℕ)) → IsLine line o → IsUtf8 line → IsUtf8 (item_before o line).0
item_before-utf8 line None told u = u
item_before-utf8 line (Some t) told u = by_bytes (bytes_spelled t.1)
  where
    by_bytes : (o : Option (List ℕ)) → IsUtf8 (item_with o t.0 line).0
    by_bytes None = u
    by_bytes (Some media) = before_space line t.0 t.1 told u

cut-sound : (channels : List Configuration) (x y : Bool) (name line : List ℕ) → (x ≡ true → IsUtf8 line)
    → IsSound (offer_by channels (line_by (if x && y then Some (name, line) else None)))
cut-sound channels true true name line u = by_length (lacks_length (words line))
  where
    by_name : (o : Option (List ℕ)) → IsSound (offer_by channels (asking o name line))
    by_name None = offer_within-sound (channel_of_name channels 0 name) (without_bytes line) (item_before-utf8 line (told_bytes line) (told-line line) (u refl))
    by_name (Some rendition) = at_in-sound (channel_of_name channels 0 name) rendition

    by_length : (b : Bool) → IsSound (offer_by channels (if b then said.Bad else asking (asked_in line) name line))
    by_length true = tt
    by_length false = by_name (asked_in line)
cut-sound channels true false name line u = tt
cut-sound channels false y name line u = tt

offer-sound : (channels : List Configuration) (text : List ℕ) → IsSound (offer channels text)
offer-sound channels text =
    cut-sound channels (is_utf8 text) (list_any (λ b. b == 32) text) (before_first (λ b. b == 32) text) (after_first (λ b. b == 32) text)
    (λ h. after_utf8 text (nat_lt (position_or_len (λ b. b == 32) text) (length text)) refl (IsUtf8-from_is_utf8 text h))

-- ---- lines

each-sound : (channels : List Configuration) → OfEach IsSound channels
each-sound channels = record {
  declares = λ c within. within;
  offers = offer-sound channels;
  asks = λ id place want. tt;
  answers = λ id fault. tt;
  closes = λ id. tt;
  clocks = λ place ms. tt;
  late = tt;
  comes = λ n piece. tt;
  drops = λ n. tt;
}

pub acts-sound : (channels : List Configuration) (last : Option ℕ) (line : List ℕ) → AreSound (acts channels last line)
acts-sound channels last line = acts-of IsSound channels (each-sound channels) last line
