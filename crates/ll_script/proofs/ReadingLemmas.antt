-- What a line means, from where it is cut and what it begins with.
use Rattle.std.proofs.Common.{◌≡◌, ◌≢◌, ℕ, ◌==◌, List, [], ◌∷◌, Bool, true, false, Option, Some, None, Result, Ok, Err, is_some, MatchOption, Bor, refl, ap, subst, sym, ◌∙◌, length, arith}
use Rattle.std.specs.Prelude.{IsOk, codes, if◌then◌else◌}
use Rattle.std.proofs.lemmas.List.Splits.{length-slice_split}
use Rattle.std.proofs.lemmas.Str.{IsUtf8-from_is_utf8, is_utf8-from_IsUtf8}
use Rattle.std.specs.Str.{IsUtf8, is_utf8}
use Rattle.ll_attr.specs.Numbers.{number_in}
use Rattle.ll_attr.specs.Words.{after, pieces_at, words}
use Rattle.ll_settings.specs.Channels.{channel_of_name}
use Rattle.ll_directive.specs.Targets.{WantValue}
use Rattle.ll_directive.specs.declared.fault.TargetFault.{TargetFault}
use Rattle.ll_directive.specs.declared.fault.TargetFault.TheVariants as target
use Rattle.ll_item.specs.Items.{named}
use Rattle.ll_settings.specs.Settings.{Configuration, settings_in}
use Rattle.ll_item.specs.declared.item.ItemFault.{ItemFault}
use Rattle.ll_item.specs.declared.item.ItemFault.TheVariants as fault
use Rattle.ll_publish.specs.Refusals.{item_refusal}
use Rattle.ll_script.specs.Hex.{bytes_in_hex}
use Rattle.ll_script.specs.declared.act.Act.{Act}
use Rattle.ll_script.specs.declared.act.Act.TheVariants.{Answer, Refuse}
use Rattle.ll_script.specs.declared.act.Acts.TheVariants as list
use Rattle.ll_script.specs.Lines.{AreRead, acts, alone, at_by, at_in, ask, ask_in, begun, bytes_by, bytes_of, declaration, get_of, is_passed_over, kinds}

-- a text has at least one part
some-part : (c : ℕ) (text : List ℕ) → pieces_at c text ≢ []
some-part c text = λ e. let n = length-slice_split (λ b. b == c) text in absurd (omega (arith, n, ap length e))

-- a request has two words, and a text in which a space was found has more than one
pub get_of-more : (channels : List Configuration) (last : Option ℕ) (id target : List ℕ) (r : Option (Bor (List ℕ) × Bor (List ℕ)))
    → MatchOption r (words target ≡ target ∷ []) (λ x. words target ≡ x.0.now ∷ words x.1.now) → is_some r ≡ true
    → get_of channels last (id ∷ words target) ≡ None
get_of-more channels last id target None m more = absurd (cc)
get_of-more channels last id target (Some x) m more = ap (λ ws. get_of channels last (id ∷ ws)) m ∙ by_rest (words x.1.now) refl
  where
    three : (ws : List ℕ) (next : List ℕ) (later : List (List ℕ)) → get_of channels last (id ∷ ws ∷ next ∷ later) ≡ None
    three [] next later = refl
    three (b ∷ bs) next later = refl

    by_rest : (rest : List (List ℕ)) → words x.1.now ≡ rest → get_of channels last (id ∷ x.0.now ∷ rest) ≡ None
    by_rest [] e = absurd (some-part 32 x.1.now e)
    by_rest (next ∷ later) e = three x.0.now next later

-- what follows the number has one word
pub bytes_of-one : (number hex : List ℕ) (r : Option (Bor (List ℕ) × Bor (List ℕ)))
    → MatchOption r (words hex ≡ hex ∷ []) (λ x. words hex ≡ x.0.now ∷ words x.1.now) → false ≡ is_some r → false ≡ (length hex == 0)
    → bytes_of (number ∷ words hex) ≡ bytes_by (number_in 9 number) (bytes_in_hex hex)
bytes_of-one number hex (Some x) m one some = absurd (cc)
bytes_of-one number hex None m one some = ap (λ ws. bytes_of (number ∷ ws)) m ∙ by_text hex some
  where
    by_text : (text : List ℕ) → false ≡ (length text == 0) → bytes_of (number ∷ text ∷ []) ≡ bytes_by (number_in 9 number) (bytes_in_hex text)
    by_text [] e = absurd (cc)
    by_text (b ∷ bs) e = refl

-- what follows the number has more words
pub bytes_of-more : (number hex : List ℕ) (r : Option (Bor (List ℕ) × Bor (List ℕ)))
    → MatchOption r (words hex ≡ hex ∷ []) (λ x. words hex ≡ x.0.now ∷ words x.1.now) → is_some r ≡ true → bytes_of (number ∷ words hex) ≡ None
bytes_of-more number hex None m more = absurd (cc)
bytes_of-more number hex (Some x) m more = ap (λ ws. bytes_of (number ∷ ws)) m ∙ by_rest (words x.1.now) refl
  where
    three : (ws : List ℕ) (next : List ℕ) (later : List (List ℕ)) → bytes_of (number ∷ ws ∷ next ∷ later) ≡ None
    three [] next later = refl
    three (b ∷ bs) next later = refl

    by_rest : (rest : List (List ℕ)) → words x.1.now ≡ rest → bytes_of (number ∷ x.0.now ∷ rest) ≡ None
    by_rest [] e = absurd (some-part 32 x.1.now e)
    by_rest (next ∷ later) e = three x.0.now next later

-- digits that spell no bytes mean nothing
pub bytes_by-none : (number : Option ℕ) (bytes : Option (List ℕ)) → false ≡ is_some bytes → bytes_by number bytes ≡ None
bytes_by-none None bytes e = refl
bytes_by-none (Some n) None e = refl
bytes_by-none (Some n) (Some bytes) e = absurd (cc)

-- digits that spell bytes mean something
pub bytes_by-some : (number : ℕ) (bytes : Option (List ℕ)) → is_some bytes ≡ true → is_some (alone (bytes_by (Some number) bytes)) ≡ true
bytes_by-some number None e = absurd (cc)
bytes_by-some number (Some bytes) e = refl

-- a line that is no text, and neither passed over nor a publisher's, has no place in a script
pub acts-raw : (channels : List Configuration) (last : Option ℕ) (line : List ℕ) → is_passed_over line ≡ false → after (codes "pub ") line ≡ None → ¬ (IsUtf8 line)
    → acts channels last line ≡ None
acts-raw channels last line other offers raw = by_test (is_utf8 line) refl
  where
    by_test : (b : Bool) → is_utf8 line ≡ b → acts channels last line ≡ None
    by_test true e = absurd (raw (IsUtf8-from_is_utf8 line e))
    by_test false e = rw (other, offers, e) refl

-- a line that is neither passed over nor a publisher's, and is this text
pub acts-other : (channels : List Configuration) (last : Option ℕ) (line text : List ℕ) → is_passed_over line ≡ false → after (codes "pub ") line ≡ None
    → line ≡ text → IsUtf8 line → acts channels last line ≡ begun (kinds channels last) text (alone (declaration channels (settings_in text)))
acts-other channels last line text other offers same u =
    let utf8 = is_utf8-from_IsUtf8 line u in
    (rw (other, offers, utf8) refl) ∙ ap (λ l. begun (kinds channels last) l (alone (declaration channels (settings_in l)))) same

-- a request whose target is out of memory is answered so, unless there is no such channel
pub unread-ask : (channels : List Configuration) (id : ℕ) (r : Result WantValue TargetFault) (f : TargetFault) → IsOk r
    → ((want : WantValue) → r ≡ Ok want → f ≡ (if is_some (channel_of_name channels 0 want.channel) then target.Memory else target.NotFound))
    → AreRead channels (Some (ask channels id r ∷ [])) (list.One (Answer id f))
unread-ask channels id (Err e) f ok is = absurd (cc)
unread-ask channels id (Ok want) f ok is =
    subst (λ g. AreRead channels (Some (ask channels id (Ok want) ∷ [])) (list.One (Answer id g))) (sym (is want refl)) (by_channel (channel_of_name channels 0 want.channel))
  where
    by_channel : (o : Option (ℕ × Configuration)) → AreRead channels (Some (ask_in id want o ∷ [])) (list.One (Answer id (if is_some o then target.Memory else target.NotFound)))
    by_channel None = refl
    by_channel (Some c) = refl

-- a question needs no memory
pub asks-read : (channels : List Configuration) (o : Option (ℕ × Configuration)) (rendition : List ℕ) (a : Act) → a ≡ at_in o rendition
    → AreRead channels (Some (at_in o rendition ∷ [])) (list.One a)
asks-read channels o rendition a is = subst (λ b. AreRead channels (Some (at_in o rendition ∷ [])) (list.One b)) (sym is) (by_channel o)
  where
    by_fault : (f : ItemFault) → AreRead channels (Some (Refuse (item_refusal f) ∷ [])) (list.One (Refuse (item_refusal f)))
    by_fault fault.BadLine = refl
    by_fault fault.NoRendition = refl
    by_fault fault.BadAttribute = refl
    by_fault fault.Memory = refl

    by_name : (place : ℕ) (r : Result ℕ ItemFault) → AreRead channels (Some (at_by place r ∷ [])) (list.One (at_by place r))
    by_name place (Ok rendition) = refl
    by_name place (Err f) = by_fault f

    by_channel : (o : Option (ℕ × Configuration)) → AreRead channels (Some (at_in o rendition ∷ [])) (list.One (at_in o rendition))
    by_channel None = refl
    by_channel (Some c) = by_name c.0 (named c.1 rendition)
