-- An item with its bytes, and with zeros that stand for them.
use Rattle.std.proofs.Common.{◌≡◌, ◌≢◌, ℕ, ◌==◌, List, [], ◌∷◌, Bool, true, false, Option, Some, None, Result, Ok, Err, is_some, refl, ap, sym, subst, ◌∙◌, length, bytes_eq}
use Rattle.std.proofs.lemmas.List.{length-replicate}
use Rattle.std.proofs.lemmas.Option.{none-some, same_Some}
use Rattle.std.specs.Prelude.{IfErr, IfOk, IsErrOf, IsOk, codes, if◌then◌else◌, nat_le}
use Rattle.std.specs.Result.{result_err}
use Rattle.ll_attr.specs.Numbers.{number_in}
use Rattle.ll_attr.specs.Words.{words}
use Rattle.ll_item.specs.Items.{alone_in, bare_of, flags_in, init_at, item_in, item_of, named, part_at, part_by, part_in}
use Rattle.ll_item.specs.Media.{media_limit, zeros}
use Rattle.ll_settings.specs.Settings.{Configuration}
use Rattle.ll_item.specs.declared.item.Item.{Item}
use Rattle.ll_item.specs.declared.item.ItemFault.{ItemFault}
use Rattle.ll_item.specs.declared.item.ItemFault.TheVariants as fault
use Rattle.ll_publish.specs.Refusals.{item_refusal, out_of_memory}
use Rattle.ll_publish.specs.declared.refusal.Refusal.TheVariants as refused
use Rattle.ll_script.specs.Hex.{bytes_in_hex}
use Rattle.ll_script.specs.Lines.{bytes_spelled, item_act, item_with, offer_to, offer_within}
use Rattle.ll_script.specs.Reads.{IsRead}
use Rattle.ll_script.specs.declared.act.Act.TheVariants.{Refuse}
use Rattle.ll_script.specs.declared.act.Acts.{Acts}
use Rattle.ll_script.specs.declared.act.Acts.TheVariants as list
use Rattle.ll_script.specs.declared.reading.LineFault.{LineFault}

part_at-alike : (n : Result ℕ ItemFault) (d : ℕ) (f : Bool × Bool) (m o : List ℕ) → result_err (part_at n d f m) ≡ result_err (part_at n d f o)
part_at-alike (Err e) d f m o = refl
part_at-alike (Ok r) d f m o = refl

part_by-alike : (c : Configuration) (name : List ℕ) (d : Option ℕ) (f : Option (Bool × Bool)) (m o : List ℕ)
    → result_err (part_by c name d f m) ≡ result_err (part_by c name d f o)
part_by-alike c name None f m o = refl
part_by-alike c name (Some d) None m o = refl
part_by-alike c name (Some d) (Some f) m o = part_at-alike (named c name) d f m o

part_in-alike : (c : Configuration) (rest : List (List ℕ)) (m o : List ℕ) → result_err (part_in c rest m) ≡ result_err (part_in c rest o)
part_in-alike c [] m o = refl
part_in-alike c (name ∷ []) m o = refl
part_in-alike c (name ∷ d ∷ []) m o = refl
part_in-alike c (name ∷ d ∷ f ∷ []) m o = part_by-alike c name (number_in 20 d) (flags_in f) m o
part_in-alike c (name ∷ d ∷ f ∷ more ∷ rest) m o = refl

init_at-alike : (n : Result ℕ ItemFault) (m o : List ℕ) → result_err (init_at n m) ≡ result_err (init_at n o)
init_at-alike (Err e) m o = refl
init_at-alike (Ok r) m o = refl

item_of-alike : (c : Configuration) (ws : List (List ℕ)) (m o : List ℕ) → length m ≡ length o → result_err (item_of c ws m) ≡ result_err (item_of c ws o)
item_of-alike c [] m o e = refl
item_of-alike c (kind ∷ rest) m o e = by_kind (bytes_eq kind (codes "part")) (bytes_eq kind (codes "init"))
  where
    by_kind : (part init : Bool)
        → result_err (if part then part_in c rest m else if init then init_at (alone_in c rest) m else if length m == 0 then bare_of c kind rest else Err fault.BadLine)
        ≡ result_err (if part then part_in c rest o else if init then init_at (alone_in c rest) o else if length o == 0 then bare_of c kind rest else Err fault.BadLine)
    by_kind true init = part_in-alike c rest m o
    by_kind false true = init_at-alike (alone_in c rest) m o
    by_kind false false = ap (λ n. result_err (if n == 0 then bare_of c kind rest else Err fault.BadLine)) e

-- whether and why an item is refused depends on how many bytes it has, not on which
pub refused-alike : (c : Configuration) (line media blank : List ℕ) → blank ≡ zeros (length media)
    → result_err (item_in c line media) ≡ result_err (item_in c line blank)
refused-alike c line media blank e =
    item_of-alike c (words line) media blank (sym (ap length e ∙ length-replicate (length media) 0))

-- ---- the bytes are out of memory

unkept-fine : (channels : List Configuration) (place : ℕ) (r : Result Item ItemFault) → result_err r ≡ None
    → IsRead channels (Some (item_act place r ∷ [])) (Ok (list.One (Refuse out_of_memory)))
unkept-fine channels place (Ok item) e = refl
unkept-fine channels place (Err f) e = absurd (none-some f (sym e))

unkept-wrong : (channels : List Configuration) (place : ℕ) (r : Result Item ItemFault) (f : ItemFault) → f ≢ fault.Memory → result_err r ≡ Some f
    → IsRead channels (Some (item_act place r ∷ [])) (Ok (list.One (Refuse (item_refusal f))))
unkept-wrong channels place (Ok item) f other e = absurd (none-some f e)
unkept-wrong channels place (Err g) f other e =
    subst (λ h. IsRead channels (Some (item_act place (Err h) ∷ [])) (Ok (list.One (Refuse (item_refusal f))))) (sym (same_Some g f e)) (by_fault f other)
  where
    by_fault : (f : ItemFault) → f ≢ fault.Memory → IsRead channels (Some (item_act place (Err f) ∷ [])) (Ok (list.One (Refuse (item_refusal f))))
    by_fault fault.BadLine other = refl
    by_fault fault.NoRendition other = refl
    by_fault fault.BadAttribute other = refl
    by_fault fault.Memory other = absurd (other refl)

-- an item that could be read, but for memory, with zeros in place of its bytes is refused for nothing else
unkept-memory : (channels : List Configuration) (place : ℕ) (c : Configuration) (line media blank : List ℕ) → blank ≡ zeros (length media)
    → IsOk (item_in c line blank) → IsRead channels (Some (item_act place (item_in c line media) ∷ [])) (Ok (list.One (Refuse out_of_memory)))
unkept-memory channels place c line media blank e ok =
    unkept-fine channels place (item_in c line media) (refused-alike c line media blank e ∙ no_fault (item_in c line blank) ok)
  where
    no_fault : (r : Result Item ItemFault) → IsOk r → result_err r ≡ None
    no_fault (Ok item) ok = refl
    no_fault (Err f) ok = absurd (cc)

-- with zeros in place of its bytes it was read
pub unkept-ok : (channels : List Configuration) (place : ℕ) (c : Configuration) (line media blank : List ℕ) (r : Result Item ItemFault)
    → blank ≡ zeros (length media) → IfOk r (λ item. item_in c line blank ≡ Ok item) → None ≡ result_err r
    → IsRead channels (Some (item_act place (item_in c line media) ∷ [])) (Ok (list.One (Refuse out_of_memory)))
unkept-ok channels place c line media blank (Ok item) e is none = unkept-memory channels place c line media blank e (subst IsOk (sym is) refl)
unkept-ok channels place c line media blank (Err f) e is none = absurd (none-some f none)

-- with zeros in place of its bytes it was refused
pub unkept-err : (channels : List Configuration) (place : ℕ) (c : Configuration) (line media blank : List ℕ) (r : Result Item ItemFault) (f : ItemFault)
    → blank ≡ zeros (length media) → IfErr r (λ g. g ≢ fault.Memory → item_in c line blank ≡ Err g)
    → (IsErrOf r fault.Memory → IsOk (item_in c line blank)) → Some f ≡ result_err r
    → IsRead channels (Some (item_act place (item_in c line media) ∷ [])) (Ok (list.One (Refuse (item_refusal f))))
unkept-err channels place c line media blank (Ok item) f e wrong ok some = absurd (none-some f (sym some))
unkept-err channels place c line media blank (Err g) f e wrong ok some =
    subst (λ h. IsRead channels (Some (item_act place (item_in c line media) ∷ [])) (Ok (list.One (Refuse (item_refusal h))))) (sym (same_Some f g some))
    (by_fault g wrong ok)
  where
    other : (h : ItemFault) → h ≢ fault.Memory → item_in c line blank ≡ Err h
        → IsRead channels (Some (item_act place (item_in c line media) ∷ [])) (Ok (list.One (Refuse (item_refusal h))))
    other h no_memory is = unkept-wrong channels place (item_in c line media) h no_memory (refused-alike c line media blank e ∙ ap result_err is)

    by_fault : (h : ItemFault) → (h ≢ fault.Memory → item_in c line blank ≡ Err h) → (IsErrOf {T = Item} (Err h) fault.Memory → IsOk (item_in c line blank))
        → IsRead channels (Some (item_act place (item_in c line media) ∷ [])) (Ok (list.One (Refuse (item_refusal h))))
    by_fault fault.BadLine wrong ok = let n : fault.BadLine ≢ fault.Memory = (λ h. cc) in other fault.BadLine n (wrong n)
    by_fault fault.NoRendition wrong ok = let n : fault.NoRendition ≢ fault.Memory = (λ h. cc) in other fault.NoRendition n (wrong n)
    by_fault fault.BadAttribute wrong ok = let n : fault.BadAttribute ≢ fault.Memory = (λ h. cc) in other fault.BadAttribute n (wrong n)
    by_fault fault.Memory wrong ok = unkept-memory channels place c line media blank e (ok refl)

-- ---- the bytes that digits spell

-- `n` bytes are few enough
pub offer-few : (channel : Option (ℕ × Configuration)) (line media : List ℕ) (n : ℕ) → n ≡ length media → nat_le n media_limit ≡ true
    → offer_within channel (line, media) ≡ offer_to channel (line, media)
offer-few channel line media n e few =
    ap (λ b. if b then offer_to channel (line, media) else Refuse refused.MediaTooLong) (subst (λ k. nat_le k media_limit ≡ true) e few)

-- `n` bytes are too many
pub offer-many : (channel : Option (ℕ × Configuration)) (line media : List ℕ) (n : ℕ) → n ≡ length media → nat_le n media_limit ≡ false
    → offer_within channel (line, media) ≡ Refuse refused.MediaTooLong
offer-many channel line media n e many =
    ap (λ b. if b then offer_to channel (line, media) else Refuse refused.MediaTooLong) (subst (λ k. nat_le k media_limit ≡ false) e many)

spelled-hex : (word media : List ℕ) → bytes_spelled word ≡ Some media → bytes_in_hex word ≡ Some media
spelled-hex [] media e = absurd (none-some media e)
spelled-hex (b ∷ bs) media e = e

-- a word that spells bytes stands for them
pub offer-spelled : (channels : List Configuration) (channel : Option (ℕ × Configuration)) (word item line : List ℕ) (r : Result Acts LineFault)
    → is_some (bytes_spelled word) ≡ true
    → ((media : List ℕ) → bytes_in_hex word ≡ Some media → IsRead channels (Some (offer_within channel (item, media) ∷ [])) r)
    → IsRead channels (Some (offer_within channel (item_with (bytes_spelled word) item line) ∷ [])) r
offer-spelled channels channel word item line r some read = by_bytes (bytes_spelled word) refl some
  where
    by_bytes : (o : Option (List ℕ)) → bytes_spelled word ≡ o → is_some o ≡ true → IsRead channels (Some (offer_within channel (item_with o item line) ∷ [])) r
    by_bytes None e some = absurd (cc)
    by_bytes (Some media) e some = read media (spelled-hex word media e)
