-- What is published of a spool's text is what was accepted, but for bytes.
use Rattle.std.proofs.Common.{◌≡◌, ℕ, List, [], ◌∷◌, Option, None, Some, Ok, refl, ap, ap₂, sym, ◌∙◌, length, map, option_map, take}
use Rattle.std.proofs.lemmas.List.{length-map, length-replicate}
use Rattle.ll_entry.proofs.ItemBlanks.{each-blank, own-blank}
use Rattle.ll_entry.proofs.StoreBlanks.{media-blank, zeros_for}
use Rattle.ll_item.specs.Items.{blank}
use Rattle.ll_item.specs.Media.{zeros}
use Rattle.ll_item.specs.declared.item.Item.{Item}
use Rattle.ll_item.specs.declared.item.Item.TheVariants as item
use Rattle.ll_item.specs.declared.what.What.{What}
use Rattle.ll_page.specs.Page.{text_in}
use Rattle.ll_pieces.specs.View.{renditions, seen}
use Rattle.ll_rendition.specs.declared.rendition.Rendition.{Rendition}
use Rattle.ll_settings.specs.Settings.{Configuration}
use Rattle.ll_spool.specs.Restored.{IsRestored}
use Rattle.ll_spool.specs.Spooled.{spool_in, spool_text}
use Rattle.ll_store.specs.Media.{media}
use Rattle.ll_verdict.specs.Events.{items}
use Rattle.ll_window.specs.Segments.{own}
use Rattle.ll_spool_laws.proofs.AgainLemmas.{AreAccepted, accepted-all, accepted-others, are-accepted, are-spooled, first-accepted}
use Rattle.ll_spool_laws.proofs.SpoolProof.{cut}
use Rattle.ll_spool_laws.specs.Laws.{AreAgain, RestartLaw}

-- ---- items without their bytes

blank-again : (i : Item) → blank (blank i) ≡ blank i
blank-again (item.Part p) = ap (λ n. item.Part (record p { media = zeros n })) (length-replicate (length p.media) 0)
blank-again (item.Init r media) = ap (λ n. item.Init r (zeros n)) (length-replicate (length media) 0)
blank-again (item.Finish r) = refl
blank-again (item.Break r time) = refl
blank-again (item.End r) = refl
blank-again (item.Range r id attributes) = refl
blank-again (item.Unrange r id) = refl

all-again : (xs : List Item) → map blank (map blank xs) ≡ map blank xs
all-again [] = refl
all-again (i ∷ xs) = ap₂ (λ j ys. j ∷ ys) (blank-again i) (all-again xs)

-- ---- what follows from items that are the same but for bytes

module _ (c : Configuration) (xs ys : List Item) (same : map blank ys ≡ map blank xs) where
  as-many : length ys ≡ length xs
  as-many = sym (length-map ys blank) ∙ ap length same ∙ length-map xs blank

  as-kept : renditions c ys ≡ renditions c xs
  as-kept = sym (each-blank c ys 0 c.renditions) ∙ ap (renditions c) same ∙ each-blank c xs 0 c.renditions

  as-seen : (rendition : ℕ) → seen c ys rendition ≡ seen c xs rendition
  as-seen rendition = ap₂ (λ (ks : List Rendition) n. record { settings = c; renditions = ks; rendition = rendition; count = n }) as-kept as-many

as-long : (o : Option (List ℕ)) → option_map length (option_map zeros_for o) ≡ option_map length o
as-long None = refl
as-long (Some bytes) = ap Some (length-replicate (length bytes) 0)

blank-length : (c : Configuration) (xs : List Item) (rendition : ℕ) (what : What)
    → option_map length (media c (own rendition (map blank xs)) what) ≡ option_map length (media c (own rendition xs) what)
blank-length c xs rendition what =
    ap (λ its. option_map length (media c its what)) (own-blank rendition xs)
    ∙ ap (option_map length) (media-blank c (own rendition xs) what)
    ∙ as-long (media c (own rendition xs) what)

-- ---- a start

-- what is published of a text that is read as these items
again : (c : Configuration) (list restored : List Item) (text : List ℕ) (count : ℕ) → AreAccepted c [] list → spool_in c text ≡ Ok (map blank list)
    → IsRestored c text (Some []) (Some restored) count → AreAgain c list restored count
again c list restored text count accepted read is =
    let spelled : is.spelled ≡ map blank list = (let e = sym is.are ∙ read in cc) in
    let published : restored ≡ is.items = (let e = is.published in cc) in
    let same : map blank restored ≡ map blank list = ap (map blank) published ∙ is.same ∙ ap (map blank) spelled ∙ all-again list in
    record {
      number = sym is.number ∙ ap length (sym published) ∙ as-many c list restored same;
      same = same;
      accepted_again = accepted-all c [] restored (accepted-others c [] [] list restored refl same accepted);
      texts = λ form rendition. ap (text_in form) (as-seen c list restored same rendition);
      media = λ rendition what.
          sym (blank-length c restored rendition what) ∙ ap (λ xs. option_map length (media c (own rendition xs) what)) same ∙ blank-length c list rendition what;
    }

pub restart : RestartLaw
restart c events bytes restored count limits few texts is =
    let its = items c events in
    let k = cut c its bytes limits (are-spooled c limits events few texts) in
    (k.0, k.1, again c (take k.0 its) restored (take bytes (spool_text c its)) count (first-accepted c [] its k.0 (are-accepted c events)) k.2 is)
