-- The items that a channel has accepted are allowed one after another, so the law on texts applies to its playlists.
use Rattle.std.proofs.Common.{◌≡◌, ◌≢◌, ℕ, ◌+◌, ◌≤◌, ◌||◌, List, [], ◌∷◌, ◌++◌, Bool, true, false, Option, Some, None, is_none, Ok, fold, refl, ap, sym, subst, ◌∙◌, append_assoc, append-nil, if◌then◌else◌}
use Rattle.std.proofs.lemmas.List.Sums.{fold-append}
use Rattle.ll_apply.specs.Texts.{applied_text}
use Rattle.ll_attr.specs.declared.attributes.Attribute.{Attribute}
use Rattle.ll_item.specs.Items.{rendition_of}
use Rattle.ll_settings.specs.Settings.{Configuration, skip_limit}
use Rattle.ll_item.specs.declared.item.Item.{Item}
use Rattle.ll_item.specs.declared.item.Item.TheVariants as item
use Rattle.ll_laws.specs.Published.{ArePublished, HasTexts}
use Rattle.ll_laws.proofs.TextProof.{text}
use Rattle.ll_page.specs.Delta.{delta_text}
use Rattle.ll_page.specs.Full.{full_text}
use Rattle.ll_pieces.specs.View.{seen}
use Rattle.ll_range.specs.Announced as range
use Rattle.ll_range.specs.Announced.{announced, is_listed, was_removed}
use Rattle.ll_range.specs.Attributes.{is_id}
use Rattle.ll_range.specs.declared.ranges.RangeFault.TheVariants.{BadAttribute, IdTaken}
use Rattle.ll_verdict.specs.Accepted.{refusal}
use Rattle.ll_verdict.specs.Events.{Event, Publish, Ask, Collect, Close, Clock, items, taken}
use Rattle.ll_rendition.specs.declared.fault.PublishFault.{PublishFault}
use Rattle.ll_verdict.proofs.AcceptedLemmas.{not-refused}
use Rattle.ll_verdict.proofs.ListLemmas.{Each}
use Rattle.ll_verdict.proofs.NewerLemmas.{folded-longer}
use Rattle.ll_item.specs.Told.{end_time}
use Rattle.ll_window.specs.Segments.{own}
use Rattle.ll_script_laws.specs.Laws.{PlayersLaw, PublishedLaw}
use Rattle.ll_script_laws.proofs.ChannelLemmas.{IsHeard, channel-kept}
use Rattle.ll_script_laws.proofs.ItemTexts.{IsRead}

-- one that is about a date range has attributes
none_allowed : (x y : Bool) → (if x then Some IdTaken else if y then Some BadAttribute else Some BadAttribute) ≢ None
none_allowed true y = λ h. cc
none_allowed false true = λ h. cc
none_allowed false false = λ h. cc

some_attributes : (c : Configuration) (before : List Item) (r : ℕ) (id : List ℕ) (list : List Attribute) → range.refusal c before (item.Range r id list) ≡ None → list ≢ []
some_attributes c before r id [] h = λ e. absurd (none_allowed (is_listed id (announced c before) || was_removed (end_time before) id (announced c before)) (is_id id) h)
some_attributes c before r id (a ∷ list) h = λ e. cc

has_texts : (c : Configuration) (before : List Item) (i : Item) → IsRead i → range.refusal c before i ≡ None → HasTexts i
has_texts c before (item.Range r id list) read h = (read.0, read.1 (some_attributes c before r id list h))
has_texts c before (item.Unrange r id) read h = read
has_texts c before (item.Part p) read h = tt
has_texts c before (item.Finish r) read h = tt
has_texts c before (item.Break r time) read h = tt
has_texts c before (item.Init r media) read h = tt
has_texts c before (item.End r) read h = tt

-- ---- all items of a channel

published_more : (c : Configuration) (before list : List Item) (i : Item) → ArePublished c before list → refusal c (before ++ list) i ≡ None → IsRead i
    → ArePublished c before (list ++ i ∷ [])
published_more c before [] i h none read =
    let p = not-refused c before i (ap (λ all. refusal c all i) (sym (append-nil before)) ∙ none) in
    (p.window, p.range, has_texts c (own (rendition_of i) before) i read p.range, tt)
published_more c before (j ∷ list) i h none read =
    (h.0, h.1, h.2, published_more c (before ++ j ∷ []) list i h.3 (ap (λ all. refusal c all i) (append_assoc before (j ∷ []) list) ∙ none) read)

taken-by : (c : Configuration) (list : List Item) (i : Item) (o : Option PublishFault) → refusal c list i ≡ o → ArePublished c [] list → IsRead i
    → ArePublished c [] (if is_none o then list ++ i ∷ [] else list)
taken-by c list i None e h read = published_more c [] list i h e read
taken-by c list i (Some reason) e h read = h

taken-published : (c : Configuration) (list : List Item) (e : Event) → ArePublished c [] list → IsHeard e → ArePublished c [] (taken c list e)
taken-published c list (Publish i) h read = taken-by c list i (refusal c list i) refl h read
taken-published c list (Ask want) h heard = h
taken-published c list (Collect ticket) h heard = h
taken-published c list (Close ticket) h heard = h
taken-published c list (Clock ms) h heard = h

folded-published : (c : Configuration) (es : List Event) (list : List Item) → ArePublished c [] list → Each IsHeard es → ArePublished c [] (fold (taken c) list es)
folded-published c [] list h heard = h
folded-published c (e ∷ es) list h heard = folded-published c es (taken c list e) (taken-published c list e h heard.0) heard.1

each-front : (front later all : List Event) → all ≡ front ++ later → Each IsHeard all → Each IsHeard front
each-front front later all e h = front_of front (subst (Each IsHeard) e h)
  where
    front_of : (front : List Event) → Each IsHeard (front ++ later) → Each IsHeard front
    front_of [] h = tt
    front_of (e ∷ front) h = (h.0, front_of front h.1)

pub published : PublishedLaw
published list place channel front later h e =
    let k = channel-kept list place channel h in
    (k.settings, folded-published channel.settings front [] tt (each-front front later channel.events e k.events))

-- ---- the law on texts

pub players : PlayersLaw
players list place channel first second later r kind h e is_one recent =
    let c = channel.settings in
    let p = published list place channel (first ++ second) later h (e ∙ sym (append_assoc first second later)) in
    let q = folded-longer c second (items c first) in
    let is : items c (first ++ second) ≡ items c first ++ q.0 = fold-append (taken c) [] first second ∙ q.1 in
    subst (λ all. ArePublished c [] all → end_time (own r all) ≤ end_time (own r (items c first)) + skip_limit c
    → applied_text (full_text (seen c (items c first) r)) (delta_text kind (seen c all r)) ≡ Ok (full_text (seen c all r)))
    (sym is) (text c (items c first) q.0 r kind p.0 is_one) p.1 recent
