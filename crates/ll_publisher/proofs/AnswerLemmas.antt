-- Lines of a publisher that are refused before the room of a channel is asked, and the answers to the others.
use Rattle.std.proofs.Common.{◌≡◌, ◌⊎◌, ℕ, inl, inr, List, Option, Some, None, Result, Ok, Err, true, length, nat_le, arith, refl, ap, sym, subst, ◌∙◌}
use Rattle.std.proofs.lemmas.Option.{same_Some}
use Rattle.std.specs.Prelude.{slice_get}
use mathlib.Core.List.{IsPrefix}
use Rattle.ll_history.proofs.HistoryLemmas.{done-earlier}
use Rattle.ll_history.proofs.PrefixLemmas.{prefix-self, prefix-trans}
use Rattle.ll_history.specs.History.{IsShown}
use Rattle.ll_history.specs.declared.deed.Deed.{Deed}
use Rattle.ll_history.specs.declared.deed.Deed.TheVariants as deed
use Rattle.ll_history.specs.declared.deed.Logged.{Logged}
use Rattle.ll_hub.specs.Calls.{HasSeen, IsItemRefused, IsPlace, IsPublishFault}
use Rattle.ll_settings.proofs.ChannelLemmas.{named-within}
use Rattle.ll_item.specs.declared.item.Item.{Item}
use Rattle.ll_item.specs.declared.item.ItemFault.{ItemFault}
use Rattle.ll_publish.specs.Refusals.{item_refusal}
use Rattle.ll_publish.specs.declared.refusal.Refusal.{Refusal}
use Rattle.ll_publish.specs.declared.refusal.Refusal.TheVariants as refusal
use Rattle.ll_rendition.specs.declared.fault.PublishFault.{PublishFault}
use Rattle.ll_settings.specs.Channels.{channel_of_name}
use Rattle.ll_item.specs.Items.{item_in, named}
use Rattle.ll_settings.specs.Settings.{Configuration}
use Rattle.ll_ledger.specs.Sections.{HasRefused, HasStanding}
use Rattle.ll_hub_channel.specs.declared.fault.HubFault.{HubFault}
use Rattle.ll_hub_channel.specs.declared.fault.HubFault.TheVariants as hub
use Rattle.ll_hub_channel.specs.declared.fault.RoomFault.TheVariants as room
use Rattle.ll_service.specs.declared.fault.LinkFault.TheVariants.{Hub}
use Rattle.ll_hub.specs.Passes.{PassValue}
use Rattle.ll_room.specs.StampedValue.{StampedValue}
use Rattle.ll_publisher.specs.Heard.{IsHeardAt, heard_at, heard_in, unstamped}
use Rattle.ll_publisher.specs.Answers.{IsAnswer, IsAnswerAt, IsItemIn, IsItemOf, IsPlaceIn, IsReason, IsRuledOut, IsRuledOutIn, refused_before, refused_by, refused_in, refused_item, refused_name, refused_place}
use Rattle.ll_publisher.specs.Publishing.{IsReplyTo}
use Rattle.ll_item.specs.Media.{media_limit}
use Rattle.ll_publish.specs.Line as says
use Rattle.ll_publish.specs.declared.success.Success.TheVariants as success
use Rattle.ll_verdict.specs.declared.standing.Standing.{Standing}

pub refused_item-some : (read : Result Item ItemFault) (reason : Refusal) → refused_item read ≡ Some reason
    → (fault : ItemFault) × (read ≡ Err fault) × (item_refusal fault ≡ reason)
refused_item-some (Ok item) reason e = let none : None ≡ Some reason = e in absurd (cc)
refused_item-some (Err fault) reason e = let some : Some (item_refusal fault) ≡ Some reason = e in (fault, refl, cc)

-- the answer to an item that a known channel can't read is this refusal
pub refused_known : {A : Type 0} (channels : List Configuration) (name text media : List ℕ) (place : ℕ) (c : Configuration) (answer : Result A Refusal)
    → channel_of_name channels 0 name ≡ Some (place, c) → ((fault : ItemFault) → item_in c text media ≡ Err fault → answer ≡ Err (item_refusal fault))
    → (reason : Refusal) → refused_in (channel_of_name channels 0 name) text media ≡ Some reason → answer ≡ Err reason
refused_known channels name text media place c answer known by reason e =
    let read : refused_item (item_in c text media) ≡ Some reason = rw known at e in
    let f = refused_item-some (item_in c text media) reason read in
    by f.0 f.1 ∙ ap Err f.2

-- a channel that a name finds stands at its place
pub named-at : (channels : List Configuration) (name : List ℕ) (place : ℕ) (c : Configuration) → channel_of_name channels 0 name ≡ Some (place, c)
    → slice_get channels place ≡ Some c
named-at channels name place c e =
    let w = named-within channels 0 place name c e in
    let same : place ≡ w.0 = omega (arith, w.1) in
    ap (slice_get channels) same ∙ w.2

-- an item that the hub refuses is refused by a rule of its channel, unless out of memory
module _ (c : Configuration) (place : ℕ) (text media : List ℕ) (channels : List Configuration) (found : Item) (before after : PassValue) where
  module _ (known : slice_get channels place ≡ Some c) (read : item_in c text media ≡ Ok found) where
    ruled-by : (reason : Refusal) (fault : PublishFault) → refusal.Rule fault ≡ reason → IsItemRefused channels place found before after fault
        → IsRuledOut c place before after.history text media reason
    ruled-by reason fault is refused = record {
      item = found;
      read = read;
      seen = refused.seen;
      pass = refused.known.pass;
      fault = fault;
      rule = subst (λ s. HasRefused before.history after.history place s refused.seen found fault) (same_Some refused.settings c (sym refused.known.channel ∙ known)) refused.refused;
      told = sym is;
    }

    -- any other fault of the hub ends the connection
    never : {A : Type 0} (reason : Refusal) → Ok reason ≡ Err Hub → A
    never reason e = absurd (cc)

    pub answer-refused : (fault : HubFault) (reason : Refusal) → Ok reason ≡ refused_by fault → IsPublishFault channels place found before after fault
        → IsReason (refused_item (item_in c text media)) (IsRuledOut c place before after.history text media) reason
    answer-refused (hub.Room other (room.Publish fault)) reason e p not =
        inr (ruled-by reason fault (let same : Ok reason ≡ Ok (refusal.Rule fault) = e in cc) p.1)
    answer-refused (hub.Room other (room.Ask fault)) reason e p not = never reason e
    answer-refused (hub.Room other (room.Clock fault)) reason e p not = never reason e
    answer-refused hub.UnknownChannel reason e p not = never reason e
    answer-refused (hub.WentBack before found) reason e p not = never reason e
    answer-refused hub.Stranger reason e p not = never reason e
    answer-refused hub.Short reason e p not = never reason e
    answer-refused hub.Memory reason e p not = never reason e

-- ---- what a pass has seen

-- a refusal changes nothing of a pass but what it has seen
pub heard-refused : (found : Option (ℕ × Configuration)) (reason : Refusal) (before after : PassValue) → HasSeen before after → after ≡ heard_in found (Err reason) after.history before
heard-refused None reason before after seen = seen.same
heard-refused (Some f) reason before after seen = seen.same

pub heard-unseen : (found : Option (ℕ × Configuration)) (reason : Refusal) (pass : PassValue) → pass ≡ heard_in found (Err reason) pass.history pass
heard-unseen None reason pass = refl
heard-unseen (Some f) reason pass = refl

-- if the first answer is a refusal, the pass has only seen more since
pub heard-nothing : (place : ℕ) (first : Result (StampedValue ℕ) Refusal) (reason : Refusal) (before after : PassValue) → first ≡ Err reason → IsHeardAt place first before after
    → HasSeen before after
heard-nothing place first reason before after is heard =
    record { same = heard.passed ∙ ap (λ r. heard_at place (unstamped r) after.history before) is; grows = heard.grows }

-- an answer to one who has seen more, before, is one to who had seen less
pub heard-earlier : (place : ℕ) (answer : Result (StampedValue ℕ) Refusal) (early before after : PassValue) → HasSeen early before → IsHeardAt place answer before after
    → IsHeardAt place answer early after
heard-earlier place (Ok mark) early before after p h = record {
  passed = h.passed ∙ ap (λ (v : PassValue). heard_at place (unstamped (Ok mark)) after.history v) p.same;
  grows = prefix-trans early.history before.history after.history p.grows h.grows;
}
heard-earlier place (Err reason) early before after p h = record {
  passed = h.passed ∙ ap (λ (v : PassValue). heard_at place (unstamped (Err reason)) after.history v) p.same;
  grows = prefix-trans early.history before.history after.history p.grows h.grows;
}

seen-is : (early before : PassValue) → HasSeen early before → before.seen ≡ early.seen
seen-is early before p = ap (λ (v : PassValue). v.seen) p.same

shown-earlier : (early before after : List Logged) (place : ℕ) (R : List Deed → Type 0) → IsPrefix early before → IsShown before after place R → IsShown early after place R
shown-earlier early before after place R p s = record { right = s.right; grows = prefix-trans early before after p s.grows }

item-earlier : (c : Configuration) (place : ℕ) (early before : PassValue) (history : List Logged) (text media : List ℕ) (mark : StampedValue ℕ) → HasSeen early before
    → IsItemOf c place before history text media mark → IsItemOf c place early history text media mark
item-earlier c place early before history text media mark p i = record {
  item = i.item;
  read = i.read;
  room = i.room;
  stamp = i.stamp;
  seen = i.seen;
  pass = ap (λ list. slice_get list place) (sym (seen-is early before p)) ∙ i.pass;
  accepted = done-earlier early.history before.history history place (deed.Publish i.item) _ p.grows i.accepted;
}

ruled-earlier : (c : Configuration) (place : ℕ) (early before : PassValue) (history : List Logged) (text media : List ℕ) (reason : Refusal) → HasSeen early before
    → IsRuledOut c place before history text media reason → IsRuledOut c place early history text media reason
ruled-earlier c place early before history text media reason p r = record {
  item = r.item;
  read = r.read;
  seen = r.seen;
  pass = ap (λ list. slice_get list place) (sym (seen-is early before p)) ∙ r.pass;
  fault = r.fault;
  rule = shown-earlier early.history before.history history place _ p.grows r.rule;
  told = r.told;
}

pub answer-earlier : (c : Configuration) (place : ℕ) (early before : PassValue) (history : List Logged) (text media : List ℕ) (answer : Result (StampedValue ℕ) Refusal)
    → HasSeen early before → IsAnswerAt c place before history text media answer → IsAnswerAt c place early history text media answer
answer-earlier c place early before history text media (Ok mark) p told = item-earlier c place early before history text media mark p told
answer-earlier c place early before history text media (Err reason) p told = λ other. by (told other)
  where
    by : (refused_item (item_in c text media) ≡ Some reason) ⊎ IsRuledOut c place before history text media reason
        → (refused_item (item_in c text media) ≡ Some reason) ⊎ IsRuledOut c place early history text media reason
    by (inl e) = inl e
    by (inr r) = inr (ruled-earlier c place early before history text media reason p r)

-- ---- the allowed answers to a line

-- the answer to an item in the channel named `name`
abbrev pub IsAnswerIn : List Configuration → PassValue → (history : List Logged) → (name text media : List ℕ) → Result (StampedValue ℕ) Refusal → Type 0
IsAnswerIn channels before history name text media answer =
    IsAnswer (refused_in (channel_of_name channels 0 name) text media) (IsItemIn channels before history name text media) (IsRuledOutIn channels before history name text media) answer

-- the answer of a known channel is one of the channel of its name
reason-in : (channels : List Configuration) (before : PassValue) (history : List Logged) (name text media : List ℕ) (place : ℕ) (c : Configuration) (reason : Refusal)
    → channel_of_name channels 0 name ≡ Some (place, c) → (refused_item (item_in c text media) ≡ Some reason) ⊎ IsRuledOut c place before history text media reason
    → (refused_in (channel_of_name channels 0 name) text media ≡ Some reason) ⊎ IsRuledOutIn channels before history name text media reason
reason-in channels before history name text media place c reason known (inl e) = inl (ap (λ found. refused_in found text media) known ∙ e)
reason-in channels before history name text media place c reason known (inr rule) = inr (record { place = place; settings = c; known = known; rule = rule })

pub answer_in : (channels : List Configuration) (before : PassValue) (history : List Logged) (name text media : List ℕ) (place : ℕ) (c : Configuration)
    (answer : Result (StampedValue ℕ) Refusal)
    → channel_of_name channels 0 name ≡ Some (place, c) → IsAnswerAt c place before history text media answer → IsAnswerIn channels before history name text media answer
answer_in channels before history name text media place c (Ok mark) known item = record { place = place; settings = c; known = known; item = item }
answer_in channels before history name text media place c (Err reason) known told = λ other. reason-in channels before history name text media place c reason known (told other)

within : (channels : List Configuration) (name text media : List ℕ) → nat_le (length media) media_limit ≡ true
    → refused_before channels (says.Item name text media) ≡ refused_in (channel_of_name channels 0 name) text media
within channels name text media small = rw small refl

-- an item with no more bytes than an item may have
pub item_reply : (channels : List Configuration) (pass : PassValue) (history : List Logged) (name text media : List ℕ) (answer : Result (StampedValue ℕ) Refusal)
    → nat_le (length media) media_limit ≡ true
    → ((reason : Refusal) → refused_in (channel_of_name channels 0 name) text media ≡ Some reason → answer ≡ Err reason)
    → IsAnswerIn channels pass history name text media answer → IsPrefix pass.history history → IsReplyTo channels pass history (says.Item name text media) (unstamped answer)
item_reply channels pass history name text media (Ok mark) small refused told grows = record {
  refused = λ reason e. let none : Ok mark ≡ Err reason = refused reason (sym (within channels name text media small) ∙ e) in absurd (cc);
  told = (mark, refl, told);
  ruled = tt;
  grows = grows;
}
item_reply channels pass history name text media (Err reason) small refused told grows = record {
  refused = λ other e. ap unstamped (refused other (sym (within channels name text media small) ∙ e));
  told = tt;
  ruled = subst (λ before. IsReason before (IsRuledOutIn channels pass history name text media) reason) (sym (within channels name text media small)) told;
  grows = grows;
}

-- a place
place_told : (channels : List Configuration) (pass : PassValue) (history : List Logged) (name rendition : List ℕ) (s : Standing)
    → IsPlaceIn channels pass history name rendition s → IsPrefix pass.history history → IsReplyTo channels pass history (says.At name rendition) (Ok (success.Standing s))
place_told channels pass history name rendition s told grows = record {
  refused = λ reason e. let none : None ≡ Some reason = sym (ap refused_name told.named) ∙ sym (ap (λ found. refused_place found rendition) told.known) ∙ e in absurd (cc);
  told = told;
  ruled = tt;
  grows = grows;
}

-- the place that the hub gives for the channel that the name finds
pub place_found : (channels : List Configuration) (pass after : PassValue) (name rendition : List ℕ) (place : ℕ) (c : Configuration) (index : ℕ) (s : Standing)
    → channel_of_name channels 0 name ≡ Some (place, c) → named c rendition ≡ Ok index → IsPlace channels place index pass after s
    → IsReplyTo channels pass after.history (says.At name rendition) (Ok (success.Standing s))
place_found channels pass after name rendition place c index s known is p =
    let same = same_Some p.settings c (sym p.known.channel ∙ named-at channels name place c known) in
    place_told channels pass after.history name rendition s
    (record {
      place = place;
      settings = c;
      known = known;
      index = index;
      named = is;
      seen = p.seen;
      pass = p.known.pass;
      stands = subst (λ k. HasStanding pass.history after.history place k p.seen index s) same p.stands;
    })
    p.stands.grows

-- a line that is refused before any room is asked
pub place_refused : (channels : List Configuration) (pass : PassValue) (name rendition : List ℕ) (reason : Refusal)
    → refused_place (channel_of_name channels 0 name) rendition ≡ Some reason → IsReplyTo channels pass pass.history (says.At name rendition) (Err reason)
place_refused channels pass name rendition reason before = record {
  refused = λ other e. ap Err (same_Some reason other (sym before ∙ e));
  told = tt;
  ruled = before;
  grows = prefix-self pass.history;
}
