-- The answer to an item that was settled: whether it was kept changes neither why it is right nor what the pass has heard.
use Rattle.std.proofs.Common.{◌≡◌, inl, inr, ℕ, List, Some, Result, Ok, Err, true, length, nat_le, ap, sym, subst, ◌∙◌}
use mathlib.Core.List.{IsPrefix}
use Rattle.ll_history.specs.declared.deed.Logged.{Logged}
use Rattle.ll_hub.specs.Passes.{PassValue}
use Rattle.ll_settings.specs.Channels.{channel_of_name}
use Rattle.ll_item.specs.Media.{media_limit}
use Rattle.ll_settings.specs.Settings.{Configuration}
use Rattle.std.specs.Prelude.{IfOk}
use Rattle.ll_item.specs.Items.{item_in}
use Rattle.ll_item.specs.declared.item.ItemFault.{ItemFault}
use Rattle.ll_publish.specs.Refusals.{item_refusal}
use Rattle.ll_publisher.proofs.AnswerLemmas.{IsAnswerIn, answer_in, item_reply, refused_known}
use Rattle.ll_publisher.specs.Answers.{IsAnswerAt, refused_in}
use Rattle.ll_publisher.specs.Heard.{IsHeardAt, heard_at}
use Rattle.ll_publisher.specs.Kept.{HasItem, IsSettled}
use Rattle.ll_publisher.specs.Publishing.{IsReplyTo}
use Rattle.ll_publish.specs.Line as says
use Rattle.ll_publish.specs.declared.refusal.Refusal.{Refusal}
use Rattle.ll_publish.specs.declared.success.Success.{Success}
use Rattle.ll_publish.specs.declared.success.Success.TheVariants as success
use Rattle.ll_room.specs.StampedValue.{StampedValue}

-- an accepted item that wasn't kept is answered for as one that was
not-kept : (channels : List Configuration) (pass : PassValue) (history : List Logged) (line : says.Line) (count : ℕ) → IsReplyTo channels pass history line (Ok (success.Accepted count))
    → IsReplyTo channels pass history line (Ok (success.NotKept count))
not-kept channels pass history line count right = record {
  refused = λ reason e. let none : Ok (success.Accepted count) ≡ Err reason = right.refused reason e in absurd (cc);
  told = right.told;
  ruled = right.ruled;
  grows = right.grows;
}

reply-by : (channels : List Configuration) (pass : PassValue) (history : List Logged) (line : says.Line) (mark : StampedValue ℕ) (told : Result Success Refusal)
    → IsReplyTo channels pass history line (Ok (success.Accepted mark.value)) → IsSettled (Ok mark) told → IsReplyTo channels pass history line told
reply-by channels pass history line mark told right (inl e) = subst (IsReplyTo channels pass history line) (sym e) right
reply-by channels pass history line mark told right (inr e) = subst (IsReplyTo channels pass history line) (sym e) (not-kept channels pass history line mark.value right)

settled-in : (channels : List Configuration) (pass : PassValue) (history : List Logged) (name text media : List ℕ) (answer : Result (StampedValue ℕ) Refusal)
    (told : Result Success Refusal) → nat_le (length media) media_limit ≡ true
    → ((reason : Refusal) → refused_in (channel_of_name channels 0 name) text media ≡ Some reason → answer ≡ Err reason)
    → IsAnswerIn channels pass history name text media answer → IsPrefix pass.history history → IsSettled answer told → IsReplyTo channels pass history (says.Item name text media) told
settled-in channels pass history name text media (Ok mark) told small refused right grows settled =
    reply-by channels pass history (says.Item name text media) mark told (item_reply channels pass history name text media (Ok mark) small refused right grows) settled
settled-in channels pass history name text media (Err reason) told small refused right grows settled =
    subst (IsReplyTo channels pass history (says.Item name text media)) (sym settled) (item_reply channels pass history name text media (Err reason) small refused right grows)

-- the answer to an item that the channel at a place gave, once it is settled, answers the line of the item for the channel of its name
pub settled_reply : (channels : List Configuration) (pass after : PassValue) (name text media : List ℕ) (place : ℕ) (c : Configuration) (answer : Result (StampedValue ℕ) Refusal)
    (told : Result Success Refusal) → nat_le (length media) media_limit ≡ true → channel_of_name channels 0 name ≡ Some (place, c)
    → ((fault : ItemFault) → item_in c text media ≡ Err fault → answer ≡ Err (item_refusal fault)) → IsAnswerAt c place pass after.history text media answer
    → IsHeardAt place answer pass after → IsSettled answer told → IsReplyTo channels pass after.history (says.Item name text media) told
settled_reply channels pass after name text media place c answer told small known refused right heard settled =
    settled-in channels pass after.history name text media answer told small (refused_known channels name text media place c answer known refused)
    (answer_in channels pass after.history name text media place c answer known right) heard.grows settled

heard-by : (place : ℕ) (mark : StampedValue ℕ) (told : Result Success Refusal) (history : List Logged) (before : PassValue) → IsSettled (Ok mark) told
    → heard_at place (Ok (success.Accepted mark.value)) history before ≡ heard_at place told history before
heard-by place mark told history before (inl e) = ap (λ r. heard_at place r history before) (sym e)
heard-by place mark told history before (inr e) = ap (λ r. heard_at place r history before) (sym e)

pub settled_heard : (place : ℕ) (answer : Result (StampedValue ℕ) Refusal) (told : Result Success Refusal) (before after : PassValue)
    → IsSettled answer told → IsHeardAt place answer before after → after ≡ heard_at place told after.history before
settled_heard place (Ok mark) told before after settled heard = heard.passed ∙ heard-by place mark told after.history before settled
settled_heard place (Err reason) told before after settled heard = heard.passed ∙ ap (λ r. heard_at place r after.history before) (sym settled)

-- an item that a channel accepted is in the stamp of its answer
pub accepted_item : (c : Configuration) (place : ℕ) (pass : PassValue) (history : List Logged) (text media : List ℕ) (answer : Result (StampedValue ℕ) Refusal)
    → IsAnswerAt c place pass history text media answer → IfOk answer HasItem
accepted_item c place pass history text media (Ok mark) is = (is.item, is.stamp)
accepted_item c place pass history text media (Err reason) is = tt
