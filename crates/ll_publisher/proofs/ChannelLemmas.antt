-- A line for no channel, and the token of a line for one.
use Rattle.std.proofs.Common.{◌≡◌, ◌∙◌, ℕ, inl, List, None, Option, Some, Result, Err, ap, option_map, refl, subst, sym}
use Rattle.ll_history.specs.declared.deed.Logged.{Logged}
use Rattle.ll_history.proofs.PrefixLemmas.{prefix-self}
use Rattle.ll_hub.specs.Passes.{PassValue}
use Rattle.std.proofs.lemmas.Option.{same_Some}
use Rattle.ll_door.specs.Doors.{secret_in}
use Rattle.ll_publish.specs.Line as says
use Rattle.ll_publish.specs.declared.refusal.Refusal.{Refusal}
use Rattle.ll_publish.specs.declared.success.Success.{Success}
use Rattle.ll_publisher.specs.Answers.{IsLineReason, refused_before}
use Rattle.ll_publisher.specs.Channels.{channel_in, place_in}
use Rattle.ll_publisher.specs.Doors.{Origin, Passes, passage, passage_at}
use Rattle.ll_publisher.specs.Heard.{heard, heard_in}
use Rattle.ll_publisher.specs.Kept.{HasToken}
use Rattle.ll_publisher.specs.Publishing.{Caller, IsReplyTo, IsTold, IsToldBy, caller_after, caller_by}
use Rattle.ll_publisher.specs.declared.keeping.Token.{Token}
use Rattle.ll_settings.specs.Settings.{Configuration}

-- ---- a line for no channel

passes : (o : Origin) (opened : List ℕ) (line : says.Line) → channel_in o.channels line ≡ None → passage o opened line ≡ Passes
passes o opened (says.Item name text media) none = ap (passage_at o.secrets opened (secret_in text)) none
passes o opened (says.At name rendition) none = ap (passage_at o.secrets opened None) none
passes o opened says.Bad none = refl
passes o opened says.TooLong none = refl
passes o opened says.MediaTooLong none = refl

-- a reason for which a line is refused before any room is asked is one
reason : (channels : List Configuration) (pass : PassValue) (history : List Logged) (line : says.Line) (why : Refusal) → refused_before channels line ≡ Some why
    → IsLineReason channels pass history line why
reason channels pass history (says.Item name text media) why is = λ other. inl is
reason channels pass history (says.At name rendition) why is = is
reason channels pass history says.Bad why is = sym (same_Some _ _ is)
reason channels pass history says.TooLong why is = sym (same_Some _ _ is)
reason channels pass history says.MediaTooLong why is = sym (same_Some _ _ is)

refused : (channels : List Configuration) (pass : PassValue) (line : says.Line) (why : Refusal) → refused_before channels line ≡ Some why
    → IsReplyTo channels pass pass.history line (Err why)
refused channels pass line why is = record {
  refused = λ other e. ap Err (same_Some why other (sym is ∙ e));
  told = tt;
  ruled = reason channels pass pass.history line why is;
  grows = prefix-self pass.history;
}

pub told_without : (o : Origin) (caller : Caller) (line : says.Line) (why : Refusal) → channel_in o.channels line ≡ None → refused_before o.channels line ≡ Some why
    → IsTold o caller caller.pass.history line (Err why)
told_without o caller line why none is =
    subst (λ p. IsToldBy p o caller caller.pass.history line (Err why)) (sym (passes o caller.opened line none)) (refused o.channels caller.pass line why is)

-- a refusal changes nothing of what its connection has heard
unheard : (channels : List Configuration) (line : says.Line) (why : Refusal) (pass : PassValue) → channel_in channels line ≡ None
    → pass ≡ heard channels line (Err why) pass.history pass
unheard channels (says.Item name text media) why pass none = sym (ap (λ found. heard_in found (Err why) pass.history pass) none)
unheard channels (says.At name rendition) why pass none = sym (ap (λ found. heard_in found (Err why) pass.history pass) none)
unheard channels says.Bad why pass none = refl
unheard channels says.TooLong why pass none = refl
unheard channels says.MediaTooLong why pass none = refl

pub remembered_without : (o : Origin) (caller : Caller) (line : says.Line) (why : Refusal) → channel_in o.channels line ≡ None
    → caller ≡ caller_after o line (Err why) caller.pass.history caller
remembered_without o caller line why none =
    ap (λ (pass : PassValue). record caller { pass = pass }) (unheard o.channels line why caller.pass none)
    ∙ ap (λ p. caller_by p o line (Err why) caller.pass.history caller) (sym (passes o caller.opened line none))

-- ---- a line for a channel

-- the token for the channel at a place is one for the line's channel
pub token_in : (spools : ℕ) (channels : List Configuration) (line : says.Line) (place : ℕ) (c : Configuration) (told : Result Success Refusal) (t : Option Token)
    → channel_in channels line ≡ Some (place, c) → HasToken spools (Some place) told t → HasToken spools (place_in channels line) told t
token_in spools channels line place c told t known has = subst (λ found. HasToken spools (option_map (λ (f : ℕ × Configuration). f.0) found) told t) (sym known) has
