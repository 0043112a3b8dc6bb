-- The replies of entries.
use Rattle.std.proofs.Common.{◌≡◌, ℕ, List, [], ◌∷◌, ◌++◌, Option, Some, None, Result, Ok, Err, IfOk, MatchOption, ap, ap₂, sym, subst, ◌∙◌, arith, bytes_eq, length, not, true}
use Rattle.ll_attr.specs.Words.{pieces_at}
use Rattle.ll_check.specs.EntryReplies.{BringsNone, IsBrought, IsLastOf, brought_in}
use Rattle.ll_check.specs.Lines.{IsLast, IsText}
use Rattle.ll_check.specs.Steps.{has_entry}
use Rattle.ll_check.specs.declared.replies.EntryReply.{EntryReply}
use Rattle.ll_entry_check.specs.Brought.{brought_by}
use Rattle.ll_check.specs.Found.{ChainValue, IsOf}
use Rattle.ll_entry.specs.Chain.{Chain, Inside, entry_at, joined, joined_by}
use Rattle.ll_entry.specs.Frame.{last_line}
use Rattle.ll_entry.specs.Entered.{event_of, fault_in}
use Rattle.ll_entry.specs.Entries.{entry_in}
use Rattle.ll_entry.specs.declared.entry.Recorded.{Recorded}
use Rattle.ll_entry.specs.declared.fault.CheckKind.{CheckKind}
use Rattle.ll_entry.specs.declared.version.Version.{Version}
use Rattle.ll_settings.specs.Settings.{Configuration}
use Rattle.ll_room.specs.RoomValue.{RoomValue, Stands}
use Rattle.ll_verdict.specs.Events.{Event}
use Rattle.ll_verdict.specs.declared.reply.Reply.{Reply}

-- the entry of a line has the reply of its event
pub brought-of : (k : ChainValue) (ch : Chain) (text : List ℕ) (version : Version) (settings : Configuration) (room : RoomValue) (entry : Recorded)
    (r : Result (Option Reply) CheckKind) → IsOf k ch → version ≡ k.version → settings ≡ k.room.settings → room ≡ k.room → entry_in version settings text ≡ Ok entry
    → ((events : List Event) → Stands room events
    → IfOk r (λ x. (fault_in version room.settings events entry ≡ None) × (x ≡ brought_by room.settings events (event_of entry))))
    → IfOk r (λ x. ((now : Chain) × (joined ch (entry_in ch.version ch.settings text) ≡ Ok now)) × (x ≡ brought_in ch (entry_in ch.version ch.settings text)))
brought-of k ch text version settings room entry (Err kind) of v s h read right = tt
brought-of k ch text version settings room entry (Ok x) of v s h read right =
    let its-version : version ≡ ch.version = v ∙ sym (ap (λ (c : Chain). c.version) of.chain) in
    let its-settings : k.room.settings ≡ ch.settings = sym (ap (λ (c : Chain). c.settings) of.chain) in
    let room-settings : room.settings ≡ ch.settings = ap (λ (x : RoomValue). x.settings) h ∙ its-settings in
    let is : entry_in ch.version ch.settings text ≡ Ok entry = ap₂ (λ v s. entry_in v s text) (sym its-version) (sym (s ∙ its-settings)) ∙ read in
    let b = right ch.events (subst (λ x. Stands x ch.events) (sym h) of.stands) in
    let event = event_of entry in
    let right-is : fault_in ch.version ch.settings ch.events entry ≡ None =
    ap₂ (λ v s. fault_in v s ch.events entry) (sym its-version) (sym room-settings) ∙ b.0 in (
      (record ch { events = ch.events ++ event ∷ [] }, ap (joined ch) is ∙ ap (λ o. joined_by o ch event) right-is),
      b.1 ∙ ap (λ s. brought_by s ch.events event) room-settings ∙ ap (brought_in ch) (sym is),
    )

-- ---- a line

pub last-is : (line : List ℕ) (rest : List (List ℕ)) → IsLast (line ∷ rest) rest → bytes_eq line last_line ≡ true
last-is line rest l =
    let is : line ≡ l.line = cc in ap (λ x. bytes_eq x last_line) is ∙ l.last

-- the line's text is copied
pub brought-is : (ch : Chain) (line text own rest : List ℕ) (reply : Option Reply) → IsText text (line ∷ pieces_at 10 rest) (pieces_at 10 rest) → own ≡ text
    → ((now : Chain) × (joined ch (entry_in ch.version ch.settings text) ≡ Ok now)) × (reply ≡ brought_in ch (entry_in ch.version ch.settings text))
    → IsBrought ch own reply (line ∷ pieces_at 10 rest)
brought-is ch line text own rest reply is same r =
    subst (λ t. IsBrought ch t reply (line ∷ pieces_at 10 rest)) (sym same) (record {
      rest = rest;
      are = is.are;
      other = is.other;
      now = r.0.0;
      right = ap (λ o. joined ch (entry_at ch.version ch.settings o)) is.read ∙ r.0.1;
      brings = r.1 ∙ ap (λ o. brought_in ch (entry_at ch.version ch.settings o)) (sym is.read);
    })

-- no line ends in a text
pub no-line : (old new : ChainValue) (ch : Chain) (text more : List ℕ) → pieces_at 10 text ≡ text ∷ [] → new ≡ old → BringsNone (Some old) (Some new) (Inside ch) text more
no-line old new ch text more one same = record {
  none = λ some. absurd (omega (arith, some, ap (λ ls. length ls) one));
  same = ap Some same;
}

-- its first line is the last one of its chunk
pub last-line : (old new : ChainValue) (ch : Chain) (text more line : List ℕ) (rest : List (List ℕ)) → pieces_at 10 (text ++ more) ≡ line ∷ rest → IsLastOf old new line
    → BringsNone (Some old) (Some new) (Inside ch) text more
last-line old new ch text more line rest are l = record {
  none = λ some. ap (has_entry (Inside ch)) are ∙ ap not l.last;
  same = ap Some l.same;
}

-- what is said of a line is said of the text that it begins
pub reply-in : (old new : ChainValue) (ch : Chain) (text more line rest : List ℕ) (r : Result (Option EntryReply) CheckKind)
    → pieces_at 10 (text ++ more) ≡ line ∷ pieces_at 10 (rest ++ more)
    → IfOk r (λ x. MatchOption x (IsLastOf old new line) (λ b. IsBrought ch b.line b.reply (line ∷ pieces_at 10 (rest ++ more))))
    → IfOk r (λ x. MatchOption x (BringsNone (Some old) (Some new) (Inside ch) text more) (λ b. IsBrought ch b.line b.reply (pieces_at 10 (text ++ more))))
reply-in old new ch text more line rest (Err kind) are h = tt
reply-in old new ch text more line rest (Ok None) are h = last-line old new ch text more line (pieces_at 10 (rest ++ more)) are h
reply-in old new ch text more line rest (Ok (Some b)) are h = subst (λ l. IsBrought ch b.line b.reply l) (sym are) h
