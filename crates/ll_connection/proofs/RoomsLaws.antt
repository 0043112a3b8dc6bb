-- What requests and closes preserve of the channels is preserved by all that comes to a connection.
use Rattle.std.proofs.Common.{ℕ, zero, suc, List, [], ◌∷◌, Bool, true, false, Option, Some, None, length, fold}
use Rattle.ll_directive.specs.Targets.{WantValue}
use Rattle.ll_script_rooms.specs.declared.owner.Owner.{Owner}
use Rattle.ll_script_rooms.specs.declared.owner.Owner.TheVariants as owner
use Rattle.ll_settings.specs.Settings.{Configuration}
use Rattle.ll_settings.specs.Channels.{channel_of_name}
use Rattle.ll_session.specs.Past.{overflows}
use Rattle.ll_session.specs.Talk.{SessionValue, fresh, next_want, pulled}
use Rattle.ll_verdict.specs.declared.reply.Reply.{Reply}
use Rattle.ll_wire.specs.declared.answer.Answer.{Answer}
use Rattle.ll_wire.specs.declared.answer.Answer.TheVariants as player
use Rattle.ll_script_rooms.specs.World.{World, all_settings, ask, close, repeat, silent}
use Rattle.ll_connection.specs.Turn.{Connections, bytes, bytes_to, end, end_of, reply, reply_to, session_of}
use Rattle.ll_connection.specs.Visit.{Luck, Visit, ask_at, ask_in, asked, answered_by, arrived, came, close_if, enough, hand_all, submit, released, put_out, step, step_by, step_if}

module _ (P : World → Type 0) (asks : (w : World) (o : Owner) (place : ℕ) (want : WantValue) → P w → P (silent (ask o place want (silent w))))
    (closes : (w : World) (o : Owner) → P w → P (close o w)) where
  ask_at-keeps : (found : Bool) (n place : ℕ) (want : WantValue) (w : World) → P w → P (ask_at found n place want w).rooms
  ask_at-keeps true n place want w p = asks w (owner.Connection n) place want p
  ask_at-keeps false n place want w p = p

  ask_in-keeps : (found : Bool) (n : ℕ) (want : WantValue) (w : World) (c : Option (ℕ × Configuration)) → P w → P (ask_in found n want w c).rooms
  ask_in-keeps found n want w None p = p
  ask_in-keeps found n want w (Some c) p = ask_at-keeps found n c.0 want w p

  pub asked-keeps : (found : Bool) (n : ℕ) (want : WantValue) (w : World) → P w → P (asked found n want w).rooms
  asked-keeps found n want w p = ask_in-keeps found n want w (channel_of_name (all_settings w) 0 want.channel) p

  close_if-keeps : (is : Bool) (n : ℕ) (w : World) → P w → P (close_if is n w)
  close_if-keeps true n w p = closes w (owner.Connection n) p
  close_if-keeps false n w p = p

  pub came-keeps : (n : ℕ) (piece : List ℕ) (v : Visit) → P v.rooms → P (came n piece v).rooms
  came-keeps n piece v p = close_if-keeps (overflows v.session piece) n v.rooms p

  answered_by-keeps : (found : Bool) (n : ℕ) (s : SessionValue) (w : World) (a : Option Answer) → P w → P (answered_by found n s w a).rooms
  answered_by-keeps found n s w (Some a) p = p
  answered_by-keeps found n s w None p = came-keeps n [] (record { session = s; rooms = w }) p

  step_by-keeps : (luck : Luck) (n : ℕ) (v : Visit) (want : Option WantValue) → P v.rooms → P (step_by luck n v want).rooms
  step_by-keeps luck n v None p = p
  step_by-keeps luck n v (Some want) p =
      answered_by-keeps luck.answers n v.session (asked luck.asks n want v.rooms).rooms (asked luck.asks n want v.rooms).answer (asked-keeps luck.asks n want v.rooms p)

  step_if-keeps : (takes : Bool) (luck : Luck) (n : ℕ) (v : Visit) → P v.rooms → P (step_if takes luck n v).rooms
  step_if-keeps true luck n v p = step_by-keeps luck n (record v { session = pulled v.session }) (next_want v.session) p
  step_if-keeps false luck n v p = p

  pub step-keeps : (luck : Luck) (n : ℕ) (v : Visit) → P v.rooms → P (step luck n v).rooms
  step-keeps luck n v p = step_if-keeps luck.takes luck n v p

  steps-keep : (n m : ℕ) (v : Visit) → P v.rooms → P (repeat (step enough n) m v).rooms
  steps-keep n zero v p = p
  steps-keep n (suc m) v p = step-keeps enough n (repeat (step enough n) m v) (steps-keep n m v p)

  hand_all-keeps : (n : ℕ) (v : Visit) → P v.rooms → P (hand_all n v).rooms
  unfolding hand_all
  hand_all-keeps n v p = steps-keep n (length v.session.unread) v p

  all-keep : (lucks : List Luck) (n : ℕ) (v : Visit) → P v.rooms → P (fold (λ u luck. step luck n u) v lucks).rooms
  all-keep [] n v p = p
  all-keep (luck ∷ lucks) n v p = all-keep lucks n (step luck n v) (step-keeps luck n v p)

  submit-keeps : (lucks : List Luck) (n : ℕ) (v : Visit) → P v.rooms → P (submit lucks n v).rooms
  submit-keeps lucks n v p = hand_all-keeps n (fold (λ u luck. step luck n u) v lucks) (all-keep lucks n v p)

  arrived-keeps : (lucks : List Luck) (n : ℕ) (piece : List ℕ) (v : Visit) → P v.rooms → P (arrived lucks n piece v).rooms
  arrived-keeps lucks n piece v p = submit-keeps lucks n (came n piece v) (came-keeps n piece v p)

  released-keeps : (lucks : List Luck) (n : ℕ) (a : Reply) (v : Visit) → P v.rooms → P (released lucks n a v).rooms
  released-keeps [] n a v p = submit-keeps [] n (record v { session = put_out true v.session (player.Reply a) }) p
  released-keeps (luck ∷ lucks) n a v p = submit-keeps lucks n (record v { session = put_out luck.answers v.session (player.Reply a) }) p

  bytes_to-keeps : (lucks : List Luck) (n : ℕ) (piece : List ℕ) (all : Connections) (w : World) (s : Option (Option SessionValue)) → P w → P (bytes_to lucks n piece all w s).rooms
  bytes_to-keeps lucks n piece all w None p = arrived-keeps lucks n piece (record { session = fresh; rooms = w }) p
  bytes_to-keeps lucks n piece all w (Some None) p = p
  bytes_to-keeps lucks n piece all w (Some (Some s)) p = arrived-keeps lucks n piece (record { session = s; rooms = w }) p

  pub bytes-keeps : (lucks : List Luck) (n : ℕ) (piece : List ℕ) (all : Connections) (w : World) → P w → P (bytes lucks n piece all w).rooms
  bytes-keeps lucks n piece all w p = bytes_to-keeps lucks n piece all w (session_of n all) p

  end_of-keeps : (n : ℕ) (all : Connections) (w : World) (s : Option (Option SessionValue)) → P w → P (end_of n all w s).rooms
  end_of-keeps n all w None p = p
  end_of-keeps n all w (Some None) p = p
  end_of-keeps n all w (Some (Some s)) p = closes w (owner.Connection n) p

  pub end-keeps : (n : ℕ) (all : Connections) (w : World) → P w → P (end n all w).rooms
  end-keeps n all w p = end_of-keeps n all w (session_of n all) p

  reply_to-keeps : (lucks : List Luck) (n : ℕ) (a : Reply) (all : Connections) (w : World) (s : Option (Option SessionValue)) → P w → P (reply_to lucks n a all w s).rooms
  reply_to-keeps lucks n a all w None p = p
  reply_to-keeps lucks n a all w (Some None) p = p
  reply_to-keeps lucks n a all w (Some (Some s)) p = released-keeps lucks n a (record { session = s; rooms = w }) p

  pub reply-keeps : (lucks : List Luck) (n : ℕ) (a : Reply) (all : Connections) (w : World) → P w → P (reply lucks n a all w).rooms
  reply-keeps lucks n a all w p = reply_to-keeps lucks n a all w (session_of n all) p
