-- A player's connection that goes on: what each of its steps adds.
use Rattle.std.proofs.Common.{◌≡◌, ◌≤◌, ℕ, ◌+◌, List, [], ◌∷◌, ◌++◌, Bool, true, false, Option, Some, None, length, take, refl, ap, sym, subst, ◌∙◌, append-nil, arith}
use Rattle.std.proofs.KnownBytes.{Appends-nil, Appends-trans}
use Rattle.std.proofs.lemmas.List.{map-append}
use Rattle.std.proofs.lemmas.List.Sums.{fold-append}
use Rattle.std.proofs.lemmas.Option.{none-some, same_Some}
use Rattle.std.specs.Io.KnownBytes.{Appends}
use Rattle.std.specs.List.{concat}
use mathlib.Core.List.{IsPrefix}
use Rattle.ll_device.proofs.InwardLemmas.{looked_at-none, looked_at-on}
use Rattle.ll_device.specs.Inward.{Inward, looked_at}
use Rattle.ll_directive.specs.Targets.{WantValue}
use Rattle.ll_history.proofs.PrefixLemmas.{prefix-trans}
use Rattle.ll_hub.specs.Claim.{ClaimValue}
use Rattle.ll_hub.specs.Passes.{PassValue}
use Rattle.ll_player.specs.Asking.{IsHeldNow, IsReplyTo, IsToldNow}
use Rattle.ll_player.specs.Playing.{All, AreRight, Follows, Gone, Held, IsAnswerTo, IsLeft, IsPlaying, Later, Moment, Now, Opening, Play, Shut, answers_in, last_pass, moment, wants_in, wants_of}
use Rattle.ll_player.specs.Sending.{HasSent, More, Unsent}
use Rattle.ll_player.specs.Steps.{IsTurn, Nothing, Overflows, Told, Waits}
use Rattle.ll_player.proofs.LeftLemmas.{follows-grows, follows-same, held-grows, left-all, left-as, left-ends, left-gone, left-later, left-nothing}
use Rattle.ll_player.proofs.SessionLemmas.{fed-free, fed-out, fed-over, fed-waits, no-wants, overflows-out, past-one, past-two, replied-free, taken, unmuted-none, unmuted-one, unmuted-two, wants-append}
use Rattle.ll_session.specs.Past.{AreUnmuted, Call, Feed, Next, Past, Reply, Send, called, next_entries, overflows, past, reply_by, taken_by}
use Rattle.ll_session.specs.Talk.{SessionValue, fed, fed_to, fresh, most_waiting, next_want, pulled, replied, sent}
use Rattle.ll_settings.specs.Settings.{Configuration}
use Rattle.ll_wire.specs.declared.answer.Answer.{Answer}
use Rattle.std.proofs.Math.Bool.{or-true}
use Rattle.std.specs.Prelude.{◌||◌, nat_lt}

-- ---- one answer more

abbrev pub play : WantValue → Answer → PassValue → PassValue → Play
play want told before after = record { want = want; told = told; before = before; after = after }

wants-more : (plays : List Play) (p : Play) → wants_in (plays ++ p ∷ []) ≡ wants_in plays ++ p.want ∷ []
wants-more plays p = map-append (λ (q : Play). q.want) plays (p ∷ [])

answers-more : (plays : List Play) (p : Play) → answers_in (plays ++ p ∷ []) ≡ answers_in plays ++ p.told ∷ []
answers-more plays p = map-append (λ (q : Play). q.told) plays (p ∷ [])

last-more : (pass : PassValue) (plays : List Play) (p : Play) → last_pass pass (plays ++ p ∷ []) ≡ p.after
last-more pass plays p = fold-append (λ (before : PassValue) (q : Play). q.after) pass plays (p ∷ [])

module _ (shows : ℕ → Type 0) (hub : List Configuration) (alone : Bool) where
  right-more : (pass : PassValue) (plays : List Play) (p : Play) → AreRight shows hub alone pass plays → Follows alone (last_pass pass plays) p.before
      → IsAnswerTo shows hub alone p.want p.before p.after p.told → AreRight shows hub alone pass (plays ++ p ∷ [])
  right-more pass [] p r f w = (f, w, tt)
  right-more pass (q ∷ more) p r f w = (r.0, r.1, right-more q.after more p r.2 f w)

module _ (shows : ℕ → Type 0) (hub : List Configuration) (alone : Bool) (o : Opening) where
  -- ---- at first

  pub playing-first : IsPlaying shows hub alone o (moment o.inward o.written fresh None o.pass)
  playing-first = record {
    calls = [];
    unmuted = unmuted-none;
    session = refl;
    reads = 0;
    ends = 0;
    read = looked_at-none o.inward;
    plays = [];
    told = refl;
    right = tt;
    left = All refl refl refl (follows-same alone o.pass);
    sent = Appends-nil o.written;
  }

  -- ---- other calls on the session

  -- what is known of the calls `calls`, after which the session and what it took, gave and sent are `p`
  playing-with : (calls : List Call) (p : Past) (plays : List Play) (reads ends : ℕ) (m : Moment) → AreUnmuted calls → past calls ≡ p → p.session ≡ m.session
      → m.inward ≡ looked_at reads ends p.fed o.inward → p.replies ≡ answers_in plays → AreRight shows hub alone o.pass plays
      → IsLeft shows hub alone (last_pass o.pass plays) m.pass ends m.session.out m.session.shut p.overflowed m.claim (wants_of p.entries) (wants_in plays)
      → Appends o.written m.written p.gone → IsPlaying shows hub alone o m
  playing-with calls p plays reads ends m unmuted is session read told right left sent = record {
    calls = calls;
    unmuted = unmuted;
    session = ap (λ (q : Past). q.session) is ∙ session;
    reads = reads;
    ends = ends;
    read = read ∙ ap (λ (q : Past). looked_at reads ends q.fed o.inward) (sym is);
    plays = plays;
    told = ap (λ (q : Past). q.replies) is ∙ told;
    right = right;
    left =
        subst (λ (q : Past). IsLeft shows hub alone (last_pass o.pass plays) m.pass ends m.session.out m.session.shut q.overflowed m.claim (wants_of q.entries) (wants_in plays))
        (sym is) left;
    sent = subst (λ (q : Past). Appends o.written m.written q.gone) (sym is) sent;
  }

  -- ---- bytes are sent

  sent-once : (inward : Inward) (mid written : Option (List ℕ)) (old new : SessionValue) (claim : Option ClaimValue) (pass : PassValue) (count : ℕ)
      → IsPlaying shows hub alone o (moment inward mid old claim pass) → Appends mid written (take count (concat old.answers)) → new ≡ sent old count
      → IsPlaying shows hub alone o (moment inward written new claim pass)
  sent-once inward mid written old new claim pass count p wrote lost =
      let q = past p.calls in
      playing-with (p.calls ++ Send count ∷ []) (called q (Send count)) p.plays p.reads p.ends (moment inward written new claim pass)
      (unmuted-one p.calls (Send count) p.unmuted (λ e. cc)) (past-one p.calls (Send count)) (ap (λ (v : SessionValue). sent v count) p.session ∙ sym lost) p.read p.told p.right
      (left-as shows hub alone (last_pass o.pass p.plays) pass p.ends old.out new.out old.shut new.shut q.overflowed claim (wants_of q.entries) (wants_of q.entries)
      (wants_in p.plays) (wants_in p.plays) (sym (ap (λ (v : SessionValue). v.out) lost)) (sym (ap (λ (v : SessionValue). v.shut) lost)) refl refl p.left)
      (Appends-trans o.written mid written q.gone (take count (concat q.session.answers)) p.sent
      (subst (λ (v : SessionValue). Appends mid written (take count (concat v.answers))) (sym p.session) wrote))

  pub playing-sent : (inward : Inward) (base : Option (List ℕ)) (old : SessionValue) (claim : Option ClaimValue) (pass : PassValue) (written : Option (List ℕ))
      (new : SessionValue) → IsPlaying shows hub alone o (moment inward base old claim pass) → HasSent base old written new → IsPlaying shows hub alone o (moment inward written new claim pass)
  playing-sent inward base old claim pass written new p (Unsent after now none same) =
      let q = past p.calls in
      subst (λ (v : SessionValue). IsPlaying shows hub alone o (moment inward written v claim pass)) (sym same)
      (playing-with p.calls q p.plays p.reads p.ends (moment inward written old claim pass) p.unmuted refl p.session p.read p.told p.right p.left
      (subst (Appends o.written written) (append-nil q.gone) (Appends-trans o.written base written q.gone [] p.sent none)))
  playing-sent inward base old claim pass written new p (More mid after now last count s wrote lost) =
      sent-once inward mid written now new claim pass count (playing-sent inward base old claim pass mid now p s) wrote lost

  -- ---- bytes come

  left-over : (over before : Bool) (last pass : PassValue) (ends more : ℕ) (s : SessionValue) (bytes : List ℕ) (want : WantValue) (keep : Bool) (asked answered : List WantValue)
      → s.out ≡ Some keep → 1 ≤ ends → asked ≡ answered ++ want ∷ [] → IsPrefix last.history pass.history
      → IsLeft shows hub alone last pass (ends + more) (fed_to over s bytes).out (fed_to over s bytes).shut (before || over) None asked answered
  left-over true before last pass ends more s bytes want keep asked answered out n is grows = Shut want refl refl (or-true before) is grows
  left-over false before last pass ends more s bytes want keep asked answered out n is grows = Gone want keep refl out (omega (arith, n)) is grows

  left-fed : (last pass : PassValue) (ends more : ℕ) (s : SessionValue) (over : Bool) (piece : List ℕ) (asked answered : List WantValue) → s.shut ≡ false
      → IsLeft shows hub alone last pass ends s.out s.shut over None asked answered
      → IsLeft shows hub alone last pass (ends + more) (fed s piece).out (fed s piece).shut (over || overflows s piece) None asked answered
  left-fed last pass ends more s over piece asked answered unshut (All a b c d) = All a (fed-free s piece unshut b) c d
  left-fed last pass ends more s over piece asked answered unshut (Held want keep c before after a b d e f g) = absurd (none-some c a)
  left-fed last pass ends more s over piece asked answered unshut (Gone want keep a b n c d) =
      subst (λ (v : SessionValue). IsLeft shows hub alone last pass (ends + more) v.out v.shut (over || overflows s piece) None asked answered) (sym (fed-out s keep piece unshut b))
      (subst (λ (x : Bool). IsLeft shows hub alone last pass (ends + more) (fed_to (nat_lt most_waiting (length (s.unread ++ piece))) s (s.unread ++ piece)).out
      (fed_to (nat_lt most_waiting (length (s.unread ++ piece))) s (s.unread ++ piece)).shut (over || x) None asked answered) (sym (overflows-out s keep piece unshut b))
      (left-over (nat_lt most_waiting (length (s.unread ++ piece))) over last pass ends more s (s.unread ++ piece) want keep asked answered b n c d))
  left-fed last pass ends more s over piece asked answered unshut (Shut want a b f c d) = absurd (cc (sym b ∙ unshut))

  -- they came by `more` reads, at which the other end was found `found` times to have ended it
  pub playing-fed : (mid inward : Inward) (written : Option (List ℕ)) (old new : SessionValue) (pass : PassValue) (more found : ℕ) (piece : List ℕ)
      → IsPlaying shows hub alone o (moment mid written old None pass) → old.shut ≡ false → new ≡ fed old piece → inward ≡ looked_at more found piece mid
      → IsPlaying shows hub alone o (moment inward written new None pass)
  playing-fed mid inward written old new pass more found piece p unshut is read =
      let q = past p.calls in
      let taken : taken_by q.session.shut q.fed piece ≡ q.fed ++ piece = ap (λ (b : Bool). taken_by b q.fed piece) (ap (λ (v : SessionValue). v.shut) p.session ∙ unshut) in
      playing-with (p.calls ++ Feed piece ∷ []) (called q (Feed piece)) p.plays (p.reads + more) (p.ends + found) (moment inward written new None pass)
      (unmuted-one p.calls (Feed piece) p.unmuted (λ e. cc)) (past-one p.calls (Feed piece)) (ap (λ (v : SessionValue). fed v piece) p.session ∙ sym is)
      (looked_at-on o.inward mid inward p.reads p.ends more found q.fed piece p.read read
      ∙ ap (λ bytes. looked_at (p.reads + more) (p.ends + found) bytes o.inward) (sym taken)) p.told p.right
      (subst (λ (v : SessionValue). IsLeft shows hub alone (last_pass o.pass p.plays) pass (p.ends + found) v.out v.shut (q.overflowed || overflows q.session piece) None
      (wants_of q.entries) (wants_in p.plays)) (sym is)
      (subst (λ (v : SessionValue). IsLeft shows hub alone (last_pass o.pass p.plays) pass (p.ends + found) (fed old piece).out (fed old piece).shut
      (q.overflowed || overflows v piece) None (wants_of q.entries) (wants_in p.plays)) (sym p.session)
      (left-fed (last_pass o.pass p.plays) pass p.ends found old q.overflowed piece (wants_of q.entries) (wants_in p.plays) unshut p.left))) p.sent

  -- no bytes came
  pub playing-looked : (mid inward : Inward) (written : Option (List ℕ)) (session : SessionValue) (claim : Option ClaimValue) (pass : PassValue) (more found : ℕ)
      → IsPlaying shows hub alone o (moment mid written session claim pass) → inward ≡ looked_at more found [] mid
      → IsPlaying shows hub alone o (moment inward written session claim pass)
  playing-looked mid inward written session claim pass more found p read =
      let q = past p.calls in
      playing-with p.calls q p.plays (p.reads + more) (p.ends + found) (moment inward written session claim pass) p.unmuted refl p.session
      (looked_at-on o.inward mid inward p.reads p.ends more found q.fed [] p.read read
      ∙ ap (λ bytes. looked_at (p.reads + more) (p.ends + found) bytes o.inward) (append-nil q.fed)) p.told p.right
      (left-ends shows hub alone (last_pass o.pass p.plays) pass p.ends found session.out session.shut q.overflowed claim (wants_of q.entries) (wants_in p.plays) p.left) p.sent

  -- the player of a request that is held has hung up
  pub playing-gone : (mid inward : Inward) (written : Option (List ℕ)) (session : SessionValue) (claim : ClaimValue) (pass : PassValue)
      → IsPlaying shows hub alone o (moment mid written session (Some claim) pass) → inward ≡ looked_at 0 1 [] mid
      → IsPlaying shows hub alone o (moment inward written session None pass)
  playing-gone mid inward written session claim pass p read =
      let q = past p.calls in
      playing-with p.calls q p.plays (p.reads + 0) (p.ends + 1) (moment inward written session None pass) p.unmuted refl p.session
      (looked_at-on o.inward mid inward p.reads p.ends 0 1 q.fed [] p.read read
      ∙ ap (λ bytes. looked_at (p.reads + 0) (p.ends + 1) bytes o.inward) (append-nil q.fed)) p.told p.right
      (left-gone shows hub alone (last_pass o.pass p.plays) pass p.ends 1 session.out session.shut q.overflowed claim (wants_of q.entries) (wants_in p.plays) (omega arith) p.left) p.sent

  -- others have used its pass
  pub playing-later : (inward : Inward) (written : Option (List ℕ)) (session : SessionValue) (claim : Option ClaimValue) (pass later : PassValue)
      → IsPlaying shows hub alone o (moment inward written session claim pass) → Follows alone pass later
      → IsPlaying shows hub alone o (moment inward written session claim later)
  playing-later inward written session claim pass later p f =
      playing-with p.calls (past p.calls) p.plays p.reads p.ends (moment inward written session claim later) p.unmuted refl p.session p.read p.told p.right
      (left-later shows hub alone (last_pass o.pass p.plays) pass later p.ends session.out session.shut (past p.calls).overflowed claim (wants_of (past p.calls).entries) (wants_in p.plays) f p.left)
      p.sent

  -- ---- an answer

  -- the want that is out is answered: it was asked with the pass `before`, and has its answer with the pass `pass`
  playing-answered : (calls : List Call) (q : Past) (plays : List Play) (reads ends : ℕ) (inward : Inward) (written : Option (List ℕ)) (new : SessionValue)
      (want : WantValue) (told : Answer) (before pass : PassValue) (keep : Bool)
      → AreUnmuted calls → past calls ≡ called q (Reply told) → q.session.out ≡ Some keep → replied q.session told ≡ new → inward ≡ looked_at reads ends q.fed o.inward
      → q.replies ≡ answers_in plays → AreRight shows hub alone o.pass plays → wants_of q.entries ≡ wants_in plays ++ want ∷ []
      → Follows alone (last_pass o.pass plays) before → IsAnswerTo shows hub alone want before pass told
      → Appends o.written written q.gone → IsPlaying shows hub alone o (moment inward written new None pass)
  playing-answered calls q plays reads ends inward written new want told before pass keep unmuted is out session read replies right asked follows answer sent =
      let one = play want told before pass in
      let p : Past = record q { session = replied q.session told; replies = q.replies ++ told ∷ [] } in
      playing-with calls p (plays ++ one ∷ []) reads ends (moment inward written new None pass)
      unmuted (is ∙ ap (λ (x : Option Bool). reply_by x q told) out) session read
      (ap (λ rs. rs ++ told ∷ []) replies ∙ sym (answers-more plays one)) (right-more shows hub alone o.pass plays one right follows answer)
      (All refl (sym (ap (λ (v : SessionValue). v.out) session) ∙ replied-free q.session keep told out) (asked ∙ sym (wants-more plays one))
      (subst (λ (last : PassValue). Follows alone last pass) (sym (last-more o.pass plays one)) (follows-same alone pass))) sent

  answered-left : (m : Moment) (claim : ClaimValue) (told : Answer) (now : PassValue) (new : SessionValue) (p : IsPlaying shows hub alone o m)
      → m.claim ≡ Some claim → IsReplyTo hub claim m.pass now told → new ≡ replied m.session told
      → IsLeft shows hub alone (last_pass o.pass p.plays) m.pass p.ends m.session.out m.session.shut (past p.calls).overflowed m.claim (wants_of (past p.calls).entries)
      (wants_in p.plays) → IsPlaying shows hub alone o (moment m.inward m.written new None now)
  answered-left m claim told now new p c reply is (All a b d e) = absurd (none-some claim (sym a ∙ c))
  answered-left m claim told now new p c reply is (Gone want keep a b n d e) = absurd (none-some claim (sym a ∙ c))
  answered-left m claim told now new p c reply is (Shut want a b f d e) = absurd (none-some claim (sym a ∙ c))
  answered-left m claim told now new p c reply is (Held want keep held before after a b d e f g) =
      let q = past p.calls in
      let same : held ≡ claim = same_Some held claim (sym a ∙ c) in
      playing-answered (p.calls ++ Reply told ∷ []) q p.plays p.reads p.ends m.inward m.written new want told before now keep (unmuted-one p.calls (Reply told) p.unmuted (λ u. cc)) (past-one p.calls (Reply told))
      (ap (λ (v : SessionValue). v.out) p.session ∙ b) (ap (λ (v : SessionValue). replied v told) p.session ∙ sym is) p.read p.told p.right d e
      (Later claim after m.pass (subst (λ (x : ClaimValue). IsHeldNow shows hub want before after x) same f) g reply) p.sent

  -- the reply to the request that was held is put out
  pub playing-collected : (inward : Inward) (written : Option (List ℕ)) (old new : SessionValue) (claim : ClaimValue) (told : Answer) (pass now : PassValue)
      → IsPlaying shows hub alone o (moment inward written old (Some claim) pass) → IsReplyTo hub claim pass now told → new ≡ replied old told
      → IsPlaying shows hub alone o (moment inward written new None now)
  playing-collected inward written old new claim told pass now p reply is =
      answered-left (moment inward written old (Some claim) pass) claim told now new p refl reply is p.left

  -- ---- a turn

  turn-nothing : (inward : Inward) (written : Option (List ℕ)) (old new : SessionValue) (pass now : PassValue) → IsPlaying shows hub alone o (moment inward written old None pass)
      → next_want old ≡ None → new ≡ pulled old → now ≡ pass → IsPlaying shows hub alone o (moment inward written new None now)
  turn-nothing inward written old new pass now p none is same =
      let q = past p.calls in
      let asked : wants_of q.entries ≡ wants_of (q.entries ++ next_entries q.session) =
      sym (wants-append q.entries (next_entries q.session)
      ∙ ap (λ ws. wants_of q.entries ++ ws) (ap (λ (v : SessionValue). wants_of (next_entries v)) p.session ∙ no-wants old none) ∙ append-nil (wants_of q.entries)) in
      subst (λ (x : PassValue). IsPlaying shows hub alone o (moment inward written new None x)) (sym same)
      (playing-with (p.calls ++ Next ∷ []) (called q Next) p.plays p.reads p.ends (moment inward written new None pass) (unmuted-one p.calls Next p.unmuted (λ e. cc)) (past-one p.calls Next)
      (ap pulled p.session ∙ sym is) p.read p.told p.right
      (left-as shows hub alone (last_pass o.pass p.plays) pass p.ends (pulled old).out new.out (pulled old).shut new.shut q.overflowed None (wants_of q.entries)
      (wants_of (q.entries ++ next_entries q.session)) (wants_in p.plays) (wants_in p.plays) (sym (ap (λ (v : SessionValue). v.out) is))
      (sym (ap (λ (v : SessionValue). v.shut) is)) asked refl
      (left-nothing shows hub alone (last_pass o.pass p.plays) pass p.ends old q.overflowed (wants_of q.entries) (wants_in p.plays) none p.left)) p.sent)

  -- the requests that were taken, once `want` was
  asked-more : (q : Past) (old : SessionValue) (plays : List Play) (want : WantValue) → q.session ≡ old → wants_of (next_entries old) ≡ want ∷ []
      → wants_of q.entries ≡ wants_in plays → wants_of (called q Next).entries ≡ wants_in plays ++ want ∷ []
  asked-more q old plays want is one all =
      wants-append q.entries (next_entries q.session) ∙ ap (λ ws. wants_of q.entries ++ ws) (ap (λ (v : SessionValue). wants_of (next_entries v)) is ∙ one)
      ∙ ap (λ ws. ws ++ want ∷ []) all

  turn-told : (inward : Inward) (written : Option (List ℕ)) (old new : SessionValue) (pass now : PassValue) (want : WantValue) (told : Answer)
      → IsPlaying shows hub alone o (moment inward written old None pass) → next_want old ≡ Some want → IsToldNow shows hub want pass now told
      → new ≡ replied (pulled old) told → IsPlaying shows hub alone o (moment inward written new None now)
  turn-told inward written old new pass now want told p some right is =
      let q = past p.calls in
      let t = taken old want some in
      let all = left-all shows hub alone (last_pass o.pass p.plays) pass p.ends old.out old.shut q.overflowed (wants_of q.entries) (wants_in p.plays) p.left t.free t.unshut in
      playing-answered (p.calls ++ Next ∷ Reply told ∷ []) (called q Next) p.plays p.reads p.ends inward written new want told pass now t.keep
      (unmuted-two p.calls Next (Reply told) p.unmuted (λ e. cc) (λ e. cc)) (past-two p.calls Next (Reply told)) (ap (λ (v : SessionValue). (pulled v).out) p.session ∙ t.out)
      (ap (λ (v : SessionValue). replied (pulled v) told) p.session ∙ sym is) p.read p.told p.right (asked-more q old p.plays want p.session t.one all.0) all.1 (Now right) p.sent

  -- one request more is taken, and gets no answer now
  turn-held : (inward : Inward) (written : Option (List ℕ)) (old new : SessionValue) (pass now : PassValue) (want : WantValue) (claim : Option ClaimValue)
      → (p : IsPlaying shows hub alone o (moment inward written old None pass)) → next_want old ≡ Some want → new ≡ fed (pulled old) []
      → ((keep : Bool) → (pulled old).out ≡ Some keep → (pulled old).shut ≡ false → Follows alone (last_pass o.pass p.plays) pass
      → IsLeft shows hub alone (last_pass o.pass p.plays) now p.ends new.out new.shut ((past p.calls).overflowed || overflows (pulled old) []) claim (wants_in p.plays ++ want ∷ []) (wants_in p.plays))
      → IsPlaying shows hub alone o (moment inward written new claim now)
  turn-held inward written old new pass now want claim p some is left =
      let q = past p.calls in
      let t = taken old want some in
      let all = left-all shows hub alone (last_pass o.pass p.plays) pass p.ends old.out old.shut q.overflowed (wants_of q.entries) (wants_in p.plays) p.left t.free t.unshut in
      let shut : (pulled q.session).shut ≡ false = ap (λ (v : SessionValue). (pulled v).shut) p.session ∙ t.stays in
      let same : q.fed ≡ taken_by (pulled q.session).shut q.fed [] = sym (ap (λ (b : Bool). taken_by b q.fed []) shut ∙ append-nil q.fed) in
      playing-with (p.calls ++ Next ∷ Feed [] ∷ []) (called (called q Next) (Feed [])) p.plays p.reads p.ends (moment inward written new claim now)
      (unmuted-two p.calls Next (Feed []) p.unmuted (λ e. cc) (λ e. cc)) (past-two p.calls Next (Feed [])) (ap (λ (v : SessionValue). fed (pulled v) []) p.session ∙ sym is)
      (p.read ∙ ap (λ bytes. looked_at p.reads p.ends bytes o.inward) same) p.told p.right
      (subst (λ (v : SessionValue). IsLeft shows hub alone (last_pass o.pass p.plays) now p.ends new.out new.shut (q.overflowed || overflows (pulled v) []) claim
      (wants_of (called q Next).entries) (wants_in p.plays)) (sym p.session)
      (subst (λ ws. IsLeft shows hub alone (last_pass o.pass p.plays) now p.ends new.out new.shut (q.overflowed || overflows (pulled old) []) claim ws (wants_in p.plays))
      (sym (asked-more q old p.plays want p.session t.one all.0)) (left t.keep t.out t.stays all.1))) p.sent

  pub playing-turn : (inward : Inward) (written : Option (List ℕ)) (old new : SessionValue) (claim : Option ClaimValue) (pass now : PassValue)
      → IsPlaying shows hub alone o (moment inward written old None pass) → IsTurn shows hub pass now old new claim
      → IsPlaying shows hub alone o (moment inward written new claim now)
  playing-turn inward written old new claim pass now p (Nothing c none is same) =
      subst (λ (x : Option ClaimValue). IsPlaying shows hub alone o (moment inward written new x now)) (sym c) (turn-nothing inward written old new pass now p none is same)
  playing-turn inward written old new claim pass now p (Told want told c some right is) =
      subst (λ (x : Option ClaimValue). IsPlaying shows hub alone o (moment inward written new x now)) (sym c)
      (turn-told inward written old new pass now want told p some right is)
  playing-turn inward written old new claim pass now p (Waits want held c some right is unshut) =
      turn-held inward written old new pass now want claim p some is
      (λ keep out stays follows. Held want keep held pass now c
      (ap (λ (v : SessionValue). v.out) is ∙ fed-waits (pulled old) keep [] stays out (sym (ap (λ (v : SessionValue). v.shut) is) ∙ unshut)) refl follows right
      (follows-same alone now))
  playing-turn inward written old new claim pass now p (Overflows want held c some right is shut) =
      turn-held inward written old new pass now want claim p some is
      (λ keep out stays follows. Shut want c shut
      (ap (λ (b : Bool). (past p.calls).overflowed || b) (fed-over (pulled old) keep [] stays out (sym (ap (λ (v : SessionValue). v.shut) is) ∙ shut))
      ∙ or-true (past p.calls).overflowed) refl
      (prefix-trans (last_pass o.pass p.plays).history pass.history now.history (follows-grows alone (last_pass o.pass p.plays) pass follows)
      (held-grows shows hub want pass now held right)))
