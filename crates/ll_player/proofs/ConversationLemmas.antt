-- What was sent on a player's connection.
use Rattle.std.proofs.Common.{◌≡◌, ◌<◌, ℕ, List, [], ◌++◌, Bool, true, false, None, inl, inr, refl, ap, arith, sym, subst, ◌∙◌, append-nil, append_assoc, length, length-append}
use Rattle.std.proofs.lemmas.List.{nil_from_length}
use Rattle.std.specs.List.{concat}
use Rattle.ll_device.specs.Inward.{looked_at}
use Rattle.ll_player.specs.Laws.{BeginsToConverse, Converses, ConversesInSteps, HangsUp, Opens, Shares, Shuts, Stops}
use Rattle.ll_player.specs.Playing.{IsPlaying, Opening, answers_in, last_pass, moment, wants_in, wants_of}
use Rattle.ll_player.proofs.CutLemmas.{cut-same}
use Rattle.ll_player.proofs.LeftLemmas.{left-few}
use Rattle.ll_player.proofs.PlayLemmas.{playing-first, playing-gone, playing-later}
use Rattle.ll_player.proofs.StepLemmas.{why-shut}
use Rattle.ll_session.proofs.PastLemmas.{is_talk}
use Rattle.ll_session.proofs.RequestLemmas.{requests-extend}
use Rattle.ll_session.specs.Past.{Call, HasShut, Past, conversation, past}
use Rattle.ll_session.specs.Requests.{Entry, requests}
use Rattle.ll_session.specs.Talk.{SessionValue, most_waiting}
use Rattle.ll_settings.specs.Settings.{Configuration}

more-bytes : (most : ℕ) (bytes more : List ℕ) → most < length bytes → most < length (bytes ++ more)
more-bytes most bytes more many = omega (arith, length-append bytes more, many)

nothing-follows : (first later all : List Entry) → all ≡ first ++ later → all ≡ first → later ≡ []
nothing-follows first later all is same = nil_from_length later (omega (arith, length-append first later, ap length (sym is ∙ same)))

-- a session that has shut for another reason than too many bytes has taken all requests
taken-by : (p : Past) → p.overflowed ≡ false → HasShut p → requests p.fed ≡ p.entries
taken-by p few (inl over) = absurd (cc (sym few ∙ over))
taken-by p few (inr last) = last.all

-- so has one that has none left
all-taken : (shut : Bool) (calls : List Call) → (past calls).session.shut ≡ shut → (past calls).overflowed ≡ false → ((past calls).session.shut ≡ true → HasShut (past calls))
    → ((past calls).session.shut ≡ false → requests (past calls).session.unread ≡ []) → (past calls).session.out ≡ None
    → requests (past calls).fed ≡ (past calls).entries
all-taken true calls is few why none free = taken-by (past calls) few (why is)
all-taken false calls is few why none free =
    (is_talk calls).rest is free ∙ ap (λ l. (past calls).entries ++ l) (none is) ∙ append-nil (past calls).entries

module _ (shows : ℕ → Type 0) (hub : List Configuration) where
  pub opens : Opens shows hub
  opens = λ alone o. playing-first shows hub alone o

  pub shares : Shares shows hub
  shares = λ alone o m later f p. playing-later shows hub alone o m.inward m.written m.session m.claim m.pass later p f

  pub hangs-up : HangsUp shows hub
  hangs-up = λ alone o m claim is p.
      playing-gone shows hub alone o m.inward (looked_at 0 1 [] m.inward) m.written m.session claim m.pass
      (subst (λ c. IsPlaying shows hub alone o (moment m.inward m.written m.session c m.pass)) is p) refl

  pub shuts : Shuts shows hub
  shuts = λ alone o m p. why-shut shows hub alone o m p

  pub stops : Stops shows hub
  stops = λ alone o m p. cut-same shows hub alone o m.inward m.written m.session m.claim m.pass p

  pub conversed : ConversesInSteps shows hub
  conversed = λ alone o m p unclaimed free empty none.
      let q = past p.calls in
      let talk = is_talk p.calls in
      let sent : q.session.answers ≡ [] = ap (λ (v : SessionValue). v.answers) p.session ∙ empty in
      let few =
      left-few shows hub alone (last_pass o.pass p.plays) m.pass p.ends m.session.out m.session.shut q.overflowed m.claim (wants_of q.entries) (wants_in p.plays) p.left in
      record {
        reads = p.reads;
        ends = p.ends;
        came = q.fed;
        read = p.read;
        text = q.gone;
        right = record {
          entries = q.entries;
          later = talk.first.0;
          first = talk.first.1;
          unanswered = few.0;
          asked = few.1;
          few = few.2;
          overflowed = q.overflowed;
          many = talk.many;
          said = sym (append-nil q.gone) ∙ ap (λ (xs : List (List ℕ)). q.gone ++ concat xs) (sym sent) ∙ talk.answers
              ∙ ap (λ rs. concat (conversation q.overflowed q.entries rs)) p.told;
        };
        all = λ over. (
          nothing-follows q.entries talk.first.0 (requests q.fed) talk.first.1
              (all-taken q.session.shut p.calls refl over
              (λ shut. why-shut shows hub alone o m p (sym (ap (λ (v : SessionValue). v.shut) p.session) ∙ shut))
              (λ unshut. ap (λ (v : SessionValue). requests v.unread) p.session ∙ none (sym (ap (λ (v : SessionValue). v.shut) p.session) ∙ unshut))
              (ap (λ (v : SessionValue). v.out) p.session ∙ free)),
          few.4 unclaimed free over,
        );
        sent = p.sent;
      }

  pub converses : Converses shows hub
  converses = λ start pass before after base written c free.
      conversed true (record { pass = start; inward = before; written = base }) (moment after written c.session None pass) c.playing refl free (c.drained.sent free)
      (λ unshut. c.drained.none unshut free)

  pub begins-to-converse : BeginsToConverse shows hub
  begins-to-converse = λ alone o inward written pass c.
      let q = past c.calls in
      let talk = is_talk c.calls in
      let more = requests-extend q.fed c.untaken in
      record {
        reads = c.reads;
        ends = c.ends;
        came = q.fed ++ c.untaken;
        read = c.read;
        text = concat (conversation q.overflowed q.entries (answers_in c.plays));
        right = record {
          entries = q.entries;
          later = talk.first.0 ++ more.0;
          first = more.1 ∙ ap (λ es. es ++ more.0) talk.first.1 ∙ append_assoc q.entries talk.first.0 more.0;
          unanswered = c.unanswered;
          asked = c.asked;
          few = c.few;
          overflowed = q.overflowed;
          many = λ over. more-bytes most_waiting q.fed c.untaken (talk.many over);
          said = refl;
        };
        sent = (q.gone, concat q.session.answers, ap (λ rs. concat (conversation q.overflowed q.entries rs)) (sym c.told) ∙ sym talk.answers, c.sent);
      }
