-- One connection: a request that is made, a step, and the answers that are written.
use Rattle.std.proofs.Common.{◌≡◌, ◌≢◌, ℕ, ◌+◌, List, [], ◌∷◌, ◌++◌, Option, Bool, Some, None, true, false, refl, ap, ◌∙◌, sym, subst, arith, min, length, length-append, take, drop, append_assoc, append-nil}
use Rattle.std.specs.Prelude.{flat_map}
use Rattle.std.proofs.lemmas.Grind.{flat_map-append}
use Rattle.ll_directive.specs.Targets.{WantValue}
use Rattle.ll_directive.specs.declared.fault.TargetFault.TheVariants.{NotFound}
use Rattle.ll_script_rooms.specs.declared.owner.Owner.{Owner}
use Rattle.ll_script_rooms.specs.declared.owner.Owner.TheVariants.{Connection}
use Rattle.ll_settings.specs.Settings.{Configuration}
use Rattle.ll_script.specs.Answers.{sent_line}
use Rattle.ll_settings.specs.Channels.{channel_of_name}
use Rattle.ll_session.specs.Past.{next_entries}
use Rattle.ll_session.specs.Requests.{Entry}
use Rattle.ll_session.specs.Talk.{SessionValue, fed, muted, next_want, pulled}
use Rattle.ll_wire.specs.declared.answer.Answer.{Answer}
use Rattle.ll_wire.specs.declared.answer.Answer.TheVariants as player
use Rattle.ll_verdict.specs.declared.fault.AskFault.TheVariants.{Memory}
use Rattle.ll_script_rooms.proofs.SettingsLaws.{ask-keeps, close-keeps}
use Rattle.ll_script_rooms.specs.Kept.{Kept, Leads, answers_of, kept_world}
use Rattle.ll_script_rooms.specs.World.{World, all_settings, ask, close, count_end, silent}
use Rattle.ll_script_rooms.specs.declared.answer.ActAnswer as rooms
use Rattle.ll_connection.proofs.RoomsLaws.{came-keeps, step-keeps}
use Rattle.ll_connection.proofs.StepLemmas.{hand_all-still, submit-prefixed, prefixed, still_any, still_shut}
use Rattle.ll_connection.specs.Stands.{AreTold, IsToldVisit, IsVisit, IsStill}
use Rattle.ll_connection.specs.Visit.{Luck, Visit, asked, came, enough, first_spoken, hand_all, submit, muted_if, put_out, step}
use Rattle.ll_connection.specs.declared.sent.Sent.{Sent}

-- what the rooms answered to a request, and kept
pub is_asked : (n : ℕ) (want : WantValue) (w : World) (settings : List Configuration) (place : ℕ) (c : Configuration) (k : Kept) (said : Option rooms.ActAnswer)
    → settings ≡ all_settings w → channel_of_name settings 0 want.channel ≡ Some (place, c) → Leads k said (silent w) (ask (Connection n) place want (silent w))
    → (k ≡ kept_world (asked true n want w).rooms) × (first_spoken (answers_of said) ≡ (asked true n want w).answer)
is_asked n want w settings place c k said e found l = rw (← e, found) (l.stands, ap first_spoken (sym l.answers))

-- it names no channel
pub is_unknown : (n : ℕ) (want : WantValue) (w : World) (settings : List Configuration) (k : Kept) → settings ≡ all_settings w
    → channel_of_name settings 0 want.channel ≡ None → k ≡ kept_world w
    → (k ≡ kept_world (asked true n want w).rooms) × (Some (player.Target NotFound) ≡ (asked true n want w).answer)
is_unknown n want w settings k e none r = rw (← e, none) (r, refl)

-- it is out of memory
pub is_starved : (n : ℕ) (want : WantValue) (w : World) (settings : List Configuration) (place : ℕ) (c : Configuration) (k : Kept)
    → settings ≡ all_settings w → channel_of_name settings 0 want.channel ≡ Some (place, c) → k ≡ kept_world w
    → (k ≡ kept_world (asked false n want w).rooms) × (Some (player.Unavailable Memory) ≡ (asked false n want w).answer)
is_starved n want w settings place c k e found r = rw (← e, found) (r, refl)

-- ---- the settings of all channels stay

abbrev Has : List Configuration → World → Type 0
Has settings w = settings ≡ all_settings w

asks : (settings : List Configuration) (w : World) (o : Owner) (place : ℕ) (want : WantValue) → Has settings w → Has settings (silent (ask o place want (silent w)))
asks settings w o place want e = e ∙ sym (ask-keeps (silent w) o place want)

closes : (settings : List Configuration) (w : World) (o : Owner) → Has settings w → Has settings (close o w)
closes settings w o e = e ∙ sym (close-keeps w o)

pub came_has : (settings : List Configuration) (n : ℕ) (piece : List ℕ) (v : Visit) → settings ≡ all_settings v.rooms → settings ≡ all_settings (came n piece v).rooms
came_has settings n piece v e = came-keeps (Has settings) (asks settings) (closes settings) n piece v e

step_has : (settings : List Configuration) (luck : Luck) (n : ℕ) (v : Visit) → settings ≡ all_settings v.rooms → settings ≡ all_settings (step luck n v).rooms
step_has settings luck n v e = step-keeps (Has settings) (asks settings) (closes settings) luck n v e

-- ---- after which nothing more is handed in

-- a want waits
pub waits_still : (n : ℕ) (s after : SessionValue) (want : WantValue) → next_want s ≡ Some want → after ≡ fed (pulled s) [] → IsStill n after
waits_still n s after want e is w luck = grind arith

-- no want is given
pub none_still : (n : ℕ) (s after : SessionValue) → next_want s ≡ None → after ≡ pulled s → IsStill n after
none_still n s after e is w luck =
    let v : Visit = record { session = s; rooms = w } in
    let here : step enough n v ≡ record { session = after; rooms = w } = rw (is, e) in
    subst (λ (u : Visit). step luck n u ≡ u) here (still_any n luck v e)

-- it has shut
pub shut_still : (n : ℕ) (s : SessionValue) → s.shut ≡ true → IsStill n s
shut_still n s e w luck = still_shut n luck (record { session = s; rooms = w }) e

-- ---- one step, with its luck

muted_some : (es : List Entry) (s : SessionValue) → es ≢ [] → muted_if es s ≡ muted s
muted_some [] s some = absurd (some refl)
muted_some (e ∷ es) s some = refl

module _ (n : ℕ) (s after : SessionValue) (w : World) (k : Kept) where
  abbrev at : Visit
  at = record { session = s; rooms = w }

  -- out of memory for taking requests
  pub step_muted : next_entries s ≢ [] → after ≡ muted s → k ≡ kept_world w → (luck : Luck) × IsVisit after k (step luck n at)
  step_muted some e r = (record { takes = false; asks = true; answers = true }, record { session = e ∙ sym (muted_some (next_entries s) s some); rooms = r })

  -- no want is there
  pub step_none : next_want s ≡ None → after ≡ pulled s → k ≡ kept_world w → (luck : Luck) × IsVisit after k (step luck n at)
  step_none is e r = (enough, rw is (record { session = e; rooms = r }))

  module _ (want : WantValue) (is : next_want s ≡ Some want) where
    -- it is answered, or its answer is out of memory
    pub step_answered : (answer : Answer) (asks found : Bool) → k ≡ kept_world (asked asks n want w).rooms → Some answer ≡ (asked asks n want w).answer
        → after ≡ put_out found (pulled s) answer → (luck : Luck) × IsVisit after k (step luck n at)
    step_answered answer asks found r said e =
        (record { takes = true; asks = asks; answers = found }, rw (is, ← said) (record { session = e; rooms = r }))

    -- it waits
    pub step_held : (asks : Bool) → None ≡ (asked asks n want w).answer → IsVisit after k (came n [] (record { session = pulled s; rooms = (asked asks n want w).rooms }))
        → (luck : Luck) × IsVisit after k (step luck n at)
    step_held asks said i = (record { takes = true; asks = asks; answers = true }, rw (is, ← said) i)

-- ---- answers are written

module _ (n : ℕ) where
  told_then : (xs ys : List (List ℕ)) (before mid after : Sent) → AreTold n xs before mid → AreTold n ys mid after → AreTold n (xs ++ ys) before after
  told_then xs ys before mid after t u = record {
    text = rw (u.text, t.text, flat_map-append) (append_assoc before.text.items (flat_map (sent_line n) xs) (flat_map (sent_line n) ys));
    replies = λ le. omega (arith, t.replies le, u.replies (omega (arith, t.replies le)), length-append xs ys);
  }

  -- no answer is there
  pub told_none : (answers : List (List ℕ)) (sent : Sent) → answers ≡ [] → AreTold n answers sent sent
  told_none answers sent none = rw none (record { text = sym (append-nil sent.text.items); replies = λ le. omega arith })

  -- one answer, and then the others
  pub told_one : (answers : List (List ℕ)) (first : List ℕ) (now new after : Sent) → answers ≡ first ∷ drop 1 answers
      → new.text.items ≡ now.text.items ++ sent_line n first → new.replies ≡ min (now.replies + 1) count_end
      → AreTold n (drop 1 answers) new after → AreTold n answers now after
  told_one answers first now new after is text replies t =
      subst (λ (x : List (List ℕ)). AreTold n x now after) (sym is)
      (told_then (first ∷ []) (drop 1 answers) now new after
      (record { text = text ∙ ap (λ x. now.text.items ++ x) (sym (append-nil (sent_line n first))); replies = λ le. replies }) t)

-- the first answer is gone
pub one_less : (first s t : SessionValue) → t ≡ record s { answers = drop 1 s.answers } → s ≡ record first { answers = s.answers }
    → t ≡ record first { answers = t.answers }
one_less first s t e h = grind arith

-- ---- one step after another

-- a connection goes on from visit `v`: submitting the requests that are left has the result of submitting those of `v`
pub record GoesOn (n : ℕ) (channels : List Configuration) (before now : Sent) (session : SessionValue) (kept : Kept) (v : Visit) : Type 0 where
  pub world : World
  pub stands : kept ≡ kept_world world
  pub settings : channels ≡ all_settings world
  -- the luck so far
  pub lucks : List Luck
  pub rest : (after : Sent) (s : SessionValue) (k : Kept) (more : List Luck) → IsToldVisit n now after s k (submit more n (record { session = session; rooms = world }))
      → IsToldVisit n before after s k (submit (lucks ++ more) n v)

module _ (n : ℕ) where
  told_first : (answers : List (List ℕ)) (before now after : Sent) (s : SessionValue) (k : Kept) (u : Visit) → AreTold n answers before now
      → IsToldVisit n now after s k u → IsToldVisit n before after s k (prefixed answers u)
  told_first answers before now after s k u t h =
      record { session = h.session; rooms = h.rooms; told = told_then n answers u.session.answers before now after t h.told }

  -- the answers so far are in front of those that follow
  in_front : (luck : Luck) (more : List Luck) (s : SessionValue) (w : World) (v : Visit) → step luck n v ≡ record { session = s; rooms = w }
      → submit (luck ∷ more) n v ≡ prefixed s.answers (submit more n (record { session = record s { answers = [] }; rooms = w }))
  in_front luck more s w v e =
      ap (submit more n) (e ∙ ap (λ (x : List (List ℕ)). record { session = record s { answers = x }; rooms = w }) (sym (append-nil s.answers)))
      ∙ submit-prefixed n more s.answers (record { session = record s { answers = [] }; rooms = w })

  module _ (settings : List Configuration) (before now next : Sent) (s s1 s2 : SessionValue) (k k1 : Kept) (v : Visit) (luck : Luck) (g : GoesOn n settings before now s k v) where
    abbrev here : Visit
    here = record { session = s; rooms = g.world }

    -- a step is made, and its answers are written
    pub goes_on : IsVisit s1 k1 (step luck n here) → AreTold n s1.answers now next → s2 ≡ record s1 { answers = [] } → GoesOn n settings before next s2 k1 v
    goes_on i t e = record {
      world = (step luck n here).rooms;
      stands = i.rooms;
      settings = step_has settings luck n here g.settings;
      lucks = g.lucks ++ luck ∷ [];
      rest = λ after x y more h.
          subst (λ (l : List Luck). IsToldVisit n before after x y (submit l n v)) (sym (append_assoc g.lucks (luck ∷ []) more))
          (g.rest after x y (luck ∷ more)
          (rw (in_front luck more s1 (step luck n here).rooms here (rw i.session), ← e)
          (told_first s1.answers now next after x y (submit more n (record { session = s2; rooms = (step luck n here).rooms })) t h)));
    }

    -- it was the last one
    pub goes_last : IsVisit s1 k1 (step luck n here) → IsStill n s1 → AreTold n s1.answers now next → s2 ≡ record s1 { answers = [] }
        → (lucks : List Luck) × IsToldVisit n before next s2 k1 (submit lucks n v)
    goes_last i still t e =
        let last : Visit = record { session = s1; rooms = (step luck n here).rooms } in
        let all : submit (luck ∷ []) n here ≡ last = ap (hand_all n) (rw i.session) ∙ hand_all-still n last (still last.rooms enough) in
        (g.lucks ++ luck ∷ [], g.rest next s2 k1 (luck ∷ []) (rw all (record { session = e; rooms = i.rooms; told = t })))
