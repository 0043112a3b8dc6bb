-- What comes to a connection, as a driver keeps and writes it.
use Rattle.std.proofs.Common.{◌≡◌, ℕ, ◌+◌, List, [], ◌++◌, Option, Some, None, refl, ap, ap₂, sym, ◌∙◌, append-nil, min, subst, arith, fold}
use Rattle.std.specs.Prelude.{flat_map, Result, Ok, Err, IfOk}
use Rattle.std.specs.declared.alloc.Global.{Global}
use Rattle.std.specs.declared.vec.Vec.{Vec}
use Rattle.ll_connection.specs.Stands.{IsTurn}
use Rattle.ll_connection.specs.Turn as connection
use Rattle.ll_connection.specs.Visit.{Luck}
use Rattle.ll_connection.specs.declared.sent.Sent.{Sent}
use Rattle.ll_connection.proofs.RoomsLaws as laws
use Rattle.ll_directive.specs.Targets.{WantValue}
use Rattle.ll_script_rooms.specs.declared.owner.Owner.{Owner}
use Rattle.ll_script_rooms.specs.declared.owner.Owner.TheVariants.{Connection}
use Rattle.ll_settings.specs.Settings.{Configuration}
use Rattle.ll_session.specs.Talk.{SessionValue}
use Rattle.ll_verdict.specs.declared.reply.Reply.{Reply}
use Rattle.ll_script_rooms.proofs.SettingsLaws.{ask-keeps, close-keeps, next_reply-keeps}
use Rattle.ll_script_rooms.specs.Kept as rooms
use Rattle.ll_script_rooms.specs.Kept.{Leads, answers_of}
use Rattle.ll_script_rooms.specs.World as world
use Rattle.ll_script_rooms.specs.World.{all_settings, count_end, silent}
use Rattle.ll_script_rooms.specs.declared.answer.ActAnswer as answer
use Rattle.ll_script_rooms.specs.declared.answer.ActAnswer.TheVariants as said
use Rattle.ll_replay.specs.Kept.{Keeps, Kept, Says, kept_script, told}
use Rattle.ll_replay.specs.Script.{Script, heard, passed_on, reply_count, spelled, next_reply, turned}
use Rattle.ll_replay.proofs.HeardLemmas.{hears, heard-result, heard-says, still-result}

-- ---- whatever comes to a connection, the channels have the same settings

abbrev Same : List Configuration → world.World → Type 0
Same all w = all_settings w ≡ all

module _ (all : List Configuration) where
  asks : (w : world.World) (o : Owner) (place : ℕ) (want : WantValue) → Same all w → Same all (silent (world.ask o place want (silent w)))
  asks w o place want h = ask-keeps (silent w) o place want ∙ h

  closes : (w : world.World) (o : Owner) → Same all w → Same all (world.close o w)
  closes w o h = close-keeps w o ∙ h

pub bytes-same : (lucks : List Luck) (n : ℕ) (piece : List ℕ) (all : connection.Connections) (w : world.World)
    → all_settings (connection.bytes lucks n piece all w).rooms ≡ all_settings w
bytes-same lucks n piece all w = laws.bytes-keeps (Same (all_settings w)) (asks (all_settings w)) (closes (all_settings w)) lucks n piece all w refl

pub end-same : (n : ℕ) (all : connection.Connections) (w : world.World) → all_settings (connection.end n all w).rooms ≡ all_settings w
end-same n all w = laws.end-keeps (Same (all_settings w)) (asks (all_settings w)) (closes (all_settings w)) n all w refl

pub reply-same : (lucks : List Luck) (n : ℕ) (a : Reply) (all : connection.Connections) (w : world.World)
    → all_settings (connection.reply lucks n a all w).rooms ≡ all_settings w
reply-same lucks n a all w = laws.reply-keeps (Same (all_settings w)) (asks (all_settings w)) (closes (all_settings w)) lucks n a all w refl

-- ---- what is sent is written and counted

counts : (a b e r t n : ℕ) → a ≡ min r e → b ≡ min t e → n ≡ min (a + b) e → n ≡ min (r + t) e
counts a b e r t n x y z = omega arith

abbrev pub goes_on_as : Kept → rooms.Kept → connection.Connections → ℕ → Kept
goes_on_as k held all n = record k { rooms = held; connections = all; replies = n }

stands : (old : Kept) (held : rooms.Kept) (all : connection.Connections) (n : ℕ) (w : Script) (t : connection.Turn) → old ≡ kept_script w
    → held ≡ rooms.kept_world t.rooms → all ≡ t.connections → all_settings t.rooms ≡ all_settings w.rooms → n ≡ min (w.replies + t.replies) count_end
    → goes_on_as old held all n ≡ kept_script (turned w t)
stands old held all n w t is h a same count =
    ap₂ (λ (k : Kept) (r : rooms.Kept). goes_on_as k r all n) is h
    ∙ ap₂ (λ (l : connection.Connections) m. goes_on_as (kept_script w) (rooms.kept_world t.rooms) l m) a count
    ∙ ap (λ (s : List Configuration). record (goes_on_as (kept_script w) (rooms.kept_world t.rooms) t.connections (min (w.replies + t.replies) count_end)) { declared = s }) (sym same)

pub turned-says : (old new : Kept) (all : connection.Connections) (held : rooms.Kept) (sent : Sent) (t : connection.Turn) (w : Script) → Keeps old w
    → IsTurn all held sent t → all_settings t.rooms ≡ all_settings w.rooms → new ≡ goes_on_as old held all (min (old.replies + sent.replies) count_end)
    → Says new (Some sent.text) w (turned w t)
turned-says old new all held sent t w k turn same is = record {
  keeps = record {
    stands =
        is
        ∙ stands old held all (min (old.replies + sent.replies) count_end) w t k.stands turn.rooms turn.connections same
        (counts old.replies sent.replies count_end w.replies t.replies _ (ap (λ (q : Kept). q.replies) k.stands) turn.replies refl);
    silent = refl;
  };
  text = ap (λ l. w.text ++ l) (sym turn.text);
}

-- a call on the connections, of which all that is sent is counted and written
pub sent-says : (old now new : Kept) (all : connection.Connections) (held : rooms.Kept) (sent : Sent) (text : Vec ℕ Global)
    (t : List Luck → connection.Connections → world.World → connection.Turn) → old ≡ now → text ≡ sent.text
    → ((v : world.World) → old.rooms ≡ rooms.kept_world v → old.declared ≡ all_settings v → (lucks : List Luck) × IsTurn all held sent (t lucks old.connections v))
    → ((lucks : List Luck) (all : connection.Connections) (v : world.World) → all_settings (t lucks all v).rooms ≡ all_settings v)
    → new ≡ goes_on_as old held all (min (old.replies + sent.replies) count_end)
    → (w : Script) → Keeps now w → (lucks : List Luck) × Says new (Some text) w (turned w (t lucks w.connections w.rooms))
sent-says old now new all held sent text t same spelled turns keeps is w k =
    let q = subst (λ s. Keeps s w) (sym same) k in
    let turn = turns w.rooms (ap (λ (s : Kept). s.rooms) q.stands) (ap (λ (s : Kept). s.declared) q.stands) in
    let lucks = turn.0 in (
      lucks,
      subst (λ x. Says new (Some x) w (turned w (t lucks w.connections w.rooms))) (sym spelled)
          (turned-says old new all held sent (t lucks w.connections w.rooms) w q
          (subst (λ l. IsTurn all held sent (t lucks l w.rooms)) (ap (λ (s : Kept). s.connections) q.stands) turn.1) (keeps lucks w.connections w.rooms) is),
    )

-- nothing is written for a connection that ended
ends_silent : (n : ℕ) (all : connection.Connections) (w : world.World) (o : Option (Option SessionValue))
    → ((connection.end_of n all w o).text ≡ []) × ((connection.end_of n all w o).replies ≡ 0)
ends_silent n all w None = (refl, refl)
ends_silent n all w (Some None) = (refl, refl)
ends_silent n all w (Some (Some s)) = (refl, refl)

pub end-says : (old now new : Kept) (n : ℕ) (all : connection.Connections) (held : rooms.Kept) → old ≡ now
    → ((v : world.World) → old.rooms ≡ rooms.kept_world v
    → (all ≡ (connection.end n old.connections v).connections) × (held ≡ rooms.kept_world (connection.end n old.connections v).rooms))
    → new ≡ goes_on_as old held all old.replies
    → (w : Script) → Keeps now w → Says new None w (turned w (connection.end n w.connections w.rooms))
end-says old now new n all held same ends is w k =
    let q = subst (λ s. Keeps s w) (sym same) k in
    let t = connection.end n w.connections w.rooms in
    let silent = ends_silent n w.connections w.rooms (connection.session_of n w.connections) in
    let at = ends w.rooms (ap (λ (s : Kept). s.rooms) q.stands) in
    let conns : all ≡ t.connections = at.0 ∙ ap (λ (s : Kept). (connection.end n s.connections w.rooms).connections) q.stands in
    let room : held ≡ rooms.kept_world t.rooms = at.1 ∙ ap (λ (s : Kept). rooms.kept_world (connection.end n s.connections w.rooms).rooms) q.stands in
    record {
      keeps = record {
        stands = is ∙ stands old held all old.replies w t q.stands room conns (end-same n w.connections w.rooms) (none old.replies w.replies t.replies count_end (ap (λ (s : Kept). s.replies) q.stands) silent.1);
        silent = refl;
      };
      text = ap (λ l. w.text ++ l) silent.0;
    }
  where
    none : (r x t e : ℕ) → r ≡ min x e → t ≡ 0 → r ≡ min (x + t) e
    none r x t e h z = omega (arith, h, z)

-- ---- a reply that is due

answers_are : (held : rooms.Kept) (a : Option answer.ActAnswer) (w v : world.World) → w.answers ≡ [] → Leads held a w v → v.answers ≡ answers_of a
answers_are held a w v quiet leads = leads.answers ∙ ap (λ list. list ++ answers_of a) quiet

module _ (old now : Kept) (held : rooms.Kept) (place : ℕ) (a : Option answer.ActAnswer) (same : old ≡ now)
    (leads : (v : world.World) → old.rooms ≡ rooms.kept_world v → Leads held a v (world.next_reply place v)) where
  here : (w : Script) → Keeps now w → Keeps old w
  here w k = subst (λ s. Keeps s w) (sym same) k

  there : (w : Script) → Keeps old w → Leads held a w.rooms (world.next_reply place w.rooms)
  there w q = leads w.rooms (ap (λ (s : Kept). s.rooms) q.stands)

  -- one to a connection
  pub next_reply-passed : {E : Type 0} (r : Result (Option (Vec ℕ Global)) E) (n : ℕ) (reply : Reply) (mid new : Kept) → a ≡ Some (said.Replied (Connection n) reply)
      → mid ≡ record old { rooms = held }
      → ((u : Script) → Keeps mid u → IfOk r (λ t. (lucks : List Luck) × Says new t u (turned u (connection.reply lucks n reply u.connections u.rooms))))
      → (w : Script) → Keeps now w → IfOk r (λ t. (lucks : List Luck) × Says new t w (next_reply place w lucks))
  next_reply-passed (Err e) n reply mid new is_a is_mid goes w k = tt
  next_reply-passed (Ok t) n reply mid new is_a is_mid goes w k =
      let q = here w k in
      let v = world.next_reply place w.rooms in
      let quiet : old.replies ≡ min (old.replies + reply_count (answers_of a)) count_end =
      within old.replies w.replies count_end (ap (λ (s : Kept). s.replies) q.stands) ∙ ap (λ o. min (old.replies + reply_count (answers_of o)) count_end) (sym is_a) in
      let nothing : [] ≡ flat_map spelled (answers_of a) = ap (λ o. flat_map spelled (answers_of o)) (sym is_a) in
      let first : Says (hears old held old.replies) None w (heard w v) = heard-says old held old.replies w v a None q (there w q) (next_reply-keeps w.rooms place) quiet nothing in
      let next = goes (heard w v) (subst (λ s. Keeps s (heard w v)) (sym is_mid) first.keeps) in
      let lucks = next.0 in
      let second = next.1 in
      let to : next_reply place w lucks ≡ turned (heard w v) (connection.reply lucks n reply w.connections (silent v)) =
      ap (fold (passed_on lucks) (heard w v)) (answers_are held a w.rooms v q.silent (there w q) ∙ ap answers_of is_a) in (
        lucks,
        subst (Says new t w) (sym to)
            (record { keeps = second.keeps; text = second.text ∙ ap (λ l. l ++ told t) (first.text ∙ append-nil w.text) }),
      )
    where
      within : (n r e : ℕ) → n ≡ min r e → n ≡ min (n + 0) e
      within n r e h = omega arith

  module _ (other : (lucks : List Luck) (w : Script) → fold (passed_on lucks) w (answers_of a) ≡ w) where
    stays : (lucks : List Luck) (w : Script) → Keeps old w → next_reply place w lucks ≡ heard w (world.next_reply place w.rooms)
    stays lucks w q =
        let v = world.next_reply place w.rooms in
        ap (fold (passed_on lucks) (heard w v)) (answers_are held a w.rooms v q.silent (there w q)) ∙ other lucks (heard w v)

    -- any other
    pub next_reply-heard : {E : Type 0} (r : Result (Option (Vec ℕ Global)) E) (new : Kept) → new ≡ hears old held (min (old.replies + reply_count (answers_of a)) count_end)
        → IfOk r (λ t. told t ≡ flat_map spelled (answers_of a)) → (w : Script) → Keeps now w → IfOk r (λ t. (lucks : List Luck) × Says new t w (next_reply place w lucks))
    next_reply-heard (Err e) new is text w k = tt
    next_reply-heard (Ok t) new is text w k = (
      [],
      subst (Says new t w) (sym (stays [] w (here w k)))
          (heard-result {E = Unit} (Ok t) old now new held (world.next_reply place) a same (λ v. next_reply-keeps v place) leads is text w k),
    )

    pub next_reply-still : {E : Type 0} (r : Result (Option (Vec ℕ Global)) E) → ((v : world.World) → old.rooms ≡ rooms.kept_world v → a ≡ None → world.next_reply place v ≡ v)
        → IfOk r (λ t. t ≡ None → a ≡ None) → (w : Script) → Keeps now w → IfOk r (λ t. t ≡ None → (lucks : List Luck) → next_reply place w lucks ≡ w)
    next_reply-still (Err e) still none w k = tt
    next_reply-still (Ok t) still none w k = λ nothing lucks. stays lucks w (here w k) ∙ still-result {E = Unit} (Ok t) old now (world.next_reply place) a same still none w k nothing
