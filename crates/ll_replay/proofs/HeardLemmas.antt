-- The rooms after an act and their answers, as a driver keeps and writes them.
use Rattle.std.proofs.Common.{◌≡◌, ℕ, ◌+◌, [], ◌++◌, Option, Some, None, refl, ap, ap₂, sym, ◌∙◌, append-nil, min, subst, arith}
use Rattle.std.specs.Prelude.{flat_map, Result, Ok, Err, IfOk}
use Rattle.std.specs.declared.alloc.Global.{Global}
use Rattle.std.specs.declared.vec.Vec.{Vec}
use Rattle.ll_script_rooms.specs.Kept as rooms
use Rattle.ll_script_rooms.specs.Kept.{Leads, answers_of}
use Rattle.ll_script_rooms.specs.World as world
use Rattle.ll_script_rooms.specs.World.{all_settings, count_end, silent}
use Rattle.ll_script_rooms.specs.declared.answer.ActAnswer.{ActAnswer}
use Rattle.ll_replay.specs.Kept.{Keeps, Kept, Says, kept_script, told}
use Rattle.ll_replay.specs.Script.{Script, asked_under, heard, reply_count, spelled}

abbrev pub hears : Kept → rooms.Kept → ℕ → Kept
hears k held n = record k { rooms = held; replies = n }

up_to_end : (n m r e : ℕ) → n ≡ min (min r e + m) e → n ≡ min (r + m) e
up_to_end n m r e h = omega arith

answers_are : (held : rooms.Kept) (a : Option ActAnswer) (w v : world.World) → w.answers ≡ [] → Leads held a w v → v.answers ≡ answers_of a
answers_are held a w v quiet leads = leads.answers ∙ ap (λ list. list ++ answers_of a) quiet

stands : (held : rooms.Kept) (n : ℕ) (w : Script) (v : world.World) → held ≡ rooms.kept_world v → all_settings v ≡ all_settings w.rooms
    → n ≡ min (w.replies + reply_count v.answers) count_end → hears (kept_script w) held n ≡ kept_script (heard w v)
stands held n w v is same count =
    ap₂ (λ h m. hears (kept_script w) h m) is count ∙ ap (λ s. record (hears (kept_script w) (rooms.kept_world v) (min (w.replies + reply_count v.answers) count_end)) { declared = s }) (sym same)

-- what the rooms answered is written, and its replies are counted
pub heard-says : (old : Kept) (held : rooms.Kept) (n : ℕ) (w : Script) (v : world.World) (a : Option ActAnswer) (t : Option (Vec ℕ Global))
    → Keeps old w → Leads held a w.rooms v → all_settings v ≡ all_settings w.rooms → n ≡ min (old.replies + reply_count (answers_of a)) count_end
    → told t ≡ flat_map spelled (answers_of a) → Says (hears old held n) t w (heard w v)
heard-says old held n w v a t k leads same count text =
    let are = answers_are held a w.rooms v k.silent leads in record {
      keeps = record {
        stands =
            ap (λ o. hears o held n) k.stands
            ∙ stands held n w v leads.stands same
            (up_to_end n (reply_count v.answers) w.replies count_end
            (count ∙ ap₂ (λ (o : Kept) list. min (o.replies + reply_count list) count_end) k.stands (sym are)));
        silent = refl;
      };
      text = ap (λ list. w.text ++ flat_map spelled list) are ∙ ap (λ more. w.text ++ more) (sym text);
    }

-- a request has its number
pub asked-says : (k : Kept) (id : ℕ) (t : Option (Vec ℕ Global)) (w v : Script) → Says k t w v → Says (record k { last_id = Some id }) t w (asked_under v id)
asked-says k id t w v s = record {
  keeps = record { stands = ap (λ (k : Kept). record k { last_id = Some id }) s.keeps.stands; silent = s.keeps.silent };
  text = s.text;
}

-- where the rooms stay as they are, so does the world
pub heard-still : (w : Script) (v : world.World) → w.rooms.answers ≡ [] → v ≡ w.rooms → heard w v ≡ w
heard-still w v quiet same =
    ap (heard w) same
    ∙ ap (λ r. record w { rooms = r; replies = w.replies + reply_count w.rooms.answers; text = w.text ++ flat_map spelled w.rooms.answers }) (still w.rooms quiet)
    ∙ ap (λ list. record w { replies = w.replies + reply_count list; text = w.text ++ flat_map spelled list }) quiet
    ∙ nothing
  where
    still : (r : world.World) → r.answers ≡ [] → silent r ≡ r
    still r e = ap (λ list. record r { answers = list }) (sym e)

    no_more : (n : ℕ) → n + 0 ≡ n
    no_more n = omega arith

    nothing : record w { replies = w.replies + 0; text = w.text ++ [] } ≡ w
    nothing = ap₂ (λ n text. record w { replies = n; text = text }) (no_more w.replies) (append-nil w.text)

-- a call of the rooms, whose answer is counted and spelled
pub heard-result : {E : Type 0} (r : Result (Option (Vec ℕ Global)) E) (old now new : Kept) (held : rooms.Kept) (step : world.World → world.World) (a : Option ActAnswer)
    → old ≡ now → ((v : world.World) → all_settings (step v) ≡ all_settings v) → ((v : world.World) → old.rooms ≡ rooms.kept_world v → Leads held a v (step v))
    → new ≡ hears old held (min (old.replies + reply_count (answers_of a)) count_end) → IfOk r (λ t. told t ≡ flat_map spelled (answers_of a))
    → (w : Script) → Keeps now w → IfOk r (λ t. Says new t w (heard w (step w.rooms)))
heard-result (Err e) old now new held step a same keeps leads is text w k = tt
heard-result (Ok t) old now new held step a same keeps leads is text w k =
    let q = subst (λ s. Keeps s w) (sym same) k in
    subst (λ s. Says s t w (heard w (step w.rooms))) (sym is)
    (heard-says old held (min (old.replies + reply_count (answers_of a)) count_end) w (step w.rooms) a t q (leads w.rooms (ap (λ (s : Kept). s.rooms) q.stands)) (keeps w.rooms) refl text)

-- a request, whose answer is counted and spelled
pub asked-result : {E : Type 0} (r : Result (Option (Vec ℕ Global)) E) (old now new : Kept) (held : rooms.Kept) (id : ℕ) (step : world.World → world.World) (a : Option ActAnswer)
    → old ≡ now → ((v : world.World) → all_settings (step v) ≡ all_settings v) → ((v : world.World) → old.rooms ≡ rooms.kept_world v → Leads held a v (step v))
    → new ≡ record (hears old held (min (old.replies + reply_count (answers_of a)) count_end)) { last_id = Some id } → IfOk r (λ t. told t ≡ flat_map spelled (answers_of a))
    → (w : Script) → Keeps now w → IfOk r (λ t. Says new t w (asked_under (heard w (step w.rooms)) id))
asked-result (Err e) old now new held id step a same keeps leads is text w k = tt
asked-result (Ok t) old now new held id step a same keeps leads is text w k =
    let q = subst (λ s. Keeps s w) (sym same) k in
    subst (λ s. Says s t w (asked_under (heard w (step w.rooms)) id)) (sym is)
    (asked-says (hears old held (min (old.replies + reply_count (answers_of a)) count_end)) id t w (heard w (step w.rooms))
    (heard-says old held (min (old.replies + reply_count (answers_of a)) count_end) w (step w.rooms) a t q (leads w.rooms (ap (λ (s : Kept). s.rooms) q.stands)) (keeps w.rooms) refl text))

-- a call of the rooms that is never answered
pub unheard : (old now new : Kept) (held : rooms.Kept) (step : world.World → world.World) → old ≡ now → ((v : world.World) → all_settings (step v) ≡ all_settings v)
    → ((v : world.World) → old.rooms ≡ rooms.kept_world v → Leads held None v (step v)) → new ≡ hears old held old.replies → (w : Script) → Keeps now w → Says new None w (heard w (step w.rooms))
unheard old now new held step same keeps leads is w k =
    let q = subst (λ s. Keeps s w) (sym same) k in
    subst (λ s. Says s None w (heard w (step w.rooms))) (sym is)
    (heard-says old held old.replies w (step w.rooms) None None q (leads w.rooms (ap (λ (s : Kept). s.rooms) q.stands)) (keeps w.rooms)
    (within old.replies w.replies count_end (ap (λ (s : Kept). s.replies) q.stands)) refl)
  where
    within : (n r e : ℕ) → n ≡ min r e → n ≡ min (n + 0) e
    within n r e h = omega arith

-- a call of the rooms without an answer
pub still-result : {E : Type 0} (r : Result (Option (Vec ℕ Global)) E) (old now : Kept) (step : world.World → world.World) (a : Option ActAnswer)
    → old ≡ now → ((v : world.World) → old.rooms ≡ rooms.kept_world v → a ≡ None → step v ≡ v) → IfOk r (λ t. t ≡ None → a ≡ None)
    → (w : Script) → Keeps now w → IfOk r (λ t. t ≡ None → heard w (step w.rooms) ≡ w)
still-result (Err e) old now step a same still none w k = tt
still-result (Ok t) old now step a same still none w k = λ nothing.
    let q = subst (λ s. Keeps s w) (sym same) k in
    heard-still w (step w.rooms) q.silent (still w.rooms (ap (λ (s : Kept). s.rooms) q.stands) (none nothing))
