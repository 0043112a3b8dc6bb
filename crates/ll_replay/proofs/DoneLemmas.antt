-- The answer to an act, and where it may have made replies due.
use Rattle.std.proofs.Common.{◌≡◌, ℕ, List, [], ◌++◌, Bool, true, false, Option, None, refl, ap, sym, ◌∙◌, subst}
use Rattle.std.specs.Prelude.{Err, IfOk, Ok, Result, if◌then◌else◌}
use Rattle.std.specs.Io.KnownBytes.{Appends}
use Rattle.std.specs.declared.alloc.Global.{Global}
use Rattle.std.specs.declared.vec.Vec.{Vec}
use Rattle.ll_connection.specs.Visit.{Luck}
use Rattle.ll_device.specs.Written.{AppendsPrefix}
use Rattle.ll_directive.specs.Targets.{WantValue}
use Rattle.ll_script.specs.Lines.{starved}
use Rattle.ll_script.specs.declared.act.Act.{Act}
use Rattle.ll_script.specs.declared.act.Act.TheVariants.{Ask, At, Bytes}
use Rattle.ll_script_rooms.specs.Kept as rooms
use Rattle.ll_script_rooms.specs.World as world
use Rattle.ll_verdict.specs.declared.standing.Standing.{Standing}
use Rattle.ll_replay.specs.Cuts.{IsCutBetween}
use Rattle.ll_replay.specs.Kept.{IsDone, Keeps, Kept, Says, Stands, met, told}
use Rattle.ll_replay.specs.Script.{Lot, Script, act, makes_due, plain, says, standing_text}
use Rattle.ll_replay.specs.declared.driver.Done.{Done}
use Rattle.ll_replay.specs.declared.outcome.RunFault.{RunFault}
use Rattle.ll_replay.specs.declared.outcome.RunFault.TheVariants as fault
use Rattle.ll_replay.proofs.DriverLemmas.{said, said-cut}
use Rattle.ll_replay.proofs.ScriptLaws.{act-follows}

-- an act with this lot, whose answer and place are these
pub done-is : (new : Kept) (d : Done) (answer : Option (Vec ℕ Global)) (due : Option ℕ) (a : Act) (w : Script) (lot : Lot) → d.answer ≡ answer → d.due ≡ due
    → due ≡ makes_due (met lot a) → Says new answer w (act lot.requests w (met lot a)) → IsDone new d a w
done-is new d answer due a w lot is at same s = record {
  lot = lot;
  due = at ∙ same;
  says = subst (λ (x : Option (Vec ℕ Global)). Says new x w (act lot.requests w (met lot a))) (sym is) s;
}

-- a line is written, and nothing else happens
pub line-says : (k : Kept) (w : Script) (t : Option (Vec ℕ Global)) (text : List ℕ) → Keeps k w → told t ≡ text → Says k t w (says w text)
line-says k w t text keeps e = record { keeps = record { stands = keeps.stands; silent = keeps.silent }; text = ap (λ more. w.text ++ more) (sym e) }

-- the answer that says where a rendition stands is written, and nothing else happens
pub told-says : {E : Type 0} (r : Result (Option (Vec ℕ Global)) E) (old now : Kept) (place rendition : ℕ) (s : Option Standing) → old ≡ now
    → ((v : world.World) → old.rooms ≡ rooms.kept_world v → s ≡ world.standing place rendition v) → IfOk r (λ t. told t ≡ standing_text s)
    → (w : Script) → Keeps now w → IfOk r (λ t. Says now t w (act [] w (At place rendition)))
told-says (Err e) old now place rendition s same stands is w k = tt
told-says (Ok t) old now place rendition s same stands is w k =
    line-says now w t (standing_text (world.standing place rendition w.rooms)) k
    (is ∙ ap standing_text (stands w.rooms (ap (λ (q : Kept). q.rooms) same ∙ ap (λ (q : Kept). q.rooms) k.stands)))

-- if the rooms stay as they are, the driver keeps the same
pub unchanged-keeps : (old now : Kept) (held : rooms.Kept) (w : Script) → old ≡ now → held ≡ old.rooms → Keeps now w → Keeps (record old { rooms = held }) w
unchanged-keeps old now held w same still k =
    subst (λ (r : rooms.Kept). Keeps (record old { rooms = r }) w) (sym still) (subst (λ s. Keeps s w) (sym same) k)

-- a request, out of memory or not
pub asked-is : (new : Kept) (d : Done) (answer : Option (Vec ℕ Global)) (id place : ℕ) (want : WantValue) (w : Script) → d.answer ≡ answer → d.due ≡ None
    → (refused : Bool) × Says new answer w (act [] w (if refused then starved (Ask id place want) else Ask id place want)) → IsDone new d (Ask id place want) w
asked-is new d answer id place want w is at s =
    done-is new d answer None (Ask id place want) w (record plain { refused = s.0 }) is at (none s.0) s.1
  where
    none : (b : Bool) → None ≡ makes_due (if b then starved (Ask id place want) else Ask id place want)
    none true = refl
    none false = refl

-- bytes, with the lucks of their requests
pub came-is : (new : Kept) (d : Done) (answer : Option (Vec ℕ Global)) (n : ℕ) (bytes piece : List ℕ) (w : Script) → d.answer ≡ answer → d.due ≡ None → bytes ≡ piece
    → (lucks : List Luck) × Says new answer w (act lucks w (Bytes n bytes)) → IsDone new d (Bytes n piece) w
came-is new d answer n bytes piece w is at same s =
    subst (λ (b : List ℕ). IsDone new d (Bytes n b) w) same (done-is new d answer None (Bytes n bytes) w (record plain { requests = s.0 }) is at refl s.1)

-- an act whose answer was written
pub act-stands : (new old : Kept) (base mid after : Option (List ℕ)) (w : Script) (d : Done) (a : Act) → IsDone new d a w → Stands old base mid w
    → Appends mid after (told d.answer) → (lot : Lot) × (d.due ≡ makes_due (met lot a)) × Stands new base after (act lot.requests w (met lot a))
act-stands new old base mid after w d a i s wrote =
    let v = act i.lot.requests w (met i.lot a) in
    (i.lot, i.due, said new old base mid after w v d.answer (act-follows i.lot.requests w (met i.lot a)) i.says s wrote)

-- a fault in writing it
pub act-cut : (new old : Kept) (base mid after : Option (List ℕ)) (w : Script) (d : Done) (a : Act) (f : RunFault) → IsDone new d a w → Stands old base mid w
    → f ≡ fault.Write → AppendsPrefix mid after (told d.answer) → (lot : Lot) × IsCutBetween base after w (act lot.requests w (met lot a)) f
act-cut new old base mid after w d a f i s kind prefix =
    (i.lot, said-cut new old base mid after w (act i.lot.requests w (met i.lot a)) d.answer f i.says s kind prefix)
