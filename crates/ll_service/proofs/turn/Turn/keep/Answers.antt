-- The bytes are held by the spool of the turn.
use Rattle.std.proofs.Common.{◌≡◌, ◌∙◌, Some, ap, sym}
use Rattle.std.specs.Option.{option_map}
use Rattle.std.specs.Sync.Mutex.{mutex_guard_value}
use Rattle.ll_service.specs.Turns.{TurnValue}
use Rattle.ll_service.proofs.TurnLemmas.{of_spool}
use Rattle.ll_service.proofs.turn.Turn.keep.Goals as goal

pub returns-clause-held : goal.returns-clause-held
returns-clause-held g c =
    let locked = sym (ap (option_map mutex_guard_value) c.in-Some.is) ∙ ap (λ (t : TurnValue g.row.D.Denot). t.spool) c.self.view_is in
    let is : Some c.deref_mut.result.now ≡ c.args.self.now.spool = ap Some c.deref_mut.ensures.value ∙ locked in
    of_spool _ _ _ _ is c.in_ok-_kept.ensures.held
