-- The first reply that is due goes to its connection, or is counted and spelled.
use Rattle.std.proofs.Common.{◌≡◌, Option, refl, subst, sym}
use Rattle.ll_script_rooms.specs.Kept.{Leads, kept_world}
use Rattle.ll_script_rooms.specs.World.{World, next_reply}
use Rattle.ll_script_rooms.specs.declared.answer.ActAnswer.{ActAnswer}
use Rattle.ll_replay.proofs.TurnLemmas.{next_reply-heard, next_reply-passed}
use Rattle.ll_replay.specs.contracts.driver.Driver.{the_view}
use Rattle.ll_replay.proofs.driver.Driver.next_reply.Goals as goal

pub returns-in-Ok-clause-says : goal.returns-in-Ok-clause-says
returns-in-Ok-clause-says c =
    next_reply-passed (the_view c.self.inside) _ c.next_due.new.self c.args.place c.next_due.result c.self.view_is c.next_due.ensures.told c.reply.result c.in-Ok.number c.in-Ok.reply _ c.reply.new.self
    c.in-Ok.ensures.to refl c.reply.ensures.says

pub returns-in-Err-clause-says : goal.returns-in-Err-clause-says
returns-in-Err-clause-says c =
    let held = c.next_due.new.self in
    let leads =
    subst (λ (a : Option ActAnswer). (v : World) → (the_view c.self.inside).rooms ≡ kept_world v → Leads held a v (next_reply c.args.place v)) (sym c.in-Err.ensures.other.0) c.next_due.ensures.told in
    next_reply-heard (the_view c.self.inside) _ held c.args.place c.in-Err.answer c.self.view_is leads c.in-Err.ensures.other.1 c.spell.result c.count.new.self c.count.ensures c.spell.ensures.lines
