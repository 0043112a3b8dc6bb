-- The rooms' answer to a request is counted and spelled; a request that is out of memory is answered so.
use Rattle.std.proofs.Common.{Err, ap, false, true}
use Rattle.std.proofs.lemmas.Result.{IfOk-weaker}
use Rattle.ll_script_rooms.specs.declared.owner.Owner.TheVariants.{Get}
use Rattle.ll_script_rooms.specs.World.{ask}
use Rattle.ll_replay.proofs.DoneLemmas.{unchanged-keeps}
use Rattle.ll_replay.proofs.HeardLemmas.{asked-result}
use Rattle.ll_script_rooms.proofs.SettingsLaws.{ask-keeps}
use Rattle.ll_replay.specs.contracts.driver.Driver.{the_view}
use Rattle.ll_replay.proofs.driver.Driver.ask.Goals as goal

pub returns-in-Ok-clause-says : goal.returns-in-Ok-clause-says
returns-in-Ok-clause-says c w k =
    IfOk-weaker c.spell.result _ _ (λ t s. (false, s))
    (asked-result c.spell.result (the_view c.self.inside) _ c.count.new.self c.ask.new.self c.args.id (ask (Get c.args.id) c.args.place c.args.want) c.in-Ok.said
    c.self.view_is (λ v. ask-keeps v (Get c.args.id) c.args.place c.args.want) c.in-Ok.ensures.asked c.count.ensures c.spell.ensures.lines w k)

pub returns-in-Err-Request-clause-says : goal.returns-in-Err-Request-clause-says
returns-in-Err-Request-clause-says c w k =
    IfOk-weaker c.answer.result _ _ (λ t s. (true, s))
    (c.answer.ensures.says w
    (unchanged-keeps (the_view c.self.inside) _ c.ask.new.self w c.self.view_is (c.in-Err-Request.ensures.unchanged (ap Err c.in-Err-Request.field-0-is)) k))
