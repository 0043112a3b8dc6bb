-- What the rooms answer to a reading is counted and spelled.
use Rattle.std.proofs.Common.{Ok, Some, refl}
use Rattle.ll_script.specs.declared.act.Act.TheVariants.{Clock}
use Rattle.ll_script_rooms.specs.World.{clock}
use Rattle.ll_replay.specs.Script.{plain}
use Rattle.ll_replay.proofs.DoneLemmas.{done-is}
use Rattle.ll_replay.proofs.HeardLemmas.{heard-result}
use Rattle.ll_script_rooms.proofs.SettingsLaws.{clock-keeps}
use Rattle.ll_replay.specs.contracts.driver.Driver.{the_view}
use Rattle.ll_replay.proofs.driver.Driver.clock.Goals as goal

pub returns-clause-done : goal.returns-clause-done
returns-clause-done c w k =
    done-is c.count.new.self _ c.in_ok-answer.answer (Some c.args.place) (Clock c.args.place c.args.ms) w plain refl refl refl
    (heard-result {E = Unit} (Ok c.in_ok-answer.answer) (the_view c.self.inside) _ c.count.new.self c.clock-said.new.self (clock c.args.place c.args.ms) c.clock-said.result
    c.self.view_is (λ v. clock-keeps v c.args.place c.args.ms) c.clock-said.ensures.clocked c.count.ensures c.in_ok-answer.ensures.lines w k)
