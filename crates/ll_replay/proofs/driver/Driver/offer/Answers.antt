-- The rooms' answer to an item is counted and spelled; an item that is out of memory is refused so.
use Rattle.std.proofs.Common.{None, Ok, Some, refl, true}
use Rattle.ll_publish.specs.Refusals.{no_line, out_of_memory}
use Rattle.ll_script.specs.declared.act.Act.TheVariants.{Offer}
use Rattle.ll_script_rooms.specs.World.{offer}
use Rattle.ll_replay.specs.Script.{plain}
use Rattle.ll_replay.proofs.DoneLemmas.{done-is, line-says, unchanged-keeps}
use Rattle.ll_replay.proofs.HeardLemmas.{heard-result}
use Rattle.ll_script_rooms.proofs.SettingsLaws.{offer-keeps}
use Rattle.ll_replay.specs.contracts.driver.Driver.{the_view}
use Rattle.ll_replay.proofs.driver.Driver.offer.Goals as goal

pub returns-in_ok-answer-in-Ok-clause-done : goal.returns-in_ok-answer-in-Ok-clause-done
returns-in_ok-answer-in-Ok-clause-done c w k =
    done-is c.count.new.self _ c.in_ok-answer-in-Ok.answer (Some c.args.place) (Offer c.args.place c.args.item) w plain refl refl refl
    (heard-result {E = Unit} (Ok c.in_ok-answer-in-Ok.answer) (the_view c.self.inside) _ c.count.new.self c.offer.new.self (offer c.args.place c.args.item) c.in-Ok.said
    c.self.view_is (λ v. offer-keeps v c.args.place c.args.item) c.in-Ok.ensures.offered c.count.ensures c.in_ok-answer-in-Ok.ensures.lines w k)

pub returns-in_ok-answer-in-Err-clause-done : goal.returns-in_ok-answer-in-Err-clause-done
returns-in_ok-answer-in-Err-clause-done c w k =
    let same = unchanged-keeps (the_view c.self.inside) _ c.offer.new.self w c.self.view_is c.in-Err.ensures.unchanged k in
    done-is _ c.quiet.result c.in_ok-answer-in-Err.answer None (Offer c.args.place c.args.item) w (record plain { refused = true }) c.quiet.ensures.answer c.quiet.ensures.due refl
    (line-says _ w c.in_ok-answer-in-Err.answer (no_line out_of_memory) same c.in_ok-answer-in-Err.ensures)
