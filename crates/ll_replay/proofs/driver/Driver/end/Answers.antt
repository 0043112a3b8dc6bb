-- A connection that ended has no answer.
use Rattle.std.proofs.Common.{refl}
use Rattle.ll_replay.proofs.TurnLemmas.{end-says}
use Rattle.ll_replay.specs.contracts.driver.Driver.{the_view}
use Rattle.ll_replay.proofs.driver.Driver.end.Goals as goal

pub returns-clause-says : goal.returns-clause-says
returns-clause-says c =
    end-says (the_view c.self.inside) _ _ c.args.number c.end.new.self c.end.new.rooms c.self.view_is (λ v. c.end.ensures v) refl
