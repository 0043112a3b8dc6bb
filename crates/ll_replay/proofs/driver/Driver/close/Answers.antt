-- A close has no answer.
use Rattle.std.proofs.Common.{refl}
use Rattle.ll_script_rooms.specs.declared.owner.Owner.TheVariants.{Get}
use Rattle.ll_script_rooms.specs.World.{close}
use Rattle.ll_replay.proofs.HeardLemmas.{unheard}
use Rattle.ll_script_rooms.proofs.SettingsLaws.{close-keeps}
use Rattle.ll_replay.specs.contracts.driver.Driver.{the_view}
use Rattle.ll_replay.proofs.driver.Driver.close.Goals as goal

pub returns-clause-says : goal.returns-clause-says
returns-clause-says c =
    unheard (the_view c.self.inside) _ _ c.close.new.self (close (Get c.args.id)) c.self.view_is (λ v. close-keeps v (Get c.args.id)) c.close.ensures.closed refl
