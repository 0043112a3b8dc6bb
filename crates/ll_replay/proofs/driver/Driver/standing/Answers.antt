-- Where the rendition stands, by the rooms, is spelled.
use Rattle.ll_replay.proofs.DoneLemmas.{told-says}
use Rattle.ll_replay.specs.contracts.driver.Driver.{the_view}
use Rattle.ll_replay.proofs.driver.Driver.standing.Goals as goal

pub returns : goal.returns
returns c = λ w k.
    told-says c.tell.result (the_view c.self.inside) _ c.args.place c.args.rendition c.standing.result c.self.view_is (λ v. c.standing.ensures v) c.tell.ensures w k
