-- The events that a room stands for say what its items do.
use Rattle.std.proofs.Common.{◌≡◌, ◌<◌, ◌≤◌, length}
use Rattle.std.specs.Prelude.{MatchOption}
use Rattle.ll_verdict.specs.Standing.{standing}
use Rattle.ll_room.proofs.StandLemmas.{told}
use Rattle.ll_room.specs.contracts.room.Room.{the_view}
use Rattle.ll_room.proofs.room.Room.standing.Goals as goal

pub returns : goal.returns
returns c es stands =
    told
    (λ s its. MatchOption c.standing.result (length s.renditions ≤ c.args.rendition)
    (λ x. (c.args.rendition < length s.renditions) × (x ≡ standing s its c.args.rendition)))
    c.args.self.now (the_view c.self.inside) es stands c.self.view_is c.standing.ensures
