-- A rendition stands after the events of the channel, as its room says.
use Rattle.std.proofs.Common.{◌≡◌, ◌≤◌, MatchOption, length, subst, sym}
use Rattle.ll_hub_channel.proofs.ToldLemmas.{stands-there}
use Rattle.ll_hub_channel.specs.Told.{IsStanding}
use Rattle.ll_record.specs.Recording.{IsRecorded}
use Rattle.ll_hub_channel.proofs.channel.Channel.standing.Goals as goal

pub returns : goal.returns
returns c es recorded =
    subst (λ r. MatchOption c.standing.result (length r.room.settings.renditions ≤ c.args.rendition) (IsStanding r.room.settings es c.args.rendition r.room.count)) c.self.view_is
    (stands-there c.self.inside.recorder c.room.result.now es c.args.rendition c.standing.result c.room.ensures
    (subst (λ r. IsRecorded r es) (sym c.self.view_is) recorded) (c.standing.ensures es))
