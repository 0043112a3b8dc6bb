-- One more channel, which its name finds if it is the first with that name.
use Rattle.std.proofs.Common.{◌≡◌, ◌∙◌, arith, length, subst, sym}
use Rattle.ll_settings.specs.ChannelPlaces.{FindsPlaces}
use Rattle.ll_settings.proofs.ChannelLemmas.{FindsPlaces-push}
use Rattle.ll_settings.proofs.channels.Channels.add.Goals as goal

pub invariant_of-self-2 : goal.invariant_of-self-2
invariant_of-self-2 c =
    let all = c.reserve.new.self.items in
    let finds = subst (FindsPlaces c.self.inside.places.entries) (sym c.reserve.ensures.items) c.self.invariant in
    let count : c.len.result ≡ length all = omega arith in
    let named = c.in_ok-name.ensures.ok ∙ c.channel.ensures.value in
    subst (FindsPlaces c.add_name.new.places.entries) (sym c.push_reserved.ensures.items)
    (FindsPlaces-push c.self.inside.places.entries c.add_name.new.places.entries all c.args.settings _ c.len.result finds named count c.in_ok-add_name.ensures.added)
