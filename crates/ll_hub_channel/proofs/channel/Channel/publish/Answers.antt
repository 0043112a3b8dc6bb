use Rattle.std.proofs.Common.{Err, ap, refl, subst, sym}
use Rattle.ll_hub_channel.proofs.CountLemmas.{has-published}
use Rattle.ll_hub_channel.proofs.ToldLemmas.{accepted, refused, stays-beside}
use Rattle.ll_hub_channel.specs.Channel.{IsChannel}
use Rattle.ll_hub_channel.specs.Section.{HasPublished, IsMet}
use Rattle.ll_hub_channel.specs.Told.{IsAccepted, IsRefused}
use Rattle.ll_record.specs.Recording.{IsRecorded, is_record_full}
use Rattle.ll_hub_channel.proofs.channel.Channel.publish.Goals as goal

pub invariant_of-self : goal.invariant_of-self
invariant_of-self c = subst (λ r. IsChannel r c.self.inside.parked.items) (sym c.in-Err.ensures.unchanged) c.self.invariant

pub invariant_of-self-2 : goal.invariant_of-self-2
invariant_of-self-2 c =
    let told = c.in-Ok.ensures.accepted c.self.invariant.events c.self.invariant.recorded in
    stays-beside c.self.inside.recorder c.publish.new.self _ c.self.inside.parked.items c.self.invariant told.1 c.in-Ok.ensures.goes_on.same c.in-Ok.ensures.still_open

pub returns-clause-accepted : goal.returns-clause-accepted
returns-clause-accepted c es recorded =
    let before = subst (λ r. IsRecorded r es) (sym c.self.view_is) recorded in
    let met = subst (λ r. IsMet r c.args.known.place c.args.known.settings.now c.args.known.seen) (sym c.self.view_is) c.requires in
    subst (λ s. IsAccepted s es c.args.item c.args.known.seen c.in-Ok.count.value) met.settings
    (accepted c.self.inside.recorder es c.args.item c.args.known.seen c.in-Ok.count.value before (c.in-Ok.ensures.accepted es before).0 met.later (ap (λ m. m.value) c.in-Ok.ensures.count))

pub returns-clause-recorded : goal.returns-clause-recorded
returns-clause-recorded c es recorded = (c.in-Ok.ensures.accepted es (subst (λ r. IsRecorded r es) (sym c.self.view_is) recorded)).1

pub returns-clause-counted : goal.returns-clause-counted
returns-clause-counted c =
    let es = c.self.invariant.events in
    let told = c.in-Ok.ensures.accepted es c.self.invariant.recorded in
    subst (λ r. HasPublished r c.publish.new.self) c.self.view_is
    (has-published c.self.inside.recorder c.publish.new.self es c.args.item c.self.invariant.recorded told.0 told.1 c.in-Ok.ensures.goes_on.same)

pub returns-in-Err-clause-refused : goal.returns-in-Err-clause-refused
returns-in-Err-clause-refused c es recorded =
    let before = subst (λ r. IsRecorded r es) (sym c.self.view_is) recorded in
    let met = subst (λ r. IsMet r c.args.known.place c.args.known.settings.now c.args.known.seen) (sym c.self.view_is) c.requires in
    rw c.refuses.ensures (
      refl,
      subst (λ s. IsRefused s es (is_record_full c.args.self.now) c.args.item c.args.known.seen c.in-Err.fault) met.settings
          (subst (λ r. IsRefused c.self.inside.recorder.room.settings es (is_record_full r) c.args.item c.args.known.seen c.in-Err.fault) c.self.view_is
          (refused c.self.inside.recorder es c.args.item c.args.known.seen c.in-Err.fault before met.later (c.in-Err.ensures.refused es before) (λ is. c.in-Err.ensures.memory es before (ap Err is)))),
    )
