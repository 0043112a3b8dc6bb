use Rattle.std.proofs.Common.{◌≡◌, refl, subst, sym}
use Rattle.ll_history.specs.History.{IsAddedTo}
use Rattle.ll_history.specs.declared.deed.Deed.TheVariants as deed
use Rattle.ll_hub_channel.proofs.DeedLemmas.{IsEvent}
use Rattle.ll_ledger.proofs.SectionLemmas.{accepted, more-known, unpublished}
use Rattle.ll_verdict.specs.Events.{Publish}
use Rattle.ll_hub_channel.specs.Deeds.{IsRecordOf}
use Rattle.ll_ledger.proofs.channel.publish_in.Goals as goal
use Rattle.ll_ledger.proofs.channel.publish_in.Goals.{After-add}

known : (g : _) (c : After-add g) → IsRecordOf c.publish.new.self c.add.new.self.deeds × (c.add.new.self.place ≡ c.publish.new.self.room.channel)
known g c =
    let s = c.args.channel.now.room.settings in
    more-known c.args.channel.now c.publish.new.self c.args.history.now c.add.new.self c.draft_item-draft.result (Publish c.args.item) c.requires.record_of c.requires.place
    c.in-Ok.ensures.goes_on (c.in-Ok.ensures.recorded _ c.requires.record_of.recorded)
    (subst (λ d. IsEvent s d (Publish c.args.item)) (sym c.draft_item-draft.ensures) (refl, λ h. refl)) c.add.ensures.deeds

pub returns-in-Ok-clause-record_of : goal.returns-in-Ok-clause-record_of
returns-in-Ok-clause-record_of g c = (known g c).0

pub returns-in-Ok-clause-place : goal.returns-in-Ok-clause-place
returns-in-Ok-clause-place g c = (known g c).1

pub returns-in-Ok-clause-accepted : goal.returns-in-Ok-clause-accepted
returns-in-Ok-clause-accepted g c =
    accepted c.args.channel.now c.args.history.now _ _ _ _ c.in-Ok.count.value _ _ c.requires.record_of c.requires.place c.requires.met c.in-Ok.ensures.accepted
    (subst (λ d. IsAddedTo c.args.history.now d c.args.past.now c.add.new.past) c.draft_item-draft.ensures c.add.ensures.added)

pub returns-in-Err-clause-refused : goal.returns-in-Err-clause-refused
returns-in-Err-clause-refused g c =
    unpublished c.args.channel.now c.args.history.now _ _ _ _ c.in-Err.fault _ _ c.requires.record_of c.requires.place c.requires.met c.in-Err.ensures.refused
    c.show.ensures.grows c.show.ensures.all
