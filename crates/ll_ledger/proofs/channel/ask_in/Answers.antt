use Rattle.std.proofs.Common.{subst, sym}
use Rattle.ll_history.specs.History.{IsAddedTo}
use Rattle.ll_history.specs.declared.deed.Deed.{Deed}
use Rattle.ll_ledger.proofs.SectionLemmas.{asked, both-known, noted-grows, refused-record, unasked}
use Rattle.ll_hub_channel.specs.Deeds.{events_of}
use Rattle.ll_record.specs.Recording.{IsRecorded}
use Rattle.std.proofs.Common.{◌≡◌, ◌∷◌, ◌++◌, []}
use Rattle.ll_hub_channel.specs.Deeds.{IsRecordOf}
use Rattle.ll_ledger.proofs.channel.ask_in.Goals as goal
use Rattle.ll_ledger.proofs.channel.ask_in.Goals.{After-add, After-note_refusal}

known : (g : _) (c : After-add g) → IsRecordOf c.ask.new.self c.add.new.self.deeds × (c.add.new.self.place ≡ c.ask.new.self.room.channel)
known g c =
    both-known c.args.channel.now c.ask.new.self c.args.history.now c.add_reading.new.history c.add.new.self c.now-ms.result c.args.known.settings.now c.args.want
    c.requires.record_of c.requires.place c.in-Ok.ensures.goes_on c.requires.met.settings
    (c.in-Ok.ensures.recorded _ (subst (λ s. IsRecorded c.args.channel.now (events_of s c.args.history.now.deeds)) c.requires.met.settings c.requires.record_of.recorded))
    c.add_reading.ensures.deeds (subst (λ d. c.add.new.self ≡ record c.add_reading.new.history { deeds = c.add_reading.new.history.deeds ++ d ∷ [] }) c.draft_request-draft.ensures c.add.ensures.deeds)

pub returns-in-Ok-clause-record_of : goal.returns-in-Ok-clause-record_of
returns-in-Ok-clause-record_of g c = (known g c).0

pub returns-in-Ok-clause-place : goal.returns-in-Ok-clause-place
returns-in-Ok-clause-place g c = (known g c).1

still : (g : _) (c : After-note_refusal g) → IsRecordOf c.ask.new.self c.note_refusal.new.history.deeds × (c.note_refusal.new.history.place ≡ c.ask.new.self.room.channel)
still g c =
    refused-record c.args.channel.now c.ask.new.self c.args.history.now c.note_refusal.new.history c.args.known.place c.now-ms.result c.in-Err.fault _ _ c.requires.record_of
    c.requires.place c.in-Err.ensures.goes_on c.in-Err.ensures.refused c.note_refusal.ensures

pub returns-in-Err-clause-record_of : goal.returns-in-Err-clause-record_of
returns-in-Err-clause-record_of g c = (still g (goal.at.returns-in-Err-clause-record_of g c).After-note_refusal).0

pub returns-in-Err-clause-place : goal.returns-in-Err-clause-place
returns-in-Err-clause-place g c = (still g (goal.at.returns-in-Err-clause-place g c).After-note_refusal).1

pub returns-in-Ok-clause-asked : goal.returns-in-Ok-clause-asked
returns-in-Ok-clause-asked g c =
    asked (g.C.Clock.shows c.args.clock.now) c.args.channel.now c.args.history.now c.add_reading.new.history _ _ _ c.now-ms.result _ c.in-Ok.answer _ c.add_reading.new.past _
    c.requires.record_of c.requires.place c.requires.met c.now-ms.ensures c.in-Ok.ensures.asked c.add_reading.ensures.added c.add_reading.ensures.deeds
    (subst (λ d. IsAddedTo c.add_reading.new.history d c.add_reading.new.past c.add.new.past) c.draft_request-draft.ensures c.add.ensures.added)

pub returns-in-Err-clause-refused : goal.returns-in-Err-clause-refused
returns-in-Err-clause-refused g c =
    unasked _ c.args.channel.now c.ask.new.self c.args.history.now c.note_refusal.new.history _ _ _ c.now-ms.result c.in-Err.fault _ _ c.requires.record_of c.requires.place
    c.in-Err.ensures.goes_on c.requires.met c.now-ms.ensures c.in-Err.ensures.refused c.note_refusal.ensures

pub returns-in-Err-clause-grows : goal.returns-in-Err-clause-grows
returns-in-Err-clause-grows g c = noted-grows c.args.history.now c.note_refusal.new.history c.now-ms.result c.in-Err.fault _ _ c.note_refusal.ensures
