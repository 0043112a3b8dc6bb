use Rattle.std.proofs.Common.{◌∙◌, ap, sym, true≢false}
use Rattle.ll_room.specs.Answers.{is_done}
use Rattle.ll_hub_channel.proofs.LastLemmas.{after-last, closes-last}
use Rattle.ll_hub_channel.proofs.channel.close_each.Goals as goal

pub loop-one-preserved : goal.loop-one-preserved
loop-one-preserved c =
    let l = after-last c.loop-one.recorder.room c.close.new.self.room c.in-Some.one c.into_parked.result c.loop-one.left.items c.pop_back.new.self.items c.close.result
    c.loop-one.invariant.each c.loop-one.invariant.distinct c.in-Some.ensures.items c.into_parked.ensures
    c.close.ensures.answer c.close.ensures.fewer c.close.ensures.goes_on.same in
    record { each = l.0; distinct = l.1 }

pub unreachable-requires : goal.unreachable-requires
unreachable-requires c =
    let done = closes-last c.loop-one.recorder.room c.in-Some.one c.into_parked.result c.loop-one.left.items c.pop_back.new.self.items
    c.loop-one.invariant.each c.in-Some.ensures.items c.into_parked.ensures in
    true≢false (sym (ap is_done (c.close.ensures.answer ∙ done)) ∙ ap is_done c.in-Stranger.is)
