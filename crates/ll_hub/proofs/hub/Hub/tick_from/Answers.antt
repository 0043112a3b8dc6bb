-- Each channel that takes the reading is one that it is rung for, and so is the one that refuses it.
use Rattle.std.proofs.Common.{◌≡◌, ◌≤◌, ◌<◌, arith, length, subst}
use Rattle.ll_history.proofs.PrefixLemmas.{prefix-self, prefix-trans}
use Rattle.ll_hub.proofs.RungLemmas.{rung-more, rung-none}
use Rattle.ll_hub.proofs.TickLemmas.{not-ticked, ticked-more}
use Rattle.ll_hub.specs.Calls.{AreTicked}
use Rattle.ll_hub.specs.Rung.{IsRungFrom}
use Rattle.ll_hub.proofs.hub.Hub.tick_from.Goals as goal

pub loop-channel-init : goal.loop-channel-init
loop-channel-init g c = record { rung = rung-none _ _; ticked = λ place from below. absurd (omega (arith, from, below)); grows = prefix-self _ }

pub loop-channel-preserved : goal.loop-channel-preserved
loop-channel-preserved g c =
    let i = c.loop-channel.invariant in
    let t = c.in_default.ensures.ticked in
    record {
      rung = rung-more _ _ _ _ _ i.rung c.in_default.ensures.rung;
      ticked = ticked-more _ _ _ _ _ _ i.ticked i.grows t;
      grows = prefix-trans _ _ _ i.grows t.grows;
    }

pub returns-in-Err-clause-rung_to : goal.returns-in-Err-clause-rung_to
returns-in-Err-clause-rung_to g c = rung-more _ _ _ _ _ c.loop-channel.invariant.rung c.in-Err.ensures.rung

pub returns-in-Err-clause-refused : goal.returns-in-Err-clause-refused
returns-in-Err-clause-refused g c =
    let i = c.loop-channel.invariant in
    let f = c.in-Err.ensures.refused in
    not-ticked _ _ _ _ _ _ _ _ f.0 c.loop-channel.auto.channel i.ticked i.grows f.1 f.2

pub returns-in-Err-clause-grows : goal.returns-in-Err-clause-grows
returns-in-Err-clause-grows g c = prefix-trans _ _ _ c.loop-channel.invariant.grows c.in-Err.ensures.refused.2.grows

pub returns-clause-ticked : goal.returns-clause-ticked
returns-clause-ticked g c place from below =
    let len : c.len-channel-end.result ≡ length c.args.self.now = cc in
    c.loop-channel.invariant.ticked place from (omega (arith, len, below, c.loop-channel-test.false))

pub returns-clause-rung : goal.returns-clause-rung
returns-clause-rung g c within =
    let len : c.len-channel-end.result ≡ length c.args.self.now = cc in
    let most = c.loop-channel.auto.channel-end (omega (arith, len, within)) in
    let all : c.loop-channel.channel ≡ length c.args.self.now = omega (arith, len, most, c.loop-channel-test.false) in
    subst (λ end. IsRungFrom c.args.first end (g.B.Bell.rung c.args.bell.now) (g.B.Bell.rung c.loop-channel.bell)) all c.loop-channel.invariant.rung
