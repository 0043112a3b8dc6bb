-- Each line's item is published after those before it, with its bytes.
use Rattle.std.proofs.Common.{ap, length, refl, subst, sym, ◌∙◌}
use Rattle.ll_spool.proofs.PlacedLemmas.{cut_all, cut_line, cut_nothing, giving_all, giving_more, giving_none}
use Rattle.ll_spool.specs.Placed.{IsGivenTo, IsRead}
use Rattle.ll_spool.specs.Restored.{Left}
use Rattle.ll_spool.specs.Spooled.{lines_in}
use Rattle.ll_spool.proofs.restoring.publish.Goals as goal

pub loop-next-init : goal.loop-next-init
loop-next-init g c = (
  giving_none c.args.settings.now _ _ _ c.args.stored.now (g.D.Disk.files c.args.disk.now) c.args.text.now c.of-lines.ensures,
  cut_nothing c.args.text.now _ c.of-lines.ensures,
  refl,
  refl,
  refl,
)

pub loop-next-preserved : goal.loop-next-preserved
loop-next-preserved g c =
    let before = c.loop-next.invariant in
    let line = c.in-Some.ensures in (
      giving_more c.args.settings.now _ c.loop-next.lines c.next.new.self c.in-Some.line.now _ _ _ c.in_ok-item.item c.in-Some.count c.args.stored.now c.loop-next.next c.in_ok-item.then
          (g.D.Disk.files c.args.disk.now) before.0 line.line line.number.1 line.number.0 c.in_ok-item.ensures.spelled c.in_ok-accept.ensures.accepted
          (subst (IsRead c.in-Some.count c.in_ok-item.item c.args.stored.now c.loop-next.next c.in_ok-item.then) before.3 c.in_ok-item.ensures.read),
      cut_line c.args.text.now c.loop-next.lines c.next.new.self c.in-Some.line.now before.1 line.line line.text,
      c.read_item.ensures.lines ∙ before.2,
      c.read_item.ensures.files ∙ before.3,
      c.in_ok-item.ensures.steady ∙ before.4,
    )

pub returns-clause-published : goal.returns-clause-published
returns-clause-published g c =
    let settings = c.args.settings.now in
    let lines = lines_in c.args.text.now in
    let old = g.A.Accepts.accepted c.args.channel.now in
    let new = g.A.Accepts.accepted c.loop-next.channel in
    let stored = c.args.stored.now in
    let files = g.D.Disk.files c.args.disk.now in
    let all =
    giving_all settings lines c.loop-next.lines old new stored c.loop-next.next files c.loop-next.invariant.0 c.in_default.ensures.line c.in_default-get.ensures.lookup.3 in
    subst (λ n. IsGivenTo settings lines old new n stored files) (sym (c.count.ensures ∙ ap (λ (l : Left). l.count) (c.in_default.ensures.none refl))) all

pub returns-clause-rest : goal.returns-clause-rest
returns-clause-rest g c =
    cut_all c.args.text.now c.loop-next.lines c.rest_len.result c.loop-next.invariant.1 c.in_default.ensures.line
    (c.rest_len.ensures ∙ ap (λ (l : Left). length l.text) (c.in_default.ensures.none refl))
