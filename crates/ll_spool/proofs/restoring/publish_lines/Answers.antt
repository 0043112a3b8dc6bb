-- All bytes that are kept are those of items that are published.
use Rattle.std.proofs.Common.{List, subst}
use Rattle.std.specs.List.Sorted.{IsPermutation}
use Rattle.ll_layout.specs.Held.{LayoutValue}
use Rattle.ll_spool.proofs.PlacedLemmas.{published_from}
use Rattle.ll_spool.specs.Placed.{IsGivenTo, placed_from}
use Rattle.ll_spool.specs.Spooled.{lines_in}
use Rattle.ll_spool.specs.declared.placed.PlacedItem.{PlacedItem}
use Rattle.ll_spool.proofs.restoring.publish_lines.Goals as goal

pub returns-in-Ok-clause-published : goal.returns-in-Ok-clause-published
returns-in-Ok-clause-published g c =
    let settings = c.args.settings.now in
    let text = c.args.text.now in
    let old = g.A.Accepts.accepted c.args.channel.now in
    let new = g.A.Accepts.accepted c.publish.new.channel in
    let layouts = c.in_ok-layouts.layouts.items in
    let stored = c.in_ok-stored.stored.items in
    let files = g.D.Disk.files c.args.disk.now in
    let order : IsPermutation (placed_from 0 layouts) stored =
    subst (λ (ls : List LayoutValue). IsPermutation (placed_from 0 ls) stored) c.deref.ensures.value c.in_ok-stored.ensures in
    let given : IsGivenTo settings (lines_in text) old new c.in-Ok.count stored files =
    subst (λ (ps : List PlacedItem). IsGivenTo settings (lines_in text) old new c.in-Ok.count ps files) c.deref-2.ensures.value c.in-Ok.ensures.published in
    published_from settings text old new c.in-Ok.count layouts stored files c.in_ok-layouts.ensures order given
