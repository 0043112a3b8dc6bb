-- Which segments are skipped does not depend on the parts that they list.
use Rattle.std.proofs.Common.{ap, ◌∙◌}
use Rattle.ll_window.proofs.ReaderLemmas.{skipped_are}
use Rattle.ll_window.proofs.window.Window.skip_count.Goals as goal

pub returns : goal.returns
returns c =
    skipped_are _ c.self.inside.finished c.self.inside.open_parts.items c.self.inside.progress c.skip_count.result c.skip-limit.result _
    c.self.view_is c.self.invariant.lasts (c.skip-limit.ensures.value ∙ ap (λ s. s.skip) c.deref.ensures) c.skip_count.ensures
