-- The removals that stay are what the time that has passed leaves of the list.
use Rattle.std.proofs.Common.{ap, ◌∙◌}
use Rattle.ll_range.specs.Announced.{Announced}
use Rattle.ll_range.specs.Kept.{at_time}
use Rattle.ll_range.proofs.Steps.{passed}
use Rattle.ll_range.proofs.ranges.Ranges.expire.Goals as goal

pub returns-clause-follows : goal.returns-clause-follows
returns-clause-follows c = λ conf items i e silent t.
    passed conf items i c.args.self.now _ c.args.end e silent t
    (ap (λ xs. (let a : Announced = record { limit = c.self.inside.limit; listed = c.self.inside.listed; recent = xs } in a)) c.forget.ensures
    ∙ ap (at_time c.args.end) c.self.view_is)
