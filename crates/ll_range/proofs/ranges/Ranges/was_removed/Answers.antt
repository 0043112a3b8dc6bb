-- The removal of an id is the one that the map finds.
use Rattle.std.proofs.Common.{ap, sym, ◌∙◌}
use Rattle.std.specs.Option.{option_copied}
use Rattle.ll_range.specs.Announced.{Announced}
use Rattle.ll_range.proofs.Entries.{is_recent_by, recent_found}
use Rattle.ll_range.proofs.ranges.Ranges.was_removed.Goals as goal

pub returns-in-Some : goal.returns-in-Some
returns-in-Some c =
    c.is_recent.ensures
    ∙ ap (λ o. is_recent_by c.self.inside.limit c.args.end (option_copied o)) (sym c.in-Some.is)
    ∙ recent_found c.self.inside.limit c.args.end c.args.id.now c.self.inside.recent.entries c.args.self.now c.get.result c.get.ensures.value
    (ap (λ (a : Announced). a.limit) c.self.view_is) (ap (λ (a : Announced). a.recent) c.self.view_is)

pub returns-in-None : goal.returns-in-None
returns-in-None c =
    ap (λ o. is_recent_by c.self.inside.limit c.args.end (option_copied o)) (sym c.in-None.is)
    ∙ recent_found c.self.inside.limit c.args.end c.args.id.now c.self.inside.recent.entries c.args.self.now c.get.result c.get.ensures.value
    (ap (λ (a : Announced). a.limit) c.self.view_is) (ap (λ (a : Announced). a.recent) c.self.view_is)
