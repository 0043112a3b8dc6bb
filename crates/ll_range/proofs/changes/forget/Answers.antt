-- The removals that stay are those that the closure lets stay.
use Rattle.std.proofs.Common.{rules, ap, ◌∙◌, map}
use Rattle.indexmap.proofs.CallerLemmas.{filter-RetainsPairs}
use Rattle.ll_range.specs.Announced.{is_recent}
use Rattle.ll_range.specs.Kept.{removal_at}
use Rattle.ll_range.proofs.Entries.{map-filter}
use Rattle.ll_range.proofs.changes.forget.Goals as goal

pub returns : goal.returns
returns c =
    ap (map removal_at) (filter-RetainsPairs _ (λ e. is_recent c.args.limit c.args.end (removal_at e)) _ (λ k v b w g call. search rules) _ _ c.retain.ensures.filtered)
    ∙ map-filter removal_at (is_recent c.args.limit c.args.end) c.args.recent.now.entries
