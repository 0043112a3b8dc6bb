-- A key of the map is the id of one of the date ranges.
use Rattle.std.proofs.Common.{ap, bytes_eq, ◌∙◌}
use Rattle.std.specs.List.{list_any}
use Rattle.ll_item.specs.Told.{Listed}
use Rattle.ll_range.proofs.Entries.{listed_found}
use Rattle.ll_range.proofs.listed.RangeMap.contains.Goals as goal

pub returns : goal.returns
returns c =
    c.contains_key.ensures
    ∙ listed_found c.args.id.now c.self.inside.entries.entries
    ∙ ap (list_any (λ (range : Listed). bytes_eq c.args.id.now range.id)) c.self.view_is
