-- A key that the map lacks comes after the others.
use Rattle.std.proofs.Common.{[], ◌∷◌, ◌++◌, ap, map, ◌∙◌}
use Rattle.ll_line.specs.Line.{DateRangeLine}
use Rattle.ll_read.specs.Ranges.{range_at}
use Rattle.ll_read.proofs.Entries.{put_last}
use Rattle.ll_read.proofs.draft.put_range.Goals as goal

pub returns-in-Ok : goal.returns-in-Ok
returns-in-Ok c =
    ap (map range_at) c.in-Ok.ensures.entries
    ∙ put_last c.args.id.now c.args.ranges.now.entries c.in_ok-key.key c.in_ok-attributes.attributes c.in_ok-key.ensures.ok c.requires
    ∙ ap (λ v. map range_at c.args.ranges.now.entries ++ (let x : DateRangeLine = record { id = c.args.id.now; attributes = v } in x) ∷ []) c.in_ok-attributes.ensures
