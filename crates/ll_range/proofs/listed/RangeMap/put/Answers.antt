-- A key that the map lacks comes after the others.
use Rattle.ll_range.proofs.Entries.{listed_put}
use Rattle.ll_range.proofs.listed.RangeMap.put.Goals as goal

pub returns-in-Ok-clause-ok : goal.returns-in-Ok-clause-ok
returns-in-Ok-clause-ok c =
    listed_put c.self.inside.entries _ c.in_ok-key.key c.args.entry c.args.id.now c.args.self.now
    c.self.view_is c.in_ok-key.ensures.ok c.requires c.in-Ok.ensures.entries
