-- A key of the map is the id of a date range.
use Rattle.std.proofs.Common.{◌∙◌}
use Rattle.ll_read.proofs.Entries.{key_found}
use Rattle.ll_read.proofs.playlist.has_key.Goals as goal

pub returns : goal.returns
returns c = c.contains_key.ensures ∙ key_found c.args.id.now c.args.ranges.now.entries
