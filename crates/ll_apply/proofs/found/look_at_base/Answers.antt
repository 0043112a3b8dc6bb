-- A delta update is no earlier playlist.
use Rattle.std.proofs.Common.{sym, ◌∙◌}
use Rattle.ll_read.specs.Reading.{playlist_in}
use Rattle.ll_apply.proofs.FoundLemmas.{base-skips}
use Rattle.ll_apply.proofs.found.look_at_base.Goals as goal

pub returns-then-is_some-clause-refused : goal.returns-then-is_some-clause-refused
returns-then-is_some-clause-refused c =
    base-skips (playlist_in c.args.bytes.now) c.in-Ok.found c.in-Ok.ensures.found (sym c.is_some.ensures ∙ c.if-is_some.true)
