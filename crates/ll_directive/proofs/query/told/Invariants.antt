-- The directives of the pairs so far, with those that are left, are those of all pairs.
use Rattle.std.proofs.Common.{◌≡◌, Some}
use Rattle.form_urlencoded.specs.Form.{parse}
use Rattle.ll_directive.specs.Told.{told_after}
use Rattle.ll_directive.specs.declared.query.Few.TheVariants.{Zero}
use Rattle.ll_directive.proofs.query.told.Given as goal

abbrev pub invariant-loop-name : goal.invariant-loop-name
invariant-loop-name l =
    told_after l.directives (parse l.name-iterator.input.now) ≡ told_after (record { msn = Some Zero; part = Some Zero; skip = Some Zero }) (parse l.query)
