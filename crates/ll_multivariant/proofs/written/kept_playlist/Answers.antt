-- No fault of what is named is one of the record.
use Rattle.std.proofs.Common.{◌≡◌}
use Rattle.ll_multivariant.proofs.StreamLemmas.{named_other}
use Rattle.ll_multivariant.specs.declared.fault.MultivariantFault.TheVariants.{Wrong}
use Rattle.ll_multivariant.proofs.written.kept_playlist.Goals as goal

pub returns-in-Err-clause-named : goal.returns-in-Err-clause-named
returns-in-Err-clause-named c = λ f is.
    let same : c.in-Err.fault ≡ Wrong f = cc in
    named_other c.in-Some.settings c.deref.result.now c.args.sources.now c.in-Err.fault f c.in-Err.ensures same
