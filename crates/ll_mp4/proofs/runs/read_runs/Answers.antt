-- No run more.
use Rattle.std.proofs.Common.{◌∙◌, ap, sym, Ok}
use Rattle.ll_mp4.specs.Found.{from_next}
use Rattle.ll_mp4.specs.declared.kind.Kind.TheVariants.{Trun}
use Rattle.ll_mp4.proofs.RunLemmas.{runs_done}
use Rattle.ll_mp4.proofs.runs.read_runs.Goals as goal

pub returns : goal.returns
returns c =
    let none = c.in_ok-trun.ensures.told ∙ ap (λ next. from_next Trun (Ok next)) c.in_default.is in
    rw c.unwrap_or.ensures
    (sym (c.runs.invariant.same ∙ runs_done c.args.track.now c.runs.ticks c.runs.first c.runs.rest.now none c.runs.invariant.few))
