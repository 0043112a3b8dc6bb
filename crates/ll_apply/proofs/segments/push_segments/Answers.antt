-- What is cut off and kept is what the definition drops and takes.
use Rattle.std.proofs.Common.{string_bytes}
use Rattle.std.proofs.lemmas.Result.{on_ok_weaker}
use Rattle.ll_apply.proofs.SegmentsWritten.{pushed-kept}
use Rattle.ll_apply.proofs.segments.push_segments.Goals as goal

pub returns : goal.returns
returns c =
    on_ok_weaker c.push_both.result
    (pushed-kept (string_bytes c.args.text.now) (string_bytes c.push_both.new.text) _ c.args.from c.args.count c.args.base.now _ c.split_kept.result.1.now c.args.own.now
    c.map_after.ensures c.split_kept.ensures.gone c.split_kept.ensures.kept)
    c.push_both.ensures
