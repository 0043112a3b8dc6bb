-- The laws hold of the definition; a fault of the earlier text is never out of memory.
use Rattle.std.proofs.Common.{Err}
use Rattle.ll_read.specs.Reading.{playlist_in}
use Rattle.ll_apply.specs.Texts.{applied_text, base_of, delta_of}
use Rattle.ll_apply.proofs.Chain.{answer-base, answer-memory, bad-base}
use Rattle.ll_apply.proofs.AppliedTexts.{full}
use Rattle.ll_apply.proofs.applying.apply.Goals as goal

pub returns-in-Ok-clause-full : goal.returns-in-Ok-clause-full
returns-in-Ok-clause-full c = full

pub returns-in-Err-clause-full : goal.returns-in-Err-clause-full
returns-in-Err-clause-full c = full

pub returns-in-Err-clause-memory : goal.returns-in-Err-clause-memory
returns-in-Err-clause-memory c =
    answer-memory (Err c.in-Err.fault) (applied_text c.args.base.now c.args.delta.now)
    (answer-base (playlist_in c.args.base.now) c.in-Err.fault (applied_text c.args.base.now c.args.delta.now) c.in-Err.ensures.refused
    (bad-base (base_of (playlist_in c.args.base.now)) (delta_of (playlist_in c.args.delta.now)) c.in-Err.fault c.in-Err.ensures.refused))
