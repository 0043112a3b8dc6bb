-- The first bytes of a response show whether it is one with media.
use Rattle.ll_wire.proofs.ResponseLemmas.{media-is-told, others-are-told}
use Rattle.ll_wire.proofs.laws.media_law.Goals as goal

pub returns : goal.returns
returns c = record { media = media-is-told; others = others-are-told }
