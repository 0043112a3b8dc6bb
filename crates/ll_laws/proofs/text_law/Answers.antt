-- The law has a file of its own.
use Rattle.ll_laws.proofs.TextProof.{text}
use Rattle.ll_laws.proofs.text_law.Goals as goal

pub returns : goal.returns
returns c = text
