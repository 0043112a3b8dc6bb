-- The law is a lemma of its own.
use Rattle.ll_verdict.proofs.NewerLemmas.{newer_media}
use Rattle.ll_verdict.proofs.laws.newer_media_law.Goals as goal

pub returns : goal.returns
returns c = newer_media
