-- The laws have files of their own.
use Rattle.ll_script_laws.proofs.IdleLemmas.{idle}
use Rattle.ll_script_laws.proofs.TalkLaws.{answers, talks}
use Rattle.ll_script_laws.proofs.talks_law.Goals as goal

pub returns-clause-calls : goal.returns-clause-calls
returns-clause-calls c = talks

pub returns-clause-answers : goal.returns-clause-answers
returns-clause-answers c = answers

pub returns-clause-idle : goal.returns-clause-idle
returns-clause-idle c = idle
