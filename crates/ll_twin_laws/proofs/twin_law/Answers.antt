-- The texts are proved in a file of their own.
use Rattle.ll_twin_laws.proofs.TextProof.{reports-alone, twin-media, twin-text}
use Rattle.ll_twin_laws.proofs.twin_law.Goals as goal

pub returns-clause-text : goal.returns-clause-text
returns-clause-text c = twin-text

pub returns-clause-media : goal.returns-clause-media
returns-clause-media c = twin-media

pub returns-clause-reports : goal.returns-clause-reports
returns-clause-reports c = reports-alone
