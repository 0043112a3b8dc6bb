-- More bytes only add requests.
use Rattle.ll_session.proofs.RequestLemmas.{requests-extend}
use Rattle.ll_session.proofs.laws.requests_stay_law.Goals as goal

pub returns : goal.returns
returns c = requests-extend
