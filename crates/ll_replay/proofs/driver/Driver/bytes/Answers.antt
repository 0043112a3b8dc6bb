-- What bytes make happen on their connection is counted and written.
use Rattle.ll_connection.specs.Turn as connection
use Rattle.ll_replay.proofs.TurnLemmas.{bytes-same, sent-says}
use Rattle.ll_replay.specs.contracts.driver.Driver.{the_view}
use Rattle.ll_replay.proofs.driver.Driver.bytes.Goals as goal

pub returns-clause-says : goal.returns-clause-says
returns-clause-says c =
    sent-says (the_view c.self.inside) _ c.sent.new.self c.bytes.new.self c.bytes.new.rooms c.in_ok-sent.sent c.sent.result (λ lucks. connection.bytes lucks c.args.number c.args.piece.now)
    c.self.view_is c.sent.ensures.text (λ v. c.in_ok-sent.ensures v) (λ lucks. bytes-same lucks c.args.number c.args.piece.now) c.sent.ensures.count
