-- What a reply makes happen on its connection is counted and written.
use Rattle.ll_connection.specs.Turn as connection
use Rattle.ll_replay.proofs.TurnLemmas.{reply-same, sent-says}
use Rattle.ll_replay.specs.contracts.driver.Driver.{the_view}
use Rattle.ll_replay.proofs.driver.Driver.reply.Goals as goal

pub returns-clause-says : goal.returns-clause-says
returns-clause-says c =
    sent-says (the_view c.self.inside) _ c.sent.new.self c.reply.new.self c.reply.new.rooms c.in_ok-sent.sent c.sent.result (λ lucks. connection.reply lucks c.args.number c.args.reply)
    c.self.view_is c.sent.ensures.text (λ v. c.in_ok-sent.ensures v) (λ lucks. reply-same lucks c.args.number c.args.reply) c.sent.ensures.count
