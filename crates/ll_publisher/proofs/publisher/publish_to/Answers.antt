-- The answer to publishing the item again holds for the pass before the first try.
use Rattle.ll_publisher.proofs.publisher.publish_to.Goals as goal

pub returns-clause-told : goal.returns-clause-told
returns-clause-told g c = c.publish_again.ensures.told c.args.pass.now c.in_ok-first.ensures.passed c.in_ok-first.ensures.told

pub returns-clause-passed : goal.returns-clause-passed
returns-clause-passed g c = c.publish_again.ensures.passed c.args.pass.now c.in_ok-first.ensures.passed

pub returns-clause-unanswered : goal.returns-clause-unanswered
returns-clause-unanswered g c = c.publish_again.ensures.unanswered c.args.pass.now c.in_ok-first.ensures.passed
