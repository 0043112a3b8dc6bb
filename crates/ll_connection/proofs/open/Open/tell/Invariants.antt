-- What was written so far, and the answers that are left, are all answers of the session.
use Rattle.std.proofs.Common.{◌≡◌, length}
use Rattle.ll_connection.specs.Stands.{AreTold}
use Rattle.ll_connection.specs.declared.sent.Sent.{Sent}
use Rattle.ll_connection.proofs.open.Open.tell.Given as goal

abbrev pub invariant-loop-answer : goal.invariant-loop-answer
invariant-loop-answer l = record {
  number : l.self.number ≡ l.fn.self.number;
  session : l.self.session ≡ record l.fn.self.session { answers = l.self.session.answers };
  told : (after : Sent) → AreTold l.fn.self.number l.self.session.answers l.sent after → AreTold l.fn.self.number l.fn.self.session.answers l.fn.sent after;
}

abbrev pub decreases-loop-answer : goal.decreases-loop-answer
decreases-loop-answer l = length l.self.session.answers
