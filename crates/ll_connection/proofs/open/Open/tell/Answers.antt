-- One answer is written, and then those that are left.
use Rattle.std.proofs.Common.{◌++◌, List, ℕ, ap, subst, ◌∙◌}
use Rattle.ll_script.specs.Answers.{sent_line}
use Rattle.ll_session.specs.Talk.{SessionValue}
use Rattle.ll_connection.specs.Stands.{AreTold}
use Rattle.ll_connection.specs.declared.sent.Sent.{Sent}
use Rattle.ll_connection.proofs.OpenLemmas.{one_less, told_none, told_one}
use Rattle.ll_connection.proofs.open.Open.tell.Goals as goal

pub loop-answer-preserved : goal.loop-answer-preserved
loop-answer-preserved c =
    let s = c.loop-answer.self.session in
    let n = c.args.self.now.number in
    let next : Sent = record { text = c.push_sent.new.text; replies = c.saturating_add-sent.result } in
    record {
      number = c.loop-answer.invariant.number;
      session = one_less c.args.self.now.session s c.first_sent.new.self c.first_sent.ensures c.loop-answer.invariant.session;
      told = λ after a. c.loop-answer.invariant.told after
          (told_one n s.answers c.in-Some.answer c.loop-answer.sent next after c.in-Some.ensures
          (c.in_ok-push_sent.ensures ∙ ap (λ k. c.loop-answer.sent.text.items ++ sent_line k c.in-Some.answer) c.loop-answer.invariant.number)
          c.saturating_add-sent.ensures
          (subst (λ (x : List (List ℕ)). AreTold n x next after) (ap (λ (t : SessionValue). t.answers) c.first_sent.ensures) a));
    }

pub returns-clause-told : goal.returns-clause-told
returns-clause-told c =
    c.loop-answer.invariant.told c.loop-answer.sent
    (told_none c.args.self.now.number c.loop-answer.self.session.answers c.loop-answer.sent c.in_default.ensures)
