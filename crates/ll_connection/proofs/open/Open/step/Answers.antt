-- A step is one of the definition: the session is out of memory, has no want, or has one that is answered or waits.
use Rattle.std.proofs.Common.{[], ◌<◌, ap, length, subst, sym, ◌∙◌}
use Rattle.ll_session.specs.Talk.{SessionValue, fed, muted}
use Rattle.ll_connection.specs.Visit.{asked, put_out}
use Rattle.ll_connection.proofs.OpenLemmas.{none_still, shut_still, step_answered, step_held, step_muted, step_none, waits_still}
use Rattle.ll_connection.proofs.StepLemmas.{fewer_out}
use Rattle.ll_connection.proofs.open.Open.step.Goals as goal

pub returns-in_default-clause-stepped : goal.returns-in_default-clause-stepped
returns-in_default-clause-stepped c w e d =
    step_muted c.args.self.now.number c.args.self.now.session c.mute.new.self w _ c.in_default.ensures.needed
    (c.mute.ensures ∙ ap muted c.in_default.ensures.err) e

pub returns-in_default-clause-last : goal.returns-in_default-clause-last
returns-in_default-clause-last c _ =
    shut_still c.args.self.now.number c.mute.new.self (ap (λ (s : SessionValue). s.shut) c.mute.ensures)

pub returns-in_default-taken-clause-stepped : goal.returns-in_default-taken-clause-stepped
returns-in_default-taken-clause-stepped c w e d =
    step_none c.args.self.now.number c.args.self.now.session c.next_want.new.self w _ (sym c.in-Ok.ensures.want ∙ c.in_default-taken.is)
    c.in-Ok.ensures.ok e

pub returns-in_default-taken-clause-last : goal.returns-in_default-taken-clause-last
returns-in_default-taken-clause-last c _ =
    none_still c.args.self.now.number c.args.self.now.session c.next_want.new.self (sym c.in-Ok.ensures.want ∙ c.in_default-taken.is) c.in-Ok.ensures.ok

pub returns-in-Some-2-clause-stepped : goal.returns-in-Some-2-clause-stepped
returns-in-Some-2-clause-stepped c w e d =
    let both = c.in_ok-answer.ensures.asked w e d in
    step_answered c.args.self.now.number c.args.self.now.session c.put_out.new.self.session w _ c.in-Some.want (sym c.in-Ok.ensures.want ∙ c.in-Some.is)
    c.in-Some-2.answer both.0 c.put_out.ensures.put.0 both.1 (sym c.in-Some-2.is ∙ both.2)
    (c.put_out.ensures.put.1 ∙ ap (λ (s : SessionValue). put_out c.put_out.ensures.put.0 s c.in-Some-2.answer) c.in-Ok.ensures.ok)

pub returns-in-Some-2-clause-fewer : goal.returns-in-Some-2-clause-fewer
returns-in-Some-2-clause-fewer c _ =
    subst (λ (t : SessionValue). length t.unread < length c.args.self.now.session.unread)
    (sym (c.put_out.ensures.put.1 ∙ ap (λ (s : SessionValue). put_out c.put_out.ensures.put.0 s c.in-Some-2.answer) c.in-Ok.ensures.ok))
    (fewer_out c.args.self.now.session c.in-Some.want c.put_out.ensures.put.0 c.in-Some-2.answer (sym c.in-Ok.ensures.want ∙ c.in-Some.is))

pub returns-in_ok-come-in-None-clause-stepped : goal.returns-in_ok-come-in-None-clause-stepped
returns-in_ok-come-in-None-clause-stepped c w e d =
    let both = c.in_ok-answer.ensures.asked w e d in
    step_held c.args.self.now.number c.args.self.now.session c.come.new.self.session w _ c.in-Some.want (sym c.in-Ok.ensures.want ∙ c.in-Some.is)
    both.0 (sym c.in-None.is ∙ both.2) (rw (c.in-Ok.ensures.ok) at (c.in_ok-come-in-None.ensures.came (asked both.0 c.args.self.now.number c.in-Some.want w).rooms both.1))

pub returns-in_ok-come-in-None-clause-last : goal.returns-in_ok-come-in-None-clause-last
returns-in_ok-come-in-None-clause-last c _ =
    waits_still c.args.self.now.number c.args.self.now.session c.come.new.self.session c.in-Some.want (sym c.in-Ok.ensures.want ∙ c.in-Some.is)
    (c.in_ok-come-in-None.ensures.fed ∙ ap (λ (t : SessionValue). fed t []) c.in-Ok.ensures.ok)
