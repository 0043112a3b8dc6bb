-- Each act says what it is, and all but an item and a reading of the clock make no replies due.
use Rattle.std.proofs.Common.{Global, None, Some, Vec, ap, refl, subst, sym, ℕ, ◌∙◌}
use Rattle.ll_publish.specs.Refusals.{no_line}
use Rattle.ll_script.specs.Answers.{clock_line}
use Rattle.ll_script.specs.declared.act.Act.TheVariants.{Declare, At, Refuse, Answer, Close, RefuseClock, Drop}
use Rattle.ll_verdict.specs.declared.fault.ClockFault.TheVariants as late
use Rattle.ll_replay.specs.Kept.{IsDone}
use Rattle.ll_replay.specs.Script.{plain}
use Rattle.ll_replay.proofs.DoneLemmas.{asked-is, came-is, done-is, line-says}
use Rattle.ll_replay.proofs.driver.Driver.step.Goals as goal

pub returns-in_ok-declared-in-Declare-clause-done : goal.returns-in_ok-declared-in-Declare-clause-done
returns-in_ok-declared-in-Declare-clause-done c w k =
    subst (λ a. IsDone c.declare.new.self c.quiet.result a w) (sym c.in-Declare.is)
    (done-is c.declare.new.self c.quiet.result c.in_ok-declared-in-Declare.declared None (Declare c.in-Declare.settings) w plain c.quiet.ensures.answer c.quiet.ensures.due refl (c.in_ok-declared-in-Declare.ensures.says w k))

pub returns-in_ok-told-in-At-clause-done : goal.returns-in_ok-told-in-At-clause-done
returns-in_ok-told-in-At-clause-done c w k =
    subst (λ a. IsDone c.args.self.now c.quiet-in-At.result a w) (sym c.in-At.is)
    (done-is c.args.self.now c.quiet-in-At.result c.in_ok-told-in-At.told None (At c.in-At.place c.in-At.rendition) w plain c.quiet-in-At.ensures.answer c.quiet-in-At.ensures.due refl (c.in_ok-told-in-At.ensures w k))

pub returns-in_ok-refused-in-Refuse-clause-done : goal.returns-in_ok-refused-in-Refuse-clause-done
returns-in_ok-refused-in-Refuse-clause-done c w k =
    subst (λ a. IsDone c.args.self.now c.quiet-in-Refuse.result a w) (sym c.in-Refuse.is)
    (done-is c.args.self.now c.quiet-in-Refuse.result c.in_ok-refused-in-Refuse.refused None (Refuse c.in-Refuse.reason) w plain c.quiet-in-Refuse.ensures.answer c.quiet-in-Refuse.ensures.due refl
    (line-says c.args.self.now w c.in_ok-refused-in-Refuse.refused (no_line c.in-Refuse.reason) k c.in_ok-refused-in-Refuse.ensures))

pub returns-in_ok-asked-in-Ask-clause-done : goal.returns-in_ok-asked-in-Ask-clause-done
returns-in_ok-asked-in-Ask-clause-done c w k =
    subst (λ a. IsDone c.ask.new.self c.quiet-in-Ask.result a w) (sym c.in-Ask.is)
    (asked-is c.ask.new.self c.quiet-in-Ask.result c.in_ok-asked-in-Ask.asked c.in-Ask.id c.in-Ask.place c.in-Ask.want w c.quiet-in-Ask.ensures.answer c.quiet-in-Ask.ensures.due
    (c.in_ok-asked-in-Ask.ensures.says w k))

pub returns-in_ok-answered-in-Answer-clause-done : goal.returns-in_ok-answered-in-Answer-clause-done
returns-in_ok-answered-in-Answer-clause-done c w k =
    subst (λ a. IsDone c.answer.new.self c.quiet-in-Answer.result a w) (sym c.in-Answer.is)
    (done-is c.answer.new.self c.quiet-in-Answer.result c.in_ok-answered-in-Answer.answered None (Answer c.in-Answer.id c.in-Answer.fault) w plain c.quiet-in-Answer.ensures.answer c.quiet-in-Answer.ensures.due refl (c.in_ok-answered-in-Answer.ensures.says w k))

pub returns-in-Close-clause-done : goal.returns-in-Close-clause-done
returns-in-Close-clause-done c w k =
    subst (λ a. IsDone c.close.new.self c.quiet-in-Close.result a w) (sym c.in-Close.is)
    (done-is c.close.new.self c.quiet-in-Close.result c.close.result None (Close c.in-Close.id) w plain c.quiet-in-Close.ensures.answer c.quiet-in-Close.ensures.due refl (c.close.ensures.says w k))

pub returns-in_ok-late-in-RefuseClock-clause-done : goal.returns-in_ok-late-in-RefuseClock-clause-done
returns-in_ok-late-in-RefuseClock-clause-done c w k =
    subst (λ a. IsDone c.args.self.now c.quiet-in-RefuseClock.result a w) (sym c.in-RefuseClock.is)
    (done-is c.args.self.now c.quiet-in-RefuseClock.result (Some c.into_bytes.result) None (RefuseClock) w plain c.quiet-in-RefuseClock.ensures.answer c.quiet-in-RefuseClock.ensures.due refl
    (line-says c.args.self.now w (Some c.into_bytes.result) (clock_line late.ClockRange) k
    (ap (λ (v : Vec ℕ Global). v.items) c.into_bytes.ensures.value ∙ c.in_ok-late-in-RefuseClock.ensures)))

pub returns-in_ok-came-in-Bytes-clause-done : goal.returns-in_ok-came-in-Bytes-clause-done
returns-in_ok-came-in-Bytes-clause-done c w k =
    subst (λ a. IsDone c.bytes.new.self c.quiet-in-Bytes.result a w) (sym c.in-Bytes.is)
    (came-is c.bytes.new.self c.quiet-in-Bytes.result c.in_ok-came-in-Bytes.came c.in-Bytes.number c.as_slice.result.now c.in-Bytes.piece w
    c.quiet-in-Bytes.ensures.answer c.quiet-in-Bytes.ensures.due c.as_slice.ensures (c.in_ok-came-in-Bytes.ensures.says w k))

pub returns-in-Drop-clause-done : goal.returns-in-Drop-clause-done
returns-in-Drop-clause-done c w k =
    subst (λ a. IsDone c.end.new.self c.quiet-in-Drop.result a w) (sym c.in-Drop.is)
    (done-is c.end.new.self c.quiet-in-Drop.result c.end.result None (Drop c.in-Drop.number) w plain c.quiet-in-Drop.ensures.answer c.quiet-in-Drop.ensures.due refl (c.end.ensures.says w k))
