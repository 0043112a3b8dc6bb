-- One connection: the question, and what comes after it.
use Rattle.std.proofs.Common.{◌≡◌, ◌⊎◌, inl, inr, ℕ, ◌+◌, ◌≤◌, Bool, false, List, Option, Some, None, Result, Ok, Err, IsErrAnd, IsErrOf, refl, ap, sym, subst, ◌∙◌, arith}
use Rattle.ll_announce.specs.Messages.{question}
use Rattle.ll_announce.specs.declared.standing.Standing.{Standing}
use Rattle.ll_mp4.specs.declared.fault.StreamFault.{StreamFault}
use Rattle.ll_push.specs.Answers.{refuses}
use Rattle.ll_push.specs.Connecting.{AcceptsNothing, HasFailed, HasMoved, IsAsked, IsBroken, IsConnection, IsEndless, IsPlaced, IsReady, Lost, Unknown, Went, Unasked, Moved, Unanswered, BadInput}
use Rattle.ll_push.specs.Exchanges.{AreExchanged, IsExchanged, IsLost, IsUnanswered, LinkValue}
use Rattle.ll_push.specs.Faults.{IsOfConnection, most}
use Rattle.ll_push.specs.Next.{IsAskedSo, IsOwn}
use Rattle.ll_push.specs.Publishing.{Ahead, HasSent, IsStep, TargetValue, fault_to_come, messages_to_come}
use Rattle.ll_push.specs.declared.connection.StandingAnswer.{StandingAnswer}
use Rattle.ll_push.specs.declared.connection.StandingAnswer.TheVariants as asked
use Rattle.ll_push.specs.declared.fault.PushFault.{PushFault}
use Rattle.ll_push.specs.declared.fault.PushFault.TheVariants.{Input, Read, Clock, Connect, Elsewhere, BadAnswer, Memory, Endless}
use Rattle.ll_push.specs.declared.publication.Publication.{Publication}
use Rattle.ll_push.specs.declared.publication.Step.{Step}
use Rattle.ll_push.specs.declared.publication.Step.TheVariants as step

-- after a connection that was lost, what is still to come is known
pub left-told : (t : TargetValue) (p : Option Publication) (a : Ahead) (first : LinkValue) (q : Option Publication) (left : Option Ahead) (last : LinkValue) (accepted : Bool)
    → IsConnection t p a first q left last (step.Gone accepted) → (rest : Ahead) × (left ≡ Some rest)
left-told t p a first _ _ _ _ (Lost left last told lost) = (a, told)
left-told t p a first _ _ _ _ (Went r s then left last _ ready gone) = (gone.goes.rest, gone.goes.is_left)

module _ (t : TargetValue) (before : Option Publication) (a : Ahead) (first then : LinkValue) (x : StandingAnswer) (said : IsAskedSo (question t.names) first then x) where
  pub asked-lost : x ≡ asked.Lost → (left : Option Ahead) → left ≡ Some a → IsConnection t before a first before left then (step.Gone false)
  asked-lost e left told = Lost left then told (subst (IsAskedSo (question t.names) first then) e said)

  pub asked-refused : (line : List ℕ) → x ≡ asked.Refused line → (after : Option Publication) (left : Option Ahead)
      → IsConnection t before a first after left then (step.Refused line)
  asked-refused line e after left =
      let told = subst (IsAskedSo (question t.names) first then) e said in Unknown after left then line told.0 told.1

  module _ (s : Standing) (e : x ≡ asked.Standing s) where
    is_asked : IsAsked t first s then
    is_asked = let told = subst (IsAskedSo (question t.names) first then) e said in record { line = told.0; exchanged = told.1; told = told.2 }

    pub moved-away : (r : PushFault) → (r ≡ Elsewhere) × HasMoved before s → (fault : PushFault) → r ≡ fault → IsBroken t before a first then fault
    moved-away r moved fault is = subst (IsBroken t before a first then) (sym moved.0 ∙ is) (Moved s is_asked moved.1)

    module _ (p : Publication) (placed : IsPlaced t before s p) where
      ready : IsReady t before first p then
      ready = record { standing = s; asked = is_asked; placed = placed }

      module _ (last : LinkValue) where
        pub went-so : (q : Publication) (left : Option Ahead) (done : Step) → IsStep t p a then q left last done → IsConnection t before a first (Some q) left last done
        went-so q left done went = Went p q then left last done ready went

        pub broken-so : (fault : PushFault) → IsOfConnection fault → (fault ≡ Elsewhere → ⊥)
            → ((why : StreamFault) → fault ≡ Input why → AreExchanged (messages_to_come t p a) then last × (fault_to_come p a ≡ Some why))
            → (fault ≡ BadAnswer → HasFailed t p a then last) → IsBroken t before a first last fault
        broken-so (Input why) of here input answer = let all = input why refl in BadInput p then ready all.0 why all.1
        broken-so Elsewhere of here input answer = absurd (here refl)
        broken-so BadAnswer of here input answer = Unanswered p then ready (answer refl)
        broken-so Read of here input answer = absurd of
        broken-so Clock of here input answer = absurd of
        broken-so Connect of here input answer = absurd of
        broken-so Memory of here input answer = absurd of
        broken-so Endless of here input answer = absurd of

        pub endless-so : (n m : ℕ) → (n + most ≤ m) ⊎ HasSent most t p a then last → (n + most ≤ m) ⊎ IsEndless t before a first last
        endless-so n m (inl h) = inl h
        endless-so n m (inr h) = inr (record { publication = p; then = then; ready = ready; sent = h })

-- the question has no answer
pub unasked-so : (t : TargetValue) (before : Option Publication) (a : Ahead) (first last : LinkValue) (fault : PushFault) → IsOfConnection fault → IsOwn fault
    → (fault ≡ BadAnswer → IsUnanswered AcceptsNothing (question t.names) first last) → IsBroken t before a first last fault
unasked-so t before a first last (Input why) of own answer = absurd own
unasked-so t before a first last Elsewhere of own answer = absurd own
unasked-so t before a first last BadAnswer of own answer = Unasked (answer refl)
unasked-so t before a first last Read of own answer = absurd of
unasked-so t before a first last Clock of own answer = absurd of
unasked-so t before a first last Connect of own answer = absurd of
unasked-so t before a first last Memory of own answer = absurd of
unasked-so t before a first last Endless of own answer = absurd of
