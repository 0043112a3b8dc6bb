-- One connection: the question, and what comes after it.
use Rattle.std.proofs.Common.{◌≡◌, ℕ, false, List, [], ◌++◌, Option, Some, Result, Err, refl, ap, sym, subst, ◌∙◌, append_assoc, fold}
use Rattle.std.proofs.lemmas.List.Sums.{fold-append}
use Rattle.ll_announce.specs.Messages.{MessageValue, Names, question}
use Rattle.ll_announce.specs.declared.place.Place.{Place}
use Rattle.ll_announce.specs.declared.standing.Standing.{Standing}
use Rattle.ll_push.specs.Connecting.{AcceptsNothing}
use Rattle.ll_push.specs.Exchanges.{IsUnanswered, LinkValue}
use Rattle.ll_push.specs.Next.{IsAskedSo, IsOwn}
use Rattle.ll_push.specs.Publishing.{led_by}
use Rattle.ll_push.specs.declared.connection.StandingAnswer.{StandingAnswer}
use Rattle.ll_push.specs.declared.connection.StandingAnswer.TheVariants as asked
use Rattle.ll_push.specs.declared.fault.PushFault.{PushFault}
use Rattle.ll_push.specs.declared.fault.PushFault.TheVariants.{Input, Read, Clock, Connect, Elsewhere, BadAnswer, Memory, Endless}
use Rattle.ll_pair.specs.Carrying.{Accepted, HasFailed, HasResumed, HasSentMost, Here, IsAsked, IsBroken, IsConnection, IsConnectionFault, IsEndless, IsReady, IsResumed, IsResumption, IsStep, Lost, Moved, Unanswered, Unasked, Unknown, Unresumed, Went, accepted_on}
use Rattle.ll_pair.specs.History.{IsPrefix}
use Rattle.ll_pair.specs.declared.progress.Progress.{Progress}
use Rattle.ll_pair.specs.declared.progress.Resumed.{Resumed}
use Rattle.ll_pair.specs.declared.progress.Resumed.TheVariants as resumed
use Rattle.ll_pair.specs.declared.progress.Step.{Step}
use Rattle.ll_pair.specs.declared.progress.Step.TheVariants as step

-- ---- where the messages go on

-- what the origin is found to have is a prefix, and leads to its place
resumed-prefix : (p : Progress) (place : Place) (messages known rest : List MessageValue) (r : Progress) → IsResumed p place messages known rest r
    → IsPrefix p.place messages known r.place rest
resumed-prefix p place _ _ _ _ (Here messages here) = record { all = refl; place_then = refl }
resumed-prefix p place _ _ _ _ (Accepted message later apart tried leads) = record { all = refl; place_then = sym leads }

-- one prefix after another
pub prefix-on : (place then last : Place) (messages a left b rest : List MessageValue) → IsPrefix place messages a then left → IsPrefix then left b last rest
    → IsPrefix place messages (a ++ b) last rest
prefix-on place then last messages a left b rest one two = record {
  all = one.all ∙ ap (λ l. a ++ l) two.all ∙ sym (append_assoc a b rest);
  place_then = two.place_then ∙ ap (λ at. fold led_by at b) one.place_then ∙ sym (fold-append led_by place a b);
}

-- a connection that doesn't go on leaves everything as it is
prefix-none : (place : Place) (messages rest : List MessageValue) (left : Option (List MessageValue)) → left ≡ Some messages → left ≡ Some rest → IsPrefix place messages [] place rest
prefix-none place messages rest left e told = record { all = of-some (sym e ∙ told); place_then = refl }
  where
    of-some : {a b : List MessageValue} → Some a ≡ Some b → a ≡ b
    of-some h = cc

-- what was accepted on a connection is a prefix of the messages that were still to be sent
pub went-prefix : (names : Names) (p : Progress) (messages : List MessageValue) (first : LinkValue) (q : Progress) (left : Option (List MessageValue)) (last : LinkValue) (done : Step)
    → (went : IsConnection names p messages first q left last done) → (rest : List MessageValue) → left ≡ Some rest → IsPrefix p.place messages (accepted_on went) q.place rest
went-prefix names p messages first _ _ _ _ (Lost left last e lost) rest told = prefix-none p.place messages rest left e told
went-prefix names p messages first _ _ _ _ (Unknown left last line e answered refused) rest told = prefix-none p.place messages rest left e told
went-prefix names p messages first _ _ _ _ (Unresumed s left last e asked) rest told = prefix-none p.place messages rest left e told
went-prefix names p messages first _ _ _ _ (Went known more r q then left last done ready went) rest told =
    prefix-on p.place r.place q.place messages known more went.sent rest (resumed-prefix p ready.standing.place messages known more r ready.resumed)
    (record { all = went.all ∙ ap (λ l. went.sent ++ l) (of-some (sym went.is_left ∙ told)); place_then = went.place })
  where
    of-some : {a b : List MessageValue} → Some a ≡ Some b → a ≡ b
    of-some h = cc

-- ---- one connection

pub of-err : {X : Type 0} (r : Result X PushFault) (a b : PushFault) → r ≡ Err a → r ≡ Err b → a ≡ b
of-err r a b h k = cc

module _ (names : Names) (p : Progress) (messages : List MessageValue) (first then : LinkValue) (x : StandingAnswer) (said : IsAskedSo (question names) first then x)
    (left : Option (List MessageValue)) (told : left ≡ Some messages) where
  pub asked-lost : x ≡ asked.Lost → IsConnection names p messages first p left then (step.Gone false)
  asked-lost e = Lost left then told (subst (IsAskedSo (question names) first then) e said)

  pub asked-refused : (line : List ℕ) → x ≡ asked.Refused line → IsConnection names p messages first p left then (step.Refused line)
  asked-refused line e = let no = subst (IsAskedSo (question names) first then) e said in Unknown left then line told no.0 no.1

  module _ (s : Standing) (e : x ≡ asked.Standing s) where
    is_asked : IsAsked names first s then
    is_asked = let yes = subst (IsAskedSo (question names) first then) e said in record { line = yes.0; exchanged = yes.1; told = yes.2 }

    module _ (r : Progress) (new : Option (List MessageValue)) (found : Resumed) (so : IsResumption p s.place messages r new found) where
      -- the origin is left
      pub unresumed : found ≡ resumed.Left → IsConnection names p messages first r new then step.Left
      unresumed is =
          let stays = subst (IsResumption p s.place messages r new) is so in
          subst (λ q. IsConnection names p messages first q new then step.Left) (sym stays.0) (Unresumed s new then stays.1 is_asked)

      -- the rendition stands elsewhere
      pub moved : found ≡ resumed.Elsewhere → (fault : PushFault) → Elsewhere ≡ fault → IsBroken names p messages first then fault
      moved is fault of = subst (IsBroken names p messages first then) of (Moved s is_asked (subst (IsResumption p s.place messages r new) is so))

      module _ (is : found ≡ resumed.On) where
        on : HasResumed p s.place messages r new
        on = subst (IsResumption p s.place messages r new) is so

        ready : IsReady names p messages first on.known on.rest r then
        ready = record { standing = s; asked = is_asked; resumed = on.resumed }

        module _ (last : LinkValue) where
          pub went-so : (q : Progress) (newer : Option (List MessageValue)) (done : Step)
              → ((rest : List MessageValue) → new ≡ Some rest → IsStep r rest then q newer last done) → IsConnection names p messages first q newer last done
          went-so q newer done went = Went on.known on.rest r q then newer last done ready (went on.rest on.is_left)

          pub broken-so : (fault : PushFault) → IsConnectionFault fault → (fault ≡ Elsewhere → ⊥)
              → ((rest : List MessageValue) → new ≡ Some rest → fault ≡ BadAnswer → HasFailed rest then last) → IsBroken names p messages first last fault
          broken-so Elsewhere of here answer = absurd (here refl)
          broken-so BadAnswer of here answer = Unanswered on.known on.rest r then ready (answer on.rest on.is_left refl)
          broken-so (Input why) of here answer = absurd of
          broken-so Read of here answer = absurd of
          broken-so Clock of here answer = absurd of
          broken-so Connect of here answer = absurd of
          broken-so Memory of here answer = absurd of
          broken-so Endless of here answer = absurd of

          pub endless-so : ((rest : List MessageValue) → new ≡ Some rest → HasSentMost rest then last) → IsEndless names p messages first last
          endless-so many = record { known = on.known; rest = on.rest; progress = r; then = then; ready = ready; sent = many on.rest on.is_left }

-- the question has no answer
pub unasked-so : (names : Names) (p : Progress) (messages : List MessageValue) (first last : LinkValue) (fault : PushFault) → IsConnectionFault fault → IsOwn fault
    → (fault ≡ BadAnswer → IsUnanswered AcceptsNothing (question names) first last) → IsBroken names p messages first last fault
unasked-so names p messages first last Elsewhere of own answer = absurd own
unasked-so names p messages first last BadAnswer of own answer = Unasked (answer refl)
unasked-so names p messages first last (Input why) of own answer = absurd of
unasked-so names p messages first last Read of own answer = absurd of
unasked-so names p messages first last Clock of own answer = absurd of
unasked-so names p messages first last Connect of own answer = absurd of
unasked-so names p messages first last Memory of own answer = absurd of
unasked-so names p messages first last Endless of own answer = absurd of
