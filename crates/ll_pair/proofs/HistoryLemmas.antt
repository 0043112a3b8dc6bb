-- Connections, one after another.
use Rattle.std.proofs.Common.{◌≡◌, inl, inr, ℕ, ◌+◌, ◌<◌, ◌≤◌, Bool, true, false, List, [], ◌++◌, Option, Some, None, refl, ap, sym, subst, ◌∙◌, arith}
use Rattle.ll_announce.specs.Messages.{MessageValue}
use Rattle.ll_push.specs.Faults.{most}
use Rattle.ll_push.specs.History.{idle_after}
use Rattle.ll_push.specs.declared.fault.PushFault.{PushFault}
use Rattle.ll_pair.specs.Carrying.{IsBroken, IsConnection, IsEndless, Lost, Unknown, Unresumed, Went, accepted_on}
use Rattle.ll_pair.specs.History.{Another, AtStart, HasBroken, HasEnded, HasGivenUp, HasGoneOn, HasLast, HasLasted, IsPrefix, OnAll, OnOne, Task, connections}
use Rattle.ll_pair.specs.declared.progress.Progress.{Progress}
use Rattle.ll_pair.specs.declared.progress.Step.{Step}
use Rattle.ll_pair.specs.declared.progress.Step.TheVariants.{Gone}
use Rattle.ll_pair.proofs.WentLemmas.{prefix-on, went-prefix}

-- what is left after a connection that was lost is known
pub left-told : (names : _) (p : Progress) (messages : List MessageValue) (first : _) (q : Progress) (left : Option (List MessageValue)) (last : _) (done : Step)
    → IsConnection names p messages first q left last done → (rest : List MessageValue) × (left ≡ Some rest)
left-told names p messages first _ _ _ _ (Lost left last e lost) = (messages, e)
left-told names p messages first _ _ _ _ (Unknown left last line e answered refused) = (messages, e)
left-told names p messages first _ _ _ _ (Unresumed s left last e asked) = (messages, e)
left-told names p messages first _ _ _ _ (Went known more r q then left last done ready went) = (went.rest, went.is_left)

module _ {S P : Type 0} (t : Task S P) where
  -- some connections were lost
  pub record Gone_on (p : Progress) (left : Option (List MessageValue)) (o : S) (idle many : ℕ) : Type 0 where
    pub accepted : List MessageValue
    pub rest : List MessageValue
    pub is_left : left ≡ Some rest
    pub went : HasGoneOn t accepted p rest o idle
    pub prefix : IsPrefix t.place t.messages accepted p.place rest
    pub are : connections went ≡ many

  pub went-first : (left : Option (List MessageValue)) → left ≡ Some t.messages → Gone_on (record { place = t.place; tried = false }) left t.origin 0 0
  went-first left told = record {
    accepted = [];
    rest = t.messages;
    is_left = told;
    went = AtStart;
    prefix = record { all = refl; place_then = refl };
    are = refl;
  }

  module _ (p : Progress) (left : Option (List MessageValue)) (o : S) (idle many : ℕ) (so_far : Gone_on p left o idle many) where
    pub gave-up : idle ≡ t.tries + 1 → HasGivenUp t left o
    gave-up e = record {
      accepted = so_far.accepted;
      progress = p;
      rest = so_far.rest;
      is_left = so_far.is_left;
      before = o;
      idle = idle;
      went = so_far.went;
      prefix = so_far.prefix;
      why = inr (e, refl);
    }

    pub lasted : many ≡ most → HasLasted t o
    lasted e = OnAll so_far.accepted p so_far.rest idle so_far.went (so_far.are ∙ e)

    module _ (few : idle ≤ t.tries) (after : S) where
      pub gave-none : t.gives o None after → HasGivenUp t left after
      gave-none none = record {
        accepted = so_far.accepted;
        progress = p;
        rest = so_far.rest;
        is_left = so_far.is_left;
        before = o;
        idle = idle;
        went = so_far.went;
        prefix = so_far.prefix;
        why = inl (few, none);
      }

      module _ (link link_then : P) (given : t.gives o (Some link) after) where
        abbrev last_one : HasLast t after
        last_one = record {
          accepted = so_far.accepted;
          progress = p;
          left = so_far.rest;
          before = o;
          idle = idle;
          went = so_far.went;
          prefix = so_far.prefix;
          few = few;
          link = link;
          given = given;
        }

        pub broken-by : (fault : PushFault) → ((rest : List MessageValue) → left ≡ Some rest → IsBroken t.names p rest (t.value link) (t.value link_then) fault) → HasBroken t after fault
        broken-by fault broken = record { at = last_one; link_then = link_then; broken = broken so_far.rest so_far.is_left }

        pub lasted-by : ((rest : List MessageValue) → left ≡ Some rest → IsEndless t.names p rest (t.value link) (t.value link_then)) → HasLasted t after
        lasted-by long = OnOne last_one link_then (long so_far.rest so_far.is_left)

        module _ (q : Progress) (later : Option (List MessageValue)) (found : Step)
            (step : (rest : List MessageValue) → left ≡ Some rest → IsConnection t.names p rest (t.value link) q later (t.value link_then) found) where
          -- the connection, by what is left after it
          pub record Ending_in (last : Step) : Type 0 where
            pub rest : List MessageValue
            pub is_left : later ≡ Some rest
            pub went : IsConnection t.names p so_far.rest (t.value link) q (Some rest) (t.value link_then) last
            pub prefix : IsPrefix t.place t.messages (so_far.accepted ++ accepted_on went) q.place rest

          ending : (last : Step) → found ≡ last → Ending_in last
          ending last e =
              let went = step so_far.rest so_far.is_left in
              let told = left-told t.names p so_far.rest (t.value link) q later (t.value link_then) found went in
              let so : IsConnection t.names p so_far.rest (t.value link) q (Some told.0) (t.value link_then) last =
              subst (λ l. IsConnection t.names p so_far.rest (t.value link) q l (t.value link_then) last) told.1
              (subst (IsConnection t.names p so_far.rest (t.value link) q later (t.value link_then)) e went) in
              record {
                rest = told.0;
                is_left = told.1;
                went = so;
                prefix =
                    prefix-on t.place p.place q.place t.messages so_far.accepted so_far.rest (accepted_on so) told.0 so_far.prefix
                    (went-prefix t.names p so_far.rest (t.value link) q (Some told.0) (t.value link_then) last so told.0 refl);
              }

          pub ended-by : (last : Step) → found ≡ last → HasEnded t later after last
          ended-by last e =
              let end = ending last e in
              record { at = last_one; then = q; rest = end.rest; is_left = end.is_left; link_then = link_then; went = end.went; prefix = end.prefix }

          -- as the code counts them
          pub then-gone : (some : Bool) → found ≡ Gone some → (n : ℕ) → n ≡ idle_after some idle → Gone_on q later after n (many + 1)
          then-gone some e n is =
              let end = ending (Gone some) e in
              subst (λ k. Gone_on q later after k (many + 1)) (sym is)
              (record {
                accepted = so_far.accepted ++ accepted_on end.went;
                rest = end.rest;
                is_left = end.is_left;
                went = Another so_far.accepted p q so_far.rest end.rest o after link link_then idle some so_far.went few given end.went;
                prefix = end.prefix;
                are = ap (λ k. k + 1) so_far.are;
              })

-- too many, as there were not too many before
pub many-by : (tries idle : ℕ) (some : Bool) (n : ℕ) → idle ≤ tries → n ≡ idle_after some idle → tries < n → n ≡ tries + 1
many-by tries idle true n few is more = absurd (omega (arith, is, more))
many-by tries idle false n few is more = omega (arith, few, is, more)

-- no more than there were connections
pub least-by : (idle count : ℕ) (some : Bool) (n : ℕ) → idle ≤ count → n ≡ idle_after some idle → n ≤ count + 1
least-by idle count true n few is = omega (arith, is)
least-by idle count false n few is = omega (arith, few, is)
