-- Connections, one after another.
use Rattle.std.proofs.Common.{◌≡◌, ◌⊎◌, inl, inr, ℕ, ◌+◌, ◌<◌, ◌≤◌, Bool, true, false, Option, Some, None, refl, ap, sym, subst, ◌∙◌, arith}
use Rattle.ll_push.specs.Connecting.{IsBroken, IsConnection, IsEndless}
use Rattle.ll_push.specs.Faults.{most}
use Rattle.ll_push.specs.History.{Another, AtStart, HasBroken, HasEnded, HasGivenUp, HasGoneOn, HasLast, HasLasted, OnAll, OnOne, Task, connections, idle_after}
use Rattle.ll_push.specs.Publishing.{Ahead}
use Rattle.ll_push.specs.declared.fault.PushFault.{PushFault}
use Rattle.ll_push.specs.declared.publication.Publication.{Publication}
use Rattle.ll_push.specs.declared.publication.Step.{Step}
use Rattle.ll_push.specs.declared.publication.Step.TheVariants.{Gone}
use Rattle.ll_push.proofs.ConnectionLemmas.{left-told}

module _ {S P : Type 0} (t : Task S P) where
  -- what is still to come is known
  abbrev pub Went : Option Publication → Option Ahead → S → ℕ → ℕ → Type 0
  Went p left o idle many = (rest : Ahead) × (left ≡ Some rest) × ((went : HasGoneOn t p rest o idle) × (connections went ≡ many))

  pub went-first : (p : Option Publication) (left : Option Ahead) → p ≡ None → left ≡ Some t.ahead → Went p left t.origin 0 0
  went-first p left e told = subst (λ q. Went q left t.origin 0 0) (sym e) (t.ahead, told, (AtStart, refl))

  module _ (p : Option Publication) (left : Option Ahead) (o : S) (idle many : ℕ) (went : Went p left o idle many) where
    pub gave-up : idle ≡ t.tries + 1 → HasGivenUp t left o
    gave-up e = record { publication = p; rest = went.0; is_left = went.1; before = o; idle = idle; went = went.2.0; why = inr (e, refl) }

    pub lasted : many ≡ most → HasLasted t o
    lasted e = OnAll p went.0 idle went.2.0 (went.2.1 ∙ e)

    module _ (few : idle ≤ t.tries) (after : S) where
      pub gave-none : t.gives o None after → HasGivenUp t left after
      gave-none none = record { publication = p; rest = went.0; is_left = went.1; before = o; idle = idle; went = went.2.0; why = inl (few, none) }

      abbrev last_one : (link : P) → t.gives o (Some link) after → HasLast t after
      last_one link given = record { publication = p; rest = went.0; before = o; idle = idle; went = went.2.0; few = few; link = link; given = given }

      module _ (link link_then : P) (given : t.gives o (Some link) after) where
        pub broken-by : (fault : PushFault) → ((rest : Ahead) → left ≡ Some rest → IsBroken t.target p rest (t.value link) (t.value link_then) fault) → HasBroken t after fault
        broken-by fault broken = record { at = last_one link given; link_then = link_then; broken = broken went.0 went.1 }

        -- the number of reads at first, then and in the end
        pub lasted-by : (first then last : ℕ) → first ≤ then
            → ((rest : Ahead) → left ≡ Some rest → (then + most ≤ last) ⊎ IsEndless t.target p rest (t.value link) (t.value link_then))
            → (first + most ≤ last) ⊎ HasLasted t after
        lasted-by first then last le long = by_kind (long went.0 went.1)
          where
            by_kind : (then + most ≤ last) ⊎ IsEndless t.target p went.0 (t.value link) (t.value link_then) → (first + most ≤ last) ⊎ HasLasted t after
            by_kind (inl h) = inl (omega (arith, le, h))
            by_kind (inr h) = inr (OnOne (last_one link given) link_then h)

        module _ (q : Option Publication) (later : Option Ahead) (found : Step)
            (step : (rest : Ahead) → left ≡ Some rest → IsConnection t.target p rest (t.value link) q later (t.value link_then) found) where
          pub ended-by : (last : Step) → found ≡ last → HasEnded t later after last
          ended-by last e = record {
            at = last_one link given;
            then = q;
            link_then = link_then;
            is_step = subst (IsConnection t.target p went.0 (t.value link) q later (t.value link_then)) e (step went.0 went.1);
          }

          went-on : (accepted : Bool) → found ≡ Gone accepted → Went q later after (idle_after accepted idle) (many + 1)
          went-on accepted e =
              let gone = subst (IsConnection t.target p went.0 (t.value link) q later (t.value link_then)) e (step went.0 went.1) in
              let told = left-told t.target p went.0 (t.value link) q later (t.value link_then) accepted gone in (
                told.0,
                told.1,
                (
                  Another p q went.0 told.0 o after link link_then idle accepted went.2.0 few given
                      (subst (λ l. IsConnection t.target p went.0 (t.value link) q l (t.value link_then) (Gone accepted)) told.1 gone),
                  ap (λ n. n + 1) went.2.1,
                ),
              )

          -- as the code counts them
          pub then-gone : (accepted : Bool) → found ≡ Gone accepted → (n : ℕ) → n ≡ idle_after accepted idle → Went q later after n (many + 1)
          then-gone accepted e n is = subst (λ k. Went q later after k (many + 1)) (sym is) (went-on accepted e)

-- too many, as there were not too many before
pub many-by : (tries idle : ℕ) (accepted : Bool) (n : ℕ) → idle ≤ tries → n ≡ idle_after accepted idle → tries < n → n ≡ tries + 1
many-by tries idle true n few is more = absurd (omega (arith, is, more))
many-by tries idle false n few is more = omega (arith, few, is, more)

-- no more than there were connections
pub least-by : (idle count : ℕ) (accepted : Bool) (n : ℕ) → idle ≤ count → n ≡ idle_after accepted idle → n ≤ count + 1
least-by idle count true n few is = omega (arith, is)
least-by idle count false n few is = omega (arith, few, is)
