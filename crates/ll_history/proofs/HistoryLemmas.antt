-- What is known of a channel's deeds in a longer history, and of a deed that was added.
use Rattle.std.proofs.Common.{◌≡◌, ◌≢◌, ◌==◌, ◌≤◌, ℕ, ◌+◌, Bool, true, false, List, [], ◌∷◌, ◌++◌, Some, filter, length, map, slice_get, take, if◌then◌else◌, refl, ap, sym, subst, ◌∙◌, arith, length-append, append-nil}
use Rattle.std.proofs.lemmas.Bool.Decides.{nat_tests}
use Rattle.std.proofs.lemmas.List.{map-append}
use Rattle.std.proofs.lemmas.List.Elements.{filter-append}
use mathlib.Core.List.{IsPrefix}
use Rattle.ll_history.specs.History.{ChannelDeeds, IsAddedTo, IsDone, IsShown, deeds_at, done_at}
use Rattle.ll_history.specs.declared.deed.Deed.{Deed}
use Rattle.ll_history.specs.declared.deed.Logged.{Logged}
use Rattle.ll_history.specs.Rules.{IsAdded}
use Rattle.ll_history.proofs.PrefixLemmas.{before-last, last-there, prefix-get, prefix-length, prefix-more, prefix-take, prefix-trans, prefix-whole}

pub deeds-append : (place : ℕ) (xs ys : List Logged) → deeds_at place (xs ++ ys) ≡ deeds_at place xs ++ deeds_at place ys
deeds-append place xs ys =
    ap (map (λ (l : Logged). l.deed)) (filter-append (λ (l : Logged). l.place == place) xs ys)
    ∙ map-append (λ (l : Logged). l.deed) (filter (λ (l : Logged). l.place == place) xs) (filter (λ (l : Logged). l.place == place) ys)

one-by : (place other : ℕ) (d : Deed) (b : Bool) → (place == other) ≡ b → deeds_at other (done_at place d ∷ []) ≡ (if b then d ∷ [] else [])
one-by place other d true is = rw is refl
one-by place other d false is = rw is refl

-- one more deed of a channel, and of another
pub deeds-more : (place : ℕ) (xs : List Logged) (d : Deed) → deeds_at place (xs ++ done_at place d ∷ []) ≡ deeds_at place xs ++ d ∷ []
deeds-more place xs d =
    let here : (place == place) ≡ true = grind (arith, nat_tests) in
    deeds-append place xs (done_at place d ∷ []) ∙ ap (λ ds. deeds_at place xs ++ ds) (one-by place place d true here)

pub deeds-elsewhere : (place other : ℕ) (xs : List Logged) (d : Deed) → place ≢ other → deeds_at other (xs ++ done_at place d ∷ []) ≡ deeds_at other xs
deeds-elsewhere place other xs d apart =
    let there : (place == other) ≡ false = grind (arith, nat_tests, apart) in
    deeds-append other xs (done_at place d ∷ []) ∙ ap (λ ds. deeds_at other xs ++ ds) (one-by place other d false there) ∙ append-nil (deeds_at other xs)

pub deeds-prefix : (place : ℕ) (xs ys : List Logged) → IsPrefix xs ys → IsPrefix (deeds_at place xs) (deeds_at place ys)
deeds-prefix place xs ys p = (deeds_at place p.0, sym (deeds-append place xs p.0) ∙ ap (deeds_at place) p.1)

-- ---- a deed that was added

pub done : (c : ChannelDeeds) (d : Deed) (before after : List Logged) (R : List Deed → Type 0) → IsAddedTo c d before after → R c.deeds → IsDone before after c.place d R
done c d before after R added right =
    let whole = prefix-more added.past (done_at c.place d ∷ []) in
    subst (λ l. IsDone before l c.place d R) (sym added.added) (record {
      number = length added.past;
      stands = last-there added.past (done_at c.place d);
      right = subst R (sym (ap (deeds_at c.place) (before-last added.past (done_at c.place d)) ∙ added.all)) right;
      later = prefix-length before added.past added.grows;
      grows = prefix-trans before added.past _ added.grows whole;
    })

-- its caller has seen more, and then no less
pub done-longer : (before after more : List Logged) (place : ℕ) (d : Deed) (R : List Deed → Type 0) → IsPrefix after more → IsDone before after place d R → IsDone before more place d R
done-longer before after more place d R p t = record {
  number = t.number;
  stands = prefix-get after more t.number (done_at place d) p t.stands;
  right = subst (λ l. R (deeds_at place l)) (sym (prefix-take after more t.number (done_at place d) p t.stands)) t.right;
  later = t.later;
  grows = prefix-trans before after more t.grows p;
}

pub done-earlier : (early before after : List Logged) (place : ℕ) (d : Deed) (R : List Deed → Type 0) → IsPrefix early before → IsDone before after place d R → IsDone early after place d R
done-earlier early before after place d R p t = record {
  number = t.number;
  stands = t.stands;
  right = t.right;
  later = omega (arith, prefix-length early before p, t.later);
  grows = prefix-trans early before after p t.grows;
}

-- ---- a step that adds

pub added-to : (c : ChannelDeeds) (d : Deed) (count : ℕ) (before seen own after : List Logged) → IsPrefix before seen → IsPrefix own seen → deeds_at c.place own ≡ c.deeds
    → count ≡ length (deeds_at c.place own) → IsAdded seen after c.place count d → IsAddedTo c d before after
added-to c d count before seen own after p q all many a = record {
  past = a.past;
  grows = prefix-trans before seen a.past p a.grows;
  all = sym (prefix-whole (deeds_at c.place own) (deeds_at c.place a.past) (deeds-prefix c.place own a.past (prefix-trans own seen a.past q a.grows)) (omega (arith, many, a.counted))) ∙ all;
  added = a.added;
}

-- what is known of the channel after it
pub deeds-added : (c : ChannelDeeds) (d : Deed) (before after : List Logged) → IsAddedTo c d before after → deeds_at c.place after ≡ c.deeds ++ d ∷ []
deeds-added c d before after a = ap (deeds_at c.place) a.added ∙ deeds-more c.place a.past d ∙ ap (λ ds. ds ++ d ∷ []) a.all

-- a step that looks finds as many deeds as are known
pub all-known : (place count : ℕ) (own after : List Logged) → IsPrefix own after → count ≡ length (deeds_at place own) → length (deeds_at place after) ≡ count
    → deeds_at place after ≡ deeds_at place own
all-known place count own after p many found =
    sym (prefix-whole (deeds_at place own) (deeds_at place after) (deeds-prefix place own after p) (omega (arith, many, found)))
