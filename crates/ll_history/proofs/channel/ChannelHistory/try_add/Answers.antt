use Rattle.std.proofs.Common.{◌≡◌, ◌+◌, ◌==◌, true, refl, sym, ◌∙◌, ap, subst, arith}
use Rattle.std.specs.Prelude.{⊤, MatchBool}
use Rattle.std.proofs.lemmas.Bool.Decides.{nat_tests}
use mathlib.Core.List.{IsPrefix}
use Rattle.logbook.specs.Pages.{Named}
use Rattle.ll_history.specs.History.{ChannelDeeds}
use Rattle.ll_history.specs.Rules.{IsAdded}
use Rattle.ll_history.proofs.HistoryLemmas.{added-to, deeds-added}
use Rattle.ll_history.proofs.KeepingLemmas.{adds-moves}
use Rattle.ll_history.proofs.channel.ChannelHistory.try_add.Goals as goal

pub compare_exchange-found-requires : goal.compare_exchange-found-requires
compare_exchange-found-requires g c =
    let i = c.self.invariant in
    let book = c.past.invariant.0 ∙ sym (ap (λ (w : Named). w.book) i.0) in
    let next : c.in-Some.next ≡ c.self.inside.count + 1 = omega (arith, c.in-Some.ensures) in (
      ap (λ (w : Named). w.tracked) i.0,
      book,
      c.no_pen-pen.ensures.0 ∙ book,
      c.draft.invariant.0 ∙ sym c.past.invariant.1,
      rw (c.no_pen-pen.ensures.1, c.draft.invariant.1, next) (adds-moves c.self.inside.word.key c.past.inside.seen.log c.draft.inside.offer.ask c.self.inside.count i.1),
    )

pub returns-clause-added : goal.returns-clause-added
returns-clause-added g c is =
    let found : (c.compare_exchange-found.result == c.self.inside.count) ≡ true = grind (arith, nat_tests, c.if-found-self.false) in
    let step = subst (λ b. MatchBool b (IsAdded c.past.inside.seen.log c.compare_exchange-found.new.seen.log c.self.inside.word.key c.self.inside.count c.draft.inside.offer.ask.deed) ⊤) found c.compare_exchange-found.ensures.7 in
    rw (← c.self.view_is, ← c.draft.view_is) (
    added-to _ c.draft.inside.offer.ask.deed c.self.inside.count c.args.past.now c.past.inside.seen.log c.self.inside.past _ (rw c.past.view_is c.learn.ensures.own) (rw c.past.view_is c.learn.ensures.other) refl c.self.invariant.2 step)

pub returns-clause-deeds : goal.returns-clause-deeds
returns-clause-deeds g c is =
    let place : c.args.self.now.place ≡ c.self.inside.word.key = ap (λ (d : ChannelDeeds). d.place) (sym c.self.view_is) in
    rw (c.again.ensures, place) (ap (λ ds. record { place = c.self.inside.word.key; deeds = ds }) (rw (← place) (deeds-added _ _ _ _ (returns-clause-added g c is))))
