use Rattle.std.proofs.Common.{sym, ◌∙◌, ap, subst}
use mathlib.Core.List.{IsPrefix}
use Rattle.logbook.specs.Pages.{Named}
use Rattle.ll_history.proofs.HistoryLemmas.{all-known}
use Rattle.ll_history.proofs.KeepingLemmas.{looks-moves}
use Rattle.ll_history.proofs.PrefixLemmas.{prefix-trans}
use Rattle.ll_history.proofs.channel.ChannelHistory.look.Goals as goal

pub load-found-requires : goal.load-found-requires
load-found-requires g c =
    let i = c.self.invariant in (
      ap (λ (w : Named). w.tracked) i.0,
      c.past.invariant.0 ∙ sym (ap (λ (w : Named). w.book) i.0),
      c.offer.invariant.0 ∙ sym c.past.invariant.1,
      rw (c.offer.invariant.1) (looks-moves c.self.inside.word.key c.past.inside.seen.log c.offer.inside.offer.ask i.1),
    )
