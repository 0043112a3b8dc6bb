-- What is kept of the rendition determines where it stands.
use Rattle.std.proofs.Common.{ap, refl, slice_get, sym, ◌∙◌}
use Rattle.std.proofs.lemmas.Option.{slice_get_read}
use Rattle.ll_presentation.proofs.HereLemmas.{stands-there}
use Rattle.ll_presentation.specs.PresentationValue.{PresentationValue}
use Rattle.ll_verdict.specs.Standing.{standing_of}
use Rattle.ll_presentation.proofs.presentation.Presentation.standing.Goals as goal

pub returns : goal.returns
returns c = λ items shows.
    let kept = c.in_ok-kept.kept.now in
    let here = c.renditions.ensures ∙ ap (λ (p : PresentationValue). p.renditions) c.self.view_is in
    let there = stands-there c.args.self.now items c.args.rendition kept shows (sym (ap (λ rs. slice_get rs c.args.rendition) here) ∙ slice_get_read c.renditions.result.now _ c.args.rendition kept refl c.in_ok-kept.ensures.lookup.3.0 c.in_ok-kept.ensures.lookup.1) in
    (there.0, c.of.ensures ∙ ap (λ n. standing_of n kept) (c.count.ensures ∙ ap (λ (p : PresentationValue). p.count) c.self.view_is) ∙ there.1)
