-- Defaults of the track, of another, or none.
use Rattle.std.proofs.Common.{rules, ◌≡◌, ◌∙◌, ap, Ok}
use Rattle.ll_mp4.specs.Boxes.{Content, contents_in}
use Rattle.ll_mp4.specs.Found.{from_next}
use Rattle.ll_mp4.specs.Movies.{trex_for}
use Rattle.ll_mp4.specs.Numbers.{number_at}
use Rattle.ll_mp4.specs.declared.kind.Kind.TheVariants.{Trex}
use Rattle.ll_mp4.proofs.TrackLemmas.{trex_other, trex_this}
use Rattle.ll_mp4.proofs.tracks.find_trex.Goals as goal

pub returns-then-branch-id : goal.returns-then-branch-id
returns-then-branch-id c =
    let first : contents_in Trex c.defaults.rest.now ≡ Content c.in-Some.trex.now (contents_in Trex c.in-Some.after.now) = search rules in
    let id : number_at 4 c.in-Some.trex.now ≡ Ok c.in_ok-number_at.field-0 = search rules in
    c.defaults.invariant ∙ ap (trex_for c.args.id) first ∙ trex_this c.args.id _ _ (contents_in Trex c.in-Some.after.now) id c.if-branch-id.true

pub defaults-preserved : goal.defaults-preserved
defaults-preserved c =
    let first : contents_in Trex c.defaults.rest.now ≡ Content c.in-Some.trex.now (contents_in Trex c.in-Some.after.now) = search rules in
    let id : number_at 4 c.in-Some.trex.now ≡ Ok c.in_ok-number_at.field-0 = search rules in
    c.defaults.invariant ∙ ap (trex_for c.args.id) first ∙ trex_other c.args.id _ _ (contents_in Trex c.in-Some.after.now) id c.if-branch-id.false

pub returns : goal.returns
returns c =
    let none = c.in_ok-trex.ensures.told ∙ ap (λ next. from_next Trex (Ok next)) c.in_default.is in
    c.defaults.invariant ∙ ap (trex_for c.args.id) none
