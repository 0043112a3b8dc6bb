-- What is kept of the item's rendition goes on, and so does what is kept of all.
use Rattle.std.proofs.Common.{refl}
use Rattle.std.proofs.lemmas.Option.{slice_get_read}
use Rattle.ll_page.proofs.ShownLemmas.{goes-on-all, nowhere}
use Rattle.ll_page.proofs.shown.accept_at.Goals as goal

pub returns-in-Some-clause-goes_on : goal.returns-in-Some-clause-goes_on
returns-in-Some-clause-goes_on c =
    let v = c.args.renditions.now in
    goes-on-all c.args.item v.items c.rendition.result c.in-Some.kept.now c.accept.new.self c.accept.result c.rendition.ensures
    (slice_get_read v.items _ c.rendition.result c.in-Some.kept.now v.ok.0 (c.in-Some.ensures.variant.0 refl) c.in-Some.ensures.value) c.accept.ensures.accepted

pub returns-in-None-clause-goes_on : goal.returns-in-None-clause-goes_on
returns-in-None-clause-goes_on c =
    let v = c.args.renditions.now in
    absurd (nowhere v.items v.len c.rendition.result c.args.item c.rendition.ensures v.ok.0 c.in-None.ensures.variant.1 c.requires)
