-- The item is laid to its rendition's layout.
use Rattle.std.proofs.Common.{◌≡◌, ◌<◌, ◌∙◌, Some, ap, sym, length, slice_get}
use Rattle.std.proofs.lemmas.Option.{slice_get-get_or}
use Rattle.ll_spool.proofs.LayoutLemmas.{laid_or_not}
use Rattle.ll_spool.proofs.survey.follow.Goals as goal

pub returns-in-Some : goal.returns-in-Some
returns-in-Some c = λ settings items is number.
    let ls = c.args.layouts.now.items in
    let i = c.rendition.result in
    let l = c.in-Some.layout.now in
    let item = c.in-Some.ensures.item in
    let few : i < length ls = item.3.0 in
    let at : slice_get ls i ≡ Some l = slice_get-get_or ls i l few ∙ ap Some (sym c.in-Some.ensures.value) in
    laid_or_not settings items c.args.item.now ls l c.lay.new.layout i c.args.count c.lay.result is c.rendition.ensures at number c.lay.ensures
