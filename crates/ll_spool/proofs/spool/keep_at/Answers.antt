-- The files of the item's rendition hold it, and those of the others are what they were.
use Rattle.std.proofs.Common.{◌≡◌, ◌<◌, ◌∙◌, Some, ap, sym, length, slice_get}
use Rattle.std.proofs.lemmas.Option.{slice_get-get_or}
use Rattle.ll_spool.proofs.FileLemmas.{kept_in}
use Rattle.ll_spool.proofs.LayoutLemmas.{laid_or_not}
use Rattle.ll_spool.proofs.spool.keep_at.Goals as goal

pub returns-in-Some-clause-held : goal.returns-in-Some-clause-held
returns-in-Some-clause-held g c = λ of all is.
    let ls = c.args.layouts.now.items in
    let i = c.rendition-rendition.result in
    let l = c.in-Some.layout.now in
    let item = c.in-Some.ensures.item in
    let few : i < length ls = item.3.0 in
    let at : slice_get ls i ≡ Some l = slice_get-get_or ls i l few ∙ ap Some (sym c.in-Some.ensures.value) in
    kept_in of i ls l c.keep_bytes.new.layout (g.D.Disk.files c.args.disk.now) (g.D.Disk.files c.keep_bytes.new.disk) c.keep_bytes.result at all
    (λ held. c.keep_bytes.ensures.held of held is) c.keep_bytes.ensures.others

pub returns-in-Some-clause-laid : goal.returns-in-Some-clause-laid
returns-in-Some-clause-laid g c = λ settings items is number.
    let ls = c.args.layouts.now.items in
    let i = c.rendition-rendition.result in
    let l = c.in-Some.layout.now in
    let item = c.in-Some.ensures.item in
    let few : i < length ls = item.3.0 in
    let at : slice_get ls i ≡ Some l = slice_get-get_or ls i l few ∙ ap Some (sym c.in-Some.ensures.value) in
    laid_or_not settings items c.args.item.now ls l c.keep_bytes.new.layout i c.args.count c.keep_bytes.result is c.rendition-rendition.ensures at number c.keep_bytes.ensures.laid
