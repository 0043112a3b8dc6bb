-- The item changes the date ranges and leaves the window as it is.
use Rattle.std.proofs.Common.{◌∙◌, ap, sym}
use Rattle.ll_item.specs.declared.item.Item.TheVariants as item
use Rattle.ll_rendition.proofs.ItemLemmas.{ranged}
use Rattle.ll_rendition.proofs.rendition.Rendition.accept_range.Goals as goal

pub returns-in-Range-clause-accepted : goal.returns-in-Range-clause-accepted
returns-in-Range-clause-accepted c cf before e is_range =
    ranged cf before c.args.item.now _ c.args.self.now c.list.new.self c.end_time-end.result c.list.result e is_range
    (c.in-Range.is ∙ ap (λ id. item.Range c.in-Range.rendition id c.in-Range.attributes) (sym c.as_str.ensures)) c.end_time-end.ensures
    (c.list.ensures.accepted cf before c.in-Range.rendition)

pub returns-in-Unrange-clause-accepted : goal.returns-in-Unrange-clause-accepted
returns-in-Unrange-clause-accepted c cf before e is_range =
    ranged cf before c.args.item.now _ c.args.self.now c.unlist.new.self c.end_time-end.result c.unlist.result e is_range
    (c.in-Unrange.is ∙ ap (item.Unrange c.in-Unrange.rendition) (sym c.as_str-in-Unrange.ensures)) c.end_time-end.ensures
    (c.unlist.ensures.accepted cf before c.in-Unrange.rendition)
