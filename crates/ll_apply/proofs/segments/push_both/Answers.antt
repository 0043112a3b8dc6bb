-- The kept segments and then the update's, or the update's alone if none is kept.
use Rattle.std.proofs.Common.{◌++◌, true, false, map, string_bytes, ap, sym, ◌∙◌}
use Rattle.std.proofs.lemmas.Result.{on_ok_weaker}
use Rattle.ll_line.specs.Text.{text_of}
use Rattle.ll_apply.specs.Order.{lines_from, shown}
use Rattle.ll_apply.proofs.SegmentsWritten.{no-segments, some-segments, pushed-own, pushed-both}
use Rattle.ll_apply.proofs.segments.push_both.Goals as goal

pub returns-then-is_empty : goal.returns-then-is_empty
returns-then-is_empty c =
    on_ok_weaker c.push_in_order.result (pushed-own (string_bytes c.args.text.now) (string_bytes c.push_in_order.new.text) _ c.args.kept.now c.args.own.now (no-segments c.args.kept.now (sym c.is_empty.ensures ∙ c.if-is_empty.true))) c.push_in_order.ensures

pub returns : goal.returns
returns c =
    on_ok_weaker c.push_in_order-3.result
    (λ h. pushed-both (string_bytes c.args.text.now) (string_bytes c.push_in_order-2.new.text) (string_bytes c.push_in_order-3.new.text) _ c.args.kept.now c.args.own.now (some-segments c.args.kept.now (sym c.is_empty.ensures ∙ c.if-is_empty.false))
    (c.in_ok-push_in_order.ensures) (h ∙ ap (λ uri. string_bytes c.push_in_order-2.new.text ++ text_of (lines_from false uri (map (shown true) c.args.own.now))) c.map_after.ensures)) c.push_in_order-3.ensures
