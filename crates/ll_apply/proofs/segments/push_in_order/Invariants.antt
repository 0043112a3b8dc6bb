-- The text so far and the lines of the segments that are left are the whole text.
use Rattle.std.proofs.Common.{◌≡◌, ◌++◌, drop, map, string_bytes}
use Rattle.std.specs.Option.{option_map}
use Rattle.ll_line.specs.Text.{text_of}
use Rattle.ll_apply.specs.Order.{lines_from, shown}
use Rattle.ll_apply.proofs.segments.push_in_order.Given as goal

abbrev pub invariant-loop-segment : goal.invariant-loop-segment
invariant-loop-segment l =
    string_bytes l.text ++ text_of (lines_from l.leads (option_map (λ uri. uri.now) l.map) (map (shown l.with_parts) (drop l.segment-index l.segments)))
    ≡ string_bytes l.fn.text ++ text_of (lines_from l.fn.leads (option_map (λ uri. uri.now) l.before) (map (shown l.with_parts) l.segments))
