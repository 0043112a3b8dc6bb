-- Three cuts at quotation marks find what is between two.
use Rattle.std.proofs.Common.{Bool, false, ◌==◌, length}
use Rattle.std.specs.List.{list_all}
use Rattle.ll_attr.specs.Attributes.{is_quoted_byte}
use Rattle.ll_attr.proofs.Values.{inner_in_cut, first_fails, second_fails, third_fails}
use Rattle.ll_attr.proofs.attribute_text.quoted_text.Goals.{else-is_empty-via-then-is_empty+then-is_empty-2+else-is_quoted, else-is_empty-via-then-is_empty+else-is_empty-2, else-is_empty-via-else-is_empty}
use Rattle.ll_attr.proofs.attribute_text.quoted_text.Goals as goal

pub returns-else-is_empty : goal.returns-else-is_empty
returns-else-is_empty c =
    let text = c.args.text.now in
    let before = c.in_ok-before.before.now in
    let inner = c.in_ok-inner.inner.now in
    let end = c.in_ok-inner.end.now in
    let no_front : Bool = length before == 0 in
    let no_end : Bool = length end == 0 in
    let quoted : Bool = list_all is_quoted_byte inner in
    let none = inner_in_cut text before c.in_ok-before.after.now inner end false c.in_ok-before.ensures.parts c.in_ok-inner.ensures.parts in
    elim c.else-is_empty.branch [
      | else-is_empty-via-then-is_empty+then-is_empty-2+else-is_quoted w ↦ none (third_fails no_front no_end quoted w.if-is_quoted.ensures)
      | else-is_empty-via-then-is_empty+else-is_empty-2 w ↦ none (second_fails no_front no_end quoted w.if-is_empty-2.ensures)
      | else-is_empty-via-else-is_empty w ↦ none (first_fails no_front no_end quoted w.if-is_empty.ensures)
    ]
