-- The name is in the parts that are left to go over exactly if it is in all of them.
use Rattle.std.proofs.Common.{◌≡◌, false, take, bytes_eq}
use denote.Text.{Utf8}
use denote.Shadow.{shadow}
use Rattle.std.specs.List.{list_any}
use Rattle.ll_attr.specs.Attributes.{parts_outside}
use Rattle.ll_attr.specs.Reading.{name_of}
use Rattle.ll_attr.proofs.attribute_parse.stands_before.Given as goal

abbrev pub invariant-loop-left : goal.invariant-loop-left
invariant-loop-left l =
    shadow (Utf8 l.rest)
    × (list_any (λ part. bytes_eq l.name (name_of part)) (take l.left (parts_outside false l.rest))
    ≡ list_any (λ part. bytes_eq l.name (name_of part)) (take l.count (parts_outside false l.text)))

abbrev pub decreases-loop-left : goal.decreases-loop-left
decreases-loop-left l = l.left
