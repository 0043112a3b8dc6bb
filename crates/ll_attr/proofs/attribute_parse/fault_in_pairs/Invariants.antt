-- The first fault of what is left after the names passed is the first fault of the text.
use Rattle.std.proofs.Common.{◌≡◌, ◌≤◌, ◌+◌, [], false, length, take, drop}
use denote.Text.{Utf8}
use denote.Shadow.{shadow}
use Rattle.ll_attr.specs.Attributes.{parts_outside}
use Rattle.ll_attr.specs.Reading.{fault_in, names_of_parts}
use Rattle.ll_attr.proofs.attribute_parse.fault_in_pairs.Given as goal

abbrev pub invariant-loop-fault : goal.invariant-loop-fault
invariant-loop-fault l =
    shadow (Utf8 l.rest) × (drop l.count (parts_outside false l.text) ≡ parts_outside false l.rest)
    × (fault_in (names_of_parts [] (take l.count (parts_outside false l.text))) (parts_outside false l.rest) ≡ fault_in [] (parts_outside false l.text))
    × (l.count + length l.rest ≤ length l.text)

abbrev pub decreases-loop-fault : goal.decreases-loop-fault
decreases-loop-fault l = length l.rest
