-- The first fault of what is left, after the names in the set, is the first fault of the text.
use Rattle.std.proofs.Common.{◌≡◌, [], false, length}
use denote.Text.{Utf8}
use denote.Shadow.{shadow}
use Rattle.ll_attr.specs.Attributes.{parts_outside}
use Rattle.ll_attr.specs.Reading.{fault_in, texts}
use Rattle.ll_attr.proofs.attribute_parse.fault_by_set.Given as goal

abbrev pub invariant-loop-names : goal.invariant-loop-names
invariant-loop-names l =
    shadow (Utf8 l.rest) × (fault_in (texts l.names.keys) (parts_outside false l.rest) ≡ fault_in [] (parts_outside false l.text))

abbrev pub decreases-loop-names : goal.decreases-loop-names
decreases-loop-names l = length l.rest
