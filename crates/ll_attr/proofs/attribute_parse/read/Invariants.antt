-- The attributes read so far and what is left mean what the text means.
use Rattle.std.proofs.Common.{◌≡◌, false, length}
use denote.Text.{Utf8}
use denote.Shadow.{shadow}
use Rattle.ll_attr.specs.Attributes.{attributes_in, parts_outside}
use Rattle.ll_attr.proofs.ReadSoFar.{read_on}
use Rattle.ll_attr.proofs.attribute_parse.read.Given as goal

abbrev pub invariant-loop-attributes : goal.invariant-loop-attributes
invariant-loop-attributes l = shadow (Utf8 l.rest) × (read_on l.attributes.items (parts_outside false l.rest) ≡ attributes_in l.text)

abbrev pub decreases-loop-attributes : goal.decreases-loop-attributes
decreases-loop-attributes l = length l.rest
