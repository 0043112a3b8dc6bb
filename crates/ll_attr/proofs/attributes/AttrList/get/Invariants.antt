-- The name was not found so far.
use Rattle.std.proofs.Common.{◌≡◌, drop}
use Rattle.ll_attr.specs.Attributes.{value_named}
use Rattle.ll_attr.proofs.attributes.AttrList.get.Given as goal

abbrev pub invariant-loop-attribute : goal.invariant-loop-attribute
invariant-loop-attribute l = value_named l.name (drop l.attribute-index l.self) ≡ value_named l.name l.self
