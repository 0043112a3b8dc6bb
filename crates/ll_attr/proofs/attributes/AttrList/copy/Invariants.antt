-- The attributes copied so far are the first of the list.
use Rattle.std.proofs.Common.{◌≡◌, take}
use Rattle.ll_attr.proofs.attributes.AttrList.copy.Given as goal

abbrev pub invariant-loop-attribute : goal.invariant-loop-attribute
invariant-loop-attribute l = l.attributes.items ≡ take l.attribute-index l.self
