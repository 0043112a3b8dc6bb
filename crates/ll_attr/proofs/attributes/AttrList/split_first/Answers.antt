-- What is left of the list is read from its spelling.
use Rattle.ll_attr.proofs.Tails.{left_read}
use Rattle.ll_attr.proofs.attributes.AttrList.split_first.Goals as goal

pub invariant_of-result : goal.invariant_of-result
invariant_of-result c =
    left_read c.self.inside.attributes.items c.remove-first.new.self.items c.self.invariant c.remove-first.ensures.by_index.2
