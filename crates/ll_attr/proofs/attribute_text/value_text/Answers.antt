-- A bare value, or else a quoted string, or none.
use Rattle.std.proofs.Common.{sym}
use Rattle.ll_attr.proofs.Values.{value_in-bare}
use Rattle.ll_attr.proofs.attribute_text.value_text.Goals as goal

pub returns-then-is_bare : goal.returns-then-is_bare
returns-then-is_bare c = value_in-bare c.args.text.now (sym c.if-is_bare.ensures)
