-- The texts of faults.
use Rattle.std.specs.Prelude.{ℕ, List, ◌++◌, codes, decimal}
use Rattle.ll_apply.specs.declared.fault.ApplyFault.{ApplyFault}
use Rattle.ll_apply.specs.declared.fault.ApplyFault.TheVariants.{BadBase, BadDelta, NotRecent, Memory}

abbrev pub fault_text : ApplyFault → List ℕ
fault_text BadBase = codes "BadBase"
fault_text BadDelta = codes "BadDelta"
fault_text (NotRecent number) = codes "NotRecent " ++ decimal number
fault_text Memory = codes "Memory"
