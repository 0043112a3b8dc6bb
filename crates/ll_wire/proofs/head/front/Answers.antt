-- Fewer bytes than the limit are all among the first.
use Rattle.std.proofs.Common.{sym, arith}
use Rattle.std.proofs.lemmas.List.{take_all}
use Rattle.ll_wire.proofs.head.front.Goals as goal

pub returns-then-bytes-lt-MOST_BYTES : goal.returns-then-bytes-lt-MOST_BYTES
returns-then-bytes-lt-MOST_BYTES c = sym (take_all 8192 c.args.bytes.now (omega arith))
