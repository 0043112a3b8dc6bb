use Rattle.std.specs.Prelude.{◌≡◌, length}
use Rattle.ll_ledger.specs.Ledgers.{IsRest}
use Rattle.ll_hub.proofs.locks.lock_each.Given as goal

abbrev pub invariant-loop-settings : goal.invariant-loop-settings
invariant-loop-settings g l = (l.locks ≡ l.yielded) × IsRest l.rest (length l.yielded) × (l.places ≡ length l.yielded)
