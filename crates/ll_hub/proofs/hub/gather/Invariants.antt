use Rattle.std.specs.Prelude.{◌≡◌, ◌+◌, ◌≤◌, ℕ, Some, length, map, slice_get, sum}
use mathlib.Core.List.{IsPrefix}
use Rattle.ll_hub.specs.Passes.{PassValue}
use Rattle.ll_hub.proofs.hub.gather.Given as goal

abbrev pub invariant-loop-pass : goal.invariant-loop-pass
invariant-loop-pass g l = record {
  parts : l.all.parts ≡ l.fn.rest.parts + length l.yielded;
  most : l.all.parts ≤ 65537;
  publishes : l.all.publishes ≡ l.fn.rest.publishes + sum (map (λ p. p.publishes) l.yielded);
  asks : l.all.asks ≡ l.fn.rest.asks + sum (map (λ p. p.asks) l.yielded);
  seen : (place : ℕ) (pass : PassValue) → slice_get l.yielded place ≡ Some pass → IsPrefix pass.history l.past;
}
