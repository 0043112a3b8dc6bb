-- A chain of tests names no fault exactly when each test fails, which is one fact of the law.
use Rattle.std.proofs.Common.{◌≡◌, None, arith}
use Rattle.std.proofs.lemmas.Bool.Decides.{nat_tests}
use Rattle.ll_settings.specs.Settings.{Configuration, IsWithin, limit_broken}

pub within : (c : Configuration) → limit_broken c ≡ None → IsWithin c
within c h = record {
  target_low = grind (arith, nat_tests);
  target_high = grind (arith, nat_tests);
  part_target_low = grind (arith, nat_tests);
  part_target_high = grind (arith, nat_tests);
  skip_low = grind (arith, nat_tests);
  window_low = grind (arith, nat_tests);
  window_high = grind (arith, nat_tests);
  channel_named = grind (arith, nat_tests);
  channel_short = grind (arith, nat_tests);
  renditions_named = grind (arith, nat_tests);
  some_rendition = grind (arith, nat_tests);
  few_renditions = grind (arith, nat_tests);
  first_high = grind (arith, nat_tests);
  start_high = grind (arith, nat_tests);
}

pub none_broken : (c : Configuration) → IsWithin c → limit_broken c ≡ None
none_broken c w = grind (arith, nat_tests)
