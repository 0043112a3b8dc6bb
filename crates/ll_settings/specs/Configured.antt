-- A configuration from the fields that the code keeps.
use Rattle.std.specs.Prelude.{ℕ, List}
use Rattle.ll_settings.specs.Settings.{Configuration}
use Rattle.ll_settings.specs.declared.settings.Numbers.{Numbers}

abbrev pub configured : Numbers → List ℕ → List (List ℕ) → Configuration
configured n channel renditions = record {
  channel = channel;
  target = n.target;
  part_target = n.part_target;
  skip = n.skip;
  window = n.window;
  renditions = renditions;
  first = n.first;
  start = n.start;
}
