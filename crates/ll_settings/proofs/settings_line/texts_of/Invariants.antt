-- The names read so far and those in what is left are those of the whole text.
use Rattle.std.proofs.Common.{◌≡◌, ◌++◌, length}
use denote.Text.{Utf8}
use denote.Shadow.{shadow}
use Rattle.ll_settings.specs.Settings.{names_in}
use Rattle.ll_settings.proofs.settings_line.texts_of.Given as goal

abbrev pub invariant-loop-name : goal.invariant-loop-name
invariant-loop-name l = shadow (Utf8 l.rest) × (l.texts.items ++ names_in l.rest ≡ names_in l.renditions)

abbrev pub decreases-loop-name : goal.decreases-loop-name
decreases-loop-name l = length l.rest
