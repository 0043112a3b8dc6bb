-- What is written and what is left are all lines.
use Rattle.std.proofs.Common.{◌≡◌, ◌++◌, length, string_bytes}
use Rattle.std.specs.Prelude.{true}
use Rattle.ll_variants.specs.Playlists.{sounds_text}
use Rattle.ll_variants.proofs.playlist.push_sounds.Given as goal

abbrev pub invariant-streams : goal.invariant-streams
invariant-streams l = string_bytes l.text ++ sounds_text l.first l.left ≡ string_bytes l.initial.text ++ sounds_text true l.fn.streams

abbrev pub decreases-streams : goal.decreases-streams
decreases-streams l = length l.left
