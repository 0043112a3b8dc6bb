-- A playlist without its texts.
use Rattle.std.specs.Prelude.{length}
use Rattle.std.specs.Option.{option_map}
use Rattle.ll_line.specs.Line.{Skip}
use Rattle.ll_line.specs.Playlist.{Playlist}
use Rattle.ll_read.specs.declared.outline.Outline.{Outline}

abbrev pub outline_of : Playlist → Outline
outline_of p = record { sequence = p.sequence; segments = length p.segments; skipped = option_map (λ (s : Skip). s.count) p.skipped }
