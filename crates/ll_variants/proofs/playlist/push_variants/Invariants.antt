-- What is written and what is left are all variants; each that is left is one of them.
use Rattle.std.proofs.Common.{◌≡◌, ◌++◌, Any, length, string_bytes}
use Rattle.ll_variants.specs.Playlists.{IsLargeVariant, variants_text}
use Rattle.ll_variants.proofs.playlist.push_variants.Given as goal

abbrev pub invariant-streams : goal.invariant-streams
invariant-streams l = record {
  text : string_bytes l.text ++ variants_text l.fn.grouped l.fn.streams l.left ≡ string_bytes l.initial.text ++ variants_text l.fn.grouped l.fn.streams l.fn.streams;
  among : Any (IsLargeVariant l.fn.grouped l.fn.streams) l.left → Any (IsLargeVariant l.fn.grouped l.fn.streams) l.fn.streams;
}

abbrev pub decreases-streams : goal.decreases-streams
decreases-streams l = length l.left
