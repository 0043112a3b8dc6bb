-- The texts that are left are names exactly if all texts are.
use Rattle.std.proofs.Common.{◌≡◌, length}
use denote.Text.{Utf8}
use denote.Shadow.{shadow}
use Rattle.ll_attr.specs.Words.{pieces_at}
use Rattle.ll_settings.specs.Names.{are_names}
use Rattle.ll_settings.proofs.name.are_names_in.Given as goal

abbrev pub invariant-loop-name : goal.invariant-loop-name
invariant-loop-name l = shadow (Utf8 l.rest) × (are_names (pieces_at 44 l.rest) ≡ are_names (pieces_at 44 l.text))

abbrev pub decreases-loop-name : goal.decreases-loop-name
decreases-loop-name l = length l.rest
