-- The ids so far and those of what is left are the ids.
use Rattle.std.proofs.Common.{◌≡◌, ◌≢◌, ◌++◌, [], length}
use denote.Text.{Utf8}
use denote.Shadow.{shadow}
use Rattle.ll_attr.specs.Words.{pieces_at}
use Rattle.ll_read.proofs.draft.split_ids.Given as goal

abbrev pub invariant-loop-id : goal.invariant-loop-id
invariant-loop-id l = shadow (Utf8 l.rest) × (l.ids.items ++ pieces_at 9 l.rest ≡ pieces_at 9 l.text) × (l.text ≢ [])

abbrev pub decreases-loop-id : goal.decreases-loop-id
decreases-loop-id l = length l.rest
