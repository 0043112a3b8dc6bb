-- The result for texts, from the result for their playlists.
use Rattle.std.proofs.Common.{◌≡◌, List, ℕ, None, Result, Ok, ap, ◌∙◌}
use Rattle.ll_line.specs.Playlist.{Playlist}
use Rattle.ll_line.specs.Spelling.{spelling}
use Rattle.ll_read.proofs.SpelledAgain.{spelled-again}
use Rattle.ll_read.specs.Reading.{playlist_in}
use Rattle.ll_apply.specs.Applied.{applied, applied_by}
use Rattle.ll_apply.specs.Texts.{FullLaw, applied_text, base_of, chain, delta_of, unless_skipping, and_then}
use Rattle.ll_apply.specs.declared.fault.ApplyFault.{ApplyFault}

abbrev spelled : Result Playlist ApplyFault → Result (List ℕ) ApplyFault
spelled r = and_then r (λ p. Ok (spelling p))

-- the result for texts that are read back is the text of the result for their playlists
pub by-playlists : (base delta p : Playlist) → playlist_in (spelling base) ≡ Ok base → base.skipped ≡ None → playlist_in (spelling delta) ≡ Ok delta
    → applied base delta ≡ Ok p → applied_text (spelling base) (spelling delta) ≡ Ok (spelling p)
by-playlists base delta p read_base full read_delta is =
    ap (λ r. and_then (base_of r) (λ b. and_then (delta_of (playlist_in (spelling delta))) (λ d. spelled (applied b d)))) read_base
    ∙ ap (λ o. and_then (unless_skipping o base) (λ b. and_then (delta_of (playlist_in (spelling delta))) (λ d. spelled (applied b d)))) full
    ∙ ap (λ r. and_then (delta_of r) (λ d. spelled (applied base d))) read_delta
    ∙ ap spelled is

-- a full playlist in the place of an update is written as it was read
pub full : FullLaw
full base delta b d read_base none read_delta no_skip =
    ap (λ r. chain (base_of r) (delta_of (playlist_in delta))) read_base
    ∙ ap (λ o. chain (unless_skipping o b) (delta_of (playlist_in delta))) none
    ∙ ap (λ r. chain (Ok b) (delta_of r)) read_delta
    ∙ ap (λ s. spelled (applied_by s b d)) no_skip
    ∙ ap Ok (spelled-again delta d read_delta)
