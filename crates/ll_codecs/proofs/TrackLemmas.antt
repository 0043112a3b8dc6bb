-- The tracks of a movie, one after another.
use Rattle.std.proofs.Common.{◌≡◌, ℕ, List, [], ◌∷◌, ◌++◌, Result, Ok, Err, refl, ap, sym, ◌∙◌, append_assoc, append-nil}
use Rattle.ll_codecs.specs.Sections.{track_of, tracks_after, tracks_in}
use Rattle.ll_codecs.specs.declared.track.CodecTrack.{CodecTrack}
use Rattle.ll_mp4.specs.Boxes.{Contents, Ended, Content}
use Rattle.ll_mp4.specs.Numbers.{◌>>=◌}
use Rattle.ll_mp4.specs.declared.fault.StreamFault.{StreamFault}

tracks-more : (before : List CodecTrack) (track : CodecTrack) (later : Result (List CodecTrack) StreamFault)
    → tracks_after before (later >>= (λ tracks. Ok (track ∷ tracks))) ≡ tracks_after (before ++ track ∷ []) later
tracks-more before track (Err fault) = refl
tracks-more before track (Ok tracks) = ap Ok (sym (append_assoc before (track ∷ []) tracks))

-- one more
pub tracks_more : (before : List CodecTrack) (trak : List ℕ) (later : Contents) (track : CodecTrack) → track_of trak ≡ Ok track
    → tracks_after before (tracks_in (Content trak later)) ≡ tracks_after (before ++ track ∷ []) (tracks_in later)
tracks_more before trak later track e =
    ap (λ (r : Result CodecTrack StreamFault). tracks_after before (r >>= (λ t. tracks_in later >>= (λ ts. Ok (t ∷ ts))))) e ∙ tracks-more before track (tracks_in later)

-- no more
pub tracks_done : (before : List CodecTrack) → tracks_after before (tracks_in Ended) ≡ Ok before
tracks_done before = ap Ok (append-nil before)

-- none before
pub tracks_all : (r : Result (List CodecTrack) StreamFault) → tracks_after [] r ≡ r
tracks_all (Ok tracks) = refl
tracks_all (Err fault) = refl
