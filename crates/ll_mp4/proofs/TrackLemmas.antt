-- The time scales of tracks, and their defaults, one after another.
use Rattle.std.proofs.Common.{◌≡◌, ℕ, List, [], ◌∷◌, ◌++◌, Result, Ok, Err, refl, ap, sym, ◌∙◌, append_assoc, append-nil, map, ◌==◌, true, false, arith}
use Rattle.std.proofs.lemmas.Bool.Decides.{nat_tests}
use Rattle.ll_mp4.specs.Boxes.{Contents, Ended, Content}
use Rattle.ll_mp4.specs.Movies.{listed_in, listed_of, trex_for}
use Rattle.ll_mp4.specs.Numbers.{◌>>=◌, number_at}
use Rattle.ll_mp4.specs.Tracks.{scales_after}
use Rattle.ll_mp4.specs.declared.fault.StreamFault.{StreamFault}
use Rattle.ll_mp4.specs.declared.track.Listed.{Listed}
use Rattle.ll_mp4.specs.declared.track.TimeScale.{TimeScale}

scales-more : (before : List TimeScale) (track : Listed) (later : Result (List Listed) StreamFault)
    → scales_after before (later >>= (λ tracks. Ok (track ∷ tracks))) ≡ scales_after (before ++ track.scale ∷ []) later
scales-more before track (Err fault) = refl
scales-more before track (Ok tracks) = ap Ok (sym (append_assoc before (track.scale ∷ []) (map (λ (t : Listed). t.scale) tracks)))

-- one more
pub scales_more : (before : List TimeScale) (trak : List ℕ) (later : Contents) (track : Listed) → listed_of trak ≡ Ok track
    → scales_after before (listed_in (Content trak later)) ≡ scales_after (before ++ track.scale ∷ []) (listed_in later)
scales_more before trak later track e =
    ap (λ (r : Result Listed StreamFault). scales_after before (r >>= (λ t. listed_in later >>= (λ ts. Ok (t ∷ ts))))) e ∙ scales-more before track (listed_in later)

-- no more
pub scales_done : (before : List TimeScale) → scales_after before (listed_in Ended) ≡ Ok before
scales_done before = ap Ok (append-nil before)

-- defaults of the track, or of another
pub trex_this : (id n : ℕ) (trex : List ℕ) (later : Contents) → number_at 4 trex ≡ Ok n → n ≡ id → trex_for id (Content trex later) ≡ Ok trex
trex_this id n trex later e is = let same : (n == id) ≡ true = grind (arith, nat_tests) in rw e (rw same refl)

pub trex_other : (id n : ℕ) (trex : List ℕ) (later : Contents) → number_at 4 trex ≡ Ok n → (n ≡ id → ⊥) → trex_for id (Content trex later) ≡ trex_for id later
trex_other id n trex later e is = let other : (n == id) ≡ false = grind (arith, nat_tests) in rw e (rw other refl)
