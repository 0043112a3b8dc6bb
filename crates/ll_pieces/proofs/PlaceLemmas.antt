-- What is asked for stands at its place in the list of renditions.
use Rattle.std.proofs.Common.{◌≡◌, ℕ, zero, suc, ◌<◌, List, [], ◌∷◌, length, get_or, refl, arith}
use Rattle.ll_rendition.specs.declared.rendition.Rendition.{Rendition}
use Rattle.ll_pieces.specs.View.{at_place}

pub at_place_is : (none other : Rendition) (ks : List Rendition) (place : ℕ) → place < length ks → get_or ks place other ≡ at_place none ks place
at_place_is none other [] place h = absurd (omega arith)
at_place_is none other (k ∷ ks) zero h = refl
at_place_is none other (k ∷ ks) (suc place) h = at_place_is none other ks place (omega arith)
