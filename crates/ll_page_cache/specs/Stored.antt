-- How much is kept of playlists that were written.
use Rattle.std.specs.Prelude.{◌≤◌, List, [], ◌∷◌, length}
use Rattle.ll_pieces.specs.Pieces.{PiecesOf}
use Rattle.ll_rendition.specs.declared.rendition.Rendition.{Rendition}

-- for each rendition, at most one piece for each segment that its playlist shows, and one for the open segment
abbrev pub AreFew : List PiecesOf → List Rendition → Type 0
AreFew [] [] = Unit
AreFew [] (k ∷ ks) = ⊥
AreFew (p ∷ ps) [] = ⊥
AreFew (p ∷ ps) (k ∷ ks) = (length p.finished ≤ length k.window.window) × AreFew ps ks
