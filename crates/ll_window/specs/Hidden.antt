-- For private contracts: segments whose parts playlists no longer list have dropped them.
use Rattle.std.specs.Prelude.{◌≡◌, ℕ, zero, suc, ◌≤◌, List, [], ◌∷◌, false, drop, length}
use Rattle.ll_window.specs.declared.finished.Finished.{Finished}
use Rattle.ll_window.specs.Rows.{Row, lasting}
use Rattle.ll_window.specs.Window.{shown_by}

-- these segments, of which the first `n` have no parts
abbrev pub hidden : ℕ → List Row → List Row
hidden zero rs = rs
hidden (suc n) [] = []
hidden (suc n) (r ∷ rs) = shown_by false r ∷ hidden n rs

-- the first `far` segments have dropped their parts, and `near_lasting` is the duration of the others
pub record AreHidden (f : Finished) : Type 0 where
  pub within : f.far ≤ length f.rows.items
  pub sum : f.near_lasting ≡ lasting (drop f.far f.rows.items)
  pub given_up : hidden f.far f.rows.items ≡ f.rows.items
