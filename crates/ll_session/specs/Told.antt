-- For private contracts: what was taken so far, as a loop takes one head after another.
use Rattle.std.specs.Prelude.{◌≡◌, ℕ, List, ◌++◌}
use Rattle.ll_session.specs.Talk.{Taking, refusals}

-- the answers so far and the refusals of `t` are together those of `all`, and both end alike
pub record AddsUp (all : Taking) (told : List (List ℕ)) (t : Taking) : Type 0 where
  pub said : told ++ refusals t.passed ≡ refusals all.passed
  pub rest : t.rest ≡ all.rest
  pub want : t.want ≡ all.want
  pub ends : t.ends ≡ all.ends
