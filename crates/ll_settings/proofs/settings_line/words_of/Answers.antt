-- With fewer words than nine, or more, a line has no configuration.
use Rattle.std.proofs.Common.{ℕ, ◌≡◌, ◌≤◌, List, [], ◌∷◌, None, arith, length, refl}
use Rattle.ll_attr.specs.Words.{words}
use Rattle.ll_settings.specs.Settings.{configuration_of}
use Rattle.ll_settings.proofs.settings_line.words_of.Goals as goal

few : (ws : List (List ℕ)) → length ws ≤ 4 → configuration_of ws ≡ None
unfolding configuration_of
few [] h = refl
few (a ∷ []) h = refl
few (a ∷ b ∷ []) h = refl
few (a ∷ b ∷ c ∷ []) h = refl
few (a ∷ b ∷ c ∷ d ∷ []) h = refl
few (a ∷ b ∷ c ∷ d ∷ e ∷ ws) h = absurd (omega (arith, h))

few-more : (a b c d : List ℕ) (ws : List (List ℕ)) → length ws ≤ 4 → configuration_of (a ∷ b ∷ c ∷ d ∷ ws) ≡ None
unfolding configuration_of
few-more a b c d [] h = refl
few-more a b c d (e ∷ []) h = refl
few-more a b c d (e ∷ f ∷ []) h = refl
few-more a b c d (e ∷ f ∷ g ∷ []) h = refl
few-more a b c d (e ∷ f ∷ g ∷ k ∷ []) h = refl
few-more a b c d (e ∷ f ∷ g ∷ k ∷ l ∷ ws) h = absurd (omega (arith, h))

pub returns-in_err-a : goal.returns-in_err-a
returns-in_err-a c = rw c.from_residual.ensures (few (words c.args.line.now) c.in_err-a.ensures)

pub returns-in_err-b : goal.returns-in_err-b
returns-in_err-b c =
    let a = c.in_ok-a.a in
    rw c.in_ok-a.ensures (rw c.from_residual-in_err-b.ensures (few-more a.first.now a.second.now a.third.now a.fourth.now (words a.rest.now) c.in_err-b.ensures))
