-- Settings are the same exactly when they are equal.
use Rattle.std.proofs.Common.{◌≡◌, Bool, ap, arith}
use Rattle.std.specs.Bool.{Decides}
use Rattle.std.proofs.lemmas.Slice.Eq.{bytes_eq-Decides, slice_eq-Decides}
use Rattle.ll_settings.specs.Settings.{Configuration}
use Rattle.ll_settings.specs.Same.{lists_of, same_settings}

same_lists : (a b : Configuration) → lists_of a ≡ lists_of b → a ≡ b
same_lists a b e = grind (arith, e)

pub settings_decided : (a b : Configuration) (r : Bool) → r ≡ same_settings a b → Decides r (a ≡ b)
settings_decided a b r e =
    let d = slice_eq-Decides bytes_eq-Decides (lists_of a) (lists_of b) r e in (λ t. same_lists a b (d.0 t), λ t. d.1 (ap lists_of t))
