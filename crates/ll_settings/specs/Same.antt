-- The equality of settings, name by name and number by number.
use Rattle.std.specs.Prelude.{ℕ, List, [], ◌∷◌, Bool, bytes_eq}
use Rattle.std.specs.Cmp.Lexicographic.{pointwise}
use Rattle.ll_settings.specs.Settings.{Configuration}

abbrev pub numbers_of : Configuration → List ℕ
numbers_of c = c.target ∷ c.part_target ∷ c.skip ∷ c.window ∷ c.first ∷ c.start ∷ []

-- all that is configured, as texts and one list of numbers
abbrev pub lists_of : Configuration → List (List ℕ)
lists_of c = c.channel ∷ numbers_of c ∷ c.renditions

abbrev pub same_settings : Configuration → Configuration → Bool
same_settings a b = pointwise bytes_eq (lists_of a) (lists_of b)
