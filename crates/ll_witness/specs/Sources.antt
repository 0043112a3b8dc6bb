-- What a list gives next.
use Rattle.std.specs.Prelude.{◌≡◌, List, [], ◌∷◌, Option, Some, None}

-- the first of a list, which is left out then; nothing of an empty list
abbrev pub IsNext : {A : Type 0} → List A → Option A → List A → Type 0
IsNext old (Some x) new = old ≡ x ∷ new
IsNext old None new = old ≡ []
