-- Names of channels and renditions, which are part of the paths of URIs.
use Rattle.std.specs.Prelude.{ℕ, List, [], ◌∷◌, Bool, true, not, ◌&&◌, ◌||◌, ◌==◌, length, nat_le, bytes_eq}
use Rattle.std.specs.List.{list_all, list_any}
use Rattle.std.specs.Char.{is_ascii_digit, is_ascii_lowercase}

-- a-z, 0-9, - or _
abbrev pub is_name_byte : ℕ → Bool
is_name_byte b = is_ascii_lowercase b || is_ascii_digit b || b == 45 || b == 95

-- 1 to 32 of these bytes
abbrev pub is_name : List ℕ → Bool
is_name text = nat_le 1 (length text) && nat_le (length text) 32 && list_all is_name_byte text

-- whether `text` is one of `texts`
abbrev pub is_among : List (List ℕ) → List ℕ → Bool
is_among texts text = list_any (bytes_eq text) texts

-- each is a name, and none is there twice
abbrev pub are_names : List (List ℕ) → Bool
are_names [] = true
are_names (text ∷ more) = is_name text && not (is_among more text) && are_names more
