-- The messages that come for one origin, where they are known.
use Rattle.std.specs.Prelude.{◌≡◌, ⊤, List, [], ◌∷◌, Option, Some, None}
use Rattle.ll_announce.specs.Messages.{MessageValue}
use Rattle.ll_pair.specs.declared.coming.First.{First}
use Rattle.ll_pair.specs.declared.coming.First.TheVariants.{Message, End, Left}

-- `message` is the first of these
abbrev pub IsFirstOf : List MessageValue → MessageValue → Type 0
IsFirstOf messages message = (later : List MessageValue) × (messages ≡ message ∷ later)

-- what comes first: the first message, or nothing if there is none; nothing is said of what an origin that is left doesn't get
abbrev pub IsFirst : Option (List MessageValue) → First → Type 0
IsFirst None first = ⊤
IsFirst (Some messages) (Message message) = IsFirstOf messages message
IsFirst (Some messages) End = messages ≡ []
IsFirst (Some messages) Left = ⊤

-- known messages stay as they are
abbrev pub IsKept : Option (List MessageValue) → Option (List MessageValue) → Type 0
IsKept None after = ⊤
IsKept (Some messages) after = after ≡ Some messages

-- known messages lose the first
abbrev pub IsLetGo : Option (List MessageValue) → Option (List MessageValue) → Type 0
IsLetGo None after = ⊤
IsLetGo (Some []) after = ⊤
IsLetGo (Some (message ∷ later)) after = after ≡ Some later
