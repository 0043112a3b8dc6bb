-- What a bell was rung for.
use Rattle.std.specs.Prelude.{◌≡◌, ℕ, ◌+◌, suc, ⊤, List, [], ◌∷◌, ◌++◌, Option, Some, None, length}
use Rattle.ll_hub_channel.specs.declared.fault.HubFault.{HubFault}
use Rattle.ll_hub_channel.specs.declared.fault.HubFault.TheVariants.{Room}

-- `more` replies became ready in the channel at `place`
pub record Ring : Type 0 where
  pub place : ℕ
  pub more : ℕ

-- if it is known what a bell was rung for, it was rung once more, for this, and for nothing else
abbrev pub Rings : Option (List Ring) → Option (List Ring) → ℕ → ℕ → Type 0
Rings None after place more = ⊤
Rings (Some before) None place more = ⊥
Rings (Some before) (Some after) place more = after ≡ before ++ record { place = place; more = more } ∷ []

-- it was rung once for the channel at `place`
abbrev pub IsRung : ℕ → Option (List Ring) → Option (List Ring) → Type 0
IsRung place before after = (more : ℕ) × Rings before after place more

-- it was rung once for the channel whose room has refused a call; other faults come before its section ends, or from it
abbrev pub IsRungBy : HubFault → ℕ → Option (List Ring) → Option (List Ring) → Type 0
IsRungBy (Room other fault) place before after = IsRung place before after
IsRungBy other place before after = ⊤

-- rings for the channels from `place` on, in order
abbrev pub rings_from : ℕ → List ℕ → List Ring
rings_from place [] = []
rings_from place (more ∷ rest) = record { place = place; more = more } ∷ rings_from (suc place) rest

-- if it is known what a bell was rung for, it was rung for this too, and for nothing else
abbrev pub RingsAll : Option (List Ring) → Option (List Ring) → List Ring → Type 0
RingsAll None after rings = ⊤
RingsAll (Some before) None rings = ⊥
RingsAll (Some before) (Some after) rings = after ≡ before ++ rings

-- it was rung once for each channel from `first` up to `end`, without this one, in order
abbrev pub IsRungFrom : ℕ → ℕ → Option (List Ring) → Option (List Ring) → Type 0
IsRungFrom first end before after = (counts : List ℕ) × (end ≡ first + length counts) × RingsAll before after (rings_from first counts)

-- and, if the room of a channel refused a reading, for each channel from `first` up to that one
abbrev pub IsRungTo : ℕ → HubFault → Option (List Ring) → Option (List Ring) → Type 0
IsRungTo first (Room place fault) before after = IsRungFrom first (place + 1) before after
IsRungTo first other before after = ⊤
