-- What a player's connection waits for, as a poller says it.
use Rattle.std.specs.Prelude.{◌≡◌, ◌≢◌, ⊤, [], IsSome, None, false, true}
use Rattle.ll_player.specs.Connections.{ConnectionValue}
use Rattle.ll_pollers.specs.declared.talk.Phase.{Phase}
use Rattle.ll_pollers.specs.declared.talk.Phase.TheVariants.{Idle, More, Unsent, Held, Over, Cut}

-- A connection whose request is held waits for its reply, and no other does. Else it waits for its link if answers are left; only if none are, for bytes,
-- or, once its session has shut, for nothing more. Of one that a fault has cut off nothing is said.
abbrev pub IsPhase : ConnectionValue → Phase → Type 0
IsPhase c Held = IsSome c.claim
IsPhase c Unsent = (c.claim ≡ None) × (c.session.answers ≢ [])
IsPhase c Idle = (c.claim ≡ None) × (c.session.answers ≡ []) × (c.session.shut ≡ false)
IsPhase c More = (c.claim ≡ None) × (c.session.answers ≡ []) × (c.session.shut ≡ false)
IsPhase c Over = (c.claim ≡ None) × (c.session.answers ≡ []) × (c.session.shut ≡ true)
IsPhase c Cut = ⊤
