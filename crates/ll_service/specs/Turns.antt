-- A publisher's turn in a channel, and what of the channel's spool is told by it.
use Rattle.std.specs.Prelude.{◌≡◌, ℕ, Option, Some, None}
use Rattle.ll_settings.specs.Settings.{Configuration}
use Rattle.ll_spool.specs.declared.spool.Spool.{Spool}

-- the turn in the channel at `place`, of a server that has the spools of so many channels, and its spool if it has one
pub record TurnValue (D : Type 0) : Type 0 where
  pub spools : ℕ
  pub place : ℕ
  pub settings : Configuration
  pub spool : Option (Spool D)

-- the item of the number `count` of the channel at `place`, of a server that has the spools of so many channels
pub record SettledValue : Type 0 where
  pub spools : ℕ
  pub place : ℕ
  pub count : ℕ

-- this is true of a turn's spool before and after a call; a turn without a spool still has none
abbrev pub OfSpool : {D : Type 0} → (Spool D → Spool D → Type 0) → Option (Spool D) → Option (Spool D) → Type 0
OfSpool IsTrue None new = new ≡ None
OfSpool IsTrue (Some old) None = ⊥
OfSpool IsTrue (Some old) (Some new) = IsTrue old new
