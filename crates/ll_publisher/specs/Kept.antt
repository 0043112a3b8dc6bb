-- For private contracts: accepted items are kept before they are answered.
use Rattle.std.specs.Prelude.{◌≡◌, ◌⊎◌, ⊤, ℕ, Option, Some, None, Result, Ok, Err}
use Rattle.ll_item.specs.declared.item.Item.{Item}
use Rattle.ll_publisher.specs.declared.keeping.Token.{Token}
use Rattle.ll_publisher.specs.declared.keeping.Token.TheVariants as token
use Rattle.ll_publish.specs.declared.refusal.Refusal.{Refusal}
use Rattle.ll_publish.specs.declared.success.Success.{Success}
use Rattle.ll_publish.specs.declared.success.Success.TheVariants.{Accepted, NotKept, Standing, Opened}
use Rattle.ll_room.specs.StampedValue.{StampedValue}
use Rattle.ll_room.specs.declared.stamped.Stamp.TheVariants as stamp

-- the stamp of an item's answer has the item
abbrev pub HasItem : StampedValue ℕ → Type 0
HasItem mark = (item : Item) × (mark.stamp ≡ stamp.Publish item)

-- the answer to the line of an item: that of its channel, but an accepted item may not have been kept
abbrev pub IsSettled : Result (StampedValue ℕ) Refusal → Result Success Refusal → Type 0
IsSettled (Ok mark) reply = (reply ≡ Ok (Accepted mark.value)) ⊎ (reply ≡ Ok (NotKept mark.value))
IsSettled (Err reason) reply = reply ≡ Err reason

-- this is so if the answer accepts an item
abbrev pub OnAccepted : Result Success Refusal → Type 0 → Type 0
OnAccepted (Ok (Accepted count)) IsSo = IsSo
OnAccepted (Ok (NotKept count)) IsSo = ⊤
OnAccepted (Ok (Standing s)) IsSo = ⊤
OnAccepted (Ok Opened) IsSo = ⊤
OnAccepted (Err reason) IsSo = ⊤

-- the token says that the item of the number `count` of the channel at `place` was kept, or that this channel has no spool, by a server that has
-- the spools of `spools` channels
abbrev pub IsTokenOf : (spools : ℕ) → Option ℕ → ℕ → Option Token → Type 0
IsTokenOf spools (Some place) count (Some (token.Settled settled)) = settled ≡ record { spools = spools; place = place; count = count }
IsTokenOf spools (Some place) count (Some (token.NotKept fault)) = ⊥
IsTokenOf spools (Some place) count None = ⊥
IsTokenOf spools None count t = ⊥

-- the token says that a spool didn't keep an item
abbrev pub IsUnkept : Option Token → Type 0
IsUnkept (Some (token.Settled settled)) = ⊥
IsUnkept (Some (token.NotKept fault)) = ⊤
IsUnkept None = ⊥

-- What an answer to a line for the channel at `place`, or for none, is sent with, by a server that has the spools of `spools` channels: the token of
-- the item that it accepts, or of one that wasn't kept.
abbrev pub HasToken : (spools : ℕ) → Option ℕ → Result Success Refusal → Option Token → Type 0
HasToken spools place (Ok (Accepted count)) t = IsTokenOf spools place count t
HasToken spools place (Ok (NotKept count)) t = IsUnkept t
HasToken spools place (Ok (Standing s)) t = ⊤
HasToken spools place (Ok Opened) t = ⊤
HasToken spools place (Err reason) t = ⊤
