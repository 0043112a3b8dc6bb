-- The items that a channel accepts have lines of their own.
use Rattle.std.specs.Prelude.{◌≡◌, List, None}
use Rattle.ll_settings.specs.Settings.{Configuration, limit_broken}
use Rattle.ll_item.specs.declared.item.Item.{Item}
use Rattle.ll_verdict.specs.Full.{refusal_after}
use Rattle.ll_item.specs.ItemLines.{IsTyped}
use Rattle.ll_entry.specs.ItemLaws.{IsWritable}
use Rattle.ll_verdict.specs.Events.{Event}

-- an item that no rule refuses has a line of its own
abbrev pub ItemWritableLaw : Type 0
ItemWritableLaw = (c : Configuration) (events : List Event) (item : Item) → limit_broken c ≡ None → refusal_after c events item ≡ None
    → IsTyped item → IsWritable c item
