-- What a record knows of a channel: the number of its items' bytes, and zeros in place of these.
use Rattle.std.specs.Prelude.{◌≡◌, List, map}
use Rattle.ll_entry.specs.Entered.{fault_in}
use Rattle.ll_entry.specs.declared.entry.Recorded.{Recorded}
use Rattle.ll_entry.specs.declared.entry.Recorded.TheVariants as recorded
use Rattle.ll_entry.specs.declared.version.Version.{Version}
use Rattle.ll_item.specs.Items.{blank}
use Rattle.ll_settings.specs.Settings.{Configuration}
use Rattle.ll_verdict.specs.Events.{Event, Publish, Ask, Collect, Close, Clock}

-- an entry with zeros in place of bytes
abbrev pub blank_entry : Recorded → Recorded
blank_entry (recorded.Publish item) = recorded.Publish (blank item)
blank_entry (recorded.Ask ask want reply) = recorded.Ask ask want reply
blank_entry (recorded.Clock ms) = recorded.Clock ms
blank_entry (recorded.Collect ask reply) = recorded.Collect ask reply
blank_entry (recorded.Close ask) = recorded.Close ask

abbrev pub blank_event : Event → Event
blank_event (Publish item) = Publish (blank item)
blank_event (Ask want) = Ask want
blank_event (Collect ticket) = Collect ticket
blank_event (Close ticket) = Close ticket
blank_event (Clock ms) = Clock ms

-- the events of a channel with zeros in place of all bytes
abbrev pub blank_events : List Event → List Event
blank_events events = map blank_event events

-- Whatever the bytes are, the same is right and wrong: a record with their number alone can be checked.
abbrev pub BlankLaw : Type 0
BlankLaw = (version : Version) (c : Configuration) (events : List Event) (entry : Recorded)
    → fault_in version c (blank_events events) (blank_entry entry) ≡ fault_in version c events entry
