-- For private contracts: a door whose path stands in its settings file.
use Rattle.ll_config.specs.declared.door.Door.{Door}
use Rattle.ll_config.specs.declared.door.Door.TheVariants.{Ip, Unix}
use Rattle.ll_config.specs.declared.door.DoorText.{DoorText}
use Rattle.ll_config.specs.declared.door.DoorText.TheVariants as text

abbrev pub door_of : DoorText → Door
door_of (text.Ip address) = Ip address
door_of (text.Unix path) = Unix path.now
