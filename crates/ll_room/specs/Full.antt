-- The first rule that refuses an item, by what a room keeps.
use Rattle.std.specs.Prelude.{Option, slice_get}
use Rattle.ll_item.specs.Items.{rendition_of}
use Rattle.ll_item.specs.declared.item.Item.{Item}
use Rattle.ll_verdict.specs.Full.{full_by, is_full}
use Rattle.ll_rendition.specs.declared.fault.PublishFault.{PublishFault}
use Rattle.ll_rendition.specs.Refusal.{first_refusal, refusal_at}
use Rattle.ll_room.specs.RoomValue.{RoomValue}

abbrev pub refusal_by : RoomValue → Item → Option PublishFault
refusal_by h item = first_refusal (refusal_at (slice_get h.renditions (rendition_of item)) item) (full_by (is_full h.events))
