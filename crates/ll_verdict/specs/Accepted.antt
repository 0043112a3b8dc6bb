-- The items that a channel accepts.
use Rattle.std.specs.Prelude.{List, Option, Some, length, nat_lt, if◌then◌else◌}
use Rattle.ll_item.specs.Items.{rendition_of}
use Rattle.ll_settings.specs.Settings.{Configuration}
use Rattle.ll_item.specs.declared.item.Item.{Item}
use Rattle.ll_window.specs.Segments.{own}
use Rattle.ll_rendition.specs.Refusal.{rendition_refusal}
use Rattle.ll_rendition.specs.declared.fault.PublishFault.{PublishFault}
use Rattle.ll_rendition.specs.declared.fault.PublishFault.TheVariants.{NoRendition}

-- the first rule that refuses an item after the items `before` of its channel, or none (rule 23)
abbrev pub refusal : Configuration → List Item → Item → Option PublishFault
refusal c before item =
    if nat_lt (rendition_of item) (length c.renditions)
    then rendition_refusal c (own (rendition_of item) before) item
    else Some NoRendition
