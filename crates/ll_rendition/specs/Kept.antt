-- What is kept of all items of a rendition.
use Rattle.std.specs.Prelude.{List}
use Rattle.ll_settings.specs.Settings.{Configuration}
use Rattle.ll_item.specs.declared.item.Item.{Item}
use Rattle.ll_window.specs.Compact.{compact}
use Rattle.ll_range.specs.Announced.{announced}
use Rattle.ll_rendition.specs.declared.rendition.Rendition.{Rendition}

abbrev pub kept : Configuration → List Item → Rendition
kept c items = record { window = compact c items; ranges = announced c items }
