-- An entry in full.
use Rattle.ll_entry_check.specs.declared.full.FullEntry.{FullEntry}
use Rattle.ll_entry_check.specs.declared.full.FullEntry.TheVariants as full
use Rattle.ll_entry.specs.declared.entry.Recorded.{Recorded}
use Rattle.ll_entry.specs.declared.entry.Recorded.TheVariants as recorded

-- an entry without its item
abbrev pub without_item : Recorded → FullEntry
without_item (recorded.Publish item) = full.Publish
without_item (recorded.Ask ask want reply) = full.Ask ask want reply
without_item (recorded.Clock ms) = full.Clock ms
without_item (recorded.Collect ask reply) = full.Collect ask reply
without_item (recorded.Close ask) = full.Close ask
