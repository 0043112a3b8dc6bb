-- The example, computed: both sides of each equation have the same value.
use lib.Utf8.{encode}
use Rattle.std.proofs.Common.{refl}
use Rattle.std.specs.Fmt.{digits}
use Rattle.std.specs.Str.{chars, is_utf8}
use Rattle.ll_entry.specs.SettingsLine.{settings_line}
use Rattle.ll_item.specs.ItemLines.{part_line, timed_break_line}
use Rattle.ll_spool_laws.specs.Worked.{WorkedSpool}

pub worked : WorkedSpool
unfolding settings_line part_line timed_break_line digits is_utf8 chars encode
worked = record { text = refl; read = refl; cut = refl; nothing = refl; number = refl; settings = refl }
