-- The definitions, computed: both sides of each equation have the same value.
use Rattle.std.proofs.Common.{refl}
use Rattle.std.specs.Fmt.{digits}
use Rattle.ll_attr.specs.Durations.{seconds}
use Rattle.ll_format.specs.Calendar.{nth_date}
use Rattle.ll_format.specs.Times.{time_of, digits_2, digits_3, digits_4}
use Rattle.ll_settings.specs.Settings.{configuration_of}
use Rattle.ll_line.specs.Text.{line_text}
use Rattle.ll_line.specs.Uris.{segment_uri, part_uri, map_uri, report_uri}
use Rattle.ll_laws.specs.Worked.{WorkedPlaylists}

pub worked : WorkedPlaylists
unfolding line_text segment_uri part_uri map_uri report_uri seconds digits configuration_of nth_date time_of digits_2 digits_3 digits_4
worked = record { settings = refl; empty = refl; one_segment = refl; date_ranges = refl; delta_update = refl; lists_ranges = refl; skips_ranges = refl; removes_none = refl; open_segment = refl; has_ended = refl; afternoon = refl; ends_open = refl }
