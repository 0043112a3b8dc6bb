-- The definitions, computed: both sides of each equation have the same value.
use Rattle.std.proofs.Common.{refl}
use Rattle.std.specs.Fmt.{digits}
use Rattle.std.specs.Str.{is_utf8, chars}
use Rattle.std.specs.Char.{encode_utf8}
use Rattle.hex.specs.Hex.{encode_with}
use Rattle.ll_attr.specs.Durations.{seconds}
use Rattle.ll_format.specs.Calendar.{nth_date}
use Rattle.ll_format.specs.Times.{time_of, digits_2, digits_3, digits_4}
use Rattle.ll_settings.specs.Settings.{configuration_of}
use Rattle.ll_line.specs.Text.{line_text}
use Rattle.ll_line.specs.Uris.{segment_uri, part_uri, map_uri, report_uri}
use Rattle.ll_publish.specs.Refusals.{at_line, ok_line, refusal_line}
use Rattle.ll_script.specs.Answers.{named_reply, text_reply}
use Rattle.ll_rendition.specs.Refusal.{rendition_refusal}
use Rattle.ll_verdict.specs.Verdict.{is_there}
use Rattle.form_urlencoded.specs.Form.{raw_pairs, split}
use Rattle.percent_encoding.specs.Percent.{percent_decode}
use Rattle.ll_replay.specs.Script.{line}
use Rattle.ll_replay.specs.Worked.{WorkedScript}

pub worked : WorkedScript
unfolding encode_with line_text segment_uri part_uri map_uri report_uri seconds digits configuration_of nth_date time_of digits_2 digits_3 digits_4 at_line ok_line refusal_line text_reply named_reply rendition_refusal is_there raw_pairs split percent_decode line is_utf8 chars encode_utf8
worked = record { no_memory = refl; at_once = refl; later = refl; refusals = refl; last_refusals_told = refl; waiting = refl; media = refl; asking = refl; same_text = refl; same_ending = refl }
