-- The definitions, computed: both sides of each equation have the same value.
use Rattle.std.proofs.Common.{refl}
use Rattle.std.specs.Char.{encode_utf8}
use Rattle.std.specs.Fmt.{digits}
use Rattle.std.specs.Str.{is_utf8, chars}
use Rattle.form_urlencoded.specs.Form.{raw_pairs, split}
use Rattle.percent_encoding.specs.Percent.{percent_decode}
use Rattle.ll_settings.specs.Settings.{configuration_of}
use Rattle.ll_publish.specs.Refusals.{at_line, ok_line, refusal_line}
use Rattle.hex.specs.Hex.{encode_with}
use Rattle.ll_wire.specs.Response.{first_lines, is_media_response, last_lines, reason}
use Rattle.ll_script.specs.Answers.{named_reply, sent_line, shut_line, text_reply}
use Rattle.ll_script.specs.Worked.{WorkedAnswers, WorkedLines}

pub lines : WorkedLines
unfolding is_utf8 chars encode_utf8 raw_pairs split percent_decode configuration_of digits
lines = record {
  waits = refl;
  any_rendition = refl;
  no_channel = refl;
  segment = refl;
  part = refl;
  no_file = refl;
  part_alone = refl;
  same_number = refl;
  three_words = refl;
  given_up = refl;
  long_number = refl;
  time = refl;
  no_channels = refl;
  last_time = refl;
  late = refl;
  too_late = refl;
  unknown = refl;
  with_bytes = refl;
  asks = refl;
  asks_unknown = refl;
  asks_no_rendition = refl;
  asks_no_name = refl;
  asks_nothing = refl;
  asks_with_bytes = refl;
  came = refl;
  zeros_in_front = refl;
  capital = refl;
  half_a_byte = refl;
  no_bytes = refl;
  two_pieces = refl;
  long_connection = refl;
  dropped = refl;
  no_connection = refl;
  comment = refl;
  other = refl;
}

pub answers : WorkedAnswers
unfolding digits at_line ok_line refusal_line named_reply text_reply sent_line shut_line encode_with first_lines last_lines is_media_response reason
answers = record {
  accepted = refl;
  refused = refl;
  stands = refl;
  ended = refl;
  late = refl;
  busy = refl;
  media = refl;
  no_bytes = refl;
  part_alone = refl;
  sent = refl;
  sent_media = refl;
  shut = refl;
}
