-- Worked examples: what lines of a script mean, and how answers are spelled.
use Rattle.std.specs.Prelude.{◌≡◌, ◌++◌, List, ℕ, [], ◌∷◌, Some, None, codes, Bool, true, false}
use Rattle.ll_directive.specs.Targets.{WantValue, media_want}
use Rattle.ll_directive.specs.declared.fault.TargetFault.TheVariants as target
use Rattle.ll_directive.specs.declared.want.Awaited.{Awaited}
use Rattle.ll_directive.specs.declared.want.Awaited.TheVariants as awaited
use Rattle.ll_settings.specs.Settings.{Configuration}
use Rattle.ll_item.specs.declared.item.Item.TheVariants.{Init}
use Rattle.ll_publish.specs.Refusals.{at_line, no_line, ok_line}
use Rattle.ll_publish.specs.declared.refusal.Refusal.TheVariants as refused
use Rattle.ll_rendition.specs.declared.fault.PublishFault.TheVariants as rule
use Rattle.ll_script.specs.Answers.{clock_line, fault_line, reply_lines, sent_line, shut_line}
use Rattle.ll_script.specs.Lines.{acts}
use Rattle.ll_script.specs.declared.act.Act.TheVariants.{Offer, At, Refuse, Ask, Answer, Close, Clock, RefuseClock, Bytes, Drop}
use Rattle.ll_verdict.specs.declared.fault.ClockFault.TheVariants as clock
use Rattle.ll_item.specs.declared.what.What.{What}
use Rattle.ll_item.specs.declared.what.What.TheVariants as what
use Rattle.ll_verdict.specs.declared.piece.MediaReply.{MediaReply}
use Rattle.ll_verdict.specs.declared.reply.Reply.TheVariants as reply
use Rattle.ll_verdict.specs.declared.standing.Standing.{Standing}
use Rattle.ll_wire.specs.Response.{media_message}

abbrev pub named : List ℕ → Configuration
named name = record { channel = name; target = 4; part_target = 1000000; skip = 24; window = 36; renditions = codes "hi" ∷ []; first = 0; start = 0 }

-- two channels
abbrev pub both : List Configuration
both = named (codes "cam") ∷ named (codes "two") ∷ []

-- a request of the second channel for the playlist of `rendition`
abbrev pub of_two : List ℕ → Awaited → WantValue
of_two rendition awaited = record { channel = codes "two"; rendition = rendition; what = what.Playlist; awaited = awaited; skip = None }

-- a request of the second channel for media
abbrev pub media_of_two : What → WantValue
media_of_two what = media_want (codes "two") (codes "hi") what

-- media with these bytes
abbrev pub piece : List ℕ → MediaReply
piece bytes = record { bytes = bytes; number = 1; rendition = 0; what = what.Init 0 }

-- a rendition with two and a half seconds of parts, which has ended or not
abbrev pub standing : Bool → Standing
standing ended = record { count = 3; number = 12; index = 0; end_time = 2500001; time = 2501; ended = ended }

-- what lines mean after request 6
pub record WorkedLines : Type 0 where
  pub waits : acts both (Some 6) (codes "get 7 /two/hi/live.m3u8?_HLS_msn=3&_HLS_part=1") ≡ Some (Ask 7 1 (of_two (codes "hi") (awaited.Part 3 1)) ∷ [])
  -- whether the channel has the rendition isn't checked
  pub any_rendition : acts both (Some 6) (codes "get 7 /two/lo/live.m3u8") ≡ Some (Ask 7 1 (of_two (codes "lo") awaited.Nothing) ∷ [])
  pub no_channel : acts both (Some 6) (codes "get 7 /three/hi/live.m3u8") ≡ Some (Answer 7 target.NotFound ∷ [])
  pub segment : acts both (Some 6) (codes "get 7 /two/hi/s0.m4s") ≡ Some (Ask 7 1 (media_of_two (what.Segment 0)) ∷ [])
  pub part : acts both (Some 6) (codes "get 7 /two/hi/s3.1.m4s") ≡ Some (Ask 7 1 (media_of_two (what.Part 3 1)) ∷ [])
  pub no_file : acts both (Some 6) (codes "get 7 /two/hi/s00.m4s") ≡ Some (Answer 7 target.NotFound ∷ [])
  pub part_alone : acts both (Some 6) (codes "get 7 /two/hi/live.m3u8?_HLS_part=1") ≡ Some (Answer 7 target.PartAlone ∷ [])
  pub same_number : acts both (Some 6) (codes "get 6 /two/hi/live.m3u8") ≡ None
  pub three_words : acts both (Some 6) (codes "get 7 /two/hi/live.m3u8 now") ≡ None
  pub given_up : acts both (Some 6) (codes "close 6") ≡ Some (Close 6 ∷ [])
  pub long_number : acts both (Some 6) (codes "close 1234567890") ≡ None
  pub time : acts both (Some 6) (codes "clock 12000") ≡ Some (Clock 0 12000 ∷ Clock 1 12000 ∷ [])
  pub no_channels : acts [] None (codes "clock 12000") ≡ Some []
  pub last_time : acts both (Some 6) (codes "clock 1152921504606846976") ≡ Some (Clock 0 1152921504606846976 ∷ Clock 1 1152921504606846976 ∷ [])
  pub late : acts both (Some 6) (codes "clock 1152921504606846977") ≡ Some (RefuseClock ∷ [])
  pub too_late : acts both (Some 6) (codes "clock 18446744073709551616") ≡ None
  pub unknown : acts both (Some 6) (codes "pub three end hi") ≡ Some (Refuse refused.UnknownChannel ∷ [])
  -- two digits for each byte, in the place of their number
  pub with_bytes : acts both (Some 6) (codes "pub two init hi 6162") ≡ Some (Offer 1 (Init 0 (97 ∷ 98 ∷ [])) ∷ [])
  pub asks : acts both (Some 6) (codes "pub two at hi") ≡ Some (At 1 0 ∷ [])
  pub asks_unknown : acts both (Some 6) (codes "pub three at hi") ≡ Some (Refuse refused.UnknownChannel ∷ [])
  pub asks_no_rendition : acts both (Some 6) (codes "pub two at lo") ≡ Some (Refuse (refused.Rule rule.NoRendition) ∷ [])
  pub asks_no_name : acts both (Some 6) (codes "pub two at Lo") ≡ Some (Refuse refused.BadLine ∷ [])
  pub asks_nothing : acts both (Some 6) (codes "pub two at") ≡ Some (Refuse refused.BadLine ∷ [])
  pub asks_with_bytes : acts both (Some 6) (codes "pub two at hi 6162") ≡ Some (Refuse refused.BadLine ∷ [])
  pub came : acts both (Some 6) (codes "bytes 1 474554") ≡ Some (Bytes 1 (codes "GET") ∷ [])
  pub zeros_in_front : acts both (Some 6) (codes "bytes 01 0a") ≡ Some (Bytes 1 (10 ∷ []) ∷ [])
  pub capital : acts both (Some 6) (codes "bytes 1 0A") ≡ None
  pub half_a_byte : acts both (Some 6) (codes "bytes 1 0") ≡ None
  pub no_bytes : acts both (Some 6) (codes "bytes 1 ") ≡ None
  pub two_pieces : acts both (Some 6) (codes "bytes 1 00 00") ≡ None
  pub long_connection : acts both (Some 6) (codes "bytes 1234567890 00") ≡ None
  pub dropped : acts both (Some 6) (codes "drop 7") ≡ Some (Drop 7 ∷ [])
  pub no_connection : acts both (Some 6) (codes "drop") ≡ None
  pub comment : acts both (Some 6) (codes "# close 6") ≡ Some []
  pub other : acts both (Some 6) (codes "wait") ≡ None

pub record WorkedAnswers : Type 0 where
  pub accepted : ok_line 12 ≡ codes "ok 12\n"
  pub refused : no_line (refused.Rule rule.TooLong) ≡ codes "no 4 TooLong\n"
  pub stands : at_line (standing false) ≡ codes "at 3 12 0 2500001 2501\n"
  pub ended : at_line (standing true) ≡ codes "at 3 12 0 2500001 2501 ended\n"
  pub late : clock_line clock.ClockRange ≡ codes "no 1 ClockRange\n"
  pub busy : reply_lines 7 reply.Busy ≡ codes "reply 7 503 Busy\n"
  pub media : reply_lines 7 (reply.Media (piece (1 ∷ 255 ∷ []))) ≡ codes "reply 7 200 2\n01ff\n"
  pub no_bytes : reply_lines 7 (reply.Media (piece [])) ≡ codes "reply 7 200 0\n\n"
  pub part_alone : fault_line 7 target.PartAlone ≡ codes "reply 7 400 PartAlone\n"
  pub sent : sent_line 7 (codes "HTTP") ≡ codes "sent 7 4\nHTTP"
  -- LF after media isn't counted
  pub sent_media : sent_line 7 (media_message (1 ∷ 2 ∷ 3 ∷ []) true) ≡ codes "sent 7 117\n" ++ media_message (1 ∷ 2 ∷ 3 ∷ []) true ++ 10 ∷ []
  pub shut : shut_line 7 ≡ codes "shut 7\n"
