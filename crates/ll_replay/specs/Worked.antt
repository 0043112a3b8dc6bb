-- Worked examples: small scripts, and all that is written for each, byte for byte.
use Rattle.std.specs.Prelude.{◌≡◌, ℕ, List, [], ◌∷◌, ◌++◌, true, Some, codes}
use Rattle.ll_replay.specs.Stream.{come_to, script, world_of}
use Rattle.ll_replay.specs.Script.{BadLine, Marked, plain, unmarked}

abbrev pub channel_line : List ℕ
channel_line = codes "channel cam target=4 part=1000000 skip=24 window=36 renditions=hi first=0 start=0\n"

-- the first lines of a playlist
abbrev pub first_lines_of_playlist : List ℕ
first_lines_of_playlist =
    codes "#EXTM3U\n"
    ++ codes "#EXT-X-VERSION:10\n"
    ++ codes "#EXT-X-TARGETDURATION:4\n"
    ++ codes "#EXT-X-SERVER-CONTROL:CAN-BLOCK-RELOAD=YES,PART-HOLD-BACK=3.000000,CAN-SKIP-UNTIL=24.000000,CAN-SKIP-DATERANGES=YES\n"
    ++ codes "#EXT-X-PART-INF:PART-TARGET=1.000000\n"
    ++ codes "#EXT-X-MEDIA-SEQUENCE:0\n"
    ++ codes "#EXT-X-DISCONTINUITY-SEQUENCE:0\n"

-- no item was published
abbrev pub empty_playlist : List ℕ
empty_playlist = first_lines_of_playlist ++ codes "#EXT-X-PRELOAD-HINT:TYPE=PART,URI=\"s0.0.m4s\"\n"

-- one part, which is a whole segment
abbrev pub segment_playlist : List ℕ
segment_playlist =
    first_lines_of_playlist
    ++ codes "#EXT-X-MAP:URI=\"init0.mp4\"\n"
    ++ codes "#EXT-X-PROGRAM-DATE-TIME:1970-01-01T00:00:00.000Z\n"
    ++ codes "#EXT-X-PART:DURATION=1.000000,URI=\"s0.0.m4s\",INDEPENDENT=YES\n"
    ++ codes "#EXTINF:1.000000,\n"
    ++ codes "s0.m4s\n"
    ++ codes "#EXT-X-PRELOAD-HINT:TYPE=PART,URI=\"s1.0.m4s\"\n"

abbrev pub asked_at_once : List ℕ
asked_at_once = channel_line ++ codes "get 1 /cam/hi/live.m3u8\n"

abbrev pub asked_later : List ℕ
asked_later = channel_line ++ codes "pub cam part hi 1000000 if\n" ++ codes "get 1 /cam/hi/live.m3u8\n"

-- a comment, an empty line that ends in CR LF, seven refusals, one of them of a line that is no UTF-8, a break, an end, and an
-- item after it without a last end
abbrev pub refused_lines : List ℕ
refused_lines =
    codes "# a camera\n\r\n"
    ++ channel_line
    ++ codes "pub cam part hi 0 if\n"
    ++ codes "pub cam part hi 1000001 if\n"
    ++ codes "pub cam part lo 1000000 if\r\n"
    ++ codes "pub two part hi 1000000 if\n"
    ++ codes "pub cam part hi 1000000 " ++ 255 ∷ codes "\n"
    ++ codes "pub cam break hi\n"
    ++ codes "pub cam part hi 1000000 -\n"
    ++ codes "pub cam break hi\n"
    ++ codes "pub cam end hi\n"
    ++ codes "pub cam part hi 1000000 -"

abbrev pub refusals_text : List ℕ
refusals_text =
    codes "no 3 BadDuration\n"
    ++ codes "no 4 TooLong\n"
    ++ codes "no 1 NoRendition\n"
    ++ codes "no 14 UnknownChannel\n"
    ++ codes "no 13 BadLine\n"
    ++ codes "ok 1\n"
    ++ codes "ok 2\n"
    ++ codes "no 5 OpenSegment\n"
    ++ codes "ok 3\n"
    ++ codes "no 2 Ended\n"

-- A channel whose first segment has the largest number that is allowed, and begins a second before the year 9999 ends. If two rules refuse an
-- item, the answer is the first: a part that is too long also has a number above the largest, and so has one that would end after the year; an
-- id that is taken comes with attributes that aren't allowed; and the removal of an unknown id comes after the end.
abbrev pub last_lines : List ℕ
last_lines =
    codes "channel cam target=4 part=1000000 skip=24 window=36 renditions=hi first=1152921504606846976 start=253402300799000\n"
    ++ codes "pub cam part hi 1000000 f\n"
    ++ codes "pub cam part hi 999999 f\n"
    ++ codes "pub cam part hi 1 f\n"
    ++ codes "pub cam part hi 1000001 f\n"
    ++ codes "pub cam range hi ID=\"x\"\n"
    ++ codes "pub cam range hi ID=\"x\",START-DATE=\"1970-01-01T00:00:00Z\"\n"
    ++ codes "pub cam range hi ID=\"x\"\n"
    ++ codes "pub cam unrange hi y\n"
    ++ codes "pub cam end hi\n"
    ++ codes "pub cam unrange hi y\n"

abbrev pub last_refusals : List ℕ
last_refusals =
    codes "no 7 TimeEnd\n"
    ++ codes "ok 1\n"
    ++ codes "no 6 CountEnd\n"
    ++ codes "no 4 TooLong\n"
    ++ codes "no 9 BadAttribute\n"
    ++ codes "ok 2\n"
    ++ codes "no 8 IdTaken\n"
    ++ codes "no 10 IdUnknown\n"
    ++ codes "ok 3\n"
    ++ codes "no 2 Ended\n"

-- three requests: one for a part that comes, one for a segment that doesn't come in time, and one that is too far ahead
abbrev pub waiting_lines : List ℕ
waiting_lines =
    channel_line
    ++ codes "get 1 /cam/hi/live.m3u8?_HLS_msn=0&_HLS_part=0\n"
    ++ codes "get 2 /cam/hi/live.m3u8?_HLS_msn=0\n"
    ++ codes "get 3 /cam/hi/live.m3u8?_HLS_msn=2\n"
    ++ codes "pub cam part hi 1000000 -\n"
    ++ codes "clock 11999\n"
    ++ codes "clock 12000\n"

-- one part of an open segment
abbrev pub part_playlist : List ℕ
part_playlist =
    first_lines_of_playlist
    ++ codes "#EXT-X-MAP:URI=\"init0.mp4\"\n"
    ++ codes "#EXT-X-PROGRAM-DATE-TIME:1970-01-01T00:00:00.000Z\n"
    ++ codes "#EXT-X-PART:DURATION=1.000000,URI=\"s0.0.m4s\"\n"
    ++ codes "#EXT-X-PRELOAD-HINT:TYPE=PART,URI=\"s0.1.m4s\"\n"

abbrev pub waiting_text : List ℕ
waiting_text =
    codes "reply 3 400 TooFar\n"
    ++ codes "ok 1\n"
    ++ codes "reply 1 200 426\n"
    ++ part_playlist
    ++ codes "reply 2 503 Timeout\n"

-- requests for a part that comes, for its segment, which is there, and for the next segment, which isn't
abbrev pub media_lines : List ℕ
media_lines =
    channel_line
    ++ codes "get 1 /cam/hi/s0.0.m4s\n"
    ++ codes "pub cam part hi 1000000 f 00ff\n"
    ++ codes "get 2 /cam/hi/s0.m4s\n"
    ++ codes "get 3 /cam/hi/s1.m4s\n"

abbrev pub media_text : List ℕ
media_text =
    codes "ok 1\n"
    ++ codes "reply 1 200 2\n00ff\n"
    ++ codes "reply 2 200 2\n00ff\n"
    ++ codes "reply 3 404 NotFound\n"

-- where a rendition stands before any part, inside a segment, after it, and after the end; and a rendition that the channel hasn't
abbrev pub asking_lines : List ℕ
asking_lines =
    channel_line
    ++ codes "pub cam at hi\n"
    ++ codes "pub cam part hi 600001 i\n"
    ++ codes "pub cam at hi\n"
    ++ codes "pub cam finish hi\n"
    ++ codes "pub cam at hi\n"
    ++ codes "pub cam end hi\n"
    ++ codes "pub cam at hi\n"
    ++ codes "pub cam at lo\n"

abbrev pub asking_text : List ℕ
asking_text =
    codes "at 0 0 0 0 0\n"
    ++ codes "ok 1\n"
    ++ codes "at 1 0 1 600001 601\n"
    ++ codes "ok 2\n"
    ++ codes "at 2 1 0 600001 601\n"
    ++ codes "ok 3\n"
    ++ codes "at 3 1 0 600001 601 ended\n"
    ++ codes "no 1 NoRendition\n"

-- the number of the second request isn't larger than that of the first
abbrev pub same_number : List ℕ
same_number = asked_at_once ++ codes "get 1 /cam/hi/live.m3u8\n" ++ codes "pub cam part hi 1000000 if\n"

-- a line whose item or request is out of memory
abbrev pub refused_line : List ℕ → Marked
refused_line text = record { text = text; lots = (record plain { refused = true }) ∷ [] }

abbrev pub declared : Marked
declared = unmarked (codes "channel cam target=4 part=1000000 skip=24 window=36 renditions=hi first=0 start=0")

-- the same item twice, of which the first is out of memory, and so is the first of two requests
abbrev pub lines_without_memory : List Marked
lines_without_memory =
    declared
    ∷ refused_line (codes "pub cam part hi 1000000 if")
    ∷ unmarked (codes "pub cam part hi 1000000 if")
    ∷ refused_line (codes "get 1 /cam/hi/live.m3u8")
    ∷ unmarked (codes "get 2 /cam/hi/live.m3u8")
    ∷ []

pub record WorkedScript : Type 0 where
  pub no_memory : (come_to lines_without_memory).text ≡ codes "no 12 Memory\n" ++ codes "ok 1\n" ++ codes "reply 1 503 Memory\n" ++ codes "reply 2 200 467\n" ++ segment_playlist
  pub at_once : script asked_at_once ≡ codes "reply 1 200 304\n" ++ empty_playlist
  pub later : script asked_later ≡ codes "ok 1\n" ++ codes "reply 1 200 467\n" ++ segment_playlist
  pub refusals : script refused_lines ≡ refusals_text
  pub last_refusals_told : script last_lines ≡ last_refusals
  pub waiting : script waiting_lines ≡ waiting_text
  pub media : script media_lines ≡ media_text
  pub asking : script asking_lines ≡ asking_text
  pub same_text : script same_number ≡ codes "reply 1 200 304\n" ++ empty_playlist
  pub same_ending : (world_of same_number).ending ≡ Some (BadLine 3)
