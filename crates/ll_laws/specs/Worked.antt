-- Worked examples: small streams, and whole texts of their playlists and delta updates, byte for byte.
use Rattle.std.specs.Prelude.{◌≡◌, ℕ, List, [], ◌∷◌, ◌++◌, true, false, Ok, codes, Bool, None}
use Rattle.ll_attr.specs.declared.attributes.Attribute.{Attribute}
use Rattle.ll_attr.specs.declared.attributes.AttrValue.TheVariants.{Quoted, Bare}
use Rattle.ll_settings.specs.Settings.{Configuration, settings_in}
use Rattle.ll_item.specs.declared.item.Item.{Item}
use Rattle.ll_item.specs.declared.item.Item.TheVariants as item
use Rattle.ll_page.specs.Delta.{delta_text}
use Rattle.ll_page.specs.Full.{text_after}
use Rattle.ll_pieces.specs.View.{seen}
use Rattle.ll_item.specs.declared.skip_kind.SkipKind.TheVariants.{Yes, V2}

-- one rendition, a target duration of 4 s and a part target of 1 s
abbrev pub whole_seconds : Configuration
whole_seconds = record {
  channel = codes "cam";
  target = 4;
  part_target = 1000000;
  skip = 24;
  window = 36;
  renditions = codes "hi" ∷ [];
  first = 0;
  start = 0;
}

-- two renditions, a target duration of 4 s and a part target of 0.334 s; the first segments have number 7
abbrev pub two_renditions : Configuration
two_renditions = record {
  channel = codes "cam";
  target = 4;
  part_target = 334000;
  skip = 24;
  window = 36;
  renditions = codes "lo" ∷ codes "hi" ∷ [];
  first = 7;
  start = 0;
}

-- one rendition, a target duration of 1 s and a Skip Boundary of 6 s
abbrev pub short_segments : Configuration
short_segments = record {
  channel = codes "cam";
  target = 1;
  part_target = 1000000;
  skip = 6;
  window = 9;
  renditions = codes "hi" ∷ [];
  first = 0;
  start = 0;
}

-- two renditions, a target duration of 1 s; the first segments have number 40, and begin at 2026-03-07T15:04:05.250Z
abbrev pub afternoon : Configuration
afternoon = record {
  channel = codes "cam";
  target = 1;
  part_target = 1000000;
  skip = 6;
  window = 9;
  renditions = codes "hi" ∷ codes "lo" ∷ [];
  first = 40;
  start = 1772895845250;
}

-- a part of a rendition, which lasts `duration` microseconds, and is independent and finishes its segment, or not
abbrev pub part : ℕ → ℕ → Bool → Bool → Item
part rendition duration independent finish =
    item.Part (record { rendition = rendition; duration = duration; independent = independent; finish = finish; media = [] })

abbrev pub whole_part : Item
whole_part = part 0 1000000 true true

-- eight segments of a second, of which the fourth is broken
abbrev pub eight_seconds : List Item
eight_seconds =
    whole_part ∷ whole_part ∷ whole_part ∷ item.Break 0 None ∷ whole_part ∷ whole_part ∷ whole_part ∷ whole_part ∷ whole_part ∷ []

-- one part, which is a whole segment
abbrev pub one_part : List Item
one_part = part 0 1000000 true true ∷ []

abbrev pub start_date : Attribute
start_date = record { name = codes "START-DATE"; value = Quoted (codes "1970-01-01T00:00:00Z") }

abbrev pub dated : List ℕ → Item
dated id = item.Range 0 id (start_date ∷ [])

-- the same with four date ranges, of which two are removed
abbrev pub eight_seconds_with_ranges : List Item
eight_seconds_with_ranges =
    dated (codes "a") ∷ dated (codes "b") ∷ dated (codes "c") ∷ whole_part ∷ item.Unrange 0 (codes "c") ∷ whole_part ∷ item.Unrange 0 (codes "b")
    ∷ dated (codes "d") ∷ whole_part ∷ item.Break 0 None ∷ whole_part ∷ whole_part ∷ whole_part ∷ whole_part ∷ whole_part ∷ []

abbrev pub one_second : Attribute
one_second = record { name = codes "DURATION"; value = Bare (codes "1.0") }

-- a part with two date ranges before it and one after it; the first one is removed after it
abbrev pub ranges_and_part : List Item
ranges_and_part =
    item.Range 0 (codes "x") (start_date ∷ []) ∷ item.Range 0 (codes "b c") (start_date ∷ one_second ∷ []) ∷ part 0 1000000 true true
    ∷ item.Unrange 0 (codes "x") ∷ item.Range 0 (codes "a") (one_second ∷ start_date ∷ []) ∷ []

-- parts of both renditions; of the three of the second, the last comes after a break that follows a finished segment
abbrev pub mixed_parts : List Item
mixed_parts =
    part 1 334000 true false ∷ part 0 300000 true true ∷ part 1 333999 false true ∷ item.Break 1 None ∷ item.Break 0 None
    ∷ part 1 1 true false ∷ item.End 0 ∷ []

abbrev pub dependent_part : Item
dependent_part = part 0 1000000 false true

-- eleven segments of a second, of which the first, the second and the sixth are broken, then two parts of an open segment; two
-- parts of the other rendition among them
abbrev pub afternoon_parts : List Item
afternoon_parts =
    item.Break 0 None ∷ whole_part ∷ item.Break 0 None ∷ dependent_part ∷ part 1 300000 true false ∷ dependent_part ∷ dependent_part ∷ dependent_part
    ∷ item.Break 0 None ∷ dependent_part ∷ dependent_part ∷ dependent_part ∷ dependent_part ∷ dependent_part ∷ dependent_part
    ∷ part 1 200000 false false ∷ part 0 500000 true false ∷ part 0 250000 false false ∷ []

-- the end comes while a segment is open
abbrev pub ends_open : List Item
ends_open = part 0 1000000 true false ∷ part 0 500000 false false ∷ item.End 0 ∷ []

abbrev pub header_text : List ℕ
header_text =
    codes "#EXTM3U\n"
    ++ codes "#EXT-X-VERSION:10\n"
    ++ codes "#EXT-X-TARGETDURATION:4\n"
    ++ codes "#EXT-X-SERVER-CONTROL:CAN-BLOCK-RELOAD=YES,PART-HOLD-BACK=3.000000,CAN-SKIP-UNTIL=24.000000,CAN-SKIP-DATERANGES=YES\n"
    ++ codes "#EXT-X-PART-INF:PART-TARGET=1.000000\n"
    ++ codes "#EXT-X-MEDIA-SEQUENCE:0\n"
    ++ codes "#EXT-X-DISCONTINUITY-SEQUENCE:0\n"

abbrev pub empty_text : List ℕ
empty_text = header_text ++ codes "#EXT-X-PRELOAD-HINT:TYPE=PART,URI=\"s0.0.m4s\"\n"

abbrev pub segment_text : List ℕ
segment_text =
    codes "#EXT-X-MAP:URI=\"init0.mp4\"\n"
    ++ codes "#EXT-X-PROGRAM-DATE-TIME:1970-01-01T00:00:00.000Z\n"
    ++ codes "#EXT-X-PART:DURATION=1.000000,URI=\"s0.0.m4s\",INDEPENDENT=YES\n"
    ++ codes "#EXTINF:1.000000,\n"
    ++ codes "s0.m4s\n"
    ++ codes "#EXT-X-PRELOAD-HINT:TYPE=PART,URI=\"s1.0.m4s\"\n"

abbrev pub one_segment_text : List ℕ
one_segment_text = header_text ++ segment_text

-- date ranges are in order of adding
abbrev pub date_ranges_text : List ℕ
date_ranges_text =
    header_text
    ++ codes "#EXT-X-DATERANGE:ID=\"b c\",START-DATE=\"1970-01-01T00:00:00Z\",DURATION=1.0\n"
    ++ codes "#EXT-X-DATERANGE:ID=\"a\",DURATION=1.0,START-DATE=\"1970-01-01T00:00:00Z\"\n"
    ++ segment_text

abbrev pub open_segment_text : List ℕ
open_segment_text =
    codes "#EXTM3U\n"
    ++ codes "#EXT-X-VERSION:10\n"
    ++ codes "#EXT-X-TARGETDURATION:4\n"
    ++ codes "#EXT-X-SERVER-CONTROL:CAN-BLOCK-RELOAD=YES,PART-HOLD-BACK=1.002000,CAN-SKIP-UNTIL=24.000000,CAN-SKIP-DATERANGES=YES\n"
    ++ codes "#EXT-X-PART-INF:PART-TARGET=0.334000\n"
    ++ codes "#EXT-X-MEDIA-SEQUENCE:7\n"
    ++ codes "#EXT-X-DISCONTINUITY-SEQUENCE:0\n"
    ++ codes "#EXT-X-MAP:URI=\"init0.mp4\"\n"
    ++ codes "#EXT-X-PROGRAM-DATE-TIME:1970-01-01T00:00:00.000Z\n"
    ++ codes "#EXT-X-PART:DURATION=0.334000,URI=\"s7.0.m4s\",INDEPENDENT=YES\n"
    ++ codes "#EXT-X-PART:DURATION=0.333999,URI=\"s7.1.m4s\"\n"
    ++ codes "#EXTINF:0.667999,\n"
    ++ codes "s7.m4s\n"
    ++ codes "#EXT-X-DISCONTINUITY\n"
    ++ codes "#EXT-X-MAP:URI=\"init1.mp4\"\n"
    ++ codes "#EXT-X-PROGRAM-DATE-TIME:1970-01-01T00:00:00.667Z\n"
    ++ codes "#EXT-X-PART:DURATION=0.000001,URI=\"s8.0.m4s\",INDEPENDENT=YES\n"
    ++ codes "#EXT-X-RENDITION-REPORT:URI=\"../lo/live.m3u8\",LAST-MSN=7,LAST-PART=0\n"
    ++ codes "#EXT-X-PRELOAD-HINT:TYPE=PART,URI=\"s8.1.m4s\"\n"

-- the first rendition has ended
abbrev pub ended_text : List ℕ
ended_text =
    codes "#EXTM3U\n"
    ++ codes "#EXT-X-VERSION:10\n"
    ++ codes "#EXT-X-TARGETDURATION:4\n"
    ++ codes "#EXT-X-SERVER-CONTROL:CAN-BLOCK-RELOAD=YES,PART-HOLD-BACK=1.002000,CAN-SKIP-UNTIL=24.000000,CAN-SKIP-DATERANGES=YES\n"
    ++ codes "#EXT-X-PART-INF:PART-TARGET=0.334000\n"
    ++ codes "#EXT-X-MEDIA-SEQUENCE:7\n"
    ++ codes "#EXT-X-DISCONTINUITY-SEQUENCE:0\n"
    ++ codes "#EXT-X-MAP:URI=\"init0.mp4\"\n"
    ++ codes "#EXT-X-PROGRAM-DATE-TIME:1970-01-01T00:00:00.000Z\n"
    ++ codes "#EXT-X-PART:DURATION=0.300000,URI=\"s7.0.m4s\",INDEPENDENT=YES\n"
    ++ codes "#EXTINF:0.300000,\n"
    ++ codes "s7.m4s\n"
    ++ codes "#EXT-X-RENDITION-REPORT:URI=\"../hi/live.m3u8\",LAST-MSN=8,LAST-PART=0\n"
    ++ codes "#EXT-X-ENDLIST\n"

-- the header of a delta update of `eight_seconds`
abbrev pub eight_header : List ℕ
eight_header =
    codes "#EXTM3U\n"
    ++ codes "#EXT-X-VERSION:10\n"
    ++ codes "#EXT-X-TARGETDURATION:1\n"
    ++ codes "#EXT-X-SERVER-CONTROL:CAN-BLOCK-RELOAD=YES,PART-HOLD-BACK=3.000000,CAN-SKIP-UNTIL=6.000000,CAN-SKIP-DATERANGES=YES\n"
    ++ codes "#EXT-X-PART-INF:PART-TARGET=1.000000\n"
    ++ codes "#EXT-X-MEDIA-SEQUENCE:0\n"
    ++ codes "#EXT-X-DISCONTINUITY-SEQUENCE:0\n"

-- the second segment and those after it
abbrev pub seven_segments : List ℕ
seven_segments =
    codes "#EXT-X-PROGRAM-DATE-TIME:1970-01-01T00:00:01.000Z\n"
    ++ codes "#EXTINF:1.000000,\n"
    ++ codes "s1.m4s\n"
    ++ codes "#EXT-X-PROGRAM-DATE-TIME:1970-01-01T00:00:02.000Z\n"
    ++ codes "#EXTINF:1.000000,\n"
    ++ codes "s2.m4s\n"
    ++ codes "#EXT-X-DISCONTINUITY\n"
    ++ codes "#EXT-X-MAP:URI=\"init1.mp4\"\n"
    ++ codes "#EXT-X-PROGRAM-DATE-TIME:1970-01-01T00:00:03.000Z\n"
    ++ codes "#EXTINF:1.000000,\n"
    ++ codes "s3.m4s\n"
    ++ codes "#EXT-X-PROGRAM-DATE-TIME:1970-01-01T00:00:04.000Z\n"
    ++ codes "#EXTINF:1.000000,\n"
    ++ codes "s4.m4s\n"
    ++ codes "#EXT-X-PROGRAM-DATE-TIME:1970-01-01T00:00:05.000Z\n"
    ++ codes "#EXT-X-PART:DURATION=1.000000,URI=\"s5.0.m4s\",INDEPENDENT=YES\n"
    ++ codes "#EXTINF:1.000000,\n"
    ++ codes "s5.m4s\n"
    ++ codes "#EXT-X-PROGRAM-DATE-TIME:1970-01-01T00:00:06.000Z\n"
    ++ codes "#EXT-X-PART:DURATION=1.000000,URI=\"s6.0.m4s\",INDEPENDENT=YES\n"
    ++ codes "#EXTINF:1.000000,\n"
    ++ codes "s6.m4s\n"
    ++ codes "#EXT-X-PROGRAM-DATE-TIME:1970-01-01T00:00:07.000Z\n"
    ++ codes "#EXT-X-PART:DURATION=1.000000,URI=\"s7.0.m4s\",INDEPENDENT=YES\n"
    ++ codes "#EXTINF:1.000000,\n"
    ++ codes "s7.m4s\n"
    ++ codes "#EXT-X-PRELOAD-HINT:TYPE=PART,URI=\"s8.0.m4s\"\n"

-- seven seconds follow the first segment, which is skipped; six follow the second, which is exactly the limit
abbrev pub delta_update_text : List ℕ
delta_update_text = eight_header ++ (codes "#EXT-X-SKIP:SKIPPED-SEGMENTS=1\n" ++ seven_segments)

-- a delta update that skips segments alone lists all date ranges: a was added eight seconds before, and d six
abbrev pub lists_ranges_text : List ℕ
lists_ranges_text =
    eight_header
    ++ codes "#EXT-X-DATERANGE:ID=\"a\",START-DATE=\"1970-01-01T00:00:00Z\"\n"
    ++ codes "#EXT-X-DATERANGE:ID=\"d\",START-DATE=\"1970-01-01T00:00:00Z\"\n"
    ++ codes "#EXT-X-SKIP:SKIPPED-SEGMENTS=1\n"
    ++ seven_segments

-- a is skipped, and d isn't; c was removed seven seconds before, and b six, which is exactly the limit
abbrev pub skips_ranges_text : List ℕ
skips_ranges_text =
    eight_header
    ++ codes "#EXT-X-DATERANGE:ID=\"d\",START-DATE=\"1970-01-01T00:00:00Z\"\n"
    ++ codes "#EXT-X-SKIP:SKIPPED-SEGMENTS=1,RECENTLY-REMOVED-DATERANGES=\"b\"\n"
    ++ seven_segments

-- if no removal is recent, the line says so
abbrev pub removes_none_text : List ℕ
removes_none_text = eight_header ++ (codes "#EXT-X-SKIP:SKIPPED-SEGMENTS=1,RECENTLY-REMOVED-DATERANGES=\"\"\n" ++ seven_segments)

-- two broken segments have left the window; the last three segments and the open one list their parts
abbrev pub afternoon_text : List ℕ
afternoon_text =
    codes "#EXTM3U\n"
    ++ codes "#EXT-X-VERSION:10\n"
    ++ codes "#EXT-X-TARGETDURATION:1\n"
    ++ codes "#EXT-X-SERVER-CONTROL:CAN-BLOCK-RELOAD=YES,PART-HOLD-BACK=3.000000,CAN-SKIP-UNTIL=6.000000,CAN-SKIP-DATERANGES=YES\n"
    ++ codes "#EXT-X-PART-INF:PART-TARGET=1.000000\n"
    ++ codes "#EXT-X-MEDIA-SEQUENCE:42\n"
    ++ codes "#EXT-X-DISCONTINUITY-SEQUENCE:2\n"
    ++ codes "#EXT-X-MAP:URI=\"init2.mp4\"\n"
    ++ codes "#EXT-X-PROGRAM-DATE-TIME:2026-03-07T15:04:07.250Z\n"
    ++ codes "#EXTINF:1.000000,\n"
    ++ codes "s42.m4s\n"
    ++ codes "#EXT-X-PROGRAM-DATE-TIME:2026-03-07T15:04:08.250Z\n"
    ++ codes "#EXTINF:1.000000,\n"
    ++ codes "s43.m4s\n"
    ++ codes "#EXT-X-PROGRAM-DATE-TIME:2026-03-07T15:04:09.250Z\n"
    ++ codes "#EXTINF:1.000000,\n"
    ++ codes "s44.m4s\n"
    ++ codes "#EXT-X-DISCONTINUITY\n"
    ++ codes "#EXT-X-MAP:URI=\"init3.mp4\"\n"
    ++ codes "#EXT-X-PROGRAM-DATE-TIME:2026-03-07T15:04:10.250Z\n"
    ++ codes "#EXTINF:1.000000,\n"
    ++ codes "s45.m4s\n"
    ++ codes "#EXT-X-PROGRAM-DATE-TIME:2026-03-07T15:04:11.250Z\n"
    ++ codes "#EXTINF:1.000000,\n"
    ++ codes "s46.m4s\n"
    ++ codes "#EXT-X-PROGRAM-DATE-TIME:2026-03-07T15:04:12.250Z\n"
    ++ codes "#EXTINF:1.000000,\n"
    ++ codes "s47.m4s\n"
    ++ codes "#EXT-X-PROGRAM-DATE-TIME:2026-03-07T15:04:13.250Z\n"
    ++ codes "#EXT-X-PART:DURATION=1.000000,URI=\"s48.0.m4s\"\n"
    ++ codes "#EXTINF:1.000000,\n"
    ++ codes "s48.m4s\n"
    ++ codes "#EXT-X-PROGRAM-DATE-TIME:2026-03-07T15:04:14.250Z\n"
    ++ codes "#EXT-X-PART:DURATION=1.000000,URI=\"s49.0.m4s\"\n"
    ++ codes "#EXTINF:1.000000,\n"
    ++ codes "s49.m4s\n"
    ++ codes "#EXT-X-PROGRAM-DATE-TIME:2026-03-07T15:04:15.250Z\n"
    ++ codes "#EXT-X-PART:DURATION=1.000000,URI=\"s50.0.m4s\"\n"
    ++ codes "#EXTINF:1.000000,\n"
    ++ codes "s50.m4s\n"
    ++ codes "#EXT-X-PROGRAM-DATE-TIME:2026-03-07T15:04:16.250Z\n"
    ++ codes "#EXT-X-PART:DURATION=0.500000,URI=\"s51.0.m4s\",INDEPENDENT=YES\n"
    ++ codes "#EXT-X-PART:DURATION=0.250000,URI=\"s51.1.m4s\"\n"
    ++ codes "#EXT-X-RENDITION-REPORT:URI=\"../lo/live.m3u8\",LAST-MSN=40,LAST-PART=1\n"
    ++ codes "#EXT-X-PRELOAD-HINT:TYPE=PART,URI=\"s51.2.m4s\"\n"

abbrev pub ends_open_text : List ℕ
ends_open_text =
    header_text
    ++ codes "#EXT-X-MAP:URI=\"init0.mp4\"\n"
    ++ codes "#EXT-X-PROGRAM-DATE-TIME:1970-01-01T00:00:00.000Z\n"
    ++ codes "#EXT-X-PART:DURATION=1.000000,URI=\"s0.0.m4s\",INDEPENDENT=YES\n"
    ++ codes "#EXT-X-PART:DURATION=0.500000,URI=\"s0.1.m4s\"\n"
    ++ codes "#EXTINF:1.500000,\n"
    ++ codes "s0.m4s\n"
    ++ codes "#EXT-X-ENDLIST\n"

pub record WorkedPlaylists : Type 0 where
  -- `whole_seconds` has the settings that this line spells
  pub settings :
      settings_in (codes "channel cam target=4 part=1000000 skip=24 window=36 renditions=hi first=0 start=0") ≡ Ok whole_seconds
  pub empty : text_after whole_seconds [] 0 ≡ empty_text
  pub one_segment : text_after whole_seconds one_part 0 ≡ one_segment_text
  pub date_ranges : text_after whole_seconds ranges_and_part 0 ≡ date_ranges_text
  pub delta_update : delta_text Yes (seen short_segments eight_seconds 0) ≡ delta_update_text
  pub lists_ranges : delta_text Yes (seen short_segments eight_seconds_with_ranges 0) ≡ lists_ranges_text
  pub skips_ranges : delta_text V2 (seen short_segments eight_seconds_with_ranges 0) ≡ skips_ranges_text
  pub removes_none : delta_text V2 (seen short_segments eight_seconds 0) ≡ removes_none_text
  pub open_segment : text_after two_renditions mixed_parts 1 ≡ open_segment_text
  pub has_ended : text_after two_renditions mixed_parts 0 ≡ ended_text
  pub afternoon : text_after afternoon afternoon_parts 0 ≡ afternoon_text
  pub ends_open : text_after whole_seconds ends_open 0 ≡ ends_open_text
