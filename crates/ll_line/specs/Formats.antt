-- The format of each line of a Media Playlist, by which it is both written and parsed (section 4.4), without its end.
use Rattle.std.specs.Prelude.{ℕ, ◌^◌, List, [], ◌∷◌, Bool, false, not, ◌&&◌, ◌==◌, Option, Some, None, codes, if◌then◌else◌}
use Rattle.std.specs.Option.{is_some}
use Rattle.std.specs.Result.{is_ok}
use Rattle.ll_attr.specs.Attributes.{attributes_in}
use Rattle.ll_attr.specs.Words.{after}
use Rattle.ll_format.specs.Format.{◌>>=◌, Word, Format, Either, Left, Right, until, named, up_to, to_end, beside, after_key, before_key, quoted, flag, optional, mapped, whole, mapped_word, tested, one_of, by_name, choice}
use Rattle.ll_format.specs.Words.{number, duration, quotable, uri, is_uri, rest_of_line, separated, text_if}
use Rattle.ll_line.specs.Line.{Control, DateRangeLine, Skip, PartLine, Report, Line, First, Version, TargetDuration, ServerControl, PartTarget, MediaSequence, DiscontinuitySequence, DateRange, Skipped, Discontinuity, Map, Time, Part, Duration, Uri, RenditionReport, Hint, EndList}

-- the largest number in a line
abbrev pub largest_number : ℕ
largest_number = 2 ^ 61

abbrev pub count : Word ℕ
count = number largest_number

-- a word after a key, up to a comma or up to the end
abbrev pub field : {A : Type 0} → List ℕ → Word A → Format A
field key w = after_key key (up_to 44 w)

-- section 4.4.3.8
abbrev pub control_from : ℕ × (ℕ × Bool) → Control
control_from (h, (s, d)) = record { hold_back = h; skip_until = s; skips_date_ranges = d }

abbrev pub control : Format Control
control =
    mapped control_from (λ c. (c.hold_back, (c.skip_until, c.skips_date_ranges)))
    (beside (field (codes "CAN-BLOCK-RELOAD=YES,PART-HOLD-BACK=") duration)
    (beside (field (codes ",CAN-SKIP-UNTIL=") duration) (flag (codes ",CAN-SKIP-DATERANGES=YES"))))

-- section 4.4.3.7
abbrev pub part_target : Format ℕ
part_target = field (codes "PART-TARGET=") duration

abbrev pub text_or_none : List ℕ → Option (List ℕ)
text_or_none [] = None
text_or_none (b ∷ bs) = Some (b ∷ bs)

abbrev pub text_or_empty : Option (List ℕ) → List ℕ
text_or_empty None = []
text_or_empty (Some text) = text

abbrev pub range_from : List ℕ × Option (List ℕ) → DateRangeLine
range_from (id, more) = record { id = id; attributes = text_or_empty more }

abbrev pub date_range_fields : Format DateRangeLine
date_range_fields =
    mapped range_from (λ r. (r.id, text_or_none r.attributes))
    (beside (after_key (codes "ID=\"") (quoted quotable)) (optional (codes ",") (to_end rest_of_line)))

-- the attributes after the id, with a comma before them if there are any
abbrev pub attributes_text : List ℕ → List ℕ
attributes_text attributes = (optional (codes ",") (to_end rest_of_line)).print (text_or_none attributes)

abbrev pub is_attribute_list : List ℕ → Bool
is_attribute_list text = is_ok (attributes_in text)

-- section 4.4.5.1: an attribute list whose first attribute is ID
abbrev pub date_range : Word DateRangeLine
date_range = tested is_attribute_list (whole date_range_fields)

-- ids separated by tabs
abbrev pub removed : Format (Option (List (List ℕ)))
removed = optional (codes ",RECENTLY-REMOVED-DATERANGES=\"") (quoted (separated 9))

abbrev pub skip_from : ℕ × Option (List (List ℕ)) → Skip
skip_from (n, r) = record { count = n; removed = r }

-- section 4.4.5.2
abbrev pub skip : Format Skip
skip = mapped skip_from (λ s. (s.count, s.removed)) (beside (field (codes "SKIPPED-SEGMENTS=") count) removed)

-- section 4.4.4.5
abbrev pub map_field : Format (List ℕ)
map_field = after_key (codes "URI=\"") (quoted uri)

abbrev pub part_from : ℕ × (List ℕ × Bool) → PartLine
part_from (d, (u, i)) = record { duration = d; uri = u; independent = i }

-- section 4.4.4.9
abbrev pub part : Format PartLine
part =
    mapped part_from (λ p. (p.duration, (p.uri, p.independent)))
    (beside (field (codes "DURATION=") duration) (beside (after_key (codes ",URI=\"") (quoted uri)) (flag (codes ",INDEPENDENT=YES"))))

-- section 4.4.4.1, without a title
abbrev pub segment_duration : Format ℕ
segment_duration = before_key (up_to 44 duration) (codes ",")

abbrev pub report_from : List ℕ × (ℕ × ℕ) → Report
report_from (u, (n, i)) = record { uri = u; number = n; index = i }

-- section 4.4.5.4
abbrev pub report : Format Report
report =
    mapped report_from (λ r. (r.uri, (r.number, r.index)))
    (beside (after_key (codes "URI=\"") (quoted uri)) (beside (field (codes ",LAST-MSN=") count) (field (codes ",LAST-PART=") count)))

-- section 4.4.5.3
abbrev pub hint_field : Format (List ℕ)
hint_field = after_key (codes "TYPE=PART,URI=\"") (quoted uri)

-- the tags with a value after a colon
pub data Tag : Type 0 where
  VersionTag : Tag
  TargetDurationTag : Tag
  ServerControlTag : Tag
  PartTargetTag : Tag
  MediaSequenceTag : Tag
  DiscontinuitySequenceTag : Tag
  DateRangeTag : Tag
  SkippedTag : Tag
  MapTag : Tag
  TimeTag : Tag
  PartTag : Tag
  DurationTag : Tag
  RenditionReportTag : Tag
  HintTag : Tag

abbrev pub tags : List Tag
tags =
    VersionTag ∷ TargetDurationTag ∷ ServerControlTag ∷ PartTargetTag ∷ MediaSequenceTag ∷ DiscontinuitySequenceTag ∷ DateRangeTag ∷ SkippedTag
    ∷ MapTag ∷ TimeTag ∷ PartTag ∷ DurationTag ∷ RenditionReportTag ∷ HintTag ∷ []

abbrev pub name : Tag → List ℕ
name VersionTag = codes "#EXT-X-VERSION"
name TargetDurationTag = codes "#EXT-X-TARGETDURATION"
name ServerControlTag = codes "#EXT-X-SERVER-CONTROL"
name PartTargetTag = codes "#EXT-X-PART-INF"
name MediaSequenceTag = codes "#EXT-X-MEDIA-SEQUENCE"
name DiscontinuitySequenceTag = codes "#EXT-X-DISCONTINUITY-SEQUENCE"
name DateRangeTag = codes "#EXT-X-DATERANGE"
name SkippedTag = codes "#EXT-X-SKIP"
name MapTag = codes "#EXT-X-MAP"
name TimeTag = codes "#EXT-X-PROGRAM-DATE-TIME"
name PartTag = codes "#EXT-X-PART"
name DurationTag = codes "#EXTINF"
name RenditionReportTag = codes "#EXT-X-RENDITION-REPORT"
name HintTag = codes "#EXT-X-PRELOAD-HINT"

abbrev pub Said : Tag → Type 0
Said VersionTag = ℕ
Said TargetDurationTag = ℕ
Said ServerControlTag = Control
Said PartTargetTag = ℕ
Said MediaSequenceTag = ℕ
Said DiscontinuitySequenceTag = ℕ
Said DateRangeTag = DateRangeLine
Said SkippedTag = Skip
Said MapTag = List ℕ
Said TimeTag = List ℕ
Said PartTag = PartLine
Said DurationTag = ℕ
Said RenditionReportTag = Report
Said HintTag = List ℕ

abbrev pub word : (t : Tag) → Word (Said t)
word VersionTag = count
word TargetDurationTag = count
word ServerControlTag = whole control
word PartTargetTag = whole part_target
word MediaSequenceTag = count
word DiscontinuitySequenceTag = count
word DateRangeTag = date_range
word SkippedTag = whole skip
word MapTag = whole map_field
word TimeTag = rest_of_line
word PartTag = whole part
word DurationTag = whole segment_duration
word RenditionReportTag = whole report
word HintTag = whole hint_field

abbrev pub tag_line : Word ((t : Tag) × Said t)
tag_line = by_name name tags word

-- the tags without a value
pub data Bare : Type 0 where
  BareFirst : Bare
  BareDiscontinuity : Bare
  BareEndList : Bare

abbrev pub bares : List Bare
bares = BareFirst ∷ BareDiscontinuity ∷ BareEndList ∷ []

-- sections 4.4.1.1, 4.4.4.3 and 4.4.3.4
abbrev pub bare_name : Bare → List ℕ
bare_name BareFirst = codes "#EXTM3U"
bare_name BareDiscontinuity = codes "#EXT-X-DISCONTINUITY"
bare_name BareEndList = codes "#EXT-X-ENDLIST"

-- a line that begins with `#` is a tag
abbrev pub is_tag : List ℕ → Bool
is_tag [] = false
is_tag (b ∷ bs) = b == 35

-- whether a text has a colon
abbrev pub has_colon : List ℕ → Bool
has_colon text = is_some (after (codes ":") (until 58 text).1)

-- a URI that is no tag
abbrev pub is_uri_line : List ℕ → Bool
is_uri_line text = is_uri text && not (is_tag text)

abbrev pub uri_line : Word (List ℕ)
uri_line = text_if is_uri_line

abbrev pub Kind : Type 0
Kind = Either (Either ((t : Tag) × Said t) Bare) (List ℕ)

abbrev pub tagged : (t : Tag) → Said t → Line
tagged VersionTag n = Version n
tagged TargetDurationTag n = TargetDuration n
tagged ServerControlTag c = ServerControl c
tagged PartTargetTag n = PartTarget n
tagged MediaSequenceTag n = MediaSequence n
tagged DiscontinuitySequenceTag n = DiscontinuitySequence n
tagged DateRangeTag r = DateRange r
tagged SkippedTag s = Skipped s
tagged MapTag uri = Map uri
tagged TimeTag time = Time time
tagged PartTag p = Part p
tagged DurationTag n = Duration n
tagged RenditionReportTag r = RenditionReport r
tagged HintTag uri = Hint uri

abbrev pub bare : Bare → Line
bare BareFirst = First
bare BareDiscontinuity = Discontinuity
bare BareEndList = EndList

abbrev pub line_of : Kind → Line
line_of (Left (Left p)) = tagged p.0 p.1
line_of (Left (Right b)) = bare b
line_of (Right uri) = Uri uri

abbrev pub kind_of : Line → Kind
kind_of First = Left (Right BareFirst)
kind_of (Version n) = Left (Left (VersionTag, n))
kind_of (TargetDuration n) = Left (Left (TargetDurationTag, n))
kind_of (ServerControl c) = Left (Left (ServerControlTag, c))
kind_of (PartTarget n) = Left (Left (PartTargetTag, n))
kind_of (MediaSequence n) = Left (Left (MediaSequenceTag, n))
kind_of (DiscontinuitySequence n) = Left (Left (DiscontinuitySequenceTag, n))
kind_of (DateRange r) = Left (Left (DateRangeTag, r))
kind_of (Skipped s) = Left (Left (SkippedTag, s))
kind_of Discontinuity = Left (Right BareDiscontinuity)
kind_of (Map uri) = Left (Left (MapTag, uri))
kind_of (Time time) = Left (Left (TimeTag, time))
kind_of (Part p) = Left (Left (PartTag, p))
kind_of (Duration n) = Left (Left (DurationTag, n))
kind_of (Uri uri) = Right uri
kind_of (RenditionReport r) = Left (Left (RenditionReportTag, r))
kind_of (Hint uri) = Left (Left (HintTag, uri))
kind_of EndList = Left (Right BareEndList)

-- a line: a tag with its value, a tag without one, or the URI of a segment
abbrev pub line : Word Line
line = mapped_word line_of kind_of (choice is_tag (choice has_colon tag_line (one_of bare_name bares)) uri_line)

-- the contents of a line, none if it is no line of this profile
abbrev pub line_in : List ℕ → Option Line
line_in text = line.read text

-- the contents of a line with this tag and this value after the colon
abbrev pub said : Tag → List ℕ → Option Line
said t text = (word t).read text >>= λ x. Some (tagged t x)

-- the contents of a line whose tag has this name
abbrev pub said_by : List ℕ → List ℕ → Option Line
said_by tag text = named name tags tag >>= λ t. said t text

-- the contents of a line that is a tag without a value
abbrev pub said_alone : List ℕ → Option Line
said_alone text = named bare_name bares text >>= λ b. Some (bare b)

-- the contents of a line that is no tag
abbrev pub uri_said : List ℕ → Option Line
uri_said text = if is_uri text then Some (Uri text) else None
