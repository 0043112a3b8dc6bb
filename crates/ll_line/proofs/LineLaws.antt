-- The laws of lines, put together as the lines are.
use Rattle.std.proofs.Common.{◌≡◌, ℕ, ◌<◌, ◌^◌, ◌++◌, not, List, [], ◌∷◌, Bool, true, false, Option, Some, None, refl, ap, arith, ◌∙◌, codes}
use Rattle.std.proofs.lemmas.Bool.{and_parts}
use Rattle.std.specs.List.{list_all}
use Rattle.std.specs.Option.{is_some}
use Rattle.ll_attr.specs.Words.{after}
use Rattle.ll_format.specs.Format.{◌>>=◌, Either, Left, Right, Where, until, to_end, beside, after_key, quoted, optional, named, one_of, either_text, either_by}
use Rattle.ll_format.specs.Words.{duration, quotable, uri, is_uri, is_rest, rest_of_line, is_line_byte}
use Rattle.ll_format.proofs.FormatLaws.{WordLaws, FormatLaws, until_again, up_to-laws, to_end-laws, beside-laws, after_key-laws, before_key-laws, quoted-laws, flag-laws, optional-laws, mapped-laws, whole-laws, mapped_word-laws, tested-laws, one_of-laws, IsNamed, by_name-laws, choice-laws}
use Rattle.ll_format.proofs.SeparatedLaws.{separated-laws, separated-lacks}
use Rattle.ll_format.proofs.WordLaws.{number-laws, duration-laws, uri-laws, quotable-laws, rest_of_line-laws, text_if-laws, number-lacks, duration-lacks, uri-lacks, quotable-lacks}
use Rattle.ll_line.specs.Formats.{largest_number, count, field, control_from, control, range_from, text_or_none, text_or_empty, date_range_fields, is_attribute_list, skip_from, skip, part_from, part, segment_duration, report_from, report, Tag, VersionTag, TargetDurationTag, ServerControlTag, PartTargetTag, MediaSequenceTag, DiscontinuitySequenceTag, DateRangeTag, SkippedTag, MapTag, TimeTag, PartTag, DurationTag, RenditionReportTag, HintTag, tags, name, Said, word, tag_line, Bare, BareFirst, BareDiscontinuity, BareEndList, bares, bare_name, is_tag, has_colon, is_uri_line, uri_line, Kind, tagged, line_of, kind_of, line, said, said_by}
use Rattle.ll_line.specs.Line.{DateRangeLine, Line, First, Version, TargetDuration, ServerControl, PartTarget, MediaSequence, DiscontinuitySequence, DateRange, Skipped, Discontinuity, Map, Time, Part, Duration, Uri, RenditionReport, Hint, EndList}

in_word : largest_number < 2 ^ 64
in_word = omega arith

count-laws : WordLaws count
count-laws = number-laws largest_number in_word

count-field : (key : List ℕ) → list_all is_line_byte key ≡ true → FormatLaws (field key count)
count-field key on = after_key-laws key on (up_to-laws 44 count-laws (λ n small. number-lacks 44 largest_number n refl in_word small))

duration-field : (key : List ℕ) → list_all is_line_byte key ≡ true → FormatLaws (field key duration)
duration-field key on = after_key-laws key on (up_to-laws 44 duration-laws (λ n small. duration-lacks 44 n refl small))

quoted_uri : (key : List ℕ) → list_all is_line_byte key ≡ true → FormatLaws (after_key key (quoted uri))
quoted_uri key on = after_key-laws key on (quoted-laws uri-laws uri-lacks)

control-laws : FormatLaws control
control-laws =
    mapped-laws control_from (λ c. (c.hold_back, (c.skip_until, c.skips_date_ranges))) (λ p h. refl) (λ c. refl)
    (beside-laws (duration-field (codes "CAN-BLOCK-RELOAD=YES,PART-HOLD-BACK=") refl) (beside-laws (duration-field (codes ",CAN-SKIP-UNTIL=") refl) (flag-laws (codes ",CAN-SKIP-DATERANGES=YES") refl)))

control-ends : (h s : ℕ) (d : Bool) → control.ends (control_from (h, (s, d))) [] ≡ true
control-ends h s true = refl
control-ends h s false = refl

-- attributes are none or some
attributes_there : (more : Option (List ℕ)) → Where (λ text. is_rest text ≡ true) more → text_or_none (text_or_empty more) ≡ more
attributes_there None h = refl
attributes_there (Some []) h = absurd cc
attributes_there (Some (b ∷ bs)) h = refl

attributes_back : (text : List ℕ) → text_or_empty (text_or_none text) ≡ text
attributes_back [] = refl
attributes_back (b ∷ bs) = refl

range-laws : FormatLaws date_range_fields
range-laws =
    mapped-laws range_from (λ r. (r.id, text_or_none r.attributes)) (λ p h. ap (λ more. (p.0, more)) (attributes_there p.1 h.1))
    (λ r. ap (λ text. let r : DateRangeLine = record { id = r.id; attributes = text } in r) (attributes_back r.attributes))
    (beside-laws (after_key-laws (codes "ID=\"") refl (quoted-laws quotable-laws quotable-lacks)) (optional-laws (codes ",") refl (to_end-laws rest_of_line-laws)))

range-ends : (id : List ℕ) (more : Option (List ℕ)) → (beside (after_key (codes "ID=\"") (quoted quotable)) (optional (codes ",") (to_end rest_of_line))).ends (id, more) [] ≡ true
range-ends id None = refl
range-ends id (Some text) = refl

skip-laws : FormatLaws skip
skip-laws =
    mapped-laws skip_from (λ s. (s.count, s.removed)) (λ p h. refl) (λ s. refl)
    (beside-laws (count-field (codes "SKIPPED-SEGMENTS=") refl)
    (optional-laws (codes ",RECENTLY-REMOVED-DATERANGES=\"") refl (quoted-laws (separated-laws 9 refl refl) (λ ids h. separated-lacks 9 ids refl h))))

skip-ends : (n : ℕ) (r : Option (List (List ℕ))) → skip.ends (skip_from (n, r)) [] ≡ true
skip-ends n (Some ids) = refl
skip-ends n None = refl

part-laws : FormatLaws part
part-laws =
    mapped-laws part_from (λ p. (p.duration, (p.uri, p.independent))) (λ p h. refl) (λ p. refl)
    (beside-laws (duration-field (codes "DURATION=") refl) (beside-laws (quoted_uri (codes ",URI=\"") refl) (flag-laws (codes ",INDEPENDENT=YES") refl)))

part-ends : (d : ℕ) (u : List ℕ) (i : Bool) → part.ends (part_from (d, (u, i))) [] ≡ true
part-ends d u true = refl
part-ends d u false = refl

segment_duration-laws : FormatLaws segment_duration
segment_duration-laws = before_key-laws (codes ",") refl (up_to-laws 44 duration-laws (λ n small. duration-lacks 44 n refl small))

report-laws : FormatLaws report
report-laws =
    mapped-laws report_from (λ r. (r.uri, (r.number, r.index))) (λ p h. refl) (λ r. refl)
    (beside-laws (quoted_uri (codes "URI=\"") refl) (beside-laws (count-field (codes ",LAST-MSN=") refl) (count-field (codes ",LAST-PART=") refl)))

word-laws : (t : Tag) → WordLaws (word t)
word-laws VersionTag = count-laws
word-laws TargetDurationTag = count-laws
word-laws ServerControlTag = whole-laws control-laws (λ c. control-ends c.hold_back c.skip_until c.skips_date_ranges)
word-laws PartTargetTag = whole-laws (duration-field (codes "PART-TARGET=") refl) (λ n. refl)
word-laws MediaSequenceTag = count-laws
word-laws DiscontinuitySequenceTag = count-laws
word-laws DateRangeTag = tested-laws is_attribute_list (whole-laws range-laws (λ r. range-ends r.id (text_or_none r.attributes)))
word-laws SkippedTag = whole-laws skip-laws (λ s. skip-ends s.count s.removed)
word-laws MapTag = whole-laws (quoted_uri (codes "URI=\"") refl) (λ x. refl)
word-laws TimeTag = rest_of_line-laws
word-laws PartTag = whole-laws part-laws (λ p. part-ends p.duration p.uri p.independent)
word-laws DurationTag = whole-laws segment_duration-laws (λ n. refl)
word-laws RenditionReportTag = whole-laws report-laws (λ r. refl)
word-laws HintTag = whole-laws (quoted_uri (codes "TYPE=PART,URI=\"") refl) (λ x. refl)

named-laws : (t : Tag) → IsNamed name tags t
named-laws VersionTag = (refl, refl, refl)
named-laws TargetDurationTag = (refl, refl, refl)
named-laws ServerControlTag = (refl, refl, refl)
named-laws PartTargetTag = (refl, refl, refl)
named-laws MediaSequenceTag = (refl, refl, refl)
named-laws DiscontinuitySequenceTag = (refl, refl, refl)
named-laws DateRangeTag = (refl, refl, refl)
named-laws SkippedTag = (refl, refl, refl)
named-laws MapTag = (refl, refl, refl)
named-laws TimeTag = (refl, refl, refl)
named-laws PartTag = (refl, refl, refl)
named-laws DurationTag = (refl, refl, refl)
named-laws RenditionReportTag = (refl, refl, refl)
named-laws HintTag = (refl, refl, refl)

tag_line-laws : WordLaws tag_line
tag_line-laws = by_name-laws {word = word} name tags named-laws word-laws

bare_found : (b : Bare) → named bare_name bares (bare_name b) ≡ Some b
bare_found BareFirst = refl
bare_found BareDiscontinuity = refl
bare_found BareEndList = refl

bare_inside : (b : Bare) → list_all is_line_byte (bare_name b) ≡ true
bare_inside BareFirst = refl
bare_inside BareDiscontinuity = refl
bare_inside BareEndList = refl

-- a colon stands after the name of a tag, and none in a tag alone
colon_there : (p : (t : Tag) × Said t) → has_colon (tag_line.print p) ≡ true
colon_there p = ap (λ (cut : List ℕ × List ℕ). is_some (after (codes ":") cut.1)) (until_again 58 (name p.0) (58 ∷ (word p.0).print p.1) (named-laws p.0).1 refl)

no_colon : (b : Bare) → has_colon (bare_name b) ≡ false
no_colon BareFirst = refl
no_colon BareDiscontinuity = refl
no_colon BareEndList = refl

begins : (t : Tag) (text : List ℕ) → is_tag (name t ++ text) ≡ true
begins VersionTag text = refl
begins TargetDurationTag text = refl
begins ServerControlTag text = refl
begins PartTargetTag text = refl
begins MediaSequenceTag text = refl
begins DiscontinuitySequenceTag text = refl
begins DateRangeTag text = refl
begins SkippedTag text = refl
begins MapTag text = refl
begins TimeTag text = refl
begins PartTag text = refl
begins DurationTag text = refl
begins RenditionReportTag text = refl
begins HintTag text = refl

-- a tag begins with `#`
tag_there : (x : Either ((t : Tag) × Said t) Bare) → is_tag (either_text tag_line (one_of bare_name bares) x) ≡ true
tag_there (Left p) = begins p.0 (58 ∷ (word p.0).print p.1)
tag_there (Right BareFirst) = refl
tag_there (Right BareDiscontinuity) = refl
tag_there (Right BareEndList) = refl

is_no : (b : Bool) → not b ≡ true → b ≡ false
is_no false h = refl
is_no true h = absurd cc

uri_parts : (text : List ℕ) → is_uri_line text ≡ true → (is_uri text ≡ true) × (is_tag text ≡ false)
uri_parts text h =
    let p = and_parts (is_uri text) (not (is_tag text)) h in
    (p.0, is_no (is_tag text) p.1)

uri_line-laws : WordLaws uri_line
uri_line-laws = text_if-laws is_uri_line (λ text h. uri-laws.inside text (uri_parts text h).0)

there_by : (t : Tag) (x : Said t) → kind_of (tagged t x) ≡ Left (Left (t, x))
there_by VersionTag x = refl
there_by TargetDurationTag x = refl
there_by ServerControlTag x = refl
there_by PartTargetTag x = refl
there_by MediaSequenceTag x = refl
there_by DiscontinuitySequenceTag x = refl
there_by DateRangeTag x = refl
there_by SkippedTag x = refl
there_by MapTag x = refl
there_by TimeTag x = refl
there_by PartTag x = refl
there_by DurationTag x = refl
there_by RenditionReportTag x = refl
there_by HintTag x = refl

there : (k : Kind) → kind_of (line_of k) ≡ k
there (Left (Left p)) = there_by p.0 p.1
there (Left (Right BareFirst)) = refl
there (Left (Right BareDiscontinuity)) = refl
there (Left (Right BareEndList)) = refl
there (Right text) = refl

back : (l : Line) → line_of (kind_of l) ≡ l
back First = refl
back Discontinuity = refl
back EndList = refl
back (Version x) = refl
back (TargetDuration x) = refl
back (ServerControl x) = refl
back (PartTarget x) = refl
back (MediaSequence x) = refl
back (DiscontinuitySequence x) = refl
back (DateRange x) = refl
back (Skipped x) = refl
back (Map x) = refl
back (Time x) = refl
back (Part x) = refl
back (Duration x) = refl
back (Uri x) = refl
back (RenditionReport x) = refl
back (Hint x) = refl

pub line-laws : WordLaws line
line-laws =
    mapped_word-laws line_of kind_of there back
    (choice-laws is_tag (λ x h. tag_there x) (λ text h. (uri_parts text h).1)
    (choice-laws has_colon (λ p h. colon_there p) (λ b h. no_colon b) tag_line-laws (one_of-laws bare_name bares bare_found bare_inside))
    uri_line-laws)

abbrev pair_of : (t : Tag) → Said t → Option ((t : Tag) × Said t)
pair_of t x = Some (t, x)

abbrev as_tag : (t : Tag) × Said t → Either ((t : Tag) × Said t) Bare
as_tag p = Left p

abbrev as_kind : Either ((t : Tag) × Said t) Bare → Kind
as_kind k = Left k

said_as : (t : Tag) (o : Option (Said t))
    → ((((o >>= λ x. pair_of t x) >>= λ p. Some (as_tag p)) >>= λ k. Some (as_kind k)) >>= λ k. Some (line_of k)) ≡ (o >>= λ x. Some (tagged t x))
said_as t (Some x) = refl
said_as t None = refl

said_named : (o : Option Tag) (text : List ℕ)
    → ((((o >>= λ t. (word t).read text >>= λ x. pair_of t x) >>= λ p. Some (as_tag p)) >>= λ k. Some (as_kind k)) >>= λ k. Some (line_of k)) ≡ (o >>= λ t. said t text)
said_named None text = refl
said_named (Some t) text = said_as t ((word t).read text)

-- a tag is read by where its first colon stands
pub tag_read : (text tag rest more : List ℕ) → is_tag text ≡ true → until 58 text ≡ (tag, rest) → after (codes ":") rest ≡ Some more
    → line.read text ≡ said_by tag more
tag_read text tag rest more is e k =
    ap (λ b. either_by b (either_by (has_colon text) (tag_line.read text) (named bare_name bares text)) (uri_line.read text) >>= λ k. Some (line_of k)) is
    ∙ ap (λ (cut : List ℕ × List ℕ). ((either_by (is_some (after (codes ":") cut.1))
    (after (codes ":") cut.1 >>= λ said. named name tags cut.0 >>= λ t. (word t).read said >>= λ x. pair_of t x) (named bare_name bares text)) >>= λ k. Some (as_kind k)) >>= λ k. Some (line_of k)) e
    ∙ ap (λ o. ((either_by (is_some o) (o >>= λ said. named name tags tag >>= λ t. (word t).read said >>= λ x. pair_of t x) (named bare_name bares text)) >>= λ k. Some (as_kind k)) >>= λ k. Some (line_of k)) k
    ∙ said_named (named name tags tag) more
