-- The URIs of segments, parts, Media Initialization Sections and playlists, which are this origin's own choice (rule 8).
use Rattle.std.specs.Prelude.{ℕ, List, ◌++◌, codes, decimal}
use Rattle.ll_line.specs.declared.uri.Uri.{Uri}
use Rattle.ll_line.specs.declared.uri.Uri.TheVariants.{Segment, Part, Map, Rendition, Text}

-- the segment with this Media Sequence Number (rule 8)
unfoldable pub segment_uri : ℕ → List ℕ
segment_uri number = codes "s" ++ (decimal number ++ codes ".m4s")

-- the part with this index in it (rules 7 and 8)
unfoldable pub part_uri : ℕ → ℕ → List ℕ
part_uri number index = codes "s" ++ (decimal number ++ (codes "." ++ (decimal index ++ codes ".m4s")))

-- the Media Initialization Section with this map number (rule 8)
unfoldable pub map_uri : ℕ → List ℕ
map_uri number = codes "init" ++ (decimal number ++ codes ".mp4")

-- the playlist of the rendition with this name, relative to that of another one
unfoldable pub report_uri : List ℕ → List ℕ
report_uri name = codes "../" ++ (name ++ codes "/live.m3u8")

-- a URI as it stands in a line
abbrev pub uri_text : Uri → List ℕ
uri_text (Segment number) = segment_uri number
uri_text (Part number index) = part_uri number index
uri_text (Map number) = map_uri number
uri_text (Rendition name) = report_uri name.now
uri_text (Text text) = text.now
