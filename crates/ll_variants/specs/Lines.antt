-- The lines of a Multivariant Playlist (sections 4.4.6.1 and 4.4.6.2).
use Rattle.std.specs.Prelude.{ℕ, ◌/◌, ◌%◌, Bool, true, false, List, [], ◌∷◌, ◌++◌, Option, Some, None, codes, decimal}
use Rattle.ll_codecs.specs.declared.track.Picture.{Picture}
use Rattle.ll_variants.specs.declared.rates.Rates.{Rates}

abbrev pub header : List ℕ
header = codes "#EXTM3U\n#EXT-X-VERSION:10\n"

-- `YES` or `NO`
abbrev pub yes_no : Bool → List ℕ
yes_no true = codes "YES"
yes_no false = codes "NO"

-- a rendition without pictures; the first is the one that is played by default
unfoldable pub media_text : Bool → List ℕ → List ℕ
media_text first name =
    codes "#EXT-X-MEDIA:TYPE=AUDIO,GROUP-ID=\"audio\",NAME=\"" ++ (name ++ (codes "\",DEFAULT=" ++ (yes_no first
    ++ (codes ",AUTOSELECT=YES,URI=\"" ++ (name ++ codes "/live.m3u8\"\n")))))

-- a codec after a comma, and codecs with commas between them
abbrev pub further : List (List ℕ) → List ℕ
further [] = []
further (codec ∷ more) = (codes "," ++ codec) ++ further more

abbrev pub joined : List (List ℕ) → List ℕ
joined [] = []
joined (codec ∷ more) = codec ++ further more

-- the size of the pictures
unfoldable pub size_text : Picture → List ℕ
size_text p = codes ",RESOLUTION=" ++ (decimal p.width ++ (codes "x" ++ decimal p.height))

-- how many of them a second has, given in thousandths
unfoldable pub frames_text : ℕ → List ℕ
frames_text n =
    codes ",FRAME-RATE=" ++ (decimal (n / 1000) ++ (codes "." ++ (decimal (n / 100 % 10) ++ (decimal (n / 10 % 10) ++ decimal (n % 10)))))

abbrev pub rate_text : Option ℕ → List ℕ
rate_text None = []
rate_text (Some n) = frames_text n

abbrev pub picture_text : Option Picture → Option ℕ → List ℕ
picture_text None rate = []
picture_text (Some p) rate = size_text p ++ rate_text rate

-- the group of the renditions without pictures
abbrev pub group_text : Bool → List ℕ
group_text true = codes ",AUDIO=\"audio\""
group_text false = []

unfoldable pub rates_text : Rates → List ℕ
rates_text r = codes "#EXT-X-STREAM-INF:BANDWIDTH=" ++ (decimal r.bandwidth ++ (codes ",AVERAGE-BANDWIDTH=" ++ decimal r.average))

unfoldable pub codecs_text : List ℕ → List ℕ
codecs_text codecs = codes ",CODECS=\"" ++ (codecs ++ codes "\"")

unfoldable pub uri_text : List ℕ → List ℕ
uri_text name = codes "\n" ++ (name ++ codes "/live.m3u8\n")
