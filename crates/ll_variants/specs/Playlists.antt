-- The text of a Multivariant Playlist (section 4.4.6).
use Rattle.std.specs.Prelude.{◌≡◌, ℕ, ◌+◌, ◌&&◌, Any, Bool, true, false, not, List, [], ◌∷◌, ◌++◌, bytes_eq, is_none, max, if◌then◌else◌}
use Rattle.std.specs.List.{list_any}
use Rattle.ll_codecs.specs.Sections.{first_picture}
use Rattle.ll_codecs.specs.declared.track.CodecTrack.{CodecTrack}
use Rattle.ll_variants.specs.Lines.{codecs_text, group_text, header, joined, media_text, picture_text, rates_text, uri_text}
use Rattle.ll_variants.specs.Rates.{AreLarge}
use Rattle.ll_variants.specs.declared.rates.Rates.{Rates}
use Rattle.ll_variants.specs.declared.stream.Stream.{Stream}

-- whether a rendition has no pictures, or some
abbrev pub is_sound : Stream → Bool
is_sound s = is_none (first_picture s.section.tracks)

abbrev pub has_pictures : Stream → Bool
has_pictures s = not (is_sound s)

-- whether those without pictures are played with the others: there are both
abbrev pub is_grouped : List Stream → Bool
is_grouped streams = list_any is_sound streams && list_any has_pictures streams

-- ---- how fast a variant is

abbrev pub larger : Rates → Rates → Rates
larger a b = record { bandwidth = max a.bandwidth b.bandwidth; average = max a.average b.average }

-- the largest rates of those without pictures, and no less than before
abbrev pub sound_rates : Rates → List Stream → Rates
sound_rates before [] = before
sound_rates before (s ∷ more) = sound_rates (if is_sound s then larger before s.rates else before) more

abbrev pub no_rates : Rates
no_rates = record { bandwidth = 0; average = 0 }

abbrev pub sum_rates : Rates → Rates → Rates
sum_rates a b = record { bandwidth = a.bandwidth + b.bandwidth; average = a.average + b.average }

-- a variant's rates: with the largest of those without pictures, if these are played with it
abbrev pub variant_rates : Bool → List Stream → Stream → Rates
variant_rates true streams s = sum_rates s.rates (sound_rates no_rates streams)
variant_rates false streams s = s.rates

-- a rendition is written as a variant, and its rates are too large for that
abbrev pub IsLargeVariant : Bool → List Stream → Stream → Type 0
IsLargeVariant grouped streams s = ((grouped && is_sound s) ≡ false) × AreLarge (variant_rates grouped streams s)

-- there is one of these
abbrev pub HasLargeVariant : List Stream → Type 0
HasLargeVariant streams = Any (IsLargeVariant (is_grouped streams) streams) streams

-- ---- its codecs

-- a codec after others, unless it is one of them
abbrev pub with_codec : List (List ℕ) → List ℕ → List (List ℕ)
with_codec codecs codec = if list_any (bytes_eq codec) codecs then codecs else codecs ++ codec ∷ []

abbrev pub with_tracks : List (List ℕ) → List CodecTrack → List (List ℕ)
with_tracks codecs [] = codecs
with_tracks codecs (track ∷ more) = with_tracks (with_codec codecs track.codec) more

abbrev pub with_sounds : List (List ℕ) → List Stream → List (List ℕ)
with_sounds codecs [] = codecs
with_sounds codecs (s ∷ more) = with_sounds (if is_sound s then with_tracks codecs s.section.tracks else codecs) more

abbrev pub variant_codecs : Bool → List Stream → Stream → List (List ℕ)
variant_codecs true streams s = with_sounds (with_tracks [] s.section.tracks) streams
variant_codecs false streams s = with_tracks [] s.section.tracks

-- ---- all lines

-- a variant and the URI of its playlist
abbrev pub variant_text : Bool → List Stream → Stream → List ℕ
variant_text grouped streams s =
    rates_text (variant_rates grouped streams s) ++ (codecs_text (joined (variant_codecs grouped streams s))
    ++ (picture_text (first_picture s.section.tracks) s.section.rate ++ (group_text grouped ++ uri_text s.name)))

-- each is a variant, but those without pictures that are played with others
abbrev pub variants_text : Bool → List Stream → List Stream → List ℕ
variants_text grouped streams [] = []
variants_text grouped streams (s ∷ more) =
    (if grouped && is_sound s then [] else variant_text grouped streams s) ++ variants_text grouped streams more

-- those without pictures, of which the first is the default
abbrev pub sounds_text : Bool → List Stream → List ℕ
sounds_text first [] = []
sounds_text first (s ∷ more) =
    if is_sound s then media_text first s.name ++ sounds_text false more else sounds_text first more

abbrev pub media_by : Bool → List Stream → List ℕ
media_by true streams = sounds_text true streams
media_by false streams = []

abbrev pub playlist_by : Bool → List Stream → List ℕ
playlist_by grouped streams = header ++ (media_by grouped streams ++ variants_text grouped streams streams)

-- the Multivariant Playlist of these renditions, in this order
abbrev pub playlist : List Stream → List ℕ
playlist streams = playlist_by (is_grouped streams) streams
