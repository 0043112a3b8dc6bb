-- The Multivariant Playlist of a channel whose last chain is this, of the renditions that are named.
use Rattle.std.specs.Prelude.{ℕ, ◌+◌, List, [], ◌∷◌, ◌++◌, Option, Some, None, Result, Ok, Err}
use Rattle.ll_codecs.specs.Sections.{SectionValue, section_of}
use Rattle.ll_entry.specs.Chain.{Chain}
use Rattle.ll_settings.specs.Settings.{rendition_named, Configuration}
use Rattle.ll_mp4.specs.declared.fault.StreamFault.{StreamFault}
use Rattle.ll_multivariant.specs.Additions.{additions_of}
use Rattle.ll_multivariant.specs.declared.fault.MultivariantFault.{MultivariantFault}
use Rattle.ll_multivariant.specs.declared.fault.MultivariantFault.TheVariants.{NoRendition, BadInit, NoSegment}
use Rattle.ll_multivariant.specs.declared.naming.NamedSection.{NamedSection}
use Rattle.ll_variants.specs.Playlists.{playlist}
use Rattle.ll_variants.specs.Rates.{rates}
use Rattle.ll_variants.specs.Segments.{segments_of}
use Rattle.ll_variants.specs.declared.segments.Addition.{Addition}
use Rattle.ll_variants.specs.declared.segments.Size.{Size}
use Rattle.ll_variants.specs.declared.stream.Stream.{Stream}

infixl 10 ◌>>=◌
abbrev pub ◌>>=◌ : {A B : Type 0} → Result A MultivariantFault → (A → Result B MultivariantFault) → Result B MultivariantFault
Err fault >>= f = Err fault
Ok x >>= f = f x

abbrev pub found_or : {A : Type 0} → MultivariantFault → Option A → Result A MultivariantFault
found_or fault (Some x) = Ok x
found_or fault None = Err fault

abbrev pub section_or : MultivariantFault → Result SectionValue StreamFault → Result SectionValue MultivariantFault
section_or fault (Ok section) = Ok section
section_or fault (Err other) = Err fault

-- at least one segment
abbrev pub some_or : MultivariantFault → List Size → Result (List Size) MultivariantFault
some_or fault [] = Err fault
some_or fault (s ∷ more) = Ok (s ∷ more)

-- the rendition that is named by the source with this number, with the rates of its finished segments
abbrev pub stream_in : Configuration → List Addition → ℕ → NamedSection → Result Stream MultivariantFault
stream_in c additions number s = do
  rendition ← found_or (NoRendition number) (rendition_named c s.name)
  section ← section_or (BadInit number) (section_of s.init.items)
  segments ← some_or (NoSegment number) (segments_of rendition additions)
  Ok (record { name = s.name; section = section; rates = rates c.target segments })

-- those of all sources, after `before` others, or the first fault
abbrev pub streams_in : Configuration → List Addition → ℕ → List NamedSection → Result (List Stream) MultivariantFault
streams_in c additions before [] = Ok []
streams_in c additions before (s ∷ more) = do
  stream ← stream_in c additions (before + 1) s
  streams ← streams_in c additions (before + 1) more
  Ok (stream ∷ streams)

-- the text, or why there is none
abbrev pub multivariant : Chain → List NamedSection → Result (List ℕ) MultivariantFault
multivariant ch sources = do
  streams ← streams_in ch.settings (additions_of ch.events) 0 sources
  Ok (playlist streams)

-- for private contracts: the renditions after those before
abbrev pub streams_after : List Stream → Result (List Stream) MultivariantFault → Result (List Stream) MultivariantFault
streams_after before (Err fault) = Err fault
streams_after before (Ok streams) = Ok (before ++ streams)
