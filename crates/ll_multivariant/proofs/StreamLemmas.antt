-- The renditions that are named, one after another.
use Rattle.std.proofs.Common.{◌≡◌, ℕ, ◌+◌, List, [], ◌∷◌, ◌++◌, ◌⊎◌, inl, inr, Option, Some, None, Result, Ok, Err, refl, ap, sym, ◌∙◌, append_assoc, append-nil}
use Rattle.ll_settings.specs.Settings.{Configuration, rendition_named}
use Rattle.ll_codecs.specs.Sections.{SectionValue, section_of}
use Rattle.ll_entry.specs.declared.fault.CheckFault.{CheckFault}
use Rattle.ll_mp4.specs.declared.fault.StreamFault.{StreamFault}
use Rattle.ll_multivariant.specs.Faults.{IsBeside}
use Rattle.ll_multivariant.specs.declared.fault.MultivariantFault.TheVariants.{Wrong, NoRendition, BadInit, NoSegment}
use Rattle.ll_variants.specs.Rates.{rates}
use Rattle.ll_variants.specs.Segments.{segments_of}
use Rattle.ll_variants.specs.declared.segments.Size.{Size}
use Rattle.ll_multivariant.specs.Naming.{◌>>=◌, found_or, section_or, some_or, stream_in, streams_after, streams_in}
use Rattle.ll_multivariant.specs.declared.fault.MultivariantFault.{MultivariantFault}
use Rattle.ll_multivariant.specs.declared.naming.NamedSection.{NamedSection}
use Rattle.ll_variants.specs.declared.segments.Addition.{Addition}
use Rattle.ll_variants.specs.declared.stream.Stream.{Stream}

streams-more : (before : List Stream) (stream : Stream) (later : Result (List Stream) MultivariantFault)
    → streams_after before (later >>= (λ streams. Ok (stream ∷ streams))) ≡ streams_after (before ++ stream ∷ []) later
streams-more before stream (Err fault) = refl
streams-more before stream (Ok streams) = ap Ok (sym (append_assoc before (stream ∷ []) streams))

-- one more
pub streams_more : (c : Configuration) (additions : List Addition) (number : ℕ) (before : List Stream) (s : NamedSection) (more : List NamedSection) (stream : Stream)
    → stream_in c additions (number + 1) s ≡ Ok stream
    → streams_after before (streams_in c additions number (s ∷ more)) ≡ streams_after (before ++ stream ∷ []) (streams_in c additions (number + 1) more)
streams_more c additions number before s more stream e =
    ap (λ (r : Result Stream MultivariantFault). streams_after before (r >>= (λ t. streams_in c additions (number + 1) more >>= (λ ts. Ok (t ∷ ts))))) e
    ∙ streams-more before stream (streams_in c additions (number + 1) more)

-- a fault
pub streams_torn : (c : Configuration) (additions : List Addition) (number : ℕ) (before : List Stream) (s : NamedSection) (more : List NamedSection) (fault : MultivariantFault)
    → stream_in c additions (number + 1) s ≡ Err fault → streams_after before (streams_in c additions number (s ∷ more)) ≡ Err fault
streams_torn c additions number before s more fault e =
    ap (λ (r : Result Stream MultivariantFault). streams_after before (r >>= (λ t. streams_in c additions (number + 1) more >>= (λ ts. Ok (t ∷ ts))))) e

-- no more
pub streams_done : (c : Configuration) (additions : List Addition) (number : ℕ) (before : List Stream) → streams_after before (streams_in c additions number []) ≡ Ok before
streams_done c additions number before = ap Ok (append-nil before)

-- none before
pub streams_all : (r : Result (List Stream) MultivariantFault) → streams_after [] r ≡ r
streams_all (Ok streams) = refl
streams_all (Err fault) = refl

-- ---- no fault of a rendition is one of the record

after-segments : (xs : List Size) (number : ℕ) (f : CheckFault) (with_segments : List Size → Stream)
    → (some_or (NoSegment number) xs >>= (λ segments. Ok (with_segments segments))) ≡ Err (Wrong f) → ⊥
after-segments [] number f with_segments h = cc
after-segments (x ∷ xs) number f with_segments h = cc

after-section : (r : Result SectionValue StreamFault) (xs : List Size) (number : ℕ) (f : CheckFault) (with_all : SectionValue → List Size → Stream)
    → (section_or (BadInit number) r >>= (λ section. some_or (NoSegment number) xs >>= (λ segments. Ok (with_all section segments)))) ≡ Err (Wrong f) → ⊥
after-section (Err other) xs number f with_all h = cc
after-section (Ok section) xs number f with_all h = after-segments xs number f (with_all section) h

after-rendition : (o : Option ℕ) (r : Result SectionValue StreamFault) (xs : ℕ → List Size) (number : ℕ) (f : CheckFault) (with_all : SectionValue → List Size → Stream)
    → (found_or (NoRendition number) o >>= (λ rendition. section_or (BadInit number) r >>= (λ section. some_or (NoSegment number) (xs rendition) >>= (λ segments. Ok (with_all section segments)))))
    ≡ Err (Wrong f) → ⊥
after-rendition None r xs number f with_all h = cc
after-rendition (Some rendition) r xs number f with_all h = after-section r (xs rendition) number f with_all h

stream-named : (c : Configuration) (additions : List Addition) (number : ℕ) (s : NamedSection) (f : CheckFault) → stream_in c additions number s ≡ Err (Wrong f) → ⊥
stream-named c additions number s f h =
    after-rendition (rendition_named c s.name) (section_of s.init.items) (λ rendition. segments_of rendition additions) number f
    (λ section segments. record { name = s.name; section = section; rates = rates c.target segments }) h

after-one : (r : Result (List Stream) MultivariantFault) (stream : Stream) (f : CheckFault) → (r ≡ Err (Wrong f) → ⊥)
    → (r >>= (λ streams. Ok (stream ∷ streams))) ≡ Err (Wrong f) → ⊥
after-one (Ok streams) stream f n h = cc
after-one (Err fault) stream f n h = n h

after-both : (r : Result Stream MultivariantFault) (later : Result (List Stream) MultivariantFault) (f : CheckFault) → (r ≡ Err (Wrong f) → ⊥) → (later ≡ Err (Wrong f) → ⊥)
    → (r >>= (λ stream. later >>= (λ streams. Ok (stream ∷ streams)))) ≡ Err (Wrong f) → ⊥
after-both (Ok stream) later f a b h = after-one later stream f b h
after-both (Err fault) later f a b h =
    let is : fault ≡ Wrong f = cc in a (ap Err is)

streams-named : (c : Configuration) (additions : List Addition) (before : ℕ) (sources : List NamedSection) (f : CheckFault) → streams_in c additions before sources ≡ Err (Wrong f) → ⊥
streams-named c additions before [] f h = cc
streams-named c additions before (s ∷ more) f h =
    after-both (stream_in c additions (before + 1) s) (streams_in c additions (before + 1) more) f (stream-named c additions (before + 1) s f)
    (streams-named c additions (before + 1) more f) h

pub beside_other : (fault : MultivariantFault) (f : CheckFault) → IsBeside fault → fault ≡ Wrong f → ⊥
beside_other fault f (inl large) is = cc
beside_other fault f (inr memory) is = cc

pub named_other : (c : Configuration) (additions : List Addition) (sources : List NamedSection) (fault : MultivariantFault) (f : CheckFault)
    → (streams_after [] (streams_in c additions 0 sources) ≡ Err fault) ⊎ IsBeside fault → fault ≡ Wrong f → ⊥
named_other c additions sources fault f (inl e) is =
    streams-named c additions 0 sources f (sym (streams_all (streams_in c additions 0 sources)) ∙ e ∙ ap Err is)
named_other c additions sources fault f (inr beside) is = beside_other fault f beside is
