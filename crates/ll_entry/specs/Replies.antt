-- How a record spells the outcome of a reply, and what a request asks for, in each format.
use Rattle.std.specs.Prelude.{◌≡◌, ◌≤◌, ℕ, List, [], ◌∷◌, ◌++◌, false, Option, Some, None, bytes_eq, codes, if◌then◌else◌, option_map}
use Rattle.ll_attr.specs.Words.{after}
use Rattle.ll_directive.specs.Files.{file_name, media_file}
use Rattle.ll_directive.specs.declared.want.Awaited.{Awaited}
use Rattle.ll_directive.specs.declared.want.Awaited.TheVariants.{Nothing, Segment, Part}
use Rattle.ll_entry.specs.declared.version.Version.{Version}
use Rattle.ll_entry.specs.declared.version.Version.TheVariants.{One, Two}
use Rattle.ll_format.specs.Format.{Format, Word, ◌>>=◌, after_key, beside, one_of, to_end, up_to, whole}
use Rattle.ll_format.specs.Words.{number, text_if}
use Rattle.ll_settings.specs.Names.{is_name}
use Rattle.ll_item.specs.declared.skip_kind.SkipKind.{SkipKind}
use Rattle.ll_item.specs.declared.skip_kind.SkipKind.TheVariants.{Yes, V2}
use Rattle.ll_item.specs.declared.what.What.{What}
use Rattle.ll_item.specs.declared.what.What.TheVariants as what
use Rattle.ll_verdict.specs.declared.reply.Outcome.{Outcome}
use Rattle.ll_verdict.specs.declared.reply.Outcome.TheVariants.{Text, Media, NotFound, TooFar, Busy, Timeout}

-- the largest number of a record
abbrev pub most : ℕ
most = 18446744073709551615

-- a number below 2^64 without leading zeros
abbrev pub count : Word ℕ
count = number most

abbrev pub name : Word (List ℕ)
name = text_if is_name

abbrev pub or_dash_text : {A : Type 0} → Word A → Option A → List ℕ
or_dash_text w None = codes "-"
or_dash_text w (Some x) = w.print x

abbrev pub WithinDash : {A : Type 0} → Word A → Option A → Type 0
WithinDash w None = Unit {0}
WithinDash w (Some x) = w.Within x × (bytes_eq (w.print x) (codes "-") ≡ false)

-- the files of media whose names are read again
abbrev pub FileWithin : What → Type 0
FileWithin what.Playlist = ⊥
FileWithin (what.Segment number) = number ≤ most
FileWithin (what.Part number index) = (number ≤ most) × (index ≤ most)
FileWithin (what.Init number) = number ≤ most

-- the name of a file of media: `s<n>.m4s`, `s<n>.<index>.m4s` or `init<n>.mp4`
abbrev pub file : Word What
file = record { print = file_name; read = media_file; Within = FileWithin }

-- a word, or `-` for none
abbrev pub or_dash : {A : Type 0} → Word A → Word (Option A)
or_dash w = record {
  print = or_dash_text w;
  read = λ text. if bytes_eq text (codes "-") then Some None else (w.read text >>= λ x. Some (Some x));
  Within = WithinDash w;
}

abbrev pub kind_name : SkipKind → List ℕ
kind_name Yes = codes "YES"
kind_name V2 = codes "v2"

-- a kind of delta update: `YES` or `v2`
abbrev pub kind : Word SkipKind
kind = one_of kind_name (Yes ∷ V2 ∷ [])

-- a delta update of a kind, or `-` for a full playlist
abbrev pub update : Word (Option SkipKind)
update = or_dash kind

-- which delta update a request asked for that is recorded with `skip`: in format 1 one for `v2` was answered as one for `YES`
abbrev pub asked_for : Version → Option SkipKind → Option SkipKind
asked_for One skip = option_map (λ kind. Yes) skip
asked_for Two skip = skip

-- What a record keeps of the outcome of a reply: in format 1 not which delta update a playlist is.
abbrev pub told_in : Version → Outcome → Outcome
told_in One (Text n skip) = Text n None
told_in Two (Text n skip) = Text n skip
told_in version (Media n size) = Media n size
told_in version NotFound = NotFound
told_in version TooFar = TooFar
told_in version Busy = Busy
told_in version Timeout = Timeout

-- a word up to the next space, and what follows the space
abbrev pub spaced : {A B : Type 0} → Format A → Format B → Format (A × B)
spaced f g = beside f (after_key (codes " ") g)

-- `N`, of a playlist of which no more is said
abbrev pub count_alone : Word (ℕ × Option SkipKind)
count_alone = record {
  print = λ p. count.print p.0;
  read = λ text. count.read text >>= λ n. Some (n, None);
  Within = λ p. count.Within p.0 × (p.1 ≡ None);
}

-- how many items a playlist comes after, and which delta update it is: `N` in format 1, `N UPDATE` in format 2
abbrev pub playlist : Version → Word (ℕ × Option SkipKind)
playlist One = count_alone
playlist Two = whole (spaced (up_to 32 count) (to_end update))

-- nothing that can be said
abbrev pub no_word : {A : Type 0} → Word A
no_word = record { print = λ x. []; read = λ text. None; Within = λ x. ⊥ }

-- how many items media comes after, and how many bytes it has: format 1 has no media, it is `N LENGTH` in format 2
abbrev pub counts : Version → Word (ℕ × ℕ)
counts One = no_word
counts Two = whole (spaced (up_to 32 count) (to_end count))

abbrev pub outcome_text : Version → Outcome → List ℕ
outcome_text version (Text n skip) = codes "text " ++ (playlist version).print (n, skip)
outcome_text version (Media n size) = codes "media " ++ (counts version).print (n, size)
outcome_text version NotFound = codes "notfound"
outcome_text version TooFar = codes "bad TooFar"
outcome_text version Busy = codes "busy"
outcome_text version Timeout = codes "timeout"

abbrev pub OutcomeWithin : Version → Outcome → Type 0
OutcomeWithin version (Text n skip) = (playlist version).Within (n, skip)
OutcomeWithin version (Media n size) = (counts version).Within (n, size)
OutcomeWithin version NotFound = Unit
OutcomeWithin version TooFar = Unit
OutcomeWithin version Busy = Unit
OutcomeWithin version Timeout = Unit

abbrev pub with_key : {A : Type 0} → Option (List ℕ) → (List ℕ → A) → A → A
with_key (Some text) read other = read text
with_key None read other = other

-- `text N` or `text N UPDATE`, or `media N LENGTH`
abbrev pub counted_reply : Version → List ℕ → Option Outcome
counted_reply version text =
    with_key (after (codes "text ") text) (λ rest. (playlist version).read rest >>= λ p. Some (Text p.0 p.1))
    (with_key (after (codes "media ") text) (λ rest. (counts version).read rest >>= λ p. Some (Media p.0 p.1)) None)

-- `text N` or `text N UPDATE`; `media N LENGTH`; `notfound`, `bad TooFar`, `busy` or `timeout`
abbrev pub outcome : Version → Word Outcome
outcome version = record {
  print = outcome_text version;
  read = λ text.
      if bytes_eq text (codes "notfound") then Some NotFound
      else if bytes_eq text (codes "bad TooFar") then Some TooFar
      else if bytes_eq text (codes "busy") then Some Busy
      else if bytes_eq text (codes "timeout") then Some Timeout
      else counted_reply version text;
  Within = OutcomeWithin version;
}

abbrev pub or_held_text : Version → Option Outcome → List ℕ
or_held_text version None = codes "held"
or_held_text version (Some o) = outcome_text version o

abbrev pub HeldWithin : Version → Option Outcome → Type 0
HeldWithin version None = Unit
HeldWithin version (Some o) = OutcomeWithin version o

-- the outcome of a request at once, or `held`
abbrev pub or_held : Version → Word (Option Outcome)
or_held version = record {
  print = or_held_text version;
  read = λ text. if bytes_eq text (codes "held") then Some None else ((outcome version).read text >>= λ o. Some (Some o));
  Within = HeldWithin version;
}

-- what a request with these numbers awaits: a part of no segment is nothing that can be awaited
abbrev pub awaited_of : Option ℕ → Option ℕ → Option Awaited
awaited_of None None = Some Nothing
awaited_of None (Some part) = None
awaited_of (Some msn) None = Some (Segment msn)
awaited_of (Some msn) (Some part) = Some (Part msn part)
