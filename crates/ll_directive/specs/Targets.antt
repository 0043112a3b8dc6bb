-- What the target of a player's request asks for (section 6.2.5 of draft-pantos-hls-rfc8216bis).
use Rattle.std.specs.Prelude.{◌≡◌, ℕ, List, [], ◌∷◌, Bool, true, false, ◌&&◌, ◌||◌, ◌==◌, not, Option, Some, None, Result, Ok, Err, if◌then◌else◌, ok_or, option_and_then, option_map, map, filter, length, nat_le, bytes_eq, codes}
use Rattle.std.specs.Char.{is_ascii_graphic}
use Rattle.std.specs.List.{list_all, before_first, after_first}
use Rattle.std.specs.Option.{option_or}
use Rattle.std.specs.Str.{str_eq_ignore_ascii_case}
use Rattle.form_urlencoded.specs.Form.{parse}
use Rattle.ll_attr.specs.Numbers.{number_in}
use Rattle.ll_attr.specs.Words.{pieces_at, after}
use Rattle.ll_settings.specs.Names.{is_name}
use Rattle.ll_item.specs.declared.skip_kind.SkipKind.{SkipKind}
use Rattle.ll_item.specs.declared.skip_kind.SkipKind.TheVariants.{Yes, V2}
use Rattle.ll_directive.specs.Files.{file_in, is_playlist}
use Rattle.ll_directive.specs.declared.want.Awaited.{Awaited}
use Rattle.ll_directive.specs.declared.want.Awaited.TheVariants.{Nothing, Segment, Part}
use Rattle.ll_item.specs.declared.what.What.{What}
use Rattle.ll_item.specs.declared.what.What.TheVariants as what
use Rattle.ll_directive.specs.declared.fault.TargetFault.{TargetFault}
use Rattle.ll_directive.specs.declared.fault.TargetFault.TheVariants.{BadTarget, NotFound, BadMsn, BadPart, BadSkip, Double, PartAlone, Memory}

pub record WantValue : Type 0 where
  -- the names in the path
  pub channel : List ℕ
  pub rendition : List ℕ
  -- the file that it is for
  pub what : What
  pub awaited : Awaited
  -- the delta update that it is for; none for the full playlist and for media
  pub skip : Option SkipKind

-- what a request for media waits for, if it waits: a part, until it is there
abbrev pub awaits : What → Awaited
awaits what.Playlist = Nothing
awaits (what.Segment number) = Nothing
awaits (what.Part number index) = Part number index
awaits (what.Init number) = Nothing

-- a request for media has no directives
abbrev pub IsPlain : WantValue → Type 0
IsPlain w = is_playlist w.what ≡ false → (w.awaited ≡ awaits w.what) × (w.skip ≡ None)

abbrev pub awaited_by : Bool → Awaited → What → Awaited
awaited_by true awaited file = awaited
awaited_by false awaited file = awaits file

-- what a request waits for, whatever it is for
abbrev pub awaited_in : WantValue → Awaited
awaited_in w = awaited_by (is_playlist w.what) w.awaited w.what

-- a request for media of a rendition
abbrev pub media_want : List ℕ → List ℕ → What → WantValue
media_want channel rendition what = record { channel = channel; rendition = rendition; what = what; awaited = awaits what; skip = None }

infixl 10 ◌>>=◌
abbrev pub ◌>>=◌ : {A B : Type 0} → Result A TargetFault → (A → Result B TargetFault) → Result B TargetFault
Err fault >>= f = Err fault
Ok x >>= f = f x

-- ---- the path

-- 0x21 to 0x7E, but no `#`
abbrev pub is_target_byte : ℕ → Bool
is_target_byte b = is_ascii_graphic b && not (b == 35)

abbrev pub is_question : ℕ → Bool
is_question b = b == 63

abbrev pub is_slash : ℕ → Bool
is_slash b = b == 47

abbrev pub is_colon : ℕ → Bool
is_colon b = b == 58

-- `http` or `https`, each letter in either case
abbrev pub is_scheme : List ℕ → Bool
is_scheme text = str_eq_ignore_ascii_case text (codes "http") || str_eq_ignore_ascii_case text (codes "https")

-- what follows `http://` or `https://`
abbrev pub after_scheme : List ℕ → Option (List ℕ)
after_scheme front = if is_scheme (before_first is_colon front) then after (codes "//") (after_first is_colon front) else None

-- what follows the slash that ends an authority of one or more bytes; nothing if the authority is all there is
abbrev pub after_authority : List ℕ → Option (List ℕ)
after_authority text = if nat_le 1 (length (before_first is_slash text)) then Some (after_first is_slash text) else None

-- the path without its first slash; `front` is what precedes a target's first question mark
abbrev pub path_of : List ℕ → Option (List ℕ)
path_of front = option_or (after (codes "/") front) (option_and_then after_authority (after_scheme front))

-- the path without its first slash, if the target has the form of one
abbrev pub path_in : List ℕ → Option (List ℕ)
path_in target = if list_all is_target_byte target then path_of (before_first is_question target) else None

-- the names of the channel and the rendition, and the file, in `CHANNEL/RENDITION/FILE`, given as its parts between slashes
abbrev pub names_in : List (List ℕ) → Option (List ℕ × (List ℕ × What))
names_in (channel ∷ rendition ∷ file ∷ []) =
    if is_name channel && is_name rendition then option_map (λ what. (channel, (rendition, what))) (file_in file) else None
names_in other = None

-- ---- the query

-- the values of the pairs with this name
abbrev pub values_of : List ℕ → List (List ℕ × List ℕ) → List (List ℕ)
values_of name pairs = map (λ pair. pair.1) (filter (λ pair. bytes_eq pair.0 name) pairs)

-- what each of the values means, if all of them mean something
abbrev pub each : {A : Type 0} → (List ℕ → Option A) → List (List ℕ) → Option (List A)
each read [] = Some []
each read (value ∷ more) = option_and_then (λ x. option_map (λ xs. x ∷ xs) (each read more)) (read value)

abbrev pub skip_in : List ℕ → Option SkipKind
skip_in value = if bytes_eq value (codes "YES") then Some Yes else if bytes_eq value (codes "v2") then Some V2 else None

abbrev pub at_most_one : {A : Type 0} → List A → Result (Option A) TargetFault
at_most_one [] = Ok None
at_most_one (x ∷ []) = Ok (Some x)
at_most_one (x ∷ y ∷ more) = Err Double

abbrev pub awaited_of : Option ℕ → Option ℕ → Result Awaited TargetFault
awaited_of None None = Ok Nothing
awaited_of None (Some part) = Err PartAlone
awaited_of (Some msn) None = Ok (Segment msn)
awaited_of (Some msn) (Some part) = Ok (Part msn part)

-- what the values of the three directives ask for; None stands for values of which one means nothing
abbrev pub directives_of : Option (List ℕ) → Option (List ℕ) → Option (List SkipKind) → Result (Awaited × Option SkipKind) TargetFault
directives_of msns parts skips = do
  msns ← ok_or msns BadMsn
  parts ← ok_or parts BadPart
  skips ← ok_or skips BadSkip
  msn ← at_most_one msns
  part ← at_most_one parts
  skip ← at_most_one skips
  awaited ← awaited_of msn part
  Ok (awaited, skip)

-- what a query with these pairs asks for
abbrev pub directives_in : List (List ℕ × List ℕ) → Result (Awaited × Option SkipKind) TargetFault
directives_in pairs =
    directives_of (each (number_in 20) (values_of (codes "_HLS_msn") pairs))
    (each (number_in 20) (values_of (codes "_HLS_part") pairs))
    (each skip_in (values_of (codes "_HLS_skip") pairs))

-- ---- the whole

-- what a request asks of a file by its query; that of media isn't read
abbrev pub directives_for : What → List (List ℕ × List ℕ) → Result (Awaited × Option SkipKind) TargetFault
directives_for what pairs = if is_playlist what then directives_in pairs else Ok (awaits what, None)

-- what a target asks for, or its first fault
abbrev pub want_in : List ℕ → Result WantValue TargetFault
want_in target = do
  path ← ok_or (path_in target) BadTarget
  names ← ok_or (names_in (pieces_at 47 path)) NotFound
  directives ← directives_for names.1.1 (parse (after_first is_question target))
  Ok (record { channel = names.0; rendition = names.1.0; what = names.1.1; awaited = directives.0; skip = directives.1 })

-- the status of the answer
abbrev pub status_of : TargetFault → ℕ
status_of NotFound = 404
status_of Memory = 503
status_of other = 400

abbrev pub fault_name : TargetFault → List ℕ
fault_name BadTarget = codes "BadTarget"
fault_name NotFound = codes "NotFound"
fault_name BadMsn = codes "BadMsn"
fault_name BadPart = codes "BadPart"
fault_name BadSkip = codes "BadSkip"
fault_name Double = codes "Double"
fault_name PartAlone = codes "PartAlone"
fault_name Memory = codes "Memory"
