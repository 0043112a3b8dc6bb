-- How the entries of a record are spelled, in the format that is written.
use Rattle.std.specs.Prelude.{◌≡◌, ◌≤◌, ℕ, List, ◌++◌, Bool, true, false, Option, Some, None, codes, decimal}
use Rattle.ll_directive.specs.Files.{is_playlist}
use Rattle.ll_directive.specs.Targets.{IsPlain, WantValue}
use Rattle.ll_directive.specs.declared.want.Awaited.{Awaited}
use Rattle.ll_directive.specs.declared.want.Awaited.TheVariants.{Nothing, Segment, Part}
use Rattle.ll_settings.specs.Names.{is_name}
use Rattle.ll_settings.specs.Settings.{Configuration}
use Rattle.ll_item.specs.declared.skip_kind.SkipKind.{SkipKind}
use Rattle.ll_entry.specs.ItemLaws.{IsWritable}
use Rattle.ll_item.specs.ItemLines.{published_line}
use Rattle.ll_item.specs.declared.what.What.{What}
use Rattle.ll_item.specs.declared.what.What.TheVariants as what
use Rattle.ll_verdict.specs.declared.reply.Outcome.{Outcome}
use Rattle.ll_entry.specs.Entries.{ask_fields, collect_fields, media_fields}
use Rattle.ll_entry.specs.Replies.{FileWithin, HeldWithin, OutcomeWithin, most}
use Rattle.ll_entry.specs.declared.entry.Recorded.{Recorded}
use Rattle.ll_entry.specs.declared.entry.Recorded.TheVariants.{Publish, Ask, Clock, Collect, Close}
use Rattle.ll_entry.specs.declared.version.Version.TheVariants.{Two}

abbrev pub msn_of : Awaited → Option ℕ
msn_of Nothing = None
msn_of (Segment msn) = Some msn
msn_of (Part msn part) = Some msn

abbrev pub part_of : Awaited → Option ℕ
part_of Nothing = None
part_of (Segment msn) = None
part_of (Part msn part) = Some part

-- the fields of the line of a request for a playlist
abbrev pub ask_values : ℕ → WantValue → Option Outcome → ℕ × (List ℕ × (Option ℕ × (Option ℕ × (Option SkipKind × Option Outcome))))
ask_values ask want reply = (ask, (want.rendition, (msn_of want.awaited, (part_of want.awaited, (want.skip, reply)))))

-- the fields of the line of a request for media
abbrev pub media_values : ℕ → WantValue → Option Outcome → ℕ × (List ℕ × (What × Option Outcome))
media_values ask want reply = (ask, (want.rendition, (want.what, reply)))

-- the line of a request: for a playlist, or for media
abbrev pub asked_line : Bool → ℕ → WantValue → Option Outcome → List ℕ
asked_line true ask want reply = codes "A " ++ (ask_fields Two).print (ask_values ask want reply)
asked_line false ask want reply = codes "M " ++ media_fields.print (media_values ask want reply)

-- the line that spells an entry of the record of a channel
abbrev pub entry_line : Configuration → Recorded → List ℕ
entry_line c (Publish item) = codes "P " ++ published_line c item
entry_line c (Ask ask want reply) = asked_line (is_playlist want.what) ask want reply
entry_line c (Clock ms) = codes "C " ++ decimal ms
entry_line c (Collect ask reply) = codes "G " ++ (collect_fields Two).print (ask, reply)
entry_line c (Close ask) = codes "X " ++ decimal ask

abbrev pub AwaitedWithin : Awaited → Type 0
AwaitedWithin Nothing = Unit
AwaitedWithin (Segment msn) = msn ≤ most
AwaitedWithin (Part msn part) = (msn ≤ most) × (part ≤ most)

-- a playlist, or a file of media with a name that is read again
abbrev pub WhatWithin : What → Type 0
WhatWithin what.Playlist = Unit
WhatWithin (what.Segment number) = FileWithin (what.Segment number)
WhatWithin (what.Part number index) = FileWithin (what.Part number index)
WhatWithin (what.Init number) = FileWithin (what.Init number)

-- a request of this channel, of which the name is a name, the numbers are below 2^64, and one for media has no directives
abbrev pub WantWithin : Configuration → WantValue → Type 0
WantWithin c want =
    (want.channel ≡ c.channel) × (is_name want.rendition ≡ true) × AwaitedWithin want.awaited × WhatWithin want.what × IsPlain want

-- the entries that are read again: the numbers are below 2^64, and the names are names
abbrev pub IsSpelled : Configuration → Recorded → Type 0
IsSpelled c (Publish item) = IsWritable c item
IsSpelled c (Ask ask want reply) = (ask ≤ most) × WantWithin c want × HeldWithin Two reply
IsSpelled c (Clock ms) = ms ≤ most
IsSpelled c (Collect ask reply) = (ask ≤ most) × OutcomeWithin Two reply
IsSpelled c (Close ask) = ask ≤ most
