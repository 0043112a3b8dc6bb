-- The entries of a record, in each format: each has one event of a channel, and the outcome of its reply if there was one.
use Rattle.std.specs.Prelude.{ℕ, List, [], ◌∷◌, ◌&&◌, ◌||◌, Bool, true, false, Option, Some, None, Result, Ok, Err, codes, if◌then◌else◌, is_some}
use Rattle.ll_attr.specs.Words.{after, words}
use Rattle.ll_directive.specs.Targets.{WantValue, media_want}
use Rattle.ll_directive.specs.declared.want.Awaited.{Awaited}
use Rattle.ll_format.specs.Format.{Format, Word, ◌>>=◌, to_end, up_to}
use Rattle.ll_format.specs.Words.{number}
use Rattle.ll_item.specs.Announced.{cut_last}
use Rattle.ll_item.specs.Items.{item_in}
use Rattle.ll_item.specs.Media.{media_limit, zeros}
use Rattle.ll_settings.specs.Names.{is_name}
use Rattle.ll_settings.specs.Settings.{Configuration}
use Rattle.ll_item.specs.declared.item.Item.{Item}
use Rattle.ll_item.specs.declared.skip_kind.SkipKind.{SkipKind}
use Rattle.ll_item.specs.declared.item.ItemFault.{ItemFault}
use Rattle.ll_item.specs.declared.item.ItemFault.TheVariants as item
use Rattle.ll_item.specs.declared.what.What.{What}
use Rattle.ll_item.specs.declared.what.What.TheVariants as what
use Rattle.ll_verdict.specs.declared.reply.Outcome.{Outcome}
use Rattle.ll_entry.specs.Replies.{asked_for, awaited_of, count, file, name, or_dash, or_held, outcome, spaced, update, with_key}
use Rattle.ll_entry.specs.declared.entry.EntryFault.{EntryFault}
use Rattle.ll_entry.specs.declared.entry.EntryFault.TheVariants.{BadLine, Refused, Memory}
use Rattle.ll_entry.specs.declared.entry.Recorded.{Recorded}
use Rattle.ll_entry.specs.declared.entry.Recorded.TheVariants.{Publish, Ask, Clock, Collect, Close}
use Rattle.ll_entry.specs.declared.version.Version.{Version}
use Rattle.ll_entry.specs.declared.version.Version.TheVariants.{One, Two}

-- `SKIP REPLY`
abbrev pub reply_fields : Version → Format (Option SkipKind × Option Outcome)
reply_fields version = spaced (up_to 32 update) (to_end (or_held version))

-- `MSN PART SKIP REPLY`
abbrev pub place_fields : Version → Format (Option ℕ × (Option ℕ × (Option SkipKind × Option Outcome)))
place_fields version = spaced (up_to 32 (or_dash count)) (spaced (up_to 32 (or_dash count)) (reply_fields version))

-- `ASK RENDITION MSN PART SKIP REPLY`: the number of a request for a playlist, the name of a rendition, what is awaited of it, which
-- playlist is asked for, and the outcome at once
abbrev pub ask_fields : Version → Format (ℕ × (List ℕ × (Option ℕ × (Option ℕ × (Option SkipKind × Option Outcome)))))
ask_fields version = spaced (up_to 32 count) (spaced (up_to 32 name) (place_fields version))

-- `FILE REPLY`
abbrev pub file_fields : Format (What × Option Outcome)
file_fields = spaced (up_to 32 file) (to_end (or_held Two))

-- `ASK RENDITION FILE REPLY`: the number of a request for media, the name of a rendition, that of a file, and the outcome at once
abbrev pub media_fields : Format (ℕ × (List ℕ × (What × Option Outcome)))
media_fields = spaced (up_to 32 count) (spaced (up_to 32 name) file_fields)

-- `ASK REPLY`
abbrev pub collect_fields : Version → Format (ℕ × Outcome)
collect_fields version = spaced (up_to 32 count) (to_end (outcome version))

-- this request, if the names of the channel and of the rendition have a name's form
abbrev pub where_named : Configuration → List ℕ → WantValue → Option WantValue
where_named c rendition want = if is_name c.channel && is_name rendition then Some want else None

-- a request for a playlist of a rendition of the channel of these settings
abbrev pub want_by : Configuration → List ℕ → Option SkipKind → Awaited → Option WantValue
want_by c rendition skip awaited =
    where_named c rendition (record { channel = c.channel; rendition = rendition; what = what.Playlist; awaited = awaited; skip = skip })

abbrev pub ask_of : Version → Configuration → (ℕ × (List ℕ × (Option ℕ × (Option ℕ × (Option SkipKind × Option Outcome))))) × List ℕ → Option Recorded
ask_of version c ((ask, (rendition, (msn, (part, (skip, reply))))), rest) =
    awaited_of msn part >>= want_by c rendition (asked_for version skip) >>= λ want. Some (Ask ask want reply)

abbrev pub media_of : Configuration → (ℕ × (List ℕ × (What × Option Outcome))) × List ℕ → Option Recorded
media_of c ((ask, (rendition, (what, reply))), rest) =
    where_named c rendition (media_want c.channel rendition what) >>= λ want. Some (Ask ask want reply)

abbrev pub collect_of : (ℕ × Outcome) × List ℕ → Option Recorded
collect_of ((ask, outcome), rest) = Some (Collect ask outcome)

abbrev pub entry_by : Option Recorded → Result Recorded EntryFault
entry_by None = Err BadLine
entry_by (Some entry) = Ok entry

abbrev pub fault_of : ItemFault → EntryFault
fault_of item.BadLine = BadLine
fault_of item.NoRendition = Refused
fault_of item.BadAttribute = Refused
fault_of item.Memory = Memory

abbrev pub published : Result Item ItemFault → Result Recorded EntryFault
published (Ok item) = Ok (Publish item)
published (Err fault) = Err (fault_of fault)

-- whether the line of an item is a part's, or an initialization section's
abbrev pub is_part_line : List ℕ → Bool
is_part_line text = is_some (after (codes "part ") text)

abbrev pub is_init_line : List ℕ → Bool
is_init_line text = is_some (after (codes "init ") text)

abbrev pub is_finish_line : List ℕ → Bool
is_finish_line text = is_some (after (codes "finish ") text)

-- whether there is a word after the first
abbrev pub has_more : List (List ℕ) → Bool
has_more [] = false
has_more (word ∷ []) = false
has_more (word ∷ next ∷ more) = true

-- whether a break has more words than the name of its rendition
abbrev pub has_time : Option (List ℕ) → Bool
has_time None = false
has_time (Some text) = has_more (words text)

abbrev pub is_timed_break : List ℕ → Bool
is_timed_break text = has_time (after (codes "break ") text)

-- the number of an item's bytes, without leading zeros
abbrev pub media : Word ℕ
media = number media_limit

abbrev pub measured : List ℕ × List ℕ → Option (List ℕ × ℕ)
measured (text, word) = media.read word >>= λ n. Some (text, n)

-- an item's line and the number of its bytes, if this follows it
abbrev pub counted : List ℕ → Option (List ℕ × ℕ)
counted text = cut_last text >>= measured

-- The line of an item in an entry, and the number of its bytes. In format 2 this number follows the line of a part and of an initialization
-- section; format 1 has no initialization sections, no finishes and no breaks that set a time, and no bytes of parts.
abbrev pub item_text : Version → List ℕ → Option (List ℕ × ℕ)
item_text One text = if is_init_line text || is_finish_line text || is_timed_break text then None else Some (text, 0)
item_text Two text = if is_part_line text || is_init_line text then counted text else Some (text, 0)

-- an item of this number of bytes, in place of which it has zeros
abbrev pub publish_by : Configuration → Option (List ℕ × ℕ) → Result Recorded EntryFault
publish_by c None = Err BadLine
publish_by c (Some (text, n)) = published (item_in c text (zeros n))

-- `C MILLISECONDS`, `G ASK REPLY` or `X ASK`
abbrev pub short_in : Version → List ℕ → Option Recorded
short_in version line =
    with_key (after (codes "C ") line) (λ text. count.read text >>= λ ms. Some (Clock ms))
    (with_key (after (codes "G ") line) (λ text. (collect_fields version).read text >>= collect_of)
    (with_key (after (codes "X ") line) (λ text. count.read text >>= λ ask. Some (Close ask)) None))

-- `ASK RENDITION MSN PART SKIP REPLY`
abbrev pub ask_in : Version → Configuration → List ℕ → Option Recorded
ask_in version c text = (ask_fields version).read text >>= ask_of version c

-- `ASK RENDITION FILE REPLY`: format 1 has no requests for media
abbrev pub media_in : Version → Configuration → List ℕ → Option Recorded
media_in One c text = None
media_in Two c text = media_fields.read text >>= media_of c

-- the entry that a line of a channel's record in this format spells, or what is wrong with it:
-- `P ITEM`, `A ASK RENDITION MSN PART SKIP REPLY`, `M ASK RENDITION FILE REPLY`, `C MILLISECONDS`, `G ASK REPLY` or `X ASK`
abbrev pub entry_in : Version → Configuration → List ℕ → Result Recorded EntryFault
entry_in version c line =
    with_key (after (codes "P ") line) (λ text. publish_by c (item_text version text))
    (with_key (after (codes "A ") line) (λ text. entry_by (ask_in version c text))
    (with_key (after (codes "M ") line) (λ text. entry_by (media_in version c text)) (entry_by (short_in version line))))
