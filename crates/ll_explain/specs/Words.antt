-- An entry in words.
use Rattle.std.specs.Prelude.{◌≡◌, ◌≤◌, ◌⊎◌, ◌||◌, ℕ, List, [], ◌++◌, Bool, true, false, Option, Some, None, Err, codes, decimal, if◌then◌else◌, is_some}
use Rattle.ll_attr.specs.Words.{after}
use Rattle.ll_check.specs.Answer.{answer_line}
use Rattle.ll_entry.specs.Chain.{checked}
use Rattle.ll_entry.specs.declared.fault.CheckFault.{CheckFault}
use Rattle.ll_explain.specs.Explained.{IsExplained}
use Rattle.ll_item.specs.declared.skip_kind.SkipKind.{SkipKind}
use Rattle.ll_item.specs.declared.skip_kind.SkipKind.TheVariants.{Yes, V2}
use Rattle.ll_page.specs.Page.{page_text}
use Rattle.ll_verdict.specs.Outcome.{outcome_of}
use Rattle.ll_verdict.specs.declared.reply.Outcome.{Outcome}
use Rattle.ll_verdict.specs.declared.reply.Outcome.TheVariants.{Text, Media, NotFound, TooFar, Busy, Timeout}
use Rattle.ll_verdict.specs.declared.reply.Reply.{Reply}
use Rattle.ll_verdict.specs.declared.reply.Reply.TheVariants as reply

abbrev pub playlist_words : Option SkipKind → List ℕ
playlist_words None = codes "the full playlist"
playlist_words (Some Yes) = codes "a delta update (YES)"
playlist_words (Some V2) = codes "a delta update (v2)"

-- an outcome in words
unfoldable pub text_words : ℕ → List ℕ → List ℕ
text_words n playlist = playlist ++ (codes " after " ++ (decimal n ++ codes " items"))

unfoldable pub media_words : ℕ → ℕ → List ℕ
media_words n size = codes "media of " ++ (decimal size ++ (codes " bytes after " ++ (decimal n ++ codes " items")))

abbrev pub outcome_words : Outcome → List ℕ
outcome_words (Text n update) = text_words n (playlist_words update)
outcome_words (Media n size) = media_words n size
outcome_words NotFound = codes "NotFound: there is no such rendition or media"
outcome_words TooFar = codes "TooFar: what it awaits is too far ahead"
outcome_words Busy = codes "Busy: as many requests wait as may wait"
outcome_words Timeout = codes "Timeout: what it awaits did not come in time"

-- whether a line is that of a request: for a playlist, or for media
abbrev pub is_ask_line : List ℕ → Bool
is_ask_line line = is_some (after (codes "A ") line) || is_some (after (codes "M ") line)

-- what happens at the entry of a line, before what it gets
abbrev pub event_words : List ℕ → Option Reply → List ℕ
event_words line (Some reply) = if is_ask_line line then codes "a request gets at once " else codes "a request that was held gets "
event_words line None =
    if is_some (after (codes "P ") line) then codes "an item is accepted"
    else if is_ask_line line then codes "a request is held"
    else if is_some (after (codes "C ") line) then codes "the clock is read"
    else codes "a request that was held is given up"

abbrev pub reply_words : Option Reply → List ℕ
reply_words None = []
reply_words (Some reply) = outcome_words (outcome_of reply)

-- the playlist of a reply, after an empty line
abbrev pub playlist_text : Option Reply → List ℕ
playlist_text (Some (reply.Text page)) = codes "\n" ++ page_text page
playlist_text other = []

-- the entry with this number and line, at this time in milliseconds, with its reply
unfoldable pub explained_text : ℕ → ℕ → List ℕ → Option Reply → List ℕ
explained_text entry time line reply =
    codes "entry " ++ (decimal entry ++ (codes ", at " ++ (decimal time ++ (codes " ms: " ++ (line ++ (codes "\n" ++
    (event_words line reply ++ (reply_words reply ++ (codes "\n" ++ playlist_text reply)))))))))

-- what is written of the entry with this number: what the record says of it; or, if the record is wrong before it or at it, the line that
-- says how
abbrev pub IsExplanation : List ℕ → ℕ → Bool → List ℕ → Type 0
IsExplanation bytes entry true text =
    (ms : ℕ) × (line : List ℕ) × (reply : Option Reply) × IsExplained bytes entry ms line reply × (text ≡ explained_text entry ms line reply)
IsExplanation bytes entry false text = (f : CheckFault) × (checked bytes ≡ Err f) × ((entry ≡ 0) ⊎ (f.entry ≤ entry)) × (text ≡ answer_line (Err f))
