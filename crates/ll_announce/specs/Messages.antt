-- The messages to an origin: for one item its line, which for some items is followed by bytes and LF; and the line that asks where a
-- rendition stands.
use Rattle.std.specs.Prelude.{ℕ, List, [], ◌∷◌, ◌++◌, codes, length, Option}
use Rattle.ll_item.specs.ItemLines.{break_text, counted_line, end_line, finish_line, init_line, part_line}
use Rattle.ll_item.specs.Items.{flags_text}
use Rattle.ll_parts.specs.declared.pieces.MediaPart.{MediaPart}
use Rattle.ll_announce.specs.declared.said.Said.{Said}
use Rattle.ll_announce.specs.declared.said.Said.TheVariants as said

-- the names of a channel and of one of its renditions
pub record Names : Type 0 where
  pub channel : List ℕ
  pub rendition : List ℕ

-- a message's bytes, and what it announces
pub record MessageValue : Type 0 where
  pub bytes : List ℕ
  pub said : Said

-- a line for a channel, without its end
unfoldable pub sent_line : List ℕ → List ℕ → List ℕ
sent_line channel line = channel ++ (codes " " ++ line)

-- an item's line with the number of its bytes, and then these, with LF after each of the two
abbrev pub item_text : List ℕ → List ℕ → List ℕ → List ℕ
item_text channel line bytes = sent_line channel (counted_line line (length bytes)) ++ 10 ∷ (bytes ++ 10 ∷ [])

-- a line that no bytes follow
abbrev pub bare_text : List ℕ → List ℕ → List ℕ
bare_text channel line = sent_line channel line ++ 10 ∷ []

-- `at RENDITION`
unfoldable pub at_line : List ℕ → List ℕ
at_line rendition = codes "at " ++ rendition

-- the line that asks where a rendition stands
abbrev pub question : Names → List ℕ
question names = bare_text names.channel (at_line names.rendition)

-- ---- the messages of items

abbrev pub init_message : Names → List ℕ → MessageValue
init_message names section = record { bytes = item_text names.channel (init_line names.rendition) section; said = said.Init }

abbrev pub part_message : Names → MediaPart → MessageValue
part_message names part = record {
  bytes = item_text names.channel (part_line names.rendition part.duration (flags_text part.independent part.finishes)) part.bytes;
  said = said.Part part.duration part.finishes;
}

abbrev pub finish_message : Names → MessageValue
finish_message names = record { bytes = bare_text names.channel (finish_line names.rendition); said = said.Finish }

abbrev pub break_message : Names → Option ℕ → MessageValue
break_message names time = record { bytes = bare_text names.channel (break_text names.rendition time); said = said.Break time }

abbrev pub end_message : Names → MessageValue
end_message names = record { bytes = bare_text names.channel (end_line names.rendition); said = said.End }
