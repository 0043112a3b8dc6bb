-- A record that was handed out.
use Rattle.std.specs.Prelude.{◌≡◌, ◌+◌, ℕ, List, [], Option, Some, true, take}
use Rattle.ll_entry.specs.Blank.{blank_events}
use Rattle.ll_entry.specs.Chain.{Chain, entries, is_channel}
use Rattle.ll_entry.specs.Leads.{IsChunkOf, chain_of, chunk_text}
use Rattle.ll_verdict.specs.Events.{Event}
use Rattle.ll_record.specs.Recording.{Recording}

pub record ChunkValue : Type 0 where
  pub text : List ℕ
  -- the number of its entries
  pub entries : ℕ

-- the chunk of a record
pub record IsChunk (r : Recording) (k : ChunkValue) : Type 0 where
  pub text : k.text ≡ chunk_text r.room.settings r.at r.lines
  pub entries : r.at + k.entries ≡ r.room.events

-- The chunk of a record is right after a chain with the events before the record; with it the chain has all of these events, with zeros in
-- place of bytes. If the record is the first of its channel, it is also right after any chains of the channel, of an earlier start of the
-- program.
pub record IsFaithful (r : Recording) (events : List Event) (k : ChunkValue) : Type 0 where
  pub goes_on : (ch : Chain) → ch.events ≡ blank_events (take r.at events) → ch.settings ≡ r.room.settings
      → IsChunkOf (Some ch) k.text (chain_of r.room.settings ch.earlier (blank_events events))
  pub begins : r.at ≡ 0 → (before : Option Chain) → is_channel before r.room.settings ≡ true
      → IsChunkOf before k.text (chain_of r.room.settings (entries before) (blank_events events))

-- the record begins anew, after all events so far
abbrev pub emptied : Recording → Recording
emptied r = record r { at = r.room.events; lines = []; calls = 0 }
