-- The text of a chunk, and what a check makes of it.
use Rattle.std.proofs.Common.{◌≡◌, ℕ, ◌+◌, ◌≤◌, ◌^◌, List, [], ◌∷◌, ◌++◌, Some, None, true, ap, ◌∙◌, sym, subst, codes, length, take, arith}
use Rattle.std.proofs.lemmas.List.{length-map, length-take-le}
use Rattle.std.proofs.lemmas.Slice.Eq.{bytes_eq-Decides}
use Rattle.std.specs.Str.{is_utf8}
use Rattle.ll_entry.specs.Blank.{blank_event, blank_events}
use Rattle.ll_entry.specs.Chain.{Chain, entries, is_channel}
use Rattle.ll_entry.specs.Replies.{most}
use Rattle.ll_settings.specs.Settings.{Configuration, limit_broken}
use Rattle.ll_entry.proofs.ChunkProof.{chunk, first-chunk}
use Rattle.ll_entry.specs.Leads.{IsChunkOf, IsLed, chain_of, chunk_text}
use Rattle.ll_entry.specs.Frame.{header_text, last_line}
use Rattle.ll_entry.specs.declared.version.Version.TheVariants.{Two}
use Rattle.ll_room.specs.RoomValue.{RoomValue}
use Rattle.ll_entry.specs.SettingsLine.{settings_line}
use Rattle.ll_verdict.specs.Events.{Event}
use Rattle.ll_record.specs.Chunk.{ChunkValue, IsFaithful}
use Rattle.ll_record.specs.Recording.{IsRecorded, Recording}

pub chunk-is : (c : Configuration) (at : ℕ) (lines header settings : List ℕ) → header ≡ header_text Two settings at → settings ≡ settings_line c
    → header ++ (lines ++ (last_line ++ codes "\n")) ≡ chunk_text c at lines
unfolding chunk_text
chunk-is c at lines header settings e s = ap (λ t. t ++ (lines ++ (last_line ++ codes "\n"))) (e ∙ ap (λ t. header_text Two t at) s)

small : (at n m : ℕ) → at ≤ n → m ≡ n → m ≤ 2 ^ 61 → at ≤ most
small at n m a e h = omega (arith, a, e, h)

-- a chain of these settings is of their channel
its_channel : (ch : Chain) (c : Configuration) → ch.settings ≡ c → is_channel (Some ch) c ≡ true
its_channel ch c is = (bytes_eq-Decides ch.settings.channel c.channel).1 (ap (λ (x : Configuration). x.channel) is)

none_more : (n m : ℕ) → m ≡ 0 → n + m ≡ n
none_more n m e = omega (arith, e)

-- A chunk goes on with a chain of these events; if there are none, it begins another one after the same entries.
goes_on : (c : Configuration) (ch : Chain) (events after : List Event) (lines : List ℕ) → limit_broken c ≡ None → is_utf8 (settings_line c) ≡ true
    → length events ≤ most → IsLed c events lines after → ch.events ≡ events → ch.settings ≡ c
    → IsChunkOf (Some ch) (chunk_text c (length events) lines) (chain_of c ch.earlier after)
goes_on c ch [] after lines within utf8 few led are is =
    subst (λ n. IsChunkOf (Some ch) (chunk_text c 0 lines) (chain_of c n after)) (none_more ch.earlier (length ch.events) (ap length are))
    (first-chunk c (Some ch) after lines within utf8 (its_channel ch c is) led)
goes_on c ch (e ∷ events) after lines within utf8 few led are is =
    subst (λ (es : List Event). IsChunkOf (Some ch) (chunk_text c (length es) lines) (chain_of c ch.earlier after)) are
    (chunk c ch after lines within utf8 (subst (λ (es : List Event). length es ≤ most) (sym are) few)
    (subst (λ (es : List Event). 1 ≤ length es) (sym are) (omega arith)) (subst (λ es. IsLed c es lines after) (sym are) led) is)

faithful_at : (r : Recording) (k : ChunkValue) → limit_broken r.room.settings ≡ None → is_utf8 (settings_line r.room.settings) ≡ true → r.room.events ≤ 2 ^ 61
    → k.text ≡ chunk_text r.room.settings r.at r.lines → (events : List Event) → IsRecorded r events → IsFaithful r events k
faithful_at r k within utf8 few text events s =
    let c = r.room.settings in
    let first = blank_events (take r.at events) in
    let at : length first ≡ r.at = length-map (take r.at events) blank_event ∙ length-take-le r.at events s.early in
    let events_are : r.room.events ≡ length events = ap (λ (h : RoomValue). h.events) s.stands in
    let early : r.at ≤ most = small r.at (length events) r.room.events s.early events_are few in
    record {
      goes_on = λ ch are is.
          subst (λ t. IsChunkOf (Some ch) t (chain_of c ch.earlier (blank_events events))) (ap (λ n. chunk_text c n r.lines) at ∙ sym text)
          (goes_on c ch first (blank_events events) r.lines within utf8 (subst (λ n. n ≤ most) (sym at) early) s.led are is);
      begins = λ none before of.
          subst (λ t. IsChunkOf before t (chain_of c (entries before) (blank_events events))) (ap (λ n. chunk_text c n r.lines) (sym none) ∙ sym text)
          (first-chunk c before (blank_events events) r.lines within utf8 of
          (subst (λ n. IsLed c (blank_events (take n events)) r.lines (blank_events events)) none s.led));
    }

pub faithful : (r now : Recording) (k : ChunkValue) → r ≡ now → limit_broken r.room.settings ≡ None → is_utf8 (settings_line r.room.settings) ≡ true
    → r.room.events ≤ 2 ^ 61 → k.text ≡ chunk_text r.room.settings r.at r.lines → (events : List Event) → IsRecorded now events → IsFaithful now events k
faithful r now k is within utf8 few text =
    subst (λ (x : Recording). (events : List Event) → IsRecorded x events → IsFaithful x events k) is (faithful_at r k within utf8 few text)
