-- Worked examples: items of two renditions in two orders, and the replies to requests at two origins.
use Rattle.std.specs.Prelude.{◌≡◌, ℕ, ◌+◌, List, [], ◌∷◌, true, false, None, Some, codes, length, slice_get}
use Rattle.ll_directive.specs.Targets.{WantValue}
use Rattle.ll_directive.specs.declared.want.Awaited.TheVariants as awaited
use Rattle.ll_item.specs.declared.item.Item.{Item}
use Rattle.ll_item.specs.declared.item.Item.TheVariants as item
use Rattle.ll_item.specs.declared.what.What.TheVariants as what
use Rattle.ll_line.specs.Line.{Report}
use Rattle.ll_page.specs.Full.{reports_of}
use Rattle.ll_pieces.specs.View.{seen}
use Rattle.ll_settings.specs.Settings.{Configuration}
use Rattle.ll_store.specs.Media.{media}
use Rattle.ll_verdict.specs.Events.{Event, Publish, Ask, Close, Clock, items}
use Rattle.ll_verdict.specs.Verdict.{Pending, held, page_of, reply}
use Rattle.ll_verdict.specs.declared.reply.Settled.TheVariants.{Media, Text}
use Rattle.ll_verdict.specs.declared.wanted.Wanted.{Wanted}
use Rattle.ll_window.specs.Segments.{own}
use Rattle.ll_twin_laws.specs.Laws.{lasts, unreported}
use Rattle.ll_twin_laws.specs.Own.{page_lines}

-- two renditions, a target duration of 4 s and a part target of 1 s; the first segments have number 7
abbrev pub two_renditions : Configuration
two_renditions = record {
  channel = codes "cam";
  target = 4;
  part_target = 1000000;
  skip = 24;
  window = 36;
  renditions = codes "lo" ∷ codes "hi" ∷ [];
  first = 7;
  start = 0;
}

-- a part of a second with this one byte
abbrev pub part : ℕ → ℕ → Item
part rendition byte =
    item.Part (record { rendition = rendition; duration = 1000000; independent = true; finish = false; media = byte ∷ [] })

-- two parts of `lo` and one of `hi`, in two orders, and a second part of `hi`
abbrev pub in_turn : List Item
in_turn = part 0 1 ∷ part 1 2 ∷ part 0 3 ∷ []

abbrev pub in_line : List Item
in_line = part 1 2 ∷ part 0 1 ∷ part 0 3 ∷ []

abbrev pub with_more : List Item
with_more = part 0 1 ∷ part 1 2 ∷ part 0 3 ∷ part 1 4 ∷ []

abbrev pub report_of_hi : ℕ → List Report
report_of_hi index = (record { uri = codes "../hi/live.m3u8"; number = 7; index = index }) ∷ []

-- a request for the playlist of `lo` with its second part
abbrev pub want : WantValue
want = record { channel = codes "cam"; rendition = codes "lo"; what = what.Playlist; awaited = awaited.Part 7 1; skip = None }

abbrev pub wanted : Wanted
wanted = record { rendition = 0; what = what.Playlist; awaited = awaited.Part 7 1; form = None }

-- it is the first request, or comes after one that is closed; the clock is read at other times; and one more item has come
abbrev pub some_events : List Event
some_events = Publish (part 0 1) ∷ Ask want ∷ Clock 700 ∷ Publish (part 1 2) ∷ Publish (part 0 3) ∷ []

abbrev pub other_events : List Event
other_events = Ask want ∷ Clock 300 ∷ Publish (part 0 1) ∷ Publish (part 1 2) ∷ Ask want ∷ Close 1 ∷ Publish (part 0 3) ∷ Clock 900 ∷ Publish (part 1 4) ∷ []

abbrev pub some_request : Pending
some_request = record { ticket = 1; wanted = wanted; before = Publish (part 0 1) ∷ [] }

abbrev pub other_request : Pending
other_request = record { ticket = 2; wanted = wanted; before = Ask want ∷ Clock 300 ∷ Publish (part 0 1) ∷ Publish (part 1 2) ∷ [] }

pub record WorkedTwins : Type 0 where
  -- the items of `lo`
  pub own_in_turn : own 0 in_turn ≡ part 0 1 ∷ part 0 3 ∷ []
  pub own_in_line : own 0 in_line ≡ part 0 1 ∷ part 0 3 ∷ []
  pub own_with_more : own 0 with_more ≡ part 0 1 ∷ part 0 3 ∷ []
  -- the last parts
  pub lasts_in_turn : lasts two_renditions in_turn ≡ Some (record { number = 7; index = 1 }) ∷ Some (record { number = 7; index = 0 }) ∷ []
  pub lasts_in_line : lasts two_renditions in_line ≡ Some (record { number = 7; index = 1 }) ∷ Some (record { number = 7; index = 0 }) ∷ []
  pub lasts_with_more : lasts two_renditions with_more ≡ Some (record { number = 7; index = 1 }) ∷ Some (record { number = 7; index = 1 }) ∷ []
  -- the reports differ with them
  pub report : reports_of (seen two_renditions in_line 0) ≡ report_of_hi 0
  pub other_report : reports_of (seen two_renditions with_more 0) ≡ report_of_hi 1
  pub media : media two_renditions (own 0 in_line) (what.Part 7 1) ≡ Some (3 ∷ [])
  -- both requests have to wait, and get one reply
  pub accepted : items two_renditions some_events ≡ in_turn
  pub others_accepted : items two_renditions other_events ≡ with_more
  pub waits : slice_get (held two_renditions some_events) 0 ≡ Some some_request
  pub also_waits : slice_get (held two_renditions other_events) 1 ≡ Some other_request
  pub got : reply two_renditions some_events some_request ≡ Some (Text (page_of two_renditions in_turn wanted))
  pub also_got : reply two_renditions other_events other_request ≡ Some (Text (page_of two_renditions in_turn wanted))

-- ---- two orders, of which none is the beginning of the other

-- the part of `hi` comes before the second of `lo`, as above, or after it
abbrev pub late : List Item
late = part 0 1 ∷ part 0 3 ∷ part 1 2 ∷ []

-- the items at which the requests are answered then
abbrev pub early : List Item
early = part 0 1 ∷ part 0 3 ∷ []

-- a request for the second part of `lo`
abbrev pub want_part : WantValue
want_part = record { channel = codes "cam"; rendition = codes "lo"; what = what.Part 7 1; awaited = awaited.Part 7 1; skip = None }

abbrev pub wanted_part : Wanted
wanted_part = record { rendition = 0; what = what.Part 7 1; awaited = awaited.Part 7 1; form = None }

abbrev pub first_events : List Event
first_events = Publish (part 0 1) ∷ Ask want ∷ Ask want_part ∷ Publish (part 1 2) ∷ Publish (part 0 3) ∷ []

abbrev pub second_events : List Event
second_events = Publish (part 0 1) ∷ Ask want ∷ Ask want_part ∷ Publish (part 0 3) ∷ Publish (part 1 2) ∷ []

abbrev pub part_request : Pending
part_request = record { ticket = 2; wanted = wanted_part; before = Publish (part 0 1) ∷ Ask want ∷ [] }

pub record WorkedOrders : Type 0 where
  -- the items, and those of `lo`
  pub accepted : items two_renditions first_events ≡ in_turn
  pub others_accepted : items two_renditions second_events ≡ late
  pub own_in_turn : own 0 in_turn ≡ part 0 1 ∷ part 0 3 ∷ []
  pub own_late : own 0 late ≡ part 0 1 ∷ part 0 3 ∷ []
  -- both requests wait at both
  pub held_requests : held two_renditions first_events ≡ some_request ∷ part_request ∷ []
  pub also_held : held two_renditions second_events ≡ some_request ∷ part_request ∷ []
  -- the playlist of the one has a report of `hi`, that of the other none: else they are the same
  pub got : reply two_renditions first_events some_request ≡ Some (Text (page_of two_renditions in_turn wanted))
  pub also_got : reply two_renditions second_events some_request ≡ Some (Text (page_of two_renditions early wanted))
  pub report : reports_of (seen two_renditions in_turn 0) ≡ report_of_hi 0
  pub no_report : reports_of (seen two_renditions early 0) ≡ []
  pub lines : length (page_lines (page_of two_renditions in_turn wanted)) ≡ length (page_lines (page_of two_renditions early wanted)) + 1
  pub alike : unreported (page_lines (page_of two_renditions in_turn wanted)) ≡ page_lines (page_of two_renditions early wanted)
  -- the part is the same; the one channel had accepted three items, the other two
  pub got_part : reply two_renditions first_events part_request
      ≡ Some (Media (record { bytes = 3 ∷ []; number = 3; rendition = 0; what = what.Part 7 1 }))
  pub also_got_part : reply two_renditions second_events part_request
      ≡ Some (Media (record { bytes = 3 ∷ []; number = 2; rendition = 0; what = what.Part 7 1 }))
