-- Where a rendition stands, as a publisher has to know it before it goes on.
use Rattle.std.specs.Prelude.{ℕ, ◌+◌, ◌/◌, List, length}
use Rattle.ll_settings.specs.Settings.{Configuration}
use Rattle.ll_item.specs.Told.{end_time}
use Rattle.ll_item.specs.declared.item.Item.{Item}
use Rattle.ll_rendition.specs.declared.rendition.Rendition.{Rendition}
use Rattle.ll_verdict.specs.declared.standing.Standing.{Standing}
use Rattle.ll_window.specs.Compact.{next_start, compact}
use Rattle.ll_window.specs.Segments.{ended, open_segment, own, segments}

-- the smallest number of whole milliseconds that is no less than `micros` microseconds
abbrev pub millis_up : ℕ → ℕ
millis_up micros = (micros + 999) / 1000

-- where a rendition stands after `items` of its channel: how many these are, the place of the next part, which the hint names, how long all parts of
-- the rendition last, and when the next part begins, which is the earliest time that a break can set
abbrev pub standing : Configuration → List Item → ℕ → Standing
standing c items rendition =
    let its = own rendition items in
    record {
      count = length items;
      number = c.first + length (segments its);
      index = length (open_segment its);
      end_time = end_time its;
      time = millis_up (next_start (compact c its));
      ended = ended its;
    }

-- the same, from what is kept
abbrev pub standing_of : ℕ → Rendition → Standing
standing_of count k = record {
  count = count;
  number = k.window.next_number;
  index = length k.window.open_parts;
  end_time = k.window.end_time;
  time = millis_up (next_start k.window);
  ended = k.window.ended;
}
