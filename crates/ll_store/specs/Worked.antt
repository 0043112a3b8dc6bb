-- Worked examples of the definitions: the media of a small channel.
use Rattle.std.specs.Prelude.{◌≡◌, ℕ, List, [], ◌∷◌, ◌++◌, Bool, true, false, Some, None, codes}
use Rattle.ll_settings.specs.Settings.{Configuration}
use Rattle.ll_item.specs.declared.item.Item.{Item}
use Rattle.ll_item.specs.declared.item.Item.TheVariants as item
use Rattle.ll_store.specs.Media.{media}
use Rattle.ll_item.specs.declared.what.What.TheVariants as what

abbrev pub settings : Configuration
settings = record {
  channel = codes "cam";
  target = 4;
  part_target = 1000000;
  skip = 24;
  window = 36;
  renditions = codes "hi" ∷ [];
  first = 7;
  start = 0;
}

abbrev pub section : List ℕ → Item
section bytes = item.Init 0 bytes

abbrev part_item : ℕ → Bool → List ℕ → Item
part_item duration finish bytes =
    item.Part (record { rendition = 0; duration = duration; independent = false; finish = finish; media = bytes })

abbrev pub part : List ℕ → Item
part bytes = part_item 1000000 false bytes

abbrev pub last_part : List ℕ → Item
last_part bytes = part_item 1000000 true bytes

-- a segment of one part that lasts forty seconds, so that no earlier segment stays in the window
abbrev pub long : List ℕ → Item
long bytes = part_item 40000000 true bytes

abbrev pub a_break : Item
a_break = item.Break 0 None

abbrev pub end : Item
end = item.End 0

abbrev pub begun : List Item
begun = section (97 ∷ 98 ∷ []) ∷ part (1 ∷ []) ∷ []

abbrev pub one_segment : List Item
one_segment = begun ++ last_part (2 ∷ 3 ∷ []) ∷ []

abbrev pub broken : List Item
broken = one_segment ++ a_break ∷ section (99 ∷ []) ∷ section (100 ∷ []) ∷ part (4 ∷ []) ∷ []

abbrev pub gone : List Item
gone = one_segment ++ long (5 ∷ []) ∷ long (6 ∷ []) ∷ []

pub record WorkedMedia : Type 0 where
  pub its_section : media settings begun (what.Init 0) ≡ Some (97 ∷ 98 ∷ [])
  pub no_section : media settings begun (what.Init 1) ≡ None
  pub open_part : media settings begun (what.Part 7 0) ≡ Some (1 ∷ [])
  pub no_part_yet : media settings begun (what.Part 7 1) ≡ None
  pub no_segment_yet : media settings begun (what.Segment 7) ≡ None
  pub before_the_first : media settings begun (what.Part 6 0) ≡ None
  pub whole : media settings one_segment (what.Segment 7) ≡ Some (1 ∷ 2 ∷ 3 ∷ [])
  pub finished_part : media settings one_segment (what.Part 7 1) ≡ Some (2 ∷ 3 ∷ [])
  pub next_part : media settings one_segment (what.Part 8 0) ≡ None
  pub after_a_break : media settings broken (what.Init 1) ≡ Some (100 ∷ [])
  pub still_in_force : media settings broken (what.Init 0) ≡ Some (97 ∷ 98 ∷ [])
  pub part_after_a_break : media settings broken (what.Part 8 0) ≡ Some (4 ∷ [])
  pub given_up : media settings gone (what.Segment 7) ≡ None
  pub part_given_up : media settings gone (what.Part 7 0) ≡ None
  pub the_last : media settings gone (what.Segment 9) ≡ Some (6 ∷ [])
  pub ended : media settings (begun ++ end ∷ []) (what.Segment 7) ≡ Some (1 ∷ [])
